use Rattle.std.proofs.Common.{◌≤◌, arith, length}
use Rattle.raw_form.proofs.canonical.Common.{as_document, bytes_of, max_length, read_within}
use Rattle.raw_form.proofs.replacing.Sound.{becomes_read}
use Rattle.raw_form.proofs.replacing.with_replaced_texts.Goals as goal

pub returns-in-Ok-Some-clause-sound : goal.returns-in-Ok-Some-clause-sound
returns-in-Ok-Some-clause-sound c =
    let limits = c.args.limits in
    let made = c.in-Ok-Some.made in
    let told = rw (c.in-Ok-Some.is, c.in-Ok-Some.field-0-is) at c.replaced_to.ensures.made in
    let fits = rw (c.in-Ok-Some.is, c.in-Ok-Some.field-0-is) at c.replaced_to.ensures.fits in
    let short : length made.items ≤ max_length = omega (arith, fits, made.ok.0) in
    let few : length made.items ≤ limits.bytes = omega (arith, c.if-len-limits.true, c.len.ensures, made.ok.0) in
    let (envelope, (pairs, reads)) = becomes_read limits.depth (bytes_of c.args.document) made.items c.args.document.envelope short told.0 in
    (envelope, (_, read_within limits made.items _ few (reads as_document)))
