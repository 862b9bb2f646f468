use Rattle.std.proofs.Common.{◌∙◌, ap}
use Rattle.raw_form.proofs.canonical.Common.{entries, keep, keep-distinct, members}
use Rattle.raw_form.proofs.rewritten.Members.{read_pairs}
use Rattle.raw_form.proofs.rewritten.keys_of.Goals as goal

pub returns-in_default-clause-left : goal.returns-in_default-clause-left
returns-in_default-clause-left c t read =
    let (pairs, rest, same) = read_pairs read in
    let kept = keep-distinct pairs (rw c.in_default.is at (c.in_ok-places.ensures.places pairs rest)) in
    (pairs, rest, ap members same ∙ ap entries kept, c.requires.next)

pub returns-clause-left : goal.returns-clause-left
returns-clause-left c t read =
    let (pairs, rest, same) = read_pairs read in
    rw (c.in_ok-new.ensures.ok) (keep pairs, rw c.in-Some.is at (c.in_ok-places.ensures.places pairs rest), ap members same, c.requires.before)
