use Rattle.std.proofs.Common.{◌-◌, arith}
use Rattle.std.proofs.lemmas.Option.{get_or_from_slice_get}
use Rattle.raw_view.specs.declared.first_document.NoDocument.TheVariants as no
use Rattle.raw_view.proofs.Frames.FirstDocuments.{refused_none, one_first}
use Rattle.raw_view.proofs.Frames.Payloads.{document_found}
use Rattle.raw_view.proofs.document.RawDocument.split_first.Goals as goal

pub framed-requires : goal.framed-requires
framed-requires c =
    rw (c.split_at.ensures.front) (document_found c.args.bytes.now c.in-Ok.len (λ i. omega (arith, c.type_inv.bytes i)) c.in-Ok.ensures.found (omega arith) (omega arith) c.if-bytes-len-ne0.false)

pub returns-then-bytes-len-ne0-clause-refused : goal.returns-then-bytes-len-ne0-clause-refused
returns-then-bytes-len-ne0-clause-refused c =
    let len = c.in-Ok.len in
    (record { header = c.in-Ok.ensures.found; enough = omega arith; within = omega arith }, λ last. c.if-bytes-len-ne0.true (get_or_from_slice_get c.args.bytes.now (len - 1) 0 0 last))

pub returns-then-bytes-len-ne0-clause-none : goal.returns-then-bytes-len-ne0-clause-none
returns-then-bytes-len-ne0-clause-none c = refused_none c.args.bytes.now (no.NotTerminated c.in-Ok.len) (returns-then-bytes-len-ne0-clause-refused c)

pub returns-then-bytes-lt5-clause-one_document : goal.returns-then-bytes-lt5-clause-one_document
returns-then-bytes-lt5-clause-one_document c = one_first

pub returns-in_default-clause-one_document : goal.returns-in_default-clause-one_document
returns-in_default-clause-one_document c = one_first

pub returns-then-len-lt5-clause-one_document : goal.returns-then-len-lt5-clause-one_document
returns-then-len-lt5-clause-one_document c = one_first

pub returns-then-bytes-len-ne0-clause-one_document : goal.returns-then-bytes-len-ne0-clause-one_document
returns-then-bytes-len-ne0-clause-one_document c = one_first

pub returns-clause-one_document : goal.returns-clause-one_document
returns-clause-one_document c = one_first
