-- The document at the front of bytes.
use Rattle.std.proofs.Common.{◌≡◌, ◌-◌, ℕ, List, length, take, Some, arith, ap, ◌∙◌, length-append}
use Rattle.std.proofs.lemmas.Option.{slice_get-get_or}
use Rattle.raw_view.specs.Frame.FirstDocument.{HasNoDocument, OneFirstDocument, RefusesFirst}
use Rattle.raw_view.specs.declared.first_document.NoDocument.{NoDocument}
use Rattle.raw_view.specs.declared.first_document.NoDocument.TheVariants as no
use Rattle.raw_view.proofs.Frames.Decided.{one_length}
use Rattle.raw_view.proofs.Frames.Payloads.{document_front}
use Rattle.raw_view.proofs.Unique.Payloads.{document_same}

-- where a reason is given, no document is at the front
pub refused_none : (s : List ℕ) (why : NoDocument) → RefusesFirst s why → HasNoDocument s
refused_none s no.TooShort short p r e env = absurd (omega (arith, short, ap length e, length-append p r, env.enough))
refused_none s no.LengthIncorrect why p r e env =
    let there = document_front s p r e env in
    why.1 there.0 (record { header = there.1; enough = there.2; within = there.3 })
refused_none s (no.NotTerminated len) why p r e env =
    let there = document_front s p r e env in
    let same : len ≡ there.0 = one_length (take 4 s) there.0 len there.1 why.0.header in
    why.1 (rw same (slice_get-get_or s (there.0 - 1) 0 (omega (arith, there.2, there.3)) ∙ ap Some there.4))

pub one_first : OneFirstDocument
one_first p r q t a b e = document_same p q r t a b e
