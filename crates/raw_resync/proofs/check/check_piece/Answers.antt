use Rattle.std.proofs.Common.{rules, ◌≡◌, ◌+◌, ◌-◌, ◌∙◌, ℕ, List, arith, ap, subst, sym, take, drop}
use Rattle.raw_view.specs.Document.{bytes_of}
use Rattle.raw_view.specs.Frame.Envelope.{IsEnvelope}
use Rattle.raw_resync.specs.Resync.{EndsInKey}
use Rattle.raw_resync.specs.Searches.{IsBegun}
use Rattle.raw_resync.specs.Seeking.{Checks, ProbesOrLeaves}
use Rattle.raw_resync.proofs.Looking.{IsPieceIn, MayCount, cannot_count, if_ok, is_probed}
use Rattle.raw_resync.proofs.check.check_piece.Goals as goal

pub returns-then-not-begins_with_tag-clause-checked : goal.returns-then-not-begins_with_tag-clause-checked
returns-then-not-begins_with_tag-clause-checked c =
    let p = c.args.part in
    let piece : IsPieceIn p.limits p.bytes.now c.args.place c.args.len = record { within = c.requires.1; is = c.requires.2 } in
    let same : c.args.place + c.args.len - c.args.place ≡ c.args.len = omega arith in
    let none : ¬ IsBegun (take (c.args.place + c.args.len - c.args.place) (drop c.args.place p.bytes.now)) = search rules in
    cannot_count piece p.is_last p.at c.args.work.now (λ may. none (subst (λ n. IsBegun (take n (drop c.args.place p.bytes.now))) (sym same) may.begun))

pub returns-then-not-ends_with_zero-clause-checked : goal.returns-then-not-ends_with_zero-clause-checked
returns-then-not-ends_with_zero-clause-checked c =
    let p = c.args.part in
    let piece : IsPieceIn p.limits p.bytes.now c.args.place c.args.len = record { within = c.requires.1; is = c.requires.2 } in
    let same : c.args.place + c.args.len - c.args.place ≡ c.args.len = omega arith in
    cannot_count piece p.is_last p.at c.args.work.now
    (λ may. c.ends_with_zero.ensures c.if-not-ends_with_zero.true (subst (λ n. IsEnvelope (take n (drop c.args.place p.bytes.now))) (sym same) may.envelope))

pub returns-then-ends_in_key-clause-checked : goal.returns-then-ends_in_key-clause-checked
returns-then-ends_in_key-clause-checked c =
    let p = c.args.part in
    let piece : IsPieceIn p.limits p.bytes.now c.args.place c.args.len = record { within = c.requires.1; is = c.requires.2 } in
    let key : EndsInKey (take c.args.place p.bytes.now) = search rules in
    cannot_count piece p.is_last p.at c.args.work.now (λ may. may.alone key)

pub returns-in_default-clause-checked : goal.returns-in_default-clause-checked
returns-in_default-clause-checked c =
    let p = c.args.part in
    let piece : IsPieceIn p.limits p.bytes.now c.args.place c.args.len = record { within = c.requires.1; is = c.requires.2 } in
    let same : c.args.place + c.args.len - c.args.place ≡ c.args.len = omega arith in
    cannot_count piece p.is_last p.at c.args.work.now
    (λ may. let is = c.in_default.ensures.sound.1 (subst (λ n. IsEnvelope (take n (drop c.args.place p.bytes.now))) (sym same) may.envelope) in let impossible : ⊥ = cc in impossible)

pub returns-clause-checked : goal.returns-clause-checked
returns-clause-checked c =
    let p = c.args.part in
    let b : List ℕ = take c.args.len (drop c.args.place p.bytes.now) in
    let piece : IsPieceIn p.limits p.bytes.now c.args.place c.args.len = record { within = c.requires.1; is = c.requires.2 } in
    let size : c.args.place + c.args.len - c.args.place ≡ c.args.len = omega arith in
    let same : bytes_of c.in-Ok.document ≡ b = c.in-Ok.ensures.same ∙ ap (λ n. take n (drop c.args.place p.bytes.now)) size in
    let alone : ¬ EndsInKey (take c.args.place p.bytes.now) = search rules in
    let begun : IsBegun (take (c.args.place + c.args.len - c.args.place) (drop c.args.place p.bytes.now)) = search rules in
    let may : MayCount p.bytes.now c.args.place c.args.len = record {
      long = c.requires.3;
      envelope = subst IsEnvelope same c.in-Ok.document.envelope;
      begun = subst (λ n. IsBegun (take n (drop c.args.place p.bytes.now))) size begun;
      alone = alone;
    } in
    let probes : ProbesOrLeaves p.limits b (p.at + (c.args.place + c.args.len)) c.args.work.now c.probe.new.work c.in_ok-probe.field-0 =
    subst (λ l. ProbesOrLeaves p.limits l (p.at + (c.args.place + c.args.len)) c.args.work.now c.probe.new.work c.in_ok-probe.field-0) same c.in_ok-probe.ensures.probed in
    subst (Checks p.limits p.bytes.now p.is_last p.at c.args.place c.args.work.now c.probe.new.work) (sym c.told.ensures)
    (is_probed piece p.is_last p.at may c.args.work.now c.probe.new.work c.probe.ensures.bounded c.in_ok-probe.field-0 probes)
