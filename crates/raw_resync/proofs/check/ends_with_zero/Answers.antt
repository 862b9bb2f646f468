use Rattle.std.proofs.Common.{rules, ◌≡◌, ◌-◌, ◌∙◌, ℕ, Option, Some, None, length, slice_get, sym}
use Rattle.raw_resync.proofs.Begun.{last_is_zero}
use Rattle.raw_resync.proofs.check.ends_with_zero.Goals as goal

pub returns-in-Some : goal.returns-in-Some
returns-in-Some c isnt envelope =
    let last : slice_get c.args.piece.now (length c.args.piece.now - 1) ≡ Some c.in-Some.byte.now = search rules in
    last_is_zero c.args.piece.now c.in-Some.byte.now last isnt envelope

pub returns-in-None : goal.returns-in-None
returns-in-None c isnt envelope =
    let last : slice_get c.args.piece.now (length c.args.piece.now - 1) ≡ None = search rules in
    let bad : ◌≡◌ {A = Option ℕ} None (Some 0) = sym last ∙ envelope.ended in
    let impossible : ⊥ = cc in
    impossible
