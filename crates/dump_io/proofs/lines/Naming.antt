-- The last step of a path gets a key.
use Rattle.std.proofs.Common.{arith, ◌≡◌, ◌+◌, ◌∙◌, ℕ, suc, zero, List, [], ◌∷◌, Option, ap, length, map, slice_index_or, slice_set}
use Rattle.std.specs.Option.{option_copied}
use Rattle.raw_tree.specs.Barriers.{step_of}
use Rattle.raw_tree.specs.Places.{Step}
use Rattle.raw_tree.specs.declared.walk.place.PathStep.{PathStep}
use Rattle.dump_io.specs.lines.Find.{key_or, named_path}

-- the last step is replaced by one of the same number, with its key if it has one, else this key
pub named_set : (steps : List PathStep) (i : ℕ) (key : Option (List ℕ)) (last new : PathStep) → i + 1 ≡ length steps → last ≡ slice_index_or steps i last
    → new.number ≡ last.number → option_copied new.key ≡ key_or (option_copied last.key) key
    → map step_of (slice_set steps i new) ≡ named_path key (map step_of steps)
named_set [] i key last new len is number same = absurd (omega (arith, len))
named_set (s ∷ []) zero key last new len is number same =
    let n : new.number ≡ s.number = number ∙ ap (λ (x : PathStep). x.number) is in
    let k : option_copied new.key ≡ key_or (option_copied s.key) key = same ∙ ap (λ (x : PathStep). key_or (option_copied x.key) key) is in
    λ j. record { number = n j; key = k j } ∷ []
named_set (s ∷ []) (suc i) key last new len is number same = absurd (omega (arith, len))
named_set (s ∷ t ∷ ss) zero key last new len is number same = absurd (omega (arith, len))
named_set (s ∷ t ∷ ss) (suc i) key last new len is number same =
    ap (λ (l : List Step). step_of s ∷ l) (named_set (t ∷ ss) i key last new (omega (arith, len)) is number same)
