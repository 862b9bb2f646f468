-- Which documents of an input are asked for: those from an offset on, without the first few, and no more than a most.
use Rattle.std.specs.Prelude.{◌≡◌, ◌⊎◌, ◌<◌, ◌+◌, ◌∷◌, ℕ, List, [], Option, IfSome, Some, flat_map, length}
use Rattle.dump_io.specs.input.InFront.{IsAllInFront, IsInFront}
use Rattle.dump_io.specs.declared.input.portion.Portion.{Portion}
use Rattle.dump_runs.specs.dumps.Run.{Part, gap, lone, piece, skipped}

-- the documents of a part, at their lengths
abbrev pub documents_of_part : Part → List (List ℕ)
documents_of_part (piece e) = e.bytes ∷ []
documents_of_part (lone a) = a.bytes ∷ []
documents_of_part (gap g) = []
documents_of_part (skipped b) = []

abbrev pub documents_of_parts : List Part → List (List ℕ)
documents_of_parts ps = flat_map documents_of_part ps

-- a part that the command is run over
abbrev pub IsRunOver : Part → Type 0
IsRunOver (piece e) = Unit {0}
IsRunOver (lone a) = Unit {0}
IsRunOver (gap g) = Unit {0}
IsRunOver (skipped b) = ⊥

-- The command is run over each of these parts. `count` documents come before the first of them, and before each fewer than are asked for.
abbrev pub AreAsked : Option ℕ → ℕ → List Part → Type 0
AreAsked take count [] = Unit {0}
AreAsked take count (q ∷ qs) = IsRunOver q × IfSome take (λ n. count < n) × AreAsked take (count + length (documents_of_part q)) qs

-- as many documents are run over as are asked for
abbrev pub IsEnough : Portion → List Part → Type 0
IsEnough p ps = p.take ≡ Some (length (documents_of_parts ps))

-- These parts are one for the bytes before the documents that are asked for, and then those that the command is run over. There are none of
-- these unless that one is all that is before the documents that are asked for.
pub record IsChosen (p : Portion) (most : ℕ) (input : Option (List ℕ)) (front : List ℕ) (ps : List Part) : Type 0 where
  pub in_front : IsInFront p most input front
  pub others : List Part
  pub are : ps ≡ skipped front ∷ others
  pub asked : AreAsked p.take 0 others
  pub behind : IsAllInFront p most input front ⊎ (others ≡ [])
