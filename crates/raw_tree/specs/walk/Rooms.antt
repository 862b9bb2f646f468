-- Items that are written into a room, which is a list of fixed length.
use Rattle.std.specs.Prelude.{ℕ, suc, zero, List, [], ◌∷◌}

-- the room with these items from this place on, as far as they fit; the rest of the room is unchanged
abbrev pub filled_from : {X : Type 0} → ℕ → List X → List X → List X
filled_from n [] items = []
filled_from (suc n) (x ∷ room) items = x ∷ filled_from n room items
filled_from zero (x ∷ room) [] = x ∷ room
filled_from zero (x ∷ room) (i ∷ items) = i ∷ filled_from zero room items
