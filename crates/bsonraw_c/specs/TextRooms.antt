-- Texts in the caller's room as far as they fit, as snprintf puts them. The room is the caller's, before and after.
use Rattle.std.specs.Prelude.{◌≡◌, ◌⊎◌, ◌<◌, ◌-◌, ℕ, List, [], ◌++◌, length, take, drop, min}
use Rattle.bsonraw_c.specs.Overwriting.{overwritten}
use Rattle.bsonraw_c.specs.Texts.{HasText}

-- the greatest number that is returned
abbrev pub most : ℕ
most = 18446744073709551615

-- As much of a text as fits before the last byte of the room is at its front, with a 0 after it, and then comes what stood there. A
-- room of no bytes has nothing.
abbrev pub HasFront : List ℕ → List ℕ → List ℕ → Type 0
HasFront text before after = ((0 < length before) × HasText (take (length before - 1) text) before after) ⊎ ((before ≡ []) × (after ≡ []))

-- and how many bytes the whole text has is returned, or the greatest number where they are more
abbrev pub PutsFront : List ℕ → List ℕ → List ℕ → ℕ → Type 0
PutsFront text before after count = HasFront text before after × (count ≡ min (length text) most)

-- What the code tells of a text that it is putting. No public contract cites what follows.

-- as much of this text as fits is at the front of the room, and then comes what stood there before; the text's bytes are counted
pub record HoldsText (before text room : List ℕ) (count : ℕ) : Type 0 where
  pub room_is : room ≡ take (length before) text ++ drop (length text) before
  pub count_is : count ≡ min (length text) most

-- a part was put after the text that the room holds
pub record Grows (part old : List ℕ) (count : ℕ) (new : List ℕ) (more : ℕ) : Type 0 where
  pub holds : (before text : List ℕ) → HoldsText before text old count → HoldsText before (text ++ part) new more

-- the text that the room holds was ended
pub record Ends (old : List ℕ) (count : ℕ) (new : List ℕ) : Type 0 where
  pub ended : (before text : List ℕ) → HoldsText before text old count → HasFront text before new

-- the room with these bytes from this place on, as far as they fit
abbrev pub laid : List ℕ → ℕ → List ℕ → List ℕ
laid room at bytes = overwritten room at (take (length room - at) bytes)
