-- A document without the elements of one key.
use Rattle.std.specs.Prelude.{◌≡◌, ◌⊎◌, ℕ, List, [], ◌∷◌, cond}
use Rattle.std.specs.Str.{bytes_eq}
use Rattle.raw_bson.specs.Copying.{RefusesElement, TellsStop}
use Rattle.raw_bson.specs.Error.{Error}
use Rattle.raw_bson.specs.Frame.{Frame}

-- a frame of this key is left out, and any other is kept
abbrev pub LeavesOut : List ℕ → Frame → List Frame → Type 0
LeavesOut key f given = given ≡ cond (bytes_eq f.key key) [] (f ∷ [])

-- The walk of b stops, and the error says how. Or memory ran out. Or the copy would be too long, since b has the greatest length, and an
-- element contains its final 0.
abbrev pub RefusesCopy : List ℕ → Error → Type 0
RefusesCopy b e = TellsStop b e ⊎ RefusesElement b e
