-- The text of a path: for each level the number of an element, and its key. The bytes b are the caller's, and so is the room, before and
-- after.
use Rattle.std.specs.Prelude.{◌≡◌, ◌⊎◌, ◌-◌, ℕ, List, [], ◌∷◌, ◌++◌, Option, None, Some, codes, cond, decimal, drop, flat_map, length, nat_eq, nat_lt, take}
use Rattle.raw_bson.specs.Envelope.{IsEnvelope, Refuses}
use Rattle.raw_bson.specs.Frame.{Done, Stopped}
use Rattle.raw_bson.specs.LookUp.{FindsElementAt, FoundElement, found, missing}
use Rattle.raw_bson.specs.Meaning.{Meaning, Means, array, document, faulty, scoped, single, value}
use Rattle.raw_bson.specs.Reason.{Reason}
use Rattle.raw_form.specs.Places.{Step}
use Rattle.bsonraw_c.specs.Quoting.{quoted}
use Rattle.bsonraw_c.specs.TextRooms.{PutsFront}

-- the level that a value holds, if it holds one: a document, an array or a scope
abbrev pub level_of : Meaning → Option (List ℕ)
level_of (value (single leaf)) = None
level_of (value (document d)) = Some d
level_of (value (array d)) = Some d
level_of (value (scoped code d)) = Some d
level_of (faulty fault) = None

-- the key of what is there: of an element; or of the stop at which the elements end, if it has one
abbrev pub key_of : FoundElement → Option (List ℕ)
key_of (found f) = Some f.key
key_of (missing Done) = None
key_of (missing (Stopped fault key)) = key

-- the level inside what is there, if there is one
abbrev pub HasInside : FoundElement → Option (List ℕ) → Type 0
HasInside (found f) inside = (m : Meaning) × Means f m × (inside ≡ level_of m)
HasInside (missing end) inside = inside ≡ None

-- Where a path leads from a level on: each number to the element that has it, counted from 0, or to the end of a level with fewer. The
-- next number counts in the level inside that element; where none is inside, the numbers that are left lead nowhere.
abbrev pub AreSteps : Option (List ℕ) → List ℕ → List Step → Type 0
AreSteps level [] steps = steps ≡ []
AreSteps None (n ∷ ns) steps = steps ≡ []
AreSteps (Some d) (n ∷ ns) steps =
    (x : FoundElement) × (inside : Option (List ℕ)) × (rest : List Step) × FindsElementAt d n x × HasInside x inside × AreSteps inside ns rest
    × (steps ≡ record { number = n; key = key_of x } ∷ rest)

-- a key after a colon, in quotes, where there is one
abbrev pub key_suffix : Option (List ℕ) → List ℕ
key_suffix None = []
key_suffix (Some key) = codes ":" ++ quoted key

-- a step of a path: the number of an element, and its key
abbrev pub step_text : Step → List ℕ
step_text step = codes "/" ++ decimal step.number ++ key_suffix step.key

-- two points in place of steps, where a path leads over more than ten
abbrev pub points : ℕ → List ℕ
points len = cond (nat_lt 10 len) (codes "/..") []

-- the steps that `total` numbers lead over; of more than 20 the first ten and the last ten, with two points between
abbrev pub path_text : ℕ → List Step → List ℕ
path_text total steps =
    cond (nat_lt 20 total) (flat_map step_text (take 10 steps) ++ points (length steps) ++ flat_map step_text (drop (total - 10) steps)) (flat_map step_text steps)

-- the text of a path in b; in bytes that are no document it has no steps
abbrev pub IsPathText : List ℕ → List ℕ → List ℕ → Type 0
IsPathText b path text =
    (IsEnvelope b × (steps : List Step) × AreSteps (Some b) path steps × (text ≡ path_text (length path) steps)) ⊎ ((r : Reason) × Refuses b r × (text ≡ []))

-- as much of it as fits is in the room
abbrev pub PutsPath : List ℕ → List ℕ → List ℕ → List ℕ → ℕ → Type 0
PutsPath b path before after count = (text : List ℕ) × IsPathText b path text × PutsFront text before after count

-- What the code tells of a step. No public contract cites what follows.

-- what the step after `index` others adds to the text of a path of `total` numbers
abbrev pub piece : ℕ → ℕ → Step → List ℕ
piece total index step =
    cond (nat_lt index 10) (step_text step) (cond (nat_lt index (total - 10)) (cond (nat_eq index 10) (codes "/..") []) (step_text step))

-- a step leads in a level to this number, and to the level inside
abbrev pub Leads : List ℕ → ℕ → Step → Option (List ℕ) → Type 0
Leads d number step inside =
    (x : FoundElement) × FindsElementAt d number x × HasInside x inside × (step ≡ record { number = number; key = key_of x })
