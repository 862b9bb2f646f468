-- Which of the paths that pick elements lead to one in a document.
use Rattle.std.specs.Prelude.{◌≡◌, ℕ, suc, zero, List, [], ◌∷◌, Bool, true, false, Option, cond, drop, is_some, length}
use Rattle.raw_view.specs.Frame.{Done, Frame, IsWalk}
use Rattle.dump_commands.specs.elements.Cut.{Fate, fate_of, goes, is_array, opens, stays}
use Rattle.dump_commands.specs.elements.Pick.{LeadsTo, dot, parts}
use Rattle.dump_commands.specs.declared.picking.Choice.{Choice}
use Rattle.dump_commands.specs.declared.picking.Choice.TheVariants as choice

-- The elements of a level, where Nested says whether nested bytes have an element that paths name.
module _ (Nested : Bool → List (List ℕ) → List ℕ → Bool → Type 0) where
  -- whether this one is named, or one inside it
  abbrev pub IsHad : Fate → Frame → Bool → Type 0
  IsHad stays f had = had ≡ false
  IsHad goes f had = had ≡ true
  IsHad (opens paths) f had = Nested (is_array f.kind) paths f.payload had

  -- whether one of these is
  abbrev pub AreHad : (in_array : Bool) → (paths : List (List ℕ)) → List Frame → Bool → Type 0
  AreHad in_array paths [] had = had ≡ false
  AreHad in_array paths (f ∷ fs) had =
      (here others : Bool) × IsHad (fate_of true in_array paths f) f here × AreHad in_array paths fs others × (had ≡ cond here true others)

-- whether the bytes b of a document or an array have an element that these paths name, which lead over at most this number of levels
abbrev pub HasNamed : ℕ → (in_array : Bool) → (paths : List (List ℕ)) → (b : List ℕ) → (had : Bool) → Type 0
HasNamed zero in_array paths b had = had ≡ false
HasNamed (suc n) in_array paths b had = (frames : List Frame) × IsWalk (drop 4 b) frames Done × AreHad (HasNamed n) in_array paths frames had

-- whether the document b has an element to which a path leads; or that it names, where documents keep their shape
abbrev pub Has : Choice → (b path : List ℕ) → (had : Bool) → Type 0
Has choice.Named b path had = (goal : Option Frame) × LeadsTo b (parts dot path) goal × (had ≡ is_some goal)
Has c b path had = HasNamed (suc (length path)) false (path ∷ []) b had

-- the same of each path
abbrev pub HasEach : Choice → (b : List ℕ) → (paths : List (List ℕ)) → List Bool → Type 0
HasEach c b [] flags = flags ≡ []
HasEach c b (path ∷ paths) flags = (had : Bool) × (others : List Bool) × Has c b path had × HasEach c b paths others × (flags ≡ had ∷ others)
