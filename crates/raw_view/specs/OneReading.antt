-- Reading is determined: bytes can be read in one way only.
use Rattle.std.specs.Prelude.{◌≡◌, ℕ, List, Option}
use Rattle.raw_view.specs.Frame.{Frame, IsFrame, End, IsWalk}
use Rattle.raw_view.specs.Meaning.{Meaning, Means}
use Rattle.raw_view.specs.Meaning.Item.{Item, AreItems}
use Rattle.raw_view.specs.LookUp.{LooksUp, KeyAnswer, FindsKey, IsAt}

-- at most one frame is at the front of any list of bytes
abbrev pub OneFirstFrame : Type 0
OneFirstFrame = (s : List ℕ) (f g : Frame) (r q : List ℕ) → IsFrame s f r → IsFrame s g q → (f ≡ g) × (r ≡ q)

-- every walk of s has these frames and this end
abbrev pub IsTheWalk : List ℕ → List Frame → End → Type 0
IsTheWalk s frames end = IsWalk s frames end × ((other : List Frame) (last : End) → IsWalk s other last → (other ≡ frames) × (last ≡ end))

-- the frame means this, and nothing else
abbrev pub IsTheMeaning : Frame → Meaning → Type 0
IsTheMeaning f m = Means f m × ((other : Meaning) → Means f other → other ≡ m)

-- these are the items of the document b, and no others are
abbrev pub AreTheItems : List ℕ → List Item → Type 0
AreTheItems b items = AreItems b items × ((other : List Item) → AreItems b other → other ≡ items)

-- a look-up of the key in the document b finds this, and nothing else
abbrev pub IsTheAnswer : List ℕ → List ℕ → Option Meaning → Type 0
IsTheAnswer b key found = LooksUp b key found × ((other : Option Meaning) → LooksUp b key other → other ≡ found)

-- this is whether the key is in the document b, and no other answer is
abbrev pub IsTheKeyAnswer : List ℕ → List ℕ → KeyAnswer → Type 0
IsTheKeyAnswer b key answer = FindsKey b key answer × ((other : KeyAnswer) → FindsKey b key other → other ≡ answer)

-- a look-up of the position in the document b finds this, and nothing else
abbrev pub IsTheAnswerAt : List ℕ → ℕ → Option Meaning → Type 0
IsTheAnswerAt b index found = IsAt b index found × ((other : Option Meaning) → IsAt b index other → other ≡ found)
