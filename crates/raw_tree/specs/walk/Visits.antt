-- The events of a walk over all levels of a document, as a list: depth first, in byte order. The bytes b of a document
-- or of an array begin with their length and end with a 0.
use Rattle.std.specs.Prelude.{◌≡◌, ◌+◌, ◌++◌, ◌∷◌, [], ℕ, zero, suc, List, drop, length}
use Rattle.raw_view.specs.Frame.{Frame, IsWalk, Done}
use Rattle.raw_view.specs.Meaning.{RawValue, Means, value}
use Rattle.raw_view.specs.Meaning as raw
use Rattle.raw_tree.specs.walk.Looking.{size_of}

-- an element at this offset whose value is no document, no array and no code with scope; an element at this offset
-- whose value is one of these, whose elements follow; or the end of the last level that was entered and hasn't ended
pub data Visit : Type 0 where
  whole : ℕ → Frame → RawValue → Visit
  enter : ℕ → Frame → RawValue → Visit
  leave : Visit

-- visits; `Nested` says which ones nested bytes have that begin at an offset
module _ (Nested : ℕ → List ℕ → List Visit → Type 0) where
  -- the visits of the frame at this offset, whose value holds the level d; d ends where the frame ends
  abbrev pub VisitsLevel : ℕ → Frame → RawValue → List ℕ → List Visit → Type 0
  VisitsLevel at f v d vs = (start : ℕ) × (inner : List Visit) × (start + length d ≡ at + size_of f) × Nested start d inner × (vs ≡ enter at f v ∷ (inner ++ leave ∷ []))

  -- the visits of the frame at this offset whose value is v
  abbrev pub VisitsValue : ℕ → Frame → RawValue → List Visit → Type 0
  VisitsValue at f (raw.single l) vs = vs ≡ whole at f (raw.single l) ∷ []
  VisitsValue at f (raw.document d) vs = VisitsLevel at f (raw.document d) d vs
  VisitsValue at f (raw.array d) vs = VisitsLevel at f (raw.array d) d vs
  VisitsValue at f (raw.scoped code d) vs = VisitsLevel at f (raw.scoped code d) d vs

  -- the visits of these frames in order; the first frame begins at this offset, each other frame where the one before
  -- it ends
  abbrev pub VisitsEach : ℕ → List Frame → List Visit → Type 0
  VisitsEach at [] vs = vs ≡ []
  VisitsEach at (f ∷ fs) vs =
      (v : RawValue) × (first rest : List Visit) × Means f (value v) × VisitsValue at f v first × VisitsEach (at + size_of f) fs rest × (vs ≡ first ++ rest)

-- The visits of the bytes b, which begin at this offset and have at most n levels, b being the first: those of the
-- frames of their walk, which ends at the final 0.
abbrev pub HasVisits : ℕ → ℕ → List ℕ → List Visit → Type 0
HasVisits zero start b vs = ⊥
HasVisits (suc n) start b vs = (frames : List Frame) × IsWalk (drop 4 b) frames Done × VisitsEach (HasVisits n) (start + 4) frames vs

-- where the bytes after these frames begin; the first frame begins at this offset
abbrev pub end_of : ℕ → List Frame → ℕ
end_of at [] = at
end_of at (f ∷ fs) = end_of (at + size_of f) fs
