-- What is sought is first at one place only, is within the bytes, and isn't in bytes that are passed as a whole.
use Rattle.std.proofs.Common.{◌≡◌, ◌≢◌, inl, inr, ◌⊎◌, ◌≤◌, ◌+◌, ◌-◌, ◌++◌, ◌∷◌, [], ℕ, zero, suc, List, Option, length, drop, arith, refl, sym, ◌∙◌, length-append, length-drop}
use Rattle.raw_tree.proofs.Common.{Done, Frame, Holds, HoldsAs, IsWalk, Means, RawValue, Sort, value}
use Rattle.raw_tree.proofs.walk.Common.{HasNothing, IsFirst, IsHere, IsInside, IsOffsetOf, Sought, Step}
use Rattle.raw_view.proofs.Face.{LeadsTo-bound, no_frame_at_final, one_frame}
use Rattle.raw_tree.proofs.reader.Loops.{holds_bytes, nested_shorter}
use Rattle.raw_tree.proofs.reader.OneTree.{one_value_of}
use Rattle.raw_tree.proofs.walk.OneEnd.{IsBlocked, passed_once, passed_whole}

-- nested bytes

-- what a value holds is held as a document or as an array
pub held_some : (v : RawValue) (d : List ℕ) → Holds v d → (sort : Sort) × HoldsAs v sort d
held_some v d h = grind arith

-- it is held in one way
one_held : (v : RawValue) (s t : Sort) (d e : List ℕ) → HoldsAs v s d → HoldsAs v t e → (t ≡ s) × (e ≡ d)
one_held v s t d e h g = grind arith

one_offset : (b s nested : List ℕ) (steps : List Step) (inside offset at : ℕ) → IsOffsetOf b s nested steps inside offset → IsOffsetOf b s nested steps inside at → at ≡ offset
one_offset b s nested [] inside offset at h g = omega (arith, h, g)
one_offset b s nested (step ∷ steps) inside offset at h g = omega (arith, h.1, h.2, g.1, g.2)

-- an offset in them is one in the bytes around them, and within these
pub some_offset : (b s d q : List ℕ) (steps : List Step) (inside : ℕ) → length s ≤ length b → length d + length q ≤ length s → (offset : ℕ) × IsOffsetOf b s (d ++ q) steps inside offset
some_offset b s d q [] inside l k = (length b - length s, omega (arith, l))
some_offset b s d q (step ∷ steps) inside l k =
    let start : ℕ = length b - length (d ++ q) in
    (start + inside, (start, omega (arith, l, k, length-append d q), refl))

offset_bound : (b s d q : List ℕ) (steps : List Step) (inside offset : ℕ) → inside ≤ length d → IsOffsetOf b s (d ++ q) steps inside offset → offset ≤ length b
offset_bound b s d q [] inside offset few is = omega (arith, is)
offset_bound b s d q (step ∷ steps) inside offset few is = omega (arith, few, is.1, is.2, length-append d q)

module _ {X : Type 0} (sought : Sought X) where
  -- the bytes are passed as a whole
  abbrev pub IsPassed : ℕ → Sort → List ℕ → Type 0
  IsPassed zero sort b = ⊥
  IsPassed (suc n) sort b = (frames : List Frame) × IsWalk (drop 4 b) frames Done × sought.passes n sort frames

  -- x is at the front of s, or in the frame there
  abbrev pub IsFront : ℕ → Sort → List Frame → (b s : List ℕ) → X → List Step → ℕ → Type 0
  IsFront n sort ps b s x path offset = IsHere sought sort ps b s x path offset ⊎ (HasNothing sought sort ps s × IsInside (IsFirst sought n) ps b s x path offset)

  pub first_bound : (n : ℕ) (sort : Sort) (b : List ℕ) (x : X) (path : List Step) (offset : ℕ) → IsFirst sought n sort b x path offset → offset ≤ length b
  first_bound zero sort b x path offset h = omega (arith, h.2)
  first_bound (suc n) sort b x path offset (ps, s, leads, before, inl (key, here, path_is, begins)) = omega (arith, begins)
  first_bound (suc n) sort b x path offset (ps, s, leads, before, inr (none, (f, q, v, held_as, d, steps, inside, frame, means, holds, nested, path_is, there))) =
      offset_bound b s d q steps inside offset (first_bound n held_as d x steps inside nested) there

  -- a level that is too deep needs at least as many bytes as levels are allowed
  pub deep_long : ((sort : Sort) (ps : List Frame) (s : List ℕ) (key : Option (List ℕ)) → ¬ sought.is_at sort ps s key sought.deep)
      → (n : ℕ) (sort : Sort) (b : List ℕ) (path : List Step) (offset : ℕ) → IsFirst sought n sort b sought.deep path offset → n ≤ length b
  deep_long never zero sort b path offset h = omega arith
  deep_long never (suc n) sort b path offset (ps, s, leads, before, inl (key, here, path_is, begins)) = absurd (never sort ps s key here)
  deep_long never (suc n) sort b path offset (ps, s, leads, before, inr (none, (f, q, v, held_as, d, steps, inside, frame, means, holds, nested, path_is, there))) =
      let shorter = nested_shorter s f q v d frame means (holds_bytes v held_as d holds) in
      omega (arith, deep_long never n held_as d steps inside nested, shorter, LeadsTo-bound (drop 4 b) ps s leads, length-drop 4 b)

  -- what isn't too deep is first to each greater depth
  pub deeper : ((n m : ℕ) → n ≤ m → (sort : Sort) (ps : List Frame) → sought.passes n sort ps → sought.passes m sort ps)
      → (n m : ℕ) → n ≤ m → (sort : Sort) (b : List ℕ) (x : X) (path : List Step) (offset : ℕ) → x ≢ sought.deep → IsFirst sought n sort b x path offset → IsFirst sought m sort b x path offset
  deeper more zero m l sort b x path offset other h = absurd (other h.0)
  deeper more (suc n) zero l sort b x path offset other h = absurd (omega (arith, l))
  deeper more (suc n) (suc m) l sort b x path offset other (ps, s, leads, before, inl here) = (ps, s, leads, more n m (omega (arith, l)) sort ps before, inl here)
  deeper more (suc n) (suc m) l sort b x path offset other (ps, s, leads, before, inr (none, (f, q, v, held_as, d, steps, inside, frame, means, holds, nested, path_is, there))) =
      let few : n ≤ m = omega (arith, l) in
      let deep = deeper more n m few held_as d x steps inside other nested in
      (ps, s, leads, more n m few sort ps before, inr (none, (f, q, v, held_as, d, steps, inside, frame, means, holds, deep, path_is, there)))

-- What makes places unique. At most one thing is at a front, and none at the final 0. Frames aren't passed if they have one at their front,
-- or if their nested bytes aren't passed.
pub record IsUnique {X : Type 0} (sought : Sought X) : Type 0 where
  pub over : (sort : Sort) (ps : List Frame) (s : List ℕ) (key : Option (List ℕ)) (x : X) → s ≡ 0 ∷ [] → ¬ sought.is_at sort ps s key x
  pub one : (sort : Sort) (ps : List Frame) (s : List ℕ) (key other : Option (List ℕ)) (x y : X) → sought.is_at sort ps s key x → sought.is_at sort ps s other y → (other ≡ key) × (y ≡ x)
  pub blocks : (n : ℕ) (sort : Sort) (ps : List Frame) (s : List ℕ) (key : Option (List ℕ)) (x : X) → sought.is_at sort ps s key x → IsBlocked (sought.passes n sort) ps s
  pub inside : (n : ℕ) (sort : Sort) (ps : List Frame) (f : Frame) (more : List Frame) (v : RawValue) (held_as : Sort) (d : List ℕ) → sought.passes n sort (ps ++ f ∷ more)
      → Means f (value v) → HoldsAs v held_as d → IsPassed sought n held_as d

module _ {X : Type 0} {sought : Sought X} (is : IsUnique sought) where
  -- bytes in which something is first aren't passed
  abbrev AreApart : ℕ → Type 0
  AreApart n = (sort : Sort) (b : List ℕ) (x : X) (path : List Step) (offset : ℕ) → IsFirst sought n sort b x path offset → IsPassed sought n sort b → ⊥

  front_blocks : (n : ℕ) → AreApart n → (sort : Sort) (ps : List Frame) (b s : List ℕ) (x : X) (path : List Step) (offset : ℕ) → IsFront sought n sort ps b s x path offset
      → IsBlocked (sought.passes n sort) ps s
  front_blocks n apart sort ps b s x path offset (inl (key, here, path_is, begins)) f r more at passed = is.blocks n sort ps s key x here f r more at passed
  front_blocks n apart sort ps b s x path offset (inr (none, (g, q, v, held_as, d, steps, inside, frame, means, holds, nested, path_is, there))) f r more at passed =
      let same = (one_frame s g f q r frame at).0 in
      apart held_as d x steps inside nested (is.inside n sort ps f more v held_as d passed (rw same at means) holds)

  front_over : (n : ℕ) (sort : Sort) (ps : List Frame) (b s : List ℕ) (x : X) (path : List Step) (offset : ℕ) → s ≡ 0 ∷ [] → IsFront sought n sort ps b s x path offset → ⊥
  front_over n sort ps b s x path offset e (inl (key, here, path_is, begins)) = is.over sort ps s key x e here
  front_over n sort ps b s x path offset e (inr (none, (f, q, v, held_as, d, steps, inside, frame, means, holds, nested, path_is, there))) = no_frame_at_final s e f q frame

  pub apart : (n : ℕ) → AreApart n
  apart zero sort b x path offset h passed = absurd passed
  apart (suc n) sort b x path offset (ps, s, leads, before, front) (frames, walk, all) =
      let end = passed_whole (sought.passes n sort) (drop 4 b) frames ps s walk all leads before (front_blocks n (apart n) sort ps b s x path offset front) in
      front_over n sort ps b s x path offset end front

  -- only one thing is first, at one place
  abbrev AreOne : ℕ → Type 0
  AreOne n = (sort : Sort) (b : List ℕ) (x y : X) (path other : List Step) (offset at : ℕ) → IsFirst sought n sort b x path offset → IsFirst sought n sort b y other at
      → (y ≡ x) × (other ≡ path) × (at ≡ offset)

  module _ (n : ℕ) (one : AreOne n) (sort : Sort) (ps : List Frame) (b s : List ℕ) {x y : X} {path other : List Step} {offset at : ℕ} where
    one_inside : IsInside (IsFirst sought n) ps b s x path offset → IsInside (IsFirst sought n) ps b s y other at → (y ≡ x) × (other ≡ path) × (at ≡ offset)
    one_inside (f, q, v, held_as, d, steps, inside, frame, means, holds, nested, path_is, there) (g, r, w, kept_as, e, others, within, at_front, also, keeps, inner, other_is, here) =
        let (f_is, r_is) = one_frame s g f r q at_front frame in
        let v_is = one_value_of f w v (rw f_is at also) means in
        let (sort_is, d_is) = one_held v held_as kept_as d e holds (rw v_is at keeps) in
        let (x_is, steps_is, inside_is) = one held_as d x y steps others inside within nested (rw (sort_is, d_is) at inner) in
        (x_is, rw (path_is, other_is, f_is, steps_is) refl, one_offset b s (d ++ q) steps inside offset at there (rw (d_is, r_is, steps_is, inside_is) at here))

    one_front : IsFront sought n sort ps b s x path offset → IsFront sought n sort ps b s y other at → (y ≡ x) × (other ≡ path) × (at ≡ offset)
    one_front (inl (key, here, path_is, begins)) (inl (next, there, other_is, ends)) =
        let (key_is, x_is) = is.one sort ps s key next x y here there in
        (x_is, rw (path_is, other_is, key_is) refl, omega (arith, begins, ends))
    one_front (inl (key, here, path_is, begins)) (inr g) = absurd (g.0 key x here)
    one_front (inr h) (inl (key, here, path_is, begins)) = absurd (h.0 key y here)
    one_front (inr h) (inr g) = one_inside h.1 g.1

  pub one_first : (n : ℕ) → AreOne n
  one_first zero sort b x y path other offset at h g = (g.0 ∙ sym h.0, g.1 ∙ sym h.1, g.2 ∙ sym h.2)
  one_first (suc n) sort b x y path other offset at (ps, s, leads, before, front) (qs, t, to, others, ahead) =
      let same = passed_once (sought.passes n sort) (drop 4 b) ps qs s t leads before (front_blocks n (apart n) sort ps b s x path offset front)
      to others (front_blocks n (apart n) sort qs b t y other at ahead) in
      one_front n (one_first n) sort ps b s front (rw (same.0, same.1) at ahead)
