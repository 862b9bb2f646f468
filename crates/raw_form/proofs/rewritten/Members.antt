-- The rest of a level that is being rewritten, and which part of it is written as it is.
use Rattle.std.proofs.Common.{IsTrue, eqb, not, ◌⊎◌, inl, inr, ◌≡◌, ◌≤◌, ◌<◌, ◌-◌, ◌∷◌, [], zero, suc, ℕ, List, Option, None, Some, drop, length, arith, ap, refl, sym, length-drop}
use Rattle.raw_form.proofs.canonical.Common.{AreFramesCanonical, AreLeftOwn, BeginsAt, Frame, HasPayload, IsCanonicalUpTo, IsFrame, IsFrame-shorter, IsOwnForm, IsOwnUpTo, IsPlain, IsRest, IsSingle, IsWrittenAs, LeadsTo, Leaf, RawElement, RawValue, ReadsAs, Sort, StandForEach, StandsFor, Start, TakesFrame, TakesPair, Tree, each_read, frame_of, kind_of_raw, one_frame, payload_of, value_spelled}
use Rattle.std.proofs.lemmas.Bool.Decides.{nat_tests}
use Rattle.std.proofs.Math.Logic.{∥∥₁_elim}
use Rattle.std.proofs.Props.{props}
use Rattle.raw_view.specs.Meaning as raw
use Rattle.raw_view.proofs.Face.{LeadsTo-bound}
use Rattle.raw_tree.specs.Reading.{ReadsRest, tree_of_pairs}
use Rattle.raw_tree.proofs.Face.{frame_spelled, walk_over, walk_step}

-- pairs

-- bytes that are read as a tree are read as pairs after their length
pub read_pairs : {sort : Sort} {d : List ℕ} {t : Tree} → ReadsAs sort d t → (pairs : List (List ℕ × Tree)) × ReadsRest ReadsAs (drop 4 d) pairs × (t ≡ tree_of_pairs sort pairs)
read_pairs (zero, h) = absurd h
read_pairs (suc n, h) = (h.0, (h.1.0, h.1.1, each_read n h.1.0 h.0 h.1.2), h.2)

pub pair_taken : (old new : Option (List ℕ)) (pairs : List (List ℕ × Tree)) (e : RawElement) → IsRest old pairs → TakesFrame old (Some e) new → TakesPair old pairs (Some e) new
pair_taken None new pairs e h st = absurd h
pair_taken (Some s) new pairs e h (r, at, new_is) =
    let step = walk_step s h.0 (frame_of e) r h.1 at in
    let each : StandForEach ReadsAs (frame_of e ∷ step.0) pairs = rw step.1 at h.2 in
    rw new_is (each.1, each.2, each.5, (each.0, each.3, each.4), (step.0, step.2, each.6), IsFrame-shorter s (frame_of e) r at)

pub pair_over : (old new : Option (List ℕ)) (pairs : List (List ℕ × Tree)) → IsRest old pairs → TakesFrame old None new → pairs ≡ []
pair_over None new pairs h none = absurd h
pair_over (Some s) new pairs h none = rw (walk_over s h.0 h.1 none) at h.2

-- a value that holds no level is a leaf
pub shows_leaf : (v : RawValue) → IsSingle v → (l : Leaf) × (v ≡ raw.single l)
shows_leaf v h = grind arith

-- elements of a plain kind

-- a value of a plain kind is written as it is read
plain_value : (v : RawValue) (t : Tree) → IsPlain (kind_of_raw v) → StandsFor ReadsAs v t → IsWrittenAs (kind_of_raw v) (payload_of v) t
plain_value v t plain h = grind arith

-- and so is its element
pub plain_own : (f : Frame) → IsPlain f.kind → ∥ HasPayload f.kind f.payload ∥₁ → IsOwnForm f
plain_own f plain shape t (v, means, stands) =
    let spelled : (payload_of v ≡ f.payload) × (kind_of_raw v ≡ f.kind) = ∥∥₁_elim shape (hlevel props) (λ s. value_spelled f.kind f.payload s.0 v s.1 means) in
    rw (← spelled.0, ← spelled.1) (plain_value v t (rw (sym spelled.1) at plain) stands)

-- what is before a start

-- frames lead on from the same bytes; one that comes before the end of the canonical ones is one of these
own_before : (n : ℕ) (s : List ℕ) (passed : List Frame) (r : List ℕ) (frames : List Frame) {q : List ℕ} {f : Frame} {p : List ℕ} → LeadsTo s passed r
    → AreFramesCanonical (IsCanonicalUpTo n) passed → LeadsTo s frames q → IsFrame q f p → (length frames < length passed) ⊎ (length r < length q) → IsOwnForm f
own_before n s [] r frames l c k at (inl few) = absurd (omega (arith, few))
own_before n s [] r frames {q = q} l c k at (inr before) = absurd (omega (arith, before, LeadsTo-bound s frames q k, ap length l))
own_before n s (g ∷ passed) r [] {f = f} {p = p} (w, there, l) (v, means, canonical, c) k at before =
    rw (one_frame s f g p w (rw (← k) at at) there).0 (frame_spelled n s g w v there means canonical)
own_before n s (g ∷ passed) r (h ∷ frames) (u, there, l) c (w, here, k) at before =
    own_before n u passed r frames l c.3 (rw (one_frame s h g w u here there).1 at k) at (elim before [ inl few ↦ inl (omega (arith, few)) | inr short ↦ inr short ])

pub known_to : (n : ℕ) (d : List ℕ) (start : Start) (passed : List Frame) (s : List ℕ) → LeadsTo (drop 4 d) passed s
    → AreFramesCanonical (IsCanonicalUpTo n) passed → start.number ≡ length passed → BeginsAt d s start.offset → IsOwnUpTo d start
known_to n d start passed s reaches canonical number begins = record {
  next = λ frames q f p leads at few. own_before n (drop 4 d) passed s frames reaches canonical leads at (inl (omega (arith, few, number)));
  before = λ frames q f p leads at less. own_before n (drop 4 d) passed s frames reaches canonical leads at (inr (omega (arith, less, begins)));
}

-- no frame is before the first element
pub known_to_first : (d : List ℕ) (start : Start) → 5 ≤ length d → start.number ≡ 0 → start.offset ≡ 4 → IsOwnUpTo d start
known_to_first d start enough number offset = known_to 0 d start [] (drop 4 d) refl tt number (omega (arith, enough, offset, length-drop 4 d))

-- one fewer is left
pub one_known : (n less : ℕ) (old new : Option (List ℕ)) (e : RawElement) → less ≡ n - 1 → AreLeftOwn n old → TakesFrame old (Some e) new
    → (IsTrue (not (eqb n 0)) → IsOwnForm (frame_of e)) × AreLeftOwn less new
one_known n less None new e one own h = cc
one_known n less (Some s) new e one own (r, at, new_is) = (
  (λ told. let some : 0 < n = grind (arith, nat_tests, told) in own [] s (frame_of e) r refl at some),
  rw new_is (λ frames q f p leads there few. own (frame_of e ∷ frames) q f p (r, at, leads) there (omega (arith, one, few))),
)
