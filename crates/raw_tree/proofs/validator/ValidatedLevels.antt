-- Levels that are being validated: what is known of each, and that a violation of the innermost is one of the document.
use Rattle.std.proofs.Common.{◌≡◌, ◌∙◌, ◌++◌, ◌∷◌, [], inr, ℕ, suc, List, Some, length, drop, arith, ap, refl, sym, Bor, length-append}
use Rattle.std.proofs.lemmas.List.{same_from_push}
use Rattle.raw_tree.proofs.Common.{AreFramesCanonical, AreKeysCanonical, Done, Frame, HoldsAs, IsCanonicalUpTo, IsFrame, IsValueCanonical, LeadsTo, Means, RawValue, Sort, as_document}
use Rattle.raw_tree.proofs.Common.{keys_of_frames, texts, value}
use Rattle.raw_tree.proofs.walk.Common.{AreHeld, FirstViolationTo, HasKeysSoFar, IsHeld, IsOffsetOf, IsSingleWith, KeysSoFar, Span, Step, Violation, Wait, all_stored, violations}
use Rattle.raw_view.proofs.Face.{LeadsTo-walk}
use Rattle.raw_tree.proofs.validator.LevelKeys.{frames_more, keys_front, keys_more, no_keys}
use Rattle.raw_tree.proofs.validator.OneViolation.{none_breaches}
use Rattle.raw_tree.proofs.walk.First.{IsFront}
use Rattle.raw_tree.proofs.walk.Levels.{IsOutward}

-- values

single_canonical : (N : Sort → List ℕ → Type 0) (v : RawValue) → IsSingleWith (λ A. A) v → IsValueCanonical N v
single_canonical N v h = grind arith

pub held_canonical : (N : Sort → List ℕ → Type 0) (v : RawValue) (s : Sort) (d : List ℕ) → HoldsAs v s d → N s d → IsValueCanonical N v
held_canonical N v s d h c = grind arith

-- levels

-- the sort of a level; the keys of the outer levels, which are before its own in the list; and how its keys are kept
pub record Keyed : Type 0 where
  pub sort : Sort
  pub below : List (List ℕ)
  pub outer : List KeysSoFar

abbrev pub whole_keyed : Keyed
whole_keyed = record { sort = as_document; below = []; outer = [] }

-- the keys and values of some frames of a level are canonical, with at most `inside` levels inside; and how their keys are kept
pub record IsValidated (outer : List KeysSoFar) (listed : List (Bor (List ℕ))) (k : KeysSoFar) (inside : ℕ) (i : Span Keyed) (frames : List Frame) : Type 0 where
  pub outer_is : outer ≡ i.known.outer
  pub keys : HasKeysSoFar k listed i.known.sort i.known.below (keys_of_frames frames)
  pub keys_canonical : AreKeysCanonical i.known.sort (keys_of_frames frames)
  pub canonical : AreFramesCanonical (IsCanonicalUpTo inside) frames

-- the same of a waiting level and of the key of its element; these keys are in the list once the level in it is left
pub record IsKept (inside : ℕ) (w : Wait Keyed) (i : Span Keyed) : Type 0 where
  pub k : KeysSoFar
  pub outer_is : i.known.outer ≡ w.level.known.outer ++ k ∷ []
  pub holds : HoldsAs w.v i.known.sort i.bytes
  pub keys : (refs : List (Bor (List ℕ))) → texts refs ≡ i.known.below → HasKeysSoFar k refs w.level.known.sort w.level.known.below (keys_of_frames w.frames ++ w.f.key ∷ [])
  pub keys_canonical : AreKeysCanonical w.level.known.sort (keys_of_frames w.frames ++ w.f.key ∷ [])
  pub canonical : AreFramesCanonical (IsCanonicalUpTo inside) w.frames

-- no frame is passed
pub none_validated : {outer : List KeysSoFar} {listed : List (Bor (List ℕ))} {k : KeysSoFar} (inside : ℕ) (i : Span Keyed) → outer ≡ i.known.outer → HasKeysSoFar k listed i.known.sort i.known.below []
    → IsValidated outer listed k inside i []
none_validated inside i outer_is has = record { outer_is = outer_is; keys = has; keys_canonical = no_keys i.known.sort; canonical = tt }

module _ {outer : List KeysSoFar} {listed : List (Bor (List ℕ))} {k : KeysSoFar} {inside : ℕ} {i : Span Keyed} {frames : List Frame} (is : IsValidated outer listed k inside i frames) where
  -- one more frame is passed
  pub validated_more : {after : List (Bor (List ℕ))} {ks : KeysSoFar} (f : Frame) (v : RawValue) → Means f (value v) → IsSingleWith (λ A. A) v
      → HasKeysSoFar ks after i.known.sort i.known.below (keys_of_frames frames ++ f.key ∷ []) → AreKeysCanonical i.known.sort (keys_of_frames frames ++ f.key ∷ [])
      → IsValidated outer after ks inside i (frames ++ f ∷ [])
  validated_more f v means single has more = record {
    outer_is = is.outer_is;
    keys = rw (keys_more frames f) has;
    keys_canonical = rw (keys_more frames f) more;
    canonical = frames_more (IsCanonicalUpTo inside) frames f v is.canonical means (single_canonical (IsCanonicalUpTo inside) v single);
  }

  -- all frames of the level are passed
  pub all_validated : {s : List ℕ} → LeadsTo (drop 4 i.bytes) frames s → s ≡ 0 ∷ [] → IsCanonicalUpTo (suc inside) i.known.sort i.bytes
  all_validated {s} l final = (frames, LeadsTo-walk (drop 4 i.bytes) frames s Done l final, is.keys_canonical, is.canonical)

  -- the waiting level continues after its element
  pub left_validated : {b s : List ℕ} {w : Wait Keyed} {less : List KeysSoFar} {j : KeysSoFar} (refs : List (Bor (List ℕ))) → IsHeld IsKept b (suc inside) w i
      → LeadsTo (drop 4 i.bytes) frames s → s ≡ 0 ∷ [] → outer ≡ less ++ j ∷ [] → texts refs ≡ i.known.below → IsValidated less refs j (suc inside) w.level (w.frames ++ w.f ∷ [])
  left_validated {w = w} {less} {j} refs held l final same below =
      let (outer_same, k_same) = same_from_push less w.level.known.outer j held.knows.k (sym same ∙ is.outer_is ∙ held.knows.outer_is) in
      record {
        outer_is = outer_same;
        keys = rw (keys_more w.frames w.f, k_same) (held.knows.keys refs below);
        keys_canonical = rw (keys_more w.frames w.f) (held.knows.keys_canonical);
        canonical = frames_more (IsCanonicalUpTo (suc inside)) w.frames w.f w.v held.knows.canonical held.means
            (held_canonical (IsCanonicalUpTo (suc inside)) w.v i.known.sort i.bytes held.knows.holds (all_validated l final));
      }

-- if no keys are kept, no level waits
pub none_kept : (document : Span Keyed) (inside : ℕ) (ws : List (Wait Keyed)) (i : Span Keyed) → AreHeld IsKept document inside ws i → i.known.outer ≡ [] → all_stored ws ≡ []
none_kept document inside [] i held none = refl
none_kept document inside (w ∷ ws) i (held, more) none = absurd (omega (arith, ap length none, ap length held.knows.outer_is, length-append w.level.known.outer (held.knows.k ∷ [])))

-- the nested bytes of a frame with a canonical key have the violation
pub violates_inside : (n : ℕ) (b : List ℕ) (sort : Sort) (frames : List Frame) (v : RawValue) (held_as : Sort) (d : List ℕ) (offset : ℕ) {s : List ℕ} {f : Frame} {r : List ℕ}
    → IsFrame s f r × Means f (value v) × HoldsAs v held_as d → AreKeysCanonical sort (keys_of_frames frames ++ f.key ∷ [])
    → (h : (x : Violation) × (steps : List Step) × (inside : ℕ) × FirstViolationTo n held_as d x steps inside) → IsOffsetOf b s (d ++ r) h.1 h.2 offset
    → IsFront violations n sort frames b s h.0 (record { number = length frames; key = Some f.key } ∷ h.1) offset
violates_inside n b sort frames v held_as d offset {s} {f} {r} (frame, means, holds) more (x, steps, inside, violates) there =
    let none = none_breaches sort (keys_of_frames frames) s v held_as d frame means holds more in
    inr ((λ key y h. none key h.0 h.2), (f, r, v, held_as, d, steps, inside, frame, means, holds, violates, refl, there))

-- where the first violation of a level is
abbrev pub ViolatesLevel : Violation → ℕ → Span Keyed → List Step → ℕ → Type 0
ViolatesLevel x n i path offset = FirstViolationTo n i.known.sort i.bytes x path offset

pub violations_outward : (b : List ℕ) (x : Violation) → IsOutward IsKept b (ViolatesLevel x)
violations_outward b x = record {
  out = λ n w i is first steps at place violates there.
      let keys = keys_front w.level.known.sort (keys_of_frames w.frames) (w.f.key ∷ []) is.knows.keys_canonical in
      let inside = violates_inside n w.level.bytes w.level.known.sort w.frames w.v i.known.sort i.bytes place (is.frame, is.means, is.knows.holds) is.knows.keys_canonical
      (x, first ∷ steps, at, violates) there in
      (w.frames, is.s, is.reaches, (keys, is.knows.canonical), inside);
}
