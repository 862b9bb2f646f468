-- A document has at most one violation within a depth, at one place, and none if it is canonical.
use Rattle.std.proofs.Common.{◌≡◌, inl, inr, ◌⊎◌, ◌≤◌, ◌++◌, ◌∷◌, [], ℕ, zero, suc, List, Option, None, Some, refl, sym, ◌∙◌, append_assoc, arith}
use Rattle.raw_tree.proofs.Common.{AreFramesCanonical, AreKeysCanonical, BreachesKeys, Cause, Frame, HoldsAs, IsCanonicalUpTo, IsFrame, IsValueCanonical, Meaning, Means, RawValue, Sort}
use Rattle.raw_tree.proofs.Common.{keys_of_frames, map-append, value}
use Rattle.raw_tree.proofs.walk.Common.{BreachesHere, BreachesItself, FirstViolationTo, Violation, Step, breach_of, violations}
use Rattle.raw_view.proofs.Face.{no_frame_at_final, no_frame_at_stop, no_stop_at_final, one_frame, one_meaning}
use Rattle.raw_tree.specs.validator.Violations.{too_deep}
use Rattle.raw_tree.proofs.Returns.{canonical_up_to, frames_canonical_on}
use Rattle.raw_tree.proofs.validator.LevelKeys.{keys_front, key_nor_breach}
use Rattle.raw_tree.proofs.reader.OneTree.{one_value_of}
use Rattle.raw_tree.proofs.walk.First.{IsPassed, IsUnique, apart, deeper}
use Rattle.raw_tree.proofs.walk.OneEnd.{IsBlocked}

-- canonical frames

canonical_passed : (n : ℕ) (sort : Sort) (b : List ℕ) → IsCanonicalUpTo n sort b → IsPassed violations n sort b
canonical_passed zero sort b h = absurd h
canonical_passed (suc n) sort b (frames, walk, keys, values) = (frames, walk, (keys, values))

canonical_held : (N : Sort → List ℕ → Type 0) (v : RawValue) (sort : Sort) (d : List ℕ) → IsValueCanonical N v → HoldsAs v sort d → N sort d
canonical_held N v sort d h holds = grind arith

-- frames whose keys and values are canonical
abbrev AreCanonical : (Sort → List ℕ → Type 0) → Sort → List Frame → Type 0
AreCanonical P sort fs = AreKeysCanonical sort (keys_of_frames fs) × AreFramesCanonical P fs

-- one of them is canonical, and so is its key after those before it
frame_among : (P : Sort → List ℕ → Type 0) (ps : List Frame) (f : Frame) (more : List Frame) → AreFramesCanonical P (ps ++ f ∷ more)
    → (v : RawValue) × Means f (value v) × IsValueCanonical P v
frame_among P [] f more h = (h.0, h.1, h.2)
frame_among P (g ∷ ps) f more h = frame_among P ps f more h.3

among : (P : Sort → List ℕ → Type 0) (sort : Sort) (ps : List Frame) (f : Frame) (more : List Frame) → AreCanonical P sort (ps ++ f ∷ more)
    → AreKeysCanonical sort (keys_of_frames ps ++ f.key ∷ []) × (v : RawValue) × Means f (value v) × IsValueCanonical P v
among P sort ps f more h =
    let keys = rw (map-append (λ (x : Frame). x.key) ps (f ∷ more), ← append_assoc (keys_of_frames ps) (f.key ∷ []) (keys_of_frames more)) at h.0 in
    let v = frame_among P ps f more h.1 in
    (keys_front sort (keys_of_frames ps ++ f.key ∷ []) (keys_of_frames more) keys, v.0, v.1, v.2)

-- breaches at a front

itself_not_canonical : (N : Sort → List ℕ → Type 0) (v : RawValue) (why : Cause) → BreachesItself (value v) why → IsValueCanonical N v → ⊥
itself_not_canonical N v why h c = grind arith

itself_not_held : (v : RawValue) (sort : Sort) (d : List ℕ) (why : Cause) → HoldsAs v sort d → BreachesItself (value v) why → ⊥
itself_not_held v sort d why h b = grind arith

one_itself : (m : Meaning) (why other : Cause) → BreachesItself m why → BreachesItself m other → other ≡ why
one_itself m why other h g = grind arith

one_of_keys : (sort : Sort) (keys : List (List ℕ)) (key : List ℕ) (why other : Cause) → BreachesKeys sort keys key why → BreachesKeys sort keys key other → other ≡ why
one_of_keys sort keys key why other h g = grind arith

-- a frame breaches by its key or by its meaning
abbrev BreachesFrame : Sort → List (List ℕ) → Frame → Cause → Type 0
BreachesFrame sort keys f why = BreachesKeys sort keys f.key why ⊎ (AreKeysCanonical sort (keys ++ f.key ∷ []) × (m : Meaning) × Means f m × BreachesItself m why)

one_of_frame : (sort : Sort) (keys : List (List ℕ)) (f : Frame) (why other : Cause) → BreachesFrame sort keys f why → BreachesFrame sort keys f other → other ≡ why
one_of_frame sort keys f why other h g = grind (arith, key_nor_breach, one_meaning, one_itself, one_of_keys)

-- a frame whose key is canonical and whose value is no breach by itself doesn't breach
frame_nor_breach : (sort : Sort) (keys : List (List ℕ)) (f : Frame) (v : RawValue) (why : Cause) → AreKeysCanonical sort (keys ++ f.key ∷ []) → Means f (value v) → ¬ BreachesItself (value v) why
    → ¬ BreachesFrame sort keys f why
frame_nor_breach sort keys f v why more means none (inl bad) = key_nor_breach sort keys f.key why more bad
frame_nor_breach sort keys f v why more means none (inr bad) = none (rw (one_meaning f bad.1 (value v) bad.2 means) at bad.3)

module _ (sort : Sort) (keys : List (List ℕ)) (s : List ℕ) where
  breach_over : (key : Option (List ℕ)) (why : Cause) → s ≡ 0 ∷ [] → ¬ BreachesHere sort keys s key why
  breach_over None why e (fault, key, stop, why_is) = no_stop_at_final s fault key e stop
  breach_over (Some key) why e (f, r, at, key_is, bad) = no_frame_at_final s e f r at

  one_breach_here : (key other : Option (List ℕ)) (why cause : Cause) → BreachesHere sort keys s key why → BreachesHere sort keys s other cause → (other ≡ key) × (cause ≡ why)
  one_breach_here None None why cause h g = (refl, g.3 ∙ sym h.3)
  one_breach_here None (Some other) why cause h g = absurd (no_frame_at_stop s h.0 h.1 h.2 g.0 g.1 g.2)
  one_breach_here (Some key) None why cause h g = absurd (no_frame_at_stop s g.0 g.1 g.2 h.0 h.1 h.2)
  one_breach_here (Some key) (Some other) why cause (f, r, at, key_is, h) (g, q, there, other_is, k) =
      let same = (one_frame s g f q r there at).0 in
      (rw (key_is, other_is, same) refl, one_of_frame sort keys f why cause h (rw same at k))

  -- nothing is where a frame with a canonical key holds nested bytes
  pub none_breaches : {f : Frame} {r : List ℕ} (v : RawValue) (held_as : Sort) (d : List ℕ) → IsFrame s f r → Means f (value v) → HoldsAs v held_as d → AreKeysCanonical sort (keys ++ f.key ∷ [])
      → (key : Option (List ℕ)) (why : Cause) → ¬ BreachesHere sort keys s key why
  none_breaches {f} {r} v held_as d at means holds more None why (fault, key, stop, why_is) = no_frame_at_stop s fault key stop f r at
  none_breaches {f} {r} v held_as d at means holds more (Some key) why (g, q, there, key_is, breach) =
      frame_nor_breach sort keys f v why more means (itself_not_held v held_as d why holds) (rw (one_frame s g f q r there at).0 at breach)

breach_blocks : (n : ℕ) (sort : Sort) (ps : List Frame) (s : List ℕ) (key : Option (List ℕ)) (why : Cause) → BreachesHere sort (keys_of_frames ps) s key why
    → IsBlocked (AreCanonical (IsCanonicalUpTo n) sort) ps s
breach_blocks n sort ps s None why h f r more at c = no_frame_at_stop s h.0 h.1 h.2 f r at
breach_blocks n sort ps s (Some key) why (g, q, there, key_is, breach) f r more at c =
    let (keys, v, means, canonical) = among (IsCanonicalUpTo n) sort ps f more c in
    frame_nor_breach sort (keys_of_frames ps) f v why keys means (λ bad. itself_not_canonical (IsCanonicalUpTo n) v why bad canonical) (rw (one_frame s g f q r there at).0 at breach)

-- violations

pub violations_unique : IsUnique violations
violations_unique = record {
  over = λ sort ps s key x e h. breach_over sort (keys_of_frames ps) s key h.0 e h.2;
  one = λ sort ps s key other x y h g.
      let (key_is, why_is) = one_breach_here sort (keys_of_frames ps) s key other h.0 g.0 h.2 g.2 in
      (key_is, rw (h.1, g.1, why_is) refl);
  blocks = λ n sort ps s key x h. breach_blocks n sort ps s key h.0 h.2;
  inside = λ n sort ps f more v held_as d passed means holds.
      let (keys, w, also, canonical) = among (IsCanonicalUpTo n) sort ps f more passed in
      canonical_passed n held_as d (canonical_held (IsCanonicalUpTo n) v held_as d (rw (one_value_of f w v also means) at canonical) holds);
}

-- no bytes that have a violation within n levels are canonical
pub violation_apart : (n : ℕ) (sort : Sort) (b : List ℕ) (x : Violation) (path : List Step) (offset : ℕ) → FirstViolationTo n sort b x path offset → IsCanonicalUpTo n sort b → ⊥
violation_apart n sort b x path offset h c = apart violations_unique n sort b x path offset h (canonical_passed n sort b c)

-- no breach is a level that is too deep
pub never_deep : (sort : Sort) (ps : List Frame) (s : List ℕ) (key : Option (List ℕ)) → ¬ violations.is_at sort ps s key too_deep
never_deep sort ps s key (why, bad, h) = let same : too_deep ≡ breach_of why = bad in cc

-- a breach is first to each greater depth
pub breach_deeper : (n m : ℕ) → n ≤ m → (sort : Sort) (b : List ℕ) (why : Cause) (path : List Step) (offset : ℕ) → FirstViolationTo n sort b (breach_of why) path offset
    → FirstViolationTo m sort b (breach_of why) path offset
breach_deeper n m l sort b why path offset h =
    deeper violations (λ i j few of ps passed. (passed.0, frames_canonical_on (IsCanonicalUpTo i) (IsCanonicalUpTo j) (canonical_up_to i j few) ps passed.1))
    n m l sort b (breach_of why) path offset (λ bad. let same : breach_of why ≡ too_deep = bad in cc) h
