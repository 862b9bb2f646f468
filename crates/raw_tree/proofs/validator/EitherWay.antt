-- To each depth bytes with an envelope are canonical or have a first violation.
use Rattle.std.proofs.Common.{◌≡◌, ◌⊎◌, inl, inr, ◌≤◌, ◌-◌, ◌++◌, ◌∷◌, [], ℕ, zero, suc, List, Option, None, Some, length, decimal, drop, arith, refl, length-drop, bytes_eq}
use Rattle.std.proofs.lemmas.Bool.{cases_Bool}
use Rattle.std.proofs.lemmas.Cmp.{nat_list_eq_equiv}
use Rattle.std.proofs.lemmas.Map.Keys.{IsDistinct-push}
use Rattle.raw_tree.proofs.Common.{AreBytes, AreFramesCanonical, AreKeysCanonical, BreachesKeys, Cause, DoLeafOptionsAscend, Done, End, Frame, HoldsAs, IsCanonicalUpTo, IsEnvelope, IsFrame, IsValueCanonical, IsWalk}
use Rattle.raw_tree.proofs.Common.{Leaf, LeadsTo, Meaning, Means, RawValue, Sort, Stopped, as_array, as_document, bytes_decides, faulty, keys_of_frames, regular_expression, value}
use Rattle.raw_tree.proofs.walk.Common.{BeginsAt, BreachesHere, BreachesItself, FirstViolationTo, Step, Violation, breach_of}
use Rattle.bson_model.proofs.Face.{AreBytes-drop, options_decided}
use Rattle.raw_view.specs.Meaning as raw
use Rattle.raw_view.proofs.Face.{LeadsTo-bound, LeadsTo-more, LeadsTo-walk, has_meaning, AreBytes-rest, document_has_walk}
use Rattle.raw_tree.specs.validator.Violations.{too_deep}
use Rattle.raw_tree.specs.declared.validator.breach.Cause.TheVariants as cause
use Rattle.key_set.proofs.Face.{place_where}
use Rattle.raw_tree.proofs.validator.LevelKeys.{array_key, frames_more, keys_more, no_keys}
use Rattle.raw_tree.proofs.validator.ValidatedLevels.{held_canonical, violates_inside}
use Rattle.raw_tree.proofs.walk.First.{some_offset}
use Rattle.raw_tree.proofs.reader.Loops.{holds_bytes, nested_beside, nested_envelope}

-- bytes are canonical to a depth, or have a first violation
abbrev pub IsEither : ℕ → Sort → List ℕ → Type 0
IsEither n sort b = IsCanonicalUpTo n sort b ⊎ ((x : Violation) × (path : List Step) × (offset : ℕ) × FirstViolationTo n sort b x path offset)

-- a key after canonical keys keeps them canonical, or is a breach
key_decided : (sort : Sort) (keys : List (List ℕ)) (key : List ℕ) → AreKeysCanonical sort keys → AreKeysCanonical sort (keys ++ key ∷ []) ⊎ ((why : Cause) × BreachesKeys sort keys key why)
key_decided as_document keys key h = grind (arith, place_where keys key, IsDistinct-push nat_list_eq_equiv keys key h)
key_decided as_array keys key h = grind (arith, array_key keys key h, cases_Bool (bytes_eq key (decimal (length keys))), bytes_decides key (decimal (length keys)))

leaf_decided : (l : Leaf) → DoLeafOptionsAscend l ⊎ ¬ DoLeafOptionsAscend l
leaf_decided (regular_expression pattern options) = options_decided options
leaf_decided _ = inl tt

-- a meaning is a breach by itself, or a value that is canonical if the bytes that it holds are
abbrev IsDecided : (Sort → List ℕ → Type 0) → Meaning → Type 0
IsDecided N m = ((why : Cause) × BreachesItself m why) ⊎ ((v : RawValue) × (m ≡ value v) × (IsValueCanonical N v ⊎ ((sort : Sort) × (d : List ℕ) × HoldsAs v sort d)))

meaning_decided : (N : Sort → List ℕ → Type 0) (m : Meaning) → IsDecided N m
meaning_decided N (faulty fault) = inl (cause.Value, refl)
meaning_decided N (value (raw.single l)) = single_decided (leaf_decided l)
  where
    single_decided : DoLeafOptionsAscend l ⊎ ¬ DoLeafOptionsAscend l → IsDecided N (value (raw.single l))
    single_decided (inl ascend) = inr (raw.single l, refl, inl ascend)
    single_decided (inr descend) = inl (cause.Options, (descend, refl))
meaning_decided N (value (raw.document d)) = inr (raw.document d, refl, inr (as_document, d, (refl, refl)))
meaning_decided N (value (raw.array d)) = inr (raw.array d, refl, inr (as_array, d, (refl, refl)))
meaning_decided N (value (raw.scoped code d)) = inr (raw.scoped code d, refl, inr (as_document, d, (refl, refl)))

module _ (n : ℕ) (nested : (sort : Sort) (d : List ℕ) → IsEnvelope d → IsEither n sort d) (sort : Sort) (b : List ℕ) where
  -- canonical frames of b lead to s
  record Passed (passed : List Frame) (s : List ℕ) : Type 0 where
    reaches : LeadsTo (drop 4 b) passed s
    keys : AreKeysCanonical sort (keys_of_frames passed)
    values : AreFramesCanonical (IsCanonicalUpTo n) passed
    bytes : AreBytes s

  shorter : {passed : List Frame} {s : List ℕ} → Passed passed s → length s ≤ length b
  shorter {passed} {s} has = omega (arith, LeadsTo-bound (drop 4 b) passed s has.reaches, length-drop 4 b)

  breaches : {passed : List Frame} {s : List ℕ} → Passed passed s → (key : Option (List ℕ)) (why : Cause) → BreachesHere sort (keys_of_frames passed) s key why → IsEither (suc n) sort b
  breaches {passed} {s} has key why breach =
      let here : ℕ = length b - length s in
      let begins : BeginsAt b s here = omega (arith, shorter has) in
      inr (breach_of why, record { number = length passed; key = key } ∷ [], here, (passed, s, has.reaches, (has.keys, has.values), inl (key, (why, refl, breach), refl, begins)))

  violates : {passed : List Frame} {s : List ℕ} {f : Frame} {r : List ℕ} (v : RawValue) (held_as : Sort) (d : List ℕ) → Passed passed s
      → IsFrame s f r × Means f (value v) × HoldsAs v held_as d → AreKeysCanonical sort (keys_of_frames passed ++ f.key ∷ [])
      → (x : Violation) × (steps : List Step) × (inside : ℕ) × FirstViolationTo n held_as d x steps inside → IsEither (suc n) sort b
  violates {passed} {s} {f} {r} v held_as d has (at, means, holds) more (x, steps, inside, first) =
      let beside = nested_beside s f r v d at means (holds_bytes v held_as d holds) in
      let (offset, there) = some_offset b s d r steps inside (shorter has) (omega (arith, beside)) in
      let front = violates_inside n b sort passed v held_as d offset (at, means, holds) more (x, steps, inside, first) there in
      inr (x, record { number = length passed; key = Some f.key } ∷ steps, offset, (passed, s, has.reaches, (has.keys, has.values), front))

  along : (frames : List Frame) (end : End) (passed : List Frame) (s : List ℕ) → Passed passed s → IsWalk s frames end → IsEither (suc n) sort b
  along [] Done passed s has w = inl (passed, LeadsTo-walk (drop 4 b) passed s Done has.reaches w, has.keys, has.values)
  along [] (Stopped fault key) passed s has w = breaches has None cause.Stop (fault, key, w, refl)
  along (f ∷ frames) end passed s has (r, at, w) =
      let (m, means) = has_meaning f r s has.bytes at in
      elim (key_decided sort (keys_of_frames passed) f.key has.keys) [
        | inr bad ↦ breaches has (Some f.key) bad.0 (f, r, at, refl, inl bad.1)
        | inl more ↦ elim (meaning_decided (IsCanonicalUpTo n) m) [
          | inr good ↦ (
              let is : Means f (value good.0) = rw good.1 at means in
              let next = λ (canonical : IsValueCanonical (IsCanonicalUpTo n) good.0).
              along frames end (passed ++ f ∷ []) r (record {
                reaches = LeadsTo-more (drop 4 b) passed s f r has.reaches at;
                keys = rw (keys_more passed f) more;
                values = frames_more (IsCanonicalUpTo n) passed f good.0 has.values is canonical;
                bytes = AreBytes-rest s f r at has.bytes;
              }) w in
              elim good.2 [
                | inl canonical ↦ next canonical
                | inr held ↦ elim (nested held.0 held.1 (nested_envelope s f r good.0 held.1 at is (holds_bytes good.0 held.0 held.1 held.2))) [
                  | inl canonical ↦ next (held_canonical (IsCanonicalUpTo n) good.0 held.0 held.1 held.2 canonical)
                  | inr bad ↦ violates good.0 held.0 held.1 has (at, is, held.2) more bad
                ]
              ])
          | inl bad ↦ breaches has (Some f.key) bad.0 (f, r, at, refl, inr (more, m, means, bad.1))
        ]
      ]

pub either_to : (n : ℕ) (sort : Sort) (b : List ℕ) → IsEnvelope b → IsEither n sort b
either_to zero sort b env = inr (too_deep, [], 0, (refl, refl, refl))
either_to (suc n) sort b env =
    let w = document_has_walk b env in
    along n (either_to n) sort b w.0 w.1 [] (drop 4 b) (record { reaches = refl; keys = no_keys sort; values = tt; bytes = AreBytes-drop 4 b env.bytes }) w.2
