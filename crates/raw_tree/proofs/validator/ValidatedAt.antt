-- What the loop of a validation preserves, and what follows at its end.
use Rattle.std.proofs.Common.{◌≡◌, ◌∙◌, ◌≤◌, ◌<◌, ◌+◌, ◌-◌, ◌++◌, ◌∷◌, [], inl, ℕ, suc, List, Bool, Bor, Option, Some, length, arith, ap, refl, sym, subst}
use Rattle.raw_tree.proofs.Common.{AreKeysCanonical, Cause, Frame, HoldsAs, IsCanonicalUpTo, RawElement, RawValue, as_document, bytes_of, frame_of, keys_of_frames, length-map, texts}
use Rattle.raw_tree.proofs.walk.Common.{AreOpenKeys, BeginsAt, Enters, FirstViolationTo, GoesOn, HasKeysSoFar, IsAt, IsWithin, KeysSoFar, Leaves, LeavesOpenKeys, Level, RawDocument, Step, TellsValidated, Validated, Validates}
use Rattle.raw_tree.proofs.walk.Common.{Violation, Waiting, Walk, array_sort, breach_of, level_behind, option_copied, size_of, violations, whole_span, with_left}
use Rattle.raw_tree.specs.validator.Violations.{too_deep}
use Rattle.raw_tree.specs.declared.validator.step.Validated.TheVariants as validated
use Rattle.raw_tree.proofs.reader.Loops.{holds_bytes}
use Rattle.raw_tree.proofs.validator.LevelKeys.{keys_on}
use Rattle.raw_tree.proofs.validator.ValidatedLevels.{IsKept, IsValidated, all_validated, left_validated, none_kept, none_validated, validated_more, violates_inside, violations_outward, whole_keyed}
use Rattle.raw_tree.proofs.walk.First.{IsFront}
use Rattle.raw_tree.proofs.walk.Levels.{IsNext, at_goes_on, at_inside, at_outside, at_path, at_resumed, at_whole, front_outward, at_within, inside_fits, next_ends, next_within, none_inside, resumed_further}

-- a walk over this document within this depth is in a level; its keys so far, and those of the waiting levels
pub record IsValidatedAt (document : RawDocument) (depth : ℕ) (walk : Walk) (level : Level) (outer : List KeysSoFar) (listed : List (Bor (List ℕ))) (k : KeysSoFar) : Type 0 where
  pub most : ℕ
  pub at : IsAt IsKept (IsValidated outer listed k) whole_keyed document most walk level
  pub depth_is : suc most ≡ depth

module _ {document : RawDocument} {depth : ℕ} {walk : Walk} {level : Level} {outer : List KeysSoFar} {listed : List (Bor (List ℕ))} {k : KeysSoFar}
    (is : IsValidatedAt document depth walk level outer listed k) where
  pub open_keys : AreOpenKeys k listed
  open_keys = (is.at.levels.here.known.sort, is.at.levels.here.known.below, keys_of_frames is.at.frames, is.at.knows.keys, is.at.knows.keys_canonical)

  -- what a step says of what is next in the level, which continues with these keys
  pub record IsTold (new : Option (List ℕ)) (ks : KeysSoFar) (after : List (Bor (List ℕ))) (x : Validated) : Type 0 where
    pub tells : TellsValidated is.at.levels.here.known.sort is.at.levels.here.known.below (keys_of_frames is.at.frames) is.at.rest new ks after x

  pub told : {new : Option (List ℕ)} {ks : KeysSoFar} {after : List (Bor (List ℕ))} {x : Validated} → Validates level.elements k listed level.number new ks after x → IsTold new ks after x
  told {new} {ks} {after} {x} validates = record {
    tells = subst (λ (left : Option (List ℕ)). Validates left k listed level.number new ks after x) is.at.left_is validates is.at.levels.here.known.sort is.at.levels.here.known.below
        (keys_of_frames is.at.frames) is.at.knows.keys is.at.knows.keys_canonical (is.at.number_is ∙ sym (length-map is.at.frames (λ (f : Frame). f.key)));
  }

  -- a violation at the front of the rest of a level is the first of the document
  front_violates : (x : Violation) (key : Option (List ℕ))
      → ((here : ℕ) → BeginsAt is.at.levels.here.bytes is.at.rest here → IsFront violations is.at.levels.inside is.at.levels.here.known.sort is.at.frames is.at.levels.here.bytes
      is.at.rest x (record { number = length is.at.frames; key = key } ∷ []) here)
      → FirstViolationTo depth as_document (bytes_of document) x (at_path is.at ++ record { number = level.number; key = key } ∷ []) level.offset
  front_violates x key front =
      let at = is.at in
      let step : Step = record { number = length at.frames; key = key } in
      rw (← is.depth_is, at.number_is) (front_outward at (violations_outward (bytes_of document) x) step (λ here begins.
      (at.frames, at.rest, at.reaches, (at.knows.keys_canonical, at.knows.canonical), front here begins)))

  -- the walk continues like this, further on
  abbrev pub GoesFurther : Walk → Level → List KeysSoFar → List (Bor (List ℕ)) → KeysSoFar → Type 0
  GoesFurther new to outer listed k = IsValidatedAt document depth new to outer listed k × (length (bytes_of document) - to.offset < length (bytes_of document) - level.offset)

  module _ {new : Option (List ℕ)} {ks : KeysSoFar} {after : List (Bor (List ℕ))} {x : Validated} (is_told : IsTold new ks after x) where
    -- an element is passed
    module _ (e : RawElement) (x_is : x ≡ validated.Whole e) where
      whole_next : (v : RawValue) × IsNext is.at.rest e v new × IsValidated outer after ks is.at.levels.inside is.at.levels.here (is.at.frames ++ frame_of e ∷ [])
      whole_next =
          let (r, v, frame, means, new_is, has, more, single) = rw x_is at is_told.tells in
          (v, record { r = r; frame = frame; means = means; new_is = new_is }, validated_more is.at.knows (frame_of e) v means single has more)

      pub whole_within : IsWithin walk (with_left new level) e
      whole_within = let (v, next, knows) = whole_next in next_within is.at next

      pub validated_whole : {to : Level} → to ≡ level_behind (with_left new level) e → GoesFurther walk to outer after ks
      validated_whole to_is =
          let (v, next, knows) = whole_next in
          (record { most = is.most; at = at_whole is.at next to_is knows; depth_is = is.depth_is }, omega (arith, next_ends is.at next, ap (λ (l : Level). l.offset) to_is))

    module _ (e : RawElement) (inner : RawDocument) (is_array : Bool) (x_is : x ≡ validated.Inside e inner is_array) where
      inside_next : (v : RawValue) × IsNext is.at.rest e v new × HoldsAs v (array_sort is_array) (bytes_of inner)
          × HasKeysSoFar ks after is.at.levels.here.known.sort is.at.levels.here.known.below (keys_of_frames is.at.frames ++ (frame_of e).key ∷ [])
          × AreKeysCanonical is.at.levels.here.known.sort (keys_of_frames is.at.frames ++ (frame_of e).key ∷ [])
      inside_next =
          let (r, v, frame, means, new_is, has, more, holds) = rw x_is at is_told.tells in
          (v, record { r = r; frame = frame; means = means; new_is = new_is }, holds, has, more)

      pub inside_within : IsWithin walk (with_left new level) e × (length (bytes_of inner) ≤ size_of (frame_of e))
      inside_within = let (v, next, holds, has, more) = inside_next in (next_within is.at next, inside_fits is.at next inner (holds_bytes v (array_sort is_array) (bytes_of inner) holds))

      -- the level in it is entered
      pub validated_inside : {then : Walk} {to : Level} {j : KeysSoFar} → Enters walk (with_left new level) then to e inner → HasKeysSoFar j after (array_sort is_array) (texts after) []
          → IsValidatedAt document depth then to (outer ++ ks ∷ []) after j
      validated_inside enters begins =
          let (v, next, holds, has, more) = inside_next in
          let i = is.at.levels.here in
          let own : List (List ℕ) = keys_of_frames is.at.frames ++ (frame_of e).key ∷ [] in
          let held = holds_bytes v (array_sort is_array) (bytes_of inner) holds in
          record {
            most = is.most;
            at = at_inside is.at next inner held (record { sort = array_sort is_array; below = texts after; outer = outer ++ ks ∷ [] }) enters (λ n fewer. (
              record {
                k = ks;
                outer_is = ap (λ (others : List KeysSoFar). others ++ ks ∷ []) is.at.knows.outer_is;
                holds = holds;
                keys = λ refs same. keys_on ks after refs i.known.sort i.known.below own has same;
                keys_canonical = more;
                canonical = rw fewer at is.at.knows.canonical;
              },
              none_validated n _ refl begins,
            ));
            depth_is = is.depth_is;
          }

      pub inside_nearer : {then : Walk} {to : Level} → Enters walk (with_left new level) then to e inner → length (bytes_of document) - to.offset < length (bytes_of document) - level.offset
      inside_nearer enters =
          let (v, next, holds, has, more) = inside_next in
          omega (arith, next_ends is.at next, inside_within.1, ap (λ (l : Level). l.offset) enters.level_is)

      -- or the level in it is too deep
      pub validated_deep : walk.most_waiting ≤ length walk.waiting.items
          → FirstViolationTo depth as_document (bytes_of document) too_deep (at_path is.at ++ record { number = level.number; key = Some (frame_of e).key } ∷ []) level.offset
      validated_deep full =
          let (v, next, holds, has, more) = inside_next in
          let l = is.at.levels in
          let deep : FirstViolationTo l.inside (array_sort is_array) (bytes_of inner) too_deep [] 0 = rw (none_inside is.at full) (refl, refl, refl) in
          front_violates too_deep (Some (frame_of e).key) (λ here begins. violates_inside l.inside l.here.bytes l.here.known.sort is.at.frames v (array_sort is_array)
          (bytes_of inner) here (next.frame, next.means, holds) more (too_deep, [], 0, deep) begins)

    -- the element is a breach
    pub validated_breach : (key : Option (Bor (List ℕ))) (why : Cause) → x ≡ validated.Breach key why
        → FirstViolationTo depth as_document (bytes_of document) (breach_of why) (at_path is.at ++ record { number = level.number; key = option_copied key } ∷ []) level.offset
    validated_breach key why x_is = front_violates (breach_of why) (option_copied key) (λ here begins. inl (option_copied key, (why, refl, rw x_is at is_told.tells), refl, begins))

    module _ (x_is : x ≡ validated.End) where
      final : is.at.rest ≡ 0 ∷ []
      final = let (over, has) = rw x_is at is_told.tells in over

      pub validated_goes_on : (others : List Waiting) (w : Waiting) → walk.waiting.items ≡ others ++ w ∷ [] → GoesOn (bytes_of walk.document) w (level.offset + 1)
      validated_goes_on = at_goes_on is.at final

      -- the document is canonical
      pub validated_end : walk.waiting.items ≡ [] → IsCanonicalUpTo depth as_document (bytes_of document)
      validated_end none =
          let (here_is, inside_is) = at_outside is.at none in
          rw (← is.depth_is) (rw (here_is, inside_is) at (all_validated is.at.knows is.at.reaches final))

      pub validated_over : outer ≡ [] → IsCanonicalUpTo depth as_document (bytes_of document)
      validated_over none =
          let l = is.at.levels in
          validated_end (l.stored ∙ none_kept (whole_span whole_keyed document) l.inside l.waits l.here l.held (sym is.at.knows.outer_is ∙ none))

      -- the waiting level continues
      pub validated_outside : {then : Walk} {to : Level} {left_list : List (Bor (List ℕ))} (less : List KeysSoFar) (j : KeysSoFar) → Leaves walk level.offset then to → outer ≡ less ++ j ∷ []
          → LeavesOpenKeys ks after left_list → GoesFurther then to less left_list j
      validated_outside {left_list = left_list} less j leaves outer_is leaves_keys =
          let (over, has) = rw x_is at is_told.tells in
          let i = is.at.levels.here in
          let below = leaves_keys i.known.sort i.known.below (keys_of_frames is.at.frames) has in
          let at = at_resumed is.at final leaves (λ w held. left_validated is.at.knows left_list held is.at.reaches final outer_is below) in
          (record { most = is.most; at = at; depth_is = is.depth_is }, omega (arith, resumed_further is.at final leaves, (at_within at).0))
