use Rattle.std.proofs.Common.{rules, ◌≡◌, ◌≤◌, ◌+◌, ◌++◌, ◌∷◌, ◌∙◌, [], ℕ, List, Bor, Option, None, Some, Result, Ok, Err, IfOk, arith, length, drop, length-drop, ap, refl, subst}
use Rattle.raw_tree.proofs.Common.{Error, RawElement, as_document, bytes_of, frame_of, texts}
use Rattle.raw_tree.proofs.walk.Common.{EndsTooDeep, Found, HasKeysSoFar, IsTooDeep, Level, Place, Step, Walk, WalkError, array_sort, option_copied, steps_of, violation_of}
use Rattle.raw_tree.specs.declared.walk.WalkError.TheVariants as error
use Rattle.raw_tree.proofs.walk.Levels.{at_outermost, at_path, at_steps, path_stored}
use Rattle.raw_tree.proofs.walk.Starts.{at_start, first_behind}
use Rattle.raw_tree.proofs.validator.ValidatedAt.{IsTold, inside_nearer, inside_within, open_keys, told, validated_breach, validated_deep, validated_end, validated_goes_on, validated_inside, validated_outside, validated_over, validated_whole, whole_within}
use Rattle.raw_tree.proofs.validator.ValidatedLevels.{none_validated, whole_keyed}
use Rattle.raw_tree.proofs.validator.within.validate_to_depth.Goals as goal
use Rattle.raw_tree.proofs.validator.within.validate_to_depth.Goals.{In_ok-element, In_ok-place-in-Breach}

-- what holds of the level that was too deep holds of what is found
deep_found : (P : Option Found → Type 0) (walk : Walk) (from : Level) (outer : List Step) (e : RawElement) (outermost : ℕ)
    → ((found : Found) → walk.most_waiting ≤ length walk.waiting.items → found.cause ≡ None → steps_of found.place ≡ outer ++ record { number = from.number; key = Some (frame_of e).key } ∷ []
    → found.place.offset ≡ from.offset → found.outermost ≡ outermost → P (Some found))
    → (answer : WalkError) (r : Result (Option Found) Error) → IsTooDeep walk from outer e answer → IfOk r (EndsTooDeep outermost answer) → IfOk r P
deep_found P walk from outer e outermost tells answer (Err x) deep ends = tt
deep_found P walk from outer e outermost tells error.OutOfMemory (Ok found) deep ends = absurd ends
deep_found P walk from outer e outermost tells (error.Barrier b) (Ok None) deep ends = absurd ends
deep_found P walk from outer e outermost tells (error.Barrier b) (Ok (Some found)) (full, (kind_is, steps_is, offset_is)) (cause_is, place_is, outermost_is) =
    tells found full cause_is (ap steps_of place_is ∙ steps_is) (ap (λ (p : Place). p.offset) place_is ∙ offset_is) outermost_is

-- what holds of the element that was validated
told_as : (c : In_ok-element) → IsTold c.elements.invariant c.validate_next.new.elements c.validate_next.new.keys c.validate_next.new.listed.items c.in_ok-element.field-0
told_as c = told c.elements.invariant c.in_ok-element.ensures.validates

pub elements-init : goal.elements-init
elements-init c =
    let b = bytes_of c.args.document in
    let has : HasKeysSoFar c.of_document-keys.result c.new-listed.result.items as_document (texts c.new-listed.result.items) [] =
    subst (λ (xs : List (Bor (List ℕ))). HasKeysSoFar c.of_document-keys.result xs as_document (texts xs) []) c.deref.ensures.value
    c.of_document-keys.ensures in
    let walk = c.new-walk.result.0 in
    let begins : 4 + length (drop 4 b) ≡ length b = omega (arith, length-drop 4 b, c.args.document.envelope.enough) in
    record {
      most = walk.most_waiting;
      at = at_start c.new-walk.ensures.level whole_keyed [] (drop 4 b) refl begins c.new-walk.ensures.number
          (none_validated walk.most_waiting _ c.new-outer_keys.ensures.items (rw (ap texts c.new-listed.ensures.items) at has));
      depth_is = search rules;
    }

pub returns-in_default-clause-outermost : goal.returns-in_default-clause-outermost
returns-in_default-clause-outermost c = rw (c.whole.ensures.path) (first_behind (bytes_of c.args.document) c.args.document.envelope.enough)

pub validate_next-requires : goal.validate_next-requires
validate_next-requires c = open_keys c.elements.invariant

pub pass-requires : goal.pass-requires
pass-requires c = whole_within c.elements.invariant (told_as (goal.at.pass-requires c).In_ok-element) c.in-Whole.element c.in-Whole.is

pub elements-smaller-in-Whole : goal.elements-smaller-in-Whole
elements-smaller-in-Whole c =
    (validated_whole c.elements.invariant (told_as (goal.at.elements-smaller-in-Whole c).In_ok-element) c.in-Whole.element c.in-Whole.is c.pass.ensures).1

pub elements-preserved-in-Whole : goal.elements-preserved-in-Whole
elements-preserved-in-Whole c =
    (validated_whole c.elements.invariant (told_as (goal.at.elements-preserved-in-Whole c).In_ok-element) c.in-Whole.element c.in-Whole.is c.pass.ensures).0

pub enter-requires-clause-within : goal.enter-requires-clause-within
enter-requires-clause-within c =
    (inside_within c.elements.invariant (told_as (goal.at.enter-requires-clause-within c).In_ok-element) c.in-Inside.element c.in-Inside.inner c.in-Inside.is_array c.in-Inside.is).0

pub enter-requires-clause-inner : goal.enter-requires-clause-inner
enter-requires-clause-inner c =
    (inside_within c.elements.invariant (told_as (goal.at.enter-requires-clause-inner c).In_ok-element) c.in-Inside.element c.in-Inside.inner c.in-Inside.is_array c.in-Inside.is).1

pub enter-requires-clause-path : goal.enter-requires-clause-path
enter-requires-clause-path c = path_stored c.elements.invariant.at

pub leave-requires : goal.leave-requires
leave-requires c = validated_goes_on c.elements.invariant (told_as (goal.at.leave-requires c).In_ok-element) c.in-End.is

pub returns-in-Err-clause-found : goal.returns-in-Err-clause-found
returns-in-Err-clause-found c =
    let is = c.elements.invariant in
    let told = told_as (goal.at.returns-in-Err-clause-found c).In_ok-element in
    deep_found _ c.elements.walk c.elements.level (at_path is.at) c.in-Inside.element c.outermost-outermost.result (λ found full cause_is steps_is offset_is outermost_is.
    rw (ap violation_of cause_is, steps_is, offset_is) (validated_deep is told c.in-Inside.element c.in-Inside.inner c.in-Inside.is_array c.in-Inside.is full))
    c.in-Err.error c.too_deep.result (c.in-Err.ensures.ends (at_path is.at) (at_steps is.at)) c.too_deep.ensures.found

pub returns-in-Err-clause-outermost : goal.returns-in-Err-clause-outermost
returns-in-Err-clause-outermost c =
    let is = c.elements.invariant in
    deep_found _ c.elements.walk c.elements.level (at_path is.at) c.in-Inside.element c.outermost-outermost.result (λ found full cause_is steps_is offset_is outermost_is.
    rw (steps_is, outermost_is, c.outermost-outermost.ensures) (at_outermost is.at (Some (frame_of c.in-Inside.element).key)))
    c.in-Err.error c.too_deep.result (c.in-Err.ensures.ends (at_path is.at) (at_steps is.at)) c.too_deep.ensures.found

pub elements-smaller-else-is_err : goal.elements-smaller-else-is_err
elements-smaller-else-is_err c =
    let told = told_as (goal.at.elements-smaller-else-is_err c).In_ok-element in
    inside_nearer c.elements.invariant told c.in-Inside.element c.in-Inside.inner c.in-Inside.is_array c.in-Inside.is c.in_default-enter.ensures.entered

pub elements-preserved-else-is_err : goal.elements-preserved-else-is_err
elements-preserved-else-is_err c =
    let after = c.validate_next.new.listed.items in
    let keys_grown : c.push.new.self.items ≡ c.elements.outer_keys.items ++ c.validate_next.new.keys ∷ [] = search rules in
    let has : HasKeysSoFar c.keys_of.result after (array_sort c.in-Inside.is_array) (texts after) [] =
    subst (λ (xs : List (Bor (List ℕ))). HasKeysSoFar c.keys_of.result xs (array_sort c.in-Inside.is_array) (texts xs) []) c.deref-in-Inside.ensures.value
    c.keys_of.ensures in
    rw (keys_grown, c.replace-keys.ensures.after)
    (validated_inside c.elements.invariant (told_as (goal.at.elements-preserved-else-is_err c).In_ok-element) c.in-Inside.element c.in-Inside.inner c.in-Inside.is_array c.in-Inside.is
    c.in_default-enter.ensures.entered has)

pub place_in-requires : goal.place_in-requires
place_in-requires c =
    let is = c.elements.invariant in
    (at_path is.at, rw (c.deref-in-Breach.ensures.value, ← is.at.levels.document_is) (at_steps is.at))

-- the steps of the place of a breach
breach_at : (c : In_ok-place-in-Breach) → steps_of c.in_ok-place-in-Breach.place
    ≡ at_path c.elements.invariant.at ++ record { number = c.elements.level.number; key = option_copied c.in-Breach.key } ∷ []
breach_at c =
    let is = c.elements.invariant in
    c.in_ok-place-in-Breach.ensures.path (at_path is.at) (rw (c.deref-in-Breach.ensures.value, ← is.at.levels.document_is) (at_steps is.at))

pub returns-in-Breach-clause-found : goal.returns-in-Breach-clause-found
returns-in-Breach-clause-found c =
    let at = goal.at.returns-in-Breach-clause-found c in
    rw (breach_at at.In_ok-place-in-Breach, c.in_ok-place-in-Breach.ensures.offset)
    (validated_breach c.elements.invariant (told_as at.In_ok-element) c.in-Breach.key c.in-Breach.cause c.in-Breach.is)

pub returns-in-Breach-clause-outermost : goal.returns-in-Breach-clause-outermost
returns-in-Breach-clause-outermost c =
    rw (breach_at (goal.at.returns-in-Breach-clause-outermost c).In_ok-place-in-Breach, c.outermost.ensures) (at_outermost c.elements.invariant.at (option_copied c.in-Breach.key))

pub returns-in_default-pop-clause-found : goal.returns-in_default-pop-clause-found
returns-in_default-pop-clause-found c = validated_over c.elements.invariant (told_as (goal.at.returns-in_default-pop-clause-found c).In_ok-element) c.in-End.is (search rules)

pub returns-then-not-leave-clause-found : goal.returns-then-not-leave-clause-found
returns-then-not-leave-clause-found c =
    validated_end c.elements.invariant (told_as (goal.at.returns-then-not-leave-clause-found c).In_ok-element) c.in-End.is c.if-not-leave.ensures

pub elements-smaller : goal.elements-smaller
elements-smaller c =
    (validated_outside c.elements.invariant (told_as (goal.at.elements-smaller c).In_ok-element) c.in-End.is c.pop.new.self.items c.in-Some-pop.outer_key
    c.if-not-leave.ensures c.in-Some-pop.ensures.items c.leave-in-End.ensures).1

pub elements-preserved : goal.elements-preserved
elements-preserved c =
    (validated_outside c.elements.invariant (told_as (goal.at.elements-preserved c).In_ok-element) c.in-End.is c.pop.new.self.items c.in-Some-pop.outer_key
    c.if-not-leave.ensures c.in-Some-pop.ensures.items c.leave-in-End.ensures).0
