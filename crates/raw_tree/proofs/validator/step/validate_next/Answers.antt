use Rattle.std.proofs.Common.{◌≡◌, ℕ, List, Bor, Option, None, Some, Ok, Err, refl, subst, sym, inl, inr}
use Rattle.raw_tree.proofs.Common.{BorrowedError, RawElement, StepsFront, frame_of}
use Rattle.raw_tree.specs.validator.ValidationSteps.{AddsOpenKey}
use Rattle.raw_tree.proofs.walk.Common.{BreachesHere, KeysSoFar, TellsValue, Validated, Validates, option_copied}
use Rattle.raw_tree.specs.declared.validator.breach.Cause.{Cause}
use Rattle.raw_tree.specs.declared.validator.breach.Cause.TheVariants as cause
use Rattle.raw_tree.specs.declared.validator.step.Validated.TheVariants as validated
use Rattle.raw_view.proofs.Face.{stop_said}
use Rattle.raw_tree.proofs.validator.step.validate_next.Goals as goal

validates_stop : (old new : Option (List ℕ)) (e : BorrowedError) (ks k : KeysSoFar) (before after : List (Bor (List ℕ))) (number : ℕ)
    → StepsFront old (Some (Err e)) new → Validates old ks before number new k after (validated.Breach None cause.Stop)
validates_stop None new e ks k before after number st = tt
validates_stop (Some s) new e ks k before after number st =
    let (fault, says, stop) = stop_said e.kind (option_copied e.key) s st.0 in
    λ sort below own h canonical n. (fault, option_copied e.key, stop, refl)

-- an element with this key is next, and is a breach
validates_key : (old new : Option (List ℕ)) (e : RawElement) (ks k : KeysSoFar) (before after : List (Bor (List ℕ))) (number : ℕ) (key : Bor (List ℕ)) (why : Cause)
    → StepsFront old (Some (Ok e)) new × (key.now ≡ (frame_of e).key) → AddsOpenKey ks before number (frame_of e).key k after (Some why)
    → Validates old ks before number new k after (validated.Breach (Some key) why)
validates_key None new e ks k before after number key why next adds = tt
validates_key (Some s) new e ks k before after number key why (st, is) adds = λ sort below own h canonical n. (frame_of e, st.0, st.1, is, inl (adds sort below own h canonical n))

-- or the key is canonical, and the value says how the level continues
validates_value : (old new : Option (List ℕ)) (e : RawElement) (ks k : KeysSoFar) (before after : List (Bor (List ℕ))) (number : ℕ) (answer : Validated) → StepsFront old (Some (Ok e)) new
    → AddsOpenKey ks before number (frame_of e).key k after None → TellsValue e answer → Validates old ks before number new k after answer
validates_value None new e ks k before after number answer st adds tells = tt
validates_value (Some s) new e ks k before after number validated.End st adds tells = absurd tells
validates_value (Some s) new e ks k before after number (validated.Whole same) st adds (is, v, means, single) =
    rw is (λ sort below own h canonical n. let (has, more) = adds sort below own h canonical n in (st.0, v, st.1, means, st.2, has, more, single))
validates_value (Some s) new e ks k before after number (validated.Inside same inner is_array) st adds (is, v, means, holds) =
    rw is (λ sort below own h canonical n. let (has, more) = adds sort below own h canonical n in (st.0, v, st.1, means, st.2, has, more, holds))
validates_value (Some s) new e ks k before after number (validated.Breach key why) st adds (is, m, means, breaches) =
    λ sort below own h canonical n. subst (λ (x : Option (List ℕ)). BreachesHere sort own s x why) (sym is)
    (frame_of e, st.0, st.1, refl, inr ((adds sort below own h canonical n).1, m, means, breaches))

pub returns-in-Some-Err-clause-validates : goal.returns-in-Some-Err-clause-validates
returns-in-Some-Err-clause-validates c =
    validates_stop c.args.elements.now c.next.new.self c.in-Some-Err.field-0-0 c.args.keys.now c.args.keys.now c.args.listed.now.items c.args.listed.now.items
    c.args.number (rw c.in-Some-Err.field-0-is at c.in-Some-Err.ensures.steps)

pub returns-in-Some-clause-validates : goal.returns-in-Some-clause-validates
returns-in-Some-clause-validates c =
    validates_key c.args.elements.now c.next.new.self c.in-Some-Ok.element c.args.keys.now c.add.new.self c.args.listed.now.items c.add.new.listed.items c.args.number
    c.key-key.result c.in-Some.cause (rw c.in-Some-Ok.field-0-is at c.in-Some-Ok.ensures.steps, c.key-key.ensures) (rw (c.key-key.ensures, c.in-Some.is) at c.in_ok-cause.ensures.adds)

pub returns-in-None-2-clause-validates : goal.returns-in-None-2-clause-validates
returns-in-None-2-clause-validates c =
    validates_value c.args.elements.now c.next.new.self c.in-Some-Ok.element c.args.keys.now c.add.new.self c.args.listed.now.items c.add.new.listed.items c.args.number
    c.validate_value.result (rw c.in-Some-Ok.field-0-is at c.in-Some-Ok.ensures.steps) (rw (c.key-key.ensures, c.in-None-2.is) at c.in_ok-cause.ensures.adds) c.validate_value.ensures
