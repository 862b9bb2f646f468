-- Steps of the iterator.
use Rattle.std.proofs.Common.{◌≡◌, ℕ, List, [], ◌∷◌, ◌++◌, ap, sym, ◌∙◌, subst, refl, Option, Some, None, Result, Ok, Err, append_assoc, inl, inr}
use Rattle.raw_view.specs.declared.element.RawElement.{RawElement}
use Rattle.raw_view.specs.declared.error.Error.{Error}
use Rattle.raw_view.specs.declared.error.ErrorKind.{ErrorKind}
use Rattle.raw_view.specs.declared.error.ErrorKind.TheVariants as what
use Rattle.raw_view.specs.Frame.{Frame, IsFrame, IsStop, Fault, Malformed, Utf8, IsWalk, End, Done, Stopped}
use Rattle.std.specs.Iterator.{Yields, Drains}
use Rattle.std.specs.Option.{option_copied}
use Rattle.raw_view.specs.declared.error.BorrowedError.{BorrowedError}
use Rattle.raw_view.specs.Meaning.{KeyedFault}
use Rattle.raw_view.specs.Errors.Answers.{Says}
use Rattle.raw_view.specs.Frame.Front.{StopsWith, StepsFront, TellsBorrowed}
use Rattle.raw_view.specs.Errors.{SaysFault, CarriesKey, HasKeyCopy, IsReadingKind, TellsFault}
use Rattle.raw_view.specs.Frame.ElementSteps.{StepsElement, frame_of, ListsWalk}
use Rattle.raw_view.specs.Frame.Kind.{tag_of}

pub front_and_rest : (s : List ℕ) (f : Frame) (r : List ℕ) → IsFrame s f r → s ≡ (tag_of f.kind ∷ (f.key ++ 0 ∷ f.payload)) ++ r
front_and_rest s f r b = b.spelled ∙ ap (λ x. tag_of f.kind ∷ x) (sym (append_assoc f.key (0 ∷ f.payload) r))

-- what carries the key with a kind that satisfies P does so with Q
pub carries : (P Q : ErrorKind → Type 0) (key : Option (List ℕ)) (e : Error) → (P e.kind → Q e.kind) → CarriesKey P key e → CarriesKey Q key e
carries P Q None e f h = (f h.0, h.1)
carries P Q (Some key) e f h = elim h as (λ _. CarriesKey Q (Some key) e) [
  | inl a ↦ inl (f a.0, a.1)
  | inr a ↦ inr a
]

-- an error with a copy of its key says the fault
pub told_kind : (k : ErrorKind) (key : Option (List ℕ)) (fault : Fault) (e : Error) → IsReadingKind k → SaysFault k fault → HasKeyCopy k key e → TellsFault e fault key
told_kind k key fault e reading h is =
    let says : ErrorKind → Type 0 = λ x. SaysFault x fault × IsReadingKind x in
    carries (λ x. x ≡ k) says key e (λ same. subst says (sym same) (h, reading)) is

pub told_fault : (b : BorrowedError) (fault : KeyedFault) (e : Error) → TellsBorrowed b fault → HasKeyCopy b.kind (option_copied b.key) e → Says e fault
told_fault b fault e h is = told_kind b.kind fault.key fault.fault e b.reading h.says (subst (λ (x : Option (List ℕ)). HasKeyCopy b.kind x e) h.key_is is)

told : (k : ErrorKind) (key : Option (List ℕ)) (s : List ℕ) (e : Error) → IsReadingKind k → StopsWith k key s → HasKeyCopy k key e
    → (fault : Fault) × (told : Option (List ℕ)) × IsStop s fault told × TellsFault e fault told
told (what.MalformedValue r) key s e reading says is = (Malformed r, key, says, told_kind (what.MalformedValue r) key (Malformed r) e reading refl is)
told (what.Utf8EncodingError u) key s e reading says is = (Utf8, key, says, told_kind (what.Utf8EncodingError u) key Utf8 e reading refl is)
told what.OutOfMemory key s e reading says is = absurd says

-- the end and an element are the same with borrowed and with copied keys
pub step_none : (old new : Option (List ℕ)) → StepsFront old None new → StepsElement old None new
step_none None new st = (refl, st.1)
step_none (Some s) new st = st

pub step_ok : (old new : Option (List ℕ)) (e : RawElement) → StepsFront old (Some (Ok e)) new → StepsElement old (Some (Ok e)) new
step_ok None new e st = let bad : ◌≡◌ {A = Option (Result RawElement BorrowedError)} (Some (Ok e)) None = st.0 in cc
step_ok (Some s) new e st = st

-- a stop with a borrowed key is a stop with a copied one
pub step_stop : (old new : Option (List ℕ)) (b : BorrowedError) (e : Error) → StepsFront old (Some (Err b)) new → HasKeyCopy b.kind (option_copied b.key) e → StepsElement old (Some (Err e)) new
step_stop None new b e st is = let bad : ◌≡◌ {A = Option (Result RawElement BorrowedError)} (Some (Err b)) None = st.0 in cc
step_stop (Some s) new b e st is =
    let t = told b.kind (option_copied b.key) s e b.reading st.0 is in
    (t.0, t.1, t.2, t.3, st.1)

-- nothing comes after a stop
none_after : (xs : List (Result RawElement Error)) (t : Option (List ℕ)) → Yields StepsElement None xs t → xs ≡ []
none_after [] t y = refl
none_after (x ∷ xs) t y = let bad : Some x ≡ None = y.1.0 in cc

-- what a run of calls returns is a walk
pub walk_of : (s : List ℕ) (xs : List (Result RawElement Error)) → Drains StepsElement (Some s) xs → (fs : List Frame) × (end : End) × IsWalk s fs end × ListsWalk xs fs end
walk_of s [] d =
    let last : StepsElement (Some s) None d.0 = subst (λ (x : Option (List ℕ)). StepsElement x None d.0) (sym d.1.1) d.1.2 in
    ([], Done, last.0, tt)
walk_of s (Ok e ∷ xs) d =
    let step = d.1.1.1 in
    let rest : Drains StepsElement (Some step.0) xs = (d.0, (d.1.0, subst (λ (x : Option (List ℕ)). Yields StepsElement x xs d.1.0) step.2 d.1.1.2, d.1.2)) in
    let w = walk_of step.0 xs rest in
    (frame_of e ∷ w.0, w.1, (step.0, step.1, w.2), (refl, w.3))
walk_of s (Err e ∷ xs) d =
    let step = d.1.1.1 in
    let none : xs ≡ [] = none_after xs d.1.0 (subst (λ (x : Option (List ℕ)). Yields StepsElement x xs d.1.0) step.4 d.1.1.2) in
    ([], Stopped step.0 step.1, step.2, subst (λ (ys : List (Result RawElement Error)). ListsWalk (Err e ∷ ys) [] (Stopped step.0 step.1)) (sym none) step.3)
