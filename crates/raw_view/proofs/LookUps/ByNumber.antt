-- A look-up by position along a walk.
use Rattle.std.proofs.Common.{◌≡◌, ◌≤◌, ◌<◌, ◌+◌, ℕ, suc, List, [], ◌∷◌, length, subst, refl, Option, Some, None, Result, Ok, Err, inl, inr, ◌⊎◌, sym, ap, ◌∙◌, arith, drop}
use Rattle.std.specs.Iterator.{Yields, SkipsThenYields}
use Rattle.std.specs.Option.{option_copied}
use Rattle.raw_view.specs.declared.element.RawElement.{RawElement}
use Rattle.raw_view.specs.declared.error.ErrorKind.{ErrorKind}
use Rattle.raw_view.specs.declared.error.ErrorKind.TheVariants as what
use Rattle.raw_view.specs.declared.error.BorrowedError.{BorrowedError}
use Rattle.raw_view.specs.Frame.{Frame, IsFrame, LeadsTo, IsWalk, Fault, IsStop, End, Done, Stopped, Malformed, Utf8}
use Rattle.raw_view.specs.Meaning.{Meaning, Means, faulty, KeyedFault}
use Rattle.raw_view.specs.Frame.ElementSteps.{frame_of}
use Rattle.raw_view.specs.Errors.{SaysFault}
use Rattle.raw_view.specs.Frame.Front.{StepsFront, StopsWith, TellsBorrowed}
use Rattle.raw_view.specs.LookUp.{IsAt, at_frame, at_end, past_end}
use Rattle.raw_view.proofs.Frames.Loops.{LeadsTo-walk}

abbrev Step : Type 0
Step = Result RawElement BorrowedError

-- what was passed: frames that lead to what is left; or all of the walk, and the stop
abbrev Passed : List ℕ → List Step → Option (List ℕ) → Type 0
Passed s xs None = (fs : List Frame) × (end : End) × IsWalk s fs end × (length xs ≡ length fs + 1)
Passed s xs (Some q) = (fs : List Frame) × LeadsTo s fs q × (length xs ≡ length fs)

-- a stop with the key that the error borrows
pub stop_said : (k : ErrorKind) (key : Option (List ℕ)) (s : List ℕ) → StopsWith k key s → (fault : Fault) × SaysFault k fault × IsStop s fault key
stop_said (what.MalformedValue r) key s h = (Malformed r, refl, h)
stop_said (what.Utf8EncodingError u) key s h = (Utf8, refl, h)
stop_said what.OutOfMemory key s h = absurd h

none_after : (xs : List Step) (t : Option (List ℕ)) → Yields StepsFront None xs t → (xs ≡ []) × (t ≡ None)
none_after [] t y = (refl, sym y)
none_after (x ∷ xs) t y = let bad : Some x ≡ None = y.1.0 in cc

one_more : (s : List ℕ) (f : Frame) (r : List ℕ) (xs : List Step) (x : Step) (t : Option (List ℕ)) → IsFrame s f r → Passed r xs t → Passed s (x ∷ xs) t
one_more s f r xs x None b p = (f ∷ p.0, p.1, (r, b, p.2), ap suc p.3 ∙ omega arith)
one_more s f r xs x (Some q) b p = (f ∷ p.0, (r, b, p.1), ap suc p.2)

passed_of : (s : List ℕ) (xs : List Step) (t : Option (List ℕ)) → Yields StepsFront (Some s) xs t → Passed s xs t
passed_of s [] t y = subst (Passed s []) y ([], refl, refl)
passed_of s (Ok e ∷ xs) t y =
    let st = y.1 in
    one_more s (frame_of e) st.0 xs (Ok e) t st.1 (passed_of st.0 xs t (subst (λ (x : Option (List ℕ)). Yields StepsFront x xs t) st.2 y.2))
passed_of s (Err b ∷ xs) t y =
    let st = y.1 in
    let none = none_after xs t (subst (λ (x : Option (List ℕ)). Yields StepsFront x xs t) st.1 y.2) in
    let said = stop_said b.kind (option_copied b.key) s st.0 in
    let len : length (Err b ∷ xs) ≡ 1 = ap (λ (zs : List Step). suc (length zs)) none.0 in
    subst (Passed s (Err b ∷ xs)) (sym none.1) ([], Stopped said.0 (option_copied b.key), said.2, len)

le_cases : (m n : ℕ) → m ≤ n → (m ≡ n) ⊎ (m < n)
le_cases m n h = grind arith

-- at the final 0
at_none : (b q : List ℕ) (index : ℕ) (fs : List Frame) → LeadsTo (drop 4 b) fs q → q ≡ 0 ∷ [] → length fs ≤ index → IsAt b index None
at_none b q index fs l e h =
    let walk = LeadsTo-walk (drop 4 b) fs q Done l e in
    elim (le_cases (length fs) index h) [
      | inl here ↦ record { item = at_end Done; finds = (fs, walk, here); means = refl }
      | inr past ↦ record { item = past_end; finds = (fs, Done, walk, past); means = refl }
    ]

none_from : (b : List ℕ) (xs : List Step) (t : Option (List ℕ)) (index : ℕ) (u : Option (List ℕ)) → Passed (drop 4 b) xs t → StepsFront t None u → length xs ≤ index → IsAt b index None
none_from b xs None index u p st l = record { item = past_end; finds = (p.0, p.1, p.2, omega (arith, p.3)); means = refl }
none_from b xs (Some q) index u p st l = at_none b q index p.0 p.1 st.0 (omega (arith, p.2))

pub nth_none : (b : List ℕ) (index : ℕ) (u : Option (List ℕ)) → SkipsThenYields StepsFront (Some (drop 4 b)) index None u → IsAt b index None
nth_none b index u h = none_from b h.0 h.1.0 index u (passed_of (drop 4 b) h.0 h.1.0 h.1.1) h.1.2 h.2

element_from : (b : List ℕ) (xs : List Step) (t : Option (List ℕ)) (index : ℕ) (e : RawElement) (u : Option (List ℕ)) → Passed (drop 4 b) xs t
    → StepsFront t (Some (Ok e)) u → length xs ≡ index → (m : Meaning) → Means (frame_of e) m → IsAt b index (Some m)
element_from b xs None index e u p st l m means = let bad : ◌≡◌ {A = Option Step} (Some (Ok e)) None = st.0 in cc
element_from b xs (Some q) index e u p st l m means = record { item = at_frame (frame_of e); finds = (p.0, q, st.0, p.1, sym p.2 ∙ l, st.1); means = (m, means, refl) }

-- the element of that number
pub nth_element : (b : List ℕ) (index : ℕ) (e : RawElement) (u : Option (List ℕ)) → SkipsThenYields StepsFront (Some (drop 4 b)) index (Some (Ok e)) u → (m : Meaning)
    → Means (frame_of e) m → IsAt b index (Some m)
nth_element b index e u h m means = element_from b h.0 h.1.0 index e u (passed_of (drop 4 b) h.0 h.1.0 h.1.1) h.1.2 h.2 m means

stop_from : (b : List ℕ) (xs : List Step) (t : Option (List ℕ)) (index : ℕ) (e : BorrowedError) (u : Option (List ℕ)) → Passed (drop 4 b) xs t
    → StepsFront t (Some (Err e)) u → length xs ≡ index → (fault : KeyedFault) × TellsBorrowed e fault × IsAt b index (Some (faulty fault))
stop_from b xs None index e u p st l = let bad : ◌≡◌ {A = Option Step} (Some (Err e)) None = st.0 in cc
stop_from b xs (Some q) index e u p st l =
    let said = stop_said e.kind (option_copied e.key) q st.0 in
    let end : End = Stopped said.0 (option_copied e.key) in
    let walk = LeadsTo-walk (drop 4 b) p.0 q end p.1 said.2 in
    (record { fault = said.0; key = option_copied e.key }, record { says = said.1; key_is = refl }, record { item = at_end end; finds = (p.0, walk, sym p.2 ∙ l); means = refl })

-- the stop, if it has that number
pub nth_stop : (b : List ℕ) (index : ℕ) (e : BorrowedError) (u : Option (List ℕ)) → SkipsThenYields StepsFront (Some (drop 4 b)) index (Some (Err e)) u
    → (fault : KeyedFault) × TellsBorrowed e fault × IsAt b index (Some (faulty fault))
nth_stop b index e u h = stop_from b h.0 h.1.0 index e u (passed_of (drop 4 b) h.0 h.1.0 h.1.1) h.1.2 h.2
