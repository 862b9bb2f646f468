-- The lengths of elements, of what follows them, and of documents with one more.
use Rattle.std.proofs.Common.{◌≡◌, ◌≤◌, ◌+◌, ◌-◌, ◌++◌, ◌∷◌, [], ◌∙◌, ℕ, List, Option, Some, None, Result, Ok, inl, inr, ◌⊎◌, length, drop, length-append, length-drop, ap, sym, refl, subst, arith}
use Rattle.std.proofs.lemmas.List.{length-take-le}
use Rattle.raw_view.specs.Errors.{IsOutOfMemory, key_of}
use Rattle.raw_view.specs.Frame.ElementSteps.{StepsElement, frame_of}
use Rattle.raw_view.specs.Frame.Format.{inside_of}
use Rattle.raw_view.specs.Frame.Number.{max_length}
use Rattle.raw_view.specs.Frame.{Frame, IsFrame}
use Rattle.raw_view.specs.declared.element.RawElement.{RawElement}
use Rattle.raw_view.specs.declared.error.Error.{Error}
use Rattle.raw_view.specs.declared.error.ErrorKind.{ErrorKind}
use Rattle.raw_view.specs.declared.error.ErrorKind.TheVariants as kind
use Rattle.raw_view.specs.declared.error.Reason.TheVariants as reason
use Rattle.raw_bson.specs.Append.{RefusesLength, appended_bytes, frame_bytes}

-- the number of bytes left to read
abbrev pub length_left : Option (List ℕ) → ℕ
length_left None = 0
length_left (Some r) = length r

-- an element, and what follows it
pub length-frame_bytes : (s : List ℕ) (f : Frame) (r : List ℕ) → IsFrame s f r → length s ≡ length (frame_bytes f) + length r
length-frame_bytes s f r at = omega (arith, ap length at.spelled, length-append f.key (0 ∷ (f.payload ++ r)), length-append f.key (0 ∷ f.payload), length-append f.payload r)

stepped : (old new : Option (List ℕ)) (e : RawElement) → StepsElement old (Some (Ok e)) new → length_left old ≡ length (frame_bytes (frame_of e)) + length_left new
stepped None new e st = let bad = st.0 in cc
stepped (Some s) new e st = length-frame_bytes s (frame_of e) st.0 st.1 ∙ ap (λ t. length (frame_bytes (frame_of e)) + length_left t) (sym st.2)

-- what remains after an element was read
pub length_left-step : (old new : Option (List ℕ)) {out : Result RawElement Error} {e : RawElement} → StepsElement old (Some out) new → out ≡ Ok e
    → length_left old ≡ length (frame_bytes (frame_of e)) + length_left new
length_left-step old new {e = e} st was = stepped old new e (subst (λ (x : Result RawElement Error). StepsElement old (Some x) new) was st)

-- a document with one more element
pub length-appended_bytes : (b : List ℕ) (f : Frame) → 5 ≤ length b → length (appended_bytes b f) ≡ length b + length (frame_bytes f)
length-appended_bytes b f five = omega (
  arith,
  five,
  length-append (inside_of b ++ frame_bytes f) (0 ∷ []),
  length-append (inside_of b) (frame_bytes f),
  length-take-le (length b - 5) (drop 4 b) (omega (arith, length-drop 4 b)),
  length-drop 4 b,
)

refused_kind : (n m : ℕ) (k : ErrorKind) → n ≤ m + 1 → m ≤ max_length → RefusesLength n k → (k ≡ kind.OutOfMemory) ⊎ ((k ≡ kind.MalformedValue reason.TooLong) × (m ≡ max_length))
refused_kind n m kind.OutOfMemory bound fits h = inl refl
refused_kind n m (kind.MalformedValue reason.TooLong) bound fits h = inr (refl, grind arith)
refused_kind n m _ bound fits h = absurd h

-- If the length is at most one more than that of a document, it is refused only if the document has the greatest length; otherwise memory
-- ran out. A copy of elements has one more byte if the last of them contains the final 0.
pub RefusesLength-bound : (n m : ℕ) (e : Error) → n ≤ m + 1 → m ≤ max_length → RefusesLength n e.kind → key_of e ≡ None
    → IsOutOfMemory e ⊎ ((e.kind ≡ kind.MalformedValue reason.TooLong) × (m ≡ max_length))
RefusesLength-bound n m e bound fits h none =
    elim (refused_kind n m e.kind bound fits h) [ inl memory ↦ inl (record { kind_is = memory; no_key = none }) | inr long ↦ inr long ]
