-- Where an element stands, from what is left at its offset.
use Rattle.std.proofs.Common.{◌≡◌, ◌≤◌, ◌+◌, ℕ, List, ◌∷◌, ◌++◌, length, take, drop, ap, sym, ◌∙◌, refl, arith, append_assoc, length-append, Option, Some, Result, subst}
use Rattle.std.proofs.lemmas.List.{take-append-drop, length-take-le, length-drop, drop_at}
use Rattle.raw_bson.specs.Envelope.{IsEnvelope}
use Rattle.raw_bson.specs.ErrorKind.{ErrorKind}
use Rattle.raw_bson.specs.ErrorKind.TheVariants as kind
use Rattle.raw_bson.specs.Errors.{IsReadingKind}
use Rattle.raw_bson.specs.Frame.{Frame, IsFrame, Fault, Malformed, Utf8, IsStop}
use Rattle.raw_bson.specs.Kind.{tag_of}
use Rattle.raw_bson.specs.Number.{max_length}
use Rattle.raw_bson.specs.RawElement.{RawElement}
use Rattle.raw_view.specs.Frame.Front.{StepsFront, StopsWith}
use Rattle.raw_view.specs.declared.error.BorrowedError.{BorrowedError}
use Rattle.bsonraw_c.specs.Codes.{SaysKind, TellsFaultCode}
use Rattle.bsonraw_c.specs.Places.{StandsAt}
use Rattle.bsonraw_c.specs.declared.answers.FaultCode.{FaultCode}

-- what stands at the offset, with what stands before it
spread : (b : List ℕ) (offset : ℕ) (front back : List ℕ) → drop offset b ≡ front ++ back → b ≡ (take offset b ++ front) ++ back
spread b offset front back e = sym (take-append-drop offset b) ∙ ap (λ x. take offset b ++ x) e ∙ sym (append_assoc (take offset b) front back)

-- bytes that stand at the offset after others
pub stands_behind : (b : List ℕ) (offset place len : ℕ) (front bytes back : List ℕ) → offset ≤ length b → drop offset b ≡ front ++ (bytes ++ back)
    → place ≡ offset + length front → len ≡ length bytes → StandsAt b place len bytes
stands_behind b offset place len front bytes back within e place_is len_is = record {
  before = take offset b ++ front;
  behind = back;
  whole = spread b offset front (bytes ++ back) e;
  offset_is = omega (arith, place_is, length-append (take offset b) front, length-take-le offset b within);
  len_is = len_is;
}

-- how long a frame is
frame_length : (s : List ℕ) (f : Frame) (r : List ℕ) → IsFrame s f r → length s ≡ 2 + (length f.key + length f.payload) + length r
frame_length s f r stands = omega (arith, ap length stands.spelled, length-append f.key (0 ∷ (f.payload ++ r)), length-append f.payload r)

-- the end of a frame lies in the document
pub frame_within : (b : List ℕ) (offset : ℕ) (f : Frame) (r : List ℕ) → offset ≤ length b → IsFrame (drop offset b) f r → offset + (2 + (length f.key + length f.payload)) ≤ length b
frame_within b offset f r within stands = omega (arith, within, length-drop offset b, frame_length (drop offset b) f r stands)

-- and is no more than the greatest length
pub few_bytes : (b : List ℕ) → IsEnvelope b → length b ≤ max_length
few_bytes b env = omega (arith, env.header.fits.sfits)

-- what is left after the frame
pub left_behind : (b : List ℕ) (offset next : ℕ) (f : Frame) (r : List ℕ) → offset ≤ length b → IsFrame (drop offset b) f r → next ≡ offset + (2 + (length f.key + length f.payload)) → drop next b ≡ r
left_behind b offset next f r within stands is =
    let front : List ℕ = tag_of f.kind ∷ (f.key ++ 0 ∷ f.payload) in
    let e : drop offset b ≡ front ++ r = stands.spelled ∙ ap (λ x. tag_of f.kind ∷ x) (sym (append_assoc f.key (0 ∷ f.payload) r)) in
    let size : length (take offset b ++ front) ≡ next = omega (arith, is, length-append (take offset b) front, length-take-le offset b within, length-append f.key (0 ∷ f.payload)) in
    subst (λ (x : List ℕ). drop next x ≡ r) (sym (spread b offset front r e)) (drop_at (take offset b ++ front) r next size)

-- a stop

pub stop_told : (k : ErrorKind) (key : Option (List ℕ)) (s : List ℕ) (told : FaultCode) → IsReadingKind k → StopsWith k key s → SaysKind k told
    → (fault : Fault) × IsStop s fault key × TellsFaultCode fault told
stop_told (kind.MalformedValue r) key s told reading stop says = (Malformed r, stop, (reading r refl, says))
stop_told (kind.Utf8EncodingError u) key s told reading stop says = (Utf8, stop, (says.0, says.1))
stop_told kind.OutOfMemory key s told reading stop says = absurd stop

-- one step at an offset, from what the iterator gives there

pub given : (s : List ℕ) (old new : Option (List ℕ)) (result item : Option (Result RawElement BorrowedError)) → old ≡ Some s → result ≡ item → StepsFront old result new → StepsFront (Some s) item new
given s old new result item left is steps = subst (λ (x : Option (List ℕ)). StepsFront x item new) left (subst (λ (x : Option (Result RawElement BorrowedError)). StepsFront old x new) is steps)
