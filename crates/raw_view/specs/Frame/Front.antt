-- What is at the front of the remaining bytes, as the inner step returns it.
use Rattle.std.specs.Prelude.{◌≡◌, ◌<◌, ◌-◌, ℕ, length, slice_get, List, [], ◌∷◌, Option, None, Some, Result, Ok, Err}
use Rattle.raw_view.specs.declared.element.RawElement.{RawElement}
use Rattle.raw_view.specs.declared.error.BorrowedError.{BorrowedError}
use Rattle.std.specs.Option.{option_copied}
use Rattle.raw_view.specs.declared.error.ErrorKind.{ErrorKind}
use Rattle.raw_view.specs.declared.error.ErrorKind.TheVariants as kind
use Rattle.bson_model.specs.Bytes.{NulFree}
use Rattle.raw_view.specs.declared.error.Reason.TheVariants as reason
use Rattle.raw_view.specs.declared.element_type.ElementType.{ElementType}
use Rattle.raw_view.specs.Frame.Kind.{tag_of}
use Rattle.raw_view.specs.Frame.{IsFrame, Malformed, Utf8, IsStop, BeginsWithBadText, HasBadText, IsPayloadReason}
use Rattle.raw_view.specs.Frame.ElementSteps.{frame_of}
use Rattle.raw_view.specs.Meaning.{KeyedFault}
use Rattle.raw_view.specs.Errors.{SaysFault}

-- if there are bytes, the last is 0
abbrev pub EndsWithNul : List ℕ → Type 0
EndsWithNul s = 0 < length s → slice_get s (length s - 1) ≡ Some 0

-- s stops with a fault of this kind
abbrev pub StopsWith : ErrorKind → Option (List ℕ) → List ℕ → Type 0
StopsWith (kind.MalformedValue why) key s = IsStop s (Malformed why) key
StopsWith (kind.Utf8EncodingError _) key s = IsStop s Utf8 key
StopsWith kind.OutOfMemory key s = ⊥

-- What a step over the elements returns. The state is the remaining bytes, and nothing after a stop.
abbrev pub StepsFront : Option (List ℕ) → Option (Result RawElement BorrowedError) → Option (List ℕ) → Type 0
StepsFront None item t = (item ≡ None) × (t ≡ None)
StepsFront (Some s) None t = (s ≡ 0 ∷ []) × (t ≡ Some s)
StepsFront (Some s) (Some (Ok e)) t = (r : List ℕ) × IsFrame s (frame_of e) r × (t ≡ Some r)
StepsFront (Some s) (Some (Err e)) t = StopsWith e.kind (option_copied e.key) s × (t ≡ None)

-- why no payload of this kind is at the front of z: a text of a regular expression isn't UTF-8, or the reason of the
-- kind
abbrev pub IsPayloadFault : ElementType → List ℕ → ErrorKind → Type 0
IsPayloadFault what z (kind.MalformedValue why) = (¬ HasBadText (tag_of what) z) × IsPayloadReason what z why
IsPayloadFault what z (kind.Utf8EncodingError _) = HasBadText (tag_of what) z
IsPayloadFault what z kind.OutOfMemory = ⊥

-- why no text up to a 0 is at the front of z
abbrev pub IsTextFault : List ℕ → ErrorKind → Type 0
IsTextFault z (kind.MalformedValue why) = NulFree z × (why ≡ reason.NoTerminator)
IsTextFault z (kind.Utf8EncodingError _) = BeginsWithBadText z
IsTextFault z kind.OutOfMemory = ⊥

-- the error says the fault with its key
pub record TellsBorrowed (e : BorrowedError) (fault : KeyedFault) : Type 0 where
  pub says : SaysFault e.kind fault.fault
  pub key_is : option_copied e.key ≡ fault.key
