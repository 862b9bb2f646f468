-- What is kept of a level that is being rewritten, and what the helpers return. No public contract cites this file.
use Rattle.std.specs.Prelude.{◌≡◌, ◌⊎◌, ◌<◌, ◌≤◌, ◌+◌, ◌^◌, ◌++◌, ℕ, List, [], ◌∷◌, Option, None, Some, IsTrue, length, map, decimal}
use Rattle.bson_model.specs.Tree.{Tree, Entries, leaf, array, document, code_with_scope, no_entry, entry_then, trees, entries}
use Rattle.raw_view.specs.Frame.ElementSteps.{frame_of}
use Rattle.raw_view.specs.Errors.{IsOutOfMemory, key_of}
use Rattle.raw_view.specs.Frame.Format.{element_of, string_payload, tagged}
use Rattle.raw_view.specs.Frame.Kind.{tag_of}
use Rattle.raw_view.specs.Frame.Number.{max_length}
use Rattle.raw_view.specs.declared.element.RawElement.{RawElement}
use Rattle.raw_view.specs.declared.element_type.ElementType.{ElementType}
use Rattle.raw_view.specs.declared.element_type.ElementType.TheVariants as kind
use Rattle.raw_view.specs.declared.error.Error.{Error}
use Rattle.raw_view.specs.declared.error.ErrorKind.TheVariants.{MalformedValue}
use Rattle.raw_view.specs.declared.error.Reason.TheVariants.{TooLong}
use Rattle.raw_view.specs.declared.level.Holder.{Holder}
use Rattle.raw_view.specs.declared.level.Holder.TheVariants as holder
use Rattle.raw_view.specs.declared.level.RawLevel.{RawLevel}
use Rattle.raw_view.specs.Meaning.{Means, kind_of_raw, value}
use Rattle.raw_view.specs.Meaning.Value.{held_value}
use Rattle.raw_tree.specs.Encoding.{kind_of_tree, tree_payload}
use Rattle.raw_tree.specs.Payload.{unset}
use Rattle.raw_tree.specs.Members.{numbered, with_len}
use Rattle.raw_tree.specs.Reading.{ReadsAs, ReadsRest, FrameStandsFor}
use Rattle.raw_tree.specs.Looking.{left_of}
use Rattle.raw_form.specs.Staying.{AreNextOwn, IsLeftAt, IsOwnForm}
use Rattle.raw_form.specs.declared.rewritten.Keys.{Keys}
use Rattle.raw_form.specs.declared.rewritten.Keys.TheVariants as keys
use Rattle.raw_form.specs.declared.rewritten.Member.{Member}
use Rattle.raw_form.specs.declared.rewritten.Rewritten.{Rewritten}

-- out of memory; or this number of bytes is too large for a document
abbrev pub FailsFor : ℕ → Error → Type 0
FailsFor n e = IsOutOfMemory e ⊎ ((max_length < n) × (e.kind ≡ MalformedValue TooLong) × (key_of e ≡ None))

-- values of this kind hold neither a level nor options
abbrev pub IsPlain : ElementType → Type 0
IsPlain kind.EmbeddedDocument = ⊥
IsPlain kind.Array = ⊥
IsPlain kind.JavaScriptCodeWithScope = ⊥
IsPlain kind.RegularExpression = ⊥
IsPlain k = Unit {0}

-- the bytes with which the payload of a value that holds a level begins, with the lengths not set
abbrev pub held_opening : Holder → List ℕ
held_opening holder.Document = unset
held_opening holder.Array = unset
held_opening (holder.Code code) = unset ++ string_payload code.now ++ unset

-- the length of the code of a code with scope; no length for other trees
abbrev pub HasCode : Tree → Option ℕ → Type 0
HasCode (leaf l) len = ⊥
HasCode (array ts) len = len ≡ None
HasCode (document es) len = len ≡ None
HasCode (code_with_scope code es) len = len ≡ Some (length code)

-- the number of bytes before the members
abbrev pub header_len : Option ℕ → ℕ
header_len None = 4
header_len (Some n) = 13 + n

-- the bytes that end with a payload that starts at this place, with its lengths set
abbrev pub ended_by : Option ℕ → ℕ → List ℕ → List ℕ
ended_by None start b = with_len start b
ended_by (Some n) start b = with_len start (with_len (start + 9 + n) b)

-- the rest of a level

-- the remaining bytes stand for these pairs
abbrev pub IsRest : Option (List ℕ) → List (List ℕ × Tree) → Type 0
IsRest None pairs = ⊥
IsRest (Some s) pairs = ReadsRest ReadsAs s pairs

-- the next n frames are written as they are
abbrev pub AreLeftOwn : ℕ → Option (List ℕ) → Type 0
AreLeftOwn n None = Unit {0}
AreLeftOwn n (Some s) = AreNextOwn n s

-- no pair is left; or the element is that of the first pair, and the others are left
abbrev pub TakesPair : Option (List ℕ) → List (List ℕ × Tree) → Option RawElement → Option (List ℕ) → Type 0
TakesPair old pairs None new = pairs ≡ []
TakesPair old pairs (Some e) new =
    (t : Tree) × (rest : List (List ℕ × Tree)) × (pairs ≡ ((frame_of e).key, t) ∷ rest) × FrameStandsFor (frame_of e) t × IsRest new rest × (left_of new + 2 ≤ left_of old)

-- these members are still to be written
abbrev pub IsLeft : Keys → Option (List ℕ) → Entries → Type 0
IsLeft (keys.Numbers n) left ms = (n + left_of left < 2 ^ 64) × (pairs : List (List ℕ × Tree)) × IsRest left pairs × (ms ≡ numbered n (trees (map (λ p. p.1) pairs)))
IsLeft (keys.Distinct n) left ms = (pairs : List (List ℕ × Tree)) × IsRest left pairs × (ms ≡ entries pairs) × AreLeftOwn n left
IsLeft (keys.Repeated last) left ms = IsLeftAt last.value ms

-- the decimal of the number if there is one, otherwise the key
abbrev pub numbered_key : Option ℕ → List ℕ → List ℕ
numbered_key None key = key
numbered_key (Some n) key = decimal n

-- the key under which this member is written
abbrev pub member_key : Member → List ℕ
member_key m = numbered_key m.number (frame_of m.element).key

-- no member is left; or this is the first, and the others are left; if it is marked as known, it is written as it is
abbrev pub TakesNext : Entries → Option Member → Keys → Option (List ℕ) → Type 0
TakesNext ms None k left = ms ≡ no_entry
TakesNext ms (Some m) k left =
    (t : Tree) × (rest : Entries) × (ms ≡ entry_then (member_key m) t rest) × FrameStandsFor (frame_of m.element) t × IsLeft k left rest
    × (IsTrue m.is_known → IsOwnForm (frame_of m.element))

-- the member is written as this tree; if it is marked as known, it is written as it is
abbrev pub IsMemberOf : Member → Tree → Type 0
IsMemberOf m t = FrameStandsFor (frame_of m.element) t × (IsTrue m.is_known → IsOwnForm (frame_of m.element))

-- the element of the member is appended; if its value holds this level, only its tag and its key
abbrev pub PutsMember : Member → Tree → Option RawLevel → (old new : List ℕ) → Type 0
PutsMember m t None old new = new ≡ old ++ element_of (kind_of_tree t) (member_key m) (tree_payload t)
PutsMember m t (Some h) old new = Means (frame_of m.element) (value (held_value h)) × (new ≡ old ++ tagged (tag_of (kind_of_raw (held_value h))) (member_key m) [])

-- the same level after its next member
pub record IsLater (level new : Rewritten) : Type 0 where
  pub start_is : new.start ≡ level.start
  pub code_is : new.code_len ≡ level.code_len
