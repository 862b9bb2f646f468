-- What is printed level by level. No public contract cites this file.
use Rattle.std.specs.Prelude.{◌≡◌, ◌+◌, ℕ, Bool, true, false, List, [], ◌∷◌, ◌++◌, codes, length, Option, Some}
use Rattle.std.specs.Io.KnownBytes.{Appends}
use Rattle.raw_tree.specs.declared.walk.Event.{Event}
use Rattle.raw_tree.specs.declared.walk.Event.TheVariants as event
use Rattle.raw_tree.specs.declared.walk.WalkError.{WalkError}
use Rattle.raw_tree.specs.declared.walk.WalkError.TheVariants as walk
use Rattle.raw_tree.specs.Reading.{as_document, as_array}
use Rattle.raw_tree.specs.Reading as reading
use Rattle.raw_view.specs.Frame.ElementSteps.{frame_of}
use Rattle.raw_view.specs.Meaning.{RawValue}
use Rattle.raw_view.specs.Meaning as raw
use Rattle.raw_view.specs.Meaning.Value.{held_value, value_of}
use Rattle.bson_to_json.specs.Json.{before_scope, end_text, head_text}
use Rattle.bson_to_json.specs.Leaves.{IsLeafJson}
use Rattle.bson_to_json.specs.declared.level.Sort.{Sort}
use Rattle.bson_to_json.specs.declared.level.Sort.TheVariants as sort
use Rattle.bson_to_json.specs.declared.sink.Failure.TheVariants as failure
use Rattle.bson_to_json.specs.declared.print.PrintError.{PrintError}
use Rattle.bson_to_json.specs.declared.print.PrintError.TheVariants as print
use Rattle.bson_to_json.specs.declared.style.Format.{Format}
use Rattle.bson_to_json.specs.declared.style.Style.{Style}

-- how the bytes of a level are read
abbrev pub level_sort : Sort → reading.Sort
level_sort sort.Document = as_document
level_sort sort.Array = as_array
level_sort sort.Scope = as_document

-- what comes after the last bracket of a level
abbrev pub after : Sort → List ℕ
after sort.Scope = codes "}"
after _ = []

-- the sort of the level that a value holds
abbrev pub sort_of : RawValue → Sort
sort_of (raw.single l) = sort.Document
sort_of (raw.document d) = sort.Document
sort_of (raw.array d) = sort.Array
sort_of (raw.scoped code d) = sort.Scope

-- what is before the first member of that level
abbrev pub opening_text : RawValue → List ℕ
opening_text (raw.single l) = []
opening_text (raw.document d) = codes "{"
opening_text (raw.array d) = codes "["
opening_text (raw.scoped code d) = before_scope code ++ codes "{"

-- the text of a value that holds no others; of any other it is empty
abbrev pub IsSingleJson : Format → RawValue → List ℕ → Type 0
IsSingleJson format (raw.single l) text = IsLeafJson format l text
IsSingleJson format _ text = text ≡ []

-- what is written of a value that holds others before the first of them, and the sort of its level
abbrev pub PutsOpening : RawValue → Option (List ℕ) → Option (List ℕ) → Sort → Type 0
PutsOpening v old new o = (o ≡ sort_of v) × Appends old new (opening_text v)

-- what is written of a value that holds no others
abbrev pub PutsSingle : Format → RawValue → Option (List ℕ) → Option (List ℕ) → Type 0
PutsSingle format v old new = (text : List ℕ) × IsSingleJson format v text × Appends old new text

-- the error of a walk as an error of printing
abbrev pub error_of : WalkError → PrintError
error_of (walk.Barrier barrier) = print.Barrier barrier
error_of walk.OutOfMemory = print.Failure failure.OutOfMemory

-- what is written before the value of a member with this key, if levels of these sorts wait
abbrev pub head_of : Style → (first : Bool) → List Sort → Sort → List ℕ → List ℕ
head_of style first os o key = head_text style.layout (length os + 1) (level_sort o) first key

-- what is written after the last member
abbrev pub end_of : Style → (first : Bool) → List Sort → Sort → List ℕ
end_of style first os o = end_text style.layout (length os) (level_sort o) first ++ after o

-- if a level is left, others wait
abbrev pub Suits : Event → List Sort → Type 0
Suits e os = e ≡ event.Leave → ¬ os ≡ []

-- What is written for an event at a level of the sort o, where levels of the sorts os wait. After it, a level of the sort p is printed and
-- those of the sorts ps wait; or the text is complete.
abbrev pub PutsEvent : Style → (first : Bool) → Event → List Sort → Sort → (old : List ℕ) → List Sort → Sort → (new : List ℕ) → (ended : Bool) → Type 0
PutsEvent style first (event.Whole e v) os o old ps p new ended =
    (ended ≡ false) × (ps ≡ os) × (p ≡ o) × PutsSingle style.format (value_of v) (Some (old ++ head_of style first os o (frame_of e).key)) (Some new)
PutsEvent style first (event.Enter e inner) os o old ps p new ended =
    (ended ≡ false) × (ps ≡ os ++ o ∷ []) × PutsOpening (held_value inner) (Some (old ++ head_of style first os o (frame_of e).key)) (Some new) p
PutsEvent style first event.Leave os o old ps p new ended = (ended ≡ false) × (os ≡ ps ++ p ∷ []) × (new ≡ old ++ end_of style first os o)
PutsEvent style first event.End os o old ps p new ended = (ended ≡ true) × (new ≡ old ++ end_of style first os o)
