-- What shows the `_id` of a document.
use Rattle.std.specs.Prelude.{◌≡◌, ◌⊎◌, ℕ, List, [], None, Some, codes}
use Rattle.raw_view.specs.Frame.{Frame}
use Rattle.raw_view.specs.Frame.Envelope.{Refuses}
use Rattle.raw_view.specs.Meaning.{KeyedFault, Means, RawValue, faulty, value}
use Rattle.raw_view.specs.declared.error.Reason.{Reason}
use Rattle.dump_io.specs.lines.Values.{ShowsValue}
use Rattle.dump_commands.specs.elements.Pick.{FindsFirst}

-- the document b has no element with the key _id that can be read
abbrev pub HasNoId : List ℕ → Type 0
HasNoId b =
    ((why : Reason) × Refuses b why)
    ⊎ FindsFirst b (codes "_id") None
    ⊎ ((f : Frame) × (fault : KeyedFault) × FindsFirst b (codes "_id") (Some f) × Means f (faulty fault))

-- what shows the value of the first element with the key _id; nothing where that can't be read
abbrev pub ShowsId : (b text : List ℕ) → Type 0
ShowsId b text =
    ((f : Frame) × (v : RawValue) × FindsFirst b (codes "_id") (Some f) × Means f (value v) × ShowsValue v text)
    ⊎ (HasNoId b × (text ≡ []))
