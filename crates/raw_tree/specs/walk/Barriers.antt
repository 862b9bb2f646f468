-- First barriers that are found without a tree. The bytes b of a document have an envelope.
use Rattle.std.specs.Prelude.{◌≡◌, ◌<◌, ◌≤◌, ℕ, List, map, length, Option, None, Some}
use Rattle.std.specs.Option.{option_copied}
use Rattle.bson_model.specs.Tree.{Tree}
use Rattle.raw_view.specs.Errors.{IsOutOfMemory}
use Rattle.raw_view.specs.Frame.Front.{TellsBorrowed}
use Rattle.raw_view.specs.Meaning.{KeyedFault}
use Rattle.raw_view.specs.declared.error.Error.{Error}
use Rattle.raw_tree.specs.reader.Reading.{as_document, FirstFaultAt, ReadsUpTo}
use Rattle.raw_tree.specs.reader.WithinLimits.{ReadsWithin, fault_of, too_deep, too_many_bytes}
use Rattle.raw_tree.specs.reader.WithinLimits as within
use Rattle.raw_tree.specs.declared.reader.limits.Limits.{Limits}
use Rattle.raw_tree.specs.walk.Places.{Step, FirstBarrierAt}
use Rattle.raw_tree.specs.declared.walk.barrier.Barrier.{Barrier}
use Rattle.raw_tree.specs.declared.walk.barrier.BarrierKind.{BarrierKind}
use Rattle.raw_tree.specs.declared.walk.barrier.BarrierKind.TheVariants as kind
use Rattle.raw_tree.specs.declared.walk.place.PathStep.{PathStep}
use Rattle.raw_tree.specs.declared.walk.place.Place.{Place}

-- the result is this barrier; a fault has its own key
abbrev pub IsBarrier : BarrierKind → within.Barrier → Type 0
IsBarrier kind.TooManyBytes x = x ≡ too_many_bytes
IsBarrier kind.TooDeep x = x ≡ too_deep
IsBarrier (kind.Fault e) x = (fault : KeyedFault) × (x ≡ fault_of fault) × TellsBorrowed e fault

-- the number and the key of a step
abbrev pub step_of : PathStep → Step
step_of step = record { number = step.number; key = option_copied step.key }

-- the steps of a place
abbrev pub steps_of : Place → List Step
steps_of place = map step_of place.path.items

-- out of memory, which is possible only if the document b has few enough bytes and a level may be entered
abbrev pub IsOutOfMemoryWithin : Limits → List ℕ → Error → Type 0
IsOutOfMemoryWithin limits b e = IsOutOfMemory e × (length b ≤ limits.bytes) × (0 < limits.depth)

-- if no barrier is returned, the document b is read as a tree within the limits; a returned barrier is its first, with
-- its place
abbrev pub TellsBarrier : Limits → List ℕ → Option Barrier → Type 0
TellsBarrier limits b None = (t : Tree) × ReadsWithin limits b t
TellsBarrier limits b (Some answer) =
    (x : within.Barrier) × IsBarrier answer.kind x × FirstBarrierAt limits b x (steps_of answer.place) answer.place.offset

-- the same within a depth
abbrev pub TellsBarrierWithin : ℕ → List ℕ → Option Barrier → Type 0
TellsBarrierWithin depth b None = (t : Tree) × ReadsUpTo depth as_document b t
TellsBarrierWithin depth b (Some answer) =
    (x : within.Barrier) × IsBarrier answer.kind x × FirstFaultAt depth b x (steps_of answer.place) answer.place.offset
