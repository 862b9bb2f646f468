-- The names of definitions that most proofs on walks and violations cite, passed on from one place. It declares nothing.
pub use Rattle.raw_tree.specs.declared.validator.step.Validated.{Validated}
pub use Rattle.raw_tree.specs.declared.validator.keys_so_far.KeysSoFar.{KeysSoFar}
pub use Rattle.raw_tree.specs.declared.validator.within.Found.{Found}
pub use Rattle.raw_tree.specs.declared.validator.within.PlacedBreach.{PlacedBreach}
pub use Rattle.raw_tree.specs.declared.validator.within.ValidateError.{ValidateError}
pub use Rattle.raw_tree.specs.declared.walk.Walk.{Walk}
pub use Rattle.raw_tree.specs.declared.walk.WalkError.{WalkError}
pub use Rattle.raw_tree.specs.declared.walk.barrier.Barrier.{Barrier}
pub use Rattle.raw_tree.specs.declared.walk.barrier.BarrierKind.{BarrierKind}
pub use Rattle.raw_tree.specs.declared.walk.level.Level.{Level}
pub use Rattle.raw_tree.specs.declared.walk.level.Waiting.{Waiting}
pub use Rattle.raw_tree.specs.declared.walk.place.PathStep.{PathStep}
pub use Rattle.raw_tree.specs.declared.walk.place.Place.{Place}
pub use Rattle.raw_tree.specs.validator.ValidationSteps.{EndsTooDeep, HoldsAsTold, IsSingleWith, Validates, TellsFound, TellsValidated, TellsOutermost, TellsValue, array_sort, first_number}
pub use Rattle.raw_tree.specs.validator.ValidationSteps.{violation_of}
pub use Rattle.raw_tree.specs.validator.ValidationSteps.{AreOpenKeys, HasKeysSoFar, LeavesOpenKeys, TellsOpenKey}
pub use Rattle.raw_tree.specs.validator.Breaches.{AllAreValidatedOneWayWithin}
pub use Rattle.raw_tree.specs.validator.Violations.{BreachesHere, BreachesItself, FirstViolation, FirstViolationTo, IsCanonicalWithin, TellsViolation, Violation, breach_of, violations}
pub use Rattle.raw_tree.specs.walk.Barriers.{IsBarrier, TellsBarrier, TellsBarrierWithin, step_of, steps_of}
pub use Rattle.raw_tree.specs.walk.Looking.{AreReadBefore, Finds, HasLooked, HasNoneBefore, TakesFrame, frames_in, size_of}
pub use Rattle.raw_tree.specs.walk.First.{BeginsAt, HasNothing, IsFirst, IsHere, IsInside, IsOffsetOf, Sought, Step}
pub use Rattle.raw_tree.specs.walk.Places.{AllAreBarredAtOnePlace, FirstBarrierAt, last_key}
pub use Rattle.raw_tree.specs.walk.Rooms.{filled_from}
pub use Rattle.raw_tree.specs.walk.Visits.{HasVisits, Visit, VisitsEach, VisitsLevel, VisitsValue, end_of, enter, leave, whole}
pub use Rattle.raw_tree.specs.walk.Walks.{GoesOn, LiesAt, StoreSteps, StoresStep, entered_level, level_behind, outermost_of, resumed_level, stored_level}
pub use Rattle.raw_tree.specs.walk.Walks.{AreHeld, AreLevels, ComesTo, Enters, HasCome, HasSeen, IsAt, IsBarrierAt, IsBegun, IsBehind, IsEntered, IsHeld, IsTooDeep, IsWithin, Leaves, LeavesOrEnds, Span, TellsError, Wait}
pub use Rattle.raw_tree.specs.walk.Walks.{all_stored, offset_in, path_of, step_at, stored_at, whole_span, with_left}
pub use Rattle.raw_view.specs.Errors.{SaysFault}
pub use Rattle.raw_view.specs.Frame.{HasNoFrame, Malformed, Utf8}
pub use Rattle.raw_view.specs.Frame.ElementSteps.{HasRead}
pub use Rattle.raw_view.specs.Frame.Front.{TellsBorrowed}
pub use Rattle.raw_view.specs.Frame.Number.{IsLe32}
pub use Rattle.raw_view.specs.declared.document.RawDocument.{RawDocument}
pub use Rattle.std.specs.Option.{option_copied}
