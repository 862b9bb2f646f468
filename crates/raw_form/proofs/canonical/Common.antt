-- The names of definitions and lemmas of lower crates and of specs that proofs of canonical forms and of tokens cite. It declares nothing.
pub use Rattle.bson_model.proofs.Face.{keep-distinct, keep-last}
pub use Rattle.bson_model.specs.Leaf.{Leaf}
pub use Rattle.bson_model.specs.Pairs.{keep, keys_of, with_pair}
pub use Rattle.bson_model.specs.Tree.{Tree, document, entries, leaf, trees}
pub use Rattle.raw_tree.specs.Barriers.{step_of, steps_of}
pub use Rattle.raw_form.specs.Forms.{IsFormOf, RefusesFormOf}
pub use Rattle.raw_tree.specs.Looking.{TakesFrame, left_of, size_of}
pub use Rattle.raw_tree.specs.First.{BeginsAt, HasNothing, IsHere, IsInside, Step}
pub use Rattle.raw_form.specs.Rewriting.{AreLeftOwn, FailsFor, HasCode, IsLater, IsLeft, IsMemberOf, IsPlain, IsRest, PutsMember, TakesNext, TakesPair, ended_by, header_len, held_opening, member_key}
pub use Rattle.raw_form.specs.Staying.{IsOwnForm, IsOwnUpTo, IsWrittenAs, put_at}
pub use Rattle.raw_form.specs.Tokens.{AreInside, AreTokens, AreTokensOf, HasTokens, IsTokenOf, NestedUpTo, filled_from}
pub use Rattle.raw_tree.specs.Violations.{FirstViolationTo, Violation, violations}
pub use Rattle.raw_tree.specs.declared.walk.faults.Start.{Start}
pub use Rattle.raw_form.specs.declared.last.LastPlaces.{LastPlaces}
pub use Rattle.raw_tree.specs.declared.walk.place.PathStep.{PathStep}
pub use Rattle.raw_tree.proofs.Face.{IsWriting, answered_one_way, bytes_one_way, canonical_form, canonical_frames_read, canonical_is_own_form, document_reads, each_read, left_in, left_with, length-tree_payload, one_form, one_value_of, read_within, room_left, value_spelled, writing_begins, writing_ends, writing_inside, writing_leaf}
pub use Rattle.raw_tree.specs.Canonical.{AreFramesCanonical, IsCanonicalUpTo}
pub use Rattle.raw_tree.specs.Encoding.{encoded_len, entries_len, kind_of_tree, tree_payload}
pub use Rattle.raw_tree.specs.Members.{Begun, HoldsTrees, begun_at, ended, members, numbered, opening, opening_len}
pub use Rattle.raw_tree.specs.Payload.{payload_of}
pub use Rattle.raw_tree.specs.Reading.{Reads, ReadsAs, ReadsUpTo, Sort, StandForEach, StandsFor, as_document, leaf_in_order}
pub use Rattle.raw_tree.specs.WithinLimits.{ReadsWithin}
pub use Rattle.raw_tree.specs.declared.reader.limits.Limits.{Limits}
pub use Rattle.raw_view.proofs.Face.{IsFrame-shorter, LeadsTo-more, one_frame, one_meaning}
pub use Rattle.raw_view.specs.Document.{bytes_of}
pub use Rattle.raw_view.specs.Frame.{Frame, HasPayload, IsFrame, LeadsTo}
pub use Rattle.raw_view.specs.Frame.ElementSteps.{frame_of}
pub use Rattle.raw_view.specs.Frame.Envelope.{IsEnvelope}
pub use Rattle.raw_view.specs.Frame.Format.{element_of, leaf_payload, tagged}
pub use Rattle.raw_view.specs.Frame.Kind.{kind_of_leaf, tag_of}
pub use Rattle.raw_view.specs.Frame.Number.{max_length}
pub use Rattle.raw_view.specs.Meaning.{Means, RawValue, faulty, kind_of_raw, value}
pub use Rattle.raw_view.specs.Meaning.Value.{IsSingle, held_value, holding}
pub use Rattle.raw_view.specs.declared.element.RawElement.{RawElement}
pub use Rattle.raw_view.specs.declared.error.Error.{Error}
pub use Rattle.raw_view.specs.declared.level.Holder.{Holder}
pub use Rattle.raw_view.specs.declared.level.RawLevel.{RawLevel}
pub use Rattle.std.proofs.lemmas.List.{length-map, map-append, same_from_push}
pub use Rattle.std.specs.Str.{bytes_eq}
pub use denote.Ref.{Bor}
