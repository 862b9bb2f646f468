-- The names of definitions and of lemmas of std that most proofs cite, passed on from one place. It declares nothing.
pub use Rattle.std.proofs.Math.Nat.{le-max_left, le-max_right, max-le}
pub use Rattle.std.proofs.Math.Seq.{drop-append-add, take-append_seam}
pub use Rattle.std.proofs.lemmas.Bool.{cases_lt}
pub use Rattle.std.proofs.lemmas.Fmt.{IsAscii-decimal, decimal_by_steps}
pub use Rattle.std.proofs.lemmas.List.{length-map, map-append, nil_from_length}
pub use Rattle.std.proofs.lemmas.List.Elements.{All-push}
pub use Rattle.std.proofs.lemmas.List.Sums.{sum_by_push}
pub use Rattle.std.proofs.lemmas.Option.{none-some, slice_get-get_or}
pub use Rattle.std.proofs.lemmas.Result.{err_from_is_err_and, on_ok_weaker}
pub use Rattle.std.proofs.lemmas.Str.{IsUtf8-from_ascii}
pub use Rattle.std.specs.Cmp.Lexicographic.{bytes_decides}
pub use Rattle.std.specs.List.{IsDistinct}
pub use Rattle.bson_model.specs.Bytes.{AreBytes, NulFree}
pub use Rattle.bson_model.specs.Leaf.{Leaf, binary, db_pointer, regular_expression}
pub use Rattle.bson_model.specs.Pairs.{keep, keys_of, with_pair}
pub use Rattle.bson_model.specs.Proper.{AreSubtypesProper, DoLeafOptionsAscend, DoOptionsAscend, Everywhere, InEntries, InTrees, IsLeafInRange, IsLeafNulFree, IsLeafSubtypeProper, IsNulFree, IsProper}
pub use Rattle.bson_model.specs.Proper.{IsWellFormed, OfParts, ascending_parts, keys_in, nul_free_parts, proper_subtype_parts, well_formed_parts}
pub use Rattle.bson_model.specs.Subtype.{subtype_byte, subtype_of}
pub use Rattle.bson_model.specs.Tree.{Entries, Tree, Trees, array, code_with_scope, document, entries, entry_then, leaf, no_entry, no_tree, pairs_in, pairs_of, tree_of, tree_then, trees, with_trees}
pub use Rattle.bson_model.specs.declared.binaries.BinarySubtype.{BinarySubtype}
pub use Rattle.bson_model.specs.declared.binaries.BinarySubtype.TheVariants.{BinaryOld}
pub use Rattle.bson_model.specs.declared.bson.Bson.{Bson}
pub use Rattle.bson_model.specs.declared.bson.Document.{Document}
pub use Rattle.raw_view.specs.Errors.Answers.{Says, TellsMeaning}
pub use Rattle.raw_view.specs.Document.{bytes_of}
pub use Rattle.raw_view.specs.Frame.ElementSteps.{frame_of}
pub use Rattle.raw_view.specs.Frame.Envelope.{IsEnvelope}
pub use Rattle.raw_view.specs.Errors.{IsOutOfMemory}
pub use Rattle.raw_view.specs.Frame.Format.{binary_payload, element_of, framed, leaf_payload, plain_binary_payload, scoped_payload, string_payload, tagged}
pub use Rattle.raw_view.specs.Frame.{Done, End, Fault, Frame, HasShape, IsBinary, IsDbPointer, IsFrame, IsRegex, IsStop, IsWalk, LeadsTo, Stopped}
pub use Rattle.raw_view.specs.Frame.Front.{StepsFront, StopsWith}
pub use Rattle.raw_view.specs.Frame.Kind.{kind_of_leaf, tag_of}
pub use Rattle.raw_view.specs.Meaning.{HasInnerLength, IsBinaryValue, IsCodeWithScope, KeyedFault, Meaning, Means, MeansValue, RawValue, faulty, kind_of_raw, single, value}
pub use Rattle.raw_view.specs.Frame.Number.{le32, max_length}
pub use Rattle.raw_view.specs.Meaning.Value.{IsSingle, held_value, holding, value_of}
pub use Rattle.raw_view.specs.declared.bson_ref.RawBsonRef.{RawBsonRef}
pub use Rattle.raw_view.specs.declared.element.RawElement.{RawElement}
pub use Rattle.raw_view.specs.declared.element_type.ElementType.{ElementType}
pub use Rattle.raw_view.specs.declared.error.BorrowedError.{BorrowedError}
pub use Rattle.raw_view.specs.declared.error.Error.{Error}
pub use Rattle.raw_view.specs.declared.error.ErrorKind.{ErrorKind}
pub use Rattle.raw_view.specs.declared.level.Holder.{Holder}
pub use Rattle.raw_view.specs.declared.level.RawLevel.{RawLevel as Nested}
pub use Rattle.raw_tree.specs.Canonical.{AreDecimalsFrom, AreFramesCanonical, AreKeysCanonical, IsCanonical, IsCanonicalAs, IsCanonicalUpTo, IsValueCanonical}
pub use Rattle.raw_tree.specs.CanonicalForm.{AllAreSpelledOneWay, ComesBack, IsCanonicalForm, IsSpelledOneWay, IsSpelling}
pub use Rattle.raw_tree.specs.declared.reader.levels.Contents.{Contents}
pub use Rattle.raw_tree.specs.declared.reader.levels.Draft.{Draft}
pub use Rattle.raw_tree.specs.declared.reader.levels.Level.{Level}
pub use Rattle.raw_tree.specs.declared.reader.levels.Waiting.{Waiting}
pub use Rattle.raw_tree.specs.declared.reader.limits.Limits.{Limits}
pub use Rattle.raw_tree.specs.declared.validator.breach.Cause.{Cause}
pub use Rattle.raw_tree.specs.declared.writer.Payload.{Payload}
pub use Rattle.raw_tree.specs.declared.writer.members.Container.{Container}
pub use Rattle.raw_tree.specs.declared.writer.members.Members.{Members}
pub use Rattle.raw_tree.specs.put.Payload.{element_bytes, payload_of, unset}
pub use Rattle.raw_tree.specs.reader.FrameCount.{AllAreCountedOneWay, AllHaveOneFrameCount, CountsFrames, HasInside, CountsFront, HasFrameCount, HasFrameCountUpTo}
pub use Rattle.raw_tree.specs.reader.FrameCount.{HasFramesUntilFault, HasFramesUntilUpTo, TellsFrames}
pub use Rattle.raw_tree.specs.reader.Levels.{AreDrafted, AreRead, ClosesAs, DraftsTree, Finishes, IsOneMore, IsPairMore, IsSameDraft, IsUnread, KeepsKeys, PutsLevel, PutsValue, TellsFramesWithin, TellsReading}
pub use Rattle.raw_tree.specs.reader.Levels.{sort_of, texts_of, tree_of_contents}
pub use Rattle.raw_tree.specs.reader.Reading.{AllAreReadOneWay, AreReadOneWay, FailsAt, FirstFault, FirstFaultAt, FirstFaultOfFrame, FirstFaultOfValue, FrameStandsFor, Holds, HoldsAs, IsFrameReadOneWay}
pub use Rattle.raw_tree.specs.reader.Reading.{IsValueReadOneWay, Reads, ReadsAs, ReadsUpTo, Sort, StandForEach, StandForTrees, StandsFor, TellsFirstFault, as_array, as_document, barriers, leaf_in_order, tree_of_pairs}
pub use Rattle.raw_tree.specs.reader.WithinLimits.{AllAreAnsweredOneWay, AllHaveOneDepth, Barrier, FirstBarrier, FirstFaultWithin, HasDepth, HasDepthUpTo, IsFaultWith}
pub use Rattle.raw_tree.specs.reader.WithinLimits.{IsGreatestDepth, ReadsWithin, SaysBarrier, TellsFirstBarrier, TellsFirstFaultWithin, fault_of, too_deep, too_many_bytes}
pub use Rattle.raw_tree.specs.validator.Breaches.{AllAreValidatedOneWay, HasBreachAs, IsValidatedOneWay}
pub use Rattle.raw_tree.specs.validator.Violations.{BreachesKeys, keys_of_frames}
pub use Rattle.key_set.specs.References.{texts}
pub use Rattle.raw_tree.specs.walk.Looking.{left_of}
pub use Rattle.raw_tree.specs.writer.Encoding.{IsEncoded, IsRefused, encoded_len, encoding, entries_bytes, entries_len, items_bytes, items_len, kind_of_tree, tree_payload}
pub use Rattle.raw_tree.specs.writer.Encoding.{HasRoomFor, Measures}
pub use Rattle.raw_tree.specs.writer.Members.{Begun, HoldsTrees, IsLeafOf, begun_at, begun_of, ended, key_bytes, members, members_left, members_start, numbered, opening, opening_len}
pub use Rattle.raw_tree.specs.writer.Members.{tree_of_container, with_len}
