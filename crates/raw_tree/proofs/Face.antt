-- The lemmas of this crate that crates above may cite; they cite no other.

pub use Rattle.raw_tree.proofs.writer.Encodings.{length-tree_payload}
pub use Rattle.raw_tree.proofs.reader.OneWay.{bytes_one_way, enveloped_one_way}
pub use Rattle.raw_tree.proofs.Spelled.{frame_spelled, value_spelled}
-- loops over the levels of a document, and readings within limits
pub use Rattle.raw_tree.proofs.reader.Loops.{each_read, stand_more, nested_beside}
pub use Rattle.raw_tree.proofs.reader.OneTree.{one_value_of}
pub use Rattle.raw_tree.proofs.reader.Stacks.{held_holds}
pub use Rattle.raw_tree.proofs.reader.Limited.{answered_one_way, barred_at_one_place, barred_whole, read_within, to_depth}
-- canonical forms, and trees that are written level by level
pub use Rattle.raw_tree.proofs.CanonicalForms.{canonical_form, canonical_is_own_form, one_form}
pub use Rattle.raw_tree.proofs.Forms.{document_reads, canonical_frames_read}
pub use Rattle.raw_tree.proofs.writer.WrittenMembers.{IsWriting, left_in, left_with, room_left, writing_begins, writing_leaf, writing_inside, writing_ends}
-- walks over all levels, first barriers and violations
pub use Rattle.raw_tree.proofs.walk.Bounds.{barrier_bound, violation_bound}
pub use Rattle.raw_tree.proofs.walk.Frames.{drop_frame, end_behind, frame_size, item_at, walk_over, walk_step}
pub use Rattle.raw_tree.proofs.walk.Come.{come_front, come_within}
pub use Rattle.raw_tree.proofs.walk.Offsets.{envelope_fits}
pub use Rattle.raw_tree.proofs.walk.OneBarrier.{barrier_told}
pub use Rattle.raw_tree.proofs.walk.Rooms.{filled_more, filled_none}
pub use Rattle.raw_tree.proofs.walk.Starts.{first_begins}
pub use Rattle.raw_tree.proofs.walk.Visits.{reads_visits}
-- what isn't canonical
pub use Rattle.raw_tree.proofs.validator.NotCanonical.{breach_not_canonical, too_deep_not_canonical}
