-- The lemmas of this crate that crates above may cite; they cite no other.

-- loops over elements
pub use Rattle.raw_view.proofs.Frames.Loops.{LeadsTo-walk, LeadsTo-more, LeadsTo-bound, IsFrame-shorter, HasRead-more, HasRead-end, HasRead-stop, HasRead-bound}
-- loops over keys and values, and over the values of arrays
pub use Rattle.raw_view.proofs.Values.ItemLoops.{HasReadItems-none, HasReadItems-bound, HasReadItems-pair, HasReadItems-value, HasReadItems-end, HasReadItems-pair_fault, HasReadItems-value_fault}
-- every document has a walk, every frame a meaning
pub use Rattle.raw_view.proofs.Frames.Iteration.{front_and_rest}
pub use Rattle.raw_view.proofs.Frames.Walks.{AreBytes-rest, document_has_walk}
pub use Rattle.raw_view.proofs.Values.Meanings.{has_meaning}
-- and there is one alone
pub use Rattle.raw_view.proofs.Unique.Walks.{one_frame, one_stop, one_walk, stop_key, the_walk, no_frame_at_stop, no_frame_at_final, no_stop_at_final}
pub use Rattle.raw_view.proofs.Unique.Items.{the_items}
pub use Rattle.raw_view.proofs.Unique.LookUps.{one_look_up}
pub use Rattle.raw_view.proofs.Unique.Meanings.{one_meaning}
-- an element is one before any following bytes
pub use Rattle.raw_view.proofs.Frames.Standing.{stands_anywhere}
-- documents, and bytes that begin with their own length
pub use Rattle.raw_view.proofs.Frames.Payloads.{counted_whole, document_framed}
-- what is written by the format
pub use Rattle.raw_view.proofs.Frames.Written.{length-framed, length-scoped_payload, AreBytes-leaf, AreBytes-scoped, AreBytes-framed, AreBytes-element, leaf_shape, declared_shape, framed_is_envelope, leaf_means, scoped_means}
-- the document at the front of bytes, and the length that they begin with: four bytes read as one length
pub use Rattle.raw_view.proofs.Bytes.Headers.{first_four, header_of_front}
pub use Rattle.raw_view.proofs.Frames.FirstDocuments.{refused_none, one_first}
pub use Rattle.raw_view.proofs.Bytes.Numbers.{read_front, IsLe32-same}
-- an error with a copy of its key says the fault, and that of a stop says the stop
pub use Rattle.raw_view.proofs.Frames.Iteration.{told_fault}
pub use Rattle.raw_view.proofs.LookUps.ByNumber.{stop_said}
