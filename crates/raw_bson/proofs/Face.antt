-- The lemmas that crates above may cite, those of the crates below included; they cite no other.

-- loops over elements
pub use Rattle.raw_view.proofs.Face.{LeadsTo-walk, LeadsTo-more, LeadsTo-bound, IsFrame-shorter, HasRead-end, HasRead-bound}
pub use Rattle.raw_bson.proofs.LoopSteps.{HasRead-more, HasRead-stop}
-- loops over keys and values, and over the values of arrays
pub use Rattle.raw_view.proofs.Face.{HasReadItems-none, HasReadItems-bound, HasReadItems-end}
pub use Rattle.raw_bson.proofs.LoopSteps.{HasReadItems-pair, HasReadItems-value, HasReadItems-pair_fault, HasReadItems-value_fault}
-- the items read so far begin every list of items, and the next one follows them
pub use Rattle.raw_bson.proofs.EachItems.{LeadsTo-begins, HasReadItems-begins, HasReadItems-next}
-- loops that ask something of each item, even if they end early
pub use Rattle.raw_bson.proofs.EachItems.{HasReadEach-none, HasReadEach-pair, HasReadEach-comes, HasReadEach-fault, HasReadEach-value, HasReadEach-comes_value, HasReadEach-value_fault, HasReadEach-end}
pub use Rattle.raw_bson.proofs.EachItems.{HasTried, HasTried-more, HasTried-error, HasTried-fault, HasTried-end, HasSought, HasSought-more, HasSought-found, HasSought-fault, HasSought-end}
-- loops that take a state from item to item, or from document to document of a dump
pub use Rattle.raw_bson.proofs.Folds.{HasFolded, HasFolded-none, HasFolded-more, HasFolded-error, HasFolded-fault, HasFolded-end, HasFolded-grows}
pub use Rattle.raw_bson.proofs.Folds.{ReadsDump-none, ReadsDump-more, ReadsDump-length, ReadsDump-offset, ReadsDump-grows, joined-more}
-- a look-up followed by a question about the value: the steps, and what follows
pub use Rattle.raw_bson.proofs.EachItems.{AsksUnder-found, AsksUnder-fault}
pub use Rattle.raw_bson.proofs.LookUps.{AsksUnder-ok, AsksUnder-error, GetsByKey-found, GetsByKey-none}
pub use Rattle.raw_bson.proofs.EachItems.{EachItem-more, EachItem-at, OneItem-at, OneItem-none, ComesTo-not_each, ComesTo-one, HoldsOfEach-not_one}
-- `==` of borrowed values
pub use Rattle.raw_bson.proofs.SameViews.{same_view, view_same, view_differs}
-- rows of appends, and what was read and is written again
pub use Rattle.raw_bson.proofs.HeldFrames.{HoldsFrames-empty, HoldsFrames-value, HoldsFrames-element, HaveNoShortScope-more, HaveNoShortScope-last, value_is_long, value_means, frame_again}
-- rows of appends of keys and values, and where one fails
pub use Rattle.raw_bson.proofs.Rows.{HoldsRow-empty, HoldsRow-more, RefusesRow-at}
-- copies of a document, element by element
pub use Rattle.raw_bson.proofs.Copying.{HasCopied, HasCopied-none, HasCopied-skip, HasCopied-element, HasCopied-value, HasCopied-put, HasCopied-stop, HasCopied-end}
pub use Rattle.raw_bson.proofs.Copying.{EndsCopy-new, EndsCopy-stop, EndsCopy-element, EndsCopy-put, EndsCopy-inside}
pub use Rattle.raw_bson.proofs.Copying.{IsNoLonger, IsNoLonger-none, IsNoLonger-skip, IsNoLonger-element, IsNoLonger-refused}
-- the lengths of elements, of what follows them, and of a document with one more
pub use Rattle.raw_bson.proofs.Lengths.{length_left, length_left-step, length-frame_bytes, length-appended_bytes, RefusesLength-bound}
-- there is exactly one walk, and exactly one meaning of a frame
pub use Rattle.raw_view.proofs.Face.{one_frame, one_walk, one_meaning}
-- the document at the front of bytes, and the length that they begin with: four bytes read as one
pub use Rattle.raw_view.proofs.Face.{first_four, header_of_front, refused_none, one_first, read_front, IsLe32-same}
-- the canonical form of a tree that is read
pub use Rattle.raw_tree.proofs.Face.{bytes_one_way, canonical_form}
-- bytes of a slice
pub use Rattle.bson_model.proofs.Face.{AreBytes-from_elements}
-- the tree of each kind of value
pub use Rattle.bson_model.proofs.Face.{tree_laws, tree_of-Double, tree_of-String, tree_of-Document, tree_of-Array, tree_of-Binary, tree_of-Undefined, tree_of-ObjectId, tree_of-Boolean, tree_of-DateTime, tree_of-Null, tree_of-RegularExpression, tree_of-DbPointer, tree_of-JavaScriptCode, tree_of-Symbol, tree_of-JavaScriptCodeWithScope, tree_of-Int32, tree_of-Timestamp, tree_of-Int64, tree_of-Decimal128, tree_of-MaxKey, tree_of-MinKey}
-- what is smaller than a value or a document, for calls that go down a tree
pub use Rattle.bson_model.proofs.Face.{value_smaller, document_smaller, code_smaller, scope_smaller, at_most_member}
pub use Rattle.raw_bson.proofs.SmallerValues.{AreSmaller, values_smaller}
