-- The lemmas of this crate that crates above may cite; they cite no other.

-- bytes, and texts without a 0
pub use Rattle.bson_model.proofs.Bytes.{AreBytes-from_elements, AreBytes-nil, AreBytes-cons, AreBytes-append, AreBytes-take, AreBytes-front, AreBytes-back, AreBytes-drop, AreBytes-nul, AreBytes-number, AreBytes-text, NulFree-nil, NulFree-cons, NulFree-head, NulFree-tail}
-- options in order, and subtypes
pub use Rattle.bson_model.proofs.OptionOrder.{IsUtf8-sorted_options, NulFree-sorted_options, OptionsAscend-sorted_options, options_decided, sorted_options-same}
pub use Rattle.bson_model.proofs.Subtypes.{IsProperSubtype-subtype_of, subtype_byte-subtype_of}
-- pairs: which are kept, and one more
pub use Rattle.bson_model.proofs.Keep.{fold-keep, keep-last, keep-distinct, HasDistinctKeys-keep}
pub use Rattle.bson_model.proofs.Steps.{trees-more, with_trees-more}
pub use Rattle.bson_model.proofs.WellFormed.{keys_in-entries}
-- the tree of each kind of value, and what is smaller than a value
pub use Rattle.bson_model.proofs.Trees.{tree_laws, tree_of-Double, tree_of-String, tree_of-Document, tree_of-Array, tree_of-Binary, tree_of-Undefined, tree_of-ObjectId, tree_of-Boolean, tree_of-DateTime, tree_of-Null, tree_of-RegularExpression, tree_of-DbPointer, tree_of-JavaScriptCode, tree_of-Symbol, tree_of-JavaScriptCodeWithScope, tree_of-Int32, tree_of-Timestamp, tree_of-Int64, tree_of-Decimal128, tree_of-MaxKey, tree_of-MinKey}
pub use Rattle.bson_model.proofs.Measures.{value_smaller, document_smaller, code_smaller, scope_smaller, at_most_member}
-- equality decided kind by kind
pub use Rattle.bson_model.proofs.SubtypeEquality.{same_subtype}
pub use Rattle.bson_model.proofs.Variants.{AllDecide, Kinds, along, decided, joined}
