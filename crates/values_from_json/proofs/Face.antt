-- The lemmas of this crate that crates above may cite; they cite no other.

-- the keys of wrappers, and what those write that hold no others
pub use Rattle.values_from_json.proofs.Wrappers.{Writes, is_of_wrapper, named, none_wrapped, wrapped, wrapped_key, writes}
-- values from the tokens that were taken, and tokens that begin with none
pub use Rattle.values_from_json.proofs.Takes.{takes_oid, takes_regex, takes_symbol}
pub use Rattle.values_from_json.proofs.NoLeaf.{no_max_key, no_min_key, no_oid, no_regex, no_symbol, no_undefined}
pub use Rattle.values_from_json.proofs.Plain.{integer_only, no_double}
-- the rest of an object that writes one value
pub use Rattle.values_from_json.proofs.OldBinary.{behind_type, old_binary_first, old_binary_key}
-- the tokens of a value
pub use Rattle.values_from_json.proofs.Tokens.{same_value}
-- white space
pub use Rattle.values_from_json.proofs.Spaces.{are_dense, dense_at, dense_both, dense_kept, dense_repeated, encoding_kept}
-- the integers of texts
pub use Rattle.values_from_json.proofs.Integers.{no_minus_0, written_once}
pub use Rattle.values_from_json.proofs.Lacks.{wider}
