-- The lemmas of this crate that crates above may cite; they cite no other.

pub use Rattle.key_set.proofs.DistinctKeys.{distinct_apart, distinct_front}
pub use Rattle.key_set.proofs.KeyPlaces.{first_at, place_where, position_is}
pub use Rattle.key_set.proofs.KeySets.{keys_distinct}
