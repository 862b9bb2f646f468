-- The lemmas of raw_tree, passed on by this crate, that crates above may cite; they cite no other.

pub use Rattle.raw_tree.proofs.Face.{barrier_bound, barrier_told, breach_not_canonical, too_deep_not_canonical, violation_bound}
