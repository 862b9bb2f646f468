-- The lemmas of this crate that crates above may cite; they cite no other.

pub use Rattle.dump_commands.proofs.Emitting.{writes_kept}
