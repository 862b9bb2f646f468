-- The lemmas of this crate that crates above may cite; they cite no other.

-- the law, of every document with an envelope
pub use Rattle.json_round_trip.proofs.Law.{closes_circle}
