-- The lemmas of this crate that crates above may cite; they cite no other.

-- what is charged stays within its bound
pub use Rattle.raw_resync.proofs.Costing.{keeps_same, keeps_on, keeps_before}
-- passed places, one after another
pub use Rattle.raw_resync.proofs.Passing.{and_false, and_true, passes_none, passes_after}
pub use Rattle.raw_resync.proofs.Joining.{found_further, passes_further}
-- what searches show
pub use Rattle.raw_resync.proofs.Believing.{believes_explained, doubts_disbelieved, found_goes_on, one_found, one_left, one_looked, passes_stop_all, sound_framed, walks_front}
