-- The lemmas of this crate that crates above may cite; they cite no other.

pub use Rattle.dump_io.proofs.input.Ahead.{all_ahead, front_kept, input_behind, nil_of_none}
pub use Rattle.dump_io.proofs.input.Between.{between_none, between_on}
pub use Rattle.dump_io.proofs.input.Deciding.{searches_on, stays_on, tells_document, tells_doubted, tells_other, tells_taken}
pub use Rattle.dump_io.proofs.input.Going.{ends_all, said_front, unsound_behind}
pub use Rattle.dump_io.proofs.input.Outlines.{ScansAs, last_goes, nothing_goes_on, scans_as}
pub use Rattle.dump_io.proofs.input.Placing.{no_line_first, no_line_none, no_line_on, position_none, position_on}
pub use Rattle.dump_io.proofs.input.Portioning.{goes_none, some_any}
pub use Rattle.dump_io.proofs.input.Skipping.{goes_ahead, not_false, passes_ahead, passes_more, passes_none, read_behind}
pub use Rattle.dump_io.proofs.lines.Cases.{if_err_reading, if_ok, in_ok, on_ok}
pub use Rattle.dump_io.proofs.lines.Fronts.{front_behind, front_first, front_none, front_whole, on_any, on_err, on_errs}
pub use Rattle.dump_io.proofs.lines.Objects.{grows_more, has_more}
