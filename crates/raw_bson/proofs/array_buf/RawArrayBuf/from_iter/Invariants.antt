use Rattle.std.proofs.Common.{◌≡◌, length}
use Rattle.raw_bson.specs.Append.{HoldsFrames}
use Rattle.raw_bson.specs.Fills.{TakesEach, TakesValue, empty_array, frames_from}
use Rattle.raw_bson.proofs.array_buf.RawArrayBuf.from_iter.Given as goal

abbrev pub invariant-loop-value : goal.invariant-loop-value
invariant-loop-value g l = TakesEach TakesValue empty_array l.yielded l.array × HoldsFrames l.array.bytes (frames_from 0 l.yielded) × (l.array.count ≡ length l.yielded)
