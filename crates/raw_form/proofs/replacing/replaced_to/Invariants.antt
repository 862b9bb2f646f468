use Rattle.std.proofs.Common.{◌-◌, vec_len}
use Rattle.raw_form.proofs.canonical.Common.{bytes_of, max_length}
use Rattle.raw_form.proofs.replacing.Levels.{IsReplacing}
use Rattle.raw_form.proofs.replacing.replaced_to.Given as goal

abbrev pub invariant-levels : goal.invariant-levels
invariant-levels l = IsReplacing l.fn.depth (bytes_of l.fn.document) l.waiting.items l.level l.out.items

-- each step writes, and no document is longer than this
abbrev pub decreases-levels : goal.decreases-levels
decreases-levels l = max_length - vec_len l.out
