use Rattle.std.proofs.Common.{◌-◌, length}
use Rattle.raw_tree.proofs.Common.{bytes_of}
use Rattle.raw_tree.proofs.validator.ValidatedAt.{IsValidatedAt}
use Rattle.raw_tree.proofs.validator.within.validate_to_depth.Given as goal

abbrev pub invariant-elements : goal.invariant-elements
invariant-elements l = IsValidatedAt l.fn.document l.fn.depth l.walk l.level l.outer_keys.items l.listed.items l.keys

-- the bytes after the offset
abbrev pub decreases-elements : goal.decreases-elements
decreases-elements l = length (bytes_of l.fn.document) - l.level.offset
