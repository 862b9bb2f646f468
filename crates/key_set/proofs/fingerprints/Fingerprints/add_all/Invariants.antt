use Rattle.std.proofs.Common.{take}
use Rattle.key_set.specs.Fingerprints.{HaveFingerprints}
use Rattle.key_set.specs.References.{texts}
use Rattle.key_set.proofs.fingerprints.Fingerprints.add_all.Given as goal

-- the keys so far are hashed
abbrev pub invariant-loop-key : goal.invariant-loop-key
invariant-loop-key l = HaveFingerprints l.self (texts (take l.key-index l.keys))
