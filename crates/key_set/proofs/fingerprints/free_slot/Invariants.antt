use Rattle.key_set.proofs.Fingerprinting.{ArePassed}
use Rattle.key_set.proofs.fingerprints.free_slot.Given as goal

abbrev pub invariant-probes : goal.invariant-probes
invariant-probes l = ArePassed l.slots l.start l.fingerprint l.at
