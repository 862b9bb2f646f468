use Rattle.std.proofs.Common.{bit_and}
use Rattle.key_set.specs.Fingerprints.{hash_of, fingerprint_of}
use Rattle.key_set.proofs.Fingerprinting.{fingerprint_some, fingerprints_kept}
use Rattle.key_set.proofs.fingerprints.Fingerprints.put.Goals as goal

pub returns-clause-kept : goal.returns-clause-kept
returns-clause-kept c k h =
    let free = rw c.deref.ensures.value at c.in-Some.ensures.free in
    fingerprints_kept c.args.self.now.slots.items c.in-Some.at c.fingerprint_of-fingerprint.result (bit_and (hash_of k) c.args.self.now.mask) (fingerprint_of (hash_of k))
    c.fingerprint_of-fingerprint.ensures.some (fingerprint_some (hash_of k)) free.within free.free h
