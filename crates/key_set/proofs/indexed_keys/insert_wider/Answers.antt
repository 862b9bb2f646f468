use Rattle.std.proofs.Common.{rules, ◌≡◌}
use Rattle.key_set.specs.Fingerprints.{HaveFingerprints}
use Rattle.key_set.specs.References.{texts}
use Rattle.key_set.proofs.Fingerprinting.{fingerprint_put, fingerprints_inserted}
use Rattle.key_set.proofs.References.{texts_push}
use Rattle.key_set.proofs.indexed_keys.insert_wider.Goals as goal

pub returns-then-put-clause-inserts : goal.returns-then-put-clause-inserts
returns-then-put-clause-inserts c =
    let items = c.args.keys.now.items in
    let same : c.if-len-ge-MANY.keys.items ≡ items = search rules in
    let have : HaveFingerprints c.in-Some.fingerprints (texts items) = rw (c.in-Some.is, c.deref.ensures.value) at c.in_ok-fingerprints.ensures.fingerprints in
    fingerprint_put c.in-Some.fingerprints c.put.new.self (texts items) (texts c.list.new.listed.items) c.put.ensures.kept have c.args.key.now (c.put.ensures.new c.if-put.true)
    (texts_push items c.args.key (rw same at c.in_ok-list.ensures.listed))

pub returns-clause-inserts : goal.returns-clause-inserts
returns-clause-inserts c =
    let items = c.args.keys.now.items in
    let same : c.if-len-ge-MANY.keys.items ≡ items = search rules in
    let have : HaveFingerprints c.in-Some.fingerprints (texts items) = rw (c.in-Some.is, c.deref.ensures.value) at c.in_ok-fingerprints.ensures.fingerprints in
    let inserts = rw same at c.in_ok-place.ensures.inserts in (
      inserts,
      fingerprints_inserted c.in-Some.fingerprints c.collide.new.self (texts items) (texts c.insert_colliding.new.keys.items) (λ k h. c.collide.ensures.kept k (c.put.ensures.kept k h)) have
          c.args.key.now c.in_ok-place.place inserts (c.collide.ensures.hashed c.if-not-collide.false),
    )
