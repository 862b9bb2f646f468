use Rattle.key_set.specs.Fingerprints.{HasFingerprint}
use Rattle.key_set.proofs.References.{each_next, texts_all}
use Rattle.key_set.proofs.fingerprints.Fingerprints.add_all.Goals as goal

pub loop-key-preserved : goal.loop-key-preserved
loop-key-preserved c = each_next (HasFingerprint c.loop-key.self) (HasFingerprint c.add.new.self) c.args.keys.now c.loop-key.key-index _ c.loop-key-test.true c.loop-key.invariant
    c.add.ensures.kept (c.add.ensures.hashed c.if-not-add.false)

pub returns : goal.returns
returns c = record { hashed = λ _. rw (texts_all c.args.keys.now c.loop-key.key-index c.loop-key-test.false) at c.loop-key.invariant }
