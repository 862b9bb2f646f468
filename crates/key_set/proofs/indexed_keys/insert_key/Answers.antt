use Rattle.key_set.specs.References.{texts}
use Rattle.key_set.proofs.Fingerprinting.{fingerprint_put}
use Rattle.key_set.proofs.References.{texts_push}
use Rattle.key_set.proofs.indexed_keys.insert_key.Goals as goal

pub returns-then-put : goal.returns-then-put
returns-then-put c =
    let refs = c.args.keys.now.items in
    let told = fingerprint_put c.in-Hashed.fingerprints c.put.new.self (texts refs) (texts c.list.new.listed.items) c.put.ensures.kept (rw c.in-Hashed.is at c.requires)
    c.args.key.now (c.put.ensures.new c.if-put.true) (texts_push refs c.args.key c.in_ok-list-in-Hashed.ensures.listed) in
    record { inserts = told.0; finds = told.1 }
