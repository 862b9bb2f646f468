use Rattle.std.specs.Box.{with_value}
use Rattle.key_set.proofs.KeySets.{listed_moved, own_texts}
use Rattle.key_set.proofs.key_set.KeySet.add_indexed.Goals as goal

pub indexed-requires : goal.indexed-requires
indexed-requires c =
    let r = c.requires in
    rw (c.deref.ensures.value, own_texts c.args.listed.now.items r.0 r.1 c.args.first r.2.1 r.2.2) r.2.0

pub returns : goal.returns
returns c =
    let inserts = rw (c.deref_mut.ensures.value, c.in_ok-set.ensures.keys, c.deref.ensures.value) at c.in_ok-place.ensures.inserts in
    record { moves = rw c.truncate.ensures.items (listed_moved c.args.first c.args.listed.now.items c.args.key.now (with_value c.in_ok-set.set c.insert.new.self) c.in_ok-place.place inserts) }
