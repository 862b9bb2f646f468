use Rattle.std.proofs.lemmas.Result.{IfOk-weaker}
use Rattle.std.specs.Box.{with_value}
use Rattle.key_set.proofs.KeySets.{ascending_kept, ascending_listed, indexed_more}
use Rattle.key_set.proofs.key_set.KeySet.add.Goals as goal

pub returns-then-is_behind : goal.returns-then-is_behind
returns-then-is_behind c = record {
  adds = rw (c.in-Ascending.is, c.in_ok-list-in-Ascending.ensures.listed) (ascending_kept c.in-Ascending.first c.args.listed.now.items c.args.key
      (rw c.deref.ensures.value at (c.is_behind.ensures c.if-is_behind.true)));
}

pub add_listed-requires-clause-are : goal.add_listed-requires-clause-are
add_listed-requires-clause-are c =
    let filtered = rw c.deref-in-Ascending.ensures.value at c.filter_of-filter.ensures in
    let r = rw c.in-Ascending.is at c.requires in
    (r.0, r.1, ascending_listed c.in-Ascending.first c.args.listed.now.items c.filter_of-filter.result filtered r.0 r.1 r.2)

pub returns-else-is_behind : goal.returns-else-is_behind
returns-else-is_behind c =
    let filtered = rw c.deref-in-Ascending.ensures.value at c.filter_of-filter.ensures in
    let listed = ascending_listed c.in-Ascending.first c.args.listed.now.items c.filter_of-filter.result filtered in
    record { adds = rw c.in-Ascending.is (IfOk-weaker c.add_listed.result _ _ (λ place adds below own has. adds below own (listed below own has)) c.add_listed.ensures.adds) }

pub returns-in-Indexed : goal.returns-in-Indexed
returns-in-Indexed c = record {
  adds = rw c.in-Indexed.is (IfOk-weaker c.insert.result _ _
      (indexed_more c.in-Indexed.set (with_value c.in-Indexed.set c.insert.new.self) c.args.listed.now.items c.args.key.now) (rw c.deref_mut.ensures.value at c.insert.ensures.inserts));
}
