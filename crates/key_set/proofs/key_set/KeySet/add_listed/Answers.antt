use Rattle.std.proofs.Common.{sym, ◌∙◌}
use Rattle.std.proofs.lemmas.Result.{IfOk-weaker}
use Rattle.key_set.proofs.KeySets.{listed_found, listed_more, own_texts}
use Rattle.key_set.proofs.key_set.KeySet.add_listed.Goals as goal

pub place_among-requires-clause-filtered : goal.place_among-requires-clause-filtered
place_among-requires-clause-filtered c =
    let r = c.requires.are in
    rw (c.deref.ensures.value, own_texts c.args.listed.now.items r.0 r.1 c.args.first r.2.1 r.2.2) r.2.3

pub returns-in-Some : goal.returns-in-Some
returns-in-Some c = record {
  adds = rw c.requires.is (listed_found c.args.first c.args.listed.now.items c.args.filter c.args.key.now c.in-Some.place (sym c.in-Some.is ∙ (rw c.deref.ensures.value at c.place_among.ensures)));
}

pub returns-then-own-lt-MOST_LISTED : goal.returns-then-own-lt-MOST_LISTED
returns-then-own-lt-MOST_LISTED c =
    let here = rw c.filter_bit-bit.ensures.bit at c.with_bit.ensures.filtered in
    record {
      adds = rw c.in_ok-list.ensures.listed (listed_more c.args.first c.args.listed.now.items c.args.filter c.with_bit.result c.args.key
          (sym c.in_default.is ∙ (rw c.deref.ensures.value at c.place_among.ensures)) c.with_bit.ensures.kept here);
    }

pub returns : goal.returns
returns c = record { adds = IfOk-weaker c.add_indexed.result _ _ (λ place moves below own has. moves below own (has.0, has.1, has.2)) c.add_indexed.ensures.moves }
