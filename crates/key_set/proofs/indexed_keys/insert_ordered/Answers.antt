use Rattle.std.proofs.Common.{inl, inr, length, arith, ap, refl}
use Rattle.key_set.specs.References.{texts}
use Rattle.key_set.proofs.KeyOrder.{ordered}
use Rattle.key_set.proofs.References.{length_texts, texts_push}
use Rattle.key_set.proofs.indexed_keys.insert_ordered.Goals as goal

pub returns-then-place-next : goal.returns-then-place-next
returns-then-place-next c =
    let refs = c.args.keys.now.items in
    let pushed = texts_push refs c.args.key (rw c.reserve.ensures.items at c.push_reserved.ensures.items) in
    let told = ordered (texts refs) c.requires c.in_ok-place.ensures.gives c.hash_of.ensures
    (omega (arith, c.len-next.ensures, c.reserve.new.self.ok.0, ap length c.reserve.ensures.items, length_texts refs)) _ _ (inl (c.if-place-next.true, refl)) pushed in
    record { inserts = told.0; ordered = told.1; same = tt }

pub returns : goal.returns
returns c =
    let refs = c.args.keys.now.items in
    let told = ordered (texts refs) c.requires c.in_ok-place.ensures.gives c.hash_of.ensures
    (omega (arith, c.len-next.ensures, c.reserve.new.self.ok.0, ap length c.reserve.ensures.items, length_texts refs)) _ _ (inr (c.if-place-next.false, refl)) (ap texts c.reserve.ensures.items) in
    record { inserts = told.0; ordered = told.1; same = tt }
