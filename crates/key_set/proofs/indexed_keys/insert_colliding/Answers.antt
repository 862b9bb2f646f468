use Rattle.std.proofs.Common.{refl, sym, ◌∙◌}
use Rattle.key_set.proofs.KeyPlaces.{text_place}
use Rattle.key_set.proofs.References.{texts_push}
use Rattle.key_set.proofs.indexed_keys.insert_colliding.Goals as goal

pub returns-in-Some-clause-inserts : goal.returns-in-Some-clause-inserts
returns-in-Some-clause-inserts c = (sym c.in-Some.is ∙ ((rw c.deref.ensures.value at c.place_of.ensures) ∙ text_place c.args.key.now c.args.keys.now.items), refl)

pub returns-clause-inserts : goal.returns-clause-inserts
returns-clause-inserts c = (
  sym c.in_default.is ∙ ((rw c.deref.ensures.value at c.place_of.ensures) ∙ text_place c.args.key.now c.args.keys.now.items),
  texts_push c.args.keys.now.items c.args.key c.in_ok-list.ensures.listed,
)
