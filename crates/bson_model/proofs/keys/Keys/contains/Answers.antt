use Rattle.std.proofs.Common.{Option, ℕ, is_some, ap, ◌∙◌}
use Rattle.bson_model.specs.Keys.{has_bytes}
use Rattle.bson_model.proofs.Places.{somewhere}
use Rattle.bson_model.proofs.keys.Keys.contains.Goals as goal

pub returns : goal.returns
returns c = c.is_some.ensures ∙ ap (λ (o : Option ℕ). is_some o) c.index_of.ensures ∙ somewhere (has_bytes c.args.key.now) c.args.self.now
