use Rattle.std.proofs.Common.{◌∙◌}
use Rattle.std.proofs.lemmas.Bool.{false≢true}
use Rattle.values_from_json.proofs.Uuids.{at_36, none_of}
use Rattle.values_from_json.proofs.leaves.uuid_of.Goals as goal

-- a text that the kit's reader refuses has no form at all
pub returns-in-Err : goal.returns-in-Err
returns-in-Err c = none_of _ (λ b is. false≢true (c.in-Err.ensures.ok.1 (b, at_36 _ c.if-text-ne36.false ∙ is)))
