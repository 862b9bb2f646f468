use Rattle.std.proofs.Common.{map, sym, ◌∙◌}
use Rattle.std.proofs.lemmas.List.{length-map}
use Rattle.std.specs.String.{string_bytes}
use Rattle.bson_model.proofs.Zips.{zip_values}
use Rattle.bson_model.proofs.parts.Parts.into_values.Goals as goal

pub returns : goal.returns
returns g c =
    let a = c.self.inside in
    rw (← c.self.view_is) (sym (zip_values (map string_bytes a.keys) a.values.items (c.self.invariant ∙ sym (length-map a.keys string_bytes))))
