use Rattle.std.proofs.Common.{◌∙◌, List, ap, map, sym, take}
use Rattle.std.proofs.lemmas.List.{take-map}
use Rattle.dump_commands.specs.state.Measures.{Ranked, measures_of, ranked_of}
use Rattle.dump_commands.proofs.state.measures.Measures.add_ranked.Goals as goal

pub returns : goal.returns
returns c =
    let most = c.args.most in
    let largest = ap (map ranked_of) c.truncate.ensures.items ∙ sym (take-map ranked_of most c.insert.new.largest.items) ∙ ap (take most) c.in_ok-insert.ensures in
    ap (λ (xs : List Ranked). record (measures_of c.args.self.now) { largest = xs }) largest
