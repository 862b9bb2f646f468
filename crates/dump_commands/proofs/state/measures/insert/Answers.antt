use Rattle.std.proofs.Common.{◌∙◌, List, ap, map, nat_lt, ℕ}
use Rattle.std.specs.List.{insert, position_or_len}
use Rattle.dump_commands.specs.state.Measures.{Ranked, ranked_of}
use Rattle.dump_commands.specs.declared.state.measures.Ranked as code
use Rattle.dump_commands.proofs.state.Ranking.{map_inserted}
use Rattle.dump_commands.proofs.state.measures.insert.Goals as goal

pub returns : goal.returns
returns c =
    let old = c.args.largest.now.items in
    let d = c.args.document in
    let shorter : Ranked → _ = λ (s : Ranked). nat_lt s.size d.size in
    let place = c.place_of-place.ensures.first ∙ ap (λ (xs : List code.Ranked). position_or_len shorter (map ranked_of xs)) c.deref.ensures.value in
    ap (map ranked_of) c.in_ok-insert.ensures.items ∙ map_inserted ranked_of old c.place_of-place.result d
    ∙ ap (λ (n : ℕ). insert (map ranked_of old) n (ranked_of d)) place
