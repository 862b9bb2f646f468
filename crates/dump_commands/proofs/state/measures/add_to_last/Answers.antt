use Rattle.std.proofs.Common.{◌≡◌, ◌∙◌, ◌+◌, ◌++◌, ◌∷◌, [], List, ap, arith, map, sym, ℕ}
use Rattle.std.proofs.lemmas.List.{map_push}
use Rattle.std.proofs.lemmas.Grind.{common_steps}
use Rattle.dump_io.specs.lines.Origins.{origin_of}
use Rattle.dump_commands.specs.state.Measures.{Share, share_of}
use Rattle.dump_commands.specs.declared.state.measures.Share as code
use Rattle.dump_commands.proofs.state.Sharing.{begins_next, stays_in}
use Rattle.dump_commands.proofs.state.measures.add_to_last.Goals as goal

pub returns-then-is_in_share-clause-added : goal.returns-then-is_in_share-clause-added
returns-then-is_in_share-clause-added c =
    let ys = c.pop.new.self.items in
    let last = c.in-Some.last in
    let count = c.in_ok-count.count in
    let was = ap (map share_of) c.in-Some.ensures.items ∙ map_push share_of ys last in
    let more : count ≡ last.count + 1 = grind (arith, common_steps) in
    let put = ap (map share_of) c.in_ok-push_share-2.ensures ∙ map_push share_of ys (record last { count = count })
    ∙ ap (λ (n : ℕ). map share_of ys ++ record (share_of last) { count = n } ∷ []) more in
    stays_in c.args.stretch (origin_of c.args.place) _ (map share_of ys) _ (share_of last) was (sym c.is_in_share.ensures ∙ c.if-is_in_share.true) put

pub returns-clause-added : goal.returns-clause-added
returns-clause-added c =
    let ys = c.pop.new.self.items in
    let last = c.in-Some.last in
    let first : code.Share = record { place = c.args.place; count = 1 } in
    let was = ap (map share_of) c.in-Some.ensures.items ∙ map_push share_of ys last in
    let both = c.in_ok-push_share-4.ensures ∙ ap (λ (xs : List code.Share). xs ++ first ∷ []) c.in_ok-push_share-3.ensures in
    let put = ap (map share_of) both ∙ map_push share_of (ys ++ last ∷ []) first ∙ ap (λ (xs : List Share). xs ++ share_of first ∷ []) (map_push share_of ys last) in
    begins_next c.args.stretch (origin_of c.args.place) _ (map share_of ys) _ (share_of last) was (sym c.is_in_share.ensures ∙ c.if-is_in_share.false) put
