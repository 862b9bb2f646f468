use Rattle.std.proofs.Common.{◌∙◌, ℕ, List, map, refl, take}
use Rattle.dump_commands.specs.diff.Numbering.{sides_at, told_list}
use Rattle.dump_commands.specs.diff.Pairs.{told_by, told_new}
use Rattle.dump_commands.proofs.Pairing.{new_found, next_counts, next_told, no_counts, told_next, told_none}
use Rattle.dump_commands.proofs.diff.pairs.tell_news.Goals as goal

pub loop-side-init : goal.loop-side-init
loop-side-init c = (no_counts c.new-counts.result c.new-counts.ensures.empty, λ ss are. told_none told_new ss (map told_by c.args.told.now.items))

pub loop-side-preserved : goal.loop-side-preserved
loop-side-preserved c =
    let news = c.args.news.now in
    let i = c.loop-side.side-index in
    let taken = sides_at (take i news) in
    let (counts, told) = c.loop-side.invariant in
    let number = c.in_ok-number.number in
    let initial = map told_by c.args.told.now.items in
    let is = c.in_ok-number.ensures.before ∙ counts _ in (
      next_counts news i _ c.loop-side-test.true c.add_one.new.counts (c.in_ok-number.ensures.counted taken _ refl counts),
      λ ss are. next_told news i _ c.loop-side-test.true told_new initial ss (map told_by c.push_some.new.told.items)
          (told_next told_new initial ss taken _ (map told_by c.loop-side.told.items) (map told_by c.push_some.new.told.items) (told_list c.told_new.result)
          (new_found ss taken _ number c.count_at.result (told_list c.told_new.result) is (c.count_at.ensures ∙ are _) c.told_new.ensures) (told ss are) c.in_ok-push_some.ensures),
    )
