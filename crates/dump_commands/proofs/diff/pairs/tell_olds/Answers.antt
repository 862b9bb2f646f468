use Rattle.std.proofs.Common.{rules, ◌∙◌, ◌∷◌, [], ℕ, Bor, List, Option, ap, map, option_map, refl, take}
use Rattle.std.specs.BTreeMap.{get}
use Rattle.dump_commands.specs.diff.Numbering.{place_cmp, sides_at}
use Rattle.dump_commands.specs.diff.Pairs.{told_by, told_old}
use Rattle.dump_commands.specs.diff.Sides.{side_of}
use Rattle.dump_commands.specs.declared.diff.sides.Side.{Side}
use Rattle.dump_commands.proofs.Pairing.{next_counts, next_told, no_counts, old_found, told_next, told_none}
use Rattle.dump_commands.proofs.diff.pairs.tell_olds.Goals as goal

pub loop-side-init : goal.loop-side-init
loop-side-init c = (no_counts c.new-counts.result c.new-counts.ensures.empty, told_none told_old (sides_at c.args.news.now) (map told_by c.args.told.now.items))

pub loop-side-preserved : goal.loop-side-preserved
loop-side-preserved c =
    let olds = c.args.olds.now in
    let news = sides_at c.args.news.now in
    let i = c.loop-side.side-index in
    let taken = sides_at (take i olds) in
    let (counts, told) = c.loop-side.invariant in
    let number = c.in_ok-number.number in
    let initial = map told_by c.args.told.now.items in
    let partner = option_map (λ (s : Bor Side). side_of s.now) c.copied-partner.result in
    let is = c.in_ok-number.ensures.before ∙ counts _ in (
      next_counts olds i _ c.loop-side-test.true c.add_one.new.counts (c.in_ok-number.ensures.counted taken _ refl counts),
      next_told olds i _ c.loop-side-test.true told_old initial news (map told_by c.push_some.new.told.items)
          (told_next told_old initial news taken _ (map told_by c.loop-side.told.items) (map told_by c.push_some.new.told.items) (told_by c.told_old.result ∷ [])
          (old_found news taken _ number partner (told_by c.told_old.result ∷ []) is
          (ap (option_map (λ (s : Bor Side). side_of s.now)) (search rules) ∙ c.in_ok-news.ensures.numbered _ number) c.told_old.ensures) told c.in_ok-push_some.ensures),
    )
