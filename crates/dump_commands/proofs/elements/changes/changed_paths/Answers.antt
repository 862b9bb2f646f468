use Rattle.std.proofs.Common.{◌∙◌, List, ℕ, ap, length, map, subst, sym}
use Rattle.std.proofs.lemmas.Result.{IfOk-weaker}
use Rattle.dump_commands.specs.elements.Changes.{listing_of, outermost, path_shown}
use Rattle.dump_commands.specs.elements.Numbered.{AreWithin, at_numbers, leaves_in, paths_of}
use Rattle.dump_commands.proofs.elements.Transferring.{documents_differ}
use Rattle.dump_commands.proofs.elements.changes.changed_paths.Goals as goal

pub outermost-requires-clause-within : goal.outermost-requires-clause-within
outermost-requires-clause-within c =
    let old = c.in_ok-olds.ensures in
    let new = c.in_ok-news.ensures in
    let differ = documents_differ (paths_of c.leaves.new.numbers) {paths = paths_of c.leaves-2.new.numbers} new.extends new.numbered.apart
    c.deref.result.now c.deref-2.result.now c.in_ok-paths.paths.items old.within new.within c.deref.ensures.value c.deref-2.ensures.value c.in_ok-paths.ensures.paths in
    subst (AreWithin (length (paths_of c.leaves-2.new.numbers))) (sym c.deref-3.ensures.value) differ.1

pub returns-clause-listed : goal.returns-clause-listed
returns-clause-listed c =
    let paths = paths_of c.leaves-2.new.numbers in
    let before = paths_of c.leaves.new.numbers in
    let olds = c.in_ok-olds.olds.items in
    let news = c.in_ok-news.news.items in
    let old = c.in_ok-olds.ensures in
    let new = c.in_ok-news.ensures in
    let differ = documents_differ before {paths = paths} new.extends new.numbered.apart c.deref.result.now c.deref-2.result.now c.in_ok-paths.paths.items
    old.within new.within c.deref.ensures.value c.deref-2.ensures.value c.in_ok-paths.ensures.paths in
    IfOk-weaker c.listed.result _ _ (λ changes is. (
      leaves_in before olds,
      leaves_in paths news,
      old.leaves,
      new.leaves,
      is ∙ ap (λ (ns : List ℕ). listing_of (map path_shown (at_numbers paths ns))) c.deref-4.ensures.value
          ∙ ap (λ (ps : List (List (List ℕ))). listing_of (map path_shown ps))
          (c.in_ok-outer.ensures.outermost ∙ ap (λ (ns : List ℕ). outermost (at_numbers paths ns)) c.deref-3.ensures.value ∙ ap outermost differ.0),
    )) c.listed.ensures.listed
