use Rattle.std.proofs.Common.{◌≡◌, ◌++◌, ◌∙◌, List, Vec, ap, arith, codes, length, nat_eq, ℕ}
use Rattle.std.specs.declared.alloc.Global.{Global}
use Rattle.dump_commands.specs.elements.Changes.{items_of, separated}
use Rattle.dump_commands.specs.elements.Numbered.{after_paths}
use Rattle.dump_commands.proofs.elements.Joining.{words_told}
use Rattle.dump_commands.proofs.elements.changes.changes_words.Goals as goal

pub returns : goal.returns
returns c =
    let paths = c.args.changes.now.paths in
    let more = c.args.changes.now.more in
    let none = c.is_empty.result in
    let len : paths.len ≡ length paths.items = omega (arith, paths.ok.0) in
    words_told paths.items more c.push_more.new.text.items none (c.is_empty.ensures ∙ ap (λ (n : ℕ). nat_eq n 0) len)
    (c.in_ok-push_more.ensures ∙ ap (λ (t : List ℕ). t ++ after_paths none more) c.in_ok-text.ensures
    ∙ ap (λ (ts : List (Vec ℕ Global)). separated (codes ", ") (items_of ts) ++ after_paths none more) c.deref.ensures.value)
