use Rattle.std.proofs.Common.{◌≡◌, ◌<◌, ◌-◌, ◌++◌, ◌∙◌, ℕ, List, ap, append_assoc, arith, codes, drop, flat_map, length, map, sym, take}
use Rattle.std.proofs.lemmas.Bool.{cond_below}
use Rattle.std.proofs.lemmas.List.{drop-map, length-drop, length-map, take-map, take_all}
use Rattle.raw_tree.specs.Barriers.{step_of}
use Rattle.raw_tree.specs.Places.{Step}
use Rattle.dump_io.specs.lines.Told.{path_text, step_text}
use Rattle.dump_io.proofs.lines.Cases.{on_ok}
use Rattle.dump_io.proofs.lines.text.push_path.Goals as goal

-- a path of more than 20 steps
long_path : (steps : List Step) → 20 < length steps
    → path_text steps ≡ flat_map step_text (take 10 steps) ++ codes "/.." ++ flat_map step_text (drop (length steps - 10) steps)
long_path steps long =
    sym (cond_below 20 (length steps) (flat_map step_text (take 10 steps) ++ codes "/.." ++ flat_map step_text (drop (length steps - 10) steps)) (flat_map step_text steps) long)

three : (old a x b : List ℕ) → ((old ++ a) ++ x) ++ b ≡ old ++ ((a ++ x) ++ b)
three old a x b = ap (λ l. l ++ b) (append_assoc old a x) ∙ append_assoc old (a ++ x) b

pub returns : goal.returns
returns c =
    let p = c.args.path.now in
    let old = c.args.text.now.items in
    let steps = map step_of p in
    let size : length steps ≡ length p = length-map p step_of in
    let long : 20 < length steps = omega (arith, size, c.if-path.false) in
    let a = flat_map step_text (map step_of (take 10 p)) in
    let k = length p - 10 in
    let b = flat_map step_text (map step_of (drop k p)) in
    let rest : take (length p - k) (drop k p) ≡ drop k p = take_all (length p - k) (drop k p) (omega (arith, length-drop k p)) in
    let front : flat_map step_text (take 10 steps) ≡ a = ap (flat_map step_text) (take-map step_of 10 p) in
    let back : flat_map step_text (drop (length steps - 10) steps) ≡ b =
    ap (λ n. flat_map step_text (drop (n - 10) steps)) size ∙ ap (flat_map step_text) (drop-map step_of k p) in
    let whole : path_text steps ≡ (a ++ codes "/..") ++ b =
    long_path steps long ∙ ap (λ l. (l ++ codes "/..") ++ flat_map step_text (drop (length steps - 10) steps)) front ∙ ap (λ l. (a ++ codes "/..") ++ l) back in
    on_ok c.push_steps-3.result _ (c.push_steps-3.new.text.items ≡ old ++ path_text steps)
    (λ last. last ∙ ap (λ l. c.push_words.new.text.items ++ flat_map step_text (map step_of l)) rest
    ∙ ap (λ l. l ++ b) (c.in_ok-push_words.ensures ∙ ap (λ l. l ++ codes "/..") c.in_ok-push_steps.ensures)
    ∙ three old a (codes "/..") b ∙ ap (λ l. old ++ l) (sym whole))
    c.push_steps-3.ensures
