use Rattle.std.proofs.Common.{◌≡◌, ◌<◌, ◌+◌, ◌++◌, ◌∷◌, ◌∙◌, [], ℕ, List, Bool, Vec, ap, arith, cond, get_or, length, not, subst, sym, take}
use Rattle.std.proofs.lemmas.List.{append-nil, get_or-map, take_all}
use Rattle.std.specs.declared.alloc.Global.{Global}
use Rattle.dump_commands.specs.elements.Numbered.{AreWithin, at_numbers, is_in_any, paths_of}
use Rattle.dump_commands.proofs.elements.Enclosing.{filter_more, filter_within, outside, outside_paths}
use Rattle.dump_commands.proofs.elements.Leaving.{within_at}
use Rattle.dump_commands.proofs.elements.Numbering.{count}
use Rattle.dump_commands.proofs.elements.changes.outer.outermost.Goals as goal
use Rattle.dump_commands.proofs.elements.changes.outer.outermost.Goals.{then-not-index+in_ok-push, else-not-index}

pub loop-path-preserved : goal.loop-path-preserved
loop-path-preserved c =
    let paths = paths_of c.args.numbers.now in
    let ns = c.args.paths.now in
    let i = c.loop-path.path-index in
    let n = get_or ns i 0 in
    let others = at_numbers paths ns in
    let there : n < length paths = within_at (length paths) ns i (omega (arith, count c.args.numbers.now.steps.items)) c.requires.within in
    let flag : c.index.result.now ≡ is_in_any others (get_or paths n []) =
    c.index.ensures ∙ ap (λ (bs : List Bool). get_or bs n c.index.result.now) (c.in_ok-inside.ensures ns c.requires.known c.requires.within)
    ∙ get_or-map (is_in_any others) paths n [] c.index.result.now there in
    let more = filter_more (λ (n : ℕ). not (is_in_any others (get_or paths n []))) ns i c.loop-path-test.true in
    elim c.if-not-index.branch as (λ _. c.if-not-index.outer.items ≡ outside paths others (take (i + 1) ns)) [
      | then-not-index+in_ok-push w ↦ ap (λ (v : Vec ℕ Global). v.items) w.outer-is ∙ w.in_ok-push.ensures.items ∙ ap (λ (xs : List ℕ). xs ++ n ∷ []) c.loop-path.invariant
          ∙ ap (λ (b : Bool). outside paths others (take i ns) ++ cond (not b) (n ∷ []) []) (sym w.if-not-index.true ∙ flag) ∙ sym more
      | else-not-index w ↦ ap (λ (v : Vec ℕ Global). v.items) w.outer-is ∙ c.loop-path.invariant ∙ sym (append-nil (outside paths others (take i ns)))
          ∙ ap (λ (b : Bool). outside paths others (take i ns) ++ cond (not b) (n ∷ []) []) (sym w.if-not-index.false ∙ flag) ∙ sym more
    ]

pub returns-clause-outermost : goal.returns-clause-outermost
returns-clause-outermost c =
    let paths = paths_of c.args.numbers.now in
    let ns = c.args.paths.now in
    let others = at_numbers paths ns in
    ap (at_numbers paths) (c.loop-path.invariant ∙ ap (outside paths others) (take_all c.loop-path.path-index ns c.loop-path-test.false)) ∙ outside_paths paths others ns

pub returns-clause-within : goal.returns-clause-within
returns-clause-within c =
    let paths = paths_of c.args.numbers.now in
    let ns = c.args.paths.now in
    let others = at_numbers paths ns in
    let p = λ (n : ℕ). not (is_in_any others (get_or paths n [])) in
    subst (AreWithin (length paths)) (sym (c.loop-path.invariant ∙ ap (outside paths others) (take_all c.loop-path.path-index ns c.loop-path-test.false)))
    (filter_within (length paths) p ns c.requires.within)
