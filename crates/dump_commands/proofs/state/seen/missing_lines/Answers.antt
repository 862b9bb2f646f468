use Rattle.std.proofs.Common.{◌≡◌, ◌++◌, ◌∙◌, [], Bool, List, ap, arith, cond, rules, ℕ}
use Rattle.std.proofs.lemmas.Str.Pattern.{split_parts}
use Rattle.dump_commands.specs.elements.Pick.{comma, parts}
use Rattle.dump_commands.specs.state.Seen.{missing_line, missing_lines}
use Rattle.dump_commands.proofs.state.Missing.{first_line, missing_last, missing_more}
use Rattle.dump_commands.proofs.state.seen.missing_lines.Goals as goal

pub paths-preserved : goal.paths-preserved
paths-preserved c =
    let l = c.paths in
    let cut = rw c.in-Some.is at (split_parts comma l.rest.now c.split_once.result c.split_once.ensures.cases (omega arith)) in
    let put : c.push_missing.new.text.items ≡ l.text.items ++ first_line c.args.style c.in-Some.path.now l.left.now =
    c.in_ok-push_missing.ensures ∙ ap (λ (had : Bool). l.text.items ++ cond had [] (missing_line c.args.style c.in-Some.path.now)) c.first_or.ensures in (
      ap (λ (x : List ℕ). x ++ missing_lines c.args.style (parts comma c.in-Some.more.now) c.without_first-left.result.now) put
          ∙ ap (λ (x : List Bool). (l.text.items ++ first_line c.args.style c.in-Some.path.now l.left.now) ++ missing_lines c.args.style (parts comma c.in-Some.more.now) x)
          c.without_first-left.ensures
          ∙ missing_more c.args.style l.text.items c.args.paths.now l.rest.now c.in-Some.path.now c.in-Some.more.now c.args.seen.now l.left.now l.invariant.0 cut.0 cut.1,
      search rules,
    )

pub returns : goal.returns
returns c =
    let l = c.paths in
    let last = rw c.in_default.is at (split_parts comma l.rest.now c.split_once.result c.split_once.ensures.cases (omega arith)) in
    missing_last c.args.style l.text.items c.push_missing-2.new.text.items c.args.paths.now l.rest.now c.args.seen.now l.left.now l.invariant.0 last
    (c.in_ok-push_missing-2.ensures ∙ ap (λ (had : Bool). l.text.items ++ cond had [] (missing_line c.args.style l.rest.now)) c.first_or-2.ensures)
