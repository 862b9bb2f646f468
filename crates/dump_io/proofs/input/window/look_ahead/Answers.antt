use Rattle.std.proofs.Common.{rules, ◌≡◌, ◌-◌, true, false, length, length-drop, drop, ap, sym, ◌∙◌}
use Rattle.dump_io.specs.input.Cut.{IsSoundLength, said_len}
use Rattle.dump_io.specs.input.Reading.{ahead_of}
use Rattle.dump_io.proofs.input.Going.{tells_cut, tells_document}
use Rattle.dump_io.proofs.input.window.look_ahead.Goals as goal

pub returns-then-not-branch-clause-told : goal.returns-then-not-branch-clause-told
returns-then-not-branch-clause-told g c =
    let sees = c.in_ok-look.ensures.looks in
    let no : c.in_ok-look.field-0 ≡ false = search rules in
    let (few, end) = sees.ends no in
    let left = length-drop c.args.from (ahead_of c.look.new.self) ∙ ap (λ l. length l - c.args.from) (sym c.ahead.ensures) in
    record {
      window = sees.window;
      offset = sees.offset;
      looks = sees.looks;
      is = c.too_few.ensures (g.R.Read.remaining c.look.new.reader) (drop c.args.from (ahead_of c.look.new.self)) left end c.args.most;
    }

pub returns-then-branch-clause-told : goal.returns-then-branch-clause-told
returns-then-branch-clause-told g c =
    let yes' : c.in_ok-look.field-0 ≡ true = search rules in
    let all : c.in_ok-look-2.field-0 ≡ true = search rules in
    let sound : IsSoundLength c.args.most c.length_at-said.result = search rules in
    let said : said_len (drop c.args.from (ahead_of c.look.new.self)) ≡ c.length_at-said.result =
    sym (c.length_at-said.ensures ∙ ap (λ l. said_len (drop c.args.from l)) c.ahead-2.ensures) in
    tells_document c.args.from
    c.length_at-said.result c.in_ok-look.field-0 c.in_ok-look-2.field-0 yes' c.in_ok-look.ensures.looks c.in_ok-look-2.ensures.looks said sound all

pub returns-else-branch-clause-told : goal.returns-else-branch-clause-told
returns-else-branch-clause-told g c =
    let yes' : c.in_ok-look.field-0 ≡ true = search rules in
    let no : c.in_ok-look-2.field-0 ≡ false = search rules in
    let sound : IsSoundLength c.args.most c.length_at-said.result = search rules in
    let said : said_len (drop c.args.from (ahead_of c.look.new.self)) ≡ c.length_at-said.result =
    sym (c.length_at-said.ensures ∙ ap (λ l. said_len (drop c.args.from l)) c.ahead-2.ensures) in
    tells_cut c.args.from
    c.length_at-said.result c.in_ok-look.field-0 c.in_ok-look-2.field-0 yes' c.in_ok-look.ensures.looks c.in_ok-look-2.ensures.looks said sound
    _ no (ap (λ l. length l - c.args.from) (sym c.ahead-else-branch.ensures))
