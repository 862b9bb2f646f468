use Rattle.std.proofs.Common.{◌≡◌, ◌+◌, ◌∙◌, ℕ, List, Bor, None, Some, ap, arith, refl, rules, sym, length}
use Rattle.std.proofs.lemmas.List.{length_push}
use Rattle.std.specs.List.{position_from}
use Rattle.dump_commands.specs.elements.Numbered.{is_step}
use Rattle.dump_commands.proofs.elements.Numbering.{AreSteps, Puts, added, found_path}
use Rattle.dump_commands.proofs.elements.changes.numbers.Numbers.add.Goals as goal

pub returns : goal.returns
returns c =
    let steps = c.args.self.now.steps.items in
    let q : ℕ × Bor (List ℕ) = (c.args.before, c.args.key) in
    let none : position_from (is_step q) 1 steps ≡ None = sym (c.requires.numbered.found q) ∙ search rules in
    let number : c.len-number.result ≡ 1 + length steps =
    omega (arith, c.len-number.ensures, c.push.new.self.ok.0, ap length c.in_ok-push.ensures.items, length_push steps (record { before = c.args.before; key = c.args.key })) in
    let at : AreSteps steps c.args.before = record { order = c.requires.numbered.order; apart = c.requires.numbered.apart; there = c.requires.there } in
    let puts : Puts steps c.args.before c.args.key c.args.self.now.numbers c.insert.new.self c.len-number.result =
    record { found = c.requires.numbered.found; none = none; is = number; updates = c.in_ok-insert.ensures.updates } in
    let (has, numbered) = added c.args.key at puts (record { steps = c.push.new.self; numbers = c.insert.new.self }) c.in_ok-push.ensures.items refl in
    record { number = has; numbered = numbered }

pub returns-in-Some-clause-number : goal.returns-in-Some-clause-number
returns-in-Some-clause-number c =
    let steps = c.args.self.now.steps.items in
    let q : ℕ × Bor (List ℕ) = (c.args.before, c.args.key) in
    let there : position_from (is_step q) 1 steps ≡ Some c.in-Some.number.now = sym (c.requires.numbered.found q) ∙ search rules in
    let at : AreSteps steps c.args.before = record { order = c.requires.numbered.order; apart = c.requires.numbered.apart; there = c.requires.there } in
    found_path c.args.key at c.in-Some.number.now there
