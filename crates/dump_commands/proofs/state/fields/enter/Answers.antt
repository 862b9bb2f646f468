use Rattle.std.proofs.Common.{◌∙◌, ◌++◌, ◌∷◌, [], ap, arith, nat_eq, ℕ}
use Rattle.dump_commands.specs.declared.state.fields.Level.{Level}
use Rattle.dump_commands.proofs.state.Prefixes.{went_in}
use Rattle.dump_commands.proofs.state.fields.enter.Goals as goal

pub returns : goal.returns
returns c =
    let t = c.args.token in
    let old = c.args.levels.now.items in
    let one : ℕ → Level = λ n. record { prefix = n; in_array = nat_eq t.tag 4 } in
    let (levels, kept) = went_in c.args.path.now.items c.push_words.new.text.items old c.push.new.self.items t.inside t.tag c.requires
    c.in_ok-push_words.ensures (c.in_ok-push.ensures.items ∙ ap (λ (n : ℕ). old ++ one n ∷ []) (c.len.ensures ∙ c.push_words.new.text.ok.0)) (omega (arith, c.if-token-eq0.false)) in
    record { levels = levels; kept = kept }
