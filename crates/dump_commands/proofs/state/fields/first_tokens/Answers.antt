use Rattle.std.proofs.Common.{◌≡◌, ◌++◌, ◌∙◌, ap, arith, drop, length, subst, sym, take, ℕ}
use Rattle.raw_form.specs.Tokens.{HasTokens}
use Rattle.raw_view.specs.Document.{bytes_of}
use Rattle.dump_commands.proofs.state.Tabled.{front_taken, tokens_whole}
use Rattle.dump_commands.proofs.state.fields.first_tokens.Goals as goal

pub returns-in-Ok-clause-tokens : goal.returns-in-Ok-clause-tokens
returns-in-Ok-clause-tokens c = λ few.
    let b = bytes_of c.args.document in
    let before = c.deref_mut.result.now in
    let after = c.flatten_within.new.tokens in
    let len = c.in_ok-tokens.ensures.len in
    let items = c.truncate.ensures.items in
    let room : length before ≡ c.args.room = ap length c.deref_mut.ensures.value ∙ omega (arith, len) in
    let rest = drop (length after) c.in_ok-tokens.tokens.items in
    let same : c.in_ok-tokens.tokens.len ≡ length after =
    omega (arith, c.in_ok-tokens.tokens.ok.0, c.deref_mut.ensures.len, ap length c.deref_mut.ensures.value, c.flatten_within.auto.tokens) in
    let all : take c.in_ok-tokens.tokens.len (after ++ rest) ≡ after = ap (λ (n : ℕ). take n (after ++ rest)) same ∙ front_taken after rest in
    let first : take c.in-Ok.count after ≡ c.truncate.new.self.items = sym (items ∙ ap (take c.in-Ok.count) all) in
    subst (HasTokens c.args.limits.depth 0 0 b) first
    (tokens_whole c.args.limits b before after c.in-Ok.count c.in-Ok.ensures.flat (omega (arith, few, room)))
