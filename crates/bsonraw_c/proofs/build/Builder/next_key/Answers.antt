use Rattle.std.proofs.Common.{◌≢◌, ◌+◌, ◌%◌, ◌<◌, ◌^◌, [], ℕ, ap, sym, ◌∙◌, arith, subst, cond}
use Rattle.std.proofs.lemmas.Fmt.{decimal_by_steps}
use Rattle.std.proofs.lemmas.List.Elements.{All-nil, All-push}
use Rattle.std.specs.Prelude.{decimal, nat_eq}
use Rattle.raw_bson.specs.Bytes.{NulFree}
use Rattle.bsonraw_c.proofs.build.Builder.next_key.Goals as goal

decimal_nul_free : (n : ℕ) → n < 2 ^ 64 → NulFree (decimal n)
decimal_nul_free = decimal_by_steps (λ m ds. NulFree ds) (λ m l. All-push (λ b. b ≢ 0) [] (48 + m) (All-nil (λ b. b ≢ 0)) (λ e. omega arith))
    (λ m ds l h. All-push (λ b. b ≢ 0) ds (48 + m % 10) h (λ e. omega arith))

pub returns-then-self-eq4-clause-key : goal.returns-then-self-eq4-clause-key
returns-then-self-eq4-clause-key c =
    let count = c.args.self.now.count in
    let is = ap (λ (t : ℕ). cond (nat_eq t 4) (decimal count) c.args.key.now) c.if-self-eq4.true in
    let text = c.as_bytes.ensures.value ∙ c.format.ensures.text in
    (text ∙ sym is, (subst NulFree (sym text) (decimal_nul_free count (omega arith)), c.as_bytes.ensures.utf8))
