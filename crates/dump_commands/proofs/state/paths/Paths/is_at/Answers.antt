use Rattle.std.proofs.Common.{◌≡◌, ◌<◌, ◌∙◌, Global, List, Vec, ap, bytes_eq, get_or, length, subst, sym, true, ℕ}
use Rattle.dump_commands.proofs.state.Tabled.{found_at}
use Rattle.dump_commands.proofs.state.paths.Paths.is_at.Goals as goal

pub returns-then-number-texts : goal.returns-then-number-texts
returns-then-number-texts c = λ yes.
    let keys = c.args.self.now.texts.keys in
    let n = c.args.number in
    let path = c.args.path.now in
    let x = c.index-texts-number.result in
    let item : x ≡ get_or keys n x = c.index-texts-number.is ∙ ap (λ (xs : List (Vec ℕ Global)). get_or xs n x) c.as_slice-texts.ensures.keys in
    let there : n < length keys = subst (λ (xs : List (Vec ℕ Global)). n < length xs) c.as_slice-texts.ensures.keys c.if-number-texts.true in
    let equal : bytes_eq c.as_slice.result.now path ≡ true = sym c.eq.ensures ∙ yes in
    let same : bytes_eq (get_or keys n x).items path ≡ true =
    ap (λ (v : Vec ℕ Global). bytes_eq v.items path) (sym item) ∙ ap (λ (b : List ℕ). bytes_eq b path) (sym c.as_slice.ensures.value) ∙ equal in
    found_at (λ (text : Vec ℕ Global). text.items) path keys n x c.as_slice-texts.ensures.unique there same
