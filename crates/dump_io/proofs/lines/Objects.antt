-- How the tokens of an object grow.
use Rattle.std.proofs.Common.{◌≡◌, List, [], ◌++◌, ap, ◌∙◌, append_assoc}
use Rattle.json.specs.Token.{Token}
use Rattle.json.specs.Written.{Written}
use Rattle.dump_io.specs.lines.Told.{Grows}

-- an object has these tokens, and nothing before them
abbrev pub Has : Written → List Token → Type 0
Has w tokens = (w.before ≡ []) × (w.tokens ≡ tokens)

pub has_more : (a b : Written) (tokens more : List Token) → Has a tokens → Grows a b more → Has b (tokens ++ more)
has_more a b tokens more is grows = (grows.0 ∙ is.0, grows.1 ∙ ap (λ l. l ++ more) is.1)

pub grows_more : (a b c : Written) (x y : List Token) → Grows a b x → Grows b c y → Grows a c (x ++ y)
grows_more a b c x y p q = (q.0 ∙ p.0, q.1 ∙ ap (λ l. l ++ y) p.1 ∙ append_assoc a.tokens x y)
