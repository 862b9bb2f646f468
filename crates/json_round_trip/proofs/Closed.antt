-- The law of the round trip: what is printed of a canonical document whose tree comes back means that document alone.
use Rattle.std.proofs.Common.{◌≡◌, ◌+◌, ℕ, List, [], ◌++◌, Option, Some, None, refl, sym, ap, subst, ◌∙◌, arith}
use Rattle.json.specs.Json.{Json, Members, value}
use Rattle.json.specs.Json as json
use Rattle.json.specs.Token.{Token}
use Rattle.json.specs.Tree.{json_tokens, depth}
use Rattle.json.proofs.Printed.Trees.{ArePrintable-json_tokens, value-json_tokens}
use Rattle.bson_model.specs.Leaf.{Leaf}
use Rattle.bson_model.specs.Tree.{Tree, Entries, leaf, array, document, code_with_scope}
use Rattle.raw_view.specs.Frame.Envelope.{IsEnvelope}
use Rattle.raw_tree.specs.Encoding.{encoding}
use Rattle.raw_tree.specs.Canonical.{IsCanonicalUpTo}
use Rattle.raw_tree.specs.Reading.{as_document, Reads, ReadsUpTo}
use Rattle.raw_tree.proofs.Face.{bytes_one_way, canonical_is_own_form}
use Rattle.bson_from_json.specs.Meaning.{IsWhole}
use Rattle.bson_from_json.specs.Texts.{IsJsonText, IsWritten, Says}
use Rattle.json_round_trip.specs.Closing.{ClosesCircle, SaysAlone}
use Rattle.json_round_trip.specs.Printed.{LeafIsPrinted}
use Rattle.json_round_trip.proofs.Says.{IsObjectPrinted}
use Rattle.json_round_trip.proofs.Spaced.{tokens_of}
use Rattle.json_round_trip.proofs.Within.{read_within_limits}
use Rattle.json_round_trip.proofs.Walks.{IsLevel, IsWholePrinted, Shown, whole_printed}

-- values of the same tokens are the same

abbrev first_or : Option (Json × List Token) → Json → Json
first_or None j = j
first_or (Some p) j = p.0

same_value : (j k : Json) → json_tokens j ≡ json_tokens k → j ≡ k
same_value j k e =
    let d = depth j + depth k in
    let x = value-json_tokens j d [] (omega arith) in
    let y = value-json_tokens k d [] (omega arith) in
    ap (λ (o : Option (Json × List Token)). first_or o j) (sym x ∙ ap (λ (ts : List Token). value d (ts ++ [])) e ∙ y)

-- an object that is printed like this means its document alone

module _ (es : Entries) (text : List ℕ) (ms : Members) (h : IsObjectPrinted es text ms) where
  is_text : IsJsonText text (json.object ms)
  is_text = tokens_of text (json_tokens (json.object ms)) h.spaced (ArePrintable-json_tokens (json.object ms) h.numbers)

  written : IsWritten text (encoding (document es))
  written = (es, (json.object ms, is_text, h.say), refl)

  written_alone : (bytes : List ℕ) → IsWritten text bytes → bytes ≡ encoding (document es)
  written_alone bytes (others, (j, is, whole), e) =
      let same : j ≡ json.object ms = same_value j (json.object ms) (sym is ∙ is_text) in
      e ∙ ap (λ (x : Entries). encoding (document x)) (h.only others (subst (λ (x : Json). IsWhole x others) same whole))

  says_alone : (b : List ℕ) → encoding (document es) ≡ b → SaysAlone text b
  says_alone b e = record { written = subst (IsWritten text) e written; only = λ bytes w. written_alone bytes w ∙ e }

-- .. and the entries of its tree are said
whole_written : (t : Tree) (text : List ℕ) → IsWholePrinted t text → (es : Entries) × Says text es × (t ≡ document es)
whole_written (leaf l) text w = absurd w
whole_written (array ts) text w = absurd w
whole_written (document es) text w = (es, (json.object w.0, is_text es text w.0 w.1, w.1.say), refl)
whole_written (code_with_scope code es) text w = absurd w

whole_says : (t : Tree) (text b : List ℕ) → IsWholePrinted t text → encoding t ≡ b → SaysAlone text b
whole_says (leaf l) text b w e = absurd w
whole_says (array ts) text b w e = absurd w
whole_says (document es) text b w e = says_alone es text w.0 w.1 b e
whole_says (code_with_scope code es) text b w e = absurd w

pub circle_closed : ((l : Leaf) → LeafIsPrinted l) → (b : List ℕ) → IsEnvelope b → ClosesCircle b
circle_closed leaves b env ((k, canonical), (t, (m, read), back)) layout text (n, shown) =
    let form = canonical_is_own_form b env (k, canonical) in
    let same : form.tree ≡ t = (bytes_one_way as_document b env).one_tree t form.tree (m, read) form.read in
    let spelled : encoding t ≡ b = ap encoding (sym same) ∙ form.spelled.1 in
    let level : IsLevel (Shown layout n 0) (ReadsUpTo m) (IsCanonicalUpTo k) as_document b text t = record { envelope = env; shown = shown; read = read; canonical = canonical } in
    let whole = whole_printed leaves layout n m k 0 b text t level back in
    let (es, says, is) = whole_written t text whole in
    let reads : Reads b (document es) = subst (Reads b) is (m, read) in
    (whole_says t text b whole spelled, read_within_limits b text env es says (ap encoding (sym is) ∙ spelled) reads)
