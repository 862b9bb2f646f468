-- Texts of tokens with spaces and line feeds between them.
use Rattle.std.proofs.Common.{◌≡◌, ℕ, Bool, true, false, cond, ◌&&◌, List, [], ◌∷◌, ◌++◌, map, fold, refl, sym, ap, ◌∙◌, append_assoc, subst}
use Rattle.std.proofs.lemmas.Bool.{false≢true}
use Rattle.json.specs.Lex.{tokens}
use Rattle.json.specs.Print.{token_text, begins, ends, separator, print_from, ArePrintable}
use Rattle.json.specs.Spaced.{IsGap, AreGaps, print_spaced}
use Rattle.json.specs.Token.{Token}
use Rattle.json.proofs.Printed.Tokens.{tokens-print_spaced, IsGap-append}

-- a text of these tokens, which come after a value or not
pub record IsSpaced (behind_value : Bool) (text : List ℕ) (ts : List Token) : Type 0 where
  pub spaced : List (List ℕ × Token)
  pub gaps : AreGaps spaced
  pub tokens_are : map (λ p. p.1) spaced ≡ ts
  pub text_is : text ≡ print_spaced behind_value spaced

-- whether the tokens after these come after a value
abbrev pub then_value : Bool → List Token → Bool
then_value c ts = fold (λ _ t. ends t) c ts

pub nothing : (c : Bool) → IsSpaced c [] []
unfolding print_spaced
nothing c = record { spaced = []; gaps = tt; tokens_are = refl; text_is = refl }

pub token_then : (c : Bool) (g text : List ℕ) (t : Token) (ts : List Token) → IsGap g → IsSpaced (ends t) text ts
    → IsSpaced c (separator c t ++ (g ++ (token_text t ++ text))) (t ∷ ts)
unfolding print_spaced
token_then c g text t ts gap h = record {
  spaced = (g, t) ∷ h.spaced;
  gaps = (gap, h.gaps);
  tokens_are = ap (λ (x : List Token). t ∷ x) h.tokens_are;
  text_is = ap (λ (x : List ℕ). separator c t ++ (g ++ (token_text t ++ x))) h.text_is;
}

print_spaced-append : (c : Bool) (ps qs : List (List ℕ × Token)) → print_spaced c (ps ++ qs) ≡ print_spaced c ps ++ print_spaced (then_value c (map (λ p. p.1) ps)) qs
unfolding print_spaced
print_spaced-append c [] qs = refl
print_spaced-append c (p ∷ ps) qs = rw (print_spaced-append (ends p.1) ps qs) (simp append_assoc)

AreGaps-append : (ps qs : List (List ℕ × Token)) → AreGaps ps → AreGaps qs → AreGaps (ps ++ qs)
AreGaps-append [] qs g h = h
AreGaps-append (p ∷ ps) qs g h = (g.0, AreGaps-append ps qs g.1 h)

map-append : (ps qs : List (List ℕ × Token)) → map (λ p. p.1) (ps ++ qs) ≡ map (λ p. p.1) ps ++ map (λ p. p.1) qs
map-append [] qs = refl
map-append (p ∷ ps) qs = ap (λ (x : List Token). p.1 ∷ x) (map-append ps qs)

-- two texts one after another
pub both : (c : Bool) (text others : List ℕ) (ts us : List Token) → IsSpaced c text ts → IsSpaced (then_value c ts) others us → IsSpaced c (text ++ others) (ts ++ us)
both c text others ts us h k = record {
  spaced = h.spaced ++ k.spaced;
  gaps = AreGaps-append h.spaced k.spaced h.gaps k.gaps;
  tokens_are = map-append h.spaced k.spaced ∙ (λ i. h.tokens_are i ++ k.tokens_are i);
  text_is = (λ i. h.text_is i ++ k.text_is i) ∙ ap (λ (x : List Token). print_spaced c h.spaced ++ print_spaced (then_value c x) k.spaced) (sym h.tokens_are)
      ∙ sym (print_spaced-append c h.spaced k.spaced);
}

abbrev pub comma_if : Bool → List ℕ
comma_if c = cond c (44 ∷ []) []

comma_is : (c b : Bool) → b ≡ true → comma_if c ≡ comma_if (c && b)
comma_is true b e = ap comma_if (sym e)
comma_is false b e = refl

-- whether these tokens begin a value or a member
abbrev pub do_begin : List Token → Bool
do_begin [] = false
do_begin (t ∷ ts) = begins t

begun_spaced : (c : Bool) (g : List ℕ) (ps : List (List ℕ × Token)) → IsGap g → AreGaps ps → do_begin (map (λ p. p.1) ps) ≡ true
    → IsSpaced c (comma_if c ++ (g ++ print_spaced false ps)) (map (λ p. p.1) ps)
unfolding print_spaced
begun_spaced c g [] gap gaps e = absurd (false≢true e)
begun_spaced c g (p ∷ ps) gap gaps e =
    let rest = token_text p.1 ++ print_spaced (ends p.1) ps in
    let comma : comma_if c ≡ separator c p.1 = comma_is c (begins p.1) e in
    record {
      spaced = (g ++ p.0, p.1) ∷ ps;
      gaps = (IsGap-append g p.0 gap gaps.0, gaps.1);
      tokens_are = refl;
      text_is = (λ i. comma i ++ (g ++ (p.0 ++ rest))) ∙ ap (λ (x : List ℕ). separator c p.1 ++ x) (sym (append_assoc g p.0 rest));
    }

-- a comma, if these tokens come after a value, and a gap before a text
pub begun : (c : Bool) (g text : List ℕ) (ts : List Token) → IsGap g → do_begin ts ≡ true → IsSpaced false text ts → IsSpaced c (comma_if c ++ (g ++ text)) ts
begun c g text ts gap e h =
    let made = begun_spaced c g h.spaced gap h.gaps (ap do_begin h.tokens_are ∙ e) in
    record {
      spaced = made.spaced;
      gaps = made.gaps;
      tokens_are = made.tokens_are ∙ h.tokens_are;
      text_is = ap (λ (x : List ℕ). comma_if c ++ (g ++ x)) h.text_is ∙ made.text_is;
    }

-- what is printed without a space
print_is_spaced : (c : Bool) (ts : List Token) → IsSpaced c (print_from c ts) ts
unfolding print_from
print_is_spaced c [] = nothing c
print_is_spaced c (t ∷ ts) = token_then c [] (print_from (ends t) ts) t ts tt (print_is_spaced (ends t) ts)

pub printed : (c : Bool) (text : List ℕ) (ts : List Token) → text ≡ print_from c ts → IsSpaced c text ts
printed c text ts e = subst (λ (x : List ℕ). IsSpaced c x ts) (sym e) (print_is_spaced c ts)

-- the lexer returns these tokens
pub tokens_of : (text : List ℕ) (ts : List Token) → IsSpaced false text ts → ArePrintable ts → tokens text ≡ ts
tokens_of text ts h printable =
    ap tokens h.text_is ∙ tokens-print_spaced h.spaced h.gaps (subst ArePrintable (sym h.tokens_are) printable) ∙ h.tokens_are
