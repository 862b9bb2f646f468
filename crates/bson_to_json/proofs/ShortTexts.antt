-- Short texts: what is appended one after another.
use Rattle.std.proofs.Common.{◌≡◌, ◌≤◌, ◌+◌, ◌-◌, ℕ, List, [], ◌++◌, length, take, replicate, codes, ap, sym, ◌∙◌, append_assoc, arith}
use Rattle.bson_to_json.proofs.Common.{length-append, nat_tests, plain_text}
use lib.Seq.{take-append_seam}
use Rattle.bson_to_json.specs.ShortTexts.{Adds, short_bytes}
use Rattle.bson_to_json.specs.declared.short_text.ShortText.{ShortText}

pub adds_both : {a b c : ShortText} {x y : List ℕ} → Adds a b x → Adds b c y → Adds a c (x ++ y)
adds_both {a} {b} {c} {x} {y} p q = record {
  put = λ room. let sum = length-append x y in
      let first : short_bytes b ≡ short_bytes a ++ x = p.put (omega (arith, room, sum)) in
      let longer : length (short_bytes b) ≡ length (short_bytes a) + length x = ap length first ∙ length-append (short_bytes a) x in
      q.put (omega (arith, room, sum, longer)) ∙ ap (λ (l : List ℕ). l ++ y) first ∙ append_assoc (short_bytes a) x y;
}

-- what is appended to the empty text
pub begun : {a b : ShortText} (x : List ℕ) → short_bytes a ≡ [] → Adds a b x → length x ≤ 42 → short_bytes b ≡ x
begun {a} {b} x none p short =
    let empty : length (short_bytes a) ≡ 0 = ap length none in
    p.put (omega (arith, short, empty)) ∙ ap (λ (l : List ℕ). l ++ x) none

-- the front of an array
pub whole_taken : (a b c front more : List ℕ) (n : ℕ) → n ≡ length a + length b → a ≡ front → b ≡ more → take n (a ++ (b ++ c)) ≡ front ++ more
whole_taken a b c front more n size e f =
    let one : n ≡ length (a ++ b) = size ∙ sym (length-append a b) in
    ap (λ (k : ℕ). take k (a ++ (b ++ c))) one ∙ ap (take (length (a ++ b))) (sym (append_assoc a b c)) ∙ take-append_seam (a ++ b) c
    ∙ ap (λ (l : List ℕ). l ++ b) e ∙ ap (λ (l : List ℕ). front ++ l) f

-- digits that don't reach the point
pub far_plain : (digits : List ℕ) (places : ℕ) → ¬ (places ≡ 0) → length digits ≤ places
    → plain_text digits places ≡ codes "0." ++ (replicate (places - length digits) 48 ++ digits)
far_plain digits places some far = grind (arith, nat_tests)
