-- What may follow the first key of an object that writes a binary, in version 2 and in version 1.
use Rattle.std.proofs.Common.{◌≡◌, ◌⊎◌, ◌∷◌, ◌++◌, ◌∙◌, [], ℕ, List, Ok, true, codes, refl, sym, ap, subst, inl, inr, arith}
use Rattle.std.proofs.lemmas.Bool.{false≢true}
use Rattle.base64.specs.Engines.{standard}
use Rattle.base64.specs.GeneralPurpose.{decode_of}
use Rattle.hex.specs.Hex.{decode_sized}
use Rattle.bson_model.specs.Leaf.{Leaf, binary}
use Rattle.bson_model.specs.Subtype.{subtype_of}
use Rattle.json.specs.Json.{Json, Members, no_members, member}
use Rattle.json.specs.Json as json
use Rattle.json.specs.Token.{Token}
use Rattle.json.specs.Tree.{json_tokens, members_tokens}
use Rattle.values_from_json.specs.Meaning.{has_wrapper_key}
use Rattle.values_from_json.specs.Spaces.{trimmed, without_spaces}
use Rattle.values_from_json.specs.Taken.{LacksToken, Takes, TakesNone, TakesNoRest, TakesRest, TakesToken}
use Rattle.values_from_json.specs.Wrapped.{IsBinary, IsOldBinary, one_member, two_hex_digits}
use Rattle.values_from_json.specs.declared.wrapper.Wrapper.TheVariants as wrapper
use Rattle.values_from_json.proofs.Lacks.{differ_at_1}
use Rattle.values_from_json.proofs.Tokens.{same_value}
use Rattle.values_from_json.proofs.Wrappers.{wrapped, wrapped_key, writes}

-- members that equal others

key_same : {k k' : List ℕ} {j j' : Json} {ms ns : Members} → member k j ms ≡ member k' j' ns → k ≡ k'
key_same e = cc

value_same : {k k' : List ℕ} {j j' : Json} {ms ns : Members} → member k j ms ≡ member k' j' ns → j ≡ j'
value_same e = cc

others_same : {k k' : List ℕ} {j j' : Json} {ms ns : Members} → member k j ms ≡ member k' j' ns → ms ≡ ns
others_same e = cc

unlike : codes "$binary" ≡ codes "$type" → ⊥
unlike = differ_at_1 (codes "$binary") (codes "$type") (λ e. omega (arith, e))

-- the first key of an old binary, and what any object with one has
pub old_binary_first : {k : List ℕ} {j : Json} {ms : Members} {l : Leaf} → IsOldBinary (member k j ms) l → (k ≡ codes "$binary") ⊎ (k ≡ codes "$type")
old_binary_first {k} {j} {ms} {l} (text, digits, bytes, subtype, inl e, decoded, of_digits, is) = inl (key_same e)
old_binary_first {k} {j} {ms} {l} (text, digits, bytes, subtype, inr e, decoded, of_digits, is) = inr (key_same e)

pub old_binary_key : (ms : Members) (l : Leaf) → IsOldBinary ms l → has_wrapper_key ms ≡ true
old_binary_key ms l (text, digits, bytes, subtype, inl e, decoded, of_digits, is) = ap has_wrapper_key e
old_binary_key ms l (text, digits, bytes, subtype, inr e, decoded, of_digits, is) = ap has_wrapper_key e

-- the bytes and the subtype that two strings write
abbrev pub Pair : List ℕ → List ℕ → Leaf → Type 0
Pair text digits l = (bytes : List ℕ) × (subtype : ℕ) × (decode_of standard (without_spaces text) ≡ Ok bytes) × (decode_sized (two_hex_digits (trimmed digits)) 1 ≡ Ok (subtype ∷ []))
    × (l ≡ binary (subtype_of subtype) bytes)

-- what follows $binary: an object, or base64 and $type
abbrev pub ObjectThen : List Token → List Token → Leaf → Type 0
ObjectThen ts rest l = (ms : Members) × IsBinary (json.object ms) l × (ts ≡ Token.begin_object ∷ (members_tokens ms ++ (Token.end_object ∷ rest)))

abbrev pub TextThen : List Token → List Token → Leaf → Type 0
TextThen ts rest l = (text digits : List ℕ) × Pair text digits l × (ts ≡ Token.string text ∷ Token.key (codes "$type") ∷ Token.string digits ∷ Token.end_object ∷ rest)

-- what follows $type: digits, $binary and base64
abbrev pub DigitsThen : List Token → List Token → Leaf → Type 0
DigitsThen ts rest l = (text digits : List ℕ) × Pair text digits l × (ts ≡ Token.string digits ∷ Token.key (codes "$binary") ∷ Token.string text ∷ Token.end_object ∷ rest)

-- two members whose values are strings
of_strings : {ts rest : List Token} {k k' s s' : List ℕ} {j : Json} {ms : Members} → ts ≡ json_tokens j ++ (members_tokens ms ++ rest)
    → member k j ms ≡ member k (json.string s) (one_member k' (json.string s')) → ts ≡ Token.string s ∷ Token.key k' ∷ Token.string s' ∷ Token.end_object ∷ rest
of_strings {ts} {rest} {k} {k'} {s} {s'} {j} {ms} e f =
    e ∙ ap (λ (x : Json). json_tokens x ++ (members_tokens ms ++ rest)) (value_same f) ∙ ap (λ (x : Members). Token.string s ∷ (members_tokens x ++ rest)) (others_same f)

module _ {ts rest : List Token} {l : Leaf} where
  of_object : (j : Json) → IsBinary j l → ts ≡ json_tokens j ++ (Token.end_object ∷ rest) → ObjectThen ts rest l
  of_object json.null is e = absurd is
  of_object (json.boolean b) is e = absurd is
  of_object (json.number s) is e = absurd is
  of_object (json.string s) is e = absurd is
  of_object (json.array js) is e = absurd is
  of_object (json.object ms) is e = (ms, is, e)

  pub behind_binary : TakesRest (codes "$binary") ts rest l → ObjectThen ts rest l ⊎ TextThen ts rest l
  behind_binary (j, no_members, e, w) = inl (of_object j (writes wrapper.Binary j l w) e)
  behind_binary (j, member k i ms, e, (text, digits, bytes, subtype, inl f, decoded, of_digits, is)) = inr (text, digits, (bytes, subtype, decoded, of_digits, is), of_strings e f)
  behind_binary (j, member k i ms, e, (text, digits, bytes, subtype, inr f, decoded, of_digits, is)) = absurd (unlike (key_same f))

  pub behind_type : TakesRest (codes "$type") ts rest l → DigitsThen ts rest l
  behind_type (j, no_members, e, w) = absurd (false≢true (wrapped_key (codes "$type") j l w))
  behind_type (j, member k i ms, e, (text, digits, bytes, subtype, inl f, decoded, of_digits, is)) = absurd (unlike (sym (key_same f)))
  behind_type (j, member k i ms, e, (text, digits, bytes, subtype, inr f, decoded, of_digits, is)) = (text, digits, (bytes, subtype, decoded, of_digits, is), of_strings e f)

-- .. and back

pub object_taken : {old mid new : List Token} {ts : List Token} {l : Leaf} → TakesToken ts old Token.begin_object → Takes IsBinary (Token.begin_object ∷ old) mid l
    → TakesToken mid new Token.end_object → TakesRest (codes "$binary") ts new l
object_taken {old} {mid} {new} {ts} {l} begin (j, e, is) end =
    (j, no_members, begin ∙ e ∙ ap (λ (x : List Token). json_tokens j ++ x) end, wrapped wrapper.Binary j l is)

-- the tokens of two members, but for the first key
strings_taken : {ts a b c new : List Token} {k s s' : List ℕ} → TakesToken ts a (Token.string s) → TakesToken a b (Token.key k) → TakesToken b c (Token.string s')
    → TakesToken c new Token.end_object → ts ≡ Token.string s ∷ Token.key k ∷ Token.string s' ∷ Token.end_object ∷ new
strings_taken {ts} {a} {b} {c} {new} {k} {s} {s'} p q r t =
    p ∙ ap (λ (x : List Token). Token.string s ∷ x) (q ∙ ap (λ (x : List Token). Token.key k ∷ x) (r ∙ ap (λ (x : List Token). Token.string s' ∷ x) t))

pub text_taken : {ts a b c new : List Token} {text digits : List ℕ} {l : Leaf} → TakesToken ts a (Token.string text) → TakesToken a b (Token.key (codes "$type"))
    → TakesToken b c (Token.string digits) → TakesToken c new Token.end_object → Pair text digits l → TakesRest (codes "$binary") ts new l
text_taken {ts} {a} {b} {c} {new} {text} {digits} {l} p q r t (bytes, subtype, decoded, of_digits, is) =
    (json.string text, one_member (codes "$type") (json.string digits), strings_taken p q r t, (text, digits, bytes, subtype, inl refl, decoded, of_digits, is))

pub digits_taken : {a b new : List Token} {text : List ℕ} {l : Leaf} (digits : List ℕ) → TakesToken a b (Token.string text) → TakesToken b new Token.end_object → Pair text digits l
    → TakesRest (codes "$type") (Token.string digits ∷ Token.key (codes "$binary") ∷ a) new l
digits_taken {a} {b} {new} {text} {l} digits r t (bytes, subtype, decoded, of_digits, is) =
    (json.string digits, one_member (codes "$binary") (json.string text), strings_taken refl refl r t, (text, digits, bytes, subtype, inr refl, decoded, of_digits, is))

-- nothing such is next

same_token : {ts a b : List Token} {t u : Token} → ts ≡ t ∷ a → ts ≡ u ∷ b → t ≡ u
same_token e f = cc

same_behind : {ts a b : List Token} {t u : Token} → ts ≡ t ∷ a → ts ≡ u ∷ b → a ≡ b
same_behind e f = cc

same_string : {s t : List ℕ} → Token.string s ≡ Token.string t → s ≡ t
same_string e = cc

text_no_brace : {s : List ℕ} → Token.string s ≡ Token.begin_object → ⊥
text_no_brace e = cc

-- neither an object nor a string
module _ {ts : List Token} (none : LacksToken ts Token.begin_object × ((s : List ℕ) → LacksToken ts (Token.string s))) where
  neither_first : {rest : List Token} {l : Leaf} → ObjectThen ts rest l ⊎ TextThen ts rest l → ⊥
  neither_first {rest} {l} (inl (ms, is, e)) = none.0 _ e
  neither_first {rest} {l} (inr (text, digits, pair, e)) = none.1 text _ e

  pub no_binary_value : TakesNoRest (codes "$binary") ts
  no_binary_value l rest takes = neither_first (behind_binary takes)

-- an object
module _ {ts old : List Token} (begin : TakesToken ts old Token.begin_object) where
  object_only : {rest : List Token} {l : Leaf} → ObjectThen ts rest l ⊎ TextThen ts rest l
      → (ms : Members) × IsBinary (json.object ms) l × (Token.begin_object ∷ old ≡ json_tokens (json.object ms) ++ (Token.end_object ∷ rest))
  object_only {rest} {l} (inl (ms, is, e)) = (ms, is, sym begin ∙ e)
  object_only {rest} {l} (inr (text, digits, pair, e)) = absurd (text_no_brace (same_token e begin))

  pub no_object_value : TakesNone IsBinary (Token.begin_object ∷ old) → TakesNoRest (codes "$binary") ts
  no_object_value none l rest takes = let (ms, is, e) = object_only (behind_binary takes) in none (json.object ms) l is _ e

  pub no_object_end : {mid : List Token} {l : Leaf} → Takes IsBinary (Token.begin_object ∷ old) mid l → LacksToken mid Token.end_object → TakesNoRest (codes "$binary") ts
  no_object_end {mid} {l} (j, e, is) none m rest takes =
      let (ms, other, f) = object_only (behind_binary takes) in none rest (same_value j (json.object ms) mid (Token.end_object ∷ rest) (sym e ∙ f)).1

-- base64
module _ {ts a : List Token} {s : List ℕ} (first : TakesToken ts a (Token.string s)) where
  text_only : {rest : List Token} {l : Leaf} → ObjectThen ts rest l ⊎ TextThen ts rest l
      → (digits : List ℕ) × Pair s digits l × (a ≡ Token.key (codes "$type") ∷ Token.string digits ∷ Token.end_object ∷ rest)
  text_only {rest} {l} (inl (ms, is, e)) = absurd (text_no_brace (same_token first e))
  text_only {rest} {l} (inr (text, digits, pair, e)) =
      (digits, subst (λ (x : List ℕ). Pair x digits l) (same_string (same_token e first)) pair, same_behind first e)

  pub no_text_bytes : ((bytes : List ℕ) → decode_of standard (without_spaces s) ≡ Ok bytes → ⊥) → TakesNoRest (codes "$binary") ts
  no_text_bytes none l rest takes = let (digits, (bytes, subtype, decoded, of_digits, is), e) = text_only (behind_binary takes) in none bytes decoded

  pub no_type_key : LacksToken a (Token.key (codes "$type")) → TakesNoRest (codes "$binary") ts
  no_type_key none l rest takes = let (digits, pair, e) = text_only (behind_binary takes) in none _ e

  module _ {b : List Token} (named : TakesToken a b (Token.key (codes "$type"))) where
    pub no_type_digits : ((t bytes : List ℕ) → decode_sized (two_hex_digits (trimmed t)) 1 ≡ Ok bytes → LacksToken b (Token.string t)) → TakesNoRest (codes "$binary") ts
    no_type_digits none l rest takes =
        let (digits, (bytes, subtype, decoded, of_digits, is), e) = text_only (behind_binary takes) in none digits (subtype ∷ []) of_digits _ (same_behind named e)

    pub no_type_end : {c : List Token} {t : List ℕ} → TakesToken b c (Token.string t) → LacksToken c Token.end_object → TakesNoRest (codes "$binary") ts
    no_type_end {c} {t} last none l rest takes = let (digits, pair, e) = text_only (behind_binary takes) in none rest (same_behind last (same_behind named e))

-- base64 after digits
module _ {digits : List ℕ} {a : List Token} where
  digits_only : {rest : List Token} {l : Leaf} → DigitsThen (Token.string digits ∷ Token.key (codes "$binary") ∷ a) rest l
      → (text : List ℕ) × Pair text digits l × (a ≡ Token.string text ∷ Token.end_object ∷ rest)
  digits_only {rest} {l} (text, other, pair, e) =
      (text, subst (λ (x : List ℕ). Pair text x l) (same_string (same_token e refl)) pair, same_behind refl (same_behind refl e))

  pub no_digits : ((bytes : List ℕ) → decode_sized (two_hex_digits (trimmed digits)) 1 ≡ Ok bytes → ⊥) → TakesNoRest (codes "$type") (Token.string digits ∷ Token.key (codes "$binary") ∷ a)
  no_digits none l rest takes = let (text, (bytes, subtype, decoded, of_digits, is), e) = digits_only (behind_type takes) in none (subtype ∷ []) of_digits

  pub no_bytes : ((s bytes : List ℕ) → decode_of standard (without_spaces s) ≡ Ok bytes → LacksToken a (Token.string s))
      → TakesNoRest (codes "$type") (Token.string digits ∷ Token.key (codes "$binary") ∷ a)
  no_bytes none l rest takes = let (text, (bytes, subtype, decoded, of_digits, is), e) = digits_only (behind_type takes) in none text bytes decoded _ e

  pub no_end : {b : List Token} {s : List ℕ} → TakesToken a b (Token.string s) → LacksToken b Token.end_object
      → TakesNoRest (codes "$type") (Token.string digits ∷ Token.key (codes "$binary") ∷ a)
  no_end {b} {s} first none l rest takes = let (text, pair, e) = digits_only (behind_type takes) in none rest (same_behind first e)
