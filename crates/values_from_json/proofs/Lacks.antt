-- Tokens that don't begin with a value of a wrapper.
use Rattle.std.proofs.Common.{◌≡◌, ◌⊎◌, ◌<◌, ◌^◌, ◌++◌, [], ◌∷◌, ℕ, ℤ, pos, List, Ok, codes, FitsSigned, Result, Err, IfErr, OnErr, append_assoc, get_or, ap, sym, subst, ◌∙◌, inl, inr, arith, rules}
use Rattle.std.specs.Int.{w32, w64}
use Rattle.std.proofs.lemmas.Int.{ints}
use Rattle.values_from_json.proofs.Times.{fits}
use Rattle.base64.specs.Engines.{standard}
use Rattle.base64.specs.GeneralPurpose.{decode_of}
use Rattle.bson_model.specs.Leaf.{Leaf}
use Rattle.json.specs.Json.{Json, Members}
use Rattle.json.specs.Json as json
use Rattle.json.specs.Token.{Token}
use Rattle.json.specs.Tree.{json_tokens}
use Rattle.hex.specs.Hex.{decode_sized}
use Rattle.values_from_json.specs.DecimalTexts.{IsQuotedDecimal, WritesDecimal}
use Rattle.values_from_json.specs.Numbers.{IsQuotedDouble, IsQuotedInt32, WritesDouble, WritesInteger, WritesQuotedInteger}
use Rattle.values_from_json.specs.Spaces.{trimmed, without_spaces}
use Rattle.values_from_json.specs.Taken.{LacksJson, LacksToken, TakesNone, TakesToken, pointed}
use Rattle.values_from_json.specs.Times.{WritesTime}
use Rattle.values_from_json.specs.Wrapped.{AreTwo, InString, IsBinary, IsDate, IsDbPointer, WritesUnsigned, two_hex_digits}

same_string : {old new rest : List Token} {s t : List ℕ} → TakesToken old new (Token.string s) → TakesToken old rest (Token.string t) → t ≡ s
same_string e f = cc

same_number : {old new rest : List Token} {s t : List ℕ} → TakesToken old new (Token.number s) → TakesToken old rest (Token.number t) → t ≡ s
same_number e f = cc

-- a string that writes something isn't next
pub no_string : (Writes : List ℕ → Leaf → Type 0) {ts : List Token} → ((s : List ℕ) (l : Leaf) → Writes s l → LacksToken ts (Token.string s)) → TakesNone (InString Writes) ts
no_string Writes none json.null l w rest f = w
no_string Writes none (json.boolean b) l w rest f = w
no_string Writes none (json.number n) l w rest f = w
no_string Writes none (json.string s) l w rest f = none s l w rest f
no_string Writes none (json.array js) l w rest f = w
no_string Writes none (json.object ms) l w rest f = w

-- a string that writes none
pub none_quoted : (Writes : List ℕ → Leaf → Type 0) {old new : List Token} {s : List ℕ} → TakesToken old new (Token.string s) → ((l : Leaf) → Writes s l → ⊥)
    → TakesNone (InString Writes) old
none_quoted Writes e none json.null l w rest f = w
none_quoted Writes e none (json.boolean b) l w rest f = w
none_quoted Writes e none (json.number n) l w rest f = w
none_quoted Writes e none (json.string t) l w rest f = none l (subst (λ (x : List ℕ). Writes x l) (same_string e f) w)
none_quoted Writes e none (json.array js) l w rest f = w
none_quoted Writes e none (json.object ms) l w rest f = w

pub no_double : {old new : List Token} {s : List ℕ} → TakesToken old new (Token.string s) → ((bits : ℕ) → WritesDouble (trimmed s) bits → ⊥) → TakesNone (InString IsQuotedDouble) old
no_double e none = none_quoted IsQuotedDouble e (λ l w. none w.0 w.1)

pub no_decimal : {old new : List Token} {s : List ℕ} → TakesToken old new (Token.string s) → ((bytes : List ℕ) → WritesDecimal s bytes → ⊥)
    → TakesNone (InString IsQuotedDecimal) old
no_decimal e none = none_quoted IsQuotedDecimal e (λ l w. none w.0 w.1)

pub wider : (z : ℤ) → FitsSigned w32 z → FitsSigned w64 z
wider z f = search rules

-- an integer of more than 32 bits
pub no_int32 : {old new : List Token} {s : List ℕ} (z : ℤ) → TakesToken old new (Token.string s) → WritesQuotedInteger s z → (FitsSigned w32 z → ⊥)
    → TakesNone (InString IsQuotedInt32) old
no_int32 z e written large = none_quoted IsQuotedInt32 e (λ l w. large (subst (FitsSigned w32) (w.1.1 ∙ sym written.1) w.2))

wide : (n : ℕ) → n < 2 ^ 32 → FitsSigned w64 (pos n)
wide n small = fits (pos n) (omega (arith, ints)) (omega (arith, ints))

-- no integer of 64 bits
pub no_integer : {old new : List Token} {s bs : List ℕ} → TakesToken old new (Token.number s) → bs ≡ s → ((z : ℤ) → FitsSigned w64 z → WritesInteger bs z → ⊥)
    → (t : List ℕ) (n : ℕ) → WritesUnsigned t n → LacksToken old (Token.number t)
no_integer e same none t n w rest f = none (pos n) (wide n w.1) (subst (λ (x : List ℕ). WritesInteger x (pos n)) (same_number e f ∙ sym same) w.0)

-- one below 0 or of more than 32 bits
pub no_unsigned : {old new : List Token} {s bs : List ℕ} (z : ℤ) → TakesToken old new (Token.number s) → bs ≡ s → ((y : ℤ) → FitsSigned w64 y → WritesInteger bs y → y ≡ z)
    → ((n : ℕ) → n < 2 ^ 32 → pos n ≡ z → ⊥) → (t : List ℕ) (n : ℕ) → WritesUnsigned t n → LacksToken old (Token.number t)
no_unsigned z e same only large t n w rest f =
    large n w.1 (only (pos n) (wide n w.1) (subst (λ (x : List ℕ). WritesInteger x (pos n)) (same_number e f ∙ sym same) w.0))

clash : {old new rest : List Token} {s : List ℕ} → TakesToken old new (Token.string s) → TakesToken old rest Token.begin_object → ⊥
clash e f = cc

clash_number : {old new rest : List Token} {s t : List ℕ} → TakesToken old new (Token.string s) → TakesToken old rest (Token.number t) → ⊥
clash_number e f = cc

-- a string that writes no time
pub no_time : {old new : List Token} {s bs : List ℕ} → TakesToken old new (Token.string s) → bs ≡ s → ((z : ℤ) → WritesTime bs z → ⊥) → TakesNone IsDate old
no_time e same none json.null l w rest f = w
no_time e same none (json.boolean b) l w rest f = w
no_time e same none (json.number n) l w rest f = clash_number e f
no_time e same none (json.string t) l (z, w, is) rest f = none z (subst (λ (x : List ℕ). WritesTime x z) (same_string e f ∙ sym same) w)
no_time e same none (json.array js) l w rest f = w
no_time e same none (json.object ms) l w rest f = clash e f

behind : {old a b rest : List Token} {k : List ℕ} → TakesToken old a Token.begin_object → TakesToken a b (Token.key k) → old ≡ Token.begin_object ∷ Token.key k ∷ rest → b ≡ rest
behind e f g = cc

-- an object whose digits aren't those of an id
pub no_pointed : {old a b : List Token} → TakesToken old a Token.begin_object → TakesToken a b (Token.key (codes "$oid"))
    → ((s id : List ℕ) → decode_sized s 12 ≡ Ok id → LacksToken b (Token.string s)) → (s id : List ℕ) → decode_sized s 12 ≡ Ok id → LacksJson old (pointed s)
no_pointed e f none s id is rest g = none s id is (Token.end_object ∷ rest) (behind e f g)

-- objects of two members

behind_brace : {old a rest : List Token} {t : Token} → TakesToken old a Token.begin_object → old ≡ Token.begin_object ∷ t ∷ rest → a ≡ t ∷ rest
behind_brace e g = cc

other_key : {old a b rest : List Token} {k k' : List ℕ} → TakesToken old a Token.begin_object → TakesToken a b (Token.key k) → old ≡ Token.begin_object ∷ Token.key k' ∷ rest → k ≡ k'
other_key e f g = cc

behind_first : {old a b c d rest : List Token} {k k' s t : List ℕ} → TakesToken old a Token.begin_object → TakesToken a b (Token.key k) → TakesToken b c (Token.string s)
    → TakesToken c d (Token.key k') → old ≡ Token.begin_object ∷ Token.key k ∷ Token.string t ∷ Token.key k' ∷ rest → d ≡ rest
behind_first e f h i g = cc

pub other_way : {k k' : List ℕ} {j j' : Json} {ms : Members} → AreTwo k j k' j' ms → AreTwo k' j' k j ms
other_way (inl is) = inr is
other_way (inr is) = inl is

module _ {old a : List Token} (e : TakesToken old a Token.begin_object) (k k' : List ℕ) where
  -- neither key is first
  pub no_key : LacksToken a (Token.key k) × LacksToken a (Token.key k') → (j j' : Json) (ms : Members) → AreTwo k j k' j' ms → LacksJson old (json.object ms)
  no_key none j j' ms (inl is) rest g = none.0 _ (behind_brace e (g ∙ ap (λ (x : Members). json_tokens (json.object x) ++ rest) is))
  no_key none j j' ms (inr is) rest g = none.1 _ (behind_brace e (g ∙ ap (λ (x : Members). json_tokens (json.object x) ++ rest) is))

  module _ (differ : k ≡ k' → ⊥) {b : List Token} (f : TakesToken a b (Token.key k)) where
    -- nor the value after the first key
    pub no_first : (j j' : Json) → LacksJson b j → (ms : Members) → AreTwo k j k' j' ms → LacksJson old (json.object ms)
    no_first j j' none ms (inl is) rest g =
        let more = Token.key k' ∷ (json_tokens j' ++ (Token.end_object ∷ [])) in
        none (more ++ rest) (behind e f (g ∙ ap (λ (x : Members). json_tokens (json.object x) ++ rest) is) ∙ append_assoc (json_tokens j) more rest)
    no_first j j' none ms (inr is) rest g = differ (other_key e f (g ∙ ap (λ (x : Members). json_tokens (json.object x) ++ rest) is))

    -- nor the one after the second
    pub no_second : {c d : List Token} {s : List ℕ} → TakesToken b c (Token.string s) → TakesToken c d (Token.key k') → (t : List ℕ) (j' : Json) → LacksJson d j'
        → (ms : Members) → AreTwo k (json.string t) k' j' ms → LacksJson old (json.object ms)
    no_second h i t j' none ms (inl is) rest g =
        none ((Token.end_object ∷ []) ++ rest)
        (behind_first e f h i (g ∙ ap (λ (x : Members). json_tokens (json.object x) ++ rest) is) ∙ append_assoc (json_tokens j') (Token.end_object ∷ []) rest)
    no_second h i t j' none ms (inr is) rest g = differ (other_key e f (g ∙ ap (λ (x : Members). json_tokens (json.object x) ++ rest) is))

pub differ_at_1 : (k k' : List ℕ) → (get_or k 1 0 ≡ get_or k' 1 0 → ⊥) → k ≡ k' → ⊥
differ_at_1 k k' n e = n (ap (λ (l : List ℕ). get_or l 1 0) e)

-- what isn't an object is neither a binary nor a pointer
pub no_binary : (old : List Token) → ((text digits bytes : List ℕ) (subtype : ℕ) → decode_of standard (without_spaces text) ≡ Ok bytes → decode_sized (two_hex_digits digits) 1 ≡ Ok (subtype ∷ [])
    → (ms : Members) → AreTwo (codes "base64") (json.string text) (codes "subType") (json.string digits) ms → LacksJson old (json.object ms)) → TakesNone IsBinary old
no_binary old none json.null l w rest f = w
no_binary old none (json.boolean b) l w rest f = w
no_binary old none (json.number n) l w rest f = w
no_binary old none (json.string t) l w rest f = w
no_binary old none (json.array js) l w rest f = w
no_binary old none (json.object ms) l (text, digits, bytes, subtype, two, decoded, digit, is) rest f = none text digits bytes subtype decoded digit ms two rest f

pub no_db_pointer : (old : List Token) → ((namespace digits id : List ℕ) → decode_sized digits 12 ≡ Ok id
    → (ms : Members) → AreTwo (codes "$ref") (json.string namespace) (codes "$id") (pointed digits) ms → LacksJson old (json.object ms)) → TakesNone IsDbPointer old
no_db_pointer old none json.null l w rest f = w
no_db_pointer old none (json.boolean b) l w rest f = w
no_db_pointer old none (json.number n) l w rest f = w
no_db_pointer old none (json.string t) l w rest f = w
no_db_pointer old none (json.array js) l w rest f = w
no_db_pointer old none (json.object ms) l (namespace, digits, id, two, decoded, is) rest f = none namespace digits id decoded ms two rest f

pub no_err : {T E : Type 0} (r : Result T E) {P : Type 0} → P → OnErr r P
no_err (Ok x) p = tt
no_err (Err e) p = p

pub no_err_or : {T E : Type 0} (r : Result T E) (m : E) {P : Type 0} → P → IfErr r (λ e. (e ≡ m) ⊎ P)
no_err_or (Ok x) m p = tt
no_err_or (Err e) m p = inr p

pub or_else : {A P Q : Type 0} → (P → Q) → A ⊎ P → A ⊎ Q
or_else f (inl a) = inl a
or_else f (inr p) = inr (f p)
