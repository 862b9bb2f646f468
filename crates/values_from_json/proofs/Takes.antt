-- Values of wrappers from the tokens that were taken one after the other.
use Rattle.std.proofs.Common.{◌≡◌, ◌∷◌, ◌++◌, [], ◌∙◌, ℕ, ℤ, List, Bool, FitsSigned, true, false, Ok, Some, codes, refl, ap, subst, inl, inr, if◌then◌else◌}
use Rattle.base64.specs.Engines.{standard}
use Rattle.base64.specs.GeneralPurpose.{decode_of}
use Rattle.std.specs.Int.{w32, w64}
use Rattle.uuid.specs.Text.{parsed_hyphenated}
use Rattle.bson_model.specs.declared.binaries.BinarySubtype.TheVariants.{Uuid}
use Rattle.hex.specs.Hex.{decode_sized}
use Rattle.bson_model.specs.Bytes.{NulFree}
use Rattle.bson_model.specs.Leaf.{binary, date_time, db_pointer, decimal128, double, int32, int64, object_id, regular_expression, symbol, timestamp}
use Rattle.bson_model.specs.Options.{sorted_options}
use Rattle.bson_model.specs.Subtype.{subtype_of}
use Rattle.json.specs.Json.{member, number, string, object}
use Rattle.json.specs.Token.{Token}
use Rattle.json.specs.Tree.{json_tokens}
use Rattle.values_from_json.specs.Taken.{pointed, Takes, TakesToken, TakesTwo}
use Rattle.values_from_json.specs.Wrapped.{InString, IsBinary, IsDate, IsDbPointer, IsOid, IsRegex, IsTimestamp, IsUuid, WritesUnsigned, one_member, two_hex_digits}
use Rattle.values_from_json.specs.DecimalTexts.{IsQuotedDecimal, WritesDecimal}
use Rattle.values_from_json.specs.Numbers.{IsQuotedDouble, IsQuotedInt32, IsQuotedInt64, WritesDouble, WritesInteger, WritesQuotedInteger}
use Rattle.values_from_json.specs.Spaces.{trimmed, without_spaces}
use Rattle.values_from_json.specs.Times.{WritesTime}

-- the first of two keys, and the second
pub second_key : {old new : List Token} {s : List ℕ} (f : List ℕ) {b : Bool} → b ≡ true → TakesToken old new (Token.key (if b then s else f)) → TakesToken old new (Token.key s)
second_key {old} {new} {s} f {b} e h = subst (λ (x : Bool). TakesToken old new (Token.key (if x then s else f))) e h

pub first_key : {old new : List Token} (s : List ℕ) {f : List ℕ} {b : Bool} → b ≡ false → TakesToken old new (Token.key (if b then s else f)) → TakesToken old new (Token.key f)
first_key {old} {new} s {f} {b} e h = subst (λ (x : Bool). TakesToken old new (Token.key (if x then s else f))) e h

-- an object of two members whose values are a token each
two : {old a b c d e new : List Token} {k k' : List ℕ} {v v' : Token} → TakesToken old a Token.begin_object → TakesToken a b (Token.key k) → TakesToken b c v
    → TakesToken c d (Token.key k') → TakesToken d e v' → TakesToken e new Token.end_object
    → old ≡ Token.begin_object ∷ Token.key k ∷ v ∷ Token.key k' ∷ v' ∷ Token.end_object ∷ new
two {old} {a} {b} {c} {d} {e} {new} {k} {k'} {v} {v'} p q r s t u =
    p ∙ ap (λ (l : List Token). Token.begin_object ∷ l) (q ∙ ap (λ (l : List Token). Token.key k ∷ l) (r ∙ ap (λ (l : List Token). v ∷ l)
    (s ∙ ap (λ (l : List Token). Token.key k' ∷ l) (t ∙ ap (λ (l : List Token). v' ∷ l) u))))

pub t_then_i : {old a b c d e new : List Token} {t i : List ℕ} {time increment : ℕ} → TakesToken old a Token.begin_object → TakesToken a b (Token.key (codes "t"))
    → TakesToken b c (Token.number t) → TakesToken c d (Token.key (codes "i")) → TakesToken d e (Token.number i) → TakesToken e new Token.end_object
    → WritesUnsigned t time × WritesUnsigned i increment → Takes IsTimestamp old new (timestamp time increment)
t_then_i {old} {a} {b} {c} {d} {e} {new} {t} {i} {time} {increment} p q r s u v w =
    (object (member (codes "t") (number t) (one_member (codes "i") (number i))), two p q r s u v, (t, i, time, increment, inl refl, w.0, w.1, refl))

pub i_then_t : {old a b c d e new : List Token} {t i : List ℕ} {time increment : ℕ} → TakesToken old a Token.begin_object → TakesToken a b (Token.key (codes "i"))
    → TakesToken b c (Token.number i) → TakesToken c d (Token.key (codes "t")) → TakesToken d e (Token.number t) → TakesToken e new Token.end_object
    → WritesUnsigned t time × WritesUnsigned i increment → Takes IsTimestamp old new (timestamp time increment)
i_then_t {old} {a} {b} {c} {d} {e} {new} {t} {i} {time} {increment} p q r s u v w =
    (object (member (codes "i") (number i) (one_member (codes "t") (number t))), two p q r s u v, (t, i, time, increment, inr refl, w.0, w.1, refl))

pub pattern_then_options : {old a b c d e new : List Token} {x y : List ℕ} → TakesToken old a Token.begin_object → TakesToken a b (Token.key (codes "pattern"))
    → TakesToken b c (Token.string x) → TakesToken c d (Token.key (codes "options")) → TakesToken d e (Token.string y) → TakesToken e new Token.end_object
    → TakesTwo old new (codes "pattern") (string x) (codes "options") (string y)
pattern_then_options {old} {a} {b} {c} {d} {e} {new} {x} {y} p q r s t u =
    (member (codes "pattern") (string x) (one_member (codes "options") (string y)), two p q r s t u, inl refl)

pub options_then_pattern : {old a b c d e new : List Token} {x y : List ℕ} → TakesToken old a Token.begin_object → TakesToken a b (Token.key (codes "options"))
    → TakesToken b c (Token.string y) → TakesToken c d (Token.key (codes "pattern")) → TakesToken d e (Token.string x) → TakesToken e new Token.end_object
    → TakesTwo old new (codes "pattern") (string x) (codes "options") (string y)
options_then_pattern {old} {a} {b} {c} {d} {e} {new} {x} {y} p q r s t u =
    (member (codes "options") (string y) (one_member (codes "pattern") (string x)), two p q r s t u, inr refl)

pub base64_then_subtype : {old a b c d e new : List Token} {x y bytes : List ℕ} {subtype : ℕ} → TakesToken old a Token.begin_object → TakesToken a b (Token.key (codes "base64"))
    → TakesToken b c (Token.string x) → TakesToken c d (Token.key (codes "subType")) → TakesToken d e (Token.string y) → TakesToken e new Token.end_object
    → (decode_of standard (without_spaces x) ≡ Ok bytes) × (decode_sized (two_hex_digits y) 1 ≡ Ok (subtype ∷ [])) → Takes IsBinary old new (binary (subtype_of subtype) bytes)
base64_then_subtype {old} {a} {b} {c} {d} {e} {new} {x} {y} {bytes} {subtype} p q r s t u f =
    (object (member (codes "base64") (string x) (one_member (codes "subType") (string y))), two p q r s t u, (x, y, bytes, subtype, inl refl, f.0, f.1, refl))

pub subtype_then_base64 : {old a b c d e new : List Token} {x y bytes : List ℕ} {subtype : ℕ} → TakesToken old a Token.begin_object → TakesToken a b (Token.key (codes "subType"))
    → TakesToken b c (Token.string y) → TakesToken c d (Token.key (codes "base64")) → TakesToken d e (Token.string x) → TakesToken e new Token.end_object
    → (decode_of standard (without_spaces x) ≡ Ok bytes) × (decode_sized (two_hex_digits y) 1 ≡ Ok (subtype ∷ [])) → Takes IsBinary old new (binary (subtype_of subtype) bytes)
subtype_then_base64 {old} {a} {b} {c} {d} {e} {new} {x} {y} {bytes} {subtype} p q r s t u f =
    (object (member (codes "subType") (string y) (one_member (codes "base64") (string x))), two p q r s t u, (x, y, bytes, subtype, inr refl, f.0, f.1, refl))

-- an object of one member whose value is a token
pub one : {old a b c new : List Token} {k s : List ℕ} → TakesToken old a Token.begin_object → TakesToken a b (Token.key k) → TakesToken b c (Token.string s)
    → TakesToken c new Token.end_object → old ≡ json_tokens (object (one_member k (string s))) ++ new
one {old} {a} {b} {c} {new} {k} {s} p q r t =
    p ∙ ap (λ (l : List Token). Token.begin_object ∷ l) (q ∙ ap (λ (l : List Token). Token.key k ∷ l) (r ∙ ap (λ (l : List Token). Token.string s ∷ l) t))

pub time_taken : {old new : List Token} {s : List ℕ} {z : ℤ} → TakesToken old new (Token.string s) → WritesTime s z → Takes IsDate old new (date_time z)
time_taken {old} {new} {s} {z} p w = (string s, p, (z, w, refl))

pub millis_taken : {old new : List Token} {s : List ℕ} {z : ℤ} → TakesToken old new (Token.number s) → WritesInteger s z → FitsSigned w64 z → Takes IsDate old new (date_time z)
millis_taken {old} {new} {s} {z} p w fits = (number s, p, (z, w, fits, refl))

pub long_taken : {old a b c new : List Token} {s : List ℕ} {z : ℤ} → TakesToken old a Token.begin_object → TakesToken a b (Token.key (codes "$numberLong"))
    → TakesToken b c (Token.string s) → TakesToken c new Token.end_object → WritesQuotedInteger s z → FitsSigned w64 z → Takes IsDate old new (date_time z)
long_taken {old} {a} {b} {c} {new} {s} {z} p q r t w fits = (object (one_member (codes "$numberLong") (string s)), one p q r t, (z, (s, refl, w), fits, refl))

pub ref_then_id : {old a b c d e new : List Token} {x s id : List ℕ} → TakesToken old a Token.begin_object → TakesToken a b (Token.key (codes "$ref"))
    → TakesToken b c (Token.string x) → TakesToken c d (Token.key (codes "$id")) → d ≡ json_tokens (pointed s) ++ e → TakesToken e new Token.end_object
    → decode_sized s 12 ≡ Ok id → Takes IsDbPointer old new (db_pointer x id)
ref_then_id {old} {a} {b} {c} {d} {e} {new} {x} {s} {id} p q r t u v f = (
  object (member (codes "$ref") (string x) (one_member (codes "$id") (pointed s))),
  p ∙ ap (λ (l : List Token). Token.begin_object ∷ l) (q ∙ ap (λ (l : List Token). Token.key (codes "$ref") ∷ l) (r ∙ ap (λ (l : List Token). Token.string x ∷ l)
      (t ∙ ap (λ (l : List Token). Token.key (codes "$id") ∷ l) (u ∙ ap (λ (l : List Token). json_tokens (pointed s) ++ l) v)))),
  (x, s, id, inl refl, f, refl),
)

pub id_then_ref : {old a b c d e new : List Token} {x s id : List ℕ} → TakesToken old a Token.begin_object → TakesToken a b (Token.key (codes "$id"))
    → b ≡ json_tokens (pointed s) ++ c → TakesToken c d (Token.key (codes "$ref")) → TakesToken d e (Token.string x) → TakesToken e new Token.end_object
    → decode_sized s 12 ≡ Ok id → Takes IsDbPointer old new (db_pointer x id)
id_then_ref {old} {a} {b} {c} {d} {e} {new} {x} {s} {id} p q r t u v f = (
  object (member (codes "$id") (pointed s) (one_member (codes "$ref") (string x))),
  p ∙ ap (λ (l : List Token). Token.begin_object ∷ l) (q ∙ ap (λ (l : List Token). Token.key (codes "$id") ∷ l)
      (r ∙ ap (λ (l : List Token). json_tokens (pointed s) ++ l) (t ∙ ap (λ (l : List Token). Token.key (codes "$ref") ∷ l) (u ∙ ap (λ (l : List Token). Token.string x ∷ l) v)))),
  (x, s, id, inr refl, f, refl),
)

-- values of one string
pub int32_taken : {old new : List Token} {s : List ℕ} {z : ℤ} → TakesToken old new (Token.string s) → WritesQuotedInteger s z → FitsSigned w32 z
    → Takes (InString IsQuotedInt32) old new (int32 z)
int32_taken {old} {new} {s} {z} t w fits = (string s, t, (z, w, fits, refl))

pub int64_taken : {old new : List Token} {s : List ℕ} {z : ℤ} → TakesToken old new (Token.string s) → WritesQuotedInteger s z → FitsSigned w64 z
    → Takes (InString IsQuotedInt64) old new (int64 z)
int64_taken {old} {new} {s} {z} t w fits = (string s, t, (z, w, fits, refl))

pub double_taken : {old new : List Token} {s : List ℕ} {bits : ℕ} → TakesToken old new (Token.string s) → WritesDouble (trimmed s) bits
    → Takes (InString IsQuotedDouble) old new (double bits)
double_taken {old} {new} {s} {bits} t w = (string s, t, (bits, w, refl))

pub decimal_taken : {old new : List Token} {s bytes : List ℕ} → TakesToken old new (Token.string s) → WritesDecimal s bytes
    → Takes (InString IsQuotedDecimal) old new (decimal128 bytes)
decimal_taken {old} {new} {s} {bytes} t w = (string s, t, (bytes, w, refl))

pub uuid_taken : {old new : List Token} {s bytes : List ℕ} → TakesToken old new (Token.string s) → parsed_hyphenated s ≡ Some bytes
    → Takes IsUuid old new (binary Uuid bytes)
uuid_taken {old} {new} {s} {bytes} t w = (string s, t, (bytes, w, refl))

pub takes_oid : {old new : List Token} {s id : List ℕ} → TakesToken old new (Token.string s) → decode_sized s 12 ≡ Ok id → Takes IsOid old new (object_id id)
takes_oid {old} {new} {s} {id} t h = (string s, t, (id, h, refl))

pub takes_symbol : {old new : List Token} {s : List ℕ} → TakesToken old new (Token.string s) → Takes (InString (λ s l. l ≡ symbol s)) old new (symbol s)
takes_symbol {old} {new} {s} t = (string s, t, refl)

pub takes_regex : {old new : List Token} {pattern options : List ℕ} → TakesTwo old new (codes "pattern") (string pattern) (codes "options") (string options)
    → NulFree pattern → NulFree options → Takes IsRegex old new (regular_expression pattern (sorted_options options))
takes_regex {old} {new} {pattern} {options} (ms, tokens, two) p o = (object ms, tokens, (pattern, options, two, p, o, refl))
