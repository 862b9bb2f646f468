-- What is printed of a value that holds no others means it, and no other.
use Rattle.std.proofs.Common.{ℕ, ℤ, Bool, true, false, List, [], ◌∷◌, codes, decimal, from_bits, inl, inr, refl, sym, ap, ◌∙◌, arith, append-nil}
use Rattle.std.specs.Float.{binary64}
use Rattle.std.specs.Fmt.{signed_decimal}
use Rattle.base64.specs.Engines.{standard}
use Rattle.base64.specs.GeneralPurpose.{encode_of}
use Rattle.hex.specs.Hex.{encode_lower}
use Rattle.json.specs.Json.{Json, object, no_members}
use Rattle.json.specs.Json as json
use Rattle.json.specs.Print.{IsNumber, escape_byte, print_from, quoted}
use Rattle.json.specs.Word.{after_number}
use Rattle.json.proofs.Printed.Decimals.{IsNumber-decimal}
use Rattle.bson_model.specs.Leaf.{Leaf, double, string, binary, undefined, object_id, boolean, date_time, null, regular_expression, db_pointer, javascript_code, symbol, int32, timestamp, int64, decimal128, max_key, min_key}
use Rattle.bson_model.specs.Subtype.{subtype_byte}
use Rattle.bson_model.specs.declared.binaries.BinarySubtype.{BinarySubtype}
use Rattle.bson_to_json.specs.Decimals.{decimal128_text}
use Rattle.bson_from_json.specs.Wrapped.{one_member}
use Rattle.bson_from_json.specs.Wrapper.TheVariants as wrapper
use Rattle.json_round_trip.specs.Printed.{LeafIsPrinted}
use Rattle.json_round_trip.proofs.Wrappers.{only_wrapped}
use Rattle.json_round_trip.proofs.leaves.Binaries.{base64_plain, byte_alone, hex_plain, is_binary, one_binary, payload}
use Rattle.json_round_trip.proofs.leaves.Decimals.{decimal_just}
use Rattle.json_round_trip.proofs.leaves.Doubles.{double_plain, double_written, one_double}
use Rattle.json_round_trip.proofs.leaves.Integers.{integer_plain, is_date, is_timestamp, long_object, one_date, one_int32, one_int64, one_timestamp, pair_object, quoted_written, small_32, small_64}
use Rattle.json_round_trip.proofs.leaves.Shapes.{prints_binary, prints_code, prints_date, prints_decimal, prints_double, prints_int32, prints_int64, prints_oid, prints_pointer, prints_regex, prints_symbol, prints_timestamp}
use Rattle.json_round_trip.proofs.leaves.Texts.{is_oid, is_pointer, is_regex, one_oid, one_pointer, one_regex, pointer_object, regex_object}

abbrev wrapped : List ℕ → Json → Json
wrapped key j = object (one_member key j)

double_printed : (bits : ℕ) → LeafIsPrinted (double bits)
double_printed bits r text (number, is, shown) =
    let written = double_written bits number r.in_range r.comes_back is in (
      wrapped (codes "$numberDouble") (json.string number),
      record {
        text_is = shown ∙ prints_double number (double_plain (from_bits binary64 bits) number is);
        numbers = (tt, tt);
        says = inr (inl (double bits, inr (inr (inr (inl (refl, (bits, written, refl))))), refl));
        only = only_wrapped wrapper.NumberDouble (json.string number) (double bits) (λ other w. w.2 ∙ ap double (one_double (from_bits binary64 bits) number w.0 bits is w.1 written));
      },
    )

decimal_printed : (bytes : List ℕ) → LeafIsPrinted (decimal128 bytes)
decimal_printed bytes r text shown =
    let just = decimal_just bytes r.comes_back in (
      wrapped (codes "$numberDecimal") (json.string (decimal128_text bytes)),
      record {
        text_is = shown ∙ prints_decimal (decimal128_text bytes) just.plain;
        numbers = (tt, tt);
        says = inr (inl (decimal128 bytes, inr (inr (inr (inr (inl (refl, (bytes, just.writes, refl)))))), refl));
        only = only_wrapped wrapper.NumberDecimal (json.string (decimal128_text bytes)) (decimal128 bytes) (λ other w. w.2 ∙ ap decimal128 (just.only w.0 w.1));
      },
    )

binary_printed : (subtype : BinarySubtype) (bytes : List ℕ) → LeafIsPrinted (binary subtype bytes)
binary_printed subtype bytes r text shown =
    let byte = r.in_range.0 in
    let are = r.in_range.1 in
    let one : List ℕ = subtype_byte subtype ∷ [] in (
      wrapped (codes "$binary") (payload subtype bytes),
      record {
        text_is = shown ∙ prints_binary (encode_of standard bytes) (encode_lower one) (base64_plain bytes are) (hex_plain one (byte_alone (subtype_byte subtype) byte));
        numbers = ((tt, (tt, tt)), tt);
        says = inr (inl (binary subtype bytes, inr (inr (inr (inr (inr (inl (refl, is_binary subtype bytes byte are r.subtype_proper)))))), refl));
        only = only_wrapped wrapper.Binary (payload subtype bytes) (binary subtype bytes) (one_binary subtype bytes byte are r.subtype_proper);
      },
    )

undefined_printed : LeafIsPrinted undefined
unfolding print_from escape_byte
undefined_printed r text shown = (
  wrapped (codes "$undefined") (json.boolean true),
  record {
    text_is = shown;
    numbers = (tt, tt);
    says = inr (inl (undefined, inr (inr (inr (inr (inr (inr (inr (inr (inr (inr (inr (inr (inr (inl (true, (refl, refl), refl)))))))))))))), refl));
    only = only_wrapped wrapper.Undefined (json.boolean true) undefined (λ other w. w.2);
  },
)

object_id_printed : (id : List ℕ) → LeafIsPrinted (object_id id)
object_id_printed id r text shown = (
  wrapped (codes "$oid") (json.string (encode_lower id)),
  record {
    text_is = shown ∙ prints_oid (encode_lower id) (hex_plain id r.in_range.1);
    numbers = (tt, tt);
    says = inr (inl (object_id id, inl (refl, is_oid id r.in_range), refl));
    only = only_wrapped wrapper.Oid (json.string (encode_lower id)) (object_id id) (one_oid id r.in_range);
  },
)

date_printed : (z : ℤ) → LeafIsPrinted (date_time z)
date_printed z r text shown = (
  wrapped (codes "$date") (long_object (signed_decimal z)),
  record {
    text_is = shown ∙ prints_date (signed_decimal z) (integer_plain z (small_64 z r.in_range));
    numbers = ((tt, tt), tt);
    says = inr (inl (date_time z, inr (inr (inr (inr (inr (inr (inr (inl (refl, is_date z r.in_range)))))))), refl));
    only = only_wrapped wrapper.Date (long_object (signed_decimal z)) (date_time z) (one_date z r.in_range);
  },
)

regex_printed : (pattern options : List ℕ) → LeafIsPrinted (regular_expression pattern options)
regex_printed pattern options r text shown =
    let utf8 = r.in_range.1 in (
      wrapped (codes "$regularExpression") (regex_object pattern options),
      record {
        text_is = shown ∙ prints_regex pattern options;
        numbers = ((tt, (tt, tt)), tt);
        says = inr (inl (regular_expression pattern options, inr (inr (inr (inr (inr (inr (inr (inr (inl (refl, is_regex pattern options utf8 r.options_ascend r.nul_free))))))))), refl));
        only = only_wrapped wrapper.RegularExpression (regex_object pattern options) (regular_expression pattern options) (one_regex pattern options utf8 r.options_ascend);
      },
    )

pointer_printed : (namespace id : List ℕ) → LeafIsPrinted (db_pointer namespace id)
pointer_printed namespace id r text shown =
    let of_id = r.in_range.1 in (
      wrapped (codes "$dbPointer") (pointer_object namespace (encode_lower id)),
      record {
        text_is = shown ∙ prints_pointer namespace (encode_lower id) (hex_plain id of_id.1);
        numbers = ((tt, ((tt, tt), tt)), tt);
        says = inr (inl (db_pointer namespace id, inr (inr (inr (inr (inr (inr (inr (inr (inr (inr (inl (refl, is_pointer namespace id of_id))))))))))), refl));
        only = only_wrapped wrapper.DbPointer (pointer_object namespace (encode_lower id)) (db_pointer namespace id) (one_pointer namespace id of_id);
      },
    )

code_printed : (code : List ℕ) → LeafIsPrinted (javascript_code code)
code_printed code r text shown = (
  wrapped (codes "$code") (json.string code),
  record {
    text_is = shown ∙ prints_code code;
    numbers = (tt, tt);
    says = inr (inl (javascript_code code, inr (inr (inr (inr (inr (inr (inr (inr (inr (inr (inr (inl (refl, refl)))))))))))), refl));
    only = only_wrapped wrapper.Code (json.string code) (javascript_code code) (λ other w. w);
  },
)

symbol_printed : (s : List ℕ) → LeafIsPrinted (symbol s)
symbol_printed s r text shown = (
  wrapped (codes "$symbol") (json.string s),
  record {
    text_is = shown ∙ prints_symbol s;
    numbers = (tt, tt);
    says = inr (inl (symbol s, inr (inr (inr (inr (inr (inr (inr (inr (inr (inr (inr (inr (inl (refl, refl))))))))))))), refl));
    only = only_wrapped wrapper.Symbol (json.string s) (symbol s) (λ other w. w);
  },
)

int32_printed : (z : ℤ) → LeafIsPrinted (int32 z)
int32_printed z r text shown = (
  wrapped (codes "$numberInt") (json.string (signed_decimal z)),
  record {
    text_is = shown ∙ prints_int32 (signed_decimal z) (integer_plain z (small_32 z r.in_range));
    numbers = (tt, tt);
    says = inr (inl (int32 z, inr (inl (refl, (z, quoted_written z (small_32 z r.in_range), r.in_range, refl))), refl));
    only = only_wrapped wrapper.NumberInt (json.string (signed_decimal z)) (int32 z) (one_int32 z r.in_range);
  },
)

int64_printed : (z : ℤ) → LeafIsPrinted (int64 z)
int64_printed z r text shown = (
  wrapped (codes "$numberLong") (json.string (signed_decimal z)),
  record {
    text_is = shown ∙ prints_int64 (signed_decimal z) (integer_plain z (small_64 z r.in_range));
    numbers = (tt, tt);
    says = inr (inl (int64 z, inr (inr (inl (refl, (z, quoted_written z (small_64 z r.in_range), r.in_range, refl)))), refl));
    only = only_wrapped wrapper.NumberLong (json.string (signed_decimal z)) (int64 z) (one_int64 z r.in_range);
  },
)

timestamp_printed : (time increment : ℕ) → LeafIsPrinted (timestamp time increment)
timestamp_printed time increment r text shown =
    let h = r.in_range.0 in
    let k = r.in_range.1 in (
      wrapped (codes "$timestamp") (pair_object time increment),
      record {
        text_is = shown ∙ prints_timestamp (decimal time) (decimal increment);
        numbers = ((IsNumber-decimal time (omega arith), (IsNumber-decimal increment (omega arith), tt)), tt);
        says = inr (inl (timestamp time increment, inr (inr (inr (inr (inr (inr (inr (inr (inr (inl (refl, is_timestamp time increment h k)))))))))), refl));
        only = only_wrapped wrapper.Timestamp (pair_object time increment) (timestamp time increment) (one_timestamp time increment h k);
      },
    )

is_one : IsNumber (codes "1")
unfolding after_number
is_one = refl

max_key_printed : LeafIsPrinted max_key
unfolding print_from escape_byte
max_key_printed r text shown = (
  wrapped (codes "$maxKey") (json.number (codes "1")),
  record {
    text_is = shown;
    numbers = (is_one, tt);
    says = inr (inl (max_key, inr (inr (inr (inr (inr (inr (inr (inr (inr (inr (inr (inr (inr (inr (inr ((refl, refl), refl))))))))))))))), refl));
    only = only_wrapped wrapper.MaxKey (json.number (codes "1")) max_key (λ other w. w.1);
  },
)

min_key_printed : LeafIsPrinted min_key
unfolding print_from escape_byte
min_key_printed r text shown = (
  wrapped (codes "$minKey") (json.number (codes "1")),
  record {
    text_is = shown;
    numbers = (is_one, tt);
    says = inr (inl (min_key, inr (inr (inr (inr (inr (inr (inr (inr (inr (inr (inr (inr (inr (inr (inl ((refl, refl), refl))))))))))))))), refl));
    only = only_wrapped wrapper.MinKey (json.number (codes "1")) min_key (λ other w. w.1);
  },
)

string_printed : (s : List ℕ) → LeafIsPrinted (string s)
unfolding print_from
string_printed s r text shown = (json.string s, record { text_is = shown ∙ sym (append-nil (quoted s)); numbers = tt; says = refl; only = λ t e. e })

boolean_printed : (b : Bool) → LeafIsPrinted (boolean b)
unfolding print_from
boolean_printed true r text shown = (json.boolean true, record { text_is = shown; numbers = tt; says = refl; only = λ t e. e })
boolean_printed false r text shown = (json.boolean false, record { text_is = shown; numbers = tt; says = refl; only = λ t e. e })

null_printed : LeafIsPrinted null
unfolding print_from
null_printed r text shown = (json.null, record { text_is = shown; numbers = tt; says = refl; only = λ t e. e })

pub leaf_is_printed : (l : Leaf) → LeafIsPrinted l
leaf_is_printed (double bits) = double_printed bits
leaf_is_printed (string s) = string_printed s
leaf_is_printed (binary subtype bytes) = binary_printed subtype bytes
leaf_is_printed undefined = undefined_printed
leaf_is_printed (object_id id) = object_id_printed id
leaf_is_printed (boolean b) = boolean_printed b
leaf_is_printed (date_time z) = date_printed z
leaf_is_printed null = null_printed
leaf_is_printed (regular_expression pattern options) = regex_printed pattern options
leaf_is_printed (db_pointer namespace id) = pointer_printed namespace id
leaf_is_printed (javascript_code code) = code_printed code
leaf_is_printed (symbol s) = symbol_printed s
leaf_is_printed (int32 z) = int32_printed z
leaf_is_printed (timestamp time increment) = timestamp_printed time increment
leaf_is_printed (int64 z) = int64_printed z
leaf_is_printed (decimal128 bytes) = decimal_printed bytes
leaf_is_printed max_key = max_key_printed
leaf_is_printed min_key = min_key_printed
