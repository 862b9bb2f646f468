-- Regular expressions, object ids and pointers are read as they are, and as no others.
use Rattle.std.proofs.Common.{◌≡◌, ℕ, List, codes, Ok, inl, refl, sym, ap, ◌∙◌, arith}
use Rattle.std.specs.Str.{IsUtf8}
use Rattle.hex.specs.Hex.{decode_sized, encode_lower}
use Rattle.hex.proofs.HexLemmas.{decode_sized-encode_lower}
use Rattle.json.specs.Json.{Json, object, string, member}
use Rattle.bson_model.specs.Bytes.{AreBytesOf, NulFree}
use Rattle.bson_model.specs.Leaf.{Leaf, db_pointer, object_id, regular_expression}
use Rattle.bson_model.specs.Options.{OptionsAscend, sorted_options}
use Rattle.bson_model.proofs.Face.{sorted_options-same}
use Rattle.bson_from_json.specs.Wrapped.{IsDbPointer, IsOid, IsRegex, one_member}
use Rattle.json_round_trip.proofs.leaves.Shapes.{same_ok, same_string, two_only}

id_read : (id : List ℕ) → AreBytesOf 12 id → decode_sized (encode_lower id) 12 ≡ Ok id
id_read id h = decode_sized-encode_lower id 12 h.0 h.1

pub is_oid : (id : List ℕ) → AreBytesOf 12 id → IsOid (string (encode_lower id)) (object_id id)
is_oid id h = (id, id_read id h, refl)

pub one_oid : (id : List ℕ) → AreBytesOf 12 id → (l : Leaf) → IsOid (string (encode_lower id)) l → l ≡ object_id id
one_oid id h l (other, read, is) = is ∙ ap object_id (same_ok (decode_sized (encode_lower id) 12) read (id_read id h))

abbrev pub regex_object : List ℕ → List ℕ → Json
regex_object pattern options = object (member (codes "pattern") (string pattern) (one_member (codes "options") (string options)))

pub is_regex : (pattern options : List ℕ) → IsUtf8 options → OptionsAscend options → NulFree pattern × NulFree options → IsRegex (regex_object pattern options) (regular_expression pattern options)
is_regex pattern options text ascend free = (pattern, options, inl refl, free.0, free.1, ap (regular_expression pattern) (sym (sorted_options-same options text ascend)))

pub one_regex : (pattern options : List ℕ) → IsUtf8 options → OptionsAscend options → (l : Leaf) → IsRegex (regex_object pattern options) l
    → l ≡ regular_expression pattern options
one_regex pattern options text ascend l (p, o, two, free, free', is) =
    let both = two_only (codes "pattern") (codes "options") 0 (λ e. omega (arith, e)) two in
    is ∙ ap (λ (s : List ℕ). regular_expression s (sorted_options o)) (same_string both.0)
    ∙ ap (λ (s : List ℕ). regular_expression pattern (sorted_options s)) (same_string both.1) ∙ ap (regular_expression pattern) (sorted_options-same options text ascend)

abbrev id_object : List ℕ → Json
id_object digits = object (one_member (codes "$oid") (string digits))

abbrev pub pointer_object : List ℕ → List ℕ → Json
pointer_object namespace digits = object (member (codes "$ref") (string namespace) (one_member (codes "$id") (id_object digits)))

pub is_pointer : (namespace id : List ℕ) → AreBytesOf 12 id → IsDbPointer (pointer_object namespace (encode_lower id)) (db_pointer namespace id)
is_pointer namespace id h = (namespace, encode_lower id, id, inl refl, id_read id h, refl)

same_digits : (s t : List ℕ) → id_object s ≡ id_object t → s ≡ t
same_digits s t e = cc

pub one_pointer : (namespace id : List ℕ) → AreBytesOf 12 id → (l : Leaf) → IsDbPointer (pointer_object namespace (encode_lower id)) l → l ≡ db_pointer namespace id
one_pointer namespace id h l (n, digits, other, two, read, is) =
    let both = two_only (codes "$ref") (codes "$id") 1 (λ e. omega (arith, e)) two in
    let same : digits ≡ encode_lower id = same_digits digits (encode_lower id) both.1 in
    let id_is : other ≡ id = same_ok (decode_sized digits 12) read (ap (λ (s : List ℕ). decode_sized s 12) same ∙ id_read id h) in
    is ∙ ap (λ (s : List ℕ). db_pointer s other) (same_string both.0) ∙ ap (db_pointer namespace) id_is
