-- Base64 and hex are in a JSON string as they are, and are read as their bytes.
use Rattle.std.proofs.Common.{◌≡◌, ◌+◌, ◌*◌, ◌/◌, ◌%◌, ◌<◌, ◌&&◌, nat_lt, Bool, get_or, ℕ, zero, suc, true, inl, List, [], ◌∷◌, length, replicate, codes, Ok, refl, sym, ap, ◌∙◌, arith}
use Rattle.std.proofs.lemmas.Bool.{and_from, and_parts, ltb-true, ne_eqb}
use Rattle.base64.specs.Engines.{standard}
use Rattle.base64.specs.GeneralPurpose.{decode_of, encode_of}
use Rattle.base64.specs.Rfc4648.{encode_symbols, padding_len}
use Rattle.base64.proofs.EngineFacts.{decode_of-encode_of}
use Rattle.hex.specs.Hex.{decode_sized, encode_lower, encode_with, lower_digits}
use Rattle.hex.proofs.HexLemmas.{decode_sized-encode_lower}
use Rattle.json.specs.Json.{Json, object, string, member}
use Rattle.bson_model.specs.Bytes.{AreBytes}
use Rattle.bson_model.specs.Leaf.{Leaf, binary}
use Rattle.bson_model.specs.Subtype.{IsProperSubtype, subtype_byte, subtype_of}
use Rattle.bson_model.specs.declared.binaries.BinarySubtype.{BinarySubtype}
use Rattle.bson_from_json.specs.Wrapped.{IsBinary, one_member, two_hex_digits}
use Rattle.values_from_json.specs.Spaces.{is_space, without_spaces}
use Rattle.values_from_json.proofs.Face.{encoding_kept}
use Rattle.json_round_trip.proofs.leaves.Dense.{no_space}
use Rattle.json_round_trip.proofs.leaves.Plain.{are_plain, plain_at, plain_both, plain_repeated}
use Rattle.json_round_trip.proofs.leaves.Shapes.{same_ok, same_string, two_only}

module _ (t : List ℕ) (plain : are_plain t ≡ true) (long : length t ≡ 64) where
  symbols_plain : (m : List ℕ) → AreBytes m → are_plain (encode_symbols t m) ≡ true
  unfolding encode_symbols
  symbols_plain [] h = refl
  symbols_plain (a ∷ []) h =
      let f = h 0 in
      and_from _ _ (plain_at t (a / 4) plain (omega arith)) (and_from _ _ (plain_at t (a % 4 * 16) plain (omega arith)) refl)
  symbols_plain (a ∷ b ∷ []) h =
      let f = h 0 in
      let g = h 1 in
      and_from _ _ (plain_at t (a / 4) plain (omega arith))
      (and_from _ _ (plain_at t (a % 4 * 16 + b / 16) plain (omega arith)) (and_from _ _ (plain_at t (b % 16 * 4) plain (omega arith)) refl))
  symbols_plain (a ∷ b ∷ c ∷ rest) h =
      let f = h 0 in
      let g = h 1 in
      let k = h 2 in
      and_from _ _ (plain_at t (a / 4) plain (omega arith))
      (and_from _ _ (plain_at t (a % 4 * 16 + b / 16) plain (omega arith))
      (and_from _ _ (plain_at t (b % 16 * 4 + c / 64) plain (omega arith))
      (and_from _ _ (plain_at t (c % 64) plain (omega arith)) (symbols_plain rest (λ i. h (suc (suc (suc i))))))))

pub base64_plain : (m : List ℕ) → AreBytes m → are_plain (encode_of standard m) ≡ true
base64_plain m h =
    let t = standard.encode_table in
    let n = padding_len (length m) in
    plain_both (encode_symbols t m) (replicate n 61) (symbols_plain t refl refl m h) (plain_repeated 61 n refl)

pub hex_plain : (m : List ℕ) → AreBytes m → are_plain (encode_lower m) ≡ true
unfolding encode_with
hex_plain [] h = refl
hex_plain (b ∷ rest) h =
    let f = h 0 in
    and_from _ _ (plain_at lower_digits (b / 16) refl (omega arith)) (and_from _ _ (plain_at lower_digits (b % 16) refl (omega arith)) (hex_plain rest (λ i. h (suc i))))

pub byte_alone : (b : ℕ) → b < 256 → AreBytes (b ∷ [])
byte_alone b h zero = h
byte_alone b h (suc i) = omega arith

-- no character below the digits
abbrev are_high : List ℕ → Bool
are_high [] = true
are_high (x ∷ xs) = nat_lt 47 x && are_high xs

high_at : (xs : List ℕ) (i : ℕ) → are_high xs ≡ true → i < length xs → nat_lt 47 (get_or xs i 0) ≡ true
high_at [] i h lt = absurd (omega arith)
high_at (x ∷ xs) zero h lt = (and_parts _ _ h).0
high_at (x ∷ xs) (suc i) h lt = high_at xs i (and_parts _ _ h).1 (omega arith)

high_digits : (x y : ℕ) → nat_lt 47 x ≡ true → nat_lt 47 y ≡ true → two_hex_digits (x ∷ y ∷ []) ≡ x ∷ y ∷ []
high_digits x y h k =
    let low : 47 < x = ltb-true 47 x h in
    let also : 47 < y = ltb-true 47 y k in
    rw (no_space x (omega (arith, low)), ne_eqb x 43 (λ e. omega (arith, low, e)), no_space y (omega (arith, also))) refl

two_digits : (b : ℕ) → b < 256 → two_hex_digits (encode_lower (b ∷ [])) ≡ encode_lower (b ∷ [])
unfolding encode_with
two_digits b h = high_digits _ _ (high_at lower_digits (b / 16) refl (omega arith)) (high_at lower_digits (b % 16) refl (omega arith))

subtype_read : (b : ℕ) → b < 256 → decode_sized (two_hex_digits (encode_lower (b ∷ []))) 1 ≡ Ok (b ∷ [])
subtype_read b h = ap (λ (l : List ℕ). decode_sized l 1) (two_digits b h) ∙ decode_sized-encode_lower (b ∷ []) 1 refl (byte_alone b h)

base64_read : (bytes : List ℕ) → AreBytes bytes → decode_of standard (without_spaces (encode_of standard bytes)) ≡ Ok bytes
base64_read bytes are = ap (decode_of standard) (encoding_kept bytes are) ∙ decode_of-encode_of standard bytes refl are

abbrev pub payload : BinarySubtype → List ℕ → Json
payload subtype bytes = object (member (codes "base64") (string (encode_of standard bytes)) (one_member (codes "subType") (string (encode_lower (subtype_byte subtype ∷ [])))))

module _ (subtype : BinarySubtype) (bytes : List ℕ) (byte : subtype_byte subtype < 256) (are : AreBytes bytes) (proper : IsProperSubtype subtype) where
  pub is_binary : IsBinary (payload subtype bytes) (binary subtype bytes)
  is_binary = (
    encode_of standard bytes,
    encode_lower (subtype_byte subtype ∷ []),
    bytes,
    subtype_byte subtype,
    inl refl,
    base64_read bytes are,
    subtype_read (subtype_byte subtype) byte,
    ap (λ (s : BinarySubtype). binary s bytes) (sym proper),
  )

  pub one_binary : (l : Leaf) → IsBinary (payload subtype bytes) l → l ≡ binary subtype bytes
  one_binary l (text, digits, read, b, two, decoded, subtype_is, is) =
      let both = two_only (codes "base64") (codes "subType") 0 (λ e. omega (arith, e)) two in
      let text_is = same_string both.0 in
      let digits_is = same_string both.1 in
      let bytes_is : read ≡ bytes = same_ok (decode_of standard (without_spaces text)) decoded (ap (λ (s : List ℕ). decode_of standard (without_spaces s)) text_is ∙ base64_read bytes are) in
      let byte_is : (b ∷ []) ≡ subtype_byte subtype ∷ [] =
      same_ok (decode_sized (two_hex_digits digits) 1) subtype_is (ap (λ (s : List ℕ). decode_sized (two_hex_digits s) 1) digits_is ∙ subtype_read (subtype_byte subtype) byte) in
      let one : b ≡ subtype_byte subtype = cc in
      is ∙ ap (λ (x : ℕ). binary (subtype_of x) read) one ∙ ap (λ (s : BinarySubtype). binary s read) proper ∙ ap (binary subtype) bytes_is
