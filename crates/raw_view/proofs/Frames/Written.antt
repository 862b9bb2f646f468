-- What is written by the format: it is bytes, has the shape of its kind, and means what it was written from.
use Rattle.std.proofs.Common.{◌≡◌, ◌≢◌, inl, inr, ◌≤◌, ◌<◌, ◌+◌, ◌-◌, ◌++◌, ◌∷◌, [], ℕ, pos, false, true, List, length, Some, arith, ap, sym, refl, ◌∙◌, length-append}
use Rattle.std.proofs.lemmas.List.{get_or_at}
use Rattle.std.proofs.lemmas.Option.{slice_get-get_or}
use Rattle.std.specs.Int.{bytes_low_first}
use Rattle.std.specs.Str.{IsUtf8}
use Rattle.bson_model.specs.Bytes.{AreBytes, NulFree}
use Rattle.bson_model.specs.Leaf.{Leaf, double, string, binary, undefined, object_id, boolean, date_time, null, regular_expression, db_pointer, javascript_code, symbol, int32, timestamp, int64, decimal128, max_key, min_key}
use Rattle.bson_model.specs.Proper.{IsLeafInRange, IsLeafNulFree, IsLeafSubtypeProper}
use Rattle.bson_model.specs.Subtype.{subtype_of, subtype_byte, IsProperSubtype}
use Rattle.bson_model.specs.declared.binaries.BinarySubtype.{BinarySubtype}
use Rattle.bson_model.specs.declared.binaries.BinarySubtype.TheVariants.{BinaryOld}
use Rattle.bson_model.proofs.Face.{AreBytes-nil, AreBytes-cons, AreBytes-append, AreBytes-nul, AreBytes-number, AreBytes-text}
use Rattle.raw_view.specs.Frame.Envelope.{IsEnvelope}
use Rattle.raw_view.specs.Frame.Format.{string_payload, plain_binary_payload, inner_payload, binary_payload, regex_payload, pointer_payload, leaf_payload, counted, scoped_payload, framed, element_of}
use Rattle.raw_view.specs.Frame.{IsBinary, IsRegex, IsDbPointer, HasDeclaredLength, HasShape}
use Rattle.raw_view.specs.Frame.Kind.{tag_of, kind_of_leaf}
use Rattle.raw_view.specs.Meaning.{single, scoped, MeansValue}
use Rattle.raw_view.specs.Frame.Number.{max_length, le32}
use Rattle.raw_view.specs.declared.element_type.ElementType.{ElementType}
use Rattle.raw_view.specs.declared.element_type.ElementType.TheVariants as kind
use Rattle.raw_view.proofs.Bytes.Numbers.{le32_of}
use Rattle.raw_view.proofs.Frames.Payloads.{string_is}

-- bytes

-- a text and a 0
AreBytes-ended : (text : List ℕ) → IsUtf8 text → AreBytes (text ++ 0 ∷ [])
AreBytes-ended text u = AreBytes-append text (0 ∷ []) (AreBytes-text text u) AreBytes-nul

-- a length and the bytes after it
AreBytes-behind_length : (n : ℕ) (bytes : List ℕ) → AreBytes bytes → AreBytes (le32 (pos n) ++ bytes)
AreBytes-behind_length n bytes h = AreBytes-append (le32 (pos n)) bytes (AreBytes-number 4 0 _) h

-- a string
AreBytes-string : (text : List ℕ) → IsUtf8 text → AreBytes (string_payload text)
AreBytes-string text u = AreBytes-behind_length (length text + 1) (text ++ 0 ∷ []) (AreBytes-ended text u)

-- a binary, also an old one
AreBytes-plain : (subtype : ℕ) (bytes : List ℕ) → subtype < 256 → AreBytes bytes → AreBytes (plain_binary_payload subtype bytes)
AreBytes-plain subtype bytes l h = AreBytes-behind_length (length bytes) (subtype ∷ bytes) (AreBytes-cons subtype bytes l h)

AreBytes-binary : (subtype : BinarySubtype) (bytes : List ℕ) → subtype_byte subtype < 256 → AreBytes bytes → AreBytes (binary_payload subtype bytes)
AreBytes-binary BinaryOld bytes l h = AreBytes-plain 2 (inner_payload bytes) (omega arith) (AreBytes-behind_length (length bytes) bytes h)
AreBytes-binary subtype bytes l h = AreBytes-plain (subtype_byte subtype) bytes l h

-- a leaf in range
pub AreBytes-leaf : (l : Leaf) → IsLeafInRange l → AreBytes (leaf_payload l)
AreBytes-leaf (double bits) h = AreBytes-number 8 0 bits
AreBytes-leaf (string text) h = AreBytes-string text h
AreBytes-leaf (binary subtype bytes) h = AreBytes-binary subtype bytes h.0 h.1
AreBytes-leaf (object_id bytes) h = h.1
AreBytes-leaf (boolean false) h = AreBytes-nul
AreBytes-leaf (boolean true) h = AreBytes-cons 1 [] (omega arith) AreBytes-nil
AreBytes-leaf (date_time millis) h = AreBytes-number 8 0 _
AreBytes-leaf (regular_expression pattern options) h =
    AreBytes-append pattern (0 ∷ (options ++ 0 ∷ [])) (AreBytes-text pattern h.0)
    (AreBytes-cons 0 (options ++ 0 ∷ []) (omega arith) (AreBytes-ended options h.1))
AreBytes-leaf (db_pointer namespace id) h = AreBytes-append (string_payload namespace) id (AreBytes-string namespace h.0) h.1.1
AreBytes-leaf (javascript_code code) h = AreBytes-string code h
AreBytes-leaf (symbol text) h = AreBytes-string text h
AreBytes-leaf (int32 z) h = AreBytes-number 4 0 _
AreBytes-leaf (timestamp time increment) h = AreBytes-append (bytes_low_first 0 4 increment) (bytes_low_first 0 4 time) (AreBytes-number 4 0 increment) (AreBytes-number 4 0 time)
AreBytes-leaf (int64 z) h = AreBytes-number 8 0 _
AreBytes-leaf (decimal128 bytes) h = h.1
AreBytes-leaf _ h = AreBytes-nil

-- a code with scope
pub AreBytes-scoped : (code scope : List ℕ) → IsUtf8 code → AreBytes scope → AreBytes (scoped_payload code scope)
AreBytes-scoped code scope u h =
    let inside : List ℕ = string_payload code ++ scope in
    AreBytes-behind_length (4 + length inside) inside (AreBytes-append (string_payload code) scope (AreBytes-string code u) h)

-- bytes between their length and a final 0
pub AreBytes-framed : (inside : List ℕ) → AreBytes inside → AreBytes (framed inside)
AreBytes-framed inside h = AreBytes-behind_length (4 + length (inside ++ 0 ∷ [])) (inside ++ 0 ∷ []) (AreBytes-append inside (0 ∷ []) h AreBytes-nul)

-- a tag is a byte, kind by kind
tag_of-below : (k : ElementType) → tag_of k < 256
tag_of-below kind.Double = omega arith
tag_of-below _ = omega arith

-- an element
pub AreBytes-element : (k : ElementType) (key payload : List ℕ) → IsUtf8 key → AreBytes payload → AreBytes (element_of k key payload)
AreBytes-element k key payload u h = AreBytes-cons (tag_of k) (key ++ 0 ∷ payload) (tag_of-below k) (AreBytes-append key (0 ∷ payload) (AreBytes-text key u) (AreBytes-cons 0 payload (omega arith) h))

-- lengths

pub length-framed : (inside : List ℕ) → length (framed inside) ≡ 5 + length inside
length-framed inside = omega (arith, length-append inside (0 ∷ []))

pub length-scoped_payload : (code scope : List ℕ) → length (scoped_payload code scope) ≡ 4 + (5 + length code) + length scope
length-scoped_payload code scope = omega (arith, length-append (code ++ 0 ∷ []) scope, length-append code (0 ∷ []))

-- shapes

-- the text of a string that isn't too long isn't too long either
short_text : (text : List ℕ) → length (string_payload text) ≤ max_length → length text < max_length
short_text text l = omega (arith, length-append text (0 ∷ []))

-- a binary
plain_is : (subtype : ℕ) (bytes : List ℕ) → length (plain_binary_payload subtype bytes) ≤ max_length → IsBinary (plain_binary_payload subtype bytes) subtype bytes
plain_is subtype bytes l = record { fits = omega arith; spelled = refl }

binary_shape : (subtype : BinarySubtype) (bytes : List ℕ) → length (binary_payload subtype bytes) ≤ max_length → (byte : ℕ) × (inner : List ℕ) × IsBinary (binary_payload subtype bytes) byte inner
binary_shape BinaryOld bytes l = (2, inner_payload bytes, plain_is 2 (inner_payload bytes) l)
binary_shape subtype bytes l = (subtype_byte subtype, bytes, plain_is (subtype_byte subtype) bytes l)

-- a regular expression
regex_is : (pattern options : List ℕ) → IsUtf8 pattern × IsUtf8 options → NulFree pattern × NulFree options → IsRegex (regex_payload pattern options) pattern options
regex_is pattern options h n = record {
  spelled = refl;
  pattern_nul_free = n.0;
  pattern_text = h.0;
  options_nul_free = n.1;
  options_text = h.1;
}

-- a pointer
pointer_is : (namespace id : List ℕ) → length id ≡ 12 → length (pointer_payload namespace id) ≤ max_length → IsDbPointer (pointer_payload namespace id) namespace id
pointer_is namespace id twelve l = record {
  fits = omega (arith, length-append (string_payload namespace) id, length-append namespace (0 ∷ []));
  id_len = twelve;
  spelled = refl;
}

-- a leaf
pub leaf_shape : (l : Leaf) (r : List ℕ) → IsLeafInRange l → IsLeafNulFree l → length (leaf_payload l) ≤ max_length → HasShape (kind_of_leaf l) (leaf_payload l) r
leaf_shape (double bits) r h n b = refl
leaf_shape (string text) r h n b = (text, string_is text (short_text text b))
leaf_shape (binary subtype bytes) r h n b = binary_shape subtype bytes b
leaf_shape undefined r h n b = refl
leaf_shape (object_id bytes) r h n b = h.0
leaf_shape (boolean false) r h n b = refl
leaf_shape (boolean true) r h n b = refl
leaf_shape (date_time millis) r h n b = refl
leaf_shape null r h n b = refl
leaf_shape (regular_expression pattern options) r h n b = (pattern, options, regex_is pattern options h n)
leaf_shape (db_pointer namespace id) r h n b = (namespace, id, pointer_is namespace id h.1.0 b)
leaf_shape (javascript_code code) r h n b = (code, string_is code (short_text code b))
leaf_shape (symbol text) r h n b = (text, string_is text (short_text text b))
leaf_shape (int32 z) r h n b = refl
leaf_shape (timestamp time increment) r h n b = refl
leaf_shape (int64 z) r h n b = refl
leaf_shape (decimal128 bytes) r h n b = h.0
leaf_shape max_key r h n b = refl
leaf_shape min_key r h n b = refl

-- bytes after a length that counts itself have that declared length, whatever follows them
pub declared_shape : (rest r : List ℕ) → 4 + length rest ≤ max_length → HasDeclaredLength (counted rest) r
declared_shape rest r l =
    let size : length (counted rest) ≡ 4 + length rest = omega arith in
    record { enough = omega arith; header = rw size (le32_of (4 + length rest) l) }

-- bytes in a frame have an envelope
pub framed_is_envelope : (inside : List ℕ) → AreBytes (framed inside) → 5 + length inside ≤ max_length → IsEnvelope (framed inside)
framed_is_envelope inside bytes l =
    let front : List ℕ = le32 (pos (4 + length (inside ++ 0 ∷ []))) ++ inside in
    let size : length (framed inside) ≡ 4 + length (inside ++ 0 ∷ []) = omega arith in
    let at : length front ≡ length (framed inside) - 1 = omega (arith, length-append inside (0 ∷ [])) in
    record {
      bytes = bytes;
      enough = omega arith;
      header = rw size (le32_of (4 + length (inside ++ 0 ∷ [])) (omega (arith, length-append inside (0 ∷ []))));
      ended = slice_get-get_or (framed inside) (length (framed inside) - 1) 0 (omega arith) ∙ ap Some (get_or_at front 0 [] 0 _ at);
    }

-- meanings

-- the byte of a proper subtype is 2 only of the old one
not_old : (subtype : BinarySubtype) → IsProperSubtype subtype → subtype ≢ BinaryOld → subtype_byte subtype ≢ 2
not_old subtype proper other e = other (sym proper ∙ ap subtype_of e)

-- a binary
new_binary_means : (subtype : BinarySubtype) (bytes : List ℕ) → IsProperSubtype subtype → subtype ≢ BinaryOld
    → length (plain_binary_payload (subtype_byte subtype) bytes) ≤ max_length
    → MeansValue kind.Binary (plain_binary_payload (subtype_byte subtype) bytes) (single (binary subtype bytes))
new_binary_means subtype bytes proper other l =
    (subtype_byte subtype, bytes, plain_is (subtype_byte subtype) bytes l, inl (not_old subtype proper other, ap (λ s. single (binary s bytes)) (sym proper)))

binary_means : (subtype : BinarySubtype) (bytes : List ℕ) → IsProperSubtype subtype → length (binary_payload subtype bytes) ≤ max_length
    → MeansValue kind.Binary (binary_payload subtype bytes) (single (binary subtype bytes))
binary_means BinaryOld bytes proper l = (2, inner_payload bytes, plain_is 2 (inner_payload bytes) l, inr (refl, bytes, record { fits = omega arith; spelled = refl }, refl))
binary_means subtype bytes proper l = new_binary_means subtype bytes proper (λ e. cc) l

-- a leaf
pub leaf_means : (l : Leaf) → IsLeafInRange l → IsLeafNulFree l → IsLeafSubtypeProper l → length (leaf_payload l) ≤ max_length → MeansValue (kind_of_leaf l) (leaf_payload l) (single l)
leaf_means (double bits) h n s b = (bits, record { fits = h; bytes_are = refl }, refl)
leaf_means (string text) h n s b = (text, (string_is text (short_text text b), h), refl)
leaf_means (binary subtype bytes) h n s b = binary_means subtype bytes s b
leaf_means undefined h n s b = refl
leaf_means (object_id bytes) h n s b = refl
leaf_means (boolean truth) h n s b = (truth, refl, refl)
leaf_means (date_time millis) h n s b = (millis, record { fits = h; bytes_are = refl }, refl)
leaf_means null h n s b = refl
leaf_means (regular_expression pattern options) h n s b = (pattern, options, regex_is pattern options h n, refl)
leaf_means (db_pointer namespace id) h n s b = (namespace, id, pointer_is namespace id h.1.0 b, h.0, refl)
leaf_means (javascript_code code) h n s b = (code, (string_is code (short_text code b), h), refl)
leaf_means (symbol text) h n s b = (text, (string_is text (short_text text b), h), refl)
leaf_means (int32 z) h n s b = (z, record { fits = h; bytes_are = refl }, refl)
leaf_means (timestamp time increment) h n s b = (time, increment, record { time_fits = h.0; increment_fits = h.1; spelled = refl }, refl)
leaf_means (int64 z) h n s b = (z, record { fits = h; bytes_are = refl }, refl)
leaf_means (decimal128 bytes) h n s b = refl
leaf_means max_key h n s b = refl
leaf_means min_key h n s b = refl

-- a code with scope
pub scoped_means : (code scope : List ℕ) → IsUtf8 code → IsEnvelope scope → 4 + length (string_payload code ++ scope) ≤ max_length
    → MeansValue kind.JavaScriptCodeWithScope (scoped_payload code scope) (scoped code scope)
scoped_means code scope u env l = (code, scope, record { fits = omega arith; spelled = refl }, u, env, refl)
