-- What a JSON value writes that holds no others always has as many bytes.
use Rattle.std.proofs.Common.{◌≡◌, ℕ, ℤ, FitsSigned, List, Result, Ok, Option, Some, get_or, codes, length, refl, sym, ap, subst, ◌∙◌, inl, inr, arith}
use Rattle.std.proofs.lemmas.Bool.{false≢true}
use Rattle.std.specs.Int.{w32}
use Rattle.json.specs.Json.{Json, Members, no_members, member}
use Rattle.json.specs.Json as json
use Rattle.bson_model.specs.Leaf.{Leaf, binary, db_pointer, decimal128, object_id, regular_expression}
use Rattle.bson_model.specs.Options.{sorted_options}
use Rattle.bson_model.specs.Subtype.{subtype_of}
use Rattle.bson_model.specs.declared.binaries.BinarySubtype.TheVariants.{Uuid}
use Rattle.raw_view.specs.Frame.Format.{leaf_payload}
use Rattle.values_from_json.specs.Keys.{wrapper_key}
use Rattle.values_from_json.specs.Numbers.{IsPlain}
use Rattle.values_from_json.specs.Wrapped.{AreTwo, InString, IsBinary, IsDate, IsDbPointer, IsOid, IsOldBinary, IsRegex, IsTimestamp, IsUuid, IsWrapped, WritesOne}
use Rattle.values_from_json.specs.declared.wrapper.Wrapper.{Wrapper}
use Rattle.values_from_json.specs.declared.wrapper.Wrapper.TheVariants as wrapper
use Rattle.values_from_json.proofs.Face.{Writes, integer_only, wider, writes, written_once}

abbrev len : Leaf → ℕ
len l = length (leaf_payload l)

same_len : {l m a b : Leaf} → l ≡ a → m ≡ b → len a ≡ len b → len l ≡ len m
same_len e f same = ap len e ∙ same ∙ sym (ap len f)

same_ok : {X E : Type 0} {x y : X} (r : Result X E) → r ≡ Ok x → r ≡ Ok y → x ≡ y
same_ok r e f = cc

same_some : {X : Type 0} {x y : X} (o : Option X) → o ≡ Some x → o ≡ Some y → x ≡ y
same_some o e f = cc

same_string : {s t : List ℕ} → json.string s ≡ json.string t → s ≡ t
same_string e = cc

-- an object of two members has these two values alone
two_same : (k k' : List ℕ) (i : ℕ) {a a' b b' : Json} {ms : Members} → (get_or k i 0 ≡ get_or k' i 0 → ⊥) → AreTwo k a k' a' ms → AreTwo k b k' b' ms → (a ≡ b) × (a' ≡ b')
two_same k k' i unlike (inl e) (inl f) = (cc, cc)
two_same k k' i unlike (inr e) (inr f) = (cc, cc)
two_same k k' i unlike (inl e) (inr f) = let same : k ≡ k' = cc in absurd (unlike (ap (λ (l : List ℕ). get_or l i 0) same))
two_same k k' i unlike (inr e) (inl f) = let same : k ≡ k' = cc in absurd (unlike (ap (λ (l : List ℕ). get_or l i 0) same))

in_string : (W : List ℕ → Leaf → Type 0) (l m : Leaf) (j : Json) → ((s : List ℕ) → W s l → W s m → len l ≡ len m) → InString W j l → InString W j m → len l ≡ len m
in_string W l m json.null same h k = absurd h
in_string W l m (json.boolean b) same h k = absurd h
in_string W l m (json.number s) same h k = absurd h
in_string W l m (json.string s) same h k = same s h k
in_string W l m (json.array js) same h k = absurd h
in_string W l m (json.object ms) same h k = absurd h

module _ (l m : Leaf) where
  oid_size : (j : Json) → IsOid j l → IsOid j m → len l ≡ len m
  oid_size json.null h k = absurd h
  oid_size (json.boolean b) h k = absurd h
  oid_size (json.number s) h k = absurd h
  oid_size (json.string s) (id, is, e) (other, also, f) = same_len e f (ap (λ (x : List ℕ). len (object_id x)) (same_ok _ is also))
  oid_size (json.array js) h k = absurd h
  oid_size (json.object ms) h k = absurd h

  uuid_size : (j : Json) → IsUuid j l → IsUuid j m → len l ≡ len m
  uuid_size json.null h k = absurd h
  uuid_size (json.boolean b) h k = absurd h
  uuid_size (json.number s) h k = absurd h
  uuid_size (json.string s) (bytes, is, e) (other, also, f) = same_len e f (ap (λ (x : List ℕ). len (binary Uuid x)) (same_some _ is also))
  uuid_size (json.array js) h k = absurd h
  uuid_size (json.object ms) h k = absurd h

  binary_size : (j : Json) → IsBinary j l → IsBinary j m → len l ≡ len m
  binary_size json.null h k = absurd h
  binary_size (json.boolean b) h k = absurd h
  binary_size (json.number s) h k = absurd h
  binary_size (json.string s) h k = absurd h
  binary_size (json.array js) h k = absurd h
  binary_size (json.object ms) (text, digits, bytes, subtype, two, decoded, of_digits, e) (text', digits', bytes', subtype', two', decoded', of_digits', f) =
      let both = two_same (codes "base64") (codes "subType") 0 (λ e. omega arith) two two' in
      let same_text : text ≡ text' = same_string both.0 in
      let same_digits : digits ≡ digits' = same_string both.1 in
      let same_bytes : bytes ≡ bytes' = cc in
      let same_subtype : subtype ≡ subtype' = cc in
      same_len e f (ap (λ (x : List ℕ). len (binary (subtype_of subtype) x)) same_bytes ∙ ap (λ (x : ℕ). len (binary (subtype_of x) bytes')) same_subtype)

  -- one of version 1
  old_size : (ms : Members) → IsOldBinary ms l → IsOldBinary ms m → len l ≡ len m
  old_size ms (text, digits, bytes, subtype, two, decoded, of_digits, e) (text', digits', bytes', subtype', two', decoded', of_digits', f) =
      let both = two_same (codes "$binary") (codes "$type") 1 (λ e. omega arith) two two' in
      let same_text : text ≡ text' = same_string both.0 in
      let same_digits : digits ≡ digits' = same_string both.1 in
      let same_bytes : bytes ≡ bytes' = cc in
      let same_subtype : subtype ≡ subtype' = cc in
      same_len e f (ap (λ (x : List ℕ). len (binary (subtype_of subtype) x)) same_bytes ∙ ap (λ (x : ℕ). len (binary (subtype_of x) bytes')) same_subtype)

  -- an object that writes one value
  pub one_alone_size : (first : List ℕ) (j : Json) (ms : Members) → (IsWrapped first j l → IsWrapped first j m → len l ≡ len m) → WritesOne (member first j ms) l → WritesOne (member first j ms) m
      → len l ≡ len m
  one_alone_size first j no_members one h k = one h k
  one_alone_size first j (member name i ms) one h k = old_size (member first j (member name i ms)) h k

  regex_size : (j : Json) → IsRegex j l → IsRegex j m → len l ≡ len m
  regex_size json.null h k = absurd h
  regex_size (json.boolean b) h k = absurd h
  regex_size (json.number s) h k = absurd h
  regex_size (json.string s) h k = absurd h
  regex_size (json.array js) h k = absurd h
  regex_size (json.object ms) (pattern, options, two, free, also, e) (pattern', options', two', free', also', f) =
      let both = two_same (codes "pattern") (codes "options") 0 (λ e. omega arith) two two' in
      same_len e f (ap (λ (x : List ℕ). len (regular_expression x (sorted_options options))) (same_string both.0)
      ∙ ap (λ (x : List ℕ). len (regular_expression pattern' (sorted_options x))) (same_string both.1))

  timestamp_size : (j : Json) → IsTimestamp j l → IsTimestamp j m → len l ≡ len m
  timestamp_size json.null h k = absurd h
  timestamp_size (json.boolean b) h k = absurd h
  timestamp_size (json.number s) h k = absurd h
  timestamp_size (json.string s) h k = absurd h
  timestamp_size (json.array js) h k = absurd h
  timestamp_size (json.object ms) (t, i, time, increment, two, unsigned, more, e) (t', i', time', increment', two', unsigned', more', f) = same_len e f refl

  pointer_size : (j : Json) → IsDbPointer j l → IsDbPointer j m → len l ≡ len m
  pointer_size json.null h k = absurd h
  pointer_size (json.boolean b) h k = absurd h
  pointer_size (json.number s) h k = absurd h
  pointer_size (json.string s) h k = absurd h
  pointer_size (json.array js) h k = absurd h
  pointer_size (json.object ms) (namespace, digits, id, two, decoded, e) (namespace', digits', id', two', decoded', f) =
      let both = two_same (codes "$ref") (codes "$id") 1 (λ e. omega arith) two two' in
      let same_namespace : namespace ≡ namespace' = same_string both.0 in
      let same_digits : digits ≡ digits' = cc in
      let same_id : id ≡ id' = cc in
      same_len e f (ap (λ (x : List ℕ). len (db_pointer x id)) same_namespace ∙ ap (λ (x : List ℕ). len (db_pointer namespace' x)) same_id)

-- a date has eight bytes
date_size : (l : Leaf) (j : Json) → IsDate j l → len l ≡ 8
date_size l json.null h = absurd h
date_size l (json.boolean b) h = absurd h
date_size l (json.number s) (z, w, fits, e) = ap len e
date_size l (json.string s) (z, w, e) = ap len e
date_size l (json.array js) h = absurd h
date_size l (json.object ms) (z, w, fits, e) = ap len e

written_size : (w : Wrapper) (j : Json) (l m : Leaf) → Writes w j l → Writes w j m → len l ≡ len m
written_size wrapper.Oid j l m h k = oid_size l m j h k
written_size wrapper.NumberInt j l m h k = in_string _ l m j (λ s (z, w, fits, e) (z', w', fits', f). same_len e f refl) h k
written_size wrapper.NumberLong j l m h k = in_string _ l m j (λ s (z, w, fits, e) (z', w', fits', f). same_len e f refl) h k
written_size wrapper.NumberDouble j l m h k = in_string _ l m j (λ s (bits, w, e) (bits', w', f). same_len e f refl) h k
written_size wrapper.NumberDecimal j l m h k = in_string _ l m j (λ s (bytes, (bits, w, is), e) (bytes', (bits', w', also), f). same_len (e ∙ ap decimal128 is) (f ∙ ap decimal128 also) refl) h k
written_size wrapper.Binary j l m h k = binary_size l m j h k
written_size wrapper.Uuid j l m h k = uuid_size l m j h k
written_size wrapper.Date j l m h k = date_size l j h ∙ sym (date_size m j k)
written_size wrapper.RegularExpression j l m h k = regex_size l m j h k
written_size wrapper.Timestamp j l m h k = timestamp_size l m j h k
written_size wrapper.Code j l m h k = in_string _ l m j (λ s e f. same_len e f refl) h k
written_size wrapper.Scope j l m h k = absurd h
written_size wrapper.DbPointer j l m h k = pointer_size l m j h k
written_size wrapper.Symbol j l m h k = in_string _ l m j (λ s e f. same_len e f refl) h k
written_size wrapper.Undefined j l m (b, is, e) (b', also, f) = same_len e f refl
written_size wrapper.MinKey j l m (is, e) (also, f) = same_len e f refl
written_size wrapper.MaxKey j l m (is, e) (also, f) = same_len e f refl

pub one_wrapped_size : (w : Wrapper) (j : Json) (l m : Leaf) → Writes w j l → IsWrapped (wrapper_key w) j m → len l ≡ len m
one_wrapped_size w j l m h k = written_size w j l m h (writes w j m k)

-- a number without a wrapper
module _ (s : List ℕ) (l m : Leaf) where
  pub one_plain_size : IsPlain s l → IsPlain s m → len l ≡ len m
  one_plain_size (inl (z, w, fits, e)) (inl (z', w', fits', f)) = same_len e f refl
  one_plain_size (inl (z, w, fits, e)) (inr (inl (z', w', large, fits', f))) =
      absurd (large (subst (λ (x : ℤ). FitsSigned w32 x) (written_once s z z' (wider z fits) fits' w w') fits))
  one_plain_size (inl (z, w, fits, e)) (inr (inr (fractional, more))) = absurd (false≢true (sym (integer_only s z (wider z fits) w) ∙ fractional))
  one_plain_size (inr (inl (z, w, large, fits, e))) (inl (z', w', fits', f)) =
      absurd (large (subst (λ (x : ℤ). FitsSigned w32 x) (written_once s z' z (wider z' fits') fits w' w) fits'))
  one_plain_size (inr (inl (z, w, large, fits, e))) (inr (inl (z', w', large', fits', f))) = same_len e f refl
  one_plain_size (inr (inl (z, w, large, fits, e))) (inr (inr (fractional, more))) = absurd (false≢true (sym (integer_only s z fits w) ∙ fractional))
  one_plain_size (inr (inr (fractional, (bits, w, e)))) (inl (z', w', fits', f)) = absurd (false≢true (sym (integer_only s z' (wider z' fits') w') ∙ fractional))
  one_plain_size (inr (inr (fractional, (bits, w, e)))) (inr (inl (z', w', large, fits', f))) = absurd (false≢true (sym (integer_only s z' fits' w') ∙ fractional))
  one_plain_size (inr (inr (fractional, (bits, w, e)))) (inr (inr (also, (bits', w', f)))) = same_len e f refl
