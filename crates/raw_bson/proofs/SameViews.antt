-- `==` of two borrowed values holds if and only if they view the same value.
use Rattle.std.proofs.Common.{◌≡◌, ◌∙◌, ℕ, ℤ, Bool, true, false, List, [], ◌∷◌, refl, ap, sym, subst, inl, inr, Decides}
use Rattle.std.proofs.lemmas.Bool.{false≢true}
use Rattle.std.specs.Cmp.{booleans_Decides}
use Rattle.std.proofs.lemmas.Bool.Decides.{Decides-eqb, Decides-int_eq}
use Rattle.std.proofs.lemmas.Slice.Eq.{bytes_eq-Decides}
use denote.Ref.{Bor}
use denote.Signature.{static_lft}
use denote.Struct.Field.{Field}
use denote.Enum.Declared.{Choice}
use denote.Enum.Compared.{by, Each}
use Rattle.bson_model.specs.Leaf.{Leaf, double, string, binary, object_id, boolean, date_time, regular_expression, db_pointer, javascript_code, symbol, int32, timestamp, int64, decimal128}
use Rattle.bson_model.specs.declared.numbers.DoubleBits.{DoubleBits}
use Rattle.bson_model.specs.declared.numbers.Decimal128.{Decimal128}
use Rattle.bson_model.specs.declared.object_id.ObjectId.{ObjectId}
use Rattle.bson_model.specs.declared.times.DateTime.{DateTime}
use Rattle.bson_model.specs.declared.times.Timestamp.{Timestamp}
use Rattle.bson_model.proofs.Face.{same_subtype, Kinds, AllDecide, decided, along, joined}
use Rattle.raw_view.specs.Document.{bytes_of}
use Rattle.raw_view.specs.Meaning.{RawValue, single, document, array, scoped}
use Rattle.raw_view.specs.Meaning.Value.{value_of, array_bytes_of}
use Rattle.raw_view.specs.declared.array.RawArray.{RawArray}
use Rattle.raw_view.specs.declared.bson_ref.RawBinaryRef.{RawBinaryRef}
use Rattle.raw_view.specs.declared.bson_ref.RawBsonRef.{RawBsonRef}
use Rattle.raw_view.specs.declared.bson_ref.RawBsonRef.TheVariants as ref
use Rattle.raw_view.specs.declared.bson_ref.RawDbPointerRef.{RawDbPointerRef}
use Rattle.raw_view.specs.declared.bson_ref.RawJavaScriptCodeWithScopeRef.{RawJavaScriptCodeWithScopeRef}
use Rattle.raw_view.specs.declared.bson_ref.RawRegexRef.{RawRegexRef}
use Rattle.raw_view.specs.declared.document.RawDocument.{RawDocument}
use Rattle.raw_view.specs.contracts.bson_ref.RawBsonRef as view
use Rattle.raw_view.specs.contracts.bson_ref.RawBsonRefPartialEq.TheImpl as eqs
use Rattle.raw_bson.proofs.SameValues.{value_place, ◌▹◌, always}

-- the derived `==`
abbrev equal : RawBsonRef → RawBsonRef → Bool
equal = eqs.ghosts.eq

-- `==` of x and y decides whether they view the same value
abbrev IsDecided : RawBsonRef → RawBsonRef → Type 0
IsDecided x y = Decides (equal x y) (value_of x ≡ value_of y)

-- what decides whether two leaves are the same decides it of the values that are these leaves
of_leaf : {l k : Leaf} {r : Bool} → Decides r (l ≡ k) → Decides r (single l ≡ single k)
of_leaf {r = r} d = along r r refl d (λ p. ap single p) (λ q. cc)

-- the same of two values of one field each
of_field : {A : Type 0} {a b : A} {r : Bool} (leaf_of : A → Leaf) → (leaf_of a ≡ leaf_of b → a ≡ b) → Decides r (a ≡ b) → Decides r (single (leaf_of a) ≡ single (leaf_of b))
of_field {r = r} leaf_of back d = of_leaf (along r r refl d (λ p. ap leaf_of p) back)

-- two doubles
same_double : (a b : DoubleBits) → IsDecided (ref.Double a) (ref.Double b)
same_double a b = of_field double (λ q. cc) (Decides-eqb a.0 b.0)

-- two strings
same_string : (a b : Bor (List ℕ)) → IsDecided (ref.String a) (ref.String b)
same_string a b = of_field string (λ q. cc) (bytes_eq-Decides a.now b.now)

-- two arrays
same_array : (a b : RawArray) → IsDecided (ref.Array a) (ref.Array b)
same_array a b = along _ _ refl (bytes_eq-Decides (array_bytes_of a) (array_bytes_of b)) (λ p. ap array p) (λ q. cc)

-- two documents
same_document : (a b : RawDocument) → IsDecided (ref.Document a) (ref.Document b)
same_document a b = along _ _ refl (bytes_eq-Decides (bytes_of a) (bytes_of b)) (λ p. ap document p) (λ q. cc)

-- two booleans
same_boolean : (a b : Bool) → IsDecided (ref.Boolean a) (ref.Boolean b)
same_boolean a b = of_field boolean (λ q. cc) (booleans_Decides a b)

-- two regular expressions
same_regex : (a b : RawRegexRef) → IsDecided (ref.RegularExpression a) (ref.RegularExpression b)
same_regex a b = of_leaf (joined _ _ (bytes_eq-Decides a.pattern.now b.pattern.now) (bytes_eq-Decides a.options.now b.options.now) (λ p q i. regular_expression (p i) (q i)) (λ r. cc) (λ r. cc))

-- two codes
same_javascript : (a b : Bor (List ℕ)) → IsDecided (ref.JavaScriptCode a) (ref.JavaScriptCode b)
same_javascript a b = of_field javascript_code (λ q. cc) (bytes_eq-Decides a.now b.now)

-- two codes with scope
same_scoped : (a b : RawJavaScriptCodeWithScopeRef) → IsDecided (ref.JavaScriptCodeWithScope a) (ref.JavaScriptCodeWithScope b)
same_scoped a b = joined _ _ (bytes_eq-Decides a.code.now b.code.now) (bytes_eq-Decides (bytes_of a.scope) (bytes_of b.scope)) (λ p q i. scoped (p i) (q i)) (λ r. cc) (λ r. cc)

-- two numbers of 32 bits
same_int32 : (a b : ℤ) → IsDecided (ref.Int32 a) (ref.Int32 b)
same_int32 a b = of_field int32 (λ q. cc) (Decides-int_eq a b)

-- two numbers of 64 bits
same_int64 : (a b : ℤ) → IsDecided (ref.Int64 a) (ref.Int64 b)
same_int64 a b = of_field int64 (λ q. cc) (Decides-int_eq a b)

-- two timestamps
same_timestamp : (a b : Timestamp) → IsDecided (ref.Timestamp a) (ref.Timestamp b)
same_timestamp a b = of_leaf (joined _ _ (Decides-eqb a.time b.time) (Decides-eqb a.increment b.increment) (λ p q i. timestamp (p i) (q i)) (λ r. cc) (λ r. cc))

-- two values of bytes with a subtype
same_binary : (a b : RawBinaryRef) → IsDecided (ref.Binary a) (ref.Binary b)
same_binary a b = of_leaf (joined _ _ (same_subtype a.subtype b.subtype) (bytes_eq-Decides a.bytes.now b.bytes.now) (λ p q i. binary (p i) (q i)) (λ r. cc) (λ r. cc))

-- two ObjectIds
same_object_id : (a b : ObjectId) → IsDecided (ref.ObjectId a) (ref.ObjectId b)
same_object_id a b = of_field object_id (λ q. cc) (bytes_eq-Decides a.bytes b.bytes)

-- two times
same_date_time : (a b : DateTime) → IsDecided (ref.DateTime a) (ref.DateTime b)
same_date_time a b = of_field date_time (λ q. cc) (Decides-int_eq a.millis b.millis)

-- two symbols
same_symbol : (a b : Bor (List ℕ)) → IsDecided (ref.Symbol a) (ref.Symbol b)
same_symbol a b = of_field symbol (λ q. cc) (bytes_eq-Decides a.now b.now)

-- two decimals
same_decimal128 : (a b : Decimal128) → IsDecided (ref.Decimal128 a) (ref.Decimal128 b)
same_decimal128 a b = of_field decimal128 (λ q. cc) (bytes_eq-Decides a.bytes b.bytes)

-- two pointers to objects
same_pointer : (a b : RawDbPointerRef) → IsDecided (ref.DbPointer a) (ref.DbPointer b)
same_pointer a b = of_leaf (joined _ _ (bytes_eq-Decides a.namespace.now b.namespace.now) (bytes_eq-Decides a.id.bytes b.id.bytes) (λ p q i. db_pointer (p i) (q i)) (λ r. cc) (λ r. cc))

-- the variants and the types of their fields, which no lifetime changes
abbrev variants : List (List Field)
variants = (view.enum static_lft).parts

-- a value from its variant and the fields
abbrev make : Choice variants → RawBsonRef
make = view.the_make static_lft

-- the value that it views
abbrev shows : Choice variants → RawValue
shows c = value_of (make c)

-- each variant views values of one place, so two variants view different values
places : Kinds value_place variants 0 shows
places = (
  λ u. refl,
  (
    λ u. refl,
    (
      λ u. refl,
      (
        λ u. refl,
        (
          λ u. refl,
          (
            λ u. refl,
            (
              λ u. refl,
              (
                λ u. refl,
                (
                  λ u. refl,
                  (
                    λ u. refl,
                    (
                      λ u. refl,
                      (
                        λ u. refl,
                        (
                          λ u. refl,
                          (
                            λ u. refl,
                            (
                              λ u. refl,
                              (
                                λ u. refl,
                                (
                                  λ u. refl,
                                  (
                                    λ u. refl,
                                    (λ u. refl, (λ u. refl, (λ u. refl, tt))),
                                  ),
                                ),
                              ),
                            ),
                          ),
                        ),
                      ),
                    ),
                  ),
                ),
              ),
            ),
          ),
        ),
      ),
    ),
  ),
)

-- for each of some variants, `==` of two of its values
abbrev tests_of : (Fss : List (List Field)) → (Choice Fss → RawBsonRef) → Each Bool Fss
tests_of [] made = tt
tests_of (Fs ∷ Fss) made = (λ u v. equal (made (inl u)) (made (inl v)), tests_of Fss (λ c. made (inr c)))

-- of all 21 variants
abbrev tests : Each Bool variants
tests = tests_of variants make

-- within each variant `==` decides whether two values are the same
all_decide : AllDecide value_place variants tests shows (λ c. Unit {0})
all_decide =
    (λ u v s. same_double u.0 v.0) ▹
    (λ u v s. same_string u.0 v.0) ▹
    (λ u v s. same_array u.0 v.0) ▹
    (λ u v s. same_document u.0 v.0) ▹
    (λ u v s. same_boolean u.0 v.0) ▹
    (λ u v s. always refl) ▹
    (λ u v s. same_regex u.0 v.0) ▹
    (λ u v s. same_javascript u.0 v.0) ▹
    (λ u v s. same_scoped u.0 v.0) ▹
    (λ u v s. same_int32 u.0 v.0) ▹
    (λ u v s. same_int64 u.0 v.0) ▹
    (λ u v s. same_timestamp u.0 v.0) ▹
    (λ u v s. same_binary u.0 v.0) ▹
    (λ u v s. same_object_id u.0 v.0) ▹
    (λ u v s. same_date_time u.0 v.0) ▹
    (λ u v s. same_symbol u.0 v.0) ▹
    (λ u v s. same_decimal128 u.0 v.0) ▹
    (λ u v s. always refl) ▹
    (λ u v s. always refl) ▹
    (λ u v s. always refl) ▹
    (λ u v s. same_pointer u.0 v.0) ▹
    tt

-- `==` is false of two variants, and of one variant it is that variant's test
by_variants : (c d : Choice variants) → equal (make c) (make d) ≡ by false false variants tests c d
by_variants c d = λ i. by false false variants tests (view.the_beta static_lft c i) (view.the_beta static_lft d i)

-- so `==` decides it of values that are made of a variant and its fields
same_made : (c d : Choice variants) → IsDecided (make c) (make d)
same_made c d = rw (by_variants c d) (decided value_place variants 0 tests shows (λ c. Unit {0}) places all_decide c d tt)

-- and every value is made so: `==` of two borrowed values decides whether they view the same value
pub same_view : (x y : RawBsonRef) → Decides (equal x y) (value_of x ≡ value_of y)
same_view x y =
    subst (λ z. IsDecided z y) (view.the_eta static_lft x)
    (subst (λ z. IsDecided (make (view.as_values static_lft x)) z) (view.the_eta static_lft y)
    (same_made (view.as_values static_lft x) (view.as_values static_lft y)))

-- and so does what `==` returned
pub view_same : (x y : RawBsonRef) {same : Bool} → same ≡ equal x y → same ≡ true → value_of x ≡ value_of y
view_same x y is here = (same_view x y).0 (sym is ∙ here)

pub view_differs : (x y : RawBsonRef) {same : Bool} → same ≡ equal x y → same ≡ false → ¬ (value_of x ≡ value_of y)
view_differs x y is here = λ same. false≢true (sym here ∙ is ∙ (same_view x y).1 same)
