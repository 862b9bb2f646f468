-- `==` of two owned values holds if and only if they are of one variant with the same fields.
use Rattle.std.proofs.Common.{◌≡◌, ℕ, ℤ, Bool, true, false, List, [], ◌∷◌, Option, Some, None, String, Global, refl, ap, sym, subst, inl, inr, Decides}
use Rattle.std.specs.Cmp.{booleans_Decides}
use Rattle.std.specs.String.{string_bytes, string_eq}
use Rattle.std.proofs.lemmas.Bool.Decides.{Decides-eqb, Decides-int_eq}
use Rattle.std.proofs.lemmas.Slice.Eq.{bytes_eq-Decides}
use denote.Struct.Field.{Field}
use denote.Enum.Declared.{Choice}
use denote.Enum.Compared.{by, Each}
use Rattle.bson_model.specs.Leaf.{Leaf, double, string, binary, undefined, object_id, boolean, date_time, null, regular_expression, db_pointer, javascript_code, symbol, int32, timestamp, int64, decimal128, max_key, min_key}
use Rattle.bson_model.specs.declared.binaries.Binary.{Binary}
use Rattle.bson_model.specs.declared.numbers.DoubleBits.{DoubleBits}
use Rattle.bson_model.specs.declared.numbers.Decimal128.{Decimal128}
use Rattle.bson_model.specs.declared.object_id.ObjectId.{ObjectId}
use Rattle.bson_model.specs.declared.object_id.DbPointer.{DbPointer}
use Rattle.bson_model.specs.declared.regexes.Regex.{Regex}
use Rattle.bson_model.specs.declared.times.DateTime.{DateTime}
use Rattle.bson_model.specs.declared.times.Timestamp.{Timestamp}
use Rattle.bson_model.proofs.Face.{same_subtype, Kinds, AllDecide, decided, along, joined}
use Rattle.raw_view.specs.Meaning.{RawValue, single, document, array, scoped}
use Rattle.raw_bson.specs.Owned.{owned_value, count_in, IsSameOwned}
use Rattle.raw_bson.specs.declared.array_buf.RawArrayBuf.{RawArrayBuf}
use Rattle.raw_bson.specs.declared.bson.RawBson.{RawBson}
use Rattle.raw_bson.specs.declared.bson.RawBson.TheVariants as own
use Rattle.raw_bson.specs.declared.bson.RawJavaScriptCodeWithScope.{RawJavaScriptCodeWithScope}
use Rattle.raw_bson.specs.declared.document_buf.RawDocumentBuf.{RawDocumentBuf}
use Rattle.raw_bson.specs.contracts.bson.RawBson as bson
use Rattle.raw_bson.specs.contracts.bson.RawBsonPartialEq.TheImpl as eqs

-- the derived `==`
abbrev equal : RawBson → RawBson → Bool
equal = eqs.ghosts.eq

-- what `==` compares: the value shown, and the count of an array
abbrev Shown : Type 0
Shown = RawValue × Option ℕ

-- what a value shows of that
abbrev shown : RawBson → Shown
shown x = (owned_value x, count_in x)

-- what a value shows that isn't an array
abbrev uncounted : RawValue → Shown
uncounted v = (v, None)

-- `==` of x and y decides whether they show the same
abbrev IsDecided : RawBson → RawBson → Type 0
IsDecided x y = Decides (equal x y) (shown x ≡ shown y)

-- What decides whether two values are equal decides whether they show the same, if they aren't arrays.
of_value : {v w : RawValue} {r : Bool} → Decides r (v ≡ w) → Decides r (uncounted v ≡ uncounted w)
of_value {r = r} d = along r r refl d (λ p. ap uncounted p) (λ q. ap (λ s. s.0) q)

-- the same of two values that hold no others
of_leaf : {l k : Leaf} {r : Bool} → Decides r (l ≡ k) → Decides r (uncounted (single l) ≡ uncounted (single k))
of_leaf {r = r} d = of_value (along r r refl d (λ p. ap single p) (λ q. cc))

-- the same of two values of one field each
of_field : {A : Type 0} {a b : A} {r : Bool} (leaf_of : A → Leaf) → (leaf_of a ≡ leaf_of b → a ≡ b) → Decides r (a ≡ b) → Decides r (uncounted (single (leaf_of a)) ≡ uncounted (single (leaf_of b)))
of_field {r = r} leaf_of back d = of_leaf (along r r refl d (λ p. ap leaf_of p) back)

-- `==` of two texts decides whether they have the same bytes
same_text : (a b : String Global) → Decides (string_eq a b) (string_bytes a ≡ string_bytes b)
same_text a b = bytes_eq-Decides (string_bytes a) (string_bytes b)

-- two doubles
same_double : (a b : DoubleBits) → IsDecided (own.Double a) (own.Double b)
same_double a b = of_field double (λ q. cc) (Decides-eqb a.0 b.0)

-- two strings
same_string : (a b : String Global) → IsDecided (own.String a) (own.String b)
same_string a b = of_field string (λ q. cc) (same_text a b)

-- two arrays, whose counts show too
same_array : (a b : RawArrayBuf) → IsDecided (own.Array a) (own.Array b)
same_array a b =
    joined _ _ (bytes_eq-Decides a.bytes b.bytes) (Decides-eqb a.count b.count)
    (λ p q i. (array (p i), Some (q i)))
    (λ r. let e : array a.bytes ≡ array b.bytes = ap (λ s. s.0) r in cc)
    (λ r. let e : Some a.count ≡ Some b.count = ap (λ s. s.1) r in cc)

-- two documents
same_document : (a b : RawDocumentBuf) → IsDecided (own.Document a) (own.Document b)
same_document a b = of_value (along _ _ refl (bytes_eq-Decides a b) (λ p. ap document p) (λ q. cc))

-- two booleans
same_boolean : (a b : Bool) → IsDecided (own.Boolean a) (own.Boolean b)
same_boolean a b = of_field boolean (λ q. cc) (booleans_Decides a b)

-- two regular expressions
same_regex : (a b : Regex) → IsDecided (own.RegularExpression a) (own.RegularExpression b)
same_regex a b = of_leaf (joined _ _ (same_text a.pattern b.pattern) (same_text a.options b.options) (λ p q i. regular_expression (p i) (q i)) (λ r. cc) (λ r. cc))

-- two codes
same_javascript : (a b : String Global) → IsDecided (own.JavaScriptCode a) (own.JavaScriptCode b)
same_javascript a b = of_field javascript_code (λ q. cc) (same_text a b)

-- two codes with scope
same_scoped : (a b : RawJavaScriptCodeWithScope) → IsDecided (own.JavaScriptCodeWithScope a) (own.JavaScriptCodeWithScope b)
same_scoped a b = of_value (joined _ _ (same_text a.code b.code) (bytes_eq-Decides a.scope b.scope) (λ p q i. scoped (p i) (q i)) (λ r. cc) (λ r. cc))

-- two numbers of 32 bits
same_int32 : (a b : ℤ) → IsDecided (own.Int32 a) (own.Int32 b)
same_int32 a b = of_field int32 (λ q. cc) (Decides-int_eq a b)

-- two numbers of 64 bits
same_int64 : (a b : ℤ) → IsDecided (own.Int64 a) (own.Int64 b)
same_int64 a b = of_field int64 (λ q. cc) (Decides-int_eq a b)

-- two timestamps
same_timestamp : (a b : Timestamp) → IsDecided (own.Timestamp a) (own.Timestamp b)
same_timestamp a b = of_leaf (joined _ _ (Decides-eqb a.time b.time) (Decides-eqb a.increment b.increment) (λ p q i. timestamp (p i) (q i)) (λ r. cc) (λ r. cc))

-- two values of bytes with a subtype
same_binary : (a b : Binary) → IsDecided (own.Binary a) (own.Binary b)
same_binary a b = of_leaf (joined _ _ (same_subtype a.subtype b.subtype) (bytes_eq-Decides a.bytes.items b.bytes.items) (λ p q i. binary (p i) (q i)) (λ r. cc) (λ r. cc))

-- two ObjectIds
same_object_id : (a b : ObjectId) → IsDecided (own.ObjectId a) (own.ObjectId b)
same_object_id a b = of_field object_id (λ q. cc) (bytes_eq-Decides a.bytes b.bytes)

-- two times
same_date_time : (a b : DateTime) → IsDecided (own.DateTime a) (own.DateTime b)
same_date_time a b = of_field date_time (λ q. cc) (Decides-int_eq a.millis b.millis)

-- two symbols
same_symbol : (a b : String Global) → IsDecided (own.Symbol a) (own.Symbol b)
same_symbol a b = of_field symbol (λ q. cc) (same_text a b)

-- two decimals
same_decimal128 : (a b : Decimal128) → IsDecided (own.Decimal128 a) (own.Decimal128 b)
same_decimal128 a b = of_field decimal128 (λ q. cc) (bytes_eq-Decides a.bytes b.bytes)

-- two pointers to objects
same_pointer : (a b : DbPointer) → IsDecided (own.DbPointer a) (own.DbPointer b)
same_pointer a b = of_leaf (joined _ _ (same_text a.namespace b.namespace) (bytes_eq-Decides a.id.bytes b.id.bytes) (λ p q i. db_pointer (p i) (q i)) (λ r. cc) (λ r. cc))

-- a test that always passes decides what always holds, as at two values of a variant without fields
pub always : {P : Type 0} → P → Decides true P
always p = (λ q. p, λ q. refl)

-- the place of a variant, from what its values show
abbrev pub leaf_place : Leaf → ℕ
leaf_place (double _) = 0
leaf_place (string _) = 1
leaf_place (boolean _) = 4
leaf_place null = 5
leaf_place (regular_expression _ _) = 6
leaf_place (javascript_code _) = 7
leaf_place (int32 _) = 9
leaf_place (int64 _) = 10
leaf_place (timestamp _ _) = 11
leaf_place (binary _ _) = 12
leaf_place (object_id _) = 13
leaf_place (date_time _) = 14
leaf_place (symbol _) = 15
leaf_place (decimal128 _) = 16
leaf_place undefined = 17
leaf_place max_key = 18
leaf_place min_key = 19
leaf_place (db_pointer _ _) = 20

-- the same, from the value shown
abbrev pub value_place : RawValue → ℕ
value_place (single l) = leaf_place l
value_place (array _) = 2
value_place (document _) = 3
value_place (scoped _ _) = 8

-- the same, from all that is shown
abbrev place : Shown → ℕ
place s = value_place s.0

-- a value from its variant and the fields
abbrev make : Choice bson.enum.parts → RawBson
make = bson.the_make

-- what it shows
abbrev shows : Choice bson.enum.parts → Shown
shows c = shown (make c)

-- each variant's values show its place, so values of two variants show different things
places : Kinds place bson.enum.parts 0 shows
places = (
  λ u. refl,
  (
    λ u. refl,
    (
      λ u. refl,
      (
        λ u. refl,
        (
          λ u. refl,
          (
            λ u. refl,
            (
              λ u. refl,
              (
                λ u. refl,
                (
                  λ u. refl,
                  (
                    λ u. refl,
                    (
                      λ u. refl,
                      (
                        λ u. refl,
                        (
                          λ u. refl,
                          (
                            λ u. refl,
                            (
                              λ u. refl,
                              (
                                λ u. refl,
                                (
                                  λ u. refl,
                                  (
                                    λ u. refl,
                                    (λ u. refl, (λ u. refl, (λ u. refl, tt))),
                                  ),
                                ),
                              ),
                            ),
                          ),
                        ),
                      ),
                    ),
                  ),
                ),
              ),
            ),
          ),
        ),
      ),
    ),
  ),
)

-- for each of some variants, `==` of two of its values
abbrev tests_of : (Fss : List (List Field)) → (Choice Fss → RawBson) → Each Bool Fss
tests_of [] made = tt
tests_of (Fs ∷ Fss) made = (λ u v. equal (made (inl u)) (made (inl v)), tests_of Fss (λ c. made (inr c)))

-- of all 21 variants
abbrev tests : Each Bool bson.enum.parts
tests = tests_of bson.enum.parts make

-- one variant, and those after it
infixr 20 ◌▹◌
pub ◌▹◌ : {A B : Type 0} → A → B → A × B
a ▹ b = (a, b)

-- within each variant `==` decides whether two values show the same
all_decide : AllDecide place bson.enum.parts tests shows (λ c. Unit {0})
all_decide =
    (λ u v s. same_double u.0 v.0) ▹
    (λ u v s. same_string u.0 v.0) ▹
    (λ u v s. same_array u.0 v.0) ▹
    (λ u v s. same_document u.0 v.0) ▹
    (λ u v s. same_boolean u.0 v.0) ▹
    (λ u v s. always refl) ▹
    (λ u v s. same_regex u.0 v.0) ▹
    (λ u v s. same_javascript u.0 v.0) ▹
    (λ u v s. same_scoped u.0 v.0) ▹
    (λ u v s. same_int32 u.0 v.0) ▹
    (λ u v s. same_int64 u.0 v.0) ▹
    (λ u v s. same_timestamp u.0 v.0) ▹
    (λ u v s. same_binary u.0 v.0) ▹
    (λ u v s. same_object_id u.0 v.0) ▹
    (λ u v s. same_date_time u.0 v.0) ▹
    (λ u v s. same_symbol u.0 v.0) ▹
    (λ u v s. same_decimal128 u.0 v.0) ▹
    (λ u v s. always refl) ▹
    (λ u v s. always refl) ▹
    (λ u v s. always refl) ▹
    (λ u v s. same_pointer u.0 v.0) ▹
    tt

-- `==` is false of two variants, and of one variant it is that variant's test
by_variants : (c d : Choice bson.enum.parts) → equal (make c) (make d) ≡ by false false bson.enum.parts tests c d
by_variants c d = λ i. by false false bson.enum.parts tests (bson.the_beta c i) (bson.the_beta d i)

-- so `==` decides it of values that are made of a variant and its fields
same_made : (c d : Choice bson.enum.parts) → IsDecided (make c) (make d)
same_made c d = rw (by_variants c d) (decided place bson.enum.parts 0 tests shows (λ c. Unit {0}) places all_decide c d tt)

-- and every value is made so
same_shown : (x y : RawBson) → IsDecided x y
same_shown x y =
    subst (λ z. IsDecided z y) (bson.the_eta x) (subst (λ z. IsDecided (make (bson.as_values x)) z) (bson.the_eta y) (same_made (bson.as_values x) (bson.as_values y)))

-- `==` of two values decides whether they are of one variant with the same fields
pub same_value : (x y : RawBson) → Decides (equal x y) (IsSameOwned x y)
same_value x y = along _ _ refl (same_shown x y) (λ p. (ap (λ s. s.0) (sym p), ap (λ s. s.1) (sym p))) (λ q i. (sym q.0 i, sym q.1 i))
