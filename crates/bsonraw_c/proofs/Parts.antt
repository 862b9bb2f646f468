-- Where the parts of a value are in its payload.
use Rattle.std.proofs.Common.{◌≡◌, ◌≢◌, ◌+◌, Bool, true, false, cond, ℕ, pos, List, [], ◌∷◌, ◌++◌, length, ap, sym, ◌∙◌, refl, arith, append_assoc, append-nil, length-append, inl, inr, subst}
use Rattle.std.proofs.Math.Dec.{eqb, ltb}
use Rattle.std.proofs.lemmas.Bool.{eqb-true}
use Rattle.raw_bson.specs.Leaf.{string, binary, object_id, regular_expression, db_pointer, javascript_code, symbol, decimal128}
use Rattle.raw_bson.specs.ElementType.{ElementType}
use Rattle.raw_bson.specs.ElementType.TheVariants as kind
use Rattle.raw_bson.specs.Format.{string_payload}
use Rattle.raw_bson.specs.Frame.{IsString, IsBinary, IsRegex, IsDbPointer}
use Rattle.raw_bson.specs.Meaning.{IsBinaryValue, IsCodeWithScope, MeansValue, RawValue, array, document, scoped, single}
use Rattle.raw_bson.specs.Number.{le32}
use Rattle.raw_bson.specs.Subtype.{subtype_byte, subtype_of}
use Rattle.raw_bson.specs.BinarySubtype.{BinarySubtype}
use Rattle.raw_bson.specs.BinarySubtype.TheVariants.{BinaryOld, Reserved, UserDefined}
use Rattle.bsonraw_c.specs.Places.{StandsAt}
use Rattle.bsonraw_c.specs.Values.{binary_head}

-- the parts of this value, where they are in its payload p, and where they end
abbrev pub HasPartsAt : RawValue → List ℕ → Type 0
HasPartsAt (single (string text)) p = StandsAt p 4 (length text) text
HasPartsAt (single (binary subtype bytes)) p =
    StandsAt p (binary_head (subtype_byte subtype)) (length bytes) bytes × (length p ≡ binary_head (subtype_byte subtype) + length bytes)
HasPartsAt (single (object_id id)) p = id ≡ p
HasPartsAt (single (regular_expression pattern options)) p = StandsAt p 0 (length pattern) pattern × StandsAt p (length pattern + 1) (length options) options
HasPartsAt (single (db_pointer namespace id)) p =
    StandsAt p 4 (length namespace) namespace × StandsAt p (length namespace + 5) (length id) id
    × (length p ≡ length namespace + 17) × (length id ≡ 12)
HasPartsAt (single (javascript_code text)) p = StandsAt p 4 (length text) text
HasPartsAt (single (symbol text)) p = StandsAt p 4 (length text) text
HasPartsAt (single (decimal128 bytes)) p = bytes ≡ p
HasPartsAt (document d) p = d ≡ p
HasPartsAt (array d) p = d ≡ p
HasPartsAt (scoped code scope) p =
    StandsAt p 8 (length code) code × StandsAt p (length code + 9) (length scope) scope × (length p ≡ length code + 9 + length scope)
HasPartsAt _ p = Unit {0}

text_there : (p text : List ℕ) → IsString p text → StandsAt p 4 (length text) text
text_there p text s = record { before = le32 (pos (length text + 1)); behind = 0 ∷ []; whole = s.spelled; offset_is = refl; len_is = refl }

-- the last bytes of others
last_there : (p front bytes : List ℕ) (at : ℕ) → p ≡ front ++ bytes → at ≡ length front → StandsAt p at (length bytes) bytes
last_there p front bytes at e at_is = record { before = front; behind = []; whole = e ∙ ap (λ (x : List ℕ). front ++ x) (sym (append-nil bytes)); offset_is = at_is; len_is = refl }

-- the head of a binary that isn't an old one
abbrev head_of : BinarySubtype → ℕ
head_of subtype = binary_head (subtype_byte subtype)

plain_or : (b : Bool) (named rest : BinarySubtype) → head_of named ≡ 5 → head_of rest ≡ 5 → head_of (cond b named rest) ≡ 5
plain_or true named rest is others = is
plain_or false named rest is others = others

not_old : (byte : ℕ) → byte ≢ 2 → (rest : BinarySubtype) → head_of rest ≡ 5 → head_of (cond (eqb byte 2) BinaryOld rest) ≡ 5
not_old byte other rest others =
    elim (eqb byte 2) as (λ b. eqb byte 2 ≡ b → head_of (cond b BinaryOld rest) ≡ 5) [
      | true ↦ λ e. absurd (other (eqb-true byte 2 e))
      | false ↦ λ e. others
    ] refl

plain_head : (byte : ℕ) → byte ≢ 2 → head_of (subtype_of byte) ≡ 5
plain_head byte other =
    let five : binary_head byte ≡ 5 = grind arith in
    let unnamed = plain_or (ltb byte 128) (Reserved byte) (UserDefined byte) five five in
    let late = plain_or (eqb byte 6) _ _ refl (plain_or (eqb byte 7) _ _ refl (plain_or (eqb byte 8) _ _ refl (plain_or (eqb byte 9) _ _ refl unnamed))) in
    plain_or (eqb byte 0) _ _ refl (plain_or (eqb byte 1) _ _ refl (not_old byte other _ (plain_or (eqb byte 3) _ _ refl (plain_or (eqb byte 4) _ _ refl (plain_or (eqb byte 5) _ _ refl late)))))

binary_there : (p : List ℕ) (subtype : ℕ) (bytes : List ℕ) (v : RawValue) → IsBinary p subtype bytes → IsBinaryValue subtype bytes v → HasPartsAt v p
binary_there p subtype bytes v b (inl plain) =
    let head = plain_head subtype plain.0 in
    let size : length p ≡ 5 + length bytes = omega (arith, ap length b.spelled) in
    subst (λ (x : RawValue). HasPartsAt x p) (sym plain.1) (last_there p (le32 (pos (length bytes)) ++ subtype ∷ []) bytes _ b.spelled head, size ∙ ap (λ (n : ℕ). n + length bytes) (sym head))
binary_there p subtype bytes v b (inr old) =
    let inner = old.1 in
    let whole : p ≡ (le32 (pos (length bytes)) ++ subtype ∷ le32 (pos (length inner))) ++ inner = b.spelled ∙ ap (λ (x : List ℕ). le32 (pos (length bytes)) ++ subtype ∷ x) old.2.spelled in
    subst (λ (x : RawValue). HasPartsAt x p) (sym old.3) (last_there p (le32 (pos (length bytes)) ++ subtype ∷ le32 (pos (length inner))) inner 9 whole refl, omega (arith, ap length whole))

regex_there : (p pattern options : List ℕ) → IsRegex p pattern options → HasPartsAt (single (regular_expression pattern options)) p
regex_there p pattern options r = (
  record { before = []; behind = 0 ∷ (options ++ 0 ∷ []); whole = r.spelled; offset_is = refl; len_is = refl },
  record { before = pattern ++ 0 ∷ []; behind = 0 ∷ []; whole = r.spelled ∙ sym (append_assoc pattern (0 ∷ []) (options ++ 0 ∷ [])); offset_is = sym (length-append pattern (0 ∷ [])); len_is = refl },
)

pointer_there : (p namespace id : List ℕ) → IsDbPointer p namespace id → HasPartsAt (single (db_pointer namespace id)) p
pointer_there p namespace id d =
    let head : length (string_payload namespace) ≡ length namespace + 5 = omega (arith, length-append namespace (0 ∷ [])) in
    let size : length p ≡ length namespace + 17 = omega (arith, ap length d.spelled, length-append (string_payload namespace) id, head, d.id_len) in
    let text : StandsAt p 4 (length namespace) namespace =
    record {
      before = le32 (pos (length namespace + 1));
      behind = 0 ∷ id;
      whole = d.spelled ∙ ap (λ (x : List ℕ). le32 (pos (length namespace + 1)) ++ x) (append_assoc namespace (0 ∷ []) id);
      offset_is = refl;
      len_is = refl;
    }
    in
    (text, last_there p (string_payload namespace) id _ d.spelled (sym head), size, d.id_len)

scoped_there : (p code scope : List ℕ) → IsCodeWithScope p code scope → HasPartsAt (scoped code scope) p
scoped_there p code scope c =
    let head = le32 (pos (4 + length (string_payload code ++ scope))) in
    let front : length (head ++ string_payload code) ≡ length code + 9 = omega (arith, length-append code (0 ∷ [])) in
    let whole : p ≡ (head ++ string_payload code) ++ scope = c.spelled ∙ sym (append_assoc head (string_payload code) scope) in
    let size : length p ≡ length code + 9 + length scope = omega (arith, ap length whole, length-append (head ++ string_payload code) scope, front) in
    let text : StandsAt p 8 (length code) code = record {
      before = head ++ le32 (pos (length code + 1));
      behind = 0 ∷ scope;
      whole = c.spelled ∙ ap (λ (x : List ℕ). head ++ (le32 (pos (length code + 1)) ++ x)) (append_assoc code (0 ∷ []) scope);
      offset_is = refl;
      len_is =
          refl;
    } in
    (text, last_there p (head ++ string_payload code) scope _ whole (sym front), size)

said : (p : List ℕ) (v w : RawValue) → v ≡ w → HasPartsAt w p → HasPartsAt v p
said p v w e h = subst (λ (x : RawValue). HasPartsAt x p) (sym e) h

-- the parts of what a payload means
pub parts_there : (k : ElementType) (p : List ℕ) (v : RawValue) → MeansValue k p v → HasPartsAt v p
parts_there kind.Double p v m = said p v _ m.2 tt
parts_there kind.String p v m = said p v _ m.2 (text_there p m.0 m.1.0)
parts_there kind.EmbeddedDocument p v m = said p v _ m refl
parts_there kind.Array p v m = said p v _ m refl
parts_there kind.Binary p v m = binary_there p m.0 m.1 v m.2 m.3
parts_there kind.Undefined p v m = said p v _ m tt
parts_there kind.ObjectId p v m = said p v _ m refl
parts_there kind.Boolean p v m = said p v _ m.2 tt
parts_there kind.DateTime p v m = said p v _ m.2 tt
parts_there kind.Null p v m = said p v _ m tt
parts_there kind.RegularExpression p v m = said p v _ m.3 (regex_there p m.0 m.1 m.2)
parts_there kind.DbPointer p v m = said p v _ m.4 (pointer_there p m.0 m.1 m.2)
parts_there kind.JavaScriptCode p v m = said p v _ m.2 (text_there p m.0 m.1.0)
parts_there kind.Symbol p v m = said p v _ m.2 (text_there p m.0 m.1.0)
parts_there kind.JavaScriptCodeWithScope p v m = said p v _ m.5 (scoped_there p m.0 m.1 m.2)
parts_there kind.Int32 p v m = said p v _ m.2 tt
parts_there kind.Timestamp p v m = said p v _ m.3 tt
parts_there kind.Int64 p v m = said p v _ m.2 tt
parts_there kind.Decimal128 p v m = said p v _ m refl
parts_there kind.MaxKey p v m = said p v _ m tt
parts_there kind.MinKey p v m = said p v _ m tt
