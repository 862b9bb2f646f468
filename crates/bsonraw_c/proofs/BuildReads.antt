-- What was built is read as it was appended.
use Rattle.std.proofs.Common.{◌≡◌, ◌≤◌, ◌<◌, ◌+◌, inl, inr, ℕ, pos, Bool, true, false, cond, List, [], ◌∷◌, ◌++◌, length, take, get_or, ap, sym, ◌∙◌, refl, subst, arith, append_assoc, length-append}
use Rattle.std.proofs.lemmas.List.{get_or-append-add, get_or-take, get_or_past, length-take, take-append-le}
use Rattle.std.proofs.lemmas.Bool.{cases_lt}
use Rattle.std.specs.Prelude.{nat_eq}
use Rattle.raw_bson.specs.Append.{frame_bytes}
use Rattle.raw_bson.specs.Bytes.{AreBytes}
use Rattle.raw_bson.specs.ElementType.{ElementType}
use Rattle.raw_bson.specs.ElementType.TheVariants as kind
use Rattle.raw_bson.specs.Envelope.{IsEnvelope}
use Rattle.raw_bson.specs.Format.{inner_payload, plain_binary_payload, string_payload}
use Rattle.raw_bson.specs.Frame.{Done, Frame, HasDeclaredLength, HasShape, IsBinary, IsFrame, IsShortScope, IsWalk, StandsAnywhere}
use Rattle.raw_bson.specs.Kind.{tag_of}
use Rattle.raw_bson.specs.Number.{IsLe32, max_length}
use Rattle.raw_view.proofs.Face.{declared_shape}
use Rattle.bsonraw_c.specs.Build.{AreParts, AreRead, IsCText, IsElement, IsNested, binary_of, elements, laid_out, layout_of}
use Rattle.bsonraw_c.specs.declared.build.Builder.{Builder}

-- a bound holds where its contrary is false
pub cases_le : (n m : ℕ) → (m < n → ⊥) → n ≤ m
cases_le n m far = elim (cases_lt m n) [ inl less ↦ absurd (far less) | inr most ↦ most ]

-- bytes of the room

pub take_bytes : (n : ℕ) (room : List ℕ) → AreBytes room → AreBytes (take n room)
take_bytes n room bytes i =
    elim (cases_lt i n) [
      | inl less ↦ subst (λ (x : ℕ). x < 256) (sym (get_or-take n room i 0 less)) (bytes i)
      | inr most ↦ subst (λ (x : ℕ). x < 256) (sym (get_or_past (take n room) i 0 (omega (arith, most, length-take n room)))) (omega arith)
    ]

pub back_bytes : (front back whole : List ℕ) → whole ≡ front ++ back → AreBytes whole → AreBytes back
back_bytes front back whole is bytes i =
    subst (λ (x : ℕ). x < 256) (ap (λ (w : List ℕ). get_or w (length front + i) 0) is ∙ get_or-append-add front back i 0) (bytes (length front + i))

-- the shapes of parts

binary_shape : (subtype : ℕ) (bytes : List ℕ) → length (binary_of subtype bytes) ≤ max_length → (s : ℕ) × (inside : List ℕ) × IsBinary (binary_of subtype bytes) s inside
binary_shape subtype bytes fits = elim (nat_eq subtype 2) as
    (λ (b : Bool). length (cond b (plain_binary_payload 2 (inner_payload bytes)) (plain_binary_payload subtype bytes)) ≤ max_length
    → (s : ℕ) × (inside : List ℕ) × IsBinary (cond b (plain_binary_payload 2 (inner_payload bytes)) (plain_binary_payload subtype bytes)) s inside) [
      | true ↦ (λ l. (2, inner_payload bytes, record { fits = omega arith; spelled = refl }))
      | false ↦ (λ l. (subtype, bytes, record { fits = omega arith; spelled = refl }))
    ] fits

parts_shape : (k : ElementType) (one two r : List ℕ) → AreParts (layout_of k) one two → length (laid_out (layout_of k) one two) ≤ max_length → HasShape k (laid_out (layout_of k) one two) r
parts_shape kind.Double one two r good fits = good
parts_shape kind.String one two r good fits = (one, record { fits = omega (arith, length-append one (0 ∷ [])); spelled = refl })
parts_shape kind.EmbeddedDocument one two r good fits = good
parts_shape kind.Array one two r good fits = good
parts_shape kind.Binary one two r good fits = binary_shape (get_or two 0 0) one fits
parts_shape kind.Undefined one two r good fits = good
parts_shape kind.ObjectId one two r good fits = good
parts_shape kind.Boolean one two r (inl zero) fits = ap length zero
parts_shape kind.Boolean one two r (inr one_is) fits = ap length one_is
parts_shape kind.DateTime one two r good fits = good
parts_shape kind.Null one two r good fits = good
parts_shape kind.RegularExpression one two r good fits =
    (one, two, record { spelled = refl; pattern_nul_free = good.0.0; pattern_text = good.0.1; options_nul_free = good.1.0; options_text = good.1.1 })
parts_shape kind.DbPointer one two r good fits = (one, two, record { fits = omega (arith, length-append (string_payload one) two, length-append one (0 ∷ [])); id_len = good.0; spelled = refl })
parts_shape kind.JavaScriptCode one two r good fits = (one, record { fits = omega (arith, length-append one (0 ∷ [])); spelled = refl })
parts_shape kind.Symbol one two r good fits = (one, record { fits = omega (arith, length-append one (0 ∷ [])); spelled = refl })
parts_shape kind.JavaScriptCodeWithScope one two r good fits = declared_shape (string_payload one ++ two) r (omega (arith, fits))
parts_shape kind.Int32 one two r good fits = good
parts_shape kind.Timestamp one two r good fits = good
parts_shape kind.Int64 one two r good fits = good
parts_shape kind.Decimal128 one two r good fits = good
parts_shape kind.MaxKey one two r good fits = good
parts_shape kind.MinKey one two r good fits = good

nested_shape : (k : ElementType) (p r : List ℕ) → IsNested k → IsEnvelope p → HasShape k p r
nested_shape k p r (inl is) sound = subst (λ (x : ElementType). HasShape x p r) (sym is) sound
nested_shape k p r (inr is) sound = subst (λ (x : ElementType). HasShape x p r) (sym is) sound

-- a shape is one before any bytes, but that of a short code with scope
declared_before : (p r q : List ℕ) → 4 ≤ length p → HasDeclaredLength p r → HasDeclaredLength p q
declared_before p r q four had = record {
  enough = omega (arith, four, length-append p q);
  header = subst (λ (x : List ℕ). IsLe32 x (pos (length p))) (take-append-le 4 p r four ∙ sym (take-append-le 4 p q four)) had.header;
}

shape_before : (k : ElementType) (p r q : List ℕ) → (k ≡ kind.JavaScriptCodeWithScope → 4 ≤ length p) → HasShape k p r → HasShape k p q
shape_before kind.Double p r q long shape = shape
shape_before kind.String p r q long shape = shape
shape_before kind.EmbeddedDocument p r q long shape = shape
shape_before kind.Array p r q long shape = shape
shape_before kind.Binary p r q long shape = shape
shape_before kind.Undefined p r q long shape = shape
shape_before kind.ObjectId p r q long shape = shape
shape_before kind.Boolean p r q long shape = shape
shape_before kind.DateTime p r q long shape = shape
shape_before kind.Null p r q long shape = shape
shape_before kind.RegularExpression p r q long shape = shape
shape_before kind.DbPointer p r q long shape = shape
shape_before kind.JavaScriptCode p r q long shape = shape
shape_before kind.Symbol p r q long shape = shape
shape_before kind.JavaScriptCodeWithScope p r q long shape = declared_before p r q (long refl) shape
shape_before kind.Int32 p r q long shape = shape
shape_before kind.Timestamp p r q long shape = shape
shape_before kind.Int64 p r q long shape = shape
shape_before kind.Decimal128 p r q long shape = shape
shape_before kind.MaxKey p r q long shape = shape
shape_before kind.MinKey p r q long shape = shape

-- an element that was appended is read
pub element_read : (f : Frame) (b : Builder) (tag : ℕ) (key one two : List ℕ) → IsElement b tag key one two f → length (frame_bytes f) ≤ max_length → StandsAnywhere f
element_read f b tag key one two is fits r =
    let whole = laid_out (layout_of f.kind) one two in
    let few : length whole ≤ max_length = omega (arith, fits, ap length is.payload_is, length-append f.key (0 ∷ f.payload)) in
    record {
      spelled = refl;
      key_nul_free = is.c_text.0;
      key_utf8 = is.c_text.1;
      payload_is = subst (λ (p : List ℕ). HasShape f.kind p r) (sym is.payload_is) (parts_shape f.kind one two r is.parts few);
    }

-- and so is a level that was ended
pub level_read : (k : ElementType) (key p : List ℕ) → IsNested k → IsCText key → IsEnvelope p → (let f : Frame = record { kind = k; key = key; payload = p } in StandsAnywhere f)
level_read k key p nested text sound r = record { spelled = refl; key_nul_free = text.0; key_utf8 = text.1; payload_is = nested_shape k p r nested sound }

-- and an element that was read, under another key
pub copy_read : (f : Frame) (s r key : List ℕ) → IsFrame s f r → IsCText key → (let g : Frame = record f { key = key } in (¬ IsShortScope g) → StandsAnywhere g)
copy_read f s r key frame text long q = record {
  spelled = refl;
  key_nul_free = text.0;
  key_utf8 = text.1;
  payload_is = shape_before f.kind f.payload r q (λ scoped. cases_le 4 (length f.payload) (λ short. long (scoped, short))) frame.payload_is;
}

-- and so are elements, one after another
pub elements_read : (fs : List Frame) → AreRead fs → IsWalk (elements fs ++ 0 ∷ []) fs Done
elements_read [] read = refl
elements_read (f ∷ fs) read =
    let r = elements fs ++ 0 ∷ [] in
    let whole : (frame_bytes f ++ elements fs) ++ 0 ∷ [] ≡ tag_of f.kind ∷ (f.key ++ 0 ∷ (f.payload ++ r)) =
    append_assoc (frame_bytes f) (elements fs) (0 ∷ []) ∙ ap (λ (x : List ℕ). tag_of f.kind ∷ x) (append_assoc f.key (0 ∷ f.payload) r) in
    (r, subst (λ (s : List ℕ). IsFrame s f r) (sym whole) (read.0 r), elements_read fs read.1)
