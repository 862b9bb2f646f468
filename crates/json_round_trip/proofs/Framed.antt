-- The values of frames: leaves in range that are read as they are, and nested bytes with an envelope.
use Rattle.std.proofs.Common.{◌≡◌, ◌<◌, ◌++◌, ◌∷◌, [], ℕ, pos, suc, List, length, inl, inr, arith, ap, refl, sym, subst, ◌∙◌, append_assoc, IsUtf8}
use Rattle.bson_model.proofs.Face.{AreBytes-back, AreBytes-front, IsProperSubtype-subtype_of, sorted_options-same, subtype_byte-subtype_of}
use Rattle.bson_model.specs.Bytes.{AreBytes}
use Rattle.bson_model.specs.Leaf.{Leaf, db_pointer, regular_expression}
use Rattle.bson_model.specs.Proper.{DoLeafOptionsAscend, IsLeafInRange, IsLeafNulFree, IsLeafSubtypeProper}
use Rattle.bson_model.specs.Subtype.{subtype_byte, subtype_of}
use Rattle.raw_view.specs.Frame.Format.{string_payload}
use Rattle.raw_view.specs.Frame.Kind.{tag_of}
use Rattle.raw_view.specs.Frame.Number.{le32}
use Rattle.raw_view.specs.Frame.{Frame, HasShape, IsBinary, IsDbPointer, IsFrame}
use Rattle.raw_view.specs.Frame.Envelope.{IsEnvelope}
use Rattle.raw_view.specs.Meaning.{HasInnerLength, IsBinaryValue, Means, MeansValue, RawValue, value}
use Rattle.raw_view.specs.Meaning as raw
use Rattle.raw_view.specs.declared.element_type.ElementType.{ElementType}
use Rattle.raw_view.specs.declared.element_type.ElementType.TheVariants as kind
use Rattle.raw_tree.specs.Reading.{Holds, leaf_in_order}

-- the payload of a frame is bytes if those with the frame are
payload_bytes : (s : List ℕ) (f : Frame) (r : List ℕ) → IsFrame s f r → AreBytes s → AreBytes f.payload
payload_bytes s f r b bytes =
    let head = tag_of f.kind ∷ (f.key ++ 0 ∷ []) in
    let whole : s ≡ head ++ (f.payload ++ r) = b.spelled ∙ ap (λ (x : List ℕ). tag_of f.kind ∷ x) (sym (append_assoc f.key (0 ∷ []) (f.payload ++ r))) in
    AreBytes-front f.payload r (AreBytes-back head (f.payload ++ r) (subst AreBytes whole bytes))

-- in range, with a subtype that its byte gives, the same after reading if its options ascend, and without a 0 in a C string
abbrev pub IsSound : Leaf → Type 0
IsSound l = IsLeafInRange l × IsLeafSubtypeProper l × (DoLeafOptionsAscend l → leaf_in_order l ≡ l) × IsLeafNulFree l

-- the only leaf of a value
as_leaf : (l m : Leaf) → raw.single l ≡ raw.single m → IsSound m → IsSound l
as_leaf l m e h = let same : m ≡ l = cc in subst IsSound same h

binary_sound : (p bytes : List ℕ) (subtype : ℕ) (l : Leaf) → AreBytes p → IsBinary p subtype bytes → IsBinaryValue subtype bytes (raw.single l) → IsSound l
binary_sound p bytes subtype l all b (inl plain) =
    let behind : AreBytes (subtype ∷ bytes) = AreBytes-back (le32 (pos (length bytes))) (subtype ∷ bytes) (subst AreBytes b.spelled all) in
    let byte : subtype_byte (subtype_of subtype) < 256 = omega (arith, subtype_byte-subtype_of subtype, behind 0) in
    as_leaf l _ plain.1 ((byte, λ i. behind (suc i)), IsProperSubtype-subtype_of subtype, (λ a. refl), tt)
binary_sound p bytes subtype l all b (inr old) =
    let behind : AreBytes (subtype ∷ bytes) = AreBytes-back (le32 (pos (length bytes))) (subtype ∷ bytes) (subst AreBytes b.spelled all) in
    let inside : AreBytes bytes = λ i. behind (suc i) in
    as_leaf l _ old.3 ((omega arith, AreBytes-back (le32 (pos (length old.1))) old.1 (subst AreBytes old.2.spelled inside)), refl, (λ a. refl), tt)

pointer_sound : (p namespace id : List ℕ) → AreBytes p → IsDbPointer p namespace id → IsUtf8 namespace → IsSound (db_pointer namespace id)
pointer_sound p namespace id all d text = ((text, (d.id_len, AreBytes-back (string_payload namespace) id (subst AreBytes d.spelled all))), tt, (λ a. refl), tt)

-- the leaf that a payload means
leaf_sound : (k : ElementType) (p r : List ℕ) (l : Leaf) → AreBytes p → HasShape k p r → MeansValue k p (raw.single l) → IsSound l
leaf_sound kind.Double p r l all x m = as_leaf l _ m.2 (m.1.fits, tt, (λ a. refl), tt)
leaf_sound kind.String p r l all x m = as_leaf l _ m.2 (m.1.1, tt, (λ a. refl), tt)
leaf_sound kind.EmbeddedDocument p r l all x m = cc
leaf_sound kind.Array p r l all x m = cc
leaf_sound kind.Binary p r l all x m = binary_sound p m.1 m.0 l all m.2 m.3
leaf_sound kind.Undefined p r l all x m = as_leaf l _ m (tt, tt, (λ a. refl), tt)
leaf_sound kind.ObjectId p r l all x m = as_leaf l _ m ((x, all), tt, (λ a. refl), tt)
leaf_sound kind.Boolean p r l all x m = as_leaf l _ m.2 (tt, tt, (λ a. refl), tt)
leaf_sound kind.DateTime p r l all x m = as_leaf l _ m.2 (m.1.fits, tt, (λ a. refl), tt)
leaf_sound kind.Null p r l all x m = as_leaf l _ m (tt, tt, (λ a. refl), tt)
leaf_sound kind.RegularExpression p r l all x m =
    as_leaf l _ m.3 ((m.2.pattern_text, m.2.options_text), tt, (λ a. ap (regular_expression m.0) (sorted_options-same m.1 m.2.options_text a)), (m.2.pattern_nul_free, m.2.options_nul_free))
leaf_sound kind.DbPointer p r l all x m = as_leaf l _ m.4 (pointer_sound p m.0 m.1 all m.2 m.3)
leaf_sound kind.JavaScriptCode p r l all x m = as_leaf l _ m.2 (m.1.1, tt, (λ a. refl), tt)
leaf_sound kind.Symbol p r l all x m = as_leaf l _ m.2 (m.1.1, tt, (λ a. refl), tt)
leaf_sound kind.JavaScriptCodeWithScope p r l all x m = let bad : raw.single l ≡ raw.scoped m.0 m.1 = m.5 in cc
leaf_sound kind.Int32 p r l all x m = as_leaf l _ m.2 (m.1.fits, tt, (λ a. refl), tt)
leaf_sound kind.Timestamp p r l all x m = as_leaf l _ m.3 ((m.2.time_fits, m.2.increment_fits), tt, (λ a. refl), tt)
leaf_sound kind.Int64 p r l all x m = as_leaf l _ m.2 (m.1.fits, tt, (λ a. refl), tt)
leaf_sound kind.Decimal128 p r l all x m = as_leaf l _ m ((x, all), tt, (λ a. refl), tt)
leaf_sound kind.MaxKey p r l all x m = as_leaf l _ m (tt, tt, (λ a. refl), tt)
leaf_sound kind.MinKey p r l all x m = as_leaf l _ m (tt, tt, (λ a. refl), tt)

-- a frame among bytes, and the value that it means
pub record IsFramed (f : Frame) (v : RawValue) : Type 0 where
  pub behind : List ℕ
  pub bytes : AreBytes f.payload
  pub shape : HasShape f.kind f.payload behind
  pub means : MeansValue f.kind f.payload v

pub framed : (s : List ℕ) (f : Frame) (r : List ℕ) (v : RawValue) → AreBytes s → IsFrame s f r → Means f (value v) → IsFramed f v
framed s f r v bytes b m = record { behind = r; bytes = payload_bytes s f r b bytes; shape = b.payload_is; means = m }

pub sound : (f : Frame) (l : Leaf) → IsFramed f (raw.single l) → IsSound l
sound f l h = leaf_sound f.kind f.payload h.behind l h.bytes h.shape h.means

-- nested bytes have an envelope

nested : (k : ElementType) (p r : List ℕ) (v : RawValue) (d : List ℕ) → HasShape k p r → MeansValue k p v → Holds v d → IsEnvelope d
nested k p r v d x m h = grind arith

pub enveloped : (f : Frame) (v : RawValue) (d : List ℕ) → IsFramed f v → Holds v d → IsEnvelope d
enveloped f v d h holds = nested f.kind f.payload h.behind v d h.shape h.means holds
