-- The payload of an element has the shape of its kind before any following bytes, unless it is a short code with scope.
use Rattle.std.proofs.Common.{◌≡◌, ◌≤◌, ◌<◌, ◌++◌, ◌∷◌, [], ◌∙◌, ℕ, List, length, ap, refl, inl, inr, arith, length-append}
use Rattle.std.proofs.Math.Logic.{∥∥₁_elim}
use Rattle.std.proofs.Props.{props}
use Rattle.std.proofs.lemmas.List.{take-append-le}
use Rattle.std.specs.Str.{IsUtf8}
use Rattle.bson_model.specs.Bytes.{NulFree}
use Rattle.raw_view.specs.Frame.{Frame, HasShape, HasPayload, HasDeclaredLength, IsRegex, IsShortScope, StandsAnywhere}
use Rattle.raw_view.specs.declared.element_type.ElementType.{ElementType}
use Rattle.raw_view.specs.declared.element_type.ElementType.TheVariants as kind
use Rattle.raw_view.proofs.Bytes.DecidedTexts.{front_text_or_not, no_front_text}
use Rattle.raw_view.proofs.Frames.Shapes.{text_had, binary_had, pointer_had, document_had, scoped_had, double_had, object_id_had, boolean_had, int32_had, decimal128_had, regex_ends, whole}
use Rattle.raw_view.proofs.Bytes.Texts.{options_of}

-- no byte
none_had : (p : List ℕ) → ∥ HasPayload kind.Null p ∥₁ → length p ≡ 0
none_had p h = ∥∥₁_elim h (hlevel props) (λ t. t.1)

-- the texts of a regular expression
regex_had : (p : List ℕ) → ∥ HasPayload kind.RegularExpression p ∥₁ → (pattern options : List ℕ) × IsRegex p pattern options
regex_had p h =
    elim (front_text_or_not p) [
      | inl a ↦ elim (front_text_or_not a.1) [
        | inl b ↦
            let end : b.1 ≡ [] = regex_ends p a.0 a.1 b.0 b.1 h a.2 a.3 b.2 b.3 in
            let behind : a.1 ≡ b.0 ++ 0 ∷ [] = b.2 ∙ ap (λ z. b.0 ++ 0 ∷ z) end in (
              a.0,
              b.0,
              record {
                spelled = a.2 ∙ ap (λ z. a.0 ++ 0 ∷ z) behind;
                pattern_nul_free = a.3;
                pattern_text = a.4;
                options_nul_free = b.3;
                options_text = b.4;
              },
            )
        | inr none ↦ absurd (∥∥₁_elim h (hlevel props) (λ t. no_front_text a.1 t.1.1 [] (options_of p a.0 a.1 p [] a.2 a.3 (whole p) t.1) t.1.2.options_nul_free t.1.2.options_text none))
      ]
      | inr none ↦ absurd (∥∥₁_elim h (hlevel props) (λ t. no_front_text p t.1.0 (t.1.1 ++ 0 ∷ []) t.1.2.spelled t.1.2.pattern_nul_free t.1.2.pattern_text none))
    ]

-- a length that includes its own bytes is the same before any bytes
declared_had : (p r : List ℕ) → 4 ≤ length p → ∥ HasPayload kind.JavaScriptCodeWithScope p ∥₁ → HasDeclaredLength p r
declared_had p r four h = record {
  enough = omega (arith, length-append p r);
  header = rw (take-append-le 4 p r four) (scoped_had p four h);
}

shape_had : (k : ElementType) (p r : List ℕ) → (k ≡ kind.JavaScriptCodeWithScope → 4 ≤ length p) → ∥ HasPayload k p ∥₁ → HasShape k p r
shape_had kind.Double p r long h = double_had p h
shape_had kind.String p r long h = text_had p h
shape_had kind.EmbeddedDocument p r long h = document_had p h
shape_had kind.Array p r long h = document_had p h
shape_had kind.Binary p r long h = binary_had p h
shape_had kind.Undefined p r long h = none_had p h
shape_had kind.ObjectId p r long h = object_id_had p h
shape_had kind.Boolean p r long h = boolean_had p h
shape_had kind.DateTime p r long h = double_had p h
shape_had kind.Null p r long h = none_had p h
shape_had kind.RegularExpression p r long h = regex_had p h
shape_had kind.DbPointer p r long h = pointer_had p h
shape_had kind.JavaScriptCode p r long h = text_had p h
shape_had kind.Symbol p r long h = text_had p h
shape_had kind.JavaScriptCodeWithScope p r long h = declared_had p r (long refl) h
shape_had kind.Int32 p r long h = int32_had p h
shape_had kind.Timestamp p r long h = double_had p h
shape_had kind.Int64 p r long h = double_had p h
shape_had kind.Decimal128 p r long h = decimal128_had p h
shape_had kind.MaxKey p r long h = none_had p h
shape_had kind.MinKey p r long h = none_had p h

at_least_four : (n : ℕ) → ¬ (n < 4) → 4 ≤ n
at_least_four n other = omega (arith, other)

-- an element is one before any following bytes
pub stands_anywhere : (f : Frame) → NulFree f.key → IsUtf8 f.key → ∥ HasPayload f.kind f.payload ∥₁ → ¬ IsShortScope f → StandsAnywhere f
stands_anywhere f nul_free text h long r = record {
  spelled = refl;
  key_nul_free = nul_free;
  key_utf8 = text;
  payload_is = shape_had f.kind f.payload r (λ scoped. at_least_four (length f.payload) (λ short. long (scoped, short))) h;
}
