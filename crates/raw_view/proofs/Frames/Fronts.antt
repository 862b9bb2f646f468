-- A frame is determined by the bytes that begin with it; where none begins, the walk stops.
use Rattle.std.proofs.Common.{◌≡◌, ◌≢◌, ℕ, List, [], ◌∷◌, ◌++◌, ◌-◌, length, ap, sym, ◌∙◌, subst, refl, arith, Option, Some, None, ◌==◌, if◌then◌else◌, slice_get}
use Rattle.std.specs.Str.{IsUtf8}
use Rattle.raw_view.specs.declared.element_type.ElementType.{ElementType}
use Rattle.raw_view.specs.declared.element_type.ElementType.TheVariants as kind
use Rattle.raw_view.specs.declared.error.ErrorKind.{ErrorKind}
use Rattle.raw_view.specs.declared.error.ErrorKind.TheVariants as what
use Rattle.raw_view.specs.declared.error.Reason.TheVariants as reason
use Rattle.raw_view.specs.Frame.Kind.{tag_of}
use Rattle.bson_model.specs.Bytes.{NulFree}
use Rattle.raw_view.specs.Frame.{HasShape, HasNoFrame, IsStop, Malformed, key_not_utf8, no_such_tag, regex_not_utf8, no_payload}
use Rattle.raw_view.specs.Frame.Front.{StopsWith, IsTextFault, IsPayloadFault}
use Rattle.bson_model.proofs.Face.{NulFree-head, NulFree-tail}
use Rattle.raw_view.proofs.Bytes.Cuts.{cut}

abbrev pub kind_of : ℕ → Option ElementType
kind_of t =
    if t == 0x01 then Some kind.Double else
    if t == 0x02 then Some kind.String else
    if t == 0x03 then Some kind.EmbeddedDocument else
    if t == 0x04 then Some kind.Array else
    if t == 0x05 then Some kind.Binary else
    if t == 0x06 then Some kind.Undefined else
    if t == 0x07 then Some kind.ObjectId else
    if t == 0x08 then Some kind.Boolean else
    if t == 0x09 then Some kind.DateTime else
    if t == 0x0A then Some kind.Null else
    if t == 0x0B then Some kind.RegularExpression else
    if t == 0x0C then Some kind.DbPointer else
    if t == 0x0D then Some kind.JavaScriptCode else
    if t == 0x0E then Some kind.Symbol else
    if t == 0x0F then Some kind.JavaScriptCodeWithScope else
    if t == 0x10 then Some kind.Int32 else
    if t == 0x11 then Some kind.Timestamp else
    if t == 0x12 then Some kind.Int64 else
    if t == 0x13 then Some kind.Decimal128 else
    if t == 0x7F then Some kind.MaxKey else
    if t == 0xFF then Some kind.MinKey else None

pub kind_of-tag_of : (k : ElementType) → kind_of (tag_of k) ≡ Some k
kind_of-tag_of kind.Double = refl
kind_of-tag_of kind.String = refl
kind_of-tag_of kind.EmbeddedDocument = refl
kind_of-tag_of kind.Array = refl
kind_of-tag_of kind.Binary = refl
kind_of-tag_of kind.Undefined = refl
kind_of-tag_of kind.ObjectId = refl
kind_of-tag_of kind.Boolean = refl
kind_of-tag_of kind.DateTime = refl
kind_of-tag_of kind.Null = refl
kind_of-tag_of kind.RegularExpression = refl
kind_of-tag_of kind.DbPointer = refl
kind_of-tag_of kind.JavaScriptCode = refl
kind_of-tag_of kind.Symbol = refl
kind_of-tag_of kind.JavaScriptCodeWithScope = refl
kind_of-tag_of kind.Int32 = refl
kind_of-tag_of kind.Timestamp = refl
kind_of-tag_of kind.Int64 = refl
kind_of-tag_of kind.Decimal128 = refl
kind_of-tag_of kind.MaxKey = refl
kind_of-tag_of kind.MinKey = refl

-- two kinds with one tag are one
pub tag_of-same : (a b : ElementType) → tag_of a ≡ tag_of b → a ≡ b
tag_of-same a b e =
    let s : Some a ≡ Some b = sym (kind_of-tag_of a) ∙ ap kind_of e ∙ kind_of-tag_of b in
    cc

-- if no payload of the kind follows the key's 0, no frame is at the front
pub no_frame : (s : List ℕ) (tag : ℕ) (k z : List ℕ) (kind : ElementType) → s ≡ tag ∷ (k ++ 0 ∷ z) → NulFree k → tag ≡ tag_of kind
    → ((p r : List ℕ) → z ≡ p ++ r → HasShape kind p r → ⊥) → HasNoFrame s
no_frame s tag k z kind e h t none f r b =
    let both : tag ∷ (k ++ 0 ∷ z) ≡ tag_of f.kind ∷ (f.key ++ 0 ∷ (f.payload ++ r)) = sym e ∙ b.spelled in
    let tags : tag ≡ tag_of f.kind = cc in
    let behind : k ++ 0 ∷ z ≡ f.key ++ 0 ∷ (f.payload ++ r) = cc in
    let parts = cut k f.key z (f.payload ++ r) h b.key_nul_free behind in
    let same : f.kind ≡ kind = tag_of-same f.kind kind (sym tags ∙ t) in
    none f.payload r parts.1 (subst (λ (x : ElementType). HasShape x f.payload r) same b.payload_is)

-- the bytes after the tag contain a 0 if the whole ends with one
pub no_nul_ends : (tag : ℕ) (z : List ℕ) → NulFree z → slice_get (tag ∷ z) (length z) ≡ Some 0 → z ≡ []
no_nul_ends tag [] h e = refl
no_nul_ends tag (x ∷ []) h e = absurd (NulFree-head x [] h cc)
no_nul_ends tag (x ∷ y ∷ z) h e = let none : y ∷ z ≡ [] = no_nul_ends x (y ∷ z) (NulFree-tail x (y ∷ z) h) e in cc

-- if no text up to a 0 follows the tag, there is a text that isn't UTF-8
pub key_stop : (s : List ℕ) (tag : ℕ) (behind : List ℕ) (fault : ErrorKind) → s ≡ tag ∷ behind → behind ≢ [] → slice_get s (length s - 1) ≡ Some 0 → IsTextFault behind fault → StopsWith fault None s
key_stop s tag behind (what.MalformedValue why) e some last h =
    let at : length (tag ∷ behind) - 1 ≡ length behind = omega arith in
    absurd (some (no_nul_ends tag behind h.0 (rw at at (subst (λ (x : List ℕ). slice_get x (length x - 1) ≡ Some 0) e last))))
key_stop s tag behind (what.Utf8EncodingError error) e some last h =
    key_not_utf8 h.0 (record { tag = tag; behind = h.1; spelled = e ∙ ap (λ x. tag ∷ x) h.2; nul_free = h.3 }) h.4 refl refl
key_stop s tag behind what.OutOfMemory e some last h = h

-- a tag that is no kind's
pub tag_stop : (s : List ℕ) (tag : ℕ) (key behind : List ℕ) → s ≡ tag ∷ (key ++ 0 ∷ behind) → NulFree key → IsUtf8 key → ((kind : ElementType) → tag ≢ tag_of kind)
    → IsStop s (Malformed (reason.InvalidTag tag)) (Some key)
tag_stop s tag key behind e h u none = no_such_tag key (record { tag = tag; behind = behind; spelled = e; nul_free = h }) u none refl refl

-- a payload that isn't there
pub payload_stop : (s : List ℕ) (tag : ℕ) (key behind : List ℕ) (kind : ElementType) (fault : ErrorKind) → s ≡ tag ∷ (key ++ 0 ∷ behind) → NulFree key
    → IsUtf8 key → tag ≡ tag_of kind → ((p r : List ℕ) → behind ≡ p ++ r → HasShape kind p r → ⊥) → IsPayloadFault kind behind fault
    → StopsWith fault (Some key) s
payload_stop s tag key behind kind (what.MalformedValue why) e h u t none fault =
    no_payload key (record { tag = tag; behind = behind; spelled = e; nul_free = h }) kind why u t (no_frame s tag key behind kind e h t none) (λ bad. fault.0 (sym t ∙ bad.0, bad.1)) fault.1 refl refl
payload_stop s tag key behind kind (what.Utf8EncodingError error) e h u t none fault =
    regex_not_utf8 key (record { tag = tag; behind = behind; spelled = e; nul_free = h }) u (no_frame s tag key behind kind e h t none) (t ∙ fault.0, fault.1) refl refl
payload_stop s tag key behind kind what.OutOfMemory e h u t none fault = fault
