-- The shape of a framed payload, of which an element keeps only that there is one.
use Rattle.std.proofs.Common.{◌≡◌, ◌≤◌, ◌+◌, ◌-◌, ◌++◌, ◌∷◌, [], ℕ, pos, List, length, take, drop, get_or, arith, ap, sym, refl, ◌∙◌, subst, length-append}
use Rattle.std.proofs.Math.Logic.{∥∥₁_elim, ∥∥₁_map}
use Rattle.std.proofs.Math.Seq.{take-append_seam, take-length}
use Rattle.std.proofs.Props.{props}
use Rattle.std.specs.Str.{IsUtf8}
use Rattle.std.proofs.lemmas.Bool.Decides.{nat_tests}
use Rattle.std.proofs.lemmas.Grind.{common_steps}
use Rattle.std.proofs.lemmas.List.{append-nil, take_all, take_at, take-append-le, take-append-drop}
use Rattle.bson_model.specs.Subtype.{subtype_of}
use Rattle.bson_model.specs.declared.binaries.BinarySubtype.TheVariants.{BinaryOld}
use Rattle.raw_view.specs.Frame.Number.{le32, IsLe32}
use Rattle.raw_view.specs.Frame.Envelope.{IsEnvelope}
use Rattle.raw_view.specs.Frame.Format.{string_payload}
use Rattle.raw_view.specs.declared.error.ErrorKind.{ErrorKind}
use Rattle.raw_view.specs.declared.element_type.ElementType.TheVariants as kind
use Rattle.bson_model.specs.Bytes.{NulFree}
use Rattle.raw_view.specs.Frame.{HasText, IsString, IsBinary, IsDbPointer, HasPayload, Malformed}
use Rattle.raw_view.specs.declared.error.ErrorKind.TheVariants as what
use Rattle.raw_view.specs.declared.error.Reason.{Reason}
use Rattle.raw_view.specs.Errors.{IsMalformed, SaysFault}
use Rattle.raw_view.specs.Meaning.{SpellsNoText, IsCodeWithScope}
use Rattle.raw_view.specs.Frame.Front.{IsTextFault}
use Rattle.raw_view.proofs.Frames.Payloads.{counted_whole, string_is, string_found, string_front, string_length, binary_found, pointer_found}
use Rattle.raw_view.proofs.Bytes.Numbers.{le32_of, length_fits}
use Rattle.raw_view.proofs.Bytes.Cuts.{cut}
use Rattle.raw_view.proofs.Bytes.Texts.{pattern_fault_no_regex, options_fault_no_regex, options_of}

pub whole : (p : List ℕ) → p ≡ p ++ []
whole p = sym (append-nil p)

take_whole : (p : List ℕ) (n : ℕ) → n ≡ length p → take n p ≡ p
take_whole p n e = take_all n p (omega arith)

string_last : (p text : List ℕ) → IsString p text → get_or p (length p - 1) 0 ≡ 0
string_last p text s =
    let at : length p - 1 ≡ length text + 4 = omega (arith, string_length p text s) in
    rw at (string_front p p [] text (whole p) s).2

string_header : (p text : List ℕ) → IsString p text → IsLe32 (take 4 p) (pos (length p - 5 + 1))
string_header p text s =
    let n : length p - 5 ≡ length text = omega (arith, string_length p text s) in
    rw n (string_front p p [] text (whole p) s).0

pub text_had : (p : List ℕ) → ∥ HasPayload kind.String p ∥₁ → HasText p
text_had p h =
    let five : 5 ≤ length p = ∥∥₁_elim h (hlevel props) (λ t. omega (arith, string_length p t.1.0 t.1.1)) in
    let header : IsLe32 (take 4 p) (pos (length p - 5 + 1)) = ∥∥₁_elim h (hlevel props) (λ t. string_header p t.1.0 t.1.1) in
    let last : get_or p (length p - 1) 0 ≡ 0 = ∥∥₁_elim h (hlevel props) (λ t. string_last p t.1.0 t.1.1) in
    let at : length p - 5 + 4 ≡ length p - 1 = omega arith in
    let all : take (length p - 5 + 5) p ≡ p = take_whole p _ (omega arith) in
    subst HasText all (string_found p (length p - 5) header (omega arith) (rw at last))

-- the text of a string is what is between its length and its last byte
pub string_cut : (p text : List ℕ) → IsString p text → take (length p - 1 - 4) (drop 4 p) ≡ text
string_cut p text s =
    let n : length p - 1 - 4 ≡ length text = omega (arith, string_length p text s) in
    let behind : drop 4 p ≡ text ++ 0 ∷ [] = ap (drop 4) s.spelled in
    rw (n, behind) (take-append_seam text (0 ∷ []))

pub binary_header : (p : List ℕ) (subtype : ℕ) (bytes : List ℕ) → IsBinary p subtype bytes → (5 ≤ length p) × IsLe32 (take 4 p) (pos (length p - 5))
binary_header p subtype bytes b =
    let size : length p ≡ length bytes + 5 = omega (arith, ap length b.spelled) in
    let front : take 4 p ≡ le32 (pos (length bytes)) = ap (take 4) b.spelled in
    let n : length p - 5 ≡ length bytes = omega arith in
    (omega arith, rw (front, n) (le32_of (length bytes) b.fits))

pub binary_had : (p : List ℕ) → ∥ HasPayload kind.Binary p ∥₁ → (subtype : ℕ) × (bytes : List ℕ) × IsBinary p subtype bytes
binary_had p h =
    let five : 5 ≤ length p = ∥∥₁_elim h (hlevel props) (λ t. (binary_header p t.1.0 t.1.1 t.1.2).0) in
    let header : IsLe32 (take 4 p) (pos (length p - 5)) = ∥∥₁_elim h (hlevel props) (λ t. (binary_header p t.1.0 t.1.1 t.1.2).1) in
    let all : take (length p - 5 + 5) p ≡ p = take_whole p _ (omega arith) in
    subst (λ (x : List ℕ). (subtype : ℕ) × (bytes : List ℕ) × IsBinary x subtype bytes) all (binary_found p (length p - 5) header (omega arith))

pointer_text : (p namespace id : List ℕ) → IsDbPointer p namespace id → HasText (take (length p - 12) p)
pointer_text p namespace id d =
    let string : List ℕ = string_payload namespace in
    let n : length string ≡ length p - 12 = omega (arith, ap length d.spelled, length-append string id, d.id_len) in
    let front : take (length p - 12) p ≡ string = ap (take (length p - 12)) d.spelled ∙ take_at string id _ n in
    (namespace, rw front (string_is namespace d.fits))

pub pointer_len : (p namespace id : List ℕ) → IsDbPointer p namespace id → 12 ≤ length p
pointer_len p namespace id d = omega (arith, ap length d.spelled, length-append (string_payload namespace) id, d.id_len)

-- the subtype and the bytes of a binary follow its length
pub binary_cut : (p : List ℕ) (subtype : ℕ) (bytes : List ℕ) → IsBinary p subtype bytes → IsBinary p (get_or p 4 0) (take (length p - 5) (drop 5 p))
binary_cut p subtype bytes b =
    let n : length p - 5 ≡ length bytes = omega (arith, ap length b.spelled) in
    let at : get_or p 4 0 ≡ subtype = ap (λ (x : List ℕ). get_or x 4 0) b.spelled in
    let behind : drop 5 p ≡ bytes = ap (drop 5) b.spelled in
    rw (at, n, behind, take-length bytes) b

-- 2 is the byte of an old binary, and no other is
pub old_byte : (byte : ℕ) → subtype_of byte ≡ BinaryOld → byte ≡ 2
old_byte byte e = grind (arith, common_steps, nat_tests)

pub pointer_had : (p : List ℕ) → ∥ HasPayload kind.DbPointer p ∥₁ → (namespace id : List ℕ) × IsDbPointer p namespace id
pointer_had p h =
    let twelve : 12 ≤ length p = ∥∥₁_elim h (hlevel props) (λ t. pointer_len p t.1.0 t.1.1 t.1.2) in
    let text = text_had (take (length p - 12) p) (∥∥₁_map h (λ t. ([], pointer_text p t.1.0 t.1.1 t.1.2))) in
    let all : take (length p - 12 + 12) p ≡ p = take_whole p _ (omega arith) in
    subst (λ (x : List ℕ). (namespace id : List ℕ) × IsDbPointer x namespace id) all (pointer_found p (length p - 12) text (omega arith))

pub document_had : (p : List ℕ) → ∥ HasPayload kind.EmbeddedDocument p ∥₁ → IsEnvelope p
document_had p h = ∥∥₁_elim h (hlevel props) (λ t. t.1)

pub scoped_had : (p : List ℕ) → 4 ≤ length p → ∥ HasPayload kind.JavaScriptCodeWithScope p ∥₁ → IsLe32 (take 4 p) (pos (length p))
scoped_had p four h = ∥∥₁_elim h (hlevel props) (λ t. rw (take-append-le 4 p t.0 four) at t.1.header)

-- the size of a kind that has one, as the number that equals the payload's length
pub double_had : (p : List ℕ) → ∥ HasPayload kind.Double p ∥₁ → length p ≡ 8
double_had p h = ∥∥₁_elim h (hlevel props) (λ t. t.1)

pub object_id_had : (p : List ℕ) → ∥ HasPayload kind.ObjectId p ∥₁ → length p ≡ 12
object_id_had p h = ∥∥₁_elim h (hlevel props) (λ t. t.1)

pub boolean_had : (p : List ℕ) → ∥ HasPayload kind.Boolean p ∥₁ → length p ≡ 1
boolean_had p h = ∥∥₁_elim h (hlevel props) (λ t. t.1)

pub int32_had : (p : List ℕ) → ∥ HasPayload kind.Int32 p ∥₁ → length p ≡ 4
int32_had p h = ∥∥₁_elim h (hlevel props) (λ t. t.1)

pub decimal128_had : (p : List ℕ) → ∥ HasPayload kind.Decimal128 p ∥₁ → length p ≡ 16
decimal128_had p h = ∥∥₁_elim h (hlevel props) (λ t. t.1)

-- a regular expression has its texts
pub no_pattern_fault : (p : List ℕ) (fault : ErrorKind) → ∥ HasPayload kind.RegularExpression p ∥₁ → IsTextFault p fault → ⊥
no_pattern_fault p fault h f = ∥∥₁_elim h (hlevel props) (λ t. pattern_fault_no_regex p fault f p [] (whole p) t.1)

pub no_options_fault : (p text behind : List ℕ) (fault : ErrorKind) → ∥ HasPayload kind.RegularExpression p ∥₁ → p ≡ text ++ 0 ∷ behind → NulFree text → IsTextFault behind fault → ⊥
no_options_fault p text behind fault h e nul_free f = ∥∥₁_elim h (hlevel props) (λ t. options_fault_no_regex text behind fault e nul_free f p [] (whole p) t.1)

-- and nothing follows them
pub regex_ends : (p text behind options z : List ℕ) → ∥ HasPayload kind.RegularExpression p ∥₁ → p ≡ text ++ 0 ∷ behind → NulFree text → behind ≡ options ++ 0 ∷ z → NulFree options → z ≡ []
regex_ends p text behind options z h e nul_free d k =
    ∥∥₁_elim h (hlevel props) (λ t. (cut options t.1.1 z [] k t.1.2.options_nul_free (sym d ∙ options_of p text behind p [] e nul_free (whole p) t.1)).1)

-- the parts of values

pub pointer_no_text : (p string id : List ℕ) → p ≡ string ++ id → length id ≡ 12 → SpellsNoText string → (namespace id : List ℕ) × IsDbPointer p namespace id × ¬ IsUtf8 namespace
pointer_no_text p string id e l t = (t.0, id, record { fits = t.1.fits; id_len = l; spelled = e ∙ ap (λ x. x ++ id) t.1.spelled }, t.2)

pub scope_parts : (p string scope code : List ℕ) → IsLe32 (take 4 p) (pos (length p)) → drop 4 p ≡ string ++ scope → IsString string code → IsCodeWithScope p code scope
scope_parts p string scope code h e s = record {
  fits = length_fits (take 4 p) (length p) h;
  spelled = counted_whole p (string_payload code ++ scope) h (e ∙ ap (λ x. x ++ scope) s.spelled);
}

-- an error that is malformed for a reason says it
pub says_malformed : (P : Reason → Type 0) (k : ErrorKind) → IsMalformed k P → (why : Reason) × P why × SaysFault k (Malformed why)
says_malformed P (what.MalformedValue why) h = (why, h, refl)
says_malformed P (what.Utf8EncodingError u) h = absurd h
says_malformed P what.OutOfMemory h = absurd h

-- a cut at a place
pub cut_at : (s front back : List ℕ) (n : ℕ) → front ≡ take n s → back ≡ drop n s → s ≡ front ++ back
cut_at s front back n e d = rw (e, d) (sym (take-append-drop n s))
