-- Texts that aren't UTF-8: they are faults, and each payload has one at most.
use Rattle.std.proofs.Common.{◌≡◌, ◌≢◌, ◌∙◌, ◌≤◌, ◌<◌, ◌++◌, ◌∷◌, [], ℕ, List, length, drop, ap, arith, refl, sym, subst, length-append, append-nil}
use Rattle.raw_form.specs.Replacing.{HasBadText, string_at}
use Rattle.raw_view.specs.Frame.{Frame, Malformed, Utf8}
use Rattle.raw_view.specs.Frame.Format.{string_payload}
use Rattle.raw_view.specs.Frame.Number.{max_length}
use Rattle.raw_view.proofs.Face.{one_meaning}
use Rattle.raw_view.specs.Errors.{SaysFault}
use Rattle.raw_view.specs.Frame.Front.{TellsBorrowed}
use Rattle.raw_view.specs.Meaning.{KeyedFault, Means, MeansFault, RawValue, faulty, value, no_inner_length, overflow, wrong_inner_length, too_small, no_code, code_no_text, no_scope, not_text}
use Rattle.raw_view.specs.declared.element_type.ElementType.{ElementType}
use Rattle.raw_view.specs.declared.element_type.ElementType.TheVariants as kind
use Rattle.raw_view.specs.declared.error.BorrowedError.{BorrowedError}
use Rattle.raw_view.specs.declared.error.ErrorKind.{ErrorKind}
use Rattle.raw_view.specs.declared.error.ErrorKind.TheVariants as of
use Rattle.raw_view.specs.declared.error.Reason.{Reason}
use Rattle.std.specs.declared.str.Utf8Error.{Utf8Error}

-- such a text is a fault without a key
pub bad_is_fault : (k : ElementType) (key p text rest : List ℕ) → HasBadText k p text rest → MeansFault k key p not_text
bad_is_fault kind.String key p text rest h = ((text, h.0, h.1), refl)
bad_is_fault kind.JavaScriptCode key p text rest h = ((text, h.0, h.1), refl)
bad_is_fault kind.Symbol key p text rest h = ((text, h.0, h.1), refl)
bad_is_fault kind.DbPointer key p text rest h = (text, rest, h.0, h.1, refl)
bad_is_fault kind.JavaScriptCodeWithScope key p text rest h = code_no_text text rest h.2 h.0 h.1 refl
bad_is_fault _ key p text rest h = absurd h

-- other reasons are no texts
not_utf8 : (fault : KeyedFault) (why : Reason) → fault.fault ≡ Malformed why → fault.fault ≢ Utf8
not_utf8 fault why e u = let same : Malformed why ≡ Utf8 = sym e ∙ u in cc

-- a fault of a text is one of these
pub fault_is_bad : (k : ElementType) (key p : List ℕ) (fault : KeyedFault) → MeansFault k key p fault → fault.fault ≡ Utf8 → (text rest : List ℕ) × HasBadText k p text rest
fault_is_bad kind.String key p fault h u = (h.0.0, [], (h.0.1, h.0.2, refl))
fault_is_bad kind.JavaScriptCode key p fault h u = (h.0.0, [], (h.0.1, h.0.2, refl))
fault_is_bad kind.Symbol key p fault h u = (h.0.0, [], (h.0.1, h.0.2, refl))
fault_is_bad kind.DbPointer key p fault h u = (h.0, h.1, (h.2, h.3))
fault_is_bad kind.Boolean key p fault h u = absurd (not_utf8 fault _ (ap (λ (x : KeyedFault). x.fault) h.3) u)
fault_is_bad kind.Binary key p fault h u = absurd (elim h.2 [
  | no_inner_length l e ↦ not_utf8 fault _ (ap (λ (x : KeyedFault). x.fault) e) u
  | overflow v l i o e ↦ not_utf8 fault _ (ap (λ (x : KeyedFault). x.fault) e) u
  | wrong_inner_length v l i o n e ↦ not_utf8 fault _ (ap (λ (x : KeyedFault). x.fault) e) u
])
fault_is_bad kind.JavaScriptCodeWithScope key p fault h u = elim h [
  | too_small l e ↦ absurd (not_utf8 fault _ (ap (λ (x : KeyedFault). x.fault) e) u)
  | no_code why l n r e ↦ absurd (not_utf8 fault _ (ap (λ (x : KeyedFault). x.fault) e) u)
  | code_no_text code scope l c n e ↦ (code, scope, (c, n, l))
  | no_scope code scope why l c t r e ↦ absurd (not_utf8 fault _ (ap (λ (x : KeyedFault). x.fault) e) u)
]
fault_is_bad _ key p fault h u = absurd h

-- the payload has at least four bytes, and its string is the text's, with the rest after it
pub bad_parts : (k : ElementType) (p text rest : List ℕ) → HasBadText k p text rest → (4 ≤ length p) × (length text < max_length) × (string_at k p ≡ string_payload text ++ rest)
bad_parts kind.String p text rest h = (omega (arith, ap length h.0.spelled), h.0.fits, h.0.spelled ∙ rw h.2 (sym (append-nil (string_payload text))))
bad_parts kind.JavaScriptCode p text rest h = (omega (arith, ap length h.0.spelled), h.0.fits, h.0.spelled ∙ rw h.2 (sym (append-nil (string_payload text))))
bad_parts kind.Symbol p text rest h = (omega (arith, ap length h.0.spelled), h.0.fits, h.0.spelled ∙ rw h.2 (sym (append-nil (string_payload text))))
bad_parts kind.DbPointer p text rest h = (omega (arith, ap length h.0.spelled), h.0.fits, h.0.spelled)
bad_parts kind.JavaScriptCodeWithScope p text rest h = (
  omega (arith, ap length h.0.spelled),
  omega (arith, h.0.fits, ap length h.0.spelled, length-append (string_payload text) rest, length-append text (0 ∷ [])),
  ap (drop 4) h.0.spelled,
)
bad_parts _ p text rest h = absurd h

-- no value has one
pub no_value_is_bad : (f : Frame) (v : RawValue) (text rest : List ℕ) → Means f (value v) → HasBadText f.kind f.payload text rest → ⊥
no_value_is_bad f v text rest means bad =
    let same : value v ≡ faulty not_text = one_meaning f (value v) (faulty not_text) means (bad_is_fault f.kind f.key f.payload text rest bad) in
    cc

-- what is said of a fault of a text
said : (k : ErrorKind) → SaysFault k Utf8 → (why : Utf8Error) × (k ≡ of.Utf8EncodingError why)
said (of.Utf8EncodingError why) says = (why, refl)
said (of.MalformedValue why) says = absurd (let same : Utf8 ≡ Malformed why = says in cc)
said of.OutOfMemory says = absurd says

pub kind_is_utf8 : (f : Frame) (e : BorrowedError) (fault : KeyedFault) (text rest : List ℕ) → Means f (faulty fault) → TellsBorrowed e fault → HasBadText f.kind f.payload text rest
    → (why : Utf8Error) × (e.kind ≡ of.Utf8EncodingError why)
kind_is_utf8 f e fault text rest means tells bad =
    let same : faulty fault ≡ faulty not_text = one_meaning f (faulty fault) (faulty not_text) means (bad_is_fault f.kind f.key f.payload text rest bad) in
    let it : fault ≡ not_text = cc in
    said e.kind (subst (λ (x : KeyedFault). SaysFault e.kind x.fault) it tells.says)

pub said_utf8 : (e : BorrowedError) (fault : KeyedFault) (why : Utf8Error) → TellsBorrowed e fault → e.kind ≡ of.Utf8EncodingError why → fault.fault ≡ Utf8
said_utf8 e fault why tells is = subst (λ (k : ErrorKind). SaysFault k fault.fault) is tells.says
