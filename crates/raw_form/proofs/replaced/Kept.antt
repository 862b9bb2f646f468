-- What a frame means once its text is replaced: one value at most, of the frame's kind; and what its element takes.
use Rattle.std.proofs.Common.{◌≡◌, inl, inr, ◌∙◌, ◌≤◌, ◌<◌, ◌+◌, ◌++◌, ◌∷◌, [], ℕ, zero, suc, pos, List, Result, Ok, Err, IsErrAnd, IfErr, length, drop, take, w32, ap, arith, refl, sym, subst, length-append}
use Rattle.std.proofs.lemmas.Int.{fits_signed_from_abs, ints}
use Rattle.std.proofs.lemmas.List.{drop_at, same_from_push, take_at}
use Rattle.std.proofs.Math.Logic.{∥∥₁_elim}
use Rattle.std.proofs.Props.{props}
use Rattle.std.specs.Str.Lossy.{utf8_lossy}
use Rattle.bson_model.specs.Leaf.{Leaf, string, javascript_code, symbol, db_pointer}
use Rattle.raw_view.proofs.Face.{IsLe32-same, length-framed, length-scoped_payload}
use Rattle.raw_view.specs.Frame.Format.{element_of, scoped_payload, string_payload}
use Rattle.raw_view.specs.Frame.Envelope.{IsEnvelope}
use Rattle.raw_view.specs.Frame.Number.{IsLe32, le32, max_length}
use Rattle.raw_view.specs.Meaning as raw
use Rattle.raw_view.specs.declared.element.RawElement.{RawElement}
use Rattle.raw_view.specs.declared.element_type.ElementType.{ElementType}
use Rattle.raw_view.specs.declared.element_type.ElementType.TheVariants as kind
use Rattle.raw_view.specs.declared.level.Holder.TheVariants as holder
use Rattle.raw_tree.specs.Payload.{element_bytes}
use Rattle.raw_form.specs.Replacing.{Becomes, BecomesUpTo, HasBadText, IsValueWith, MeansKept, string_at}
use Rattle.raw_view.specs.Meaning.{KeyedFault}
use Rattle.raw_form.specs.ReplacingSteps.{Exceeds, ExceedsFor}
use Rattle.raw_form.proofs.canonical.Common.{Error, FailsFor, Frame, Holder, Means, RawValue, faulty, frame_of, held_opening, holding, kind_of_raw, one_meaning, one_value_of, payload_of, value, value_spelled}
use Rattle.raw_form.proofs.texts.Bad.{bad_parts, no_value_is_bad}

-- one text

le32_of : (n : ℕ) → n ≤ max_length → IsLe32 (le32 (pos n)) (pos n)
le32_of n l = record { fits = fits_signed_from_abs w32 (pos n) (omega arith); bytes_are = refl }

-- at most one string is at the front of bytes
one_string : (s x r y q : List ℕ) → length x < max_length → length y < max_length → s ≡ string_payload x ++ r → s ≡ string_payload y ++ q → (x ≡ y) × (r ≡ q)
one_string s x r y q fits also a b =
    let heads : le32 (pos (length x + 1)) ≡ le32 (pos (length y + 1)) = sym (ap (take 4) a) ∙ ap (take 4) b in
    let long = le32_of (length x + 1) (omega (arith, fits)) in
    let other = le32_of (length y + 1) (omega (arith, also)) in
    let same : pos (length x + 1) ≡ pos (length y + 1) =
    IsLe32-same (le32 (pos (length x + 1))) (pos (length x + 1)) (pos (length y + 1)) long (subst (λ (four : List ℕ). IsLe32 four (pos (length y + 1))) (sym heads) other) in
    let len : length (y ++ 0 ∷ []) ≡ length (x ++ 0 ∷ []) = omega (arith, ints, same, length-append x (0 ∷ []), length-append y (0 ∷ [])) in
    let both : (x ++ 0 ∷ []) ++ r ≡ (y ++ 0 ∷ []) ++ q = sym (ap (drop 4) a) ∙ ap (drop 4) b in
    let n = length (x ++ 0 ∷ []) in
    let front : x ++ 0 ∷ [] ≡ y ++ 0 ∷ [] = sym (take_at (x ++ 0 ∷ []) r n refl) ∙ ap (take n) both ∙ take_at (y ++ 0 ∷ []) q n len in
    let back : r ≡ q = sym (drop_at (x ++ 0 ∷ []) r n refl) ∙ ap (drop n) both ∙ drop_at (y ++ 0 ∷ []) q n len in
    ((same_from_push x y 0 0 front).0, back)

-- a payload has at most one text that isn't UTF-8
one_bad : (k : ElementType) (p x r y q : List ℕ) → HasBadText k p x r → HasBadText k p y q → (x ≡ y) × (r ≡ q)
one_bad k p x r y q h g =
    let a = bad_parts k p x r h in
    let b = bad_parts k p y q g in
    one_string (string_at k p) x r y q a.1 b.1 a.2 b.2

-- one value

one_with : (k : ElementType) (text rest : List ℕ) (v w : RawValue) → IsValueWith k text rest v → IsValueWith k text rest w → v ≡ w
one_with kind.String text rest v w a b = a ∙ sym b
one_with kind.JavaScriptCode text rest v w a b = a ∙ sym b
one_with kind.Symbol text rest v w a b = a ∙ sym b
one_with kind.DbPointer text rest v w a b = a ∙ sym b
one_with kind.JavaScriptCodeWithScope text rest v w a b = a.1 ∙ sym b.1
one_with _ text rest v w a b = absurd a

pub one_kept : (f : Frame) (v w : RawValue) → MeansKept f v → MeansKept f w → v ≡ w
one_kept f v w (inl a) (inl b) = one_value_of f v w a b
one_kept f v w (inl a) (inr (x, r, h, i)) = absurd (no_value_is_bad f v x r a h)
one_kept f v w (inr (x, r, h, i)) (inl b) = absurd (no_value_is_bad f w x r b h)
one_kept f v w (inr (x, r, h, i)) (inr (y, q, g, j)) =
    let same = one_bad f.kind f.payload x r y q h g in
    one_with f.kind (utf8_lossy x) r v w i (rw (same.0, same.1) j)

-- the value of a scope that isn't a document isn't kept
pub scope_kept : (f : Frame) (text rest : List ℕ) (v : RawValue) → HasBadText f.kind f.payload text rest → f.kind ≡ kind.JavaScriptCodeWithScope → MeansKept f v → IsEnvelope rest
scope_kept f text rest v bad is (inl means) = absurd (no_value_is_bad f v text rest means bad)
scope_kept f text rest v bad is (inr (x, r, h, i)) =
    let same = one_bad f.kind f.payload text rest x r bad h in
    rw same.1 (subst (λ (k : ElementType). IsValueWith k (utf8_lossy x) r v) is i).0

-- of a text that isn't UTF-8 the value holds a level only in a code with scope
pub scope_left : (k : ElementType) (p old text rest : List ℕ) → HasBadText k p old rest → ((v : RawValue) → IsValueWith k text rest v → k ≡ kind.JavaScriptCodeWithScope)
    → k ≡ kind.JavaScriptCodeWithScope
scope_left kind.String p old text rest bad none = none (raw.single (string text)) refl
scope_left kind.JavaScriptCode p old text rest bad none = none (raw.single (javascript_code text)) refl
scope_left kind.Symbol p old text rest bad none = none (raw.single (symbol text)) refl
scope_left kind.DbPointer p old text rest bad none = none (raw.single (db_pointer text rest)) refl
scope_left kind.JavaScriptCodeWithScope p old text rest bad none = refl
scope_left _ p old text rest bad none = absurd bad

-- elements

-- a value of an element is of its kind, and its payload is the element's
pub element_spelled : (e : RawElement) (v : RawValue) → Means (frame_of e) (value v) → (payload_of v ≡ (frame_of e).payload) × (kind_of_raw v ≡ (frame_of e).kind)
element_spelled e v means = ∥∥₁_elim e.framed (hlevel props) (λ s. value_spelled (frame_of e).kind (frame_of e).payload s.0 v s.1 means)

pub element_same : (e : RawElement) (v : RawValue) (old : List ℕ) → Means (frame_of e) (value v)
    → old ++ element_of (frame_of e).kind (frame_of e).key (frame_of e).payload ≡ old ++ element_bytes (frame_of e).key v
element_same e v old means = let spelled = element_spelled e v means in rw (spelled.0, spelled.1) refl

-- the level of a value and what it becomes
pub nested_of : (n : ℕ) (h : Holder) (d : List ℕ) (w : RawValue) → Becomes (BecomesUpTo n) (holding h d) w → (e : List ℕ) × BecomesUpTo n d e × (w ≡ holding h e)
nested_of n holder.Document d w b = b
nested_of n holder.Array d w b = b
nested_of n (holder.Code code) d w b = b

pub becomes_held : (n : ℕ) (h : Holder) (d e : List ℕ) → BecomesUpTo n d e → Becomes (BecomesUpTo n) (holding h d) (holding h e)
becomes_held n holder.Document d e b = (e, b, refl)
becomes_held n holder.Array d e b = (e, b, refl)
becomes_held n (holder.Code code) d e b = (e, b, refl)

-- what is nested has at least five bytes
five : (n : ℕ) (d e : List ℕ) → BecomesUpTo n d e → 5 ≤ length e
five zero d e b = absurd b
five (suc n) d e (inside, rest, is) = omega (arith, ap length is, length-framed inside)

held_len : (h : Holder) (key e : List ℕ) → 5 ≤ length e → 2 + length key + length (held_opening h) ≤ length (element_bytes key (holding h e))
held_len holder.Document key e some = omega (arith, some, length-append key (0 ∷ e))
held_len holder.Array key e some = omega (arith, some, length-append key (0 ∷ e))
held_len (holder.Code code) key e some =
    let opening : length (held_opening (holder.Code code)) ≡ 13 + length code.now = grind (arith, length-append) in
    omega (arith, some, opening, length-append key (0 ∷ scoped_payload code.now e), length-scoped_payload code.now e)

pub opening_within : (n : ℕ) (h : Holder) (key d : List ℕ) (w : RawValue) → Becomes (BecomesUpTo n) (holding h d) w → 2 + length key + length (held_opening h) ≤ length (element_bytes key w)
opening_within n h key d w b =
    let (e, nested, is) = nested_of n h d w b in
    subst (λ (x : RawValue). 2 + length key + length (held_opening h) ≤ length (element_bytes key x)) (sym is) (held_len h key e (five n d e nested))

-- too many bytes

pub fails_exceed : (m : ℕ) (e : Error) → FailsFor m e → Exceeds m e
fails_exceed m e (inl memory) = inl memory
fails_exceed m e (inr long) = inr long.0

module _ (f : Frame) (v : RawValue) (means : MeansKept f v) (m n : ℕ)
    (within : (levels : ℕ) (w : RawValue) → Becomes (BecomesUpTo levels) v w → m ≤ n + length (element_bytes f.key w)) where
  pub exceeds_for : {A : Type 0} (r : Result A Error) (e : Error) → IsErrAnd r (λ x. x ≡ e) → Exceeds m e → IfErr r (ExceedsFor f n)
  exceeds_for (Ok x) e same exceeds = tt
  exceeds_for (Err x) e same (inl memory) = rw same (inl memory)
  exceeds_for (Err x) e same (inr long) = inr (λ levels u w also becomes.
      let it : u ≡ v = one_kept f u v also means in
      omega (arith, long, within levels w (subst (λ (y : RawValue). Becomes (BecomesUpTo levels) y w) it becomes)))

-- a value that holds no level takes what it is
pub single_within : (key : List ℕ) (l : Leaf) (n levels : ℕ) (w : RawValue) → Becomes (BecomesUpTo levels) (raw.single l) w
    → n + length (element_bytes key (raw.single l)) ≤ n + length (element_bytes key w)
single_within key l n levels w is = rw is (omega arith)

-- this much, of an element that is put as it is
pub plain_within : (e : RawElement) (l : Leaf) → Means (frame_of e) (value (raw.single l)) → (n levels : ℕ) (w : RawValue) → Becomes (BecomesUpTo levels) (raw.single l) w
    → n + (2 + length (frame_of e).key + length (frame_of e).payload) ≤ n + length (element_bytes (frame_of e).key w)
plain_within e l means n levels w is =
    let spelled = element_spelled e (raw.single l) means in
    rw is (omega (arith, length-append (frame_of e).key (0 ∷ payload_of (raw.single l)), ap length spelled.0))

-- a text that isn't UTF-8, replaced

pub kept_with : (f : Frame) (old rest text : List ℕ) (v : RawValue) → HasBadText f.kind f.payload old rest → text ≡ utf8_lossy old → IsValueWith f.kind text rest v → MeansKept f v
kept_with f old rest text v bad is with = inr (old, rest, bad, subst (λ (t : List ℕ). IsValueWith f.kind t rest v) is with)

pub kept_scope : (f : Frame) (old rest text : List ℕ) → HasBadText f.kind f.payload old rest → text ≡ utf8_lossy old → f.kind ≡ kind.JavaScriptCodeWithScope → IsEnvelope rest
    → MeansKept f (raw.scoped text rest)
kept_scope f old rest text bad is scope envelope =
    kept_with f old rest text (raw.scoped text rest) bad is (subst (λ (k : ElementType). IsValueWith k text rest (raw.scoped text rest)) (sym scope) (envelope, refl))

-- another fault

pub not_kept : (f : Frame) (fault : KeyedFault) (v : RawValue) → Means f (faulty fault) → ((text rest : List ℕ) → ¬ HasBadText f.kind f.payload text rest) → MeansKept f v → ⊥
not_kept f fault v means none (inl value_is) = let same : value v ≡ faulty fault = one_meaning f (value v) (faulty fault) value_is means in cc
not_kept f fault v means none (inr (text, rest, bad, with)) = none text rest bad
