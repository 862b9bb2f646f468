-- What is at the front of bytes, by the length that they declare.
use Rattle.std.proofs.Common.{◌≡◌, ◌≢◌, ◌≤◌, ◌<◌, ◌+◌, ◌-◌, ◌++◌, ◌∷◌, [], ℕ, pos, zero, suc, List, length, take, drop, get_or, w32, arith, ap, sym, refl, ◌∙◌, append_assoc, length-append, length-drop, Some}
use Rattle.std.proofs.lemmas.List.{take_at, drop_at, take_all, take-take, take-append-drop, drop-take, take_more, drop_more, length-take, length-take-le, get_or-take, get_or-drop, take-append-le, get_or_at, get_or_append_left}
use Rattle.std.proofs.lemmas.Option.{slice_get-get_or, get_or_from_slice_get}
use Rattle.std.specs.Int.{to_le_bytes}
use Rattle.bson_model.specs.Bytes.{AreBytes}
use Rattle.bson_model.proofs.Face.{AreBytes-take}
use Rattle.raw_view.specs.Frame.Number.{max_length, le32, IsLe32, IsUnsigned32}
use Rattle.raw_view.specs.Frame.Envelope.{IsEnvelope}
use Rattle.raw_view.specs.Frame.Format.{string_payload, counted, framed, inside_of}
use Rattle.raw_view.specs.Frame.{HasText, IsString, IsBinary, IsDbPointer, HasDeclaredLength}
use Rattle.raw_view.specs.Meaning.{IsCodeWithScope, IsTimestamp}
use Rattle.raw_view.proofs.Bytes.Numbers.{le32_of, length_fits, IsLe32-length, IsLe32-same}

pub take_split : (a b : ℕ) (bs : List ℕ) → take (a + b) bs ≡ take a bs ++ take b (drop a bs)
take_split a b bs =
    let le : a ≤ a + b = omega arith in
    sym (take-append-drop a (take (a + b) bs)) ∙ ap (λ x. x ++ drop a (take (a + b) bs)) (take-take a (a + b) bs le) ∙ ap (λ x. take a bs ++ x) (drop-take a b bs)

-- bytes that begin with their length, which counts itself
pub counted_whole : (b rest : List ℕ) → IsLe32 (take 4 b) (pos (length b)) → drop 4 b ≡ rest → b ≡ counted rest
counted_whole b rest h e =
    let size : 4 + length rest ≡ length b = omega (arith, IsLe32-length (take 4 b) _ h, length-take 4 b, length-drop 4 b, ap length e) in
    let head : take 4 b ≡ le32 (pos (4 + length rest)) = h.bytes_are ∙ ap (λ (n : ℕ). le32 (pos n)) (sym size) in
    sym (take-append-drop 4 b) ∙ ap (λ x. take 4 b ++ x) e ∙ ap (λ x. x ++ rest) head

-- strings

-- the string of a text
pub string_is : (text : List ℕ) → length text < max_length → IsString (string_payload text) text
string_is text l = record { fits = l; spelled = refl }

pub string_found : (bs : List ℕ) (n : ℕ) → IsLe32 (take 4 bs) (pos (n + 1)) → n + 5 ≤ length bs → get_or bs (n + 4) 0 ≡ 0 → HasText (take (n + 5) bs)
string_found bs n h l z =
    let text : List ℕ = take n (drop 4 bs) in
    let size : n + 5 ≡ n + 4 + 1 = omega arith in
    let four : n + 4 ≡ 4 + n = omega arith in
    let within : n + 4 < length bs = omega arith in
    let len : length text ≡ n = length-take-le n (drop 4 bs) (omega (arith, length-drop 4 bs)) in
    let front : take (n + 4) bs ≡ take 4 bs ++ text = ap (λ (x : ℕ). take x bs) four ∙ take_split 4 n bs in
    let head : take 4 bs ≡ le32 (pos (length text + 1)) = rw len h.bytes_are in
    let ended : take (n + 5) bs ≡ (take 4 bs ++ text) ++ 0 ∷ [] =
    ap (λ (x : ℕ). take x bs) size ∙ take_more bs (n + 4) 0 within ∙ ap (λ x. take (n + 4) bs ++ x ∷ []) z ∙ ap (λ x. x ++ 0 ∷ []) front in (
      text,
      record {
        fits = omega (arith, len, length_fits (take 4 bs) (n + 1) h);
        spelled = ended ∙ append_assoc (take 4 bs) text (0 ∷ []) ∙ ap (λ x. x ++ (text ++ 0 ∷ [])) head;
      },
    )

-- the same for the declared length, which counts the 0
pub string_at : (bs : List ℕ) (n : ℕ) → IsLe32 (take 4 bs) (pos n) → n ≢ 0 → n + 4 ≤ length bs → get_or bs (n + 4 - 1) 0 ≡ 0 → HasText (take (n + 4) bs)
string_at bs zero h some l z = absurd (some refl)
string_at bs (suc n) h some l z =
    let one : suc n ≡ n + 1 = omega arith in
    let size : suc n + 4 ≡ n + 5 = omega arith in
    let place : suc n + 4 - 1 ≡ n + 4 = omega arith in
    rw size (string_found bs n (rw one at h) (omega arith) (rw place at z))

-- what a string at the front says of the bytes
pub string_front : (bs p r text : List ℕ) → bs ≡ p ++ r → IsString p text → IsLe32 (take 4 bs) (pos (length text + 1)) × (length text + 5 ≤ length bs) × (get_or bs (length text + 4) 0 ≡ 0)
string_front bs p r text e s =
    let head : List ℕ = le32 (pos (length text + 1)) in
    let whole : bs ≡ head ++ (text ++ 0 ∷ r) = e ∙ ap (λ x. x ++ r) s.spelled ∙ append_assoc head (text ++ 0 ∷ []) r ∙ ap (λ x. head ++ x) (append_assoc text (0 ∷ []) r) in
    let flat : bs ≡ (head ++ text) ++ 0 ∷ r = whole ∙ sym (append_assoc head text (0 ∷ r)) in
    let front : take 4 bs ≡ head = ap (take 4) whole in
    let len : length (head ++ text) ≡ length text + 4 = omega (arith, length-append head text) in (
      rw front (le32_of (length text + 1) (omega (arith, s.fits))),
      omega (arith, ap length flat, length-append (head ++ text) (0 ∷ r)),
      ap (λ (x : List ℕ). get_or x (length text + 4) 0) flat ∙ get_or_at (head ++ text) 0 r 0 (length text + 4) len,
    )

-- nested documents

pub document_found : (bs : List ℕ) (n : ℕ) → AreBytes bs → IsLe32 (take 4 bs) (pos n) → 5 ≤ n → n ≤ length bs → get_or bs (n - 1) 0 ≡ 0 → IsEnvelope (take n bs)
document_found bs n bytes h five l z =
    let len : length (take n bs) ≡ n = length-take-le n bs l in
    let front : take 4 (take n bs) ≡ take 4 bs = take-take 4 n bs (omega arith) in
    record {
      bytes = AreBytes-take n bs bytes;
      enough = omega arith;
      header = rw (front, len) h;
      ended = rw len (slice_get-get_or (take n bs) (n - 1) 0 (omega arith) ∙ ap Some (get_or-take n bs (n - 1) 0 (omega arith) ∙ z));
    }

pub document_front : (bs p r : List ℕ) → bs ≡ p ++ r → IsEnvelope p → (n : ℕ) × IsLe32 (take 4 bs) (pos n) × (5 ≤ n) × (n ≤ length bs) × (get_or bs (n - 1) 0 ≡ 0)
document_front bs p r e d =
    let enough : 4 ≤ length p = omega (arith, d.enough) in
    let front : take 4 bs ≡ take 4 p = ap (take 4) e ∙ take-append-le 4 p r enough in
    let at : length p - 1 < length p = omega (arith, d.enough) in
    let last : get_or p (length p - 1) 0 ≡ 0 = get_or_from_slice_get p (length p - 1) 0 0 d.ended in (
      length p,
      rw front d.header,
      d.enough,
      omega (arith, ap length e, length-append p r),
      ap (λ (x : List ℕ). get_or x (length p - 1) 0) e ∙ get_or_append_left p r 0 (length p - 1) at ∙ last,
    )

-- binaries

pub binary_found : (bs : List ℕ) (n : ℕ) → IsLe32 (take 4 bs) (pos n) → n + 5 ≤ length bs → (subtype : ℕ) × (bytes : List ℕ) × IsBinary (take (n + 5) bs) subtype bytes
binary_found bs n h l =
    let bytes : List ℕ = take n (drop 5 bs) in
    let size : n + 5 ≡ 4 + suc n = omega arith in
    let len : length bytes ≡ n = length-take-le n (drop 5 bs) (omega (arith, length-drop 5 bs)) in
    let behind : drop 4 bs ≡ get_or bs 4 0 ∷ drop 5 bs = drop_more bs 4 0 (omega arith) in
    let head : take 4 bs ≡ le32 (pos (length bytes)) = rw len h.bytes_are in (
      get_or bs 4 0,
      bytes,
      record {
        fits = omega (arith, len, length_fits (take 4 bs) n h);
        spelled = ap (λ (x : ℕ). take x bs) size ∙ take_split 4 (suc n) bs ∙ ap (λ (x : List ℕ). take 4 bs ++ take (suc n) x) behind ∙ ap (λ x. x ++ get_or bs 4 0 ∷ bytes) head;
      },
    )

pub binary_front : (bs p r : List ℕ) → bs ≡ p ++ r → (subtype : ℕ) × (bytes : List ℕ) × IsBinary p subtype bytes → (n : ℕ) × IsLe32 (take 4 bs) (pos n) × (n + 5 ≤ length bs)
binary_front bs p r e t =
    let b = t.2 in
    let head : List ℕ = le32 (pos (length t.1)) in
    let whole : bs ≡ head ++ (t.0 ∷ (t.1 ++ r)) = e ∙ ap (λ x. x ++ r) b.spelled ∙ append_assoc head (t.0 ∷ t.1) r in
    let front : take 4 bs ≡ head = ap (take 4) whole in
    (length t.1, rw front (le32_of (length t.1) b.fits), omega (arith, ap length whole, length-append head (t.0 ∷ (t.1 ++ r)), length-append t.1 r))

-- codes with scope

pub scoped_found : (bs : List ℕ) (n : ℕ) → 4 ≤ length bs → IsLe32 (take 4 bs) (pos n) → n ≤ length bs → HasDeclaredLength (take n bs) (drop n bs)
scoped_found bs n four h l =
    let len : length (take n bs) ≡ n = length-take-le n bs l in
    let whole : take n bs ++ drop n bs ≡ bs = take-append-drop n bs in
    record { enough = rw whole four; header = rw (whole, len) h }

pub scoped_front : (bs p r : List ℕ) → bs ≡ p ++ r → HasDeclaredLength p r → (n : ℕ) × (4 ≤ length bs) × IsLe32 (take 4 bs) (pos n) × (n ≤ length bs)
scoped_front bs p r e d = (length p, rw e d.enough, rw e d.header, omega (arith, ap length e, length-append p r))

-- pointers

-- a list is cut in one way at a length
pub same_cut : (p q r t : List ℕ) (n : ℕ) → length p ≡ n → length q ≡ n → p ++ r ≡ q ++ t → (p ≡ q) × (r ≡ t)
same_cut p q r t n a b e = (
  sym (take_at p r n a) ∙ ap (take n) e ∙ take_at q t n b,
  sym (drop_at p r n a) ∙ ap (drop n) e ∙ drop_at q t n b,
)

pub string_length : (p text : List ℕ) → IsString p text → length p ≡ length text + 5
string_length p text s = omega (arith, ap length s.spelled, length-append text (0 ∷ []))

-- a string is cut off in one way
pub string_same : (p q r t x y : List ℕ) → IsString p x → IsString q y → p ++ r ≡ q ++ t → (p ≡ q) × (r ≡ t)
string_same p q r t x y s u e =
    let a = (string_front (p ++ r) p r x refl s).0 in
    let b = (string_front (p ++ r) q t y e u).0 in
    let same : pos (length x + 1) ≡ pos (length y + 1) = IsLe32-same (take 4 (p ++ r)) _ _ a b in
    let n : length x + 1 ≡ length y + 1 = cc in
    let k : length q ≡ length x + 5 = omega (arith, string_length q y u) in
    same_cut p q r t (length x + 5) (string_length p x s) k e

pub pointer_found : (bs : List ℕ) (n : ℕ) → HasText (take n bs) → n + 12 ≤ length bs → (namespace id : List ℕ) × IsDbPointer (take (n + 12) bs) namespace id
pointer_found bs n t l =
    let id : List ℕ = take 12 (drop n bs) in (
      t.0,
      id,
      record {
        fits = t.1.fits;
        id_len = length-take-le 12 (drop n bs) (omega (arith, length-drop n bs));
        spelled = take_split n 12 bs ∙ ap (λ x. x ++ id) t.1.spelled;
      },
    )

-- a pointer at the front begins with its string
pub pointer_string : (bs p r namespace id : List ℕ) → bs ≡ p ++ r → IsDbPointer p namespace id → bs ≡ string_payload namespace ++ (id ++ r)
pointer_string bs p r namespace id e d = e ∙ ap (λ x. x ++ r) d.spelled ∙ append_assoc (string_payload namespace) id r

-- where no string is at the front, no pointer is
pub no_pointer : (bs : List ℕ) → ((p r : List ℕ) → bs ≡ p ++ r → ¬ HasText p) → (p r : List ℕ) → bs ≡ p ++ r → ¬ ((namespace id : List ℕ) × IsDbPointer p namespace id)
no_pointer bs none p r e d = none (string_payload d.0) (d.1 ++ r) (pointer_string bs p r d.0 d.1 e d.2) (d.0, string_is d.0 d.2.fits)

-- twelve bytes follow the string
pub pointer_within : (bs p r : List ℕ) (n : ℕ) → HasText (take n bs) → n ≤ length bs → bs ≡ p ++ r → (namespace id : List ℕ) × IsDbPointer p namespace id → n + 12 ≤ length bs
pointer_within bs p r n t l e d =
    let string : List ℕ = string_payload d.0 in
    let cut : take n bs ++ drop n bs ≡ string ++ (d.1 ++ r) = take-append-drop n bs ∙ pointer_string bs p r d.0 d.1 e d.2 in
    let same = string_same (take n bs) string (drop n bs) (d.1 ++ r) t.0 d.0 t.1 (string_is d.0 d.2.fits) cut in
    omega (arith, ap length same.1, length-append d.1 r, d.2.id_len, length-drop n bs)

-- the code of a code with scope isn't too long for a string
pub code_fits : (p code scope : List ℕ) → IsCodeWithScope p code scope → length code < max_length
code_fits p code scope c = omega (arith, c.fits, ap length c.spelled, length-append (string_payload code) scope, length-append code (0 ∷ []))

-- the documents

-- a document is what is inside it in a frame
pub document_framed : (b : List ℕ) → IsEnvelope b → b ≡ framed (inside_of b)
document_framed b d =
    let size : length (drop 4 b) ≡ length b - 4 = length-drop 4 b in
    let place : 4 + (length b - 5) ≡ length b - 1 = omega (arith, d.enough) in
    let last : get_or (drop 4 b) (length b - 5) 0 ≡ 0 = get_or-drop 4 b (length b - 5) 0 ∙ ap (λ (i : ℕ). get_or b i 0) place ∙ get_or_from_slice_get b (length b - 1) 0 0 d.ended in
    let behind : drop 4 b ≡ inside_of b ++ 0 ∷ [] = sym (take_all (length b - 5 + 1) (drop 4 b) (omega (arith, d.enough)))
    ∙ take_more (drop 4 b) (length b - 5) 0 (omega (arith, d.enough)) ∙ ap (λ x. inside_of b ++ x ∷ []) last in
    counted_whole b (inside_of b ++ 0 ∷ []) d.header behind

-- timestamps

pub timestamp_found : (p front back : List ℕ) (time increment : ℕ) → p ≡ front ++ back → IsUnsigned32 front increment → IsUnsigned32 back time → IsTimestamp p time increment
timestamp_found p front back time increment e i t = record {
  time_fits = t.fits;
  increment_fits = i.fits;
  spelled = e ∙ ap (λ x. x ++ back) i.bytes_are ∙ ap (λ x. to_le_bytes w32 increment ++ x) t.bytes_are;
}
