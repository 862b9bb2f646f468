-- Lists of bytes, and lists without a 0: their parts, and what is made of them.
use Rattle.std.proofs.Common.{◌≡◌, ◌≢◌, inl, inr, ◌++◌, ◌∷◌, [], ◌<◌, ◌+◌, ◌/◌, ◌%◌, ℕ, zero, suc, Bool, true, false, cond, ltb, List, length, take, drop, arith, refl, subst}
use Rattle.std.proofs.Math.Utf8.{scalars, scalar, scalar_cases, encode, encodes}
use Rattle.std.proofs.lemmas.Bool.{ltb-true, and_parts}
use Rattle.std.proofs.lemmas.List.{take_at, take-append-drop}
use Rattle.std.proofs.lemmas.List.Elements.{All-nil, All-cons, All-head, All-tail}
use Rattle.std.specs.Int.{byte_at, bytes_low_first}
use Rattle.std.specs.Prelude.{slice_index_or}
use Rattle.std.specs.Str.{IsUtf8}
use Rattle.bson_model.specs.Bytes.{AreBytes, NulFree}

-- bytes

-- each number of a list that is below 256 is a byte
pub AreBytes-from_elements : (bytes : List ℕ) → ((i d : ℕ) → i < length bytes → slice_index_or bytes i d < 256) → AreBytes bytes
AreBytes-from_elements [] h i = omega arith
AreBytes-from_elements (b ∷ bytes) h zero = h 0 0 (omega arith)
AreBytes-from_elements (b ∷ bytes) h (suc i) = AreBytes-from_elements bytes (λ j d l. h (suc j) d (omega (arith, l))) i

-- no byte at all
pub AreBytes-nil : AreBytes []
AreBytes-nil i = omega arith

-- one more byte at the front
pub AreBytes-cons : (x : ℕ) (xs : List ℕ) → x < 256 → AreBytes xs → AreBytes (x ∷ xs)
AreBytes-cons x xs l h zero = l
AreBytes-cons x xs l h (suc i) = h i

-- bytes followed by bytes
pub AreBytes-append : (front back : List ℕ) → AreBytes front → AreBytes back → AreBytes (front ++ back)
AreBytes-append [] back f b i = b i
AreBytes-append (x ∷ front) back f b zero = f 0
AreBytes-append (x ∷ front) back f b (suc i) = AreBytes-append front back (λ j. f (suc j)) b i

-- the first of them
pub AreBytes-take : (n : ℕ) (bs : List ℕ) → AreBytes bs → AreBytes (take n bs)
AreBytes-take zero bs h i = omega arith
AreBytes-take (suc n) [] h i = omega arith
AreBytes-take (suc n) (b ∷ bs) h zero = h 0
AreBytes-take (suc n) (b ∷ bs) h (suc i) = AreBytes-take n bs (λ j. h (suc j)) i

-- the front of two parts
pub AreBytes-front : (front back : List ℕ) → AreBytes (front ++ back) → AreBytes front
AreBytes-front front back h = subst AreBytes (take_at front back (length front) refl) (AreBytes-take (length front) (front ++ back) h)

-- the back of two parts
pub AreBytes-back : (front back : List ℕ) → AreBytes (front ++ back) → AreBytes back
AreBytes-back [] back h = h
AreBytes-back (x ∷ front) back h = AreBytes-back front back (λ i. h (suc i))

-- all but the first of them
pub AreBytes-drop : (n : ℕ) (bs : List ℕ) → AreBytes bs → AreBytes (drop n bs)
AreBytes-drop n bs h = AreBytes-back (take n bs) (drop n bs) (rw take-append-drop h)

-- a single 0
pub AreBytes-nul : AreBytes (0 ∷ [])
AreBytes-nul = AreBytes-cons 0 [] (omega arith) AreBytes-nil

-- numbers as bytes

-- each part of a number is a byte
byte_at-below : (i n : ℕ) → byte_at i n < 256
byte_at-below zero n = omega arith
byte_at-below (suc i) n = omega arith

-- the bytes of a number are bytes
pub AreBytes-number : (k i n : ℕ) → AreBytes (bytes_low_first i k n)
AreBytes-number zero i n = AreBytes-nil
AreBytes-number (suc k) i n = AreBytes-cons (byte_at i n) (bytes_low_first (suc i) k n) (byte_at-below i n) (AreBytes-number k (suc i) n)

-- texts

-- one list or the other, by a test
AreBytes-either : (b : Bool) (xs ys : List ℕ) → (b ≡ true → AreBytes xs) → AreBytes ys → AreBytes (cond b xs ys)
AreBytes-either true xs ys f h = f refl
AreBytes-either false xs ys f h = h

-- a byte that continues a character
abbrev later : ℕ → ℕ
later bits = 128 + bits % 64

-- one of them before bytes
AreBytes-later : (bits : ℕ) (xs : List ℕ) → AreBytes xs → AreBytes (later bits ∷ xs)
AreBytes-later bits xs h = AreBytes-cons (later bits) xs (omega arith) h

-- the bytes of a character are bytes
AreBytes-encode : (c : ℕ) → c < 1114112 → AreBytes (encode c)
unfolding encode
AreBytes-encode c l =
    let one : AreBytes (later c ∷ []) = AreBytes-later c [] AreBytes-nil in
    let two : AreBytes (later (c / 64) ∷ later c ∷ []) = AreBytes-later (c / 64) (later c ∷ []) one in
    let three : AreBytes (later (c / 4096) ∷ later (c / 64) ∷ later c ∷ []) = AreBytes-later (c / 4096) (later (c / 64) ∷ later c ∷ []) two in
    AreBytes-either (ltb c 128) (c ∷ []) _ (λ e. let h = ltb-true c 128 e in AreBytes-cons c [] (omega arith) AreBytes-nil)
    (AreBytes-either (ltb c 2048) ((192 + c / 64) ∷ later c ∷ []) _ (λ e. let h = ltb-true c 2048 e in AreBytes-cons (192 + c / 64) (later c ∷ []) (omega arith) one)
    (AreBytes-either (ltb c 65536) ((224 + c / 4096) ∷ later (c / 64) ∷ later c ∷ []) _
    (λ e. let h = ltb-true c 65536 e in AreBytes-cons (224 + c / 4096) (later (c / 64) ∷ later c ∷ []) (omega arith) two)
    (AreBytes-cons (240 + c / 262144) (later (c / 4096) ∷ later (c / 64) ∷ later c ∷ []) (omega arith) three)))

-- a character is below 1114112
scalar-below : (c : ℕ) → scalar c ≡ true → c < 1114112
scalar-below c e = elim (scalar_cases c e) [ inl l ↦ omega arith | inr h ↦ h.1 ]

-- the bytes of characters are bytes
AreBytes-encodes : (cs : List ℕ) → scalars cs ≡ true → AreBytes (encodes cs)
AreBytes-encodes [] e = AreBytes-nil
AreBytes-encodes (c ∷ cs) e =
    let parts = and_parts (scalar c) (scalars cs) e in
    AreBytes-append (encode c) (encodes cs) (AreBytes-encode c (scalar-below c parts.0)) (AreBytes-encodes cs parts.1)

-- a text is bytes
pub AreBytes-text : (text : List ℕ) → IsUtf8 text → AreBytes text
AreBytes-text text u = subst AreBytes u.1.1 (AreBytes-encodes u.0 u.1.0)

-- no 0

pub NulFree-nil : NulFree []
NulFree-nil = All-nil (λ b. b ≢ 0)

pub NulFree-cons : (x : ℕ) (xs : List ℕ) → x ≢ 0 → NulFree xs → NulFree (x ∷ xs)
NulFree-cons x xs n h = All-cons (λ b. b ≢ 0) x xs n h

pub NulFree-head : (x : ℕ) (xs : List ℕ) → NulFree (x ∷ xs) → x ≢ 0
NulFree-head x xs h = All-head (λ b. b ≢ 0) x xs h

pub NulFree-tail : (x : ℕ) (xs : List ℕ) → NulFree (x ∷ xs) → NulFree xs
NulFree-tail x xs h = All-tail (λ b. b ≢ 0) x xs h
