-- Numbers at the front of bytes.
use Rattle.std.proofs.Common.{◌≡◌, ◌≤◌, ◌<◌, ◌^◌, ◌∷◌, [], ℕ, ℤ, pos, zero, suc, List, length, take, get_or, w32, w64, of_z, to_z, arith, ap, sym, refl, ◌∙◌}
use Rattle.std.proofs.Math.Facts.{Fits-of_z, sfits_to_z}
use Rattle.std.specs.Int.{from_le_bytes, to_le_bytes}
use Rattle.std.proofs.lemmas.Int.{to_z-of_z, of_z-to_z, fits_signed_from_abs}
use Rattle.std.proofs.lemmas.Nat.{le_bytes_4, le_bytes_8, from_le_bytes-to_le_bytes_4, from_le_bytes-to_le_bytes_8}
use Rattle.bson_model.specs.Bytes.{AreBytes}
use Rattle.raw_view.specs.Frame.Number.{max_length, le32, IsLe32, IsLe64, IsUnsigned32, IsUnsigned64}

-- bytes spell the number that is read from them
pub unsigned32 : (four : List ℕ) → length four ≡ 4 → AreBytes four → IsUnsigned32 four (from_le_bytes w32 four)
unsigned32 four l bytes = record {
  fits = omega (arith, bytes 0, bytes 1, bytes 2, bytes 3);
  bytes_are = sym (le_bytes_4 four _ l bytes refl);
}

pub unsigned64 : (eight : List ℕ) → length eight ≡ 8 → AreBytes eight → IsUnsigned64 eight (from_le_bytes w64 eight)
unsigned64 eight l bytes = record {
  fits = omega (arith, bytes 0, bytes 1, bytes 2, bytes 3, bytes 4, bytes 5, bytes 6, bytes 7);
  bytes_are = sym (le_bytes_8 eight _ l bytes refl);
}

-- and with a sign, in two's complement
pub signed32 : (four : List ℕ) (n : ℕ) → IsUnsigned32 four n → IsLe32 four (to_z w32 n)
signed32 four n u = record {
  fits = sfits_to_z (record { fits = u.fits });
  bytes_are = u.bytes_are ∙ ap (to_le_bytes w32) (sym (of_z-to_z w32 n u.fits));
}

pub signed64 : (eight : List ℕ) (n : ℕ) → IsUnsigned64 eight n → IsLe64 eight (to_z w64 n)
signed64 eight n u = record {
  fits = sfits_to_z (record { fits = u.fits });
  bytes_are = u.bytes_are ∙ ap (to_le_bytes w64) (sym (of_z-to_z w64 n u.fits));
}

four_bytes : (a b c d : ℕ) (t : List ℕ) → AreBytes (a ∷ b ∷ c ∷ d ∷ t) → AreBytes (a ∷ b ∷ c ∷ d ∷ [])
four_bytes a b c d t h zero = h 0
four_bytes a b c d t h (suc zero) = h 1
four_bytes a b c d t h (suc (suc zero)) = h 2
four_bytes a b c d t h (suc (suc (suc zero))) = h 3
four_bytes a b c d t h (suc (suc (suc (suc i)))) = omega arith

-- the number that is read from the first four bytes
pub read_front : (bs : List ℕ) (z : ℤ) → AreBytes bs → 4 ≤ length bs → z ≡ to_z w32 (from_le_bytes w32 (get_or bs 0 0 ∷ get_or bs 1 0 ∷ get_or bs 2 0 ∷ get_or bs 3 0 ∷ [])) → IsLe32 (take 4 bs) z
read_front [] z bytes l e = absurd (omega arith)
read_front (a ∷ []) z bytes l e = absurd (omega arith)
read_front (a ∷ b ∷ []) z bytes l e = absurd (omega arith)
read_front (a ∷ b ∷ c ∷ []) z bytes l e = absurd (omega arith)
read_front (a ∷ b ∷ c ∷ d ∷ t) z bytes l e = rw e (signed32 (a ∷ b ∷ c ∷ d ∷ []) _ (unsigned32 (a ∷ b ∷ c ∷ d ∷ []) refl (four_bytes a b c d t bytes)))

-- a length that is not too great has its four bytes
pub le32_of : (n : ℕ) → n ≤ max_length → IsLe32 (le32 (pos n)) (pos n)
le32_of n l = record { fits = fits_signed_from_abs w32 (pos n) (omega arith); bytes_are = refl }

-- and four bytes of a length say no greater one
pub length_fits : (bs : List ℕ) (n : ℕ) → IsLe32 bs (pos n) → n ≤ max_length
length_fits bs n h = omega (arith, h.fits.sfits)

-- bytes are those of one number
pub IsUnsigned32-same : (bs : List ℕ) (m n : ℕ) → IsUnsigned32 bs m → IsUnsigned32 bs n → m ≡ n
IsUnsigned32-same bs m n a b = sym (from_le_bytes-to_le_bytes_4 m a.fits) ∙ ap (from_le_bytes w32) (sym a.bytes_are ∙ b.bytes_are) ∙ from_le_bytes-to_le_bytes_4 n b.fits

pub IsUnsigned64-same : (bs : List ℕ) (m n : ℕ) → IsUnsigned64 bs m → IsUnsigned64 bs n → m ≡ n
IsUnsigned64-same bs m n a b = sym (from_le_bytes-to_le_bytes_8 m a.fits) ∙ ap (from_le_bytes w64) (sym a.bytes_are ∙ b.bytes_are) ∙ from_le_bytes-to_le_bytes_8 n b.fits

pub IsLe32-same : (bs : List ℕ) (z w : ℤ) → IsLe32 bs z → IsLe32 bs w → z ≡ w
IsLe32-same bs z w a b =
    let below : of_z w32 z < 2 ^ 32 = (Fits-of_z a.fits).fits in
    let under : of_z w32 w < 2 ^ 32 = (Fits-of_z b.fits).fits in
    let same : of_z w32 z ≡ of_z w32 w = sym (from_le_bytes-to_le_bytes_4 (of_z w32 z) below) ∙ ap (from_le_bytes w32) (sym a.bytes_are ∙ b.bytes_are)
    ∙ from_le_bytes-to_le_bytes_4 (of_z w32 w) under in
    sym (to_z-of_z w32 z a.fits) ∙ ap (to_z w32) same ∙ to_z-of_z w32 w b.fits

pub IsLe64-same : (bs : List ℕ) (z w : ℤ) → IsLe64 bs z → IsLe64 bs w → z ≡ w
IsLe64-same bs z w a b =
    let below : of_z w64 z < 2 ^ 64 = (Fits-of_z a.fits).fits in
    let under : of_z w64 w < 2 ^ 64 = (Fits-of_z b.fits).fits in
    let same : of_z w64 z ≡ of_z w64 w = sym (from_le_bytes-to_le_bytes_8 (of_z w64 z) below) ∙ ap (from_le_bytes w64) (sym a.bytes_are ∙ b.bytes_are)
    ∙ from_le_bytes-to_le_bytes_8 (of_z w64 w) under in
    sym (to_z-of_z w64 z a.fits) ∙ ap (to_z w64) same ∙ to_z-of_z w64 w b.fits

pub IsLe32-length : (bs : List ℕ) (z : ℤ) → IsLe32 bs z → length bs ≡ 4
IsLe32-length bs z a = ap length a.bytes_are
