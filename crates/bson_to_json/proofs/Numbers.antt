-- Doubles as text.
use Rattle.bson_to_json.proofs.Common.{Float, IsDoubleJson, IsDoubleText, IsPlainNumber, IsWrappedDouble, Relaxed, T, binary64, inf, nan, nat_tests, not, sign_text}
use Rattle.std.specs.Float.{float_is_finite, is_sign_negative}
use lib.Ieee.{is_nan, of_bits, of_fields}
use Rattle.std.proofs.Common.{◌≡◌, ◌<◌, ◌%◌, ◌/◌, ℕ, Bool, true, false, List, Some, arith, refl, codes, ◌++◌, cond, nat_eq}
use Rattle.ryu.specs.Parse.{parse_float}

second : (t : ℕ) (a b : Float) → 0 < t → cond (nat_eq t 0) a b ≡ b
second t a b h = grind (arith, nat_tests)

nan_fields : (s : Bool) (x t : ℕ) → x ≡ 2047 → 0 < t → of_fields binary64 s x t ≡ nan
unfolding of_fields
nan_fields s x t e h = rw e (second t (inf s) nan h)

-- what is greater than the bits of infinity is a NaN
pub bits_nan : (b : ℕ) → 0x7ff0_0000_0000_0000 < b % 0x8000_0000_0000_0000 → of_bits binary64 b ≡ nan
unfolding of_bits
bits_nan b h = nan_fields _ (b % 0x8000_0000_0000_0000 / 0x10_0000_0000_0000) (b % 0x10_0000_0000_0000) (omega arith) (omega arith)

pub nan_is_not_finite : (x : Float) → x ≡ nan → false ≡ float_is_finite x
unfolding float_is_finite
nan_is_not_finite x e = rw e refl

pub nan_text : (x : Float) → x ≡ nan → IsDoubleText x (codes "NaN")
nan_text x e = rw e refl

pub finite_number : (x : Float) (text : List ℕ) → float_is_finite x ≡ true → IsPlainNumber text → parse_float binary64 text ≡ Some x → IsDoubleText x text
unfolding float_is_finite
finite_number x text e plain parse = grind arith

pub infinite_number : (x : Float) (text : List ℕ) → float_is_finite x ≡ false → T (not (is_nan x)) → text ≡ sign_text (is_sign_negative x) ++ codes "Infinity" → IsDoubleText x text
unfolding float_is_finite is_nan is_sign_negative
infinite_number x text e number is = grind arith

pub relaxed_finite : (x : Float) (text : List ℕ) → float_is_finite x ≡ true → IsDoubleText x text → IsDoubleJson Relaxed x text
unfolding float_is_finite
relaxed_finite x text e h = grind arith

pub relaxed_other : (x : Float) (text : List ℕ) → float_is_finite x ≡ false → IsWrappedDouble x text → IsDoubleJson Relaxed x text
unfolding float_is_finite
relaxed_other x text e h = grind arith
