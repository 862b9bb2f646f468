-- Decimals: their greatest length, and that they contain no 0.
use Rattle.std.proofs.Common.{◌≤◌, ◌<◌, ◌^◌, [], ℕ, List, zero, suc, false, length, decimal, arith}
use Rattle.std.specs.Fmt.{digits, digits_onto}
use Rattle.std.proofs.lemmas.Bool.Decides.{nat_tests}
use Rattle.std.proofs.lemmas.Fmt.{length-decimal-le}
use Rattle.raw_tree.proofs.Common.{NulFree}
use Rattle.bson_model.proofs.Face.{NulFree-cons, NulFree-nil}

pub at_most_twenty : (n : ℕ) → n < 2 ^ 64 → length (decimal n) ≤ 20
at_most_twenty n fits = length-decimal-le 20 n (omega arith) (omega arith) fits

digits_nul_free : (k n : ℕ) (acc : List ℕ) → NulFree acc → NulFree (digits_onto k 10 false n acc)
digits_nul_free zero n acc h = h
digits_nul_free (suc k) n acc h = grind (arith, nat_tests, NulFree-cons, digits_nul_free k)

pub decimal_nul_free : (n : ℕ) → NulFree (decimal n)
unfolding digits
decimal_nul_free n = digits_nul_free 64 n [] NulFree-nil
