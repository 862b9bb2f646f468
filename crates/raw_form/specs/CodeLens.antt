-- The length of a code, if there is one, as one number. No public contract cites this file.
use Rattle.std.specs.Prelude.{ℕ, Option, None, Some, suc, zero}

-- the length plus one is stored; 0 means that there is no code
abbrev pub len_of : ℕ → Option ℕ
len_of zero = None
len_of (suc n) = Some n
