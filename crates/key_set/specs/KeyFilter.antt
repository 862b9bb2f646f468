-- Filters of keys.
use Rattle.std.specs.Prelude.{◌≡◌, ◌+◌, ◌-◌, ◌*◌, ◌%◌, ℕ, List, length, nat_lt, if◌then◌else◌, slice_index}
use Rattle.std.specs.Int.{bit_at}
use Rattle.std.specs.List.{Contains}

-- the bit of a key, by its last two bytes, its first and its length
abbrev pub filter_bit : List ℕ → ℕ
filter_bit key =
    let n = length key in
    if nat_lt n 2 then 0
    else (3 * slice_index key (n - 1) + 10 * slice_index key (n - 2) + slice_index key 0 + 7 * (n % 64)) % 64

-- the bit is set in the filter
abbrev pub IsInFilter : ℕ → ℕ → Type 0
IsInFilter filter bit = bit_at filter bit ≡ 1

-- the bit of each key is set
abbrev pub AreInFilter : ℕ → List (List ℕ) → Type 0
AreInFilter filter keys = (key : List ℕ) → Contains keys key → IsInFilter filter (filter_bit key)
