-- Digits that were read. No public contract cites this file.
use Rattle.std.specs.Prelude.{◌≡◌, ℕ, ◌*◌, ◌^◌, ◌<◌, ◌≤◌}

-- a number followed by zeros; there are zeros only if the number has 34 digits
abbrev pub FitsDecimal128 : ℕ → ℕ → Type 0
FitsDecimal128 c zeros = (c < 10 ^ 34) × (0 < zeros → 10 ^ 33 ≤ c)

-- d is no number of at most 34 digits followed by zeros
abbrev pub FitsNoDecimal128 : ℕ → Type 0
FitsNoDecimal128 d = (c zeros : ℕ) → c < 10 ^ 34 → ¬ (d ≡ c * 10 ^ zeros)
