-- White space in the strings of wrappers.
use Rattle.std.specs.Prelude.{ℕ, ◌==◌, ◌&&◌, ◌||◌, nat_lt, not, Bool, List, [], ◌∷◌, filter, reverse, if◌then◌else◌}

-- white space of ASCII: a blank, a tab, a line feed, a vertical tab, a form feed or a carriage return
abbrev pub is_space : ℕ → Bool
is_space b = (b == 32) || (nat_lt 8 b && nat_lt b 14)

-- a text without the white space that it begins with
abbrev pub trimmed_start : List ℕ → List ℕ
trimmed_start [] = []
trimmed_start (b ∷ bs) = if is_space b then trimmed_start bs else b ∷ bs

-- a text without the white space around it
abbrev pub trimmed : List ℕ → List ℕ
trimmed s = reverse (trimmed_start (reverse (trimmed_start s)))

-- a text without any white space
abbrev pub without_spaces : List ℕ → List ℕ
without_spaces s = filter (λ b. not (is_space b)) s
