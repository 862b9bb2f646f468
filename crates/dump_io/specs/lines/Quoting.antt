-- Texts in quotes, for people: as JSON has them, and without a character that a terminal obeys.
use Rattle.std.specs.Prelude.{◌≡◌, ◌<◌, ◌/◌, ◌%◌, ℕ, List, [], ◌∷◌, ◌++◌, chars, codes, cond, encode_utf8, flat_map, get_or, length, nat_lt}
use Rattle.std.specs.Char.{digit_char, is_control}
use Rattle.json.specs.Print.{escape_letter}

-- What stands for a character: its short escape, if it has one; for another control character `\u` and four digits; else itself. Control
-- characters are those below a space, which JSON escapes too, DEL, and those from U+0080 to U+009F.
abbrev pub shown_char : ℕ → List ℕ
shown_char c =
    cond (nat_lt 0 (escape_letter c)) (92 ∷ escape_letter c ∷ [])
    (cond (is_control c) (codes "\\u00" ++ digit_char (c / 16) ∷ digit_char (c % 16) ∷ []) (encode_utf8 c))

-- what stands for the characters of a text
abbrev pub shown_text : List ℕ → List ℕ
shown_text s = flat_map shown_char (chars s)

-- a text in quotes
abbrev pub quoted : List ℕ → List ℕ
quoted s = 34 ∷ (shown_text s ++ 34 ∷ [])

-- What the code tells of bytes. No public contract cites what follows.

-- the byte is a character of ASCII that is shown as it is
abbrev pub IsPlain : ℕ → Type 0
IsPlain x = (x < 128) × (shown_char x ≡ x ∷ [])

-- each of these bytes is so
abbrev pub ArePlain : List ℕ → Type 0
ArePlain bytes = (i : ℕ) → i < length bytes → IsPlain (get_or bytes i 0)
