-- Texts in quotes, for people: as JSON has them, and without a character that a terminal obeys.
use Rattle.std.specs.Prelude.{◌/◌, ◌%◌, ◌==◌, ◌||◌, ℕ, List, [], ◌∷◌, ◌++◌, chars, codes, cond, encode_utf8, flat_map, nat_lt}
use Rattle.std.specs.Char.{digit_char, is_control}

-- the letter of a character's short escape, or 0 where it has none
abbrev pub escape_letter : ℕ → ℕ
escape_letter c = cond ((c == 34) || (c == 92)) c (cond (c == 8) 98 (cond (c == 12) 102 (cond (c == 10) 110 (cond (c == 13) 114 (cond (c == 9) 116 0)))))

-- What stands for a character: its short escape, where it has one; of another control character `\u` and four digits; else itself. Control
-- characters are those below a space, which JSON escapes too, DEL, and those from U+0080 to U+009F.
abbrev pub shown_char : ℕ → List ℕ
shown_char c =
    cond (nat_lt 0 (escape_letter c)) (92 ∷ escape_letter c ∷ [])
    (cond (is_control c) (codes "\\u00" ++ digit_char (c / 16) ∷ digit_char (c % 16) ∷ []) (encode_utf8 c))

abbrev pub shown_text : List ℕ → List ℕ
shown_text s = flat_map shown_char (chars s)

abbrev pub quoted : List ℕ → List ℕ
quoted s = 34 ∷ (shown_text s ++ 34 ∷ [])
