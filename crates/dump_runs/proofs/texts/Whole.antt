-- A text that says a document is whole, where no front of it is: the scan of its bytes goes by the levels of its tokens.
use Rattle.std.proofs.Common.{◌≡◌, ◌-◌, ◌+◌, ◌^◌, ◌≤◌, ◌<◌, ◌⊎◌, ℕ, suc, Bool, true, false, ◌==◌, ◌||◌, if◌then◌else◌, List, [], ◌∷◌, ◌++◌, Option, Some, None, ap, append-nil, append_assoc, arith, drop, fold, inl, inr, length, length-take-le, nat_lt, refl, subst, sym, take, ◌∙◌}
use Rattle.std.proofs.lemmas.Bool.{eqb-true, false≢true, lt-ltb, or_cases, true≢false}
use Rattle.std.proofs.lemmas.Grind.{fold-append}
use Rattle.std.proofs.lemmas.List.{take-append-drop, take-take}
use Rattle.bson_model.specs.Tree.{Entries}
use Rattle.bson_from_json.specs.Texts.{IsWritten, Says, SaysNone}
use Rattle.json.specs.Json.{Json, Items, no_items, item, Members, no_members, member}
use Rattle.json.specs.Json as json
use Rattle.json.specs.Lex.{Class, Mode, Place, after_comma, after_key, after_value, backslash, begins_colon, between, class, colon, comma, fresh, if_allowed, in_escape, in_string, in_word, lex, lex_byte, may_begin, may_close, operator, operator_lexeme, other, place_token, punctuate, quote, space, string_token, tokens}
use Rattle.json.specs.Text.{content, plain}
use Rattle.json.specs.Token.{Token}
use Rattle.json.specs.Tree.{items_tokens, json_tokens, members_tokens}
use Rattle.json.specs.Word.{is_operator, is_space, word}
use Rattle.dump_io.specs.input.Between.{may_begin as may_come}
use Rattle.dump_io.specs.input.Scans.{HasBrace, IsOpen, ScansAhead, ScansBegun, closed, in_levels, in_text, opened, scanned, start, step}
use Rattle.dump_io.specs.input.Texts.{HasBegun, IsOneText}
use Rattle.dump_io.specs.declared.input.scan.Scan.{Scan}
use Rattle.dump_io.specs.declared.input.scan.Scan.TheVariants as scan
use Rattle.dump_io.specs.declared.input.scan.Scanned.{Scanned}
use Rattle.dump_io.specs.declared.input.turn.Turn.{Turn}
use Rattle.dump_io.proofs.Face.{ScansAs, scans_as}
use Rattle.dump_runs.specs.texts.Run.{IsWholeText}
use Rattle.dump_runs.proofs.texts.Words.{IsBare, IsBareByte, IsOf, IsWordOf, differ, is_of_class, word_of}

-- what is left of the tokens of an object, where so many levels are open, and a level may begin or not: each level ends, and the first one last
abbrev EndsLevels : ℕ → Bool → List Token → Type 0
EndsLevels n may [] = ⊥
EndsLevels n may (Token.begin_object ∷ ts) = (may ≡ true) × EndsLevels (suc n) false ts
EndsLevels n may (Token.begin_array ∷ ts) = (may ≡ true) × EndsLevels (suc n) true ts
EndsLevels n may (Token.end_object ∷ ts) = ((n ≡ 1) × (ts ≡ [])) ⊎ ((1 < n) × EndsLevels (n - 1) true ts)
EndsLevels n may (Token.end_array ∷ ts) = ((n ≡ 1) × (ts ≡ [])) ⊎ ((1 < n) × EndsLevels (n - 1) true ts)
EndsLevels n may (Token.key s ∷ ts) = EndsLevels n true ts
EndsLevels n may (Token.string s ∷ ts) = EndsLevels n true ts
EndsLevels n may (Token.number s ∷ ts) = EndsLevels n true ts
EndsLevels n may (Token.boolean b ∷ ts) = EndsLevels n true ts
EndsLevels n may (Token.null ∷ ts) = EndsLevels n true ts
EndsLevels n may (Token.bad ∷ ts) = ⊥

-- after the end of the innermost level
abbrev EndsOther : ℕ → List Token → Type 0
EndsOther n ts = ((n ≡ 1) × (ts ≡ [])) ⊎ ((1 < n) × EndsLevels (n - 1) true ts)

one_more : (n : ℕ) (ts : List Token) → 0 < n → EndsLevels n true ts → EndsOther (suc n) ts
one_more n ts some h = let same : n ≡ suc n - 1 = omega arith in inr (omega (arith, some), subst (λ k. EndsLevels k true ts) same h)

mutual
  value_ends : (j : Json) (n : ℕ) (ts : List Token) → 0 < n → EndsLevels n true ts → EndsLevels n true (json_tokens j ++ ts)
  value_ends json.null n ts some h = h
  value_ends (json.boolean b) n ts some h = h
  value_ends (json.number s) n ts some h = h
  value_ends (json.string s) n ts some h = h
  value_ends (json.array js) n ts some h = (refl, items_end js (suc n) ts (omega arith) (one_more n ts some h))
  value_ends (json.object ms) n ts some h = (refl, members_end ms (suc n) false ts (omega arith) (one_more n ts some h))

  items_end : (js : Items) (n : ℕ) (ts : List Token) → 0 < n → EndsOther n ts → EndsLevels n true (items_tokens js ++ ts)
  items_end no_items n ts some h = h
  items_end (item j js) n ts some h =
      subst (λ l. EndsLevels n true l) (sym (append_assoc (json_tokens j) (items_tokens js) ts)) (value_ends j n (items_tokens js ++ ts) some (items_end js n ts some h))

  members_end : (ms : Members) (n : ℕ) (may : Bool) (ts : List Token) → 0 < n → EndsOther n ts → EndsLevels n may (members_tokens ms ++ ts)
  members_end no_members n may ts some h = h
  members_end (member k j ms) n may ts some h =
      subst (λ l. EndsLevels n true l) (sym (append_assoc (json_tokens j) (members_tokens ms) ts)) (value_ends j n (members_tokens ms ++ ts) some (members_end ms n true ts some h))

object_ends : (ms : Members) → EndsLevels 0 true (json_tokens (json.object ms))
object_ends ms = (refl, subst (λ l. EndsLevels 1 false l) (append-nil (members_tokens ms)) (members_end ms 1 false [] (omega arith) (inl (refl, refl))))

-- each front of these bytes may go on
abbrev StaysOpen : Scan → List ℕ → Type 0
StaysOpen s [] = Unit {0}
StaysOpen s (x ∷ xs) = IsOpen s × StaysOpen (step s x) xs

-- where each may, all of them are whole
abbrev EndsWhole : Scan → List ℕ → Type 0
EndsWhole s xs = StaysOpen s xs → fold step s xs ≡ scan.Whole

-- how far the scan has come, where the lexer is in this mode
abbrev scan_in : Mode → ℕ → Bool → Scan
scan_in between n may = scan.Levels n may
scan_in in_word n may = scan.Levels n may
scan_in in_string n may = scan.Text n
scan_in in_escape n may = scan.Escape n

-- what is so in this mode, where what is ahead of a word may be bare: after a word or a string the scan lets no level begin
abbrev FitsMode : Mode → Type 0 → Bool → Type 0
FitsMode between bare flag = Unit {0}
FitsMode in_word bare flag = bare × (flag ≡ false)
FitsMode in_string bare flag = flag ≡ false
FitsMode in_escape bare flag = flag ≡ false

-- where the scan lets no level begin, the tokens don't either
abbrev FitsFlag : Bool → Place → Bool → Type 0
FitsFlag flag p may = flag ≡ false → (may_begin p ≡ false) ⊎ (may ≡ false)

-- from a mode on: where what is left of the tokens ends each level, the scan ends whole
abbrev Goes : Mode → List ℕ → Type 0
Goes m xs =
    (p : Place) (n : ℕ) (flag may : Bool) → FitsMode m (IsBare xs) flag → FitsFlag flag p may → EndsLevels n may (punctuate p (lex m xs)) → EndsWhole (scan_in m n flag) xs

no_end : (p : Place) (n : ℕ) (may : Bool) → EndsLevels n may (punctuate p []) → ⊥
unfolding punctuate
no_end fresh n may h = h
no_end after_value n may h = h
no_end after_comma n may h = h
no_end after_key n may h = h

-- no byte comes after these two
torn_ends : (m : Mode) (xs : List ℕ) (p : Place) (n : ℕ) (may : Bool) → EndsLevels n may (punctuate p (lex m xs)) → EndsWhole scan.Torn xs
unfolding lex
torn_ends m [] p n may h = λ stays. absurd (no_end p n may h)
torn_ends m (x ∷ xs) p n may h = λ stays. absurd stays.0

whole_ends : (xs : List ℕ) → EndsWhole scan.Whole xs
whole_ends [] = λ stays. refl
whole_ends (x ∷ xs) = λ stays. absurd stays.0

either_scan : (b : Bool) (xs : List ℕ) (s t : Scan) → EndsWhole s xs → EndsWhole t xs → EndsWhole (if b then s else t) xs
either_scan true xs s t f g = f
either_scan false xs s t f g = g

-- bytes of a test, one by one
one_byte : (P : ℕ → Type 0) (x c : ℕ) (b : Bool) → (b ≡ true → P x) → P c → (b || (x == c)) ≡ true → P x
one_byte P x c b f is h =
    elim (or_cases b (x == c) h) [
      | inl e ↦ f e
      | inr e ↦ subst P (sym (eqb-true x c e)) is
    ]

last_byte : (P : ℕ → Type 0) (x c : ℕ) → P c → (x == c) ≡ true → P x
last_byte P x c is e = subst P (sym (eqb-true x c e)) is

a_space : (P : ℕ → Type 0) (x : ℕ) → P 32 → P 9 → P 10 → P 13 → is_space x ≡ true → P x
a_space P x a b c d = one_byte P x 13 _ (one_byte P x 10 _ (one_byte P x 9 _ (last_byte P x 32 a) b) c) d

an_operator : (P : ℕ → Type 0) (x : ℕ) → P 123 → P 125 → P 91 → P 93 → P 58 → P 44 → is_operator x ≡ true → P x
an_operator P x a b c d e f =
    one_byte P x 44 _ (one_byte P x 58 _ (one_byte P x 93 _ (one_byte P x 91 _ (one_byte P x 125 _ (last_byte P x 123 a) b) c) d) e) f

space_stays : (x n : ℕ) (flag : Bool) → is_space x ≡ true → in_levels n flag x ≡ scan.Levels n flag
space_stays x n flag h = a_space (λ y. in_levels n flag y ≡ scan.Levels n flag) x refl refl refl refl h

not_operator : (x c : ℕ) → is_operator x ≡ false → is_operator c ≡ true → (x == c) ≡ false
not_operator x c never is = differ is_operator x c false never (λ e. true≢false (sym is ∙ e))

not_space : (x c : ℕ) → is_space x ≡ false → is_space c ≡ true → (x == c) ≡ false
not_space x c never is = differ is_space x c false never (λ e. true≢false (sym is ∙ e))

other_stays : (x n : ℕ) (flag : Bool) → IsOf other x → in_levels n flag x ≡ scan.Levels n false
other_stays x n flag (q, b, o, s) =
    let s32 = not_space x 32 s refl in
    let s10 = not_space x 10 s refl in
    let s13 = not_space x 13 s refl in
    let s9 = not_space x 9 s refl in
    let o123 = not_operator x 123 o refl in
    let o91 = not_operator x 91 o refl in
    let o125 = not_operator x 125 o refl in
    let o93 = not_operator x 93 o refl in
    let o58 = not_operator x 58 o refl in
    let o44 = not_operator x 44 o refl in
    λ i. if s32 i || s10 i || s13 i || s9 i then scan.Levels n flag
    else if q i then scan.Text n
    else if o123 i || o91 i then opened n flag (x == 91)
    else if o125 i || o93 i then closed n
    else scan.Levels n (o58 i || o44 i)

-- a byte that ends no string and escapes nothing
abbrev IsInside : ℕ → Type 0
IsInside x = ((x == 34) ≡ false) × ((x == 92) ≡ false)

operator_inside : (x : ℕ) → is_operator x ≡ true → IsInside x
operator_inside x h = (differ is_operator x 34 true h false≢true, differ is_operator x 92 true h false≢true)

space_inside : (x : ℕ) → is_space x ≡ true → IsInside x
space_inside x h = (differ is_space x 34 true h false≢true, differ is_space x 92 true h false≢true)

text_stays : (x n : ℕ) (xs : List ℕ) → IsInside x → EndsWhole scan.Torn xs → EndsWhole (scan.Text n) xs → EndsWhole (in_text n x) xs
text_stays x n xs (q, b) torn goes =
    let same : in_text n x ≡ (if x == 10 then scan.Torn else scan.Text n) =
    λ i. if q i then scan.Levels n false else if b i then scan.Escape n else if x == 10 then scan.Torn else scan.Text n in
    subst (λ s. EndsWhole s xs) (sym same) (either_scan (x == 10) xs scan.Torn (scan.Text n) torn goes)

-- a token that may be in its place
allowed : (b : Bool) (t : Token) (k : Place → List Token) (next : Place) (n : ℕ) (may : Bool) → EndsLevels n may (if_allowed b t k next) → (b ≡ true) × EndsLevels n may (t ∷ k next)
allowed true t k next n may h = (refl, h)
allowed false t k next n may h = absurd h

-- what comes after a string or a word, where no level may begin
abbrev GoesBehind : (k : Place → List Token) → ℕ → Type 0
GoesBehind k n = (p : Place) × (may_begin p ≡ false) × EndsLevels n true (k p)

behind_string : (o : Option (List ℕ)) (p : Place) (is_key : Bool) (k : Place → List Token) (n : ℕ) (may : Bool)
    → EndsLevels n may (place_token p (string_token o) is_key k) → GoesBehind k n
behind_string None p is_key k n may h = absurd h
behind_string (Some s) p true k n may h = (after_key, refl, (allowed (may_begin p) (Token.key s) k after_key n may h).1)
behind_string (Some s) p false k n may h = (after_value, refl, (allowed (may_begin p) (Token.string s) k after_value n may h).1)

behind_word : (t : List ℕ) (w : Token) (p : Place) (is_key : Bool) (k : Place → List Token) (n : ℕ) (may : Bool)
    → IsWordOf t w → EndsLevels n may (place_token p w is_key k) → IsBare t × EndsLevels n true (k after_value)
behind_word t Token.begin_object p is_key k n may is h = absurd is
behind_word t Token.end_object p is_key k n may is h = absurd is
behind_word t Token.begin_array p is_key k n may is h = absurd is
behind_word t Token.end_array p is_key k n may is h = absurd is
behind_word t (Token.key s) p is_key k n may is h = absurd is
behind_word t (Token.string s) p is_key k n may is h = absurd is
behind_word t (Token.number s) p is_key k n may is h = (is, (allowed (may_begin p) (Token.number s) k after_value n may h).1)
behind_word t (Token.boolean b) p is_key k n may is h = (is, (allowed (may_begin p) (Token.boolean b) k after_value n may h).1)
behind_word t Token.null p is_key k n may is h = (is, (allowed (may_begin p) Token.null k after_value n may h).1)
behind_word t Token.bad p is_key k n may is h = absurd h

module _ (x : ℕ) (xs : List ℕ) (ih : (m : Mode) → Goes m xs) where
  -- a level begins, whose first value may be a level or not
  level_begins : (p : Place) (n : ℕ) (flag may inside : Bool) → FitsFlag flag p may → may_begin p ≡ true → may ≡ true
      → EndsLevels (suc n) inside (punctuate fresh (lex between xs)) → EndsWhole (opened n flag inside) xs
  level_begins p n false may inside fits begins may' h =
      elim (fits refl) [
        | inl e ↦ absurd (true≢false (sym begins ∙ e))
        | inr e ↦ absurd (true≢false (sym may' ∙ e))
      ]
  level_begins p n true may inside fits begins may' h =
      let same : suc n ≡ n + 1 = omega arith in
      either_scan (nat_lt n (2 ^ 27)) xs (scan.Levels (n + 1) inside) scan.Torn
      (ih between fresh (n + 1) inside inside tt (λ e. inr e) (subst (λ k. EndsLevels k inside (punctuate fresh (lex between xs))) same h))
      (torn_ends between xs fresh (suc n) inside h)

  level_ends : (n : ℕ) → EndsOther n (punctuate after_value (lex between xs)) → EndsWhole (closed n) xs
  level_ends n (inl (one, none)) = subst (λ k. EndsWhole (closed k) xs) (sym one) (whole_ends xs)
  level_ends n (inr (more, h)) =
      let same : closed n ≡ scan.Levels (n - 1) false = ap (λ b. if b then scan.Levels (n - 1) false else scan.Whole) (lt-ltb 1 n more) in
      subst (λ s. EndsWhole s xs) (sym same) (ih between after_value (n - 1) false true tt (λ e. inl refl) h)

  colon_goes : (p : Place) (n : ℕ) (may : Bool) → EndsLevels n may (punctuate p (colon ∷ lex between xs)) → EndsWhole (scan.Levels n true) xs
  unfolding punctuate
  colon_goes fresh n may h = absurd h
  colon_goes after_value n may h = absurd h
  colon_goes after_comma n may h = absurd h
  colon_goes after_key n may h = ih between fresh n true may tt (λ e. absurd (true≢false e)) h

  comma_goes : (p : Place) (n : ℕ) (may : Bool) → EndsLevels n may (punctuate p (comma ∷ lex between xs)) → EndsWhole (scan.Levels n true) xs
  unfolding punctuate
  comma_goes fresh n may h = absurd h
  comma_goes after_value n may h = ih between after_comma n true may tt (λ e. absurd (true≢false e)) h
  comma_goes after_comma n may h = absurd h
  comma_goes after_key n may h = absurd h

  operator_goes : (p : Place) (n : ℕ) (flag may : Bool) → is_operator x ≡ true → FitsFlag flag p may
      → EndsLevels n may (punctuate p (operator_lexeme x ∷ lex between xs)) → EndsWhole (in_levels n flag x) xs
  unfolding punctuate
  operator_goes p n flag may is fits =
      let k : Place → List Token = λ next. punctuate next (lex between xs) in
      an_operator (λ y. EndsLevels n may (punctuate p (operator_lexeme y ∷ lex between xs)) → EndsWhole (in_levels n flag y) xs) x
      (λ h. let begun = allowed (may_begin p) Token.begin_object k fresh n may h in level_begins p n flag may false fits begun.0 begun.1.0 begun.1.1)
      (λ h. level_ends n (allowed (may_close p) Token.end_object k after_value n may h).1)
      (λ h. let begun = allowed (may_begin p) Token.begin_array k fresh n may h in level_begins p n flag may true fits begun.0 begun.1.0 begun.1.1)
      (λ h. level_ends n (allowed (may_close p) Token.end_array k after_value n may h).1)
      (colon_goes p n may) (comma_goes p n may) is

  -- one byte more, of this class
  byte_goes : (m : Mode) (c : Class) (p : Place) (n : ℕ) (flag may : Bool) → IsOf c x × (IsBare (x ∷ xs) → IsBareByte c (IsBare xs))
      → FitsMode m (IsBareByte c (IsBare xs)) flag × FitsFlag flag p may → EndsLevels n may (punctuate p (lex_byte m c x xs (λ next. lex next xs))) → EndsWhole (step (scan_in m n flag) x) xs
  unfolding punctuate
  byte_goes between quote p n flag may (is, bare) (fits, free) h =
      let behind = behind_string (content plain xs) p (begins_colon (lex in_string xs)) (λ next. punctuate next (lex in_string xs)) n may h in
      subst (λ y. EndsWhole (in_levels n flag y) xs) (sym is) (ih in_string behind.0 n false true refl (λ e. inl behind.1) behind.2)
  byte_goes between backslash p n flag may (is, bare) (fits, free) h = absurd h
  byte_goes between operator p n flag may (is, bare) (fits, free) h = operator_goes p n flag may is free h
  byte_goes between space p n flag may (is, bare) (fits, free) h = subst (λ s. EndsWhole s xs) (sym (space_stays x n flag is)) (ih between p n flag may tt free h)
  byte_goes between other p n flag may (is, bare) (fits, free) h =
      let behind = behind_word (x ∷ xs) (word (x ∷ xs)) p (begins_colon (lex in_word xs)) (λ next. punctuate next (lex in_word xs)) n may (word_of (x ∷ xs)) h in
      subst (λ s. EndsWhole s xs) (sym (other_stays x n flag is)) (ih in_word after_value n false true (bare behind.0, refl) (λ e. inl refl) behind.1)
  byte_goes in_word quote p n flag may (is, bare) (fits, free) h = absurd fits.0
  byte_goes in_word backslash p n flag may (is, bare) (fits, free) h = absurd fits.0
  byte_goes in_word operator p n flag may (is, bare) (fits, free) h = operator_goes p n flag may is free h
  byte_goes in_word space p n flag may (is, bare) (fits, free) h = subst (λ s. EndsWhole s xs) (sym (space_stays x n flag is)) (ih between p n flag may tt free h)
  byte_goes in_word other p n flag may (is, bare) (fits, free) h =
      subst (λ s. EndsWhole s xs) (sym (other_stays x n flag is)) (ih in_word p n false may (fits.0, refl) (λ e. free fits.1) h)
  byte_goes in_string quote p n flag may (is, bare) (fits, free) h =
      subst (λ y. EndsWhole (in_text n y) xs) (sym is) (ih between p n false may tt (λ e. free fits) h)
  byte_goes in_string backslash p n flag may (is, bare) (fits, free) h = subst (λ y. EndsWhole (in_text n y) xs) (sym is) (ih in_escape p n flag may fits free h)
  byte_goes in_string operator p n flag may (is, bare) (fits, free) h =
      text_stays x n xs (operator_inside x is) (torn_ends in_string xs p n may h) (ih in_string p n flag may fits free h)
  byte_goes in_string space p n flag may (is, bare) (fits, free) h =
      text_stays x n xs (space_inside x is) (torn_ends in_string xs p n may h) (ih in_string p n flag may fits free h)
  byte_goes in_string other p n flag may (is, bare) (fits, free) h =
      text_stays x n xs (is.0, is.1) (torn_ends in_string xs p n may h) (ih in_string p n flag may fits free h)
  byte_goes in_escape c p n flag may (is, bare) (fits, free) h =
      either_scan (x == 10) xs scan.Torn (scan.Text n) (torn_ends in_string xs p n may h) (ih in_string p n flag may fits free h)

goes : (xs : List ℕ) (m : Mode) → Goes m xs
unfolding lex
goes [] m = λ p n flag may fits free h stays. absurd (no_end p n may h)
goes (x ∷ xs) m = λ p n flag may fits free h stays. byte_goes x xs (goes xs) m (class x) p n flag may (is_of_class x, λ b. b) (fits, free) h stays.1

abbrev ScansWhole : List ℕ → Type 0
ScansWhole text = scanned text ≡ scan.Whole

object_is_whole : (text : List ℕ) (ms : Members) → StaysOpen start text → tokens text ≡ json_tokens (json.object ms) → ScansWhole text
object_is_whole text ms stays is = goes text between fresh 0 true true tt (λ e. absurd (true≢false e)) (subst (λ l. EndsLevels 0 true l) (sym is) (object_ends ms)) stays

says_whole : (text : List ℕ) (es : Entries) → StaysOpen start text → Says text es → ScansWhole text
says_whole text es stays (json.null, is, means) = absurd means
says_whole text es stays (json.boolean b, is, means) = absurd means
says_whole text es stays (json.number s, is, means) = absurd means
says_whole text es stays (json.string s, is, means) = absurd means
says_whole text es stays (json.array js, is, means) = absurd means
says_whole text es stays (json.object ms, is, means) = object_is_whole text ms stays is

-- what is no text can't go on
torn_for_good : (xs : List ℕ) → IsOpen (fold step scan.Torn xs) → ⊥
torn_for_good [] h = h
torn_for_good (x ∷ xs) h = torn_for_good xs h

was_open : (s : Scan) (xs : List ℕ) → IsOpen (fold step s xs) → IsOpen s
was_open (scan.Levels n may) xs h = tt
was_open (scan.Text n) xs h = tt
was_open (scan.Escape n) xs h = tt
was_open scan.Torn xs h = torn_for_good xs h
was_open scan.Whole [] h = h
was_open scan.Whole (x ∷ xs) h = torn_for_good xs h

stays_open : (s : Scan) (xs : List ℕ) → IsOpen (fold step s (take (length xs - 1) xs)) → StaysOpen s xs
stays_open s [] h = tt
stays_open s (x ∷ []) h = (h, tt)
stays_open s (x ∷ y ∷ ys) h =
    let same : length (x ∷ y ∷ ys) - 1 ≡ suc (length (y ∷ ys) - 1) = omega arith in
    let more = subst (λ n. IsOpen (fold step s (take n (x ∷ y ∷ ys)))) same h in
    (was_open s (x ∷ take (length (y ∷ ys) - 1) (y ∷ ys)) more, stays_open (step s x) (y ∷ ys) more)

open_front : (text : List ℕ) (n : ℕ) → IsOpen (scanned text) → IsOpen (scanned (take n text))
open_front text n h =
    was_open (scanned (take n text)) (drop n text)
    (subst (λ (s : Scan). IsOpen s) (ap scanned (sym (take-append-drop n text)) ∙ fold-append step start (take n text) (drop n text)) h)

whole_if : (text : List ℕ) (s : Scan) → scanned text ≡ s → (¬ IsOpen s → IsOpen (scanned (take (length text - 1) text))) → (StaysOpen start text → ScansWhole text) → ScansWhole text
whole_if text (scan.Levels n may) is last shown = shown (stays_open start text (open_front text (length text - 1) (subst (λ (s : Scan). IsOpen s) (sym is) tt)))
whole_if text (scan.Text n) is last shown = shown (stays_open start text (open_front text (length text - 1) (subst (λ (s : Scan). IsOpen s) (sym is) tt)))
whole_if text (scan.Escape n) is last shown = shown (stays_open start text (open_front text (length text - 1) (subst (λ (s : Scan). IsOpen s) (sym is) tt)))
whole_if text scan.Whole is last shown = is
whole_if text scan.Torn is last shown = shown (stays_open start text (last (λ h. h)))

-- what is read for a text is whole, if it says a document
said_is_whole : (ahead : List ℕ) (found : Scanned) (es : Entries) → ScansAhead ahead found → Says (take found.len ahead) es → ScansWhole (take found.len ahead)
said_is_whole ahead found es scans says =
    let text = take found.len ahead in
    let same : take (length text - 1) text ≡ take (found.len - 1) ahead =
    ap (λ n. take (n - 1) text) (length-take-le found.len ahead scans.within) ∙ take-take (found.len - 1) found.len ahead (omega arith) in
    let last : ¬ IsOpen (scanned text) → IsOpen (scanned (take (length text - 1) text)) =
    λ done. subst (λ l. IsOpen (scanned l)) (sym same) (scans.last (λ h. done (subst (λ (s : Scan). IsOpen s) scans.scan h))).1 in
    whole_if text (scanned text) refl last (λ stays. says_whole text es stays says)

module _ (ahead : List ℕ) (found : Scanned) (brace : HasBrace ahead) (scans : ScansAhead ahead found) where
  as_text : ScansAs (take found.len ahead)
  as_text = scans_as ahead found.len brace scans.most

  says_whole_text : (es : Entries) → Says (take found.len ahead) es → IsOneText (take found.len ahead)
  says_whole_text es says = as_text.whole (said_is_whole ahead found es scans says)

  pub unended_says_none : ¬ IsOneText (take found.len ahead) → SaysNone (take found.len ahead)
  unended_says_none never = λ es says. never (says_whole_text es says)

  -- where the scan isn't at the end of the text, it is none
  pub torn_is_none : ¬ (found.scan ≡ scan.Whole) → ¬ IsOneText (take found.len ahead)
  torn_is_none torn whole = torn (scans.scan ∙ as_text.is_whole whole)

  pub has_begun : (n : ℕ) → ScansBegun (take found.len ahead) n → HasBegun (take found.len ahead) n
  has_begun n begun = (λ goes. begun.0 (as_text.is_open goes), λ no. begun.1 (λ open'. no (as_text.goes open')))

  -- the whole text is there
  module _ (t : Turn) (may : may_come t ≡ true) where
    text_there : IsOneText (take found.len ahead) → IsWholeText t (take found.len ahead)
    text_there whole = record { may_be = may; whole = whole; most = subst (λ (n : ℕ). n ≤ 2 ^ 27) (sym (length-take-le found.len ahead scans.within)) scans.most }

    pub written_there : (document : List ℕ) → IsWritten (take found.len ahead) document → IsWholeText t (take found.len ahead)
    written_there document written = text_there (says_whole_text written.0 written.1)

    pub scanned_there : found.scan ≡ scan.Whole → IsWholeText t (take found.len ahead)
    scanned_there is = text_there (as_text.whole (sym scans.scan ∙ is))
