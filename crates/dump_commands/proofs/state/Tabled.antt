-- How what was counted of elements grows by one more.
use Rattle.std.proofs.Common.{◌≡◌, ◌+◌, ◌<◌, ◌≤◌, ℕ, zero, suc, List, [], ◌∷◌, ◌++◌, Bool, true, false, not, Option, None, Some, Ok, ap, append-nil, append_assoc, arith, bytes_eq, codes, cond, decimal, drop, flat_map, get_or, length, map, min, nat_lt, position, refl, subst, sym, take, ◌∙◌}
use Rattle.std.proofs.lemmas.Bool.{le-ltb, lt-ltb}
use Rattle.std.proofs.lemmas.Grind.{flat_map-append}
use Rattle.std.proofs.lemmas.List.{at_drop_more, length-map, map_push, take_more}
use Rattle.std.proofs.lemmas.Map.Keys.{IsDistinct-head, IsDistinct-tail}
use Rattle.std.proofs.lemmas.Slice.Eq.{bytes_eq-Decides}
use Rattle.std.specs.List.{AllByRecursion, IsDistinct, position_or_len}
use Rattle.raw_form.specs.Tokens.{Flattens, HasTokens, filled_from}
use Rattle.raw_form.specs.declared.token.Token.{Token}
use Rattle.raw_tree.specs.declared.reader.limits.Limits.{Limits}
use Rattle.raw_view.specs.declared.element_type.ElementType.{ElementType}
use Rattle.dump_commands.specs.state.Fields.{Field, Table, kind_words, kinds, kinds_text, leave_out, numbers_text, rows_text, row_line, with_field, with_path, with_value}
use Rattle.dump_io.specs.lines.Origins.{Origin}
use Rattle.dump_commands.specs.declared.state.rows.Row.{Row}

-- tokens

module _ {X : Type 0} where
  -- what is put in front of a room with place for it
  filled_front : (room items : List X) → length items ≤ length room → take (length items) (filled_from 0 room items) ≡ items
  filled_front [] [] few = refl
  filled_front [] (x ∷ items) few = absurd (omega (arith, few))
  filled_front (r ∷ room) [] few = refl
  filled_front (r ∷ room) (x ∷ items) few = ap (λ (l : List X). x ∷ l) (filled_front room items (omega (arith, few)))

  pub front_taken : (xs ys : List X) → take (length xs) (xs ++ ys) ≡ xs
  front_taken [] ys = refl
  front_taken (x ∷ xs) ys = ap (λ (l : List X). x ∷ l) (front_taken xs ys)

-- the tokens of a document for which there is room
pub tokens_whole : (limits : Limits) (b : List ℕ) (before after : List Token) (count : ℕ) → Flattens limits b before after (Ok count) → count ≤ length before
    → HasTokens limits.depth 0 0 b (take count after)
tokens_whole limits b before after count (ts, t, reads, has, size, filled) few =
    let same : take count after ≡ ts =
    ap (λ (n : ℕ). take n after) size ∙ ap (take (length ts)) filled ∙ filled_front before ts (subst (λ (n : ℕ). n ≤ length before) size few) in
    subst (HasTokens limits.depth 0 0 b) (sym same) has

-- paths

-- the place of an image is that of what it is of
place_map : {X Y : Type 0} (f : X → Y) (p : Y → Bool) (xs : List X) → position_or_len p (map f xs) ≡ position_or_len (λ x. p (f x)) xs
place_map f p [] = refl
place_map f p (x ∷ xs) = ap (λ (n : ℕ). cond (not (p (f x))) (1 + n) 0) (place_map f p xs)

pub position_map : {X Y : Type 0} (f : X → Y) (p : Y → Bool) (xs : List X) → position p (map f xs) ≡ position (λ x. p (f x)) xs
position_map f p xs = λ i. cond (nat_lt (place_map f p xs i) (length-map xs f i)) (Some (place_map f p xs i)) None

unlike : (a b : List ℕ) → bytes_eq a b ≡ false → bytes_eq b a ≡ false
unlike a b h =
    elim (bytes_eq b a) as (λ x. bytes_eq b a ≡ x → x ≡ false) [
      | true ↦ λ e. let same : a ≡ b = sym ((bytes_eq-Decides b a).0 e) in let yes : bytes_eq a b ≡ true = (bytes_eq-Decides a b).1 same in cc
      | false ↦ λ e. refl
    ] refl

module _ {X : Type 0} where
  pub all_at : (P : X → Type 0) (xs : List X) (i : ℕ) (d : X) → AllByRecursion P xs → i < length xs → P (get_or xs i d)
  all_at P [] i d all there = absurd (omega (arith, there))
  all_at P (x ∷ xs) zero d all there = all.0
  all_at P (x ∷ xs) (suc i) d all there = all_at P xs i d all.1 (omega (arith, there))

module _ {X : Type 0} (f : X → List ℕ) (a : List ℕ) where
  -- the first place of one that is nowhere twice is where it is
  first_at : (xs : List X) (i : ℕ) (d : X) → IsDistinct (λ x y. bytes_eq (f x) (f y)) xs → i < length xs → f (get_or xs i d) ≡ a
      → position_or_len (λ x. bytes_eq a (f x)) xs ≡ i
  first_at [] i d distinct there same = absurd (omega (arith, there))
  first_at (x ∷ xs) zero d distinct there same =
      let here : bytes_eq a (f x) ≡ true = (bytes_eq-Decides a (f x)).1 (sym same) in
      ap (λ (b : Bool). cond (not b) (1 + position_or_len (λ (y : X). bytes_eq a (f y)) xs) 0) here
  first_at (x ∷ xs) (suc i) d distinct there same =
      let eq : X → X → Bool = λ y z. bytes_eq (f y) (f z) in
      let within : i < length xs = omega (arith, there) in
      let apart : bytes_eq (f x) (f (get_or xs i d)) ≡ false = all_at (λ (y : X). bytes_eq (f x) (f y) ≡ false) xs i d (IsDistinct-head eq x xs distinct) within in
      let other : bytes_eq a (f x) ≡ false = unlike (f x) a (ap (bytes_eq (f x)) (sym same) ∙ apart) in
      let rest = first_at xs i d (IsDistinct-tail eq x xs distinct) within same in
      ap (λ (b : Bool). cond (not b) (1 + position_or_len (λ (y : X). bytes_eq a (f y)) xs) 0) other ∙ ap (λ (n : ℕ). 1 + n) rest ∙ omega arith

  pub found_at : (xs : List X) (i : ℕ) (d : X) → IsDistinct (λ x y. bytes_eq (f x) (f y)) xs → i < length xs → bytes_eq (f (get_or xs i d)) a ≡ true
      → position (λ x. bytes_eq a (f x)) xs ≡ Some i
  found_at xs i d distinct there same =
      let first : position_or_len (λ (x : X). bytes_eq a (f x)) xs ≡ i = first_at xs i d distinct there ((bytes_eq-Decides (f (get_or xs i d)) a).0 same) in
      ap (λ (n : ℕ). cond (nat_lt n (length xs)) (Some n) None) first ∙ ap (λ (b : Bool). cond b (Some i) None) (lt-ltb i (length xs) there)

-- a path isn't too long
pub with_short : (place : Origin) (t : Table) (f : Field) (found : Option ℕ) → length f.path ≤ 4096 → position (bytes_eq f.path) t.paths ≡ found
    → with_field place t f ≡ with_value place t f found
with_short place t f found short is =
    ap (λ (b : Bool). cond b (leave_out t) (with_value place t f (position (bytes_eq f.path) t.paths))) (le-ltb 4096 (length f.path) short) ∙ ap (with_value place t f) is

-- a path is put after the others
pub pushed : {X : Type 0} (f : X → List ℕ) (place : Origin) (t t' : Table) (xs : List X) {ys : List X} (x : X) {path : List ℕ} (row : Row)
    → t.paths ≡ map f xs → t'.paths ≡ map f ys → ys ≡ xs ++ x ∷ [] → f x ≡ path → (t'.most ≡ t.most) × (t'.documents ≡ t.documents) × (t'.left_out ≡ t.left_out)
    × (t'.firsts ≡ t.firsts ++ place ∷ []) × (t'.rows ≡ t.rows ++ row ∷ []) → t' ≡ with_path place t path row
pushed f place t t' xs x {path = path} row old new more is (most, documents, left_out, firsts, rows) =
    let paths : t'.paths ≡ t.paths ++ path ∷ [] =
    new ∙ ap (map f) more ∙ map_push f xs x ∙ ap (λ (ps : List (List ℕ)). ps ++ f x ∷ []) (sym old) ∙ ap (λ (p : List ℕ). t.paths ++ p ∷ []) is in
    λ i. record { most = most i; documents = documents i; paths = paths i; firsts = firsts i; rows = rows i; left_out = left_out i }

-- lines

-- what a list gives, as far as it was gone through
pub given_more : {X : Type 0} (f : X → List ℕ) (xs : List X) (i : ℕ) (d : X) (before text more : List ℕ) → i < length xs → text ≡ before ++ flat_map f (take i xs)
    → more ≡ text ++ f (get_or xs i d) → more ≡ before ++ flat_map f (take (i + 1) xs)
given_more f xs i d before text more there is last =
    let x = get_or xs i d in
    let all : flat_map f (take (i + 1) xs) ≡ flat_map f (take i xs) ++ f x =
    ap (flat_map f) (take_more xs i d there) ∙ flat_map-append f (take i xs) (x ∷ []) ∙ ap (λ (l : List ℕ). flat_map f (take i xs) ++ l) (append-nil (f x)) in
    last ∙ ap (λ (t : List ℕ). t ++ f x) is ∙ append_assoc before (flat_map f (take i xs)) (f x) ∙ ap (λ (l : List ℕ). before ++ l) (sym all)

module _ {X : Type 0} where
  takes_all : (xs : List X) (i : ℕ) → length xs ≤ i → take i xs ≡ xs
  takes_all [] zero all = refl
  takes_all [] (suc i) all = refl
  takes_all (x ∷ xs) zero all = absurd (omega (arith, all))
  takes_all (x ∷ xs) (suc i) all = ap (λ (l : List X). x ∷ l) (takes_all xs i (omega (arith, all)))

pub kinds_all : (row : Row) (i : ℕ) (before text : List ℕ) → length kinds ≤ i → text ≡ before ++ flat_map (kind_words row) (take i kinds) → text ≡ before ++ kinds_text row
unfolding kinds_text
kinds_all row i before text all is = is ∙ ap (λ (ks : List ElementType). before ++ flat_map (kind_words row) ks) (takes_all kinds i all)

no_first : (ps : List (List ℕ)) (rs : List Row) → rows_text ps [] rs ≡ []
no_first [] rs = refl
no_first (p ∷ ps) rs = refl

no_numbers : (ps : List (List ℕ)) (os : List Origin) → rows_text ps os [] ≡ []
no_numbers [] os = refl
no_numbers (p ∷ ps) [] = refl
no_numbers (p ∷ ps) (o ∷ os) = refl

-- there are no more lines where one of the lists ends
no_rows : (ps : List (List ℕ)) (os : List Origin) (rs : List Row) (i : ℕ) → min (min (length ps) (length os)) (length rs) ≤ i → rows_text (drop i ps) (drop i os) (drop i rs) ≡ []
no_rows [] os rs zero few = refl
no_rows [] os rs (suc i) few = refl
no_rows (p ∷ ps) [] rs zero few = refl
no_rows (p ∷ ps) [] rs (suc i) few = no_first (drop i ps) (drop (suc i) rs)
no_rows (p ∷ ps) (o ∷ os) [] zero few = refl
no_rows (p ∷ ps) (o ∷ os) [] (suc i) few = no_numbers (drop i ps) (drop i os)
no_rows (p ∷ ps) (o ∷ os) (r ∷ rs) zero few = absurd (omega (arith, few))
no_rows (p ∷ ps) (o ∷ os) (r ∷ rs) (suc i) few = no_rows ps os rs i (omega (arith, few))

pub rows_end : (text before : List ℕ) (ps : List (List ℕ)) (os : List Origin) (rs : List Row) (i : ℕ) → min (min (length ps) (length os)) (length rs) ≤ i
    → before ≡ text ++ rows_text (drop i ps) (drop i os) (drop i rs) → text ≡ before
rows_end text before ps os rs i few is = sym (is ∙ ap (λ (x : List ℕ). text ++ x) (no_rows ps os rs i few) ∙ append-nil text)

-- the next line comes after the text
pub rows_next : (text : List ℕ) {more before : List ℕ} (ps : List (List ℕ)) (os : List Origin) (rs : List Row) (i : ℕ) (p : List ℕ) (o : Origin) (r : Row)
    → (i < length ps) × (i < length os) × (i < length rs) → before ≡ text ++ rows_text (drop i ps) (drop i os) (drop i rs)
    → more ≡ text ++ row_line (get_or ps i p) (get_or os i o) (get_or rs i r)
    → before ≡ more ++ rows_text (drop (i + 1) ps) (drop (i + 1) os) (drop (i + 1) rs)
rows_next text ps os rs i p o r (path, first, row) is line =
    let rest = rows_text (drop (i + 1) ps) (drop (i + 1) os) (drop (i + 1) rs) in
    is ∙ at_drop_more (λ (xs : List (List ℕ)). text ++ rows_text xs (drop i os) (drop i rs)) ps i p path
    ∙ at_drop_more (λ (xs : List Origin). text ++ rows_text (get_or ps i p ∷ drop (i + 1) ps) xs (drop i rs)) os i o first
    ∙ at_drop_more (λ (xs : List Row). text ++ rows_text (get_or ps i p ∷ drop (i + 1) ps) (get_or os i o ∷ drop (i + 1) os) xs) rs i r row
    ∙ sym (append_assoc text (row_line (get_or ps i p) (get_or os i o) (get_or rs i r)) rest)
    ∙ ap (λ (x : List ℕ). x ++ rest) (sym line)

-- numbers are put after a text
pub numbers_told : (row : Row) (t a b c d : List ℕ) → a ≡ t ++ codes "documents: " → b ≡ a ++ decimal row.documents → c ≡ b ++ codes ", longest: " → d ≡ c ++ decimal row.longest
    → d ≡ t ++ numbers_text row
unfolding numbers_text
numbers_told row t a b c d first second third fourth =
    let x = codes "documents: " in
    let y = decimal row.documents in
    let z = codes ", longest: " in
    let w = decimal row.longest in
    fourth ∙ ap (λ (l : List ℕ). l ++ w) (third ∙ ap (λ (l : List ℕ). l ++ z) (second ∙ ap (λ (l : List ℕ). l ++ y) first))
    ∙ ap (λ (l : List ℕ). (l ++ z) ++ w) (append_assoc t x y) ∙ ap (λ (l : List ℕ). l ++ w) (append_assoc t (x ++ y) z) ∙ append_assoc t ((x ++ y) ++ z) w
