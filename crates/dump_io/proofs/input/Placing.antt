-- The place after bytes, counted over all of them and found one by one.
use Rattle.std.proofs.Common.{◌≡◌, ◌+◌, ◌==◌, ◌||◌, if◌then◌else◌, ℕ, Bool, true, false, List, [], ◌∷◌, ◌++◌, ap, arith, cond, count_by, fold, refl, sym, subst, ◌∙◌}
use Rattle.std.proofs.lemmas.Grind.{fold-append}
use Rattle.std.proofs.lemmas.List.Sums.{sum_by-cons}
use Rattle.std.specs.List.{list_any}
use Rattle.dump_io.specs.input.Places.{HasNoLine, begins_character, begins_line, ends_line, last_line, position_over}
use Rattle.dump_io.specs.declared.input.position.Position.{Position}

-- the place after one byte more
abbrev pub position_step : Position → ℕ → Position
position_step p b =
    if b == 10 then record { line = p.line + 1; column = 1 }
    else if begins_character b then record p { column = p.column + 1 }
    else p

no_feed : (bs : List ℕ) → list_any ends_line bs ≡ false → last_line bs ≡ bs
no_feed [] none = refl
no_feed (b ∷ bs) none = ap (λ (c : Bool). if c then last_line bs else b ∷ bs) none

abbrev characters : List ℕ → ℕ
characters bs = count_by begins_character bs

count_first : (f : ℕ → Bool) (b : ℕ) (bs : List ℕ) → count_by f (b ∷ bs) ≡ cond (f b) 1 0 + count_by f bs
count_first f b bs = sum_by-cons (λ x. cond (f x) 1 0) b bs

-- the place after one byte, of which these tests hold
abbrev behind_tests : Position → (e c : Bool) → Position
behind_tests p e c = if e then record { line = p.line + 1; column = 1 } else if c then record p { column = p.column + 1 } else p

line_first : (p : Position) (e c : Bool) → (behind_tests p e c).line ≡ p.line + cond e 1 0
line_first p true c = refl
line_first p false true = omega arith
line_first p false false = omega arith

column_first : (p : Position) (b : ℕ) (bs : List ℕ) (e c a : Bool) → (a ≡ false → last_line bs ≡ bs) → characters (b ∷ bs) ≡ cond c 1 0 + characters bs
    → (if a then 1 else (behind_tests p e c).column) + characters (last_line bs) ≡ (if e || a then 1 else p.column) + characters (if e || a then last_line bs else b ∷ bs)
column_first p b bs true c true none more = refl
column_first p b bs false c true none more = refl
column_first p b bs true c false none more = refl
column_first p b bs false true false none more = let same = ap characters (none refl) in omega arith
column_first p b bs false false false none more = let same = ap characters (none refl) in omega arith

-- one byte more in front
place_first : (p : Position) (b : ℕ) (bs : List ℕ) → position_over (position_step p b) bs ≡ position_over p (b ∷ bs)
unfolding position_over
place_first p b bs =
    let line = line_first p (b == 10) (begins_character b) in
    let more = count_first ends_line b bs in
    let lines : (position_step p b).line + count_by ends_line bs ≡ p.line + count_by ends_line (b ∷ bs) = omega arith in
    let column = column_first p b bs (b == 10) (begins_character b) (list_any ends_line bs) (no_feed bs) (count_first begins_character b bs) in
    λ i. record { line = lines i; column = column i }

pub over_fold : (p : Position) (bs : List ℕ) → fold position_step p bs ≡ position_over p bs
unfolding position_over
over_fold p [] =
    let line : p.line ≡ p.line + 0 = omega arith in
    let column : p.column ≡ p.column + 0 = omega arith in
    λ i. record { line = line i; column = column i }
over_fold p (b ∷ bs) = over_fold (position_step p b) bs ∙ place_first p b bs

pub position_on : (p : Position) (xs ys : List ℕ) → position_over p (xs ++ ys) ≡ position_over (position_over p xs) ys
position_on p xs ys =
    sym (over_fold p (xs ++ ys)) ∙ fold-append position_step p xs ys ∙ over_fold (fold position_step p xs) ys ∙ ap (λ (q : Position). position_over q ys) (over_fold p xs)

pub position_none : (p : Position) → position_over p [] ≡ p
position_none p = sym (over_fold p [])

-- no line in no bytes, in one byte more in front, and in some bytes more
pub no_line_none : (p : Position) → HasNoLine p []
no_line_none p [] b rest same = let none : ⊥ = cc in absurd none
no_line_none p (x ∷ before) b rest same = let none : ⊥ = cc in absurd none

pub no_line_first : (p : Position) (x : ℕ) (xs : List ℕ) → begins_line p x ≡ false → HasNoLine (position_over p (x ∷ [])) xs → HasNoLine p (x ∷ xs)
no_line_first p x xs here others [] b rest same =
    let first : x ≡ b = cc in
    ap (λ (q : Position). begins_line q b) (position_none p) ∙ ap (begins_line p) (sym first) ∙ here
no_line_first p x xs here others (y ∷ before) b rest same =
    let first : y ≡ x = cc in
    let after : xs ≡ before ++ b ∷ rest = cc in
    ap (λ c. begins_line (position_over p (c ∷ before)) b) first ∙ ap (λ (q : Position). begins_line q b) (position_on p (x ∷ []) before) ∙ others before b rest after

pub no_line_on : (p : Position) (xs ys : List ℕ) → HasNoLine p xs → HasNoLine (position_over p xs) ys → HasNoLine p (xs ++ ys)
no_line_on p [] ys none h = subst (λ q. HasNoLine q ys) (position_none p) h
no_line_on p (x ∷ xs) ys none h =
    let here = ap (λ (q : Position). begins_line q x) (sym (position_none p)) ∙ none [] x xs refl in
    no_line_first p x (xs ++ ys) here
    (no_line_on (position_over p (x ∷ [])) xs ys
    (λ before b rest same. ap (λ (q : Position). begins_line q b) (sym (position_on p (x ∷ []) before)) ∙ none (x ∷ before) b rest (ap (λ l. x ∷ l) same))
    (subst (λ q. HasNoLine q ys) (position_on p (x ∷ []) xs) h))
