-- Documents counted and numbered by their keys.
use Rattle.std.proofs.Common.{◌≡◌, ◌≢◌, ◌⊎◌, ◌+◌, ◌<◌, ◌≤◌, ◌++◌, ◌∷◌, [], ◌==◌, ◌∙◌, ℕ, zero, suc, List, Bool, true, false, Bor, Option, None, Some, ap, append-nil, append_assoc, bytes_eq, cond, eq-eqb, IfSome, fold, get_or, inl, inr, length, ne_eqb, arith, map, refl, slice_get, subst, sym, take, eqb, ltb, nat_lt, le-ltb, lt-ltb}
use Rattle.std.proofs.lemmas.List.{length-append, map_more}
use Rattle.std.proofs.lemmas.List.Elements.{filter-append}
use Rattle.std.proofs.lemmas.List.Sums.{fold-append}
use Rattle.std.proofs.lemmas.Map.Text.{is_eq-slice_cmp}
use Rattle.std.proofs.lemmas.Slice.Eq.{bytes_eq-Decides}
use Rattle.std.proofs.lemmas.Bool.Decides.{eqb_tells}
use Rattle.std.proofs.lemmas.Option.{slice_get_cases}
use Rattle.std.specs.BTreeMap.{BTreeMap, Updates, get, is_at}
use Rattle.std.specs.Cmp.{unsigned_ties}
use Rattle.std.specs.Cmp.Lexicographic.{slice_cmp}
use Rattle.std.specs.List.{filter}
use Rattle.std.specs.Map.{lookup}
use Rattle.std.specs.Option.{option_map}
use Rattle.std.specs.Ordering.{is_eq, nat_cmp, ordering_then}
use Rattle.std.specs.declared.cmp.Ordering.{Ordering}
use Rattle.std.specs.declared.cmp.Ordering.TheVariants.{Equal, Greater, Less}
use Rattle.dump_commands.specs.diff.Numbering.{AreCounts, AreNumbered, number_at, number_or, place_cmp, sides_at}
use Rattle.dump_commands.specs.diff.Pairs.{Told, added, change_of, count_told, keyed, partner_of, told_after, told_by, told_new, told_old}
use Rattle.dump_commands.specs.diff.Sides.{Side, side_of}
use Rattle.dump_commands.specs.declared.diff.pairs.Differences.{Differences}
use Rattle.dump_commands.specs.declared.diff.pairs.Told as code_told
use Rattle.dump_commands.specs.declared.diff.sides.Side as code

-- those of the documents and one more
keyed_more : (d : List ℕ) (ss : List Side) (s : Side) → keyed d (ss ++ s ∷ []) ≡ keyed d ss ++ cond (bytes_eq s.key d) (s ∷ []) []
keyed_more d ss s = filter-append (λ (t : Side). bytes_eq t.key d) ss (s ∷ [])

module _ (ss : List Side) (s : Side) (m : BTreeMap (List ℕ) ℕ) (are : AreCounts ss m) (count : ℕ) (is : count ≡ number_at m s.key + 1) (d : List ℕ) where
  one_more : (b : Bool) → (b ≡ true → s.key ≡ d) → number_or (cond b (Some count) (get (slice_cmp nat_cmp) m d)) ≡ length (keyed d ss ++ cond b (s ∷ []) [])
  one_more true same =
      is ∙ ap (λ (k : List ℕ). number_at m k + 1) (same refl) ∙ ap (λ (n : ℕ). n + 1) (are d) ∙ sym (length-append (keyed d ss) (s ∷ []))
  one_more false same = are d ∙ ap length (sym (append-nil (keyed d ss)))

-- one document more is counted
pub counts_more : (key : List ℕ) (m n : BTreeMap (List ℕ) ℕ) (count : ℕ) → count ≡ number_at m key + 1 → Updates (slice_cmp nat_cmp) m n key (Some count) → (ss : List Side) (s : Side)
    → s.key ≡ key → AreCounts ss m → AreCounts (ss ++ s ∷ []) n
counts_more key m n count is u ss s same are d =
    ap number_or (u.0 d ∙ ap (λ (b : Bool). cond b (Some count) (get (slice_cmp nat_cmp) m d)) (is_eq-slice_cmp key d ∙ ap (λ (k : List ℕ). bytes_eq k d) (sym same)))
    ∙ one_more ss s m are count (is ∙ ap (λ (k : List ℕ). number_at m k + 1) (sym same)) d (bytes_eq s.key d) (bytes_eq-Decides s.key d).0
    ∙ ap length (sym (keyed_more d ss s))

suc_cases : (a b : ℕ) → ((eqb a b ≡ true) × (a ≡ b)) ⊎ ((eqb a b ≡ false) × (a ≢ b)) → (a == b) ≡ (suc a == suc b)
suc_cases a b (inl (t, e)) = t ∙ sym (eq-eqb (suc a) (suc b) (ap suc e))
suc_cases a b (inr (f, n)) = f ∙ sym (ne_eqb (suc a) (suc b) (λ e. n (omega (arith, e))))

same_suc : (a b : ℕ) → (a == b) ≡ (suc a == suc b)
same_suc a b = suc_cases a b (eqb_tells a b)

-- what is at a place of a list with one element more
pub slice_get_more : {X : Type 0} (xs : List X) (x : X) (k : ℕ) → slice_get (xs ++ x ∷ []) k ≡ cond (length xs == k) (Some x) (slice_get xs k)
slice_get_more [] x zero = refl
slice_get_more [] x (suc k) = ap (λ (b : Bool). cond b (Some x) None) (sym (ne_eqb 0 (suc k) (λ e. omega (arith, e))))
slice_get_more (y ∷ xs) x zero = ap (λ (b : Bool). cond b (Some x) (Some y)) (sym (ne_eqb (length (y ∷ xs)) 0 (λ e. omega (arith, e))))
slice_get_more (y ∷ xs) x (suc k) = slice_get_more xs x k ∙ ap (λ (b : Bool). cond b (Some x) (slice_get xs k)) (same_suc (length xs) k)

pub then_is : (a b : Ordering) → is_eq (ordering_then a b) ≡ cond (is_eq a) (is_eq b) false
then_is Less b = refl
then_is Equal b = refl
then_is Greater b = refl

-- two places are the same if their keys and their numbers are
place_is : (key d : List ℕ) (n k : ℕ) → is_eq (place_cmp (key, n) (d, k)) ≡ cond (bytes_eq key d) (n == k) false
place_is key d n k = then_is (slice_cmp nat_cmp key d) (nat_cmp n k) ∙ ap (λ (b : Bool). cond b (is_eq (nat_cmp n k)) false) (is_eq-slice_cmp key d)
    ∙ ap (λ (b : Bool). cond (bytes_eq key d) b false) (sym (unsigned_ties n k))

module _ (ss : List Side) (r : Bor code.Side) (m : BTreeMap (List ℕ × ℕ) (Bor code.Side)) (are : AreNumbered ss m) (number : ℕ) (is : number ≡ length (keyed r.now.key ss)) (d : List ℕ) (k : ℕ) where
  at_number : (c : Bool) → number ≡ length (keyed d ss) → (number == k) ≡ c
      → option_map (λ (s : Bor code.Side). side_of s.now) (cond c (Some r) (get place_cmp m (d, k))) ≡ slice_get (keyed d ss ++ side_of r.now ∷ []) k
  at_number true same c = ap (λ (b : Bool). cond b (Some (side_of r.now)) (slice_get (keyed d ss) k)) (sym c ∙ ap (λ (n : ℕ). n == k) same) ∙ sym (slice_get_more (keyed d ss) (side_of r.now) k)
  at_number false same c =
      are d k ∙ ap (λ (b : Bool). cond b (Some (side_of r.now)) (slice_get (keyed d ss) k)) (sym c ∙ ap (λ (n : ℕ). n == k) same) ∙ sym (slice_get_more (keyed d ss) (side_of r.now) k)

  at_place : (b : Bool) → (b ≡ true → r.now.key ≡ d)
      → option_map (λ (s : Bor code.Side). side_of s.now) (cond (cond b (number == k) false) (Some r) (get place_cmp m (d, k))) ≡ slice_get (keyed d ss ++ cond b (side_of r.now ∷ []) []) k
  at_place true same = at_number (number == k) (is ∙ ap (λ (x : List ℕ). length (keyed x ss)) (same refl)) refl
  at_place false same = are d k ∙ ap (λ (xs : List Side). slice_get xs k) (sym (append-nil (keyed d ss)))

-- one document more is numbered
pub numbers_more : (r : Bor code.Side) (m n : BTreeMap (List ℕ × ℕ) (Bor code.Side)) (number : ℕ) → Updates place_cmp m n (r.now.key, number) (Some r) → (ss : List Side)
    → number ≡ length (keyed (side_of r.now).key ss) → AreNumbered ss m → AreNumbered (ss ++ side_of r.now ∷ []) n
numbers_more r m n number u ss is are d k =
    ap (option_map (λ (s : Bor code.Side). side_of s.now)) (u.0 (d, k) ∙ ap (λ (b : Bool). cond b (Some r) (get place_cmp m (d, k))) (place_is r.now.key d number k))
    ∙ at_place ss r m are number is d k (bytes_eq r.now.key d) (bytes_eq-Decides r.now.key d).0
    ∙ ap (λ (xs : List Side). slice_get xs k) (sym (keyed_more d ss (side_of r.now)))

-- what is found of documents and of one more
pub told_more : (one : Side → Option Side → List Told) (others before ss : List Side) (s : Side)
    → told_after one others before (ss ++ s ∷ []) ≡ told_after one others before ss ++ one s (partner_of others (before ++ ss) s)
unfolding told_after
told_more one others before [] s = append-nil (one s (partner_of others before s)) ∙ ap (λ (xs : List Side). one s (partner_of others xs s)) (sym (append-nil before))
told_more one others before (t ∷ ss) s =
    let first = one t (partner_of others before t) in
    let rest = told_after one others (before ++ t ∷ []) ss in
    ap (λ (x : List Told). first ++ x) (told_more one others (before ++ t ∷ []) ss s)
    ∙ ap (λ (xs : List Side). first ++ (rest ++ one s (partner_of others xs s))) (append_assoc before (t ∷ []) ss)
    ∙ sym (append_assoc first rest (one s (partner_of others (before ++ t ∷ ss) s)))

told_cases : (xs : List Side) (k : ℕ) (s : Side) → ((x : Side) × (k < length xs) × (slice_get xs k ≡ Some x) × (get_or xs k x ≡ x)) ⊎ ((length xs ≤ k) × (slice_get xs k ≡ None))
    → cond (nat_lt k (length xs)) [] ((s, added) ∷ []) ≡ told_new s (slice_get xs k)
told_cases xs k s (inl (x, within, is, at)) = ap (λ (b : Bool). cond b [] ((s, added) ∷ [])) (lt-ltb k (length xs) within) ∙ ap (told_new s) (sym is)
told_cases xs k s (inr (past, none)) = ap (λ (b : Bool). cond b [] ((s, added) ∷ [])) (le-ltb k (length xs) past) ∙ ap (told_new s) (sym none)

-- a document of NEW has a partner if its number is below that of the documents of OLD with its key
pub new_told : (xs : List Side) (k : ℕ) (s : Side) → cond (nat_lt k (length xs)) [] ((s, added) ∷ []) ≡ told_new s (slice_get xs k)
new_told xs k s = told_cases xs k s (slice_get_cases xs k).1

-- what is found of one document more is put after the rest
pub told_next : (told_one : Side → Option Side → List Told) (initial : List Told) (others taken : List Side) (s : Side) (mid new one : List Told)
    → one ≡ told_one s (partner_of others taken s) → mid ≡ initial ++ told_after told_one others [] taken → new ≡ mid ++ one
    → new ≡ initial ++ told_after told_one others [] (taken ++ s ∷ [])
told_next told_one initial others taken s mid new one found so_far put =
    let before = told_after told_one others [] taken in
    put ∙ ap (λ (x : List Told). x ++ one) so_far ∙ append_assoc initial before one
    ∙ ap (λ (x : List Told). initial ++ (before ++ x)) found ∙ ap (λ (x : List Told). initial ++ x) (sym (told_more told_one others [] taken s))

-- of one of NEW
pub new_found : (olds taken : List Side) (s : Side) (number count : ℕ) (one : List Told) → number ≡ length (keyed s.key taken) → count ≡ length (keyed s.key olds)
    → one ≡ cond (nat_lt number count) [] ((s, added) ∷ []) → one ≡ told_new s (partner_of olds taken s)
new_found olds taken s number count one is counts found =
    found ∙ ap (λ (n : ℕ). cond (nat_lt number n) [] ((s, added) ∷ [])) counts ∙ new_told (keyed s.key olds) number s
    ∙ ap (λ (n : ℕ). told_new s (slice_get (keyed s.key olds) n)) is

-- of one of OLD, with the partner that a map has
pub old_found : (news taken : List Side) (s : Side) (number : ℕ) (partner : Option Side) (one : List Told) → number ≡ length (keyed s.key taken)
    → partner ≡ slice_get (keyed s.key news) number → one ≡ told_old s partner → one ≡ told_old s (partner_of news taken s)
old_found news taken s number partner one is at found =
    found ∙ ap (told_old s) at ∙ ap (λ (n : ℕ). told_old s (slice_get (keyed s.key news) n)) is

module _ (sides : List (Bor code.Side)) (i : ℕ) (x : Bor code.Side) (within : i < length sides) where
  -- the first of them, and the next one
  taken_more : sides_at (take (i + 1) sides) ≡ sides_at (take i sides) ++ side_of (get_or sides i x).now ∷ []
  taken_more = map_more (λ (s : Bor code.Side). side_of s.now) sides i x within

  pub next_counts : (counts : BTreeMap (List ℕ) ℕ) → AreCounts (sides_at (take i sides) ++ side_of (get_or sides i x).now ∷ []) counts → AreCounts (sides_at (take (i + 1) sides)) counts
  next_counts counts are = subst (λ (ss : List Side). AreCounts ss counts) (sym taken_more) are

  pub next_numbered : (all : BTreeMap (List ℕ × ℕ) (Bor code.Side)) → AreNumbered (sides_at (take i sides) ++ side_of (get_or sides i x).now ∷ []) all
      → AreNumbered (sides_at (take (i + 1) sides)) all
  next_numbered all are = subst (λ (ss : List Side). AreNumbered ss all) (sym taken_more) are

  pub next_told : (told_one : Side → Option Side → List Told) (initial : List Told) (others : List Side) (new : List Told)
      → new ≡ initial ++ told_after told_one others [] (sides_at (take i sides) ++ side_of (get_or sides i x).now ∷ [])
      → new ≡ initial ++ told_after told_one others [] (sides_at (take (i + 1) sides))
  next_told told_one initial others new are = are ∙ ap (λ (ss : List Side). initial ++ told_after told_one others [] ss) (sym taken_more)

-- one more is counted
pub counted_more : (n : Differences) (told : List code_told.Told) (i : ℕ) (x : code_told.Told) (now next : Differences) (o : Option Differences) → i < length told
    → now ≡ fold count_told n (map told_by (take i told)) → o ≡ Some next → ((s : Side) → IfSome o (λ m. m ≡ count_told now (s, change_of (get_or told i x).change)))
    → next ≡ fold count_told n (map told_by (take (i + 1) told))
counted_more n told i x now next o within is some counts =
    let t = told_by (get_or told i x) in
    let next_is : next ≡ count_told now t = subst (λ (p : Option Differences). IfSome p (λ m. m ≡ count_told now t)) some (counts (side_of (get_or told i x).side.now)) in
    next_is ∙ ap (λ (m : Differences). count_told m t) is
    ∙ sym (ap (fold count_told n) (map_more told_by told i x within) ∙ fold-append count_told n (map told_by (take i told)) (t ∷ []))

-- nothing is counted
pub no_counts : (counts : BTreeMap (List ℕ) ℕ) → counts.entries ≡ [] → AreCounts [] counts
no_counts counts empty d = ap (λ (es : List (List ℕ × ℕ)). number_or (lookup (is_at (slice_cmp nat_cmp d)) es)) empty

-- nothing is found of none
pub told_none : (told_one : Side → Option Side → List Told) (others : List Side) (initial : List Told) → initial ≡ initial ++ told_after told_one others [] []
unfolding told_after
told_none told_one others initial = sym (append-nil initial)
