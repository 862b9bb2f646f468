-- Documents counted by their keys and forms, and those that are left.
use Rattle.std.proofs.Common.{◌≡◌, ◌+◌, ◌-◌, ◌<◌, ◌++◌, ◌∷◌, ◌&&◌, [], ◌∙◌, ℕ, List, Bool, true, false, Bor, Option, Some, ap, append-nil, append_assoc, arith, bytes_eq, cond, get_or, length, lt-ltb, map, nat_lt, refl, sym}
use Rattle.std.proofs.lemmas.Bool.{ltb-true, ltb_from_iff}
use Rattle.std.proofs.lemmas.List.{length-append}
use Rattle.std.proofs.lemmas.List.Elements.{filter-append}
use Rattle.std.proofs.lemmas.Map.Text.{is_eq-slice_cmp}
use Rattle.std.proofs.lemmas.Slice.Eq.{bytes_eq-Decides}
use Rattle.std.specs.BTreeMap.{BTreeMap, Updates, get, is_at}
use Rattle.std.specs.Cmp.Lexicographic.{slice_cmp}
use Rattle.std.specs.Map.{lookup}
use Rattle.std.specs.Ordering.{is_eq, nat_cmp}
use Rattle.dump_commands.specs.diff.Numbering.{AreLeft, number_or, twin_cmp, twins_at}
use Rattle.dump_commands.specs.diff.Pairs.{has_twin, left_after, twins}
use Rattle.dump_commands.specs.diff.Sides.{Side, side_of}
use Rattle.dump_commands.specs.declared.diff.sides.Side as code
use Rattle.dump_commands.proofs.Pairing.{then_is}

and_cond : (a b : Bool) → cond a b false ≡ (a && b)
and_cond true b = refl
and_cond false b = refl

both : (a b : Bool) → (a && b) ≡ true → (a ≡ true) × (b ≡ true)
both true b is = (refl, is)
both false b is = let impossible : ⊥ = cc in absurd impossible

number_cond : (b : Bool) (n : ℕ) (o : Option ℕ) → number_or (cond b (Some n) o) ≡ cond b n (number_or o)
number_cond true n o = refl
number_cond false n o = refl

twins_more : (d f : List ℕ) (ss : List Side) (s : Side) → twins d f (ss ++ s ∷ []) ≡ twins d f ss ++ cond (bytes_eq s.key d && bytes_eq s.form f) (s ∷ []) []
twins_more d f ss s = filter-append (λ (t : Side). bytes_eq t.key d && bytes_eq t.form f) ss (s ∷ [])

-- what a map has after a count is put
at_put : (m n : BTreeMap (List ℕ × List ℕ) ℕ) (key form : List ℕ) (count : ℕ) → Updates twin_cmp m n (key, form) (Some count) → (d f : List ℕ)
    → twins_at n d f ≡ cond (bytes_eq key d && bytes_eq form f) count (twins_at m d f)
at_put m n key form count u d f =
    let same : is_eq (twin_cmp (key, form) (d, f)) ≡ (bytes_eq key d && bytes_eq form f) =
    then_is (slice_cmp nat_cmp key d) (slice_cmp nat_cmp form f) ∙ (λ i. cond (is_eq-slice_cmp key d i) (is_eq-slice_cmp form f i) false) ∙ and_cond (bytes_eq key d) (bytes_eq form f) in
    ap number_or (u.0 (d, f) ∙ ap (λ (b : Bool). cond b (Some count) (get twin_cmp m (d, f))) same) ∙ number_cond (bytes_eq key d && bytes_eq form f) count (get twin_cmp m (d, f))

module _ (ss taken : List Side) (s : Side) (m : BTreeMap (List ℕ × List ℕ) ℕ) (are : AreLeft ss taken m) (d f : List ℕ) where
  same_twin : (bytes_eq s.key d && bytes_eq s.form f) ≡ true → (s.key ≡ d) × (s.form ≡ f)
  same_twin e = let (k, g) = both (bytes_eq s.key d) (bytes_eq s.form f) e in ((bytes_eq-Decides s.key d).0 k, (bytes_eq-Decides s.form f).0 g)

  there : (s.key ≡ d) × (s.form ≡ f) → twins_at m s.key s.form ≡ length (twins d f ss) - length (twins d f taken)
  there (k, g) = (λ i. twins_at m (k i) (g i)) ∙ are d f

  -- one is taken away
  taken_at : (b : Bool) → (b ≡ true → (s.key ≡ d) × (s.form ≡ f)) → cond b (twins_at m s.key s.form - 1) (twins_at m d f) ≡ length (twins d f ss) - length (twins d f taken ++ cond b (s ∷ []) [])
  taken_at true same = omega (arith, there (same refl), length-append (twins d f taken) (s ∷ []))
  taken_at false same = are d f ∙ ap (λ (xs : List Side). length (twins d f ss) - length xs) (sym (append-nil (twins d f taken)))

  -- none is left
  none_at : (b : Bool) → (b ≡ true → (s.key ≡ d) × (s.form ≡ f)) → twins_at m s.key s.form ≡ 0 → twins_at m d f ≡ length (twins d f ss) - length (twins d f taken ++ cond b (s ∷ []) [])
  none_at true same none = omega (arith, none, are d f, there (same refl), length-append (twins d f taken) (s ∷ []))
  none_at false same none = are d f ∙ ap (λ (xs : List Side). length (twins d f ss) - length xs) (sym (append-nil (twins d f taken)))

  -- there is one more
  added_at : (b : Bool) → (b ≡ true → (s.key ≡ d) × (s.form ≡ f)) → length (twins d f taken) ≡ 0
      → cond b (twins_at m s.key s.form + 1) (twins_at m d f) ≡ length (twins d f ss ++ cond b (s ∷ []) []) - length (twins d f taken)
  added_at true same none = omega (arith, none, there (same refl), length-append (twins d f ss) (s ∷ []))
  added_at false same none = are d f ∙ ap (λ (xs : List Side). length xs - length (twins d f taken)) (sym (append-nil (twins d f ss)))

module _ (s : Side) (m n : BTreeMap (List ℕ × List ℕ) ℕ) (count : ℕ) (u : Updates twin_cmp m n (s.key, s.form) (Some count)) where
  pub left_taken : count ≡ twins_at m s.key s.form - 1 → (ss taken : List Side) → AreLeft ss taken m → AreLeft ss (taken ++ s ∷ []) n
  left_taken is ss taken are d f =
      let b = bytes_eq s.key d && bytes_eq s.form f in
      at_put m n s.key s.form count u d f ∙ ap (λ (k : ℕ). cond b k (twins_at m d f)) is ∙ taken_at ss taken s m are d f b (same_twin ss taken s m are d f)
      ∙ ap (λ (xs : List Side). length (twins d f ss) - length xs) (sym (twins_more d f taken s))

  pub left_added : count ≡ twins_at m s.key s.form + 1 → (ss : List Side) → AreLeft ss [] m → AreLeft (ss ++ s ∷ []) [] n
  left_added is ss are d f =
      let b = bytes_eq s.key d && bytes_eq s.form f in
      at_put m n s.key s.form count u d f ∙ ap (λ (k : ℕ). cond b k (twins_at m d f)) is ∙ added_at ss [] s m are d f b (same_twin ss [] s m are d f) refl
      ∙ ap (λ (xs : List Side). length xs - length (twins d f [])) (sym (twins_more d f ss s))

pub left_same : (s : Side) (m : BTreeMap (List ℕ × List ℕ) ℕ) → twins_at m s.key s.form ≡ 0 → (ss taken : List Side) → AreLeft ss taken m → AreLeft ss (taken ++ s ∷ []) m
left_same s m none ss taken are d f =
    none_at ss taken s m are d f (bytes_eq s.key d && bytes_eq s.form f) (same_twin ss taken s m are d f) none
    ∙ ap (λ (xs : List Side). length (twins d f ss) - length xs) (sym (twins_more d f taken s))

-- nothing is counted
pub none_left : (m : BTreeMap (List ℕ × List ℕ) ℕ) → m.entries ≡ [] → AreLeft [] [] m
none_left m empty d f = ap (λ (es : List ((List ℕ × List ℕ) × ℕ)). number_or (lookup (is_at (twin_cmp (d, f))) es)) empty

-- a document is the same in the other input if one is left there
some_left : (a b : ℕ) → nat_lt 0 (b - a) ≡ nat_lt a b
some_left a b = ltb_from_iff (λ e. omega (arith, ltb-true 0 (b - a) e), λ h. lt-ltb 0 (b - a) (omega (arith, h)))

twin_found : (m : BTreeMap (List ℕ × List ℕ) ℕ) (others taken : List Side) (s : Side) → AreLeft others taken m → nat_lt 0 (twins_at m s.key s.form) ≡ has_twin others taken s
twin_found m others taken s are = ap (nat_lt 0) (are s.key s.form) ∙ some_left (length (twins s.key s.form taken)) (length (twins s.key s.form others))

left_more : (others before ss : List Side) (s : Side) → left_after others before (ss ++ s ∷ []) ≡ left_after others before ss ++ cond (has_twin others (before ++ ss) s) [] (s ∷ [])
unfolding left_after
left_more others before [] s = append-nil (cond (has_twin others before s) [] (s ∷ [])) ∙ ap (λ (xs : List Side). cond (has_twin others xs s) [] (s ∷ [])) (sym (append-nil before))
left_more others before (t ∷ ss) s =
    let first = cond (has_twin others before t) [] (t ∷ []) in
    let rest = left_after others (before ++ t ∷ []) ss in
    ap (λ (x : List Side). first ++ x) (left_more others (before ++ t ∷ []) ss s)
    ∙ ap (λ (xs : List Side). first ++ (rest ++ cond (has_twin others xs s) [] (s ∷ []))) (append_assoc before (t ∷ []) ss)
    ∙ sym (append_assoc first rest (cond (has_twin others (before ++ t ∷ ss) s) [] (s ∷ [])))

-- one more is taken, or left
pub left_next : (m : BTreeMap (List ℕ × List ℕ) ℕ) (others taken mid new : List Side) (s : Side) (same : Bool) → AreLeft others taken m → same ≡ nat_lt 0 (twins_at m s.key s.form)
    → mid ≡ left_after others [] taken → new ≡ mid ++ cond same [] (s ∷ []) → new ≡ left_after others [] (taken ++ s ∷ [])
left_next m others taken mid new s same are is so_far put =
    put ∙ (λ i. so_far i ++ cond ((is ∙ twin_found m others taken s are) i) [] (s ∷ [])) ∙ sym (left_more others [] taken s)

pub left_none : (others : List Side) → [] ≡ left_after others [] []
unfolding left_after
left_none others = refl
