-- Paths by numbers: each follows one with a lower number, no two are the same, and the number of a path is found by its step.
use Rattle.std.proofs.Common.{◌≡◌, ◌≢◌, ◌⊎◌, inl, inr, ◌<◌, ◌+◌, ◌&&◌, ◌∙◌, ℕ, zero, suc, List, [], ◌∷◌, ◌++◌, Bool, true, false, Option, None, Some, Bor, ap, append_assoc, arith, bytes_eq, cond, fold, get_or, length, nat_eq, refl, rules, subst, sym}
use Rattle.std.proofs.lemmas.Bool.Decides.{Decides-eqb}
use Rattle.std.proofs.lemmas.Cmp.{nat_list_eq_equiv}
use Rattle.std.proofs.lemmas.List.{get_or_append_left, get_or_at, get_or_push, length_push}
use Rattle.std.proofs.lemmas.List.Sums.{fold_push}
use Rattle.std.proofs.lemmas.Slice.Eq.{bytes_eq-Decides}
use Rattle.std.specs.BTreeMap.{BTreeMap, Updates, get}
use Rattle.std.specs.Cmp.{both_tied, nat_eq_equiv, unsigned_ties}
use Rattle.std.specs.Cmp.Lexicographic.{texts_ties}
use Rattle.std.specs.List.{position_from}
use Rattle.std.specs.Ordering.{eq_by_cmp}
use Rattle.dump_commands.specs.elements.Numbered.{AreApart, AreAfter, AreNumbered, HasNumber, is_step, paths_by, step_cmp, with_step}
use Rattle.dump_commands.specs.declared.elements.changes.numbers.Numbers.{Numbers}
use Rattle.dump_commands.specs.declared.elements.changes.numbers.Step.{Step}

-- the first place from a number on
module _ {X : Type 0} (t : X → Bool) where
  somewhere : (b : Bool) (i n : ℕ) (rest : Option ℕ) → cond b (Some i) rest ≡ Some n → ((b ≡ true) × (i ≡ n)) ⊎ ((b ≡ false) × (rest ≡ Some n))
  somewhere true i n rest e = inl (refl, (cc))
  somewhere false i n rest e = inr (refl, e)

  nowhere : (b : Bool) (i : ℕ) (rest : Option ℕ) → cond b (Some i) rest ≡ None → (b ≡ false) × (rest ≡ None)
  nowhere true i rest e = absurd (cc)
  nowhere false i rest e = (refl, e)

  pub found_at : (xs : List X) (i n : ℕ) (d : X) → position_from t i xs ≡ Some n → (j : ℕ) × (n ≡ i + j) × (j < length xs) × (t (get_or xs j d) ≡ true)
  found_at [] i n d e = absurd (cc)
  found_at (x ∷ xs) i n d e = elim (somewhere (t x) i n (position_from t (i + 1) xs) e) as (λ _. (j : ℕ) × (n ≡ i + j) × (j < length (x ∷ xs)) × (t (get_or (x ∷ xs) j d) ≡ true)) [
    | inl h ↦ (0, omega (arith, h.1), omega arith, h.0)
    | inr h ↦ let (j, is, within, passes) = found_at xs (i + 1) n d h.1 in (suc j, omega (arith, is), omega (arith, within), passes)
  ]

  pub not_found : (xs : List X) (i j : ℕ) (d : X) → position_from t i xs ≡ None → j < length xs → t (get_or xs j d) ≡ false
  not_found [] i j d e within = absurd (omega (arith, within))
  not_found (x ∷ xs) i zero d e within = (nowhere (t x) i (position_from t (i + 1) xs) e).0
  not_found (x ∷ xs) i (suc j) d e within = not_found xs (i + 1) j d (nowhere (t x) i (position_from t (i + 1) xs) e).1 (omega (arith, within))

  -- with one more that isn't found before, or that is
  pub found_push : (xs : List X) (y : X) (i n : ℕ) → n ≡ i + length xs → t y ≡ false → position_from t i (xs ++ y ∷ []) ≡ position_from t i xs
  found_push [] y i n is not = ap (λ (b : Bool). cond b (Some i) None) not
  found_push (x ∷ xs) y i n is not = ap (cond (t x) (Some i)) (found_push xs y (i + 1) n (omega (arith, is)) not)

  pub found_last : (xs : List X) (y : X) (i n : ℕ) → n ≡ i + length xs → t y ≡ true → position_from t i xs ≡ None → position_from t i (xs ++ y ∷ []) ≡ Some n
  found_last [] y i n is passes none = ap (λ (b : Bool). cond b (Some i) None) passes ∙ ap Some (omega (arith, is))
  found_last (x ∷ xs) y i n is passes none =
      let h = nowhere (t x) i (position_from t (i + 1) xs) none in
      ap (λ (b : Bool). cond b (Some i) (position_from t (i + 1) (xs ++ y ∷ []))) h.0 ∙ found_last xs y (i + 1) n (omega (arith, is)) passes h.1

-- more steps come after the paths that are there
pub extended : (acc : List (List (List ℕ))) (steps : List Step) → (more : List (List (List ℕ))) × (fold with_step acc steps ≡ acc ++ more) × (length more ≡ length steps)
extended acc [] = ([], search rules, refl)
extended acc (s ∷ steps) =
    let p = get_or acc s.before [] ++ s.key.now ∷ [] in
    let (more, is, len) = extended (with_step acc s) steps in
    (p ∷ more, is ∙ append_assoc acc (p ∷ []) more, ap suc len)

pub count : (steps : List Step) → length (paths_by steps) ≡ 1 + length steps
count steps =
    let (more, is, len) = extended ([] ∷ []) steps in
    omega (arith, ap length is, len)

-- a step makes its path
made : (acc : List (List (List ℕ))) (steps : List Step) (j : ℕ) (d : Step) → AreAfter (length acc) steps → j < length steps
    → (get_or (fold with_step acc steps) (length acc + j) [] ≡ get_or (fold with_step acc steps) (get_or steps j d).before [] ++ (get_or steps j d).key.now ∷ [])
    × ((get_or steps j d).before < length acc + j)
made acc [] j d order within = absurd (omega (arith, within))
made acc (s ∷ steps) zero d (low, order) within =
    let p = get_or acc s.before [] ++ s.key.now ∷ [] in
    let (more, is, len) = extended (with_step acc s) steps in
    let whole : fold with_step acc (s ∷ steps) ≡ acc ++ p ∷ more = is ∙ append_assoc acc (p ∷ []) more in
    let here : get_or (fold with_step acc (s ∷ steps)) (length acc + 0) [] ≡ p =
    ap (λ (ps : List (List (List ℕ))). get_or ps (length acc + 0) []) whole ∙ get_or_at acc p more [] (length acc + 0) (omega arith) in
    let before : get_or (fold with_step acc (s ∷ steps)) s.before [] ≡ get_or acc s.before [] =
    ap (λ (ps : List (List (List ℕ))). get_or ps s.before []) whole ∙ get_or_append_left acc (p ∷ more) [] s.before low in
    (here ∙ ap (λ (q : List (List ℕ)). q ++ s.key.now ∷ []) (sym before), omega (arith, low))
made acc (s ∷ steps) (suc j) d (low, order) within =
    let len : length (with_step acc s) ≡ suc (length acc) = length_push acc (get_or acc s.before [] ++ s.key.now ∷ []) ∙ omega arith in
    let (is, less) = made (with_step acc s) steps j d (subst (λ (n : ℕ). AreAfter n steps) (sym len) order) (omega (arith, within)) in
    let place : length (with_step acc s) + j ≡ length acc + suc j = omega (arith, len) in
    (ap (λ (n : ℕ). get_or (fold with_step acc (s ∷ steps)) n []) (sym place) ∙ is, omega (arith, less, place))

-- the path of a step
pub path_made : (steps : List Step) (j : ℕ) (d : Step) → AreAfter 1 steps → j < length steps
    → (get_or (paths_by steps) (1 + j) [] ≡ get_or (paths_by steps) (get_or steps j d).before [] ++ (get_or steps j d).key.now ∷ []) × ((get_or steps j d).before < 1 + j)
path_made steps j d order within = made ([] ∷ []) steps j d order within

pub after_push : (m : ℕ) (steps : List Step) (s : Step) → AreAfter m steps → s.before < m + length steps → AreAfter m (steps ++ s ∷ [])
after_push m [] s order low = (omega (arith, low), tt)
after_push m (x ∷ steps) s (first, order) low = (first, after_push (suc m) steps s order (omega (arith, low)))

both : (a b : Bool) → (a && b) ≡ true → (a ≡ true) × (b ≡ true)
both true b e = (refl, e)
both false b e = absurd (cc)

-- what two lists end with
last_same : {X : Type 0} (xs ys : List X) (x y : X) → xs ++ x ∷ [] ≡ ys ++ y ∷ [] → (xs ≡ ys) × (x ≡ y)
last_same [] [] x y e = (refl, (cc))
last_same [] (b ∷ ys) x y e = absurd (omega (arith, ap length e, length_push ys y))
last_same (a ∷ xs) [] x y e = absurd (omega (arith, ap length e, length_push xs x))
last_same (a ∷ xs) (b ∷ ys) x y e =
    let h : xs ++ x ∷ [] ≡ ys ++ y ∷ [] = (cc) in
    let (front, end) = last_same xs ys x y h in ((cc), end)

less_or : (i n : ℕ) → i < n + 1 → (i < n) ⊎ (i ≡ n)
less_or zero zero h = inr refl
less_or zero (suc n) h = inl (omega arith)
less_or (suc i) zero h = absurd (omega (arith, h))
less_or (suc i) (suc n) h = elim (less_or i n (omega (arith, h))) as (λ _. (suc i < suc n) ⊎ (suc i ≡ suc n)) [ inl l ↦ inl (omega (arith, l)) | inr e ↦ inr (ap suc e) ]

-- one path more that isn't there
pub apart_push : (paths : List (List (List ℕ))) (path : List (List ℕ)) → AreApart paths → ((i : ℕ) → i < length paths → get_or paths i [] ≢ path) → AreApart (paths ++ path ∷ [])
apart_push paths path apart new i j within_i within_j e =
    let n = length paths in
    let old : (k : ℕ) → k < n → get_or (paths ++ path ∷ []) k [] ≡ get_or paths k [] = λ k h. get_or_append_left paths (path ∷ []) [] k h in
    let last : (k : ℕ) → k ≡ n → get_or (paths ++ path ∷ []) k [] ≡ path = λ k h. get_or_push paths path [] k (sym h) in
    let bound : (k : ℕ) → k < length (paths ++ path ∷ []) → k < n + 1 = λ k h. omega (arith, h, length_push paths path) in
    elim (less_or i n (bound i within_i)) as (λ _. i ≡ j) [
      | inl low ↦ elim (less_or j n (bound j within_j)) as (λ _. i ≡ j) [
        | inl low' ↦ apart i j low low' (sym (old i low) ∙ e ∙ old j low')
        | inr is' ↦ absurd (new i low (sym (old i low) ∙ e ∙ last j is'))
      ]
      | inr is ↦ elim (less_or j n (bound j within_j)) as (λ _. i ≡ j) [
        | inl low' ↦ absurd (new j low' (sym (old j low') ∙ sym e ∙ last i is))
        | inr is' ↦ is ∙ sym is'
      ]
    ]

-- these steps have paths, and one of them has this number
pub record AreSteps (steps : List Step) (before : ℕ) : Type 0 where
  pub order : AreAfter 1 steps
  pub apart : AreApart (paths_by steps)
  pub there : before < length (paths_by steps)

-- a step that they lack is put into a map of their numbers, with the next number
pub record Puts (steps : List Step) (before : ℕ) (key : Bor (List ℕ)) (m n : BTreeMap (ℕ × Bor (List ℕ)) ℕ) (number : ℕ) : Type 0 where
  pub found : (q : ℕ × Bor (List ℕ)) → get step_cmp m q ≡ position_from (is_step q) 1 steps
  pub none : position_from (is_step (before, key)) 1 steps ≡ None
  pub is : number ≡ 1 + length steps
  pub updates : Updates step_cmp m n (before, key) (Some number)

-- the step with a key after the path with a number that is there
module _ {steps : List Step} {before : ℕ} (key : Bor (List ℕ)) (at : AreSteps steps before) where
  -- it has a number
  pub found_path : (n : ℕ) → position_from (is_step (before, key)) 1 steps ≡ Some n
      → HasNumber (paths_by steps) (get_or (paths_by steps) before [] ++ key.now ∷ []) n (paths_by steps)
  found_path n e =
      let d : Step = record { before = 0; key = key } in
      let (j, is, within, passes) = found_at (is_step (before, key)) steps 1 n d e in
      let s = get_or steps j d in
      let (same, low) = path_made steps j d at.order within in
      let (numbers, keys) = both (nat_eq before s.before) (bytes_eq key.now s.key.now) passes in
      let same_before : before ≡ s.before = (Decides-eqb before s.before).0 numbers in
      let same_key : key.now ≡ s.key.now = (bytes_eq-Decides key.now s.key.now).0 keys in record {
        extends = ([], search rules);
        within = omega (arith, count steps, within, is);
        is_path = ap (λ (k : ℕ). get_or (paths_by steps) k []) is ∙ same ∙ (λ i. get_or (paths_by steps) (sym same_before i) [] ++ sym same_key i ∷ []);
      }

  -- it has none, and no path is the same
  pub no_path : position_from (is_step (before, key)) 1 steps ≡ None → (i : ℕ) → i < length (paths_by steps)
      → get_or (paths_by steps) i [] ≢ get_or (paths_by steps) before [] ++ key.now ∷ []
  no_path none zero within e =
      let (more, is, len) = extended ([] ∷ []) steps in
      let first : get_or (paths_by steps) 0 [] ≡ [] = ap (λ (ps : List (List (List ℕ))). get_or ps 0 []) is in
      omega (arith, ap length (sym first ∙ e), length_push (get_or (paths_by steps) before []) key.now)
  no_path none (suc j) within e =
      let d : Step = record { before = 0; key = key } in
      let few : j < length steps = omega (arith, count steps, within) in
      let s = get_or steps j d in
      let (same, low) = path_made steps j d at.order few in
      let one : 1 + j ≡ suc j = omega arith in
      let (front, end) = last_same (get_or (paths_by steps) s.before []) (get_or (paths_by steps) before []) s.key.now key.now
      (sym same ∙ ap (λ (k : ℕ). get_or (paths_by steps) k []) one ∙ e) in
      let number : s.before ≡ before = at.apart s.before before (omega (arith, low, few, count steps)) at.there front in
      let passes : is_step (before, key) s ≡ true =
      (λ i. nat_eq (sym number i) s.before && bytes_eq (sym end i) s.key.now) ∙ (λ i. (Decides-eqb s.before s.before).1 refl i && (bytes_eq-Decides s.key.now s.key.now).1 refl i) in
      let fails : is_step (before, key) s ≡ false = not_found (is_step (before, key)) steps 1 j d none few in
      (cc)

  -- it is put after the others
  module _ {m n : BTreeMap (ℕ × Bor (List ℕ)) ℕ} {number : ℕ} (puts : Puts steps before key m n number) where
    ties : (q : ℕ × Bor (List ℕ)) → is_step q (record { before = before; key = key }) ≡ eq_by_cmp step_cmp (before, key) q
    ties q =
        (λ i. nat_eq_equiv.symm q.0 before i && nat_list_eq_equiv.symm q.1.now key.now i)
        ∙ both_tied _ _ _ _ (unsigned_ties before q.0) (texts_ties key.now q.1.now)

    grown : (q : ℕ × Bor (List ℕ)) (b : Bool) → is_step q (record { before = before; key = key }) ≡ b
        → cond b (Some number) (get step_cmp m q) ≡ position_from (is_step q) 1 (steps ++ record { before = before; key = key } ∷ [])
    grown q false e = puts.found q ∙ sym (found_push (is_step q) steps (record { before = before; key = key }) 1 number puts.is e)
    grown q true e =
        let (numbers, keys) = both (nat_eq q.0 before) (bytes_eq q.1.now key.now) e in
        let same_before : q.0 ≡ before = (Decides-eqb q.0 before).0 numbers in
        let same_key : q.1.now ≡ key.now = (bytes_eq-Decides q.1.now key.now).0 keys in
        let absent : position_from (is_step q) 1 steps ≡ None =
        (λ i. position_from (λ (s : Step). nat_eq (same_before i) s.before && bytes_eq (same_key i) s.key.now) 1 steps) ∙ puts.none in
        sym (found_last (is_step q) steps (record { before = before; key = key }) 1 number puts.is e absent)

    pub added : (numbers : Numbers) → numbers.steps.items ≡ steps ++ record { before = before; key = key } ∷ [] → numbers.numbers ≡ n
        → HasNumber (paths_by steps) (get_or (paths_by steps) before [] ++ key.now ∷ []) number (paths_by numbers.steps.items) × AreNumbered numbers
    added numbers steps_are map_is =
        let s : Step = record { before = before; key = key } in
        let path = get_or (paths_by steps) before [] ++ key.now ∷ [] in
        let more : paths_by numbers.steps.items ≡ paths_by steps ++ path ∷ [] = ap paths_by steps_are ∙ fold_push with_step ([] ∷ []) steps s in (
          record {
            extends = (path ∷ [], more);
            within = omega (arith, ap length more, length_push (paths_by steps) path, count steps, puts.is);
            is_path = ap (λ (ps : List (List (List ℕ))). get_or ps number []) more ∙ get_or_push (paths_by steps) path [] number (omega (arith, count steps, puts.is));
          },
          record {
            order = subst (AreAfter 1) (sym steps_are) (after_push 1 steps s at.order (omega (arith, at.there, count steps)));
            found = λ q. ap (λ (k : BTreeMap (ℕ × Bor (List ℕ)) ℕ). get step_cmp k q) map_is ∙ puts.updates.0 q ∙ ap (λ (b : Bool). cond b (Some number) (get step_cmp m q)) (sym (ties q))
                ∙ grown q (is_step q s) refl ∙ ap (position_from (is_step q) 1) (sym steps_are);
            apart = subst AreApart (sym more) (apart_push (paths_by steps) path at.apart (no_path puts.none));
          },
        )
