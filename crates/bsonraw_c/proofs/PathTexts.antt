-- Paths, step by step.
use Rattle.std.proofs.Common.{◌≡◌, ◌⊎◌, ◌<◌, ◌≤◌, ◌+◌, ◌-◌, ℕ, Bool, true, false, List, [], ◌∷◌, ◌++◌, length, take, drop, ap, sym, ◌∙◌, refl, arith, append_assoc, append-nil, length-append, subst, inl, inr, Option, None, Some, codes, cond, flat_map, get_or, nat_eq, nat_lt}
use Rattle.std.proofs.lemmas.Bool.{cases_eq, cases_lt, cond-false, cond-true, cond_above, cond_below, eq-eqb, le-ltb, lt-ltb, ne_eqb}
use Rattle.std.proofs.lemmas.List.{drop-append-le, drop_all, drop_more, flat_map_more, take-append-le, take_all}
use Rattle.raw_bson.specs.Holder.{Holder}
use Rattle.raw_bson.specs.Holder.TheVariants as holder
use Rattle.raw_bson.specs.Meaning.{RawValue, array, document, scoped, single, value}
use Rattle.raw_bson.specs.Value.{IsSingle, holding}
use Rattle.raw_form.specs.Places.{Step}
use Rattle.bsonraw_c.specs.PathTexts.{AreSteps, Leads, level_of, path_text, piece, points, step_text}
use Rattle.bsonraw_c.specs.TextRooms.{Grows}
use Rattle.bsonraw_c.proofs.TextRooms.{grows_both, grows_none}

-- the level that a value holds
pub held_level : (h : Holder) (d : List ℕ) → level_of (value (holding h d)) ≡ Some d
held_level holder.Document d = refl
held_level holder.Array d = refl
held_level (holder.Code code) d = refl

pub no_level : (v : RawValue) → IsSingle v → level_of (value v) ≡ None
no_level (single leaf) is = refl
no_level (document d) is = absurd is
no_level (array d) is = absurd is
no_level (scoped code d) is = absurd is

-- the points
points_none : (n : ℕ) → n ≤ 10 → points n ≡ []
points_none n few = cond-false _ (codes "/..") [] (le-ltb 10 n few)

points_some : (n : ℕ) → 10 < n → points n ≡ codes "/.."
points_some n many = cond-true _ (codes "/..") [] (lt-ltb 10 n many)

-- what a step adds
module _ (total index : ℕ) (step : Step) where
  pub piece_first : index < 10 → piece total index step ≡ step_text step
  piece_first first = sym (cond_below index 10 (step_text step) _ first)

  pub piece_last : 10 ≤ index → total - 10 ≤ index → piece total index step ≡ step_text step
  piece_last past last = sym (cond_above index 10 (step_text step) _ (step_text step) past (cond_above index (total - 10) _ (step_text step) (step_text step) last refl))

  pub piece_hidden : 10 ≤ index → index < total - 10 → piece total index step ≡ cond (nat_eq index 10) (codes "/..") []
  piece_hidden past hidden = cond-false _ (step_text step) _ (le-ltb index 10 past) ∙ cond-true _ _ (step_text step) (lt-ltb index (total - 10) hidden)

module _ (total : ℕ) where
  -- a path of at most 20 numbers
  all_shown : total ≤ 20 → (steps : List Step) → path_text total steps ≡ flat_map step_text steps
  all_shown few steps = cond-false _ _ (flat_map step_text steps) (le-ltb 20 total few)

  -- one of more
  cut : 20 < total → (steps : List Step)
      → path_text total steps ≡ flat_map step_text (take 10 steps) ++ points (length steps) ++ flat_map step_text (drop (total - 10) steps)
  cut many steps = cond-true _ _ (flat_map step_text steps) (lt-ltb 20 total many)

  -- of which none of the last ten steps is there
  middle : 20 < total → (steps : List Step) → length steps ≤ total - 10 → path_text total steps ≡ flat_map step_text (take 10 steps) ++ points (length steps)
  middle many steps within =
      let shown = flat_map step_text (take 10 steps) ++ points (length steps) in
      cut many steps ∙ ap (λ (l : List Step). shown ++ flat_map step_text l) (drop_all (total - 10) steps within) ∙ append-nil shown

  -- of which no more than the first ten are there
  front : 20 < total → (steps : List Step) → length steps ≤ 10 → path_text total steps ≡ flat_map step_text steps
  front many steps few =
      let within : length steps ≤ total - 10 = omega (arith, many, few) in
      middle many steps within ∙ ap (λ (l : List Step). flat_map step_text l ++ points (length steps)) (take_all 10 steps few)
      ∙ ap (λ (l : List ℕ). flat_map step_text steps ++ l) (points_none (length steps) few) ∙ append-nil (flat_map step_text steps)

-- one more step
module _ (total : ℕ) (done : List Step) (step : Step) where
  longer : length (done ++ step ∷ []) ≡ length done + 1
  longer = length-append done (step ∷ [])

  shown_step : piece total (length done) step ≡ step_text step → path_text total done ≡ flat_map step_text done
      → path_text total (done ++ step ∷ []) ≡ flat_map step_text (done ++ step ∷ [])
      → path_text total done ++ piece total (length done) step ≡ path_text total (done ++ step ∷ [])
  shown_step adds before behind =
      ap (λ (l : List ℕ). l ++ piece total (length done) step) before ∙ ap (λ (l : List ℕ). flat_map step_text done ++ l) adds
      ∙ flat_map_more step_text [] done step ∙ sym behind

  more_all : total ≤ 20 → (length done < 10) ⊎ (10 ≤ length done) → path_text total done ++ piece total (length done) step ≡ path_text total (done ++ step ∷ [])
  more_all few (inl first) = shown_step (piece_first total (length done) step first) (all_shown total few done) (all_shown total few (done ++ step ∷ []))
  more_all few (inr past) =
      shown_step (piece_last total (length done) step past (omega (arith, few, past))) (all_shown total few done) (all_shown total few (done ++ step ∷ []))

  more_front : 20 < total → length done < 10 → path_text total done ++ piece total (length done) step ≡ path_text total (done ++ step ∷ [])
  more_front many first =
      shown_step (piece_first total (length done) step first) (front total many done (omega (arith, first)))
      (front total many (done ++ step ∷ []) (omega (arith, first, longer)))

  pointed : 10 ≤ length done → length done < total - 10 → (length done ≡ 10) ⊎ (length done ≡ 10 → ⊥) → points (length done) ++ piece total (length done) step ≡ codes "/.."
  pointed past hidden (inl ten) =
      ap (λ (l : List ℕ). l ++ piece total (length done) step) (points_none (length done) (omega (arith, ten)))
      ∙ piece_hidden total (length done) step past hidden ∙ cond-true _ (codes "/..") [] (eq-eqb (length done) 10 ten)
  pointed past hidden (inr other) =
      ap (λ (l : List ℕ). points (length done) ++ l) (piece_hidden total (length done) step past hidden ∙ cond-false _ (codes "/..") [] (ne_eqb (length done) 10 other))
      ∙ append-nil (points (length done)) ∙ points_some (length done) (omega (arith, past, other))

  more_middle : 20 < total → 10 ≤ length done → length done < total - 10 → path_text total done ++ piece total (length done) step ≡ path_text total (done ++ step ∷ [])
  more_middle many past hidden =
      let shown = flat_map step_text (take 10 done) in
      let same : flat_map step_text (take 10 (done ++ step ∷ [])) ≡ shown = ap (flat_map step_text) (take-append-le 10 done (step ∷ []) past) in
      let later : points (length (done ++ step ∷ [])) ≡ codes "/.." = points_some (length (done ++ step ∷ [])) (omega (arith, past, longer)) in
      ap (λ (l : List ℕ). l ++ piece total (length done) step) (middle total many done (omega (arith, hidden)))
      ∙ append_assoc shown (points (length done)) (piece total (length done) step)
      ∙ ap (λ (l : List ℕ). shown ++ l) (pointed past hidden (cases_eq (length done) 10) ∙ sym later)
      ∙ ap (λ (l : List ℕ). l ++ points (length (done ++ step ∷ []))) (sym same)
      ∙ sym (middle total many (done ++ step ∷ []) (omega (arith, hidden, longer)))

  more_last : 20 < total → total - 10 ≤ length done → path_text total done ++ piece total (length done) step ≡ path_text total (done ++ step ∷ [])
  more_last many last =
      let k = total - 10 in
      let shown = flat_map step_text (take 10 done) ++ points (length done) in
      let past : 10 ≤ length done = omega (arith, many, last) in
      let same : flat_map step_text (take 10 done) ≡ flat_map step_text (take 10 (done ++ step ∷ [])) =
      ap (flat_map step_text) (sym (take-append-le 10 done (step ∷ []) past)) in
      let both : points (length done) ≡ points (length (done ++ step ∷ [])) =
      points_some (length done) (omega (arith, many, last)) ∙ sym (points_some (length (done ++ step ∷ [])) (omega (arith, past, longer))) in
      ap (λ (l : List ℕ). l ++ piece total (length done) step) (cut total many done)
      ∙ ap (λ (l : List ℕ). (shown ++ flat_map step_text (drop k done)) ++ l) (piece_last total (length done) step past last)
      ∙ flat_map_more step_text shown (drop k done) step
      ∙ ap (λ (l : List Step). shown ++ flat_map step_text l) (sym (drop-append-le k done (step ∷ []) last))
      ∙ ap (λ (l : List ℕ). (l ++ points (length done)) ++ flat_map step_text (drop k (done ++ step ∷ []))) same
      ∙ ap (λ (l : List ℕ). (flat_map step_text (take 10 (done ++ step ∷ [])) ++ l) ++ flat_map step_text (drop k (done ++ step ∷ []))) both
      ∙ sym (cut total many (done ++ step ∷ []))

  more_cut : 20 < total → (length done < 10) ⊎ (10 ≤ length done) → (length done < total - 10) ⊎ (total - 10 ≤ length done)
      → path_text total done ++ piece total (length done) step ≡ path_text total (done ++ step ∷ [])
  more_cut many (inl first) place = more_front many first
  more_cut many (inr past) (inl hidden) = more_middle many past hidden
  more_cut many (inr past) (inr last) = more_last many last

  more_by : (20 < total) ⊎ (total ≤ 20) → path_text total done ++ piece total (length done) step ≡ path_text total (done ++ step ∷ [])
  more_by (inl many) = more_cut many (cases_lt (length done) 10) (cases_lt (length done) (total - 10))
  more_by (inr few) = more_all few (cases_lt (length done) 10)

  pub path_more : path_text total done ++ piece total (length done) step ≡ path_text total (done ++ step ∷ [])
  path_more = more_by (cases_lt 20 total)

same_both : {X : Type 0} (b : Bool) (x : X) → cond b x x ≡ x
same_both true x = refl
same_both false x = refl

path_none : (total : ℕ) → path_text total [] ≡ []
path_none total =
    ap (λ (l : List Step). cond (nat_lt 20 total) (flat_map step_text l) []) (drop_all (total - 10) [] (omega arith)) ∙ same_both (nat_lt 20 total) []

-- The first steps of a path in the document d are put, and the level is the one that they lead to.
pub record HasShown (d path old : List ℕ) (index : ℕ) (level : Option (List ℕ)) (now : List ℕ) (count : ℕ) : Type 0 where
  pub done : List Step
  pub counted : length done ≡ index
  pub onward : (rest : List Step) → AreSteps level (drop index path) rest → AreSteps (Some d) path (done ++ rest)
  pub shown : Grows (path_text (length path) done) old 0 now count

pub shown_none : (d path old : List ℕ) → HasShown d path old 0 (Some d) old 0
shown_none d path old = record {
  done = [];
  counted = refl;
  onward = λ rest h. h;
  shown = subst (λ (t : List ℕ). Grows t old 0 old 0) (sym (path_none (length path))) (grows_none old 0);
}

pub shown_more : {d path old : List ℕ} {index : ℕ} {level : Option (List ℕ)} {now : List ℕ} {count : ℕ} → HasShown d path old index level now count
    → (inner : List ℕ) (step : Step) (inside : Option (List ℕ)) (new : List ℕ) (more : ℕ) → level ≡ Some inner → index < length path
    → Leads inner (get_or path index 0) step inside → Grows (piece (length path) index step) now count new more → HasShown d path old (index + 1) inside new more
shown_more {d} {path} {old} {index} {level} {now} {count} h inner step inside new more there within leads put =
    let on : (rest : List Step) → AreSteps inside (drop (index + 1) path) rest → AreSteps level (drop index path) (step ∷ rest) = λ rest next.
    subst (λ (l : Option (List ℕ)). AreSteps l (drop index path) (step ∷ rest)) (sym there)
    (subst (λ (ns : List ℕ). AreSteps (Some inner) ns (step ∷ rest)) (sym (drop_more path index 0 within))
    (leads.0, inside, rest, leads.1, leads.2, next, ap (λ (s : Step). s ∷ rest) leads.3)) in
    record {
      done = h.done ++ step ∷ [];
      counted = omega (arith, h.counted, length-append h.done (step ∷ []));
      onward = λ rest next. subst (AreSteps (Some d) path) (sym (append_assoc h.done (step ∷ []) rest)) (h.onward (step ∷ rest) (on rest next));
      shown = subst (λ (t : List ℕ). Grows t old 0 new more) (path_more (length path) h.done step)
          (grows_both h.shown (subst (λ (n : ℕ). Grows (piece (length path) n step) now count new more) (sym h.counted) put));
    }

-- all of them are put
abbrev pub ShowsSteps : List ℕ → List ℕ → List ℕ → List ℕ → ℕ → Type 0
ShowsSteps d path old now count = (steps : List Step) × AreSteps (Some d) path steps × Grows (path_text (length path) steps) old 0 now count

shown : {d path old : List ℕ} {index : ℕ} {level : Option (List ℕ)} {now : List ℕ} {count : ℕ} → (h : HasShown d path old index level now count)
    → AreSteps level (drop index path) [] → ShowsSteps d path old now count
shown {d} {path} h last = (h.done, subst (AreSteps (Some d) path) (append-nil h.done) (h.onward [] last), h.shown)

no_steps : (ns : List ℕ) → AreSteps None ns []
no_steps [] = refl
no_steps (n ∷ ns) = refl

pub shown_no_level : {d path old : List ℕ} {index : ℕ} {level : Option (List ℕ)} {now : List ℕ} {count : ℕ} → HasShown d path old index level now count
    → level ≡ None → ShowsSteps d path old now count
shown_no_level {path = path} {index = index} h none =
    shown h (subst (λ (l : Option (List ℕ)). AreSteps l (drop index path) []) (sym none) (no_steps (drop index path)))

pub shown_all : {d path old : List ℕ} {index : ℕ} {level : Option (List ℕ)} {now : List ℕ} {count : ℕ} → HasShown d path old index level now count
    → length path ≤ index → ShowsSteps d path old now count
shown_all {path = path} {index = index} {level = level} h all = shown h (subst (λ (ns : List ℕ). AreSteps level ns []) (sym (drop_all index path all)) refl)
