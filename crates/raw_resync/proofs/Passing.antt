-- Passed places, one after another.
use Rattle.std.proofs.Common.{◌≡◌, ℕ, suc, ◌+◌, ◌<◌, ◌≤◌, ◌⊎◌, List, [], ◌++◌, Bool, true, false, ◌&&◌, arith, cond, length, ltb, sym, ap, ◌∙◌, subst, refl, inl, inr, length-append}
use Rattle.std.proofs.Math.Nat.{eq-or-lt_of_le}
use Rattle.std.proofs.lemmas.Bool.{cases_lt, cond_above, cond_below}
use Rattle.raw_tree.specs.declared.reader.limits.Limits.{Limits}
use Rattle.raw_resync.specs.Searches.{IsFoundAt, IsLeftOut, IsLikely, IsPassedAt, PassesOver}
use Rattle.raw_resync.specs.Seeking.{Checks, KeepsBound, LacksPieces, MayFollow, Seeks}
use Rattle.raw_resync.specs.declared.search.Places.{Places}
use Rattle.raw_resync.specs.declared.search.Sought.TheVariants as sought
use Rattle.raw_resync.specs.declared.check.Check.TheVariants as check
use Rattle.raw_resync.specs.declared.work.Work.{Work}
use Rattle.raw_resync.proofs.Costing.{keeps_on, keeps_same}
use Rattle.raw_resync.proofs.Fronts.{lacks_behind}

pub both_true : (a b : Bool) → (a && b) ≡ true → (a ≡ true) × (b ≡ true)
both_true true b is = (refl, is)
both_true false b is = let impossible : ⊥ = cc in absurd impossible

pub one_false : (a b : Bool) → (a && b) ≡ false → (a ≡ false) ⊎ (b ≡ false)
one_false true b is = inr is
one_false false b is = inl refl

pub and_true : (a : Bool) → a ≡ (a && true)
and_true true = refl
and_true false = refl

pub and_false : (a : Bool) → false ≡ (a && false)
and_false true = refl
and_false false = refl

-- what searches cost before each place: the one says it before `mid`, the other from there on
abbrev joined : (mid : ℕ) → (ℕ → Work) → (ℕ → Work) → ℕ → Work
joined mid f g place = cond (ltb place mid) (f place) (g place)

joined_low : (mid place : ℕ) (f g : ℕ → Work) → place < mid → f place ≡ joined mid f g place
joined_low mid place f g low = cond_below place mid (f place) (g place) low

joined_high : (mid place : ℕ) (f g : ℕ → Work) → mid ≤ place → g place ≡ joined mid f g place
joined_high mid place f g high = cond_above place mid (f place) (g place) (g place) high refl

-- where they agree there, the first says it up to `mid`
joined_to : (mid place : ℕ) (f g : ℕ → Work) → f mid ≡ g mid → place ≤ mid → f place ≡ joined mid f g place
joined_to mid place f g same up = elim (eq-or-lt_of_le {n = place} {m = mid} up) [
  | inl is ↦ subst (λ n. f n ≡ joined mid f g n) (sym is) (same ∙ joined_high mid mid f g (omega arith))
  | inr low ↦ joined_low mid place f g low
]

first_is : (place : ℕ) (old new : Work) → joined (suc place) (λ i. old) (λ i. new) place ≡ old
first_is place old new = sym (joined_low (suc place) place (λ i. old) (λ i. new) (omega arith))

-- one place
one : (limits : Limits) (s : List ℕ) (at place : ℕ) (old new : Work) → IsPassedAt limits s at place old new → (there : ℕ) → place ≤ there → there < suc place
    → IsPassedAt limits s at there (joined (suc place) (λ i. old) (λ i. new) there) (joined (suc place) (λ i. old) (λ i. new) (suc there))
one limits s at place old new passed there low high =
    let same : place ≡ there = omega (arith, low, high) in
    let first : old ≡ joined (suc place) (λ i. old) (λ i. new) place = joined_low (suc place) place (λ i. old) (λ i. new) (omega arith) in
    let second : new ≡ joined (suc place) (λ i. old) (λ i. new) (suc place) = joined_high (suc place) (suc place) (λ i. old) (λ i. new) (omega arith) in
    subst (λ n. IsPassedAt limits s at n (joined (suc place) (λ i. old) (λ i. new) n) (joined (suc place) (λ i. old) (λ i. new) (suc n))) same
    (subst (λ u. IsPassedAt limits s at place u (joined (suc place) (λ i. old) (λ i. new) (suc place))) first (subst (λ v. IsPassedAt limits s at place old v) second passed))

module _ {limits : Limits} {s : List ℕ} {at : ℕ} where
  -- no place is passed yet
  pub passes_none : (from : ℕ) (w : Work) → PassesOver limits s at from from w w true
  passes_none from w = record {
    work = λ place. w;
    start = refl;
    end = refl;
    each = λ place low high. absurd (omega (arith, low, high));
    whole = λ is place low high. absurd (omega (arith, low, high));
    some = λ not. let impossible : ⊥ = cc in absurd impossible;
  }

  -- no document that may count begins at these places
  pub passes_unlikely : (from to : ℕ) (w : Work) → to ≤ length s → ((place : ℕ) → from ≤ place → place < to → ¬ IsLikely limits s place) → PassesOver limits s at from to w w true
  passes_unlikely from to w within none = record {
    work = λ place. w;
    start = refl;
    end = refl;
    each = λ place low high. (omega (arith, high, within), inl (none place low high, refl));
    whole = λ is place low high left. none place low high left.0;
    some = λ not. let impossible : ⊥ = cc in absurd impossible;
  }

  pub passes_stop : (place : ℕ) (old new : Work) → IsPassedAt limits s at place old new → ¬ IsLeftOut limits s at place old → PassesOver limits s at place (suc place) old new true
  passes_stop place old new passed none = record {
    work = joined (suc place) (λ i. old) (λ i. new);
    start = first_is place old new;
    end = sym (joined_high (suc place) (suc place) (λ i. old) (λ i. new) (omega arith));
    each = one limits s at place old new passed;
    whole = λ is there low high left.
        let same : there ≡ place = omega (arith, low, high) in
        none (subst (λ u. IsLeftOut limits s at place u) (first_is place old new)
        (subst (λ n. IsLeftOut limits s at n (joined (suc place) (λ i. old) (λ i. new) n)) same left));
    some = λ not. let impossible : ⊥ = cc in absurd impossible;
  }

  pub passes_left : (place : ℕ) (old new : Work) → IsPassedAt limits s at place old new → IsLeftOut limits s at place old → PassesOver limits s at place (suc place) old new false
  passes_left place old new passed left = record {
    work = joined (suc place) (λ i. old) (λ i. new);
    start = first_is place old new;
    end = sym (joined_high (suc place) (suc place) (λ i. old) (λ i. new) (omega arith));
    each = one limits s at place old new passed;
    whole = λ is. let impossible : ⊥ = cc in absurd impossible;
    some = λ is. (place, omega arith, omega arith, subst (λ u. IsLeftOut limits s at place u) (sym (first_is place old new)) left);
  }

  -- places that were passed, and those after them
  module _ {from mid to : ℕ} {old there new : Work} {a b : Bool} (low : from ≤ mid) (high : mid ≤ to) (p : PassesOver limits s at from mid old there a)
      (q : PassesOver limits s at mid to there new b) where
    both : ℕ → Work
    both = joined mid p.work q.work

    agree : p.work mid ≡ q.work mid
    agree = p.end ∙ sym q.start

    before : (place : ℕ) → place ≤ mid → p.work place ≡ both place
    unfolding both
    before place up = joined_to mid place p.work q.work agree up

    behind : (place : ℕ) → mid ≤ place → q.work place ≡ both place
    unfolding both
    behind place down = joined_high mid place p.work q.work down

    each_of : (place : ℕ) → from ≤ place → place < to → IsPassedAt limits s at place (both place) (both (suc place))
    each_of place from' to' = elim (cases_lt place mid) [
      | inl near ↦
          subst (λ u. IsPassedAt limits s at place u (both (suc place))) (before place (omega (arith, near)))
          (subst (λ v. IsPassedAt limits s at place (p.work place) v) (before (suc place) (omega (arith, near))) (p.each place from' near))
      | inr far ↦
          subst (λ u. IsPassedAt limits s at place u (both (suc place))) (behind place far)
          (subst (λ v. IsPassedAt limits s at place (q.work place) v) (behind (suc place) (omega (arith, far))) (q.each place far to'))
    ]

    pub passes_after : PassesOver limits s at from to old new (a && b)
    passes_after = record {
      work = both;
      start = sym (before from low) ∙ p.start;
      end = sym (behind to high) ∙ q.end;
      each = each_of;
      whole = λ is place from' to' left.
          let (first, second) = both_true a b is in
          elim (cases_lt place mid) [
            | inl near ↦ p.whole first place from' near (subst (λ u. IsLeftOut limits s at place u) (sym (before place (omega (arith, near)))) left)
            | inr far ↦ q.whole second place far to' (subst (λ u. IsLeftOut limits s at place u) (sym (behind place far)) left)
          ];
      some = λ not. elim (one_false a b not) [
        | inl first ↦ let (place, from', to', left) = p.some first in
            (place, from', omega (arith, to', high), subst (λ u. IsLeftOut limits s at place u) (before place (omega (arith, to'))) left)
        | inr second ↦ let (place, from', to', left) = q.some second in
            (place, omega (arith, low, from'), to', subst (λ u. IsLeftOut limits s at place u) (behind place from') left)
      ];
    }

-- what the loop preserves
pub record HasPassed (limits : Limits) (bytes : List ℕ) (is_last : Bool) (at from to : ℕ) (old new : Work) (all : Bool) : Type 0 where
  pub low : from ≤ to
  pub within : to ≤ length bytes
  pub bounded : KeepsBound (at + length bytes) old new
  pub over : (rest : List ℕ) → MayFollow is_last rest → PassesOver limits (bytes ++ rest) at from to old new all

pub has_passed_none : {limits : Limits} {bytes : List ℕ} {last : Bool} {at from : ℕ} {w : Work} → from ≤ length bytes → HasPassed limits bytes last at from from w w true
has_passed_none {bytes = bytes} {at = at} {from = from} {w = w} within = record {
  low = omega arith;
  within = within;
  bounded = keeps_same (at + length bytes) w;
  over = λ rest may. passes_none from w;
}

module _ {limits : Limits} {bytes : List ℕ} {last : Bool} {at from to : ℕ} {old mid new : Work} {all : Bool} (p : HasPassed limits bytes last at from to old mid all) where
  -- no piece is at the front of the places before the next one
  pub has_passed_lacking : (next : ℕ) → next ≤ length bytes → to < next → LacksPieces limits.bytes last bytes to next → (b : Bool)
      → ((rest : List ℕ) → MayFollow last rest → PassesOver limits (bytes ++ rest) at to (suc to) mid new b) → KeepsBound (at + length bytes) mid new
      → HasPassed limits bytes last at from next old new (all && (b && true))
  has_passed_lacking next within more none b one bound = record {
    low = omega (arith, p.low, more);
    within = within;
    bounded = keeps_on (at + length bytes) old mid new p.bounded bound;
    over = λ rest may.
        let size : length (bytes ++ rest) ≡ length bytes + length rest = length-append bytes rest in
        let lacks : PassesOver limits (bytes ++ rest) at (suc to) next new new true =
        passes_unlikely (suc to) next new (omega (arith, size, within))
        (λ place low high. lacks_behind limits last place bytes rest (omega (arith, within, high)) (none place (omega (arith, low)) high) may) in
        let behind = passes_after {mid = suc to} (omega arith) (omega (arith, more)) (one rest may) lacks in
        passes_after p.low (omega (arith, more)) (p.over rest may) behind;
  }

  pub has_passed_stop : (next : ℕ) → next ≤ length bytes → to < next → LacksPieces limits.bytes last bytes to next → Checks limits bytes last at to mid new check.Stops
      → HasPassed limits bytes last at from next old new all
  has_passed_stop next within more none c =
      subst (λ b. HasPassed limits bytes last at from next old new b) (sym (and_true all))
      (has_passed_lacking next within more none true (λ rest may. let (passed, not) = c.tells rest may in passes_stop to mid new passed not) c.bounded)

  pub has_passed_left : (next : ℕ) → next ≤ length bytes → to < next → LacksPieces limits.bytes last bytes to next → Checks limits bytes last at to mid new check.LeftOut
      → HasPassed limits bytes last at from next old new false
  has_passed_left next within more none c =
      subst (λ b. HasPassed limits bytes last at from next old new b) (sym (and_false all))
      (has_passed_lacking next within more none false (λ rest may. let (passed, left) = c.tells rest may in passes_left to mid new passed left) c.bounded)

-- what a search finds that stops at a place
module _ {limits : Limits} {bytes : List ℕ} {last : Bool} {at : ℕ} (q : Places) {to : ℕ} {old mid new : Work} {all : Bool}
    (p : HasPassed limits bytes last at q.from to old mid all) (high : to < q.until) where
  -- documents continue there
  pub sought_found : Checks limits bytes last at to mid new check.GoesOn → Seeks limits bytes last at q old new (sought.Found to all)
  sought_found c = record {
    bounded = keeps_on (at + length bytes) old mid new p.bounded c.bounded;
    here = p.within;
    tells = λ rest may. (p.low, high, mid, p.over rest may, c.tells rest may);
  }

  -- it isn't known
  pub sought_wants : (n : ℕ) → Checks limits bytes last at to mid new (check.Wants n) → Seeks limits bytes last at q old new (sought.Wants to n all)
  sought_wants n c = record {
    bounded = keeps_on (at + length bytes) old mid new p.bounded c.bounded;
    here = (p.within, c.here);
    tells = λ rest may. (p.low, high, subst (λ w. PassesOver limits (bytes ++ rest) at q.from to old w all) (sym (c.tells rest may)) (p.over rest may));
  }

-- all places were looked at
pub sought_nowhere : {limits : Limits} {bytes : List ℕ} {last : Bool} {at : ℕ} (q : Places) (to : ℕ) {old new : Work} {all : Bool}
    → HasPassed limits bytes last at q.from to old new all → to ≡ q.until → Seeks limits bytes last at q old new (sought.Nowhere all)
sought_nowhere {limits} {bytes} {last} {at} q to {old} {new} {all} p is = record {
  bounded = p.bounded;
  here = subst (λ n. n ≤ length bytes) is p.within;
  tells = λ rest may. subst (λ n. PassesOver limits (bytes ++ rest) at q.from n old new all) is (p.over rest may);
}
