use Rattle.std.proofs.Common.{◌≡◌, ◌++◌, ◌∷◌, [], ◌<◌, ◌+◌, Bool, true, false, List, ℕ, Option, arith, refl, sym, subst, length, length-append}
use Rattle.std.specs.Bool.{IsTrue, MatchBool}
use Rattle.std.specs.Iterator.{AlwaysYields, Yields}
use Rattle.std.specs.Iterator.Runs.{YieldsRun}
use Rattle.std.specs.List.Sorted.{IsNonDecreasing}
use Rattle.std.specs.Str.{chars}
use Rattle.std.proofs.Math.ListN.{get_or}
use Rattle.std.proofs.Math.Utf8.{encodes}
use Rattle.std.proofs.lemmas.List.{get_or_append_left}
use Rattle.std.proofs.lemmas.List.Sorted.{non_decreasing_from_is_sorted}
use Rattle.std.proofs.iter.TextItems.{spells}
use Rattle.std.proofs.lemmas.Str.{Chars-gives, chars_from_encodes, encodes-chars}
use Rattle.bson_model.proofs.regexes.do_options_ascend.Goals as goal

-- what the calls so far returned is the front of what all calls return
gave_front : {S A : Type 0} (steps : S → Option A → S → Type 0) (xs ys : List A) (s t : S) → Yields steps s xs t → AlwaysYields steps (λ x. x) s ys → (more : List A) × (ys ≡ xs ++ more)
gave_front steps [] ys s t y a = (ys, refl)
gave_front steps (x ∷ xs) [] s t y a = absurd (a x y.0 y.1)
gave_front steps (x ∷ xs) (z ∷ ys) s t y a =
    let on = a.1 x y.0 y.1 in
    let rest = gave_front steps xs ys y.0 t y.2 on.1 in
    (rest.0, (λ i. sym on.0 i ∷ rest.1 i))

-- the call finds each front of ascending numbers in order
told_ascending : (xs more : List ℕ) (r : Bool) → MatchBool r (IsNonDecreasing xs)
    ((k : ℕ) × (k + 1 < length xs) × ((d : ℕ) → get_or xs (k + 1) d < get_or xs k d)) → IsNonDecreasing (xs ++ more) → IsTrue r
told_ascending xs more true m h = refl
told_ascending xs more false m h =
    absurd (omega (
      arith,
      m.2 0,
      h m.0 (m.0 + 1) 0 (omega arith) (omega (arith, m.1, length-append xs more)),
      get_or_append_left xs more 0 m.0 (omega (arith, m.1)),
      get_or_append_left xs more 0 (m.0 + 1) m.1,
    ))

pub returns : goal.returns
unfolding YieldsRun
returns c =
    let run = c.is_sorted.ensures.runs in
    let items = c.chars.ensures.runs run.0 run.0.seen in
    let told = non_decreasing_from_is_sorted run.0.items c.is_sorted.result run.2.1.0 in (
      λ t. (
          let text = rw (run.1, c.chars.ensures.rest) at (items.1 (rw t at run.2).0) in
          rw (← chars_from_encodes run.0.items c.args.options.now c.utf8.options text) (rw t at told)),
      λ h. (
          let spelled : encodes (chars c.args.options.now) ≡ run.0.from.rest.now = rw (run.1, c.chars.ensures.rest) (encodes-chars c.args.options.now c.utf8.options) in
          let front = gave_front spells run.0.items (chars c.args.options.now) run.0.from run.0.gave.0.0 run.0.gave.0.1 (Chars-gives (chars c.args.options.now) run.0.from spelled) in
          told_ascending run.0.items front.0 c.is_sorted.result told (subst IsNonDecreasing front.1 h)),
    )
