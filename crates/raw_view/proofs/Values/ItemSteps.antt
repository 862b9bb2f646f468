-- Steps over the items.
use Rattle.std.proofs.Common.{◌≡◌, ℕ, List, [], ◌∷◌, ap, sym, ◌∙◌, subst, refl, Option, Some, None, Result, Ok, Err, inl, inr, drop, length, ◌-◌, get_or, arith}
use Rattle.std.proofs.lemmas.List.{drop_more, drop_all, length-drop}
use Rattle.std.proofs.lemmas.Option.{get_or_from_slice_get}
use Rattle.std.specs.Iterator.{Yields, Drains}
use Rattle.raw_view.specs.declared.element.RawElement.{RawElement}
use Rattle.raw_view.specs.declared.error.Error.{Error}
use Rattle.raw_view.specs.Frame.Envelope.{IsEnvelope}
use Rattle.raw_view.specs.Frame.{Frame, IsWalk, End, Done, Stopped}
use Rattle.raw_view.specs.Meaning.{KeyedFault, Meaning, Means}
use Rattle.raw_view.specs.Meaning.Item.{Item, entry, stopped, ItemsOf, AreItems}
use Rattle.raw_view.specs.Frame.ElementSteps.{StepsElement, frame_of}
use Rattle.raw_view.specs.Errors.Answers.{Says, StepsItems, TellsEach}

-- `Tells` relates one result to one item
module _ {X : Type 0} (Tells : Result X Error → Item → Type 0) where
  pub item_ok : (old new : Option (List ℕ)) (e : RawElement) (out : Result X Error) → StepsElement old (Some (Ok e)) new
      → (m : Meaning) × Means (frame_of e) m × Tells out (entry (frame_of e).key m) → StepsItems Tells old (Some out) new
  item_ok None new e out st h = let bad : ◌≡◌ {A = Option (Result RawElement Error)} (Some (Ok e)) None = st.0 in cc
  item_ok (Some s) new e out st h = inl (record { frame = frame_of e; rest = st.0; meaning = h.0; in_front = st.1; means = h.1; told = h.2; left = st.2 })

  pub item_stop : (old new : Option (List ℕ)) (e : Error) (out : Result X Error) → StepsElement old (Some (Err e)) new
      → ((fault : KeyedFault) → Says e fault → Tells out (stopped fault)) → StepsItems Tells old (Some out) new
  item_stop None new e out st says = let bad : ◌≡◌ {A = Option (Result RawElement Error)} (Some (Err e)) None = st.0 in cc
  item_stop (Some s) new e out st says =
      let fault : KeyedFault = record { fault = st.0; key = st.1 } in
      inr (record { fault = fault; stops = st.2; told = says fault st.3; left = st.4 })

  -- nothing comes after a stop
  none_after : (xs : List (Result X Error)) (t : Option (List ℕ)) → Yields (StepsItems Tells) None xs t → xs ≡ []
  none_after [] t y = refl
  none_after (x ∷ xs) t y = let bad : Some x ≡ None = y.1.0 in cc

  abbrev Told : List ℕ → List (Result X Error) → Type 0
  Told s xs = (frames : List Frame) × (end : End) × (items : List Item) × IsWalk s frames end × ItemsOf frames end items × TellsEach Tells xs items

  -- what a run of calls returns are the items
  pub items_of : (s : List ℕ) (xs : List (Result X Error)) → Drains (StepsItems Tells) (Some s) xs → Told s xs
  items_of s [] d =
      let last : StepsItems Tells (Some s) None d.0 = subst (λ (x : Option (List ℕ)). StepsItems Tells x None d.0) (sym d.1.1) d.1.2 in
      ([], Done, [], last.0, refl, tt)
  items_of s (x ∷ xs) d =
      elim d.1.1.1 as (λ _. Told s (x ∷ xs)) [
        | inl a ↦
            let f = a.frame in
            let rest : Drains (StepsItems Tells) (Some a.rest) xs = (d.0, (d.1.0, subst (λ (x : Option (List ℕ)). Yields (StepsItems Tells) x xs d.1.0) a.left d.1.1.2, d.1.2)) in
            let w = items_of a.rest xs rest in
            (f ∷ w.0, w.1, entry f.key a.meaning ∷ w.2, (a.rest, a.in_front, w.3), (a.meaning, w.2, a.means, refl, w.4), (a.told, w.5))
        | inr b ↦
            let none : xs ≡ [] = none_after xs d.1.0 (subst (λ (x : Option (List ℕ)). Yields (StepsItems Tells) x xs d.1.0) b.left d.1.1.2) in
            let one = subst (λ (ys : List (Result X Error)). TellsEach Tells (x ∷ ys) (stopped b.fault ∷ [])) (sym none) (b.told, tt) in
            ([], Stopped b.fault.fault b.fault.key, stopped b.fault ∷ [], b.stops, refl, one)
      ]

-- there is no item if and only if the final 0 follows the header
pub no_items : (b : List ℕ) → drop 4 b ≡ 0 ∷ [] → AreItems b []
no_items b e = ([], Done, e, refl)

ends : (b : List ℕ) (frames : List Frame) (end : End) → IsWalk (drop 4 b) frames end → ItemsOf frames end [] → drop 4 b ≡ 0 ∷ []
ends b [] Done w i = w
ends b [] (Stopped fault key) w i = let bad : ◌≡◌ {A = List Item} [] (stopped (record { fault = fault; key = key }) ∷ []) = i in cc
ends b (f ∷ fs) end w i = let bad : ◌≡◌ {A = List Item} [] (entry f.key i.0 ∷ i.1) = i.3 in cc

pub no_items_end : (b : List ℕ) → AreItems b [] → drop 4 b ≡ 0 ∷ []
no_items_end b a = ends b a.0 a.1 a.2 a.3

-- so there is no item if and only if there are five bytes
pub five_is_empty : (b : List ℕ) → IsEnvelope b → length b ≡ 5 → AreItems b []
five_is_empty b env five =
    let at : length b - 1 ≡ 4 = omega arith in
    let last : get_or b 4 0 ≡ 0 = get_or_from_slice_get b 4 0 0 (rw at at env.ended) in
    let none : drop 5 b ≡ [] = drop_all 5 b (omega arith) in
    no_items b (drop_more b 4 0 (omega arith) ∙ ap (λ x. x ∷ drop 5 b) last ∙ ap (λ (x : List ℕ). 0 ∷ x) none)

pub empty_is_five : (b : List ℕ) → IsEnvelope b → AreItems b [] → length b ≡ 5
empty_is_five b env a =
    let one = ap length (no_items_end b a) in
    omega (arith, one, length-drop 4 b, env.enough)
