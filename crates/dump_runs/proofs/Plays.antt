-- Events one after the other.
use Rattle.std.proofs.Common.{◌≡◌, ℕ, false, List, [], ◌∷◌, ◌++◌, Option, ap, append-nil, flat_map, fold, refl, subst, sym, ◌∙◌}
use Rattle.std.proofs.KnownBytes.{Appends-nil, Appends-trans}
use Rattle.std.proofs.lemmas.Grind.{flat_map-append, fold-append}
use Rattle.std.specs.Io.KnownBytes.{Appends}
use Rattle.dump_commands.specs.declared.counts.Counts.{Counts}
use Rattle.dump_commands.specs.declared.state.kept.Kept.{Kept}
use Rattle.dump_runs.specs.Plays.{Event, Held, Played, Written, aside_of, count_event, counted, given, given_of, reported, reported_of, set_aside}

-- nothing
pub played_none : {a b : Held} → b ≡ a → Played [] a b
played_none {a = a} {b = b} same =
    subst (Played [] a) (sym same) (record { out = Appends-nil a.out; alone = Appends-nil a.alone; report = Appends-nil a.report; counts = refl })

-- of a writer
appends_on : (f : Event → List ℕ) (xs ys : List Event) (a b c : Option (List ℕ)) → Appends a b (flat_map f xs) → Appends b c (flat_map f ys) → Appends a c (flat_map f (xs ++ ys))
appends_on f xs ys a b c h k = subst (Appends a c) (sym (flat_map-append f xs ys)) (Appends-trans a b c (flat_map f xs) (flat_map f ys) h k)

-- some, and others after them
pub played_on : {a b c : Held} {xs ys : List Event} → Played xs a b → Played ys b c → Played (xs ++ ys) a c
played_on {a = a} {b = b} {c = c} {xs = xs} {ys = ys} h k = record {
  out = appends_on given_of xs ys a.out b.out c.out h.out k.out;
  alone = appends_on aside_of xs ys a.alone b.alone c.alone h.alone k.alone;
  report = appends_on reported_of xs ys a.report b.report c.report h.report k.report;
  counts = k.counts ∙ ap (λ n. fold count_event n ys) h.counts ∙ sym (fold-append count_event a.counts xs ys);
}

-- what writers hold, to which no write failed
abbrev pub written : (out alone report : Option (List ℕ)) → Written
written out alone report = record { out = out; alone = alone; report = report; has_failed = false }

-- a state of these parts
abbrev pub holds : (out alone report : Option (List ℕ)) → Counts → Kept → Held
holds out alone report n k = record { out = out; alone = alone; report = report; counts = n; kept = k }

module _ (d d' : Option (List ℕ)) {a : Option (List ℕ)} (w w' : Option (List ℕ)) (n : Counts) (k k' : Kept) where
  -- a text is reported
  pub played_text : (text : List ℕ) → Appends w w' text → Played (reported text ∷ []) (holds d a w n k) (holds d a w' n k')
  played_text text put = record { out = Appends-nil d; alone = Appends-nil a; report = subst (Appends w w') (sym (append-nil text)) put; counts = refl }

  -- bytes are given
  pub played_given : (made : List ℕ) → Appends d d' made → Played (given made ∷ []) (holds d a w n k) (holds d' a w n k')
  played_given made put = record { out = subst (Appends d d') (sym (append-nil made)) put; alone = Appends-nil a; report = Appends-nil w; counts = refl }

  -- after a text bytes are given
  pub played_made : (text made : List ℕ) → Appends w w' text → Appends d d' made → Played (reported text ∷ given made ∷ []) (holds d a w n k) (holds d' a w' n k')
  played_made text made told put = record {
    out = subst (Appends d d') (sym (append-nil made)) put;
    alone = Appends-nil a;
    report = subst (Appends w w') (sym (append-nil text)) told;
    counts = refl;
  }

  -- then another text is reported
  pub played_texts : (text made line : List ℕ) → Appends w w' (text ++ line) → Appends d d' made
      → Played (reported text ∷ given made ∷ reported line ∷ []) (holds d a w n k) (holds d' a w' n k')
  played_texts text made line told put = record {
    out = subst (Appends d d') (sym (append-nil made)) put;
    alone = Appends-nil a;
    report = subst (Appends w w') (ap (λ (l : List ℕ). text ++ l) (sym (append-nil line))) told;
    counts = refl;
  }

-- bytes are set aside
pub played_aside : (d a a' w : Option (List ℕ)) (n : Counts) (k : Kept) (bytes : List ℕ) → Appends a a' bytes → Played (set_aside bytes ∷ []) (holds d a w n k) (holds d a' w n k)
played_aside d a a' w n k bytes put = record { out = Appends-nil d; alone = subst (Appends a a') (sym (append-nil bytes)) put; report = Appends-nil w; counts = refl }

-- a count
pub played_count : (step : Counts → Counts) {a b : Held} {n : Counts} → n ≡ step b.counts → (es : List Event) → Played es a b → Played (es ++ counted step ∷ []) a (record b { counts = n })
played_count step {a = a} {b = b} {n = n} is es h =
    let one : Played (counted step ∷ []) b (record b { counts = n }) =
    record { out = Appends-nil b.out; alone = Appends-nil b.alone; report = Appends-nil b.report; counts = is } in
    played_on h one
