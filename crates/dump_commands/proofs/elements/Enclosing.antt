-- Paths that are inside others, by their numbers.
use Rattle.std.proofs.Common.{◌≡◌, ◌<◌, ◌+◌, ◌&&◌, ◌||◌, ◌∙◌, ℕ, List, [], ◌∷◌, ◌++◌, Bool, true, false, ap, arith, bytes_eq, cond, get_or, length, map, not, refl, sym, take}
use Rattle.std.proofs.lemmas.List.Elements.{filter-append}
use Rattle.std.proofs.lemmas.List.{get_or-map, get_or-take, length-map, take_more}
use lib.Pointwise.{pointwise}
use Rattle.std.specs.BTreeSet.{BTreeSet, contains}
use Rattle.std.specs.List.{filter, list_any}
use Rattle.std.specs.Ordering.{nat_cmp}
use Rattle.dump_commands.specs.elements.Changes.{is_inside}
use Rattle.dump_commands.specs.elements.Numbered.{AreKnown, AreNumbered, AreWithin, at_numbers, is_in_any, paths_of}
use Rattle.dump_commands.specs.declared.elements.changes.numbers.Numbers.{Numbers}
use Rattle.dump_commands.specs.declared.elements.changes.numbers.Step.{Step}
use Rattle.dump_commands.proofs.elements.Leaving.{first_path}
use Rattle.dump_commands.proofs.elements.Numbering.{count, path_made}
use Rattle.dump_commands.proofs.elements.Transferring.{any_number}

and_false : (b : Bool) → (b && false) ≡ false
and_false true = refl
and_false false = refl

and_or : (b c d : Bool) → (b && (c || d)) ≡ ((b && c) || (b && d))
and_or true c d = refl
and_or false c d = refl

or_turned : (a b c d : Bool) → ((a || b) || (c || d)) ≡ ((a || c) || (b || d))
or_turned true b c d = refl
or_turned false true true d = refl
or_turned false true false d = refl
or_turned false false c d = refl

-- a path with one key more is inside those that the path is, and inside the path
inside_push : (path : List (List ℕ)) (key : List ℕ) (outer : List (List ℕ)) → is_inside (path ++ key ∷ []) outer ≡ (pointwise bytes_eq path outer || is_inside path outer)
inside_push [] key [] = refl
inside_push [] key (k ∷ outer) = and_false (bytes_eq key k)
inside_push (x ∷ path) key [] = refl
inside_push (x ∷ path) key (k ∷ outer) =
    ap (λ (b : Bool). bytes_eq x k && b) (inside_push path key outer) ∙ and_or (bytes_eq x k) (pointwise bytes_eq path outer) (is_inside path outer)

in_any_push : (others : List (List (List ℕ))) (path : List (List ℕ)) (key : List ℕ)
    → is_in_any others (path ++ key ∷ []) ≡ (list_any (pointwise bytes_eq path) others || is_in_any others path)
in_any_push [] path key = refl
in_any_push (outer ∷ others) path key =
    (λ i. inside_push path key outer i || in_any_push others path key i)
    ∙ or_turned (pointwise bytes_eq path outer) (is_inside path outer) (list_any (pointwise bytes_eq path) others) (is_in_any others path)

-- the empty path is inside none
nothing_in_any : (others : List (List (List ℕ))) → is_in_any others [] ≡ false
nothing_in_any [] = refl
nothing_in_any (outer ∷ others) = nothing_in_any others

-- the empty path
pub inside_first : (numbers : Numbers) (ns : List ℕ) → false ∷ [] ≡ take 1 (map (is_in_any (at_numbers (paths_of numbers) ns)) (paths_of numbers))
inside_first numbers ns =
    let paths = paths_of numbers in
    let f = is_in_any (at_numbers paths ns) in
    let there : 0 < length paths = omega (arith, count numbers.steps.items) in
    let first : get_or (map f paths) 0 false ≡ false = get_or-map f paths 0 [] false there ∙ ap f (first_path numbers.steps.items) ∙ nothing_in_any (at_numbers paths ns) in
    (λ k. sym first k ∷ []) ∙ sym (take_more (map f paths) 0 false (omega (arith, there, length-map paths f)))

-- the next step's path
pub inside_next : (numbers : Numbers) (set : BTreeSet ℕ) (ns : List ℕ) (i : ℕ) (d : Step) (old : List Bool) → AreNumbered numbers → AreKnown set ns → AreWithin (length (paths_of numbers)) ns
    → i < length numbers.steps.items → old ≡ take (i + 1) (map (is_in_any (at_numbers (paths_of numbers) ns)) (paths_of numbers))
    → old ++ (contains nat_cmp set (get_or numbers.steps.items i d).before || get_or old (get_or numbers.steps.items i d).before false) ∷ []
    ≡ take (i + 1 + 1) (map (is_in_any (at_numbers (paths_of numbers) ns)) (paths_of numbers))
inside_next numbers set ns i d old at known all within so_far =
    let steps = numbers.steps.items in
    let paths = paths_of numbers in
    let others = at_numbers paths ns in
    let f = is_in_any others in
    let s = get_or steps i d in
    let before = get_or paths s.before [] in
    let (made, low) = path_made steps i d at.order within in
    let there : s.before < length paths = omega (arith, low, within, count steps) in
    let next : i + 1 < length paths = omega (arith, within, count steps) in
    let step : get_or paths (i + 1) [] ≡ before ++ s.key.now ∷ [] = ap (λ (n : ℕ). get_or paths n []) (omega arith) ∙ made in
    let known_there : list_any (pointwise bytes_eq before) others ≡ contains nat_cmp set s.before = sym (any_number paths at.apart s.before ns there all) ∙ sym (known s.before) in
    let in_before : f before ≡ get_or old s.before false =
    sym (get_or-map f paths s.before [] false there) ∙ sym (get_or-take (i + 1) (map f paths) s.before false (omega (arith, low))) ∙ ap (λ (bs : List Bool). get_or bs s.before false) (sym so_far) in
    let one : get_or (map f paths) (i + 1) false ≡ (contains nat_cmp set s.before || get_or old s.before false) =
    get_or-map f paths (i + 1) [] false next ∙ ap f step ∙ in_any_push others before s.key.now ∙ (λ k. known_there k || in_before k) in
    (λ k. so_far k ++ sym one k ∷ []) ∙ sym (take_more (map f paths) (i + 1) false (omega (arith, next, length-map paths f)))

kept_if : (count : ℕ) (b : Bool) (x : ℕ) (xs : List ℕ) → x < count → AreWithin count xs → AreWithin count (cond b (x ∷ xs) xs)
kept_if count true x xs one all = (one, all)
kept_if count false x xs one all = all

pub filter_within : (count : ℕ) (p : ℕ → Bool) (ns : List ℕ) → AreWithin count ns → AreWithin count (filter p ns)
filter_within count p [] all = tt
filter_within count p (n ∷ ns) all = kept_if count (p n) n (filter p ns) all.0 (filter_within count p ns all.1)

pub filter_more : (p : ℕ → Bool) (ns : List ℕ) (i : ℕ) → i < length ns → filter p (take (i + 1) ns) ≡ filter p (take i ns) ++ cond (p (get_or ns i 0)) (get_or ns i 0 ∷ []) []
filter_more p ns i within = ap (filter p) (take_more ns i 0 within) ∙ filter-append p (take i ns) (get_or ns i 0 ∷ [])

-- of these numbers those whose paths are inside no path of `others`
abbrev pub outside : (paths others : List (List (List ℕ))) → List ℕ → List ℕ
outside paths others ns = filter (λ (n : ℕ). not (is_in_any others (get_or paths n []))) ns

module _ (paths others : List (List (List ℕ))) where
  moved : (b : Bool) (n : ℕ) (ns : List ℕ) → at_numbers paths (cond b (n ∷ ns) ns) ≡ cond b (get_or paths n [] ∷ at_numbers paths ns) (at_numbers paths ns)
  moved true n ns = refl
  moved false n ns = refl

  pub outside_paths : (ns : List ℕ) → at_numbers paths (outside paths others ns) ≡ filter (λ (path : List (List ℕ)). not (is_in_any others path)) (at_numbers paths ns)
  outside_paths [] = refl
  outside_paths (n ∷ ns) =
      let b = not (is_in_any others (get_or paths n [])) in
      moved b n (outside paths others ns) ∙ ap (λ (ps : List (List (List ℕ))). cond b (get_or paths n [] ∷ ps) ps) (outside_paths ns)
