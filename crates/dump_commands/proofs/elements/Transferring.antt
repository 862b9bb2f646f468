-- From numbers to paths: what differs by numbers differs by paths, where no two numbers have the same path.
use Rattle.std.proofs.Common.{◌≡◌, ◌<◌, ◌&&◌, ◌||◌, ◌∙◌, ℕ, List, [], ◌∷◌, ◌++◌, Bool, true, false, ap, bytes_eq, cond, fold, get_or, length, nat_eq, refl, subst, sym}
use Rattle.std.proofs.lemmas.Bool.Decides.{Decides-eqb, same_from_decides}
use Rattle.std.proofs.lemmas.List.{map-append, map_push}
use Rattle.std.proofs.lemmas.List.Concat.{flat_map-cons}
use Rattle.std.proofs.lemmas.Slice.Eq.{bytes_eq-Decides, slice_eq-Decides}
use lib.Pointwise.{pointwise}
use Rattle.std.specs.Bool.{Decides}
use Rattle.std.specs.List.{list_any}
use Rattle.dump_commands.specs.elements.Changes.{Leaf, is_same, lost, path_unless, unmatched, with_new}
use Rattle.dump_commands.specs.elements.Numbered.{AreApart, AreWithin, Extends, at_numbers, is_alike, lacking, leaf_in, leaves_in, number_unless, numbers_of, with_number}
use Rattle.dump_commands.specs.declared.elements.changes.leaves.Leaf as code
use Rattle.dump_commands.proofs.elements.Leaving.{longer, same_leaves, within_more, within_push}

within_append : (n : ℕ) (xs ys : List ℕ) → AreWithin n xs → AreWithin n ys → AreWithin n (xs ++ ys)
within_append n [] ys all rest = rest
within_append n (x ∷ xs) ys all rest = (all.0, within_append n xs ys all.1 rest)

module _ (paths : List (List (List ℕ))) (apart : AreApart paths) where
  -- numbers are the same where their paths are
  same_number : (m n : ℕ) → m < length paths → n < length paths → nat_eq m n ≡ pointwise bytes_eq (get_or paths m []) (get_or paths n [])
  same_number m n in_m in_n =
      let number : Decides (nat_eq m n) (m ≡ n) = Decides-eqb m n in
      let path = slice_eq-Decides bytes_eq-Decides (get_or paths m []) (get_or paths n []) (pointwise bytes_eq (get_or paths m []) (get_or paths n [])) refl in
      same_from_decides (nat_eq m n) (pointwise bytes_eq (get_or paths m []) (get_or paths n [])) number (λ e. apart m n in_m in_n (path.0 e), λ e. path.1 (ap (λ (k : ℕ). get_or paths k []) e))

  pub any_number : (n : ℕ) (ns : List ℕ) → n < length paths → AreWithin (length paths) ns → list_any (nat_eq n) ns ≡ list_any (pointwise bytes_eq (get_or paths n [])) (at_numbers paths ns)
  any_number n [] within all = refl
  any_number n (m ∷ ns) within all = λ i. same_number n m within all.0 i || any_number n ns within all.1 i

  any_leaf : (l : code.Leaf) (ls : List code.Leaf) → l.path < length paths → AreWithin (length paths) (numbers_of ls)
      → list_any (is_alike l) ls ≡ list_any (is_same (leaf_in paths l)) (leaves_in paths ls)
  any_leaf l [] within all = refl
  any_leaf l (m ∷ ls) within all = λ i. (same_number l.path m.path within all.0 i && (nat_eq l.tag m.tag && bytes_eq l.bytes.now m.bytes.now)) || any_leaf l ls within all.1 i

  kept : (b : Bool) (ns : List ℕ) (n : ℕ) → at_numbers paths (cond b ns (ns ++ n ∷ [])) ≡ cond b (at_numbers paths ns) (at_numbers paths ns ++ get_or paths n [] ∷ [])
  kept true ns n = refl
  kept false ns n = map_push (λ (k : ℕ). get_or paths k []) ns n

  with_same : (ns : List ℕ) (n : ℕ) → AreWithin (length paths) ns → n < length paths → at_numbers paths (with_number ns n) ≡ with_new (at_numbers paths ns) (get_or paths n [])
  with_same ns n all within =
      kept (list_any (nat_eq n) ns) ns n ∙ ap (λ (b : Bool). cond b (at_numbers paths ns) (at_numbers paths ns ++ get_or paths n [] ∷ [])) (any_number n ns within all)

  kept_within : (b : Bool) (ns : List ℕ) (n : ℕ) → AreWithin (length paths) ns → n < length paths → AreWithin (length paths) (cond b ns (ns ++ n ∷ []))
  kept_within true ns n all within = all
  kept_within false ns n all within = within_push (length paths) ns n all within

  each_once : (ns more : List ℕ) → AreWithin (length paths) ns → AreWithin (length paths) more
      → at_numbers paths (fold with_number ns more) ≡ fold with_new (at_numbers paths ns) (at_numbers paths more)
  each_once ns [] all within = refl
  each_once ns (n ∷ more) all within =
      each_once (with_number ns n) more (kept_within (list_any (nat_eq n) ns) ns n all within.0) within.1
      ∙ ap (λ (ps : List (List (List ℕ))). fold with_new ps (at_numbers paths more)) (with_same ns n all within.0)

  fold_within : (ns more : List ℕ) → AreWithin (length paths) ns → AreWithin (length paths) more → AreWithin (length paths) (fold with_number ns more)
  fold_within ns [] all within = all
  fold_within ns (n ∷ more) all within = fold_within (with_number ns n) more (kept_within (list_any (nat_eq n) ns) ns n all within.0) within.1

  unless_same : (b : Bool) (n : ℕ) → at_numbers paths (cond b [] (n ∷ [])) ≡ cond b [] (get_or paths n [] ∷ [])
  unless_same true n = refl
  unless_same false n = refl

  unless_within : (b : Bool) (n : ℕ) → n < length paths → AreWithin (length paths) (cond b [] (n ∷ []))
  unless_within true n within = tt
  unless_within false n within = (within, tt)

  lacking_within : (ls others : List code.Leaf) → AreWithin (length paths) (numbers_of ls) → AreWithin (length paths) (lacking ls others)
  lacking_within [] others all = tt
  lacking_within (l ∷ ls) others all =
      subst (AreWithin (length paths)) (sym (flat_map-cons (number_unless others) l ls))
      (within_append (length paths) (number_unless others l) (lacking ls others) (unless_within (list_any (is_alike l) others) l.path all.0) (lacking_within ls others all.1))

  lacking_missing : (ls others : List code.Leaf) → AreWithin (length paths) (numbers_of ls) → AreWithin (length paths) (numbers_of others)
      → at_numbers paths (lacking ls others) ≡ lost (leaves_in paths ls) (leaves_in paths others)
  lacking_missing [] others all rest = refl
  lacking_missing (l ∷ ls) others all rest =
      let f = λ (k : ℕ). get_or paths k [] in
      let one : at_numbers paths (number_unless others l) ≡ path_unless (leaves_in paths others) (leaf_in paths l) =
      unless_same (list_any (is_alike l) others) l.path ∙ ap (λ (b : Bool). cond b [] (get_or paths l.path [] ∷ [])) (any_leaf l others all.0 rest) in
      ap (at_numbers paths) (flat_map-cons (number_unless others) l ls) ∙ map-append f (number_unless others l) (lacking ls others)
      ∙ (λ i. one i ++ lacking_missing ls others all.1 rest i) ∙ sym (flat_map-cons (path_unless (leaves_in paths others)) (leaf_in paths l) (leaves_in paths ls))

  -- the paths of leaves that only one of two lists has
  pub numbers_differ : (olds news : List code.Leaf) (ns : List ℕ) → AreWithin (length paths) (numbers_of olds) → AreWithin (length paths) (numbers_of news)
      → ns ≡ fold with_number [] (lacking olds news ++ lacking news olds) → (at_numbers paths ns ≡ unmatched (leaves_in paths olds) (leaves_in paths news)) × AreWithin (length paths) ns
  numbers_differ olds news ns old new is =
      let first = lacking_within olds news old in
      let next = lacking_within news olds new in
      let both = within_append (length paths) (lacking olds news) (lacking news olds) first next in (
        ap (at_numbers paths) is ∙ each_once [] (lacking olds news ++ lacking news olds) tt both
            ∙ ap (fold with_new []) (map-append (λ (k : ℕ). get_or paths k []) (lacking olds news) (lacking news olds)
            ∙ (λ i. lacking_missing olds news old new i ++ lacking_missing news olds new old i)),
        subst (AreWithin (length paths)) (sym is) (fold_within [] (lacking olds news ++ lacking news olds) tt both),
      )

-- the same where the new leaves had numbers after the old ones
pub documents_differ : (before : List (List (List ℕ))) {paths : List (List (List ℕ))} {olds news : List code.Leaf} → Extends before paths → AreApart paths → (os ws : List code.Leaf) (ns : List ℕ)
    → AreWithin (length before) (numbers_of olds) → AreWithin (length paths) (numbers_of news) → os ≡ olds → ws ≡ news → ns ≡ fold with_number [] (lacking os ws ++ lacking ws os)
    → (at_numbers paths ns ≡ unmatched (leaves_in before olds) (leaves_in paths news)) × AreWithin (length paths) ns
documents_differ before {paths = paths} {olds = olds} {news = news} extends apart os ws ns old new same also is =
    let all : ns ≡ fold with_number [] (lacking olds news ++ lacking news olds) = is ∙ (λ i. fold with_number [] (lacking (same i) (also i) ++ lacking (also i) (same i))) in
    let (paths_are, within) = numbers_differ paths apart olds news ns (within_more (length before) (length paths) (numbers_of olds) (longer before paths extends) old) new all in
    (paths_are ∙ ap (λ (ls : List Leaf). unmatched ls (leaves_in paths news)) (same_leaves before paths extends olds old), within)
