-- Leaves that a set lacks, and the paths of these.
use Rattle.std.proofs.Common.{◌≡◌, ◌<◌, ◌+◌, ◌&&◌, ◌∙◌, ℕ, List, [], ◌∷◌, ◌++◌, Bool, true, cond, ap, arith, drop, fold, get_or, length, sym}
use Rattle.std.proofs.lemmas.List.{drop_more}
use Rattle.std.proofs.lemmas.List.Concat.{flat_map-cons}
use Rattle.std.proofs.lemmas.List.Sums.{fold-append}
use Rattle.std.specs.BTreeSet.{BTreeSet, Updates, contains}
use Rattle.std.specs.Cmp.{both_tied, nat_eq_equiv, unsigned_ties}
use Rattle.std.specs.Cmp.Lexicographic.{texts_ties}
use Rattle.std.specs.List.{list_any}
use Rattle.std.specs.Ordering.{eq_by_cmp}
use Rattle.std.proofs.lemmas.Cmp.{nat_list_eq_equiv}
use Rattle.dump_commands.specs.elements.Numbered.{IsSetOf, is_alike, lacking_in, leaf_cmp, number_unless_in, with_number}
use Rattle.dump_commands.specs.declared.elements.changes.leaves.Leaf as code

-- leaves that are alike compare as equal
ties : (x y : code.Leaf) → is_alike x y ≡ eq_by_cmp leaf_cmp x y
ties x y = both_tied _ _ _ _ (unsigned_ties x.path y.path) (both_tied _ _ _ _ (unsigned_ties x.tag y.tag) (texts_ties x.bytes.now y.bytes.now))

turned : (x y : code.Leaf) → is_alike x y ≡ is_alike y x
turned x y i = nat_eq_equiv.symm x.path y.path i && (nat_eq_equiv.symm x.tag y.tag i && nat_list_eq_equiv.symm x.bytes.now y.bytes.now i)

any_push : {X : Type 0} (p : X → Bool) (xs : List X) (y : X) → list_any p (xs ++ y ∷ []) ≡ cond (p y) true (list_any p xs)
any_push p [] y = grind arith
any_push p (x ∷ xs) y = grind (arith, any_push p xs y)

-- a set gets one leaf more
pub set_more : (s n : BTreeSet code.Leaf) (xs : List code.Leaf) (l : code.Leaf) → IsSetOf s xs → Updates leaf_cmp s n l true → IsSetOf n (xs ++ l ∷ [])
set_more s n xs l is u q =
    u.0 q ∙ ap (λ (b : Bool). cond b true (contains leaf_cmp s q)) (sym (ties l q) ∙ turned l q) ∙ ap (λ (b : Bool). cond (is_alike q l) true b) (is q)
    ∙ sym (any_push (is_alike q) xs l)

-- the next leaf is looked for
pub next_leaf : (set : BTreeSet code.Leaf) (leaves : List code.Leaf) (i : ℕ) (d : code.Leaf) (all old new : List ℕ) → i < length leaves
    → fold with_number old (lacking_in set (drop i leaves)) ≡ all → new ≡ fold with_number old (number_unless_in set (get_or leaves i d))
    → fold with_number new (lacking_in set (drop (i + 1) leaves)) ≡ all
next_leaf set leaves i d all old new within left is =
    let rest = lacking_in set (drop (i + 1) leaves) in
    ap (λ (ns : List ℕ). fold with_number ns rest) is ∙ sym (fold-append with_number old (number_unless_in set (get_or leaves i d)) rest)
    ∙ ap (fold with_number old) (sym (ap (lacking_in set) (drop_more leaves i d within) ∙ flat_map-cons (number_unless_in set) (get_or leaves i d) (drop (i + 1) leaves)))
    ∙ left
