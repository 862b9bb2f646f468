-- Leaves by the numbers of their paths, where more paths get numbers.
use Rattle.std.proofs.Common.{◌≡◌, ◌<◌, ◌+◌, ◌∙◌, ℕ, zero, suc, List, [], ◌∷◌, ◌++◌, ap, append_assoc, arith, drop, get_or, length, length-append, map, refl, rules, subst, sym, take}
use Rattle.std.proofs.Math.ListN.{get_or-map}
use Rattle.std.proofs.lemmas.List.{drop_more, get_or_append_left, map_push, take-map}
use Rattle.raw_form.specs.declared.token.Token.{Token}
use Rattle.dump_commands.specs.elements.Changes.{Leaf}
use Rattle.dump_commands.specs.elements.Numbered.{AreWithin, Extends, HasNumber, around_next, at_numbers, compared_at, leaf_at, leaves_from, leaves_in, numbers_of, path_after, paths_by}
use Rattle.dump_commands.specs.declared.elements.changes.leaves.Leaf as code
use Rattle.dump_commands.specs.declared.elements.changes.numbers.Step.{Step}
use Rattle.dump_commands.proofs.elements.Numbering.{extended}

pub extends_none : (paths : List (List (List ℕ))) → Extends paths paths
extends_none paths = ([], search rules)

pub extends_more : (a b c : List (List (List ℕ))) → Extends a b → Extends b c → Extends a c
extends_more a b c (more, is) (rest, also) = (more ++ rest, also ∙ ap (λ (ps : List (List (List ℕ))). ps ++ rest) is ∙ append_assoc a more rest)

-- the empty path is the first
pub first_path : (steps : List Step) → get_or (paths_by steps) 0 [] ≡ []
first_path steps = let (more, is, len) = extended ([] ∷ []) steps in ap (λ (ps : List (List (List ℕ))). get_or ps 0 []) is

pub within_at : (n : ℕ) (ns : List ℕ) (i : ℕ) → 0 < n → AreWithin n ns → get_or ns i 0 < n
within_at n [] i some all = some
within_at n (x ∷ ns) zero some all = all.0
within_at n (x ∷ ns) (suc i) some all = within_at n ns i some all.1

pub within_take : (n : ℕ) (ns : List ℕ) (i : ℕ) → AreWithin n ns → AreWithin n (take i ns)
within_take n ns zero all = tt
within_take n [] (suc i) all = tt
within_take n (x ∷ ns) (suc i) all = (all.0, within_take n ns i all.1)

pub within_push : (n : ℕ) (ns : List ℕ) (x : ℕ) → AreWithin n ns → x < n → AreWithin n (ns ++ x ∷ [])
within_push n [] x all one = (one, tt)
within_push n (y ∷ ns) x all one = (all.0, within_push n ns x all.1 one)

pub within_more : (m n : ℕ) (ns : List ℕ) → m < n + 1 → AreWithin m ns → AreWithin n ns
within_more m n [] more all = tt
within_more m n (x ∷ ns) more all = (omega (arith, more, all.0), within_more m n ns more all.1)

-- the path of the element, by its level's number
pub path_before : (steps : List Step) (around : List ℕ) (depth : ℕ) → get_or (at_numbers (paths_by steps) around) depth [] ≡ get_or (paths_by steps) (get_or around depth 0) []
path_before steps around depth =
    let f = λ (n : ℕ). get_or (paths_by steps) n [] in
    ap (get_or (map f around) depth) (sym (first_path steps)) ∙ get_or-map f around depth 0

module _ (before after : List (List (List ℕ))) (extends : Extends before after) where
  pub longer : length before < length after + 1
  longer = omega (arith, ap length extends.1, length-append before extends.0)

  same_path : (n : ℕ) → n < length before → get_or after n [] ≡ get_or before n []
  same_path n within = ap (λ (ps : List (List (List ℕ))). get_or ps n []) extends.1 ∙ get_or_append_left before extends.0 [] n within

  pub same_paths : (ns : List ℕ) → AreWithin (length before) ns → at_numbers after ns ≡ at_numbers before ns
  same_paths [] all = refl
  same_paths (n ∷ ns) all = λ i. same_path n all.0 i ∷ same_paths ns all.1 i

  pub same_leaves : (ls : List code.Leaf) → AreWithin (length before) (numbers_of ls) → leaves_in after ls ≡ leaves_in before ls
  same_leaves [] all = refl
  same_leaves (l ∷ ls) all = λ i. record { path = same_path l.path all.0 i; tag = l.tag; bytes = l.bytes.now } ∷ same_leaves ls all.1 i

-- one token more: its path gets this number
pub record Goes (b : List ℕ) (before after : List (List (List ℕ))) (around around' : List ℕ) (t : Token) (number : ℕ) : Type 0 where
  pub has : HasNumber before (path_after b (at_numbers before around) t) number after
  pub within : AreWithin (length before) around
  pub is : around' ≡ take (t.depth + 1) around ++ number ∷ []

module _ {b : List ℕ} {before after : List (List (List ℕ))} {around around' : List ℕ} {t : Token} {number : ℕ} (goes : Goes b before after around around' t number) where
  pub within_next : AreWithin (length after) around'
  within_next =
      subst (AreWithin (length after)) (sym goes.is)
      (within_push (length after) (take (t.depth + 1) around) number
      (within_more (length before) (length after) _ (longer before after goes.has.extends) (within_take (length before) around (t.depth + 1) goes.within)) goes.has.within)

  paths_next : at_numbers after around' ≡ around_next b (at_numbers before around) t
  paths_next =
      let f = λ (n : ℕ). get_or after n [] in
      let few = take (t.depth + 1) around in
      ap (at_numbers after) goes.is ∙ map_push f few number
      ∙ (λ i. same_paths before after goes.has.extends few (within_take (length before) around (t.depth + 1) goes.within) i ++ goes.has.is_path i ∷ [])
      ∙ (λ i. sym (take-map (λ (n : ℕ). get_or before n []) (t.depth + 1) around) i ++ path_after b (at_numbers before around) t ∷ [])

  pub left_next : (leaves leaves' : List code.Leaf) (tokens : List Token) (i : ℕ) (d : Token) (all : List Leaf) → i < length tokens → t ≡ get_or tokens i d
      → AreWithin (length before) (numbers_of leaves) → leaves_in after leaves' ≡ leaves_in after leaves ++ record { path = get_or after number []; tag = t.tag; bytes = compared_at b t } ∷ []
      → leaves_in before leaves ++ leaves_from b (at_numbers before around) (drop i tokens) ≡ all
      → leaves_in after leaves' ++ leaves_from b (at_numbers after around') (drop (i + 1) tokens) ≡ all
  left_next leaves leaves' tokens i d all there at old put left =
      let rest = drop (i + 1) tokens in
      let one = leaf_at b (at_numbers before around) t ∷ [] in
      let next = leaves_from b (around_next b (at_numbers before around) t) rest in
      let so_far : leaves_in after leaves' ≡ leaves_in before leaves ++ one =
      put ∙ (λ k. same_leaves before after goes.has.extends leaves old k ++ record { path = goes.has.is_path k; tag = t.tag; bytes = compared_at b t } ∷ []) in
      let token : drop i tokens ≡ t ∷ rest = drop_more tokens i d there ∙ (λ k. sym at k ∷ rest) in
      (λ k. so_far k ++ leaves_from b (paths_next k) rest) ∙ append_assoc (leaves_in before leaves) one next
      ∙ ap (λ (ts : List Token). leaves_in before leaves ++ leaves_from b (at_numbers before around) ts) (sym token) ∙ left
