-- What a set of digests knows when one more is put to it, and a map of them.
use Rattle.std.proofs.Common.{◌≡◌, ℕ, List, Bool, true, false, Option, None, Some, cond, bytes_eq, is_some, refl, sym, ap, ◌∙◌}
use Rattle.std.proofs.lemmas.Map.Text.{is_eq-slice_cmp}
use Rattle.std.proofs.lemmas.Slice.Eq.{bytes_eq-Decides}
use Rattle.std.specs.BTreeMap.{BTreeMap, get}
use Rattle.std.specs.BTreeMap as map
use Rattle.std.specs.BTreeSet.{BTreeSet, contains, Updates}
use Rattle.std.specs.Option.{option_map}
use Rattle.std.specs.Cmp.Lexicographic.{slice_cmp, texts_ties}
use Rattle.std.specs.Ordering.{nat_cmp}
use Rattle.sha2.specs.Sha256.{sha256}
use Rattle.dump_io.specs.lines.Origins.{Origin, origin_of}
use Rattle.dump_commands.specs.state.Forms.{digest_of, origin_or}
use Rattle.dump_io.specs.declared.lines.origin.Origin as origin

pub digest_is : (key form : List ℕ) → key ≡ sha256 form → key ≡ digest_of form
unfolding digest_of
digest_is key form is = is

pub known_more : (s n : BTreeSet (List ℕ)) (key form d : List ℕ) → key ≡ digest_of form → Updates (slice_cmp nat_cmp) s n key true
    → contains (slice_cmp nat_cmp) n d ≡ cond (bytes_eq (digest_of form) d) true (contains (slice_cmp nat_cmp) s d)
known_more s n key form d is u =
    u.0 d ∙ ap (λ (b : Bool). cond b true (contains (slice_cmp nat_cmp) s d)) (sym (texts_ties key d) ∙ ap (λ (k : List ℕ). bytes_eq k d) is)

abbrev at : BTreeMap (List ℕ) origin.Origin → List ℕ → Option origin.Origin
at m d = get (slice_cmp nat_cmp) m d

known_new : (b : Bool) (o : origin.Origin) (g : Option origin.Origin) → is_some (cond b (Some o) g) ≡ cond b true (is_some g)
known_new true o g = refl
known_new false o g = refl

known_kept : (b : Bool) (o : origin.Origin) (g : Option origin.Origin) → (b ≡ true → g ≡ Some o) → is_some g ≡ cond b true (is_some g)
known_kept true o g there = ap is_some (there refl)
known_kept false o g there = refl

place_new : (b : Bool) (o : origin.Origin) (g : Option origin.Origin) → (b ≡ true → g ≡ None)
    → option_map origin_of (cond b (Some o) g) ≡ cond b (Some (origin_or (option_map origin_of g) (origin_of o))) (option_map origin_of g)
place_new true o g none = ap (λ (h : Option origin.Origin). Some (origin_or (option_map origin_of h) (origin_of o))) (sym (none refl))
place_new false o g none = refl

place_kept : (b : Bool) (o : origin.Origin) (p : Origin) (g : Option origin.Origin) → (b ≡ true → g ≡ Some o)
    → option_map origin_of g ≡ cond b (Some (origin_or (option_map origin_of g) p)) (option_map origin_of g)
place_kept true o p g there = ap (option_map origin_of) (there refl) ∙ ap (λ (h : Option origin.Origin). Some (origin_or (option_map origin_of h) p)) (sym (there refl))
place_kept false o p g there = refl

module _ (m : BTreeMap (List ℕ) origin.Origin) (key form d : List ℕ) (is : key ≡ digest_of form) (o : origin.Origin) where
  there : (g : Option origin.Origin) → at m key ≡ g → bytes_eq (digest_of form) d ≡ true → at m d ≡ g
  there g has same = ap (at m) (sym (is ∙ (bytes_eq-Decides (digest_of form) d).0 same)) ∙ has

  more : (n : BTreeMap (List ℕ) origin.Origin) → map.Updates (slice_cmp nat_cmp) m n key (Some o) → at n d ≡ cond (bytes_eq (digest_of form) d) (Some o) (at m d)
  more n u = u.0 d ∙ ap (λ (b : Bool). cond b (Some o) (at m d)) (is_eq-slice_cmp key d ∙ ap (λ (k : List ℕ). bytes_eq k d) is)

  -- the digest is new, and is put to the map with this place
  pub first_known : (n : BTreeMap (List ℕ) origin.Origin) → map.Updates (slice_cmp nat_cmp) m n key (Some o)
      → is_some (at n d) ≡ cond (bytes_eq (digest_of form) d) true (is_some (at m d))
  first_known n u = ap is_some (more n u) ∙ known_new (bytes_eq (digest_of form) d) o (at m d)

  pub first_placed : (n : BTreeMap (List ℕ) origin.Origin) → map.Updates (slice_cmp nat_cmp) m n key (Some o) → at m key ≡ None
      → option_map origin_of (at n d) ≡ cond (bytes_eq (digest_of form) d) (Some (origin_or (option_map origin_of (at m d)) (origin_of o))) (option_map origin_of (at m d))
  first_placed n u none = ap (option_map origin_of) (more n u) ∙ place_new (bytes_eq (digest_of form) d) o (at m d) (there None none)

  -- the digest has this place
  pub repeat_known : at m key ≡ Some o → is_some (at m d) ≡ cond (bytes_eq (digest_of form) d) true (is_some (at m d))
  repeat_known has = known_kept (bytes_eq (digest_of form) d) o (at m d) (there (Some o) has)

  pub repeat_placed : (p : Origin) → at m key ≡ Some o
      → option_map origin_of (at m d) ≡ cond (bytes_eq (digest_of form) d) (Some (origin_or (option_map origin_of (at m d)) p)) (option_map origin_of (at m d))
  repeat_placed p has = place_kept (bytes_eq (digest_of form) d) o p (at m d) (there (Some o) has)
