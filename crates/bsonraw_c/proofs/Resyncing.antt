-- Where documents go on after a damaged one, by searches in what is left of an input.
use Rattle.std.proofs.Common.{◌≡◌, ℕ, suc, ◌+◌, ◌-◌, ◌<◌, ◌≤◌, List, [], Bool, true, false, ◌&&◌, arith, length, take, drop, sym, ◌∙◌, subst, refl, inl, inr, append-nil, length-drop}
use Rattle.raw_bson.specs.Limits.{Limits}
use Rattle.raw_resync.specs.Resync.{IsDisbelieved, IsFramed}
use Rattle.raw_resync.specs.Charge.{IsBounded}
use Rattle.raw_resync.specs.Searches.{BelievesLength, DoubtsLength, GoesOnBehind, GoesOnElsewhere, IsFoundAt, IsOpen, PassesOver, Walks}
use Rattle.raw_resync.specs.Seeking.{KeepsBound, LacksPiece, Seeks, TellsSought}
use Rattle.raw_resync.specs.declared.length.Length.TheVariants as lengths
use Rattle.raw_resync.specs.declared.search.Places.{Places}
use Rattle.raw_resync.specs.declared.search.Sought.{Sought}
use Rattle.raw_resync.specs.declared.search.Sought.TheVariants as sought
use Rattle.raw_resync.specs.declared.work.Work.{Work}
use Rattle.raw_resync.proofs.Face.{and_false, and_true, believes_explained, doubts_disbelieved, found_goes_on, keeps_before, keeps_on, one_found, one_left, one_looked, passes_stop_all}
use Rattle.bsonraw_c.specs.Resync.{BeginsPiece, FindsFirst, GoesOnIn, GoesOnward, HasNoLength, IsBelieved, IsFirstPlace, IsOnward, LeavesWork, LooksAtEnd, LooksBehind, work_of}
use Rattle.bsonraw_c.specs.declared.reader.Reader.{Reader}
use Rattle.bsonraw_c.specs.declared.resync.Behind.{Behind}
use Rattle.bsonraw_c.specs.declared.resync.Onward.{Onward}
use Rattle.bsonraw_c.specs.declared.resync.Resync.{Resync}

-- what is told of the last bytes of an input, after which nothing comes
sought_told : {limits : Limits} {b : List ℕ} {last : Bool} {at : ℕ} {p : Places} {old new : Work} {told : Sought} → Seeks limits b last at p old new told
    → TellsSought limits b at p old new told
sought_told {limits} {b} {last} {at} {p} {old} {new} {told} q = subst (λ s. TellsSought limits s at p old new told) (append-nil b) (q.tells [] (λ is. refl))

-- nothing more is wanted
pub no_wants : (limits : Limits) (b : List ℕ) (last : Bool) (at : ℕ) (p : Places) (old new : Work) (place n : ℕ) (all : Bool) → last ≡ true
    → Seeks limits b last at p old new (sought.Wants place n all) → ⊥
no_wants limits b last at p old new place n all is q =
    let no : true ≡ false = sym is ∙ q.here.1.0 in
    let impossible : ⊥ = cc in impossible

-- places are passed up to one that there is
pub passed_within : (limits : Limits) (b : List ℕ) (last : Bool) (at : ℕ) (p : Places) (old new : Work) (all : Bool) → Seeks limits b last at p old new (sought.Nowhere all) → p.until ≤ length b
passed_within limits b last at p old new all q = q.here

-- the first place at which documents are found to go on, from the second byte on
first_place : {limits : Limits} {s : List ℕ} {at place : ℕ} {old before new : Work} {all : Bool} → 1 ≤ place → place ≤ length s → PassesOver limits s at 1 place old before all
    → IsFoundAt limits s at place before new → IsFirstPlace limits s at place old new all
first_place {limits} {s} {at} {place} {old} {before} {new} {all} some within passed found = record {
  some = omega (arith, some);
  within = within;
  goes_on = found_goes_on limits s at place before new found;
  none = λ is j low high. passes_stop_all (subst (λ b. PassesOver limits s at 1 place old before b) is passed) j low high;
  before = before;
  passed = passed;
  found = found;
}

module _ (limits : Limits) (at : ℕ) (s : List ℕ) (last : Bool) where
  -- a search from the second byte on found it
  pub found_first : (until place : ℕ) (old new : Work) (all : Bool) → Seeks limits s last at (record { from = 1; until = until }) old new (sought.Found place all)
      → FindsFirst limits at s old new (record { count = place; is_believed = false; all = all })
  found_first until place old new all q =
      let (low, high, before, passed, found) = sought_told q in
      (refl, first_place low q.here passed found, q.bounded)

  -- where no length is there, they go on at the first place
  pub first_onward : (old new : Work) (onward : Onward) → LacksPiece limits.bytes true s → FindsFirst limits at s old new onward → GoesOnward limits at s old new onward
  first_onward old new onward none (is, first, bound) =
      (subst (λ b. IsOnward limits s at old new onward.count b onward.all) (sym is) (old, inl (none, refl), first), bound)

  module _ (len : ℕ) (piece : BeginsPiece limits.bytes s len) where
    believed : (old new : Work) (all : Bool) → BelievesLength limits s at len old new all → IsBelieved limits s at len old new all
    believed old new all believes = record {
      piece = piece;
      right = λ is. believes_explained limits s at len old new (subst (BelievesLength limits s at len old new) is believes);
      believed = believes;
    }

    pub bound_of : (old new : Work) → KeepsBound (at + len) old new → KeepsBound (at + length s) old new
    bound_of old new bound = let within : len ≤ length s = piece.0 in keeps_before (at + len) (at + length s) old new (omega (arith, within)) bound

    -- the elements explain the length
    pub behind_explained : (old new : Work) → Walks at s len old new lengths.Explained → KeepsBound (at + len) old new
        → GoesOnward limits at s old new (record { count = len; is_believed = true; all = true })
    behind_explained old new walks bound = (believed old new true (inl (walks, refl)), bound_of old new bound)

    -- it could cost too much to know
    pub behind_left : (old new : Work) → Walks at s len old new lengths.LeftOut → KeepsBound (at + len) old new
        → GoesOnward limits at s old new (record { count = len; is_believed = true; all = false })
    behind_left old new walks bound = (believed old new false (inr (inl (walks, refl))), bound_of old new bound)

    -- documents go on inside it
    pub inside_elsewhere : (old new : Work) (place : ℕ) (all : Bool) → Seeks limits s last at (record { from = 1; until = len }) old new (sought.Found place all)
        → LooksBehind limits at s len old new (record { elsewhere = true; all = all })
    inside_elsewhere old new place all q =
        let (low, high, before, passed, found) = sought_told q in
        (inl (place, all, (before, omega (arith, low), high, passed, found)), q.bounded)

    -- or not
    pub inside_passed : (old mid new : Work) {all : Bool} (behind : Behind) → Seeks limits s last at (record { from = 1; until = len }) old mid (sought.Nowhere all)
        → LooksAtEnd limits at s len mid new all behind → LooksBehind limits at s len old new behind
    inside_passed old mid new {all} behind q is = let (told, bound) = is old (sought_told q) in (told, keeps_on (at + length s) old mid new q.bounded bound)

    -- what is found right after it
    rest_bound : (old new : Work) → KeepsBound (at + len + length (drop len s)) old new → KeepsBound (at + length s) old new
    rest_bound old new bound =
        let within : len ≤ length s = piece.0 in
        let size : length (drop len s) ≡ length s - len = length-drop len s in
        keeps_before (at + len + length (drop len s)) (at + length s) old new (omega (arith, within, size)) bound

    pub found_at_end : (old new : Work) (all : Bool) (place : ℕ) (more : Bool) → Seeks limits (drop len s) last (at + len) (record { from = 0; until = 1 }) old new (sought.Found place more)
        → LooksAtEnd limits at s len old new all (record { elsewhere = false; all = all })
    found_at_end old new all place more q inside over =
        let (low, high, before, passed, found) = sought_told q in
        let open' : IsOpen limits (drop len s) (at + len) old new true =
        one_found limits (drop len s) (at + len) 0 place old before new more (omega (arith, high)) passed found in
        ((old, all, true, over, open', and_true all), rest_bound old new q.bounded)

    pub passed_at_end : (old new : Work) (all looked : Bool) → Seeks limits (drop len s) last (at + len) (record { from = 0; until = 1 }) old new (sought.Nowhere looked)
        → LooksAtEnd limits at s len old new all (record { elsewhere = looked; all = false })
    passed_at_end old new all true q inside over = (inr (old, all, over, one_looked (sought_told q)), rest_bound old new q.bounded)
    passed_at_end old new all false q inside over = ((old, all, false, over, one_left (sought_told q), and_false all), rest_bound old new q.bounded)

-- where the elements of a piece at the front don't explain its length
module _ (limits : Limits) (at : ℕ) (s : List ℕ) (len : ℕ) (piece : BeginsPiece limits.bytes s len) where
  within_all : (old new : Work) → KeepsBound (at + len) old new → KeepsBound (at + length s) old new
  within_all old new bound = let within : len ≤ length s = piece.0 in keeps_before (at + len) (at + length s) old new (omega (arith, within)) bound

  -- documents go on right after it
  pub behind_piece : (start old new : Work) (all : Bool) → Walks at s len start old lengths.Unexplained × KeepsBound (at + len) start old
      → GoesOnBehind limits s at len old new all × KeepsBound (at + length s) old new → GoesOnward limits at s start new (record { count = len; is_believed = true; all = all })
  behind_piece start old new all (walks, bound) (goes, more) =
      let believes : BelievesLength limits s at len start new all = inr (inr (old, walks, goes)) in
      let right : all ≡ true → ¬ IsDisbelieved limits s len = λ is. believes_explained limits s at len start new (subst (BelievesLength limits s at len start new) is believes) in
      (record { piece = piece; right = right; believed = believes }, keeps_on (at + length s) start old new (within_all start old bound) more)

  -- or elsewhere
  pub elsewhere_first : (start old mid new : Work) (onward : Onward) → Walks at s len start old lengths.Unexplained × KeepsBound (at + len) start old
      → (GoesOnElsewhere limits s at len old mid × KeepsBound (at + length s) old mid) × FindsFirst limits at s mid new onward → GoesOnward limits at s start new onward
  elsewhere_first start old mid new onward (walks, bound) ((goes, more), (is, first, cost)) =
      let doubts : DoubtsLength limits s at len start mid = (old, walks, goes) in
      let none : HasNoLength limits s at start mid = inr (len, piece, doubts_disbelieved limits s at len start mid doubts, doubts) in (
        subst (λ b. IsOnward limits s at start new onward.count b onward.all) (sym is) (mid, none, first),
        keeps_on (at + length s) start mid new (keeps_on (at + length s) start old mid (within_all start old bound) more) cost,
      )

-- a reader goes on there
module _ (limits : Limits) (b : List ℕ) (damage : ℕ) (before : Resync) (work : Work) (onward : Onward) (within : damage < length b) (bound : IsBounded (length b) (work_of before))
    (goes : GoesOnward limits damage (drop damage b) (work_of before) work onward) where
  pub bounded_on : IsBounded (length b) work
  bounded_on =
      let left : length (drop damage b) ≡ length b - damage = length-drop damage b in
      goes.1 (length b) (omega (arith, left, within)) bound

  pub goes_on_in : {old new : Reader} {after : Resync} → new ≡ record old { next = damage + onward.count } → LeavesWork onward work after → GoesOnIn limits b damage old new before after
  goes_on_in is (same, believed, left) = record {
    count = onward.count;
    is_believed = onward.is_believed;
    all = onward.all;
    onward = subst (λ w. IsOnward limits (drop damage b) damage (work_of before) w onward.count onward.is_believed onward.all) (sym same) goes.0;
    reader = is;
    flag_is = believed;
    left_out = left;
    bounded = subst (IsBounded (length b)) (sym same) bounded_on;
  }
