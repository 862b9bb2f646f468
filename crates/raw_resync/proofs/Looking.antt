-- What a look at a place finds.
use Rattle.std.proofs.Common.{◌≡◌, ℕ, ◌+◌, ◌-◌, ◌<◌, ◌≤◌, List, [], ◌++◌, Bool, true, false, Option, None, Some, Result, Ok, Err, IfOk, arith, length, take, drop, sym, ap, ◌∙◌, subst, refl, inl, inr, length-append, length-drop}
use Rattle.std.proofs.lemmas.List.{take-append-drop, take-append-le}
use Rattle.raw_view.specs.Frame.Envelope.{IsEnvelope}
use Rattle.raw_tree.specs.declared.reader.limits.Limits.{Limits}
use Rattle.raw_resync.specs.Pieces.{IsPiece}
use Rattle.raw_resync.specs.Resync.{EndsInKey}
use Rattle.raw_resync.specs.Charge.{HasRoom, IsProbed, charged}
use Rattle.raw_resync.specs.Searches.{IsBegun, IsLeftOut, IsLikely, LooksInto}
use Rattle.raw_resync.specs.Seeking.{Checks, KeepsBound, ProbesOrLeaves, TellsFront, check_of}
use Rattle.raw_resync.specs.declared.check.Check.TheVariants as check
use Rattle.raw_resync.specs.declared.check.Front.TheVariants as front
use Rattle.raw_resync.specs.declared.work.Work.{Work}
use Rattle.raw_resync.proofs.Fronts.{front_len, left_behind, none_behind, same_front, split_front, told_some}
use Rattle.raw_resync.proofs.Costing.{keeps_before, keeps_same}

pub if_ok : {A E : Type 0} (P Q : A → Type 0) (r : Result A E) → ((x : A) → P x → Q x) → IfOk r P → IfOk r Q
if_ok P Q (Ok x) on is = on x is
if_ok P Q (Err e) on is = tt

-- a place before the end of the bytes is before that of all that follows
within_all : (bytes rest : List ℕ) (place : ℕ) → place < length bytes → place < length (bytes ++ rest)
within_all bytes rest place within = let size : length (bytes ++ rest) ≡ length bytes + length rest = length-append bytes rest in omega (arith, within, size)

-- no document that may count begins at a place, and nothing is charged
stops_at : (limits : Limits) (bytes : List ℕ) (last : Bool) (at place : ℕ) (w : Work) → place < length bytes
    → ((rest : List ℕ) → (last ≡ true → rest ≡ []) → ¬ IsLikely limits (bytes ++ rest) place) → Checks limits bytes last at place w w check.Stops
stops_at limits bytes last at place w within none = record {
  bounded = keeps_same (at + length bytes) w;
  here = within;
  tells = λ rest may. ((within_all bytes rest place within, inl (none rest may, refl)), λ left. none rest may left.0);
}

-- no piece is found at a place
pub at_none : (limits : Limits) (bytes : List ℕ) (last : Bool) (at place : ℕ) (w : Work) → place ≤ length bytes → TellsFront limits.bytes bytes last place front.NoPiece
    → Checks limits bytes last at place w w check.Stops
at_none limits bytes last at place w within lacks =
    stops_at limits bytes last at place w (told_some limits.bytes bytes last place within lacks) (λ rest may. none_behind limits last place bytes rest within lacks may)

-- the input ends at a place
pub at_end : (limits : Limits) (bytes : List ℕ) (last : Bool) (at place : ℕ) (w : Work) → place ≤ length bytes → TellsFront limits.bytes bytes last place front.End
    → Checks limits bytes last at place w w check.GoesOn
at_end limits bytes last at place w within (is, none) = record {
  bounded = keeps_same (at + length bytes) w;
  here = tt;
  tells = λ rest may. inl (left_behind place bytes rest within ∙ ap (λ l. l ++ rest) none ∙ may is, refl);
}

-- more bytes are needed
pub at_more : (limits : Limits) (bytes : List ℕ) (last : Bool) (at place n : ℕ) (w : Work) → TellsFront limits.bytes bytes last place (front.Wants n)
    → Checks limits bytes last at place w w (check.Wants n)
at_more limits bytes last at place n w wants = record { bounded = keeps_same (at + length bytes) w; here = wants; tells = λ rest may. refl }

-- a piece of `len` bytes is at `place` of these bytes
pub record IsPieceIn (limits : Limits) (bytes : List ℕ) (place len : ℕ) : Type 0 where
  pub within : place + len ≤ length bytes
  pub is : IsPiece limits.bytes (take len (drop place bytes))

-- the piece may be a document that counts
pub record MayCount (bytes : List ℕ) (place len : ℕ) : Type 0 where
  pub long : 8 < len
  pub envelope : IsEnvelope (take len (drop place bytes))
  pub begun : IsBegun (take len (drop place bytes))
  pub alone : ¬ EndsInKey (take place bytes)

module _ {limits : Limits} {bytes : List ℕ} {place len : ℕ} (p : IsPieceIn limits bytes place len) where
  size : length (take len (drop place bytes)) ≡ len
  size = front_len place len bytes p.within

  some : place < length bytes
  some = let enough : 5 ≤ length (take len (drop place bytes)) = p.is.sound.0 in omega (arith, enough, size, p.within)

  -- what is before the place
  before : (rest : List ℕ) → take place (bytes ++ rest) ≡ take place bytes
  before rest = take-append-le place bytes rest (omega (arith, p.within))

  -- it is the only piece there
  only : (rest : List ℕ) (q : IsLikely limits (bytes ++ rest) place) → q.b ≡ take len (drop place bytes)
  only rest q =
      sym
      ((same_front limits.bytes (drop place (bytes ++ rest)) (take len (drop place bytes)) (drop (place + len) (bytes ++ rest)) q.b q.rest p.is
      (split_front place len bytes rest p.within) q.piece q.split).0)

  only_counts : (rest : List ℕ) → IsLikely limits (bytes ++ rest) place → MayCount bytes place len
  only_counts rest q =
      let same = only rest q in
      record {
        long = subst (λ n. 8 < n) (ap length same ∙ size) q.long;
        envelope = subst IsEnvelope same q.envelope;
        begun = subst IsBegun same q.begun;
        alone = subst (λ l. ¬ EndsInKey l) (before rest) q.alone;
      }

  likely : (rest : List ℕ) → MayCount bytes place len → IsLikely limits (bytes ++ rest) place
  likely rest c = record {
    b = take len (drop place bytes);
    rest = drop (place + len) (bytes ++ rest);
    split = split_front place len bytes rest p.within;
    piece = p.is;
    long = subst (λ n. 8 < n) (sym size) c.long;
    envelope = c.envelope;
    begun = c.begun;
    alone = subst (λ l. ¬ EndsInKey l) (sym (before rest)) c.alone;
  }

module _ {limits : Limits} {bytes : List ℕ} {place len : ℕ} (p : IsPieceIn limits bytes place len) (last : Bool) (at : ℕ) where
  -- the piece can't count
  pub cannot_count : (w : Work) → ¬ MayCount bytes place len → Checks limits bytes last at place w w check.Stops
  cannot_count w none = stops_at limits bytes last at place w (some p) (λ rest may q. none (only_counts p rest q))

  module _ (c : MayCount bytes place len) (old new : Work) (bound : KeepsBound (at + (place + len)) old new) where
    bounded : KeepsBound (at + length bytes) old new
    bounded = keeps_before (at + (place + len)) (at + length bytes) old new (omega (arith, p.within)) bound

    end_of : at + (place + len) ≡ at + (place + length (take len (drop place bytes)))
    end_of = ap (λ n. at + (place + n)) (sym (size p))

    looks : (is : Bool) (rest : List ℕ) → ProbesOrLeaves limits (take len (drop place bytes)) (at + (place + len)) old new (Some is) → LooksInto limits (bytes ++ rest) at place old new is
    unfolding likely
    looks is rest probes =
        let (room, n, probed, same) = subst (λ e. ProbesOrLeaves limits (take len (drop place bytes)) e old new (Some is)) end_of probes in
        (likely p rest c, room, n, probed, same)

    -- the piece isn't left out if there is enough for it
    has_room : (rest : List ℕ) → HasRoom old (length (take len (drop place bytes))) (at + (place + length (take len (drop place bytes)))) → ¬ IsLeftOut limits (bytes ++ rest) at place old
    has_room rest room (q, none) = none (subst (λ b. HasRoom old (length b) (at + (place + length b))) (sym (only p rest q)) room)

    -- the piece is probed
    pub is_probed : (probed : Option Bool) → ProbesOrLeaves limits (take len (drop place bytes)) (at + (place + len)) old new probed
        → Checks limits bytes last at place old new (check_of probed)
    unfolding likely
    is_probed None probes = record {
      bounded = bounded;
      here = some p;
      tells = λ rest may.
          let (none, same) = subst (λ e. ProbesOrLeaves limits (take len (drop place bytes)) e old new None) end_of probes in
          let left : IsLeftOut limits (bytes ++ rest) at place old = (likely p rest c, none) in
          ((within_all bytes rest place (some p), inr (inl (left, same))), left);
    }
    is_probed (Some true) probes = record { bounded = bounded; here = tt; tells = λ rest may. inr (looks true rest probes) }
    is_probed (Some false) probes = record {
      bounded = bounded;
      here = some p;
      tells = λ rest may.
          let (room, n, probed, same) = subst (λ e. ProbesOrLeaves limits (take len (drop place bytes)) e old new (Some false)) end_of probes in
          ((within_all bytes rest place (some p), inr (inr (looks false rest probes))), has_room rest room);
    }
