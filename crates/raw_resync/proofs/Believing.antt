-- What searches show of documents that count, and of the length of a damaged document.
use Rattle.std.proofs.Common.{◌≡◌, ℕ, zero, suc, ◌+◌, ◌<◌, ◌≤◌, ◌⊎◌, List, [], ◌++◌, Bool, true, false, ◌&&◌, arith, length, take, drop, sym, ap, ◌∙◌, subst, refl, inl, inr, length-append, length-drop, ◌-◌}
use Rattle.bson_model.specs.Tree.{Tree}
use Rattle.raw_view.specs.Frame.Envelope.{IsEnvelope}
use Rattle.raw_tree.specs.Reading.{Reads}
use Rattle.raw_tree.specs.declared.reader.limits.Limits.{Limits}
use Rattle.raw_resync.specs.Resync.{GoesOn, IsDisbelieved, IsFramed, IsSound}
use Rattle.raw_resync.specs.Searches.{BelievesLength, DoubtsLength, IsFoundAt, IsLeftOut, IsLikely, IsOpen, IsPassedAt, PassesOver, Walks}
use Rattle.raw_resync.specs.Charge.{HasRoom, IsWalked}
use Rattle.raw_resync.specs.declared.length.Length.{Length}
use Rattle.raw_resync.specs.declared.length.Length.TheVariants as lengths
use Rattle.raw_resync.specs.declared.work.Work.{Work}
use Rattle.raw_resync.proofs.Begun.{sound_begun}
use Rattle.raw_resync.proofs.Fronts.{same_front}
use Rattle.raw_resync.proofs.Passing.{both_true}

-- documents continue at a place where that is found
pub found_goes_on : (limits : Limits) (s : List ℕ) (at place : ℕ) (old new : Work) → IsFoundAt limits s at place old new → GoesOn limits s place
found_goes_on limits s at place old new (inl (none, same)) = inl none
found_goes_on limits s at place old new (inr (p, room, n, (sound, size), same)) = inr (record { b = p.b; rest = p.rest; split = p.split; sound = sound; long = p.long; alone = p.alone })

-- a document that counts is one that may
evidence_likely : (limits : Limits) (s : List ℕ) (place : ℕ) → GoesOn limits s place → place < length s → IsLikely limits s place
evidence_likely limits s place (inl none) within =
    let size : length (drop place s) ≡ length s - place = length-drop place s in
    let nothing : length (drop place s) ≡ 0 = ap length none in
    absurd (omega (arith, size, nothing, within))
evidence_likely limits s place (inr e) within = record {
  b = e.b;
  rest = e.rest;
  split = e.split;
  piece = e.sound.piece;
  long = e.long;
  envelope = e.sound.envelope;
  begun = sound_begun limits e.b e.long e.sound;
  alone = e.alone;
}

-- they don't continue at a place that is passed, unless it is left out
pub passed_stops : (limits : Limits) (s : List ℕ) (at place : ℕ) (old new : Work) → IsPassedAt limits s at place old new → ¬ IsLeftOut limits s at place old → ¬ GoesOn limits s place
passed_stops limits s at place old new (within, inl (none, same)) looked on = none (evidence_likely limits s place on within)
passed_stops limits s at place old new (within, inr (inl (left, same))) looked on = looked left
passed_stops limits s at place old new (within, inr (inr (p, room, n, (damaged, charge), same))) looked (inl none) =
    let size : length (drop place s) ≡ length s - place = length-drop place s in
    let nothing : length (drop place s) ≡ 0 = ap length none in
    absurd (omega (arith, size, nothing, within))
passed_stops limits s at place old new (within, inr (inr (p, room, n, (damaged, charge), same))) looked (inr e) =
    let one : p.b ≡ e.b = (same_front limits.bytes (drop place s) p.b p.rest e.b e.rest p.piece p.split e.sound.piece e.split).0 in
    damaged (subst (IsSound limits) (sym one) e.sound)

-- they continue at none of the places that are passed, if none is left out
pub passes_stop_all : {limits : Limits} {s : List ℕ} {at from to : ℕ} {old new : Work} → PassesOver limits s at from to old new true → (place : ℕ) → from ≤ place → place < to → ¬ GoesOn limits s place
passes_stop_all {limits} {s} {at} p place low high = passed_stops limits s at place (p.work place) (p.work (suc place)) (p.each place low high) (p.whole refl place low high)

-- nothing is charged for a place that is left out
left_free : (limits : Limits) (s : List ℕ) (at place : ℕ) (old new : Work) → IsPassedAt limits s at place old new → IsLeftOut limits s at place old → new ≡ old
left_free limits s at place old new (within, inl (none, same)) (q, full) = absurd (none q)
left_free limits s at place old new (within, inr (inl (left, same))) (q, full) = same
left_free limits s at place old new (within, inr (inr (p, room, n, probed, same))) (q, full) =
    let one : p.b ≡ q.b = (same_front limits.bytes (drop place s) p.b p.rest q.b q.rest p.piece p.split q.piece q.split).0 in
    absurd (full (subst (λ b. HasRoom old (length b) (at + (place + length b))) one room))

-- one place is passed
module _ {limits : Limits} {s : List ℕ} {at place : ℕ} {old new : Work} where
  one_passed : {all : Bool} → PassesOver limits s at place (suc place) old new all → IsPassedAt limits s at place old new
  one_passed p =
      subst (λ u. IsPassedAt limits s at place u new) p.start (subst (λ v. IsPassedAt limits s at place (p.work place) v) p.end (p.each place (omega arith) (omega arith)))

  pub one_looked : PassesOver limits s at place (suc place) old new true → IsPassedAt limits s at place old new × ¬ IsLeftOut limits s at place old
  one_looked p = (one_passed p, λ left. p.whole refl place (omega arith) (omega arith) (subst (λ u. IsLeftOut limits s at place u) (sym p.start) left))

  pub one_left : PassesOver limits s at place (suc place) old new false → IsLeftOut limits s at place old × (new ≡ old)
  one_left p =
      let (there, low, high, left) = p.some refl in
      let same : there ≡ place = omega (arith, low, high) in
      let here : IsLeftOut limits s at place old = subst (λ u. IsLeftOut limits s at place u) p.start (subst (λ n. IsLeftOut limits s at n (p.work n)) same left) in
      (here, left_free limits s at place old new (one_passed p) here)

-- documents are found to continue at the first place
pub one_found : (limits : Limits) (s : List ℕ) (at first place : ℕ) (old before new : Work) (all : Bool) → place ≡ first → PassesOver limits s at first place old before all
    → IsFoundAt limits s at place before new → IsFoundAt limits s at first old new
one_found limits s at first place old before new all same p found =
    let none : before ≡ old = sym p.end ∙ ap p.work same ∙ p.start in
    subst (λ n. IsFoundAt limits s at n old new) same (subst (λ u. IsFoundAt limits s at place u new) none found)

-- a length that isn't believed
pub doubts_disbelieved : (limits : Limits) (s : List ℕ) (at len : ℕ) (old new : Work) → DoubtsLength limits s at len old new → IsDisbelieved limits s len
doubts_disbelieved limits s at len old new (mid, (room, unframed, n, walked, same), inl (place, all, (there, some, high, over, found))) =
    (unframed, inl (place, some, high, found_goes_on limits s at place there new found))
doubts_disbelieved limits s at len old new (mid, (room, unframed, n, walked, same), inr (there, all, over, (passed, looked))) =
    (unframed, inr (passed_stops limits (drop len s) (at + len) 0 there new passed looked))

-- a length that is believed, if no place is left out
pub believes_explained : (limits : Limits) (s : List ℕ) (at len : ℕ) (old new : Work) → BelievesLength limits s at len old new true → ¬ IsDisbelieved limits s len
believes_explained limits s at len old new (inl ((room, framed, n, walked, same), is)) = λ (unframed, other). unframed framed
believes_explained limits s at len old new (inr (inl (left, is))) = λ not. let impossible : ⊥ = cc in impossible
believes_explained limits s at len old new (inr (inr (mid, walks, (there, a, b, over, open', is)))) = λ (unframed, other).
    let (first, second) = both_true a b (sym is) in
    let found : IsOpen limits (drop len s) (at + len) there new true = subst (λ c. IsOpen limits (drop len s) (at + len) there new c) second open' in
    elim other [
      | inl (place, low, high, on) ↦ passes_stop_all (subst (λ c. PassesOver limits s at 1 len mid there c) first over) place low high on
      | inr shut ↦ shut (found_goes_on limits (drop len s) (at + len) 0 there new found)
    ]

-- what the elements of the first bytes show of those of others that begin with the same
pub walks_front : (at len : ℕ) (s t : List ℕ) (old new : Work) (told : Length) → take len t ≡ take len s → Walks at s len old new told → Walks at t len old new told
walks_front at len s t old new lengths.Explained same (room, framed, n, walked, is) = (room, subst IsFramed (sym same) framed, n, subst (λ b. IsWalked b n) (sym same) walked, is)
walks_front at len s t old new lengths.Unexplained same (room, unframed, n, walked, is) = (room, subst (λ b. ¬ IsFramed b) (sym same) unframed, n, subst (λ b. IsWalked b n) (sym same) walked, is)
walks_front at len s t old new lengths.LeftOut same left = left

read_framed : (b : List ℕ) (t : Tree) → IsEnvelope b → Reads b t → IsFramed b
read_framed b t envelope (zero, none) = absurd none
read_framed b t envelope (suc n, (pairs, (frames, walk, each), same)) = (envelope, (frames, walk))

-- the elements of an undamaged document follow one another up to its end
pub sound_framed : (limits : Limits) (b : List ℕ) → IsSound limits b → IsFramed b
sound_framed limits b sound = read_framed b sound.tree sound.envelope sound.reads.read
