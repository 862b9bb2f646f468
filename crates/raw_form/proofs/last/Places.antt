-- The loops over the elements of a document that look for a repeated key and list the last places of its keys.
use Rattle.std.proofs.Common.{◌≡◌, ◌∙◌, ◌<◌, ◌≤◌, ◌+◌, ◌++◌, ◌∷◌, [], ℕ, Bool, List, Option, None, Some, drop, length, ltb, slice_get, arith, ap, refl, sym, add-one, append_assoc, append-nil, drop-cons, length-append, length-drop, length-set}
use Rattle.std.proofs.lemmas.Bool.Decides.{nat_tests}
use Rattle.std.proofs.lemmas.List.{drop-drop}
use Rattle.std.proofs.lemmas.Option.{get_or_from_slice_get, slice_get_within}
use Rattle.std.proofs.lemmas.Slice.Eq.{bytes_eq-Decides}
use Rattle.raw_form.proofs.canonical.Common.{Bor, Frame, IsFrame, IsRest, LeadsTo, LeadsTo-more, LastPlaces, RawElement, ReadsAs, TakesFrame, Tree, bytes_eq, bytes_of, entries, frame_of, keep, keep-last, keys_of, left_of, put_at, size_of, with_pair}
use Rattle.key_set.specs.IndexedKeys.{with_key}
use Rattle.key_set.specs.KeySets.{HasKeys, TellsPlace}
use Rattle.bson_model.specs.Tree.{Entries, entry_then}
use Rattle.raw_tree.specs.Reading.{FrameStandsFor, ReadsRest}
use Rattle.key_set.specs.declared.key_set.KeySet.{KeySet}
use Rattle.raw_tree.proofs.Face.{drop_frame, frame_size}
use Rattle.key_set.proofs.Face.{first_at, position_is}
use Rattle.raw_form.specs.Staying.{AreFramesAt, IsFrameAt, IsLeftAt, TakesMember}
use Rattle.raw_form.proofs.rewritten.Members.{pair_over, pair_taken}

-- These pairs were passed, and P holds of them; those of the rest follow.
pub record HasPassed (P : List (List ℕ × Tree) → Type 0) (left : Option (List ℕ)) (pairs : List (List ℕ × Tree)) : Type 0 where
  pub passed : List (List ℕ × Tree)
  pub rest : List (List ℕ × Tree)
  pub whole : pairs ≡ passed ++ rest
  pub left_is : IsRest left rest
  pub holds : P passed

pub passed_all : {P : List (List ℕ × Tree) → Type 0} {left : Option (List ℕ)} {pairs : List (List ℕ × Tree)} → HasPassed P left pairs → (new : Option (List ℕ)) → TakesFrame left None new → P pairs
passed_all {left = left} is new none = rw (is.whole, pair_over left new is.rest is.left_is none, append-nil is.passed) is.holds

pub passed_more : {P : List (List ℕ × Tree) → Type 0} {left : Option (List ℕ)} {pairs : List (List ℕ × Tree)} → HasPassed P left pairs
    → (Q : List (List ℕ × Tree) → Type 0) (new : Option (List ℕ)) (e : RawElement) → TakesFrame left (Some e) new
    → ((passed : List (List ℕ × Tree)) (t : Tree) → FrameStandsFor (frame_of e) t → P passed → Q (passed ++ ((frame_of e).key, t) ∷ [])) → HasPassed Q new pairs
passed_more {left = left} is Q new e takes more =
    let (t, rest, same, stands, left_is, shorter) = pair_taken left new is.rest e is.left_is takes in
    let pair : List ℕ × Tree = ((frame_of e).key, t) in
    record {
      passed = is.passed ++ pair ∷ [];
      rest = rest;
      whole = is.whole ∙ ap (λ (ps : List (List ℕ × Tree)). is.passed ++ ps) same ∙ sym (append_assoc is.passed (pair ∷ []) rest);
      left_is = left_is;
      holds = more is.passed t stands is.holds;
    }

pub left_more : (old new : Option (List ℕ)) (e : RawElement) → TakesFrame old (Some e) new → left_of new + size_of (frame_of e) ≡ left_of old
left_more None new e h = cc
left_more (Some s) new e (r, at, is) = rw is (omega (arith, frame_size s (frame_of e) r at))

-- a kept pair, and its place

kept_keys : (k : List ℕ) (t : Tree) (kept : List (List ℕ × Tree)) → keys_of (with_pair k t kept) ≡ with_key (keys_of kept) k (first_at (bytes_eq k) (keys_of kept))
kept_keys k t [] = refl
kept_keys k t (p ∷ kept) = grind (arith, kept_keys k t kept)

kept_places : (d : List ℕ) (place : ℕ) (k : List ℕ) (t : Tree) (places : List ℕ) (kept : List (List ℕ × Tree)) → AreFramesAt d places kept → IsFrameAt d place k t
    → AreFramesAt d (put_at (first_at (bytes_eq k) (keys_of kept)) place places) (with_pair k t kept)
kept_places d place k t [] [] h is = (is, tt)
kept_places d place k t (q ∷ places) (p ∷ kept) h is = grind (arith, kept_places d place k t places kept h.1 is, bytes_eq-Decides k p.0)
kept_places d place k t places kept h is = absurd h

-- these keys are kept, and their last frames are at the places
abbrev pub AreKept : List ℕ → List (List ℕ) → List ℕ → List (List ℕ × Tree) → Type 0
AreKept d own places pairs = (keys_of (keep pairs) ≡ own) × AreFramesAt d places (keep pairs)

kept_more : (d : List ℕ) (own : List (List ℕ)) (places : List ℕ) (place : ℕ) (key : List ℕ) (known : Option ℕ) (passed : List (List ℕ × Tree)) (t : Tree)
    → known ≡ first_at (bytes_eq key) own → AreKept d own places passed → IsFrameAt d place key t → AreKept d (with_key own key known) (put_at known place places) (passed ++ (key, t) ∷ [])
kept_more d own places place key known passed t known_is (keys, frames) is =
    rw (keep-last passed key t, known_is, ← keys) (kept_keys key t (keep passed), kept_places d place key t places (keep passed) frames is)

-- the last places of the keys of the passed pairs are listed, and the rest begins here
pub record AreListed (d : List ℕ) (set : KeySet) (listed : List (Bor (List ℕ))) (places : List ℕ) (left : Option (List ℕ)) (offset : ℕ) : Type 0 where
  pub below : List (List ℕ)
  pub own : List (List ℕ)
  pub keys : HasKeys set listed below own
  pub as_many : length places ≡ length own
  pub frames : List Frame
  pub reaches : LeadsTo (drop 4 d) frames (drop offset d)
  pub left_is : left ≡ Some (drop offset d)
  pub least : 4 ≤ offset
  pub begins : offset + left_of left ≡ length d
  pub each : (pairs : List (List ℕ × Tree)) → ReadsRest ReadsAs (drop 4 d) pairs → HasPassed (AreKept d own places) left pairs

as_many_more : (key : List ℕ) (place : ℕ) (own : List (List ℕ)) (places : List ℕ) (known : Option ℕ) → length places ≡ length own
    → length (put_at known place places) ≡ length (with_key own key known)
as_many_more key place own places known same = grind (arith, length-append, length-set)

behind_frame : (d : List ℕ) (place : ℕ) (f : Frame) (r : List ℕ) → IsFrame (drop place d) f r → r ≡ drop (place + size_of f) d
behind_frame d place f r at =
    let same : place + (size_of f + 0) ≡ place + size_of f = omega arith in
    sym (drop_frame (drop place d) f r 0 at) ∙ drop-drop (size_of f + 0) place d ∙ ap (λ (n : ℕ). drop n d) same

-- one more element
pub listed_more : {d : List ℕ} {set : KeySet} {listed : List (Bor (List ℕ))} {places : List ℕ} {left : Option (List ℕ)} {offset : ℕ} (is : AreListed d set listed places left offset)
    → (new : Option (List ℕ)) (e : RawElement) → TakesFrame left (Some e) new → (after : KeySet) (refs : List (Bor (List ℕ))) (known : Option ℕ) (at : List ℕ) (end : ℕ)
    → TellsPlace is.below is.own (frame_of e).key after refs known → at ≡ put_at known offset places → end ≡ offset + size_of (frame_of e)
    → AreListed d after refs at new end
listed_more {d} {places = places} {left} {offset} is new e takes after refs known at end told put far =
    let f = frame_of e in
    let (r, there, new_is) = rw is.left_is at takes in
    let behind : r ≡ drop end d = rw far (behind_frame d offset f r there) in
    let here : (t : Tree) → FrameStandsFor f t → IsFrameAt d offset f.key t =
    λ t stands. record { passed = is.frames; f = f; r = r; reaches = is.reaches; frame = there; stands = stands; key_is = refl; least = is.least; within = omega (arith, is.begins) } in
    record {
      below = is.below;
      own = with_key is.own f.key known;
      keys = told.keys;
      as_many = rw put (as_many_more f.key offset is.own places known is.as_many);
      frames = is.frames ++ f ∷ [];
      reaches = rw behind at (LeadsTo-more (drop 4 d) is.frames (drop offset d) f r is.reaches there);
      left_is = rw behind at new_is;
      least = omega (arith, is.least, far);
      begins = omega (arith, is.begins, far, left_more left new e takes);
      each = λ pairs read. passed_more (is.each pairs read) (AreKept d (with_key is.own f.key known) at) new e takes
          (λ passed t stands kept. rw put (kept_more d is.own places offset f.key known passed t (told.place_is ∙ position_is (bytes_eq f.key) is.own) kept (here t stands)));
    }

-- the rest of the places

more_behind : (i : ℕ) (xs : List ℕ) (x : ℕ) → slice_get xs i ≡ Some x → drop i xs ≡ x ∷ drop (i + 1) xs
more_behind i xs x e = rw (add-one, drop-cons xs i x (slice_get_within xs i x e), get_or_from_slice_get xs i x x e) refl

-- the frame at the next place is that of the first of these pairs
first_placed : (d : List ℕ) (places : List ℕ) (i place : ℕ) (pairs : List (List ℕ × Tree)) → AreFramesAt d (drop i places) pairs → slice_get places i ≡ Some place
    → (p : List ℕ × Tree) × (rest : List (List ℕ × Tree)) × (pairs ≡ p ∷ rest) × IsFrameAt d place p.0 p.1 × AreFramesAt d (drop (i + 1) places) rest
first_placed d places i place [] h some = absurd (rw (more_behind i places place some) at h)
first_placed d places i place (p ∷ rest) h some = let next = rw (more_behind i places place some) at h in (p, rest, refl, next.0, next.1)

pub member_taken : (last : LastPlaces) (o : ℕ) (e : RawElement) (is_known : Bool) (ms : Entries) → IsLeftAt last ms
    → slice_get last.places.items last.passed ≡ Some o → ((f : Frame) (r : List ℕ) → IsFrame (drop o (bytes_of last.document)) f r → frame_of e ≡ f)
    → is_known ≡ ltb o last.known
    → TakesMember ms (Some (e, is_known)) (record { document = last.document; places = last.places; passed = last.passed + 1; known = last.known })
member_taken last o e is_known ms (pairs, frames, same, before) some there test =
    let d = bytes_of last.document in
    let (p, rest, pairs_are, is, others) = first_placed d last.places.items last.passed o pairs frames some in
    let element : frame_of e ≡ is.f = there is.f is.r is.frame in (
      p.1,
      entries rest,
      same ∙ ap entries pairs_are ∙ ap (λ (k : List ℕ). entry_then k p.1 (entries rest)) (sym is.key_is ∙ ap (λ (g : Frame). g.key) (sym element)),
      rw (← element) at is.stands,
      (rest, others, refl, before),
      (λ told. let less : o < last.known = grind (arith, nat_tests, test, told) in
          rw (← element) at (before is.passed (drop o d) is.f is.r is.reaches is.frame (omega (arith, less, is.within, length-drop o d)))),
    )
