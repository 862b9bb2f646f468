-- Whether a damaged document is taken at its length, where more may be read.
use Rattle.std.proofs.Common.{◌≡◌, ℕ, ◌+◌, ◌-◌, ◌<◌, ◌≤◌, List, [], ◌++◌, Option, Some, Bool, true, false, ◌&&◌, not, Result, Ok, Err, IfErr, arith, length, take, drop, sym, ap, ◌∙◌, subst, refl, inl, inr, length-append, length-drop, length-take-le}
use Rattle.std.proofs.lemmas.List.{drop-append-le, take-append-le}
use Rattle.std.proofs.Math.Seq.{take-length}
use Rattle.std.specs.Io.KnownBytes.{Consumes, IsAtEnd}
use Rattle.raw_tree.specs.declared.reader.limits.Limits.{Limits}
use Rattle.raw_resync.specs.Resync.{IsFramed, IsSound}
use Rattle.raw_resync.specs.Searches.{BelievesLength, DoubtsLength, IsFoundAt, PassesOver, Walks}
use Rattle.raw_resync.specs.Seeking.{IsWork, KeepsBound, MayFollow, IsSoughtIn, Seeks, TellsSought}
use Rattle.raw_resync.specs.declared.length.Length.{Length}
use Rattle.raw_resync.specs.declared.length.Length.TheVariants as lengths
use Rattle.raw_resync.specs.declared.search.Places.{Places}
use Rattle.raw_resync.specs.declared.search.Sought.{Sought}
use Rattle.raw_resync.specs.declared.search.Sought.TheVariants as sought
use Rattle.raw_resync.specs.declared.work.Work.{Work}
use Rattle.raw_resync.proofs.Face.{and_false, and_true, believes_explained, doubts_disbelieved, found_goes_on, keeps_before, keeps_on, keeps_same, one_found, one_left, one_looked, passes_after, passes_stop_all, sound_framed, walks_front}
use Rattle.raw_resync.proofs.Face as face
use Rattle.dump_io.specs.input.Cut.{EndsWith, IsPiece}
use Rattle.dump_io.specs.input.Reading.{IsReadBehind, IsWindow, ReadsAhead, SeesAhead, Stays, TellsNext, ahead_of}
use Rattle.dump_io.specs.input.Resync.{BreaksWith, Doubts, GoesElsewhere, HasWrongLength, IsBelieved, IsDoubted, LooksBehind, Searches, Sees, TellsBehind, TellsElsewhere, TellsPart, TellsSeen, reached}
use Rattle.dump_io.specs.declared.input.ending.Ending.{Ending}
use Rattle.dump_io.specs.declared.input.ending.Ending.TheVariants as ending
use Rattle.dump_io.specs.declared.input.resync.Search.{Search}
use Rattle.dump_io.specs.declared.input.resync.Seen.{Seen}
use Rattle.dump_io.specs.declared.input.window.Next.{Next}
use Rattle.dump_io.specs.declared.input.window.Next.TheVariants as next
use Rattle.dump_io.specs.declared.input.window.Window.{Window}
use Rattle.dump_io.proofs.input.Ahead.{front_ahead, front_kept, looks_on}
use Rattle.dump_io.proofs.input.Going.{ends_all}
use Rattle.dump_io.proofs.input.Skipping.{follows}

looks_same : (r : Option (List ℕ)) (x : List ℕ) → ReadsAhead r r x x
looks_same r x = record { is_read = λ before read. read; len = omega arith; kept = take-length x }

pub stays_same : (r : Option (List ℕ)) (x : Window) → IsWindow x → Stays r r x x
stays_same r x is = record { window = is; offset = refl; looks = looks_same r (ahead_of x) }

pub stays_on : (a b c : Option (List ℕ)) (x y z : Window) → Stays a b x y → Stays b c y z → Stays a c x z
stays_on a b c x y z p q = record {
  window = q.window;
  offset = q.offset ∙ p.offset;
  looks = looks_on a b c (ahead_of x) (ahead_of y) (ahead_of z) p.looks q.looks;
}

-- bytes are read, and nothing is charged
pub searches_read : {limits : Limits} (a b : Option (List ℕ)) (x y : Window) (w : Work) → Stays a b x y → IsWork w → Searches limits (reached a x w) (reached b y w)
searches_read a b x y w stays work = record { stays = stays; work = work; bounded = λ s read. keeps_same (x.offset + length s) w }

-- two searches one after another
pub searches_on : {limits : Limits} (a b c : Option (List ℕ)) (x y z : Window) (u v w : Work) → Searches limits (reached a x u) (reached b y v)
    → Searches limits (reached b y v) (reached c z w) → Searches limits (reached a x u) (reached c z w)
searches_on {limits} a b c x y z u v w p q = record {
  stays = stays_on a b c x y z p.stays q.stays;
  work = q.work;
  bounded = λ s read.
      keeps_on (x.offset + length s) u v w (p.bounded s read)
      (subst (λ n. KeepsBound (n + length s) v w) p.stays.offset (q.bounded s (p.stays.looks.is_read (Some s) read)));
}

stays_there : (a b : Option (List ℕ)) (x y : Window) (want : ℕ) (there : Bool) → SeesAhead a b x y want there → Stays a b x y
stays_there a b x y want there sees = record { window = sees.window; offset = sees.offset; looks = sees.looks }

-- a look at the bytes ahead
module _ {limits : Limits} {r r' : Option (List ℕ)} {x y : Window} {v w : Work} (last : Bool) (p : Searches limits (reached r x v) (reached r' y w)) (ends : last ≡ true → IsAtEnd r') where
  -- all that is left, as the bytes ahead and what follows them
  whole : (s : List ℕ) → Consumes (Some s) r (ahead_of x) → (rest : List ℕ) × (s ≡ ahead_of y ++ rest) × MayFollow last rest
  whole s read = follows s (ahead_of y) r' last (p.stays.looks.is_read (Some s) read) ends

  -- what a look costs
  pub searched : (w' : Work) (end : ℕ) → end ≤ y.offset + length (ahead_of y) → KeepsBound end w w' → IsWork w' → Searches limits (reached r x v) (reached r' y w')
  searched w' end within bound work = record {
    stays = p.stays;
    work = work;
    bounded = λ s read.
        let (rest, split, may) = whole s read in
        let size : length s ≡ length (ahead_of y) + length rest = ap length split ∙ length-append (ahead_of y) rest in
        let same : y.offset ≡ x.offset = p.stays.offset in
        keeps_on (x.offset + length s) v w w' (p.bounded s read) (keeps_before end (x.offset + length s) w w' (omega (arith, size, same, within)) bound);
  }

pub if_err : {A E : Type 0} (r : Result A E) (P : Type 0) → P → IfErr r (λ x. P)
if_err (Ok x) P is = tt
if_err (Err e) P is = is

-- a search in the bytes after `base` of those ahead
pub seeks_behind : {limits : Limits} {b : List ℕ} {last : Bool} {at : ℕ} {q : Places} {v w : Work} {told found : Sought} (y : Window) (base : ℕ) → b ≡ drop base (ahead_of y)
    → at ≡ y.offset + base → told ≡ found → Seeks limits b last at q v w told → Seeks limits (drop base (ahead_of y)) last (y.offset + base) q v w found
seeks_behind {limits} {b} {last} {at} {q} {v} {w} {told} {found} y base bytes is same seeks =
    subst (λ t. Seeks limits (drop base (ahead_of y)) last (y.offset + base) q v w t) same
    (subst (λ n. Seeks limits (drop base (ahead_of y)) last n q v w told) is (subst (λ l. Seeks limits l last at q v w told) bytes seeks))

-- the invariant of the loop over places
pub record IsSought (limits : Limits) (r r' : Option (List ℕ)) (x y : Window) (v w : Work) (p : Search) (from : ℕ) (last all : Bool) : Type 0 where
  pub searches : Searches limits (reached r x v) (reached r' y w)
  pub ends : last ≡ true → IsAtEnd r'
  pub low : p.from ≤ from
  pub high : from ≤ p.until
  pub within : p.base + from ≤ length (ahead_of y)
  pub over : (s : List ℕ) → Consumes (Some s) r (ahead_of x) → PassesOver limits (drop p.base s) (x.offset + p.base) p.from from v w all

pub sought_none : {limits : Limits} (r : Option (List ℕ)) (x : Window) (w : Work) (p : Search) → IsWindow x → IsWork w → p.from ≤ p.until → p.base + p.from ≤ length (ahead_of x)
    → IsSought limits r r x x w w p p.from false true
sought_none {limits} r x w p is work some within = record {
  searches = searches_read r r x x w (stays_same r x is) work;
  ends = λ yes. let impossible : ⊥ = cc in absurd impossible;
  low = omega arith;
  high = some;
  within = within;
  over = λ s read. face.passes_none p.from w;
}

-- the places that are left
abbrev pub left_of : Search → ℕ → Places
left_of p from = record { from = from; until = p.until }

-- a search of the places that are left
module _ {limits : Limits} {r r' : Option (List ℕ)} {x y : Window} {v w w' : Work} {p : Search} {from : ℕ} {last all : Bool} (h : IsSought limits r r' x y v w p from last all) {told : Sought}
    (seeks : Seeks limits (drop p.base (ahead_of y)) last (y.offset + p.base) (left_of p from) w w' told) (work : IsWork w') where
  size : length (drop p.base (ahead_of y)) ≡ length (ahead_of y) - p.base
  size = length-drop p.base (ahead_of y)

  sought_here : Searches limits (reached r x v) (reached r' y w')
  sought_here =
      let within = h.within in
      let len = size in
      searched last h.searches h.ends w' (y.offset + p.base + length (drop p.base (ahead_of y))) (omega (arith, within, len)) seeks.bounded work

  tells : (s : List ℕ) → Consumes (Some s) r (ahead_of x) → TellsSought limits (drop p.base s) (x.offset + p.base) (left_of p from) w w' told
  tells s read =
      let (rest, split, may) = whole last h.searches h.ends s read in
      let within = h.within in
      let behind : drop p.base s ≡ drop p.base (ahead_of y) ++ rest = ap (drop p.base) split ∙ drop-append-le p.base (ahead_of y) rest (omega (arith, within)) in
      subst (λ n. TellsSought limits (drop p.base s) (n + p.base) (left_of p from) w w' told) h.searches.stays.offset
      (subst (λ t. TellsSought limits t (y.offset + p.base) (left_of p from) w w' told) (sym behind) (seeks.tells rest may))

  passed : {u : Work} (place : ℕ) (more : Bool) (s : List ℕ) → Consumes (Some s) r (ahead_of x) → from ≤ place
      → PassesOver limits (drop p.base s) (x.offset + p.base) from place w u more → PassesOver limits (drop p.base s) (x.offset + p.base) p.from place v u (all && more)
  passed place more s read high over = passes_after h.low high (h.over s read) over

  -- the search wants more, and more is read
  pub sought_on : {r'' : Option (List ℕ)} {want : ℕ} {there : Bool} (z : Window) (place n : ℕ) (more last' : Bool) → told ≡ sought.Wants place n more
      → SeesAhead r' r'' y z want there → (last' ≡ true → there ≡ false) → IsSought limits r r'' x z v w' p place last' (all && more)
  sought_on {r'' = r''} {want = want} {there = there} z place n more last' is sees ends =
      let here = subst (TellsSought limits (drop p.base (ahead_of y) ++ []) (y.offset + p.base) (left_of p from) w w') is (seeks.tells [] (λ yes. refl)) in
      let there' = subst (IsSoughtIn limits (drop p.base (ahead_of y)) last (left_of p from)) is seeks.here in
      let low : from ≤ place = here.0 in
      let high : place < p.until = here.1 in
      let inside : place ≤ length (drop p.base (ahead_of y)) = there'.0 in
      let grown : length (ahead_of y) ≤ length (ahead_of z) = sees.looks.len in
      let before = h.within in
      let len = size in
      record {
        searches = searches_on r r' r'' x y z v w' w' sought_here (searches_read r' r'' y z w' (stays_there r' r'' y z want there sees) work);
        ends = λ yes. (sees.ends (ends yes)).1;
        low = omega (arith, h.low, low);
        high = omega (arith, high);
        within = omega (arith, inside, grown, before, len);
        over = λ s read.
            let told' = subst (TellsSought limits (drop p.base s) (x.offset + p.base) (left_of p from) w w') is (tells s read) in
            passed place more s read low told'.2;
      }

  -- documents go on at a place
  pub sees_found : (place : ℕ) (more : Bool) (seen : Seen) → told ≡ sought.Found place more → seen.goes_on ≡ true → seen.all ≡ (all && more) → Sees limits (reached r x v) (reached r' y w') p seen
  sees_found place more seen is goes both = record {
    searches = sought_here;
    is = λ s read.
        let (low, high, before, over, found) = subst (TellsSought limits (drop p.base s) (x.offset + p.base) (left_of p from) w w') is (tells s read) in
        let here : TellsSeen limits s x.offset p v w' true (all && more) = (place, before, omega (arith, h.low, low), high, passed place more s read low over, found) in
        subst (λ b. TellsSeen limits s x.offset p v w' b seen.all) (sym goes) (subst (λ b. TellsSeen limits s x.offset p v w' true b) (sym both) here);
  }

  -- documents go on at no place
  pub sees_none : (more : Bool) (seen : Seen) → told ≡ sought.Nowhere more → seen.goes_on ≡ false → seen.all ≡ (all && more) → Sees limits (reached r x v) (reached r' y w') p seen
  sees_none more seen is goes both = record {
    searches = sought_here;
    is = λ s read.
        let over = subst (TellsSought limits (drop p.base s) (x.offset + p.base) (left_of p from) w w') is (tells s read) in
        let here : TellsSeen limits s x.offset p v w' false (all && more) = passed p.until more s read h.high over in
        subst (λ b. TellsSeen limits s x.offset p v w' b seen.all) (sym goes) (subst (λ b. TellsSeen limits s x.offset p v w' false b) (sym both) here);
  }

-- the places inside a piece, and the one right after it
abbrev pub inside_of : ℕ → Search
inside_of len = record { base = 0; from = 1; until = len }

abbrev pub behind_of : ℕ → Search
behind_of len = record { base = len; from = 0; until = 1 }

no_offset : (at : ℕ) → at + 0 ≡ at
no_offset at = omega arith

-- what is seen inside a piece and right after it
module _ {limits : Limits} {r r' : Option (List ℕ)} {x y : Window} {v w : Work} {len : ℕ} where
  pub goes_inside : (seen : Seen) → seen.goes_on ≡ true → Sees limits (reached r x v) (reached r' y w) (inside_of len) seen → GoesElsewhere limits (reached r x v) (reached r' y w) len true
  goes_inside seen goes sees = record {
    searches = sees.searches;
    is = λ s read.
        let (place, before, low, high, over, found) = subst (λ b. TellsSeen limits s x.offset (inside_of len) v w b seen.all) goes (sees.is s read) in
        inl (
          place,
          seen.all,
          (
            before,
            omega (arith, low),
            high,
            subst (λ n. PassesOver limits s n 1 place v before seen.all) (no_offset x.offset) over,
            subst (λ n. IsFoundAt limits s n place before w) (no_offset x.offset) found,
          ),
        );
  }

  -- whether documents go on right after it
  module _ (behind : Seen) (sees : Sees limits (reached r x v) (reached r' y w) (behind_of len) behind) where
    found_there : (s : List ℕ) (all : Bool) → TellsSeen limits s x.offset (behind_of len) v w true all → TellsBehind limits s x.offset len v w false
    found_there s all (place, at, low, high, passed, found) =
        let here = one_found limits (drop len s) (x.offset + len) 0 place v at w all (omega (arith, high)) passed found in
        (true, λ looked. found_goes_on limits (drop len s) (x.offset + len) 0 v w here, here)

    behind_it : (s : List ℕ) (goes all : Bool) → TellsSeen limits s x.offset (behind_of len) v w goes all → TellsBehind limits s x.offset len v w (all && not goes)
    behind_it s true true seen = found_there s true seen
    behind_it s true false seen = found_there s false seen
    behind_it s false true passed = (passes_stop_all passed 0 (omega arith) (omega arith), one_looked passed)
    behind_it s false false passed = (false, λ looked. let impossible : ⊥ = cc in absurd impossible, one_left passed)

    pub looks_behind : LooksBehind limits (reached r x v) (reached r' y w) len (behind.all && not behind.goes_on)
    looks_behind = record { searches = sees.searches; is = λ s read. behind_it s behind.goes_on behind.all (sees.is s read) }

  module _ {r'' : Option (List ℕ)} {z : Window} {u : Work} {inside : Seen} {alone : Bool} (none : inside.goes_on ≡ false) (first : Sees limits (reached r x v) (reached r' y w) (inside_of len) inside)
      (second : LooksBehind limits (reached r' y w) (reached r'' z u) len alone) where
    before : (s : List ℕ) → Consumes (Some s) r (ahead_of x) → PassesOver limits s x.offset 1 len v w inside.all
    before s read =
        subst (λ n. PassesOver limits s n 1 len v w inside.all) (no_offset x.offset)
        (subst (λ b. TellsSeen limits s x.offset (inside_of len) v w b inside.all) none (first.is s read))

    there : (s : List ℕ) → Consumes (Some s) r (ahead_of x) → TellsBehind limits s x.offset len w u alone
    there s read =
        subst (λ n. TellsBehind limits s n len w u alone) first.searches.stays.offset (second.is s (first.searches.stays.looks.is_read (Some s) read))

    elsewhere : (s : List ℕ) (shut : Bool) → PassesOver limits s x.offset 1 len v w inside.all → TellsBehind limits s x.offset len w u shut → TellsElsewhere limits s x.offset len v u shut
    elsewhere s true over (stops, shut) = inr (w, inside.all, over, shut)
    elsewhere s false over (true, goes, open') = (inside.all, (w, inside.all, true, over, open', and_true inside.all))
    elsewhere s false over (false, goes, open') = (false, (w, inside.all, false, over, open', and_false inside.all))

    pub goes_behind : GoesElsewhere limits (reached r x v) (reached r'' z u) len alone
    goes_behind = record { searches = searches_on r r' r'' x y z v w u first.searches second.searches; is = λ s read. elsewhere s alone (before s read) (there s read) }

-- the length of a piece at the front
pub piece_len : {most : ℕ} (x : List ℕ) (len : ℕ) → len ≤ length x → IsPiece most (take len x) → (5 ≤ len) × (len ≤ most)
piece_len {most} x len within piece =
    let size : length (take len x) ≡ len = length-take-le len x within in
    subst (λ n. (5 ≤ n) × (n ≤ most)) size piece.sound

-- the front of all that is left is that of the bytes ahead
front_take : (s x : List ℕ) (r : Option (List ℕ)) (len : ℕ) → Consumes (Some s) r x → len ≤ length x → (take len s ≡ take len x) × (len ≤ length s)
front_take s x r len read within =
    let (rest, split) = front_ahead s x r read in
    let size : length s ≡ length x + length rest = ap length split ∙ length-append x rest in
    (ap (take len) split ∙ take-append-le len x rest within, omega (arith, size, within))

no_end : (r : Option (List ℕ)) → false ≡ true → IsAtEnd r
no_end r never = let impossible : ⊥ = cc in absurd impossible

no_sound : (limits : Limits) (b : List ℕ) → ¬ IsFramed b → ¬ IsSound limits b
no_sound limits b unframed sound = unframed (sound_framed limits b sound)

-- documents go on inside the piece or not after it; or only after it
inside : (limits : Limits) (s : List ℕ) (at len : ℕ) (old mid new : Work) (doubted : Bool) → IsPiece limits.bytes (take len s) × (len ≤ length s)
    → Walks at s len old mid lengths.Unexplained → KeepsBound (at + length s) old new → TellsElsewhere limits s at len mid new doubted → IsDoubted limits s at len old new doubted
inside limits s at len old mid new true (front, few) walks bound how =
    let doubts : DoubtsLength limits s at len old new = (mid, walks, how) in
    record {
      within = few;
      piece = front;
      damaged = no_sound limits (take len s) walks.1;
      disbelieved = doubts_disbelieved limits s at len old new doubts;
      doubted = doubts;
      bounded = bound;
    }
inside limits s at len old mid new false front walks bound (all, behind) =
    let believes : BelievesLength limits s at len old new all = inr (inr (mid, walks, behind)) in
    inr (record { all = all; believed = believes; right = λ is. believes_explained limits s at len old new (subst (BelievesLength limits s at len old new) is believes); bounded = bound })

-- what is known of a length without a look inside
told_length : (limits : Limits) (s : List ℕ) (at len : ℕ) (old new : Work) (all : Bool) → BelievesLength limits s at len old new all → KeepsBound (at + length s) old new
    → IsDoubted limits s at len old new false
told_length limits s at len old new all believes bound =
    inr (record { all = all; believed = believes; right = λ is. believes_explained limits s at len old new (subst (BelievesLength limits s at len old new) is believes); bounded = bound })

-- what a look at the length of a part shows of the bytes ahead
pub walks_ahead : {at : ℕ} {bytes : List ℕ} (len : ℕ) {v w : Work} {told found : Length} (x : Window) → at ≡ x.offset → bytes ≡ ahead_of x → told ≡ found → KeepsBound (at + len) v w
    → Walks at bytes len v w told → KeepsBound (x.offset + len) v w × Walks x.offset (ahead_of x) len v w found
walks_ahead {bytes = bytes} len {v = v} {w = w} {told = told} x at same is bound walks = (
  subst (λ n. KeepsBound (n + len) v w) at bound,
  subst (λ f. Walks x.offset (ahead_of x) len v w f) is (subst (λ b. Walks x.offset b len v w told) same (subst (λ n. Walks n bytes len v w told) at walks)),
)

-- what the elements of a piece show of all that is left
shown : (r : Option (List ℕ)) (x : Window) (v w : Work) (len : ℕ) → len ≤ length (ahead_of x) → (told : Length) → Walks x.offset (ahead_of x) len v w told → (s : List ℕ)
    → Consumes (Some s) r (ahead_of x) → Walks x.offset s len v w told
shown r x v w len within told walks s read = walks_front x.offset len (ahead_of x) s v w told ((front_take s (ahead_of x) r len read within).0) walks

module _ {limits : Limits} {r : Option (List ℕ)} {x : Window} {v w : Work} {len : ℕ} (is : IsWindow x) (work : IsWork v) (within : len ≤ length (ahead_of x))
    (piece : IsPiece limits.bytes (take len (ahead_of x))) (work' : IsWork w) (bound : KeepsBound (x.offset + len) v w) where
  nothing_read : Searches limits (reached r x v) (reached r x v)
  nothing_read = searches_read r r x x v (stays_same r x is) work

  walked : Searches limits (reached r x v) (reached r x w)
  walked = searched false nothing_read (no_end r) w (x.offset + len) (omega (arith, within)) bound work'

  pub doubts_explained : Walks x.offset (ahead_of x) len v w lengths.Explained → Doubts limits (reached r x v) (reached r x w) len false
  doubts_explained walks = record {
    searches = walked;
    is = λ s read. told_length limits s x.offset len v w true (inl (shown r x v w len within lengths.Explained walks s read, refl)) (walked.bounded s read);
  }

  pub doubts_left : Walks x.offset (ahead_of x) len v w lengths.LeftOut → Doubts limits (reached r x v) (reached r x w) len false
  doubts_left walks = record {
    searches = walked;
    is = λ s read. told_length limits s x.offset len v w false (inr (inl (shown r x v w len within lengths.LeftOut walks s read, refl))) (walked.bounded s read);
  }

  -- what is inside the piece and after it decides
  pub doubts_inside : {r' : Option (List ℕ)} {y : Window} {w' : Work} (doubted : Bool) → Walks x.offset (ahead_of x) len v w lengths.Unexplained
      → GoesElsewhere limits (reached r x w) (reached r' y w') len doubted → Doubts limits (reached r x v) (reached r' y w') len doubted
  doubts_inside {r'} {y} {w'} doubted walks sees =
      let all : Searches limits (reached r x v) (reached r' y w') = searches_on r r r' x x y v w w' walked sees.searches in
      record {
        searches = all;
        is = λ s read.
            let (same, few) = front_take s (ahead_of x) r len read within in
            inside limits s x.offset len v w w' doubted (subst (IsPiece limits.bytes) (sym same) piece, few) (shown r x v w len within lengths.Unexplained walks s read)
            (all.bounded s read) (sees.is s read);
      }

some_ahead : (most : ℕ) (e : Ending) (x : List ℕ) → EndsWith most e x → 0 < length x
some_ahead most (ending.CutOff count) x (size, some, few) = omega (arith, size, some)
some_ahead most (ending.Unsound len) x (four, unsound, same) = omega (arith, four)
some_ahead most (ending.WrongLength len) x none = absurd none

breaks_all : (limits : Limits) (e : Ending) (s x : List ℕ) (at : ℕ) (w : Work) (r : Option (List ℕ)) → EndsWith limits.bytes e x → IsReadBehind e r → Consumes (Some s) r x
    → BreaksWith limits s at w w e
breaks_all limits (ending.CutOff count) s x at w r ends behind' read = (ends_all limits.bytes (ending.CutOff count) s x r ends behind' read, refl)
breaks_all limits (ending.Unsound len) s x at w r ends behind' read = (ends_all limits.bytes (ending.Unsound len) s x r ends behind' read, refl)
breaks_all limits (ending.WrongLength len) s x at w r ends behind' read = absurd ends

-- a document is at the front of the bytes ahead; it is sound if bytes may be passed over
pub tells_document : {limits : Limits} (resync : Bool) (r r' : Option (List ℕ)) (x y : Window) (w : Work) (len : ℕ) → IsWork w → (resync ≡ true → IsSound limits (take len (ahead_of y)))
    → TellsNext limits.bytes r r' x y 0 (next.Document len) → TellsPart limits resync (reached r x w) (reached r' y w) (next.Document len)
tells_document {limits} resync r r' x y w len work sound t = record {
  searches = searches_read r r' x y w (record { window = t.window; offset = t.offset; looks = t.looks }) work;
  ahead = t.is;
  is = λ s read. (
    λ asked.
        let (same, few) = front_take s (ahead_of y) r' len (t.looks.is_read (Some s) read) t.is.0 in
        inl (subst (IsSound limits) (sym same) (sound asked), refl),
    λ not. refl,
  );
}

-- what is next in the bytes ahead is no document
pub tells_other : {limits : Limits} (resync : Bool) (r r' : Option (List ℕ)) (x y : Window) (w : Work) (told : Next) → IsWork w → ((len : ℕ) → told ≡ next.Document len → ⊥)
    → TellsNext limits.bytes r r' x y 0 told → TellsPart limits resync (reached r x w) (reached r' y w) told
tells_other resync r r' x y w (next.Document len) work none t = absurd (none len refl)
tells_other resync r r' x y w next.Nothing work none t = record {
  searches = searches_read r r' x y w (record { window = t.window; offset = t.offset; looks = t.looks }) work;
  ahead = t.is;
  is = λ s read. refl;
}
tells_other {limits} resync r r' x y w (next.End e) work none t = record {
  searches = searches_read r r' x y w (record { window = t.window; offset = t.offset; looks = t.looks }) work;
  ahead = (some_ahead limits.bytes e (ahead_of y) t.is.0, λ no. t.is);
  is = λ s read. breaks_all limits e s (ahead_of y) x.offset w r' t.is.0 t.is.1 (t.looks.is_read (Some s) read);
}

-- a document is next; it is doubted or not
module _ {limits : Limits} (r r' r'' : Option (List ℕ)) (x y z : Window) (w w' : Work) (len : ℕ) (work : IsWork w) (t : TellsNext limits.bytes r r' x y 0 (next.Document len)) where
  reads : Searches limits (reached r x w) (reached r' y w)
  reads = searches_read r r' x y w (record { window = t.window; offset = t.offset; looks = t.looks }) work

  pub tells_taken : Doubts limits (reached r' y w) (reached r'' z w') len false → TellsPart limits true (reached r x w) (reached r'' z w') (next.Document len)
  tells_taken d =
      let (within, piece) = t.is in
      let (rest, split) = front_kept (ahead_of y) (ahead_of z) d.searches.stays.looks.kept in
      let more : length (ahead_of y) ≤ length (ahead_of z) = d.searches.stays.looks.len in
      record {
        searches = searches_on r r' r'' x y z w w w' reads d.searches;
        ahead = (omega (arith, within, more), subst (IsPiece limits.bytes) (sym (ap (take len) split ∙ take-append-le len (ahead_of y) rest within)) piece);
        is = λ s read. (
          λ asked. subst (λ n. IsBelieved limits s n len w w') t.offset (d.is s (t.looks.is_read (Some s) read)),
          λ not. let impossible : ⊥ = cc in absurd impossible,
        );
      }

  pub tells_doubted : Doubts limits (reached r' y w) (reached r'' z w') len true → TellsPart limits true (reached r x w) (reached r'' z w') (next.End (ending.WrongLength len))
  tells_doubted d =
      let within : len ≤ length (ahead_of y) = t.is.0 in
      let some : 5 ≤ len = (piece_len (ahead_of y) len t.is.0 t.is.1).0 in
      let more : length (ahead_of y) ≤ length (ahead_of z) = d.searches.stays.looks.len in
      record {
        searches = searches_on r r' r'' x y z w w w' reads d.searches;
        ahead = (omega (arith, within, more, some), λ no. let impossible : ⊥ = cc in absurd impossible);
        is = λ s read. subst (λ n. HasWrongLength limits s n len w w') t.offset (d.is s (t.looks.is_read (Some s) read));
      }
