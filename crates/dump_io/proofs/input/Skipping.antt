-- Bytes that are passed over.
use Rattle.std.proofs.Common.{◌≡◌, ℕ, ◌+◌, ◌-◌, ◌<◌, ◌≤◌, ◌⊎◌, min, List, [], ◌++◌, Option, None, Some, Bool, true, false, ◌&&◌, not, arith, length, take, drop, sym, ap, ◌∙◌, subst, refl, inl, inr, append_assoc, length-append, length-drop, length-take-le, add_assoc}
use Rattle.std.proofs.lemmas.Bool.{cases_lt}
use Rattle.std.proofs.lemmas.List.{take-append-drop}
use Rattle.std.proofs.Math.Seq.{drop-append_seam}
use Rattle.std.specs.Io.KnownBytes.{Consumes, IsAtEnd}
use Rattle.raw_tree.specs.declared.reader.limits.Limits.{Limits}
use Rattle.raw_resync.specs.Searches.{IsFoundAt, PassesOver}
use Rattle.raw_resync.specs.Seeking.{IsWork, KeepsBound, MayFollow, Seeks, TellsSought}
use Rattle.raw_resync.specs.declared.search.Places.{Places}
use Rattle.raw_resync.specs.declared.search.Sought.{Sought}
use Rattle.raw_resync.specs.declared.search.Sought.TheVariants as sought
use Rattle.raw_resync.specs.declared.work.Work.{Work}
use Rattle.raw_resync.proofs.Face.{found_further, found_goes_on, keeps_before, keeps_on, keeps_same, passes_after, passes_further, passes_stop_all}
use Rattle.raw_resync.proofs.Face as face
use Rattle.dump_io.specs.input.Reading.{GoesAhead, IsWindow, ReadsAhead, Consumed, SeesAhead, Stays, ahead_of}
use Rattle.dump_io.specs.input.Resync.{IsNextPlace, SkipsTo, reached}
use Rattle.dump_io.specs.declared.input.resync.Skip.{Skip}
use Rattle.dump_io.specs.declared.input.window.Window.{Window}

-- more is read ahead after these bytes
pub read_behind : (bytes x y : List ℕ) (r r' r'' : Option (List ℕ)) → Consumes r r' (bytes ++ x)
    → ((before : Option (List ℕ)) → Consumes before r' x → Consumes before r'' y) → Consumes r r'' (bytes ++ y)
read_behind bytes x y None r' r'' read more = tt
read_behind bytes x y (Some s) None r'' read more = absurd read
read_behind bytes x y (Some s) (Some rest) None read more = absurd (more (Some (x ++ rest)) refl)
read_behind bytes x y (Some s) (Some rest) (Some left) read more =
    read ∙ append_assoc bytes x rest ∙ ap (λ l. bytes ++ l) (more (Some (x ++ rest)) refl) ∙ sym (append_assoc bytes y left)

-- nothing is passed over
pub passes_none : (r : Option (List ℕ)) (x : List ℕ) → Consumed r r x x 0
passes_none r x = record { bytes = []; len = refl; is_read = λ before read. read }

-- more is read ahead
pub passes_ahead : (r r' r'' : Option (List ℕ)) (x y z : List ℕ) (n : ℕ) → Consumed r r' x y n → ReadsAhead r' r'' y z → Consumed r r'' x z n
passes_ahead r r' r'' x y z n p looks = record {
  bytes = p.bytes;
  len = p.len;
  is_read = λ before read. read_behind p.bytes y z before r' r'' (p.is_read before read) looks.is_read;
}

-- `n` bytes were passed, and more is read ahead
pub goes_ahead : (r r' r'' : Option (List ℕ)) (x z w : Window) (n : ℕ) → Consumed r r' (ahead_of x) (ahead_of z) n → z.offset ≡ x.offset + n → Stays r' r'' z w → GoesAhead r r'' x w
goes_ahead r r' r'' x z w n passes at stays = record {
  window = stays.window;
  count = n;
  offset = stays.offset ∙ at;
  passes = passes_ahead r r' r'' (ahead_of x) (ahead_of z) (ahead_of w) n passes stays.looks;
}

-- more bytes are passed over
pub passes_more : (r r' : Option (List ℕ)) (x y z : List ℕ) (n k : ℕ) → Consumed r r' x y n → k ≤ length y → z ≡ drop k y → Consumed r r' x z (n + k)
passes_more r r' x y z n k p some is =
    let size : length (take k y) ≡ k = length-take-le k y some in
    let whole : y ≡ take k y ++ z = sym (take-append-drop k y) ∙ ap (λ l. take k y ++ l) (sym is) in
    record {
      bytes = p.bytes ++ take k y;
      len = length-append p.bytes (take k y) ∙ ap (λ m. m + length (take k y)) p.len ∙ ap (λ m. n + m) size;
      is_read = λ before read. subst (Consumes before r') (ap (λ l. p.bytes ++ l) whole ∙ sym (append_assoc p.bytes (take k y) z)) (p.is_read before read);
    }

-- what is left after the bytes that are passed over
pub left_behind : (r r' : Option (List ℕ)) (x y s : List ℕ) (n : ℕ) → Consumed r r' x y n → Consumes (Some s) r x → Consumes (Some (drop n s)) r' y × (n ≤ length s)
left_behind r None x y s n p read = absurd (p.is_read (Some s) read)
left_behind r (Some rest) x y s n p read =
    let all = p.is_read (Some s) read ∙ append_assoc p.bytes y rest in
    let behind : drop n s ≡ y ++ rest = ap (λ m. drop m s) (sym p.len) ∙ ap (drop (length p.bytes)) all ∙ drop-append_seam p.bytes (y ++ rest) in
    let size : length s ≡ length p.bytes + length (y ++ rest) = ap length all ∙ length-append p.bytes (y ++ rest) in
    let len : length p.bytes ≡ n = p.len in
    (behind, omega arith)

-- what follows the bytes ahead: nothing, if the input is at its end
pub follows : (s ahead : List ℕ) (r : Option (List ℕ)) (last : Bool) → Consumes (Some s) r ahead → (last ≡ true → IsAtEnd r) → (rest : List ℕ) × (s ≡ ahead ++ rest) × MayFollow last rest
follows s ahead None last read ends = absurd read
follows s ahead (Some rest) last read ends = (rest, read, ends)

-- what was searched of all that is left: the places from the second on and before `to`, at a cost within the bound
pub record IsCovered (limits : Limits) (s : List ℕ) (at : ℕ) (old new : Work) (to : ℕ) (all : Bool) : Type 0 where
  pub over : PassesOver limits s at 1 to old new all
  pub bounded : KeepsBound (at + length s) old new

-- The invariant of the loop: n bytes are passed over, more are ahead, and of these the places before `from` were searched. Before it are all
-- bytes since the first, or the 66 that a key with its tag and its 0 may have.
pub record IsSearched (limits : Limits) (r r' : Option (List ℕ)) (x y : Window) (old new : Work) (from : ℕ) (last all : Bool) : Type 0 where
  pub n : ℕ
  pub window : IsWindow y
  pub work : IsWork new
  pub offset : y.offset ≡ x.offset + n
  pub start : 1 ≤ n + from
  pub back : (n ≡ 0) ⊎ (66 ≤ from)
  pub within : from ≤ length (ahead_of y)
  pub ends : last ≡ true → IsAtEnd r'
  pub passes : Consumed r r' (ahead_of x) (ahead_of y) n
  pub searches : (s : List ℕ) → Consumes (Some s) r (ahead_of x) → IsCovered limits s x.offset old new (n + from) all

pub searched_none : {limits : Limits} (r : Option (List ℕ)) (x : Window) (w : Work) → IsWindow x → IsWork w → 0 < length (ahead_of x) → IsSearched limits r r x x w w 1 false true
searched_none {limits} r x w is work some = record {
  n = 0;
  window = is;
  work = work;
  offset = omega arith;
  start = omega arith;
  back = inl refl;
  within = omega (arith, some);
  ends = λ is. let impossible : ⊥ = cc in absurd impossible;
  passes = passes_none r (ahead_of x);
  searches = λ s read. record {
    over = face.passes_none 1 w;
    bounded = keeps_same (x.offset + length s) w;
  };
}

-- bytes are passed over up to the place `to`
next_place : {limits : Limits} (s : List ℕ) {at : ℕ} {old mid new : Work} (to : ℕ) {all : Bool} (skip : Skip) → 1 ≤ to → to ≤ length s
    → PassesOver limits s at 1 to old mid all → IsFoundAt limits s at to mid new → KeepsBound (at + length s) old new → skip.count ≡ to → skip.all ≡ all
    → IsNextPlace limits s at old new skip
next_place {limits} s {at} {old} {mid} {new} to {all} skip some within over found bound count both =
    let passed : PassesOver limits s at 1 skip.count old mid skip.all =
    subst (λ n. PassesOver limits s at 1 n old mid skip.all) (sym count) (subst (λ b. PassesOver limits s at 1 to old mid b) (sym both) over) in
    record {
      some = omega (arith, count, some);
      within = subst (λ m. m ≤ length s) (sym count) within;
      goes_on = found_goes_on limits s at skip.count mid new (subst (λ n. IsFoundAt limits s at n mid new) (sym count) found);
      none = λ is j low high. passes_stop_all (subst (λ b. PassesOver limits s at 1 skip.count old mid b) is passed) j low high;
      before = mid;
      passed = passed;
      found = subst (λ n. IsFoundAt limits s at n mid new) (sym count) found;
      bounded = bound;
    }

-- how many bytes stay before a place
back_on : (n from place kept : ℕ) → (n ≡ 0) ⊎ (66 ≤ from) → from ≤ place → kept ≡ min place 66 → (n + (place - kept) ≡ 0) ⊎ (66 ≤ kept)
back_on n from place kept (inl none) low is = elim (cases_lt place 66) [
  | inl few ↦ inl (omega (arith, none, is, few))
  | inr many ↦ inr (omega (arith, is, many))
]
back_on n from place kept (inr far) low is = inr (omega (arith, far, low, is))

place_back : (n from place : ℕ) → (n ≡ 0) ⊎ (66 ≤ from) → from ≤ place → (n ≡ 0) ⊎ (66 ≤ place)
place_back n from place (inl none) low = inl none
place_back n from place (inr far) low = inr (omega (arith, far, low))

-- a search in the bytes ahead
module _ {limits : Limits} {r r' : Option (List ℕ)} {x y : Window} {old mid : Work} {from : ℕ} {last all : Bool} (is : IsSearched limits r r' x y old mid from last all) (q : Places)
    (begin : q.from ≡ from) where
  -- all that is left, as its front that was passed, the bytes ahead, and what follows them
  whole : (s : List ℕ) → Consumes (Some s) r (ahead_of x) → (rest : List ℕ) × (drop is.n s ≡ ahead_of y ++ rest) × MayFollow last rest × (y.offset + length (drop is.n s) ≡ x.offset + length s)
  whole s read =
      let (left, within) = left_behind r r' (ahead_of x) (ahead_of y) s is.n is.passes read in
      let (rest, split, may) = follows (drop is.n s) (ahead_of y) r' last left is.ends in
      let size : length (drop is.n s) ≡ length s - is.n = length-drop is.n s in
      (rest, split, may, omega (arith, size, within, is.offset))

  module _ {new : Work} {told : Sought} (seeks : Seeks limits (ahead_of y) last y.offset q mid new told) where
    -- what the search tells of all that is left
    tells : (s : List ℕ) → Consumes (Some s) r (ahead_of x) → TellsSought limits (drop is.n s) (x.offset + is.n) q mid new told
    tells s read =
        let (rest, split, may, total) = whole s read in
        let here = subst (λ t. TellsSought limits t y.offset q mid new told) (sym split) (seeks.tells rest may) in
        subst (λ n. TellsSought limits (drop is.n s) n q mid new told) is.offset here

    bounded : (s : List ℕ) → Consumes (Some s) r (ahead_of x) → KeepsBound (x.offset + length s) mid new
    bounded s read =
        let (rest, split, may, total) = whole s read in
        let size : length (drop is.n s) ≡ length (ahead_of y) + length rest = ap length split ∙ length-append (ahead_of y) rest in
        keeps_before (y.offset + length (ahead_of y)) (x.offset + length s) mid new (omega (arith, size, total)) seeks.bounded

    -- the places before another were searched, too
    searched : {w : Work} (place : ℕ) (more : Bool) (s : List ℕ) (read : Consumes (Some s) r (ahead_of x)) → from ≤ place → KeepsBound (x.offset + length s) mid w
        → PassesOver limits (drop is.n s) (x.offset + is.n) q.from place mid w more → IsCovered limits s x.offset old w (is.n + place) (all && more)
    searched {w} place more s read high bound over =
        let before = is.searches s read in
        let over' = subst (λ n. PassesOver limits (drop is.n s) (x.offset + is.n) n place mid w more) begin over in
        let further = passes_further {limits = limits} {s = s} {at = x.offset} is.n from place is.back over' in
        record {
          over = passes_after is.start (omega (arith, high)) before.over further;
          bounded = keeps_on (x.offset + length s) old mid w before.bounded bound;
        }

    -- documents go on at a place, and the bytes before it are passed
    next_found : {before : Work} (s : List ℕ) (read : Consumes (Some s) r (ahead_of x)) (place : ℕ) {more : Bool} (skip : Skip) → from ≤ place
        → PassesOver limits (drop is.n s) (x.offset + is.n) q.from place mid before more × IsFoundAt limits (drop is.n s) (x.offset + is.n) place before new
        → is.n + place ≤ length s → (skip.count ≡ is.n + place) × (skip.all ≡ (all && more)) → IsNextPlace limits s x.offset old new skip
    next_found {before} s read place {more} skip low (passed, found) within (count, both) =
        let bound = bounded s read in
        let earlier = is.searches s read in
        let over' = subst (λ n. PassesOver limits (drop is.n s) (x.offset + is.n) n place mid before more) begin passed in
        let further = passes_further {limits = limits} {s = s} {at = x.offset} is.n from place is.back over' in
        let over : PassesOver limits s x.offset 1 (is.n + place) old before (all && more) = passes_after is.start (omega (arith, low)) earlier.over further in
        let there = found_further limits s x.offset is.n place (place_back is.n from place is.back low) before new found in
        next_place s (is.n + place) skip (omega (arith, is.start, low)) within over there (keeps_on (x.offset + length s) old mid new earlier.bounded bound) count both

  -- the search wants more, and more is read
  module _ {r'' : Option (List ℕ)} {z w : Window} {new : Work} {place kept n want : ℕ} {more there : Bool} where
    pub searched_on : Seeks limits (ahead_of y) last y.offset q mid new (sought.Wants place n more) → IsWork new → kept ≡ min place 66
        → ahead_of z ≡ drop (place - kept) (ahead_of y) → z.offset ≡ y.offset + (place - kept) → SeesAhead r' r'' z w want there → (last' : Bool) → (last' ≡ true → there ≡ false)
        → IsSearched limits r r'' x w old new kept last' (all && more)
    searched_on seeks work before passed at sees last' ends =
        let told = seeks.tells [] (λ yes. refl) in
        let low : from ≤ place = subst (λ m. m ≤ place) begin told.0 in
        let inside : place ≤ length (ahead_of y) = seeks.here.0 in
        let fewer : kept ≤ place = omega (arith, before) in
        let size : length (ahead_of z) ≡ length (ahead_of y) - (place - kept) = ap length passed ∙ length-drop (place - kept) (ahead_of y) in
        let grown : length (ahead_of z) ≤ length (ahead_of w) = sees.looks.len in
        let same : is.n + (place - kept) + kept ≡ is.n + place = omega (arith, fewer) in
        record {
          n = is.n + (place - kept);
          window = sees.window;
          work = work;
          offset = sees.offset ∙ at ∙ ap (λ m. m + (place - kept)) is.offset ∙ add_assoc x.offset is.n (place - kept);
          start = omega (arith, is.start, low, same);
          back = back_on is.n from place kept is.back low before;
          within = omega (arith, inside, size, grown, fewer);
          ends = λ yes. (sees.ends (ends yes)).1;
          passes = passes_ahead r r' r'' (ahead_of x) (ahead_of z) (ahead_of w) (is.n + (place - kept))
              (passes_more r r' (ahead_of x) (ahead_of y) (ahead_of z) is.n (place - kept) is.passes (omega (arith, inside)) passed) sees.looks;
          searches = λ s read.
              let here = tells seeks s read in
              subst (λ m. IsCovered limits s x.offset old new m (all && more)) (sym same)
              (searched seeks place more s read low (bounded seeks s read) here.2);
        }

  -- documents go on there
  module _ {z : Window} {new : Work} {place : ℕ} {more : Bool} {skip : Skip} where
    pub searched_to : Seeks limits (ahead_of y) last y.offset q mid new (sought.Found place more) → IsWork new
        → IsWindow z → ahead_of z ≡ drop place (ahead_of y) → z.offset ≡ y.offset + place
        → skip.count ≡ is.n + place → skip.all ≡ (all && more) → SkipsTo limits (reached r x old) (reached r' z new) skip
    searched_to seeks work window passed at count both =
        let told = seeks.tells [] (λ yes. refl) in
        let low : from ≤ place = subst (λ m. m ≤ place) begin told.0 in
        let over = passes_more r r' (ahead_of x) (ahead_of y) (ahead_of z) is.n place is.passes seeks.here passed in
        record {
          window = window;
          offset = at ∙ ap (λ m. m + place) is.offset ∙ add_assoc x.offset is.n place ∙ ap (λ m. x.offset + m) (sym count);
          work = work;
          passes = subst (Consumed r r' (ahead_of x) (ahead_of z)) (sym count) over;
          is = λ s read.
              let (low', high, before, passed', found) = tells seeks s read in
              let within = (left_behind r r' (ahead_of x) (ahead_of z) s (is.n + place) over read).1 in
              next_found seeks s read place skip low (passed', found) within (count, both);
        }

-- a search in these bytes is one in those ahead
module _ {limits m : Limits} {b : List ℕ} {l last : Bool} {a : ℕ} {q : Places} {v w : Work} {told found : Sought} where
  pub seeks_ahead : (y : Window)
      → m ≡ limits → b ≡ ahead_of y → l ≡ last → a ≡ y.offset → told ≡ found → Seeks m b l a q v w told → Seeks limits (ahead_of y) last y.offset q v w found
  seeks_ahead y most bytes is at same seeks =
      subst (λ t. Seeks limits (ahead_of y) last y.offset q v w t) same
      (subst (λ n. Seeks limits (ahead_of y) last n q v w told) at
      (subst (λ i. Seeks limits (ahead_of y) i a q v w told) is
      (subst (λ t. Seeks limits t l a q v w told) bytes (subst (λ n. Seeks n b l a q v w told) most seeks))))

pub not_true : (b : Bool) → not b ≡ true → b ≡ false
not_true true is = let impossible : ⊥ = cc in absurd impossible
not_true false is = refl

pub not_false : (b : Bool) → not b ≡ false → b ≡ true
not_false true is = refl
not_false false is = let impossible : ⊥ = cc in absurd impossible
