-- What is before the documents that are asked for.
use Rattle.std.proofs.Common.{◌≡◌, ℕ, suc, ◌+◌, ◌<◌, ◌≤◌, List, [], ◌∷◌, ◌++◌, Option, None, Some, IfSome, Result, Ok, Err, IfErr, add_assoc, add-zero, ap, append-nil, append_assoc, arith, drop, inl, inr, length, length-append, length-take-le, refl, subst, sym, take, take-append-drop, ◌∙◌}
use Rattle.std.specs.List.{AllByRecursion}
use Rattle.std.proofs.lemmas.Grind.{flat_map-append}
use Rattle.std.specs.Io.KnownBytes.{Consumes, IsAtEnd}
use Rattle.dump_io.specs.input.Cut.{EndsWith, IsPiece, said_len}
use Rattle.dump_io.specs.input.InFront.{BeginsNone, HasPassedFront, IsAllInFront, IsInFront, IsOther, PassesBytes, PassesDocuments}
use Rattle.dump_io.specs.input.Reading.{GoesAhead, IsNextPiece, IsWindow, ReadsAhead, ahead_of}
use Rattle.dump_io.specs.lines.Failing.{IsReading}
use Rattle.dump_io.specs.lines.Fronts.{joined}
use Rattle.dump_io.specs.declared.input.ending.Ending.{Ending}
use Rattle.dump_io.specs.declared.input.ending.Ending.TheVariants as ending
use Rattle.dump_io.specs.declared.lines.failure.Failure.{Failure}
use Rattle.dump_io.specs.declared.input.portion.Portion.{Portion}
use Rattle.dump_io.specs.declared.input.window.Next.{Next}
use Rattle.dump_io.specs.declared.input.window.Next.TheVariants as next
use Rattle.dump_io.specs.declared.input.window.Window.{Window}
use Rattle.dump_io.proofs.input.Ahead.{all_ahead, input_behind}
use Rattle.dump_io.proofs.input.Going.{ends_all, said_front}
use Rattle.dump_io.proofs.input.Skipping.{passes_ahead, passes_more, passes_none, read_behind}

-- what holds of all bytes holds of the input
pub some_any : (input : Option (List ℕ)) (P : List ℕ → Type 0) → ((s : List ℕ) → P s) → IfSome input P
some_any None P all = tt
some_any (Some s) P all = all s

-- no document begins where the bytes end before its end, or where the length is unsound
begins_none : {most : ℕ} (e : Ending) (s : List ℕ) → EndsWith most e s → BeginsNone most s
begins_none (ending.CutOff count) s (size, some, inl few) x is (rest, split) =
    let len : length s ≡ length x + length rest = ap length split ∙ length-append x rest in
    omega (arith, size, few, len, is.sound.0)
begins_none (ending.CutOff count) s (size, some, inr (sound, less)) x is (rest, split) =
    let len : length s ≡ length x + length rest = ap length split ∙ length-append x rest in
    let said : said_len s ≡ length x = ap said_len split ∙ said_front x rest (omega (arith, is.sound.0)) ∙ is.said in
    omega (arith, size, less, len, said)
begins_none (ending.Unsound n) s (four, inl less, same) x is (rest, split) =
    let said : said_len s ≡ length x = ap said_len split ∙ said_front x rest (omega (arith, is.sound.0)) ∙ is.said in
    omega (arith, said, less, is.sound.0)
begins_none (ending.Unsound n) s (four, inr more, same) x is (rest, split) =
    let said : said_len s ≡ length x = ap said_len split ∙ said_front x rest (omega (arith, is.sound.0)) ∙ is.said in
    omega (arith, said, more, is.sound.1)
begins_none (ending.WrongLength len) s ends x is front = absurd ends

-- the same of all that is left if no document is next
none_next : {most : ℕ} (told : Next) (s ahead : List ℕ) (r : Option (List ℕ)) → IsOther told → IsNextPiece most r ahead told → Consumes (Some s) r ahead → BeginsNone most s
none_next (next.Document len) s ahead r other is read = absurd other
none_next next.Nothing s ahead r other (nothing, end) read = λ x is front.
    let (rest, split) = front in
    let none : s ≡ [] = all_ahead s ahead r read end ∙ nothing in
    let len : 0 ≡ length x + length rest = ap length (sym none) ∙ ap length split ∙ length-append x rest in
    omega (arith, len, is.sound.0)
none_next (next.End e) s ahead r other (ends, behind) read = begins_none e s (ends_all _ e s ahead r ends behind read)

-- what isn't a document is something else
pub other_next : (told : Next) → ((len : ℕ) → told ≡ next.Document len → ⊥) → IsOther told
other_next (next.Document len) none = absurd (none len refl)
other_next next.Nothing none = tt
other_next (next.End e) none = tt

-- no byte is passed yet
pub goes_none : (r : Option (List ℕ)) (x : Window) → IsWindow x → (goes : GoesAhead r r x x) × (goes.count ≡ 0)
goes_none r x is = (record { window = is; count = 0; offset = sym (add-zero x.offset); passes = passes_none r (ahead_of x) }, refl)

-- more is read ahead
pub goes_on : {r r' r'' : Option (List ℕ)} {x y : Window} (z : Window) (goes : GoesAhead r r' x y) → ReadsAhead r' r'' (ahead_of y) (ahead_of z) → IsWindow z → z.offset ≡ y.offset
    → (on : GoesAhead r r'' x z) × (on.count ≡ goes.count)
goes_on {r = r} {r' = r'} {r'' = r''} {x = x} {y = y} z goes looks is at = (
  record {
    window = is;
    count = goes.count;
    offset = at ∙ goes.offset;
    passes = passes_ahead r r' r'' (ahead_of x) (ahead_of y) (ahead_of z) goes.count goes.passes looks;
  },
  refl,
)

-- `k` more bytes are passed
pub goes_past : {r r' : Option (List ℕ)} {x y : Window} (z : Window) (goes : GoesAhead r r' x y) (k : ℕ) → k ≤ length (ahead_of y) → IsWindow z → ahead_of z ≡ drop k (ahead_of y)
    → z.offset ≡ y.offset + k → (on : GoesAhead r r' x z) × (on.count ≡ goes.count + k)
goes_past {r = r} {r' = r'} {x = x} {y = y} z goes k some is ahead at = (
  record {
    window = is;
    count = goes.count + k;
    offset = at ∙ ap (λ m. m + k) goes.offset ∙ add_assoc x.offset goes.count k;
    passes = passes_more r r' (ahead_of x) (ahead_of y) (ahead_of z) goes.count k goes.passes some ahead;
  },
  refl,
)

-- no document is passed yet
pub documents_none : (most count : ℕ) (r : Option (List ℕ)) (x : Window) → IsWindow x → (d : PassesDocuments most count r r x x) × (length d.documents ≡ 0)
documents_none most count r x is = (
  record { window = is; documents = []; pieces = tt; few = omega arith; offset = sym (add-zero x.offset); is_read = λ before read. read },
  refl,
)

-- more is read ahead
pub documents_on : {most count : ℕ} {r r' r'' : Option (List ℕ)} {x y : Window} (z : Window) (d : PassesDocuments most count r r' x y) → ReadsAhead r' r'' (ahead_of y) (ahead_of z) → IsWindow z
    → z.offset ≡ y.offset → (on : PassesDocuments most count r r'' x z) × (length on.documents ≡ length d.documents)
documents_on {most = most} {count = count} {r = r} {r' = r'} {r'' = r''} {x = x} {y = y} z d looks is at = (
  record {
    window = is;
    documents = d.documents;
    pieces = d.pieces;
    few = d.few;
    offset = at ∙ d.offset;
    is_read = λ before read. read_behind (joined d.documents) (ahead_of y) (ahead_of z) before r' r'' (d.is_read before read) looks.is_read;
  },
  refl,
)

pieces_more : {most : ℕ} (ds : List (List ℕ)) (b : List ℕ) → AllByRecursion (IsPiece most) ds → IsPiece most b → AllByRecursion (IsPiece most) (ds ++ b ∷ [])
pieces_more [] b are is = (is, tt)
pieces_more (d ∷ ds) b (first, rest) is = (first, pieces_more ds b rest is)

-- a document more is passed
pub documents_past : {most count : ℕ} {r r' : Option (List ℕ)} {x y : Window} (z : Window) (d : PassesDocuments most count r r' x y) (len : ℕ)
    → IsNextPiece most r' (ahead_of y) (next.Document len) → length d.documents < count → IsWindow z
    → ahead_of z ≡ drop len (ahead_of y) → z.offset ≡ y.offset + len → (on : PassesDocuments most count r r' x z) × (length on.documents ≡ length d.documents + 1)
documents_past {most = most} {count = count} {r = r} {r' = r'} {x = x} {y = y} z d len (within, is) few window ahead at =
    let b = take len (ahead_of y) in
    let size : length b ≡ len = length-take-le len (ahead_of y) within in
    let split : ahead_of y ≡ b ++ ahead_of z = sym (take-append-drop len (ahead_of y)) ∙ ap (λ l. b ++ l) (sym ahead) in
    let all : joined (d.documents ++ b ∷ []) ≡ joined d.documents ++ b = flat_map-append (λ l. l) d.documents (b ∷ []) ∙ ap (λ l. joined d.documents ++ l) (append-nil b) in
    let more : length (d.documents ++ b ∷ []) ≡ length d.documents + 1 = length-append d.documents (b ∷ []) in
    let sum : length (joined (d.documents ++ b ∷ [])) ≡ length (joined d.documents) + len = ap length all ∙ length-append (joined d.documents) b ∙ ap (λ m. length (joined d.documents) + m) size in (
      record {
        window = window;
        documents = d.documents ++ b ∷ [];
        pieces = pieces_more d.documents b d.pieces is;
        few = omega (arith, more, few);
        offset = omega (arith, at, d.offset, sum);
        is_read = λ before read. subst (Consumes before r')
            (ap (λ l. joined d.documents ++ l) split ∙ sym (append_assoc (joined d.documents) b (ahead_of z)) ∙ ap (λ l. l ++ ahead_of z) (sym all)) (d.is_read before read);
      },
      more,
    )

pub reads_none : (r : Option (List ℕ)) → Consumes r r []
reads_none None = tt
reads_none (Some s) = refl

nil_front : (x y : List ℕ) → [] ≡ x ++ y → x ≡ []
nil_front [] y none = refl
nil_front (n ∷ x) y none = let len : 0 ≡ suc (length (x ++ y)) = ap length none in absurd (omega arith)

-- if the input ends after these bytes, nothing was read after them
pub ends_within : (r r' r'' : Option (List ℕ)) (bytes more x y : List ℕ) (Less : Type 0) → Consumes r r' (bytes ++ x)
    → ((before : Option (List ℕ)) → Consumes before r' x → Consumes before r'' (more ++ y)) → (Less → (x ≡ []) × IsAtEnd r') → IfSome r (λ s. Less → (s ≡ bytes) × (more ≡ []))
ends_within None r' r'' bytes more x y Less read on ended = tt
ends_within (Some s) None r'' bytes more x y Less read on ended = absurd read
ends_within (Some s) (Some rest) None bytes more x y Less read on ended = absurd (on (Some (x ++ rest)) refl)
ends_within (Some s) (Some rest) (Some left) bytes more x y Less read on ended = λ less.
    let (nothing, end) = ended less in
    let none : x ++ rest ≡ [] = ap (λ l. l ++ rest) nothing ∙ end in
    let same : x ++ rest ≡ (more ++ y) ++ left = on (Some (x ++ rest)) refl in
    let nil : more ≡ [] = nil_front more (y ++ left) (sym none ∙ same ∙ append_assoc more y left) in
    (read ∙ append_assoc bytes x rest ∙ ap (λ l. bytes ++ l) none ∙ append-nil bytes, nil)

-- no bytes are no documents
pub no_documents : (most : ℕ) (ds : List (List ℕ)) → AllByRecursion (IsPiece most) ds → joined ds ≡ [] → ds ≡ []
no_documents most [] are none = refl
no_documents most (d ∷ ds) (is, are) none =
    let len : length d + length (joined ds) ≡ 0 = sym (length-append d (joined ds)) ∙ ap length none in
    absurd (omega (arith, len, is.sound.0))

pub if_some : (r : Option (List ℕ)) (P Q : List ℕ → Type 0) → ((s : List ℕ) → P s → Q s) → IfSome r P → IfSome r Q
if_some None P Q on is = tt
if_some (Some s) P Q on is = on s is

-- bytes were passed from the first byte on
pub bytes_passed : {r r' : Option (List ℕ)} {x y : Window} (p : Portion) (most : ℕ) (goes : GoesAhead r r' x y) → goes.count ≤ p.at → ahead_of x ≡ [] → x.offset ≡ 0
    → (front : List ℕ) × HasPassedFront front r r' y × IsInFront p most r front
bytes_passed {r = r} p most goes few none start =
    let bytes = goes.passes.bytes in
    let size : length bytes ≡ goes.count = goes.passes.len in (
      bytes,
      record { window = goes.window; offset = omega (arith, goes.offset, start, size); is_read = goes.passes.is_read r (subst (Consumes r r) (sym none) (reads_none r)) },
      record {
        bytes = bytes;
        documents = [];
        are = sym (append-nil bytes);
        up_to = omega (arith, size, few);
        behind_offset = some_any r _ (λ s less. refl);
        pieces = tt;
        few = omega arith;
      },
    )

module _ {r r' r'' : Option (List ℕ)} {x y z : Window} (p : Portion) (most : ℕ) where
  -- documents were passed after them
  abbrev pub in_front_of : (b : PassesBytes p.at r r' x y) (d : PassesDocuments most p.skip r' r'' y z) → ahead_of x ≡ [] → IsInFront p most r (b.0.passes.bytes ++ joined d.documents)
  in_front_of (goes, few, ended) d none =
      let bytes = goes.passes.bytes in
      let size : length bytes ≡ goes.count = goes.passes.len in
      let before : Consumes r r' (bytes ++ ahead_of y) = goes.passes.is_read r (subst (Consumes r r) (sym none) (reads_none r)) in
      record {
        bytes = bytes;
        documents = d.documents;
        are = refl;
        up_to = omega (arith, size, few);
        behind_offset =
            if_some r (λ s. length bytes < p.at → (s ≡ bytes) × (joined d.documents ≡ [])) (λ s. length bytes < p.at → d.documents ≡ [])
            (λ s ends less. no_documents most d.documents d.pieces (ends less).1)
            (ends_within r r' r'' bytes (joined d.documents) (ahead_of y) (ahead_of z) (length bytes < p.at) before d.is_read (λ less. ended (subst (λ m. m < p.at) size less)));
        pieces = d.pieces;
        few = d.few;
      }

  pub passed_front_of : (b : PassesBytes p.at r r' x y) (d : PassesDocuments most p.skip r' r'' y z) → ahead_of x ≡ [] → x.offset ≡ 0
      → HasPassedFront (b.0.passes.bytes ++ joined d.documents) r r'' z
  passed_front_of (goes, few, ended) d none start =
      let bytes = goes.passes.bytes in
      let size : length bytes ≡ goes.count = goes.passes.len in
      let sum : length (bytes ++ joined d.documents) ≡ length bytes + length (joined d.documents) = length-append bytes (joined d.documents) in
      let before : Consumes r r' (bytes ++ ahead_of y) = goes.passes.is_read r (subst (Consumes r r) (sym none) (reads_none r)) in
      record {
        window = d.window;
        offset = omega (arith, d.offset, goes.offset, start, size, sum);
        is_read = subst (Consumes r r'') (sym (append_assoc bytes (joined d.documents) (ahead_of z)))
            (read_behind bytes (ahead_of y) (joined d.documents ++ ahead_of z) r r' r'' before d.is_read);
      }

  -- that is all before the documents that are asked for
  pub all_in_front : (b : PassesBytes p.at r r' x y) (d : PassesDocuments most p.skip r' r'' y z)
      → (length d.documents < p.skip → (told : Next) × IsOther told × IsNextPiece most r'' (ahead_of z) told) → ahead_of x ≡ []
      → HasPassedFront (b.0.passes.bytes ++ joined d.documents) r r'' z → IsAllInFront p most r (b.0.passes.bytes ++ joined d.documents)
  all_in_front (goes, few, ended) d stops none passed =
      let bytes = goes.passes.bytes in
      let front = bytes ++ joined d.documents in
      let size : length bytes ≡ goes.count = goes.passes.len in
      let before : Consumes r r' (bytes ++ ahead_of y) = goes.passes.is_read r (subst (Consumes r r) (sym none) (reads_none r)) in
      record {
        front_of = in_front_of (goes, few, ended) d none;
        to_offset =
            if_some r (λ s. length bytes < p.at → (s ≡ bytes) × (joined d.documents ≡ [])) (λ s. length bytes < p.at → s ≡ front)
            (λ s ends less. (ends less).0 ∙ sym (ap (λ l. bytes ++ l) (ends less).1 ∙ append-nil bytes))
            (ends_within r r' r'' bytes (joined d.documents) (ahead_of y) (ahead_of z) (length bytes < p.at) before d.is_read (λ less. ended (subst (λ m. m < p.at) size less)));
        to_document = input_behind front (ahead_of z) r r'' (λ s. length d.documents < p.skip → BeginsNone most s) passed.is_read
            (λ s all less. let (told, other, is) = stops less in none_next told s (ahead_of z) r'' other is all);
      }

-- what holds if reading failed
pub fails_on : {A : Type 0} (r : Result A Failure) (P Q : Type 0) → (P → Q) → IfErr r (λ failure. IsReading failure → P) → IfErr r (λ failure. IsReading failure → Q)
fails_on (Ok x) P Q on is = tt
fails_on (Err e) P Q on is = λ reading. on (is reading)
