-- Where a walk may start.
use Rattle.std.proofs.Common.{◌≡◌, ◌∙◌, ◌≤◌, [], ℕ, List, Some, length, drop, arith, ap, refl, sym, length-drop}
use Rattle.raw_tree.proofs.Common.{Frame, LeadsTo, bytes_of}
use Rattle.raw_tree.proofs.walk.Common.{BeginsAt, HasNoneBefore, IsAt, IsBegun, IsBehind, Level, RawDocument, Span, Wait, Walk, whole_span, end_of}
use Rattle.raw_tree.proofs.walk.Offsets.{left_there, placed, whole_lies}

-- no element is before the first one
pub first_behind : (b : List ℕ) → 5 ≤ length b → IsBehind b 0 4
first_behind b enough = record { frames = []; s = drop 4 b; reaches = refl; number_is = refl; begins = omega (arith, length-drop 4 b, enough) }

-- nothing is before the first element
pub first_begins : (depth : ℕ) (b : List ℕ) → 5 ≤ length b → HasNoneBefore depth b 0 4
first_begins depth b enough inside e = record {
  frames = [];
  pairs = [];
  s = drop 4 b;
  reaches = refl;
  each = refl;
  number_is = refl;
  begins = omega (arith, length-drop 4 b, enough);
}

-- a walk that begins after some frames is there
pub at_start : {K : Type 0} {Behind : ℕ → Wait K → Span K → Type 0} {Fact : ℕ → Span K → List Frame → Type 0} {document : RawDocument} {offset : ℕ} {walk : Walk} {level : Level}
    → IsBegun document offset walk level → (known : K) (frames : List Frame) (s : List ℕ) → LeadsTo (drop 4 (bytes_of document)) frames s → BeginsAt (bytes_of document) s offset
    → level.number ≡ length frames → Fact walk.most_waiting (whole_span known document) frames → IsAt Behind Fact known document walk.most_waiting walk level
at_start {document = document} {offset} {walk} begun known frames s l begins number_is knows =
    let b = bytes_of document in
    let lies = whole_lies b document.envelope in
    let p = placed b (whole_span known document) frames s lies l in
    let there : end_of 4 frames ≡ offset = omega (arith, p.ends, begins) in
    record {
      levels = record {
        inside = walk.most_waiting;
        waits = [];
        here = whole_span known document;
        document_is = begun.document_is;
        most_is = refl;
        many = omega arith;
        stored = begun.none_waits;
        held = refl;
        lies = lies;
      };
      frames = frames;
      rest = s;
      reaches = l;
      left_is = begun.left_is ∙ ap Some (sym (left_there (whole_span known document) frames s document.envelope.enough l ∙ ap (λ (n : ℕ). drop n b) (omega (arith, there))));
      number_is = number_is;
      offset_is = begun.offset_is ∙ sym there;
      start_is = begun.start_is;
      knows = knows;
    }
