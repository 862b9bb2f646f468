-- How bytes of an input of texts are passed, one piece after the other.
use Rattle.std.proofs.Common.{◌≡◌, ◌+◌, ℕ, List, [], ◌∷◌, ◌++◌, true, false, Option, None, Some, IfSome, append_assoc, ap, arith, drop, inl, inr, length, length-append, refl, take, sym, subst, ◌∙◌}
use Rattle.std.specs.Io.KnownBytes.{Consumes}
use Rattle.dump_io.specs.input.Reading.{IsWindow, ahead_of}
use Rattle.dump_runs.specs.texts.Reading.{Advances, FindsText, GoesOnTo, IsAhead, IsScanned, LooksOn, PassesAhead, PassesBetween, PassesGap}
use Rattle.dump_io.specs.input.Between.{IsBetween, TurnsTo, may_begin}
use Rattle.dump_io.specs.input.Places.{HasNoLine, begins_line, position_over}
use Rattle.dump_runs.specs.declared.texts.cursor.Cursor.{Cursor}
use Rattle.dump_io.specs.declared.input.position.Position.{Position}
use Rattle.dump_io.specs.declared.input.turn.Turn.{Turn}
use Rattle.dump_runs.specs.declared.texts.cursor.NextText.TheVariants as next
use Rattle.dump_io.specs.declared.input.scan.Scanned.{Scanned}
use Rattle.dump_io.specs.declared.input.turn.Turn.TheVariants as turn
use Rattle.dump_io.proofs.Face.{between_none, between_on, front_kept, no_line_first, no_line_none, no_line_on, position_none, position_on, read_behind}

-- nothing is passed
pub advances_none : (r : Option (List ℕ)) (x : Cursor) → IsWindow x.window → Advances r r x x []
advances_none r x is =
    let zero : x.window.offset ≡ x.window.offset + 0 = omega arith in record { window = is; place = sym (position_none x.place); offset = zero; is_read = λ before read. read }

-- more is read ahead
pub advances_ahead : (a b c : Option (List ℕ)) (x y z : Cursor) (bytes : List ℕ) → Advances a b x y bytes → LooksOn b c y z → Advances a c x z bytes
advances_ahead a b c x y z bytes p looks = record {
  window = looks.window;
  place = looks.place ∙ p.place;
  offset = looks.offset ∙ p.offset;
  is_read = λ before read. read_behind bytes (ahead_of y.window) (ahead_of z.window) before b c (p.is_read before read) looks.looks.is_read;
}

-- more is passed of what is ahead
pub advances_more : (a b : Option (List ℕ)) (x y z : Cursor) (bytes more : List ℕ) → Advances a b x y bytes → IsWindow z.window
    → ahead_of y.window ≡ more ++ ahead_of z.window → z.place ≡ position_over y.place more → z.window.offset ≡ y.window.offset + length more
    → Advances a b x z (bytes ++ more)
advances_more a b x y z bytes more p is ahead place offset =
    let size : length (bytes ++ more) ≡ length bytes + length more = length-append bytes more in
    let first : y.window.offset ≡ x.window.offset + length bytes = p.offset in
    record {
      window = is;
      place = place ∙ ap (λ q. position_over q more) p.place ∙ sym (position_on x.place bytes more);
      offset = omega (arith, size, first, offset);
      is_read = λ before read.
          subst (Consumes before b) (ap (λ l. bytes ++ l) ahead ∙ sym (append_assoc bytes more (ahead_of z.window))) (p.is_read before read);
    }

-- one piece after the other
pub advances_on : (a b c : Option (List ℕ)) (x y z : Cursor) (bytes more : List ℕ) → Advances a b x y bytes → Advances b c y z more → Advances a c x z (bytes ++ more)
advances_on a b c x y z bytes more p q =
    let size : length (bytes ++ more) ≡ length bytes + length more = length-append bytes more in
    let first : y.window.offset ≡ x.window.offset + length bytes = p.offset in
    let second : z.window.offset ≡ y.window.offset + length more = q.offset in
    record {
      window = q.window;
      place = q.place ∙ ap (λ s. position_over s more) p.place ∙ sym (position_on x.place bytes more);
      offset = omega (arith, size, first, second);
      is_read = λ before read.
          subst (Consumes before c) (sym (append_assoc bytes more (ahead_of z.window)))
          (read_behind bytes (ahead_of y.window) (more ++ ahead_of z.window) before b c (p.is_read before read) q.is_read);
    }

-- some bytes were passed, and more is read ahead
pub goes_on_to : (a b c : Option (List ℕ)) (x y z : Cursor) (bytes : List ℕ) → Advances a b x y bytes → LooksOn b c y z → GoesOnTo a c x z
goes_on_to a b c x y z bytes p looks = (bytes, advances_ahead a b c x y z bytes p looks)

-- one byte is ahead, and is passed
advances_byte : (a b : Option (List ℕ)) (x y z : Cursor) (bytes : List ℕ) (byte : ℕ) (rest : List ℕ) (t : Turn) → Advances a b x y bytes → ahead_of y.window ≡ byte ∷ rest
    → PassesAhead (record y { turn = t }) z 1 → Advances a b x z (bytes ++ byte ∷ [])
advances_byte a b x y z bytes byte rest t p ahead passed =
    let behind : ahead_of z.window ≡ rest = passed.1 ∙ ap (drop 1) ahead in
    let place : z.place ≡ position_over y.place (byte ∷ []) = passed.2 ∙ ap (λ l. position_over y.place (take 1 l)) ahead in
    advances_more a b x y z bytes (byte ∷ []) p passed.0 (ahead ∙ ap (λ l. byte ∷ l) (sym behind)) place passed.3

-- this was passed between documents
abbrev pub HasBetween : (a b : Option (List ℕ)) (x y : Cursor) → Type 0
HasBetween a b x y = (front : List ℕ) × Advances a b x y front × IsBetween x.turn front y.turn

pub nothing_between : (r : Option (List ℕ)) (x : Cursor) → IsWindow x.window → HasBetween r r x x
nothing_between r x is = ([], advances_none r x is, between_none x.turn)

module _ {b c : Option (List ℕ)} {y z : Cursor} {o : Option ℕ} {byte : ℕ} where
  pub between_more : (a : Option (List ℕ)) (x w : Cursor) (v : Turn) → HasBetween a b x y → LooksOn b c y z × IsAhead c z o → o ≡ Some byte
      → TurnsTo z.turn byte (Some v) → PassesAhead (record z { turn = v }) w 1 → HasBetween a c x w
  between_more a x w v (front, p, turns) (looks, is) some now passed =
      let (rest, ahead) = subst (IsAhead c z) some is in
      let same : IsBetween x.turn front z.turn = subst (IsBetween x.turn front) (sym looks.turn) turns in (
        front ++ byte ∷ [],
        advances_byte a c x z w front byte rest v (advances_ahead a b c x y z front p looks) ahead passed,
        subst (IsBetween x.turn (front ++ byte ∷ [])) (sym passed.4) (between_on x.turn z.turn v front (byte ∷ []) same now),
      )

module _ {b c : Option (List ℕ)} {y z : Cursor} {q : Option ℕ} where
  pub between_ends : (a : Option (List ℕ)) (x : Cursor) (o : Option ℕ) → HasBetween a b x y → LooksOn b c y z × IsAhead c z o → o ≡ q
      → IfSome q (λ byte. TurnsTo z.turn byte None) → PassesBetween a c x z q
  between_ends a x o (front, p, turns) (looks, is) same stops = record {
    front = front;
    advances = advances_ahead a b c x y z front p looks;
    turns = subst (IsBetween x.turn front) (sym looks.turn) turns;
    is = subst (IsAhead c z) same is;
    stops = stops;
  }

-- and reading failed after it
pub between_fails : (a b c : Option (List ℕ)) (x y z : Cursor) → HasBetween a b x y → LooksOn b c y z → GoesOnTo a c x z
between_fails a b c x y z (front, p, turns) looks = goes_on_to a b c x y z front p looks

-- this was passed over
abbrev pub HasGap : (a b : Option (List ℕ)) (x y : Cursor) → Type 0
HasGap a b x y = (gap : List ℕ) × Advances a b x y gap × HasNoLine x.place gap × (y.turn ≡ x.turn)

pub gap_none : (r : Option (List ℕ)) (x : Cursor) → IsWindow x.window → HasGap r r x x
gap_none r x is = ([], advances_none r x is, no_line_none x.place, refl)

module _ {b c : Option (List ℕ)} {y z : Cursor} {o : Option ℕ} {byte : ℕ} where
  pub gap_more : (a : Option (List ℕ)) (x w : Cursor) → HasGap a b x y → LooksOn b c y z × IsAhead c z o → o ≡ Some byte
      → begins_line z.place byte ≡ false → PassesAhead z w 1 → HasGap a c x w
  gap_more a x w (gap, p, none, same) (looks, is) some now passed =
      let (rest, ahead) = subst (IsAhead c z) some is in
      let first = advances_ahead a b c x y z gap p looks in
      let here : begins_line (position_over x.place gap) byte ≡ false = subst (λ (q : Position). begins_line q byte ≡ false) first.place now in (
        gap ++ byte ∷ [],
        advances_byte a c x z w gap byte rest z.turn first ahead passed,
        no_line_on x.place gap (byte ∷ []) none (no_line_first (position_over x.place gap) byte [] here (no_line_none _)),
        passed.4 ∙ looks.turn ∙ same,
      )

-- up to the end of the input
module _ {b c : Option (List ℕ)} {y z : Cursor} {o : Option ℕ} where
  pub gap_ends : (a : Option (List ℕ)) (x : Cursor) → HasGap a b x y → LooksOn b c y z × IsAhead c z o → o ≡ None → PassesGap a c x (record z { turn = turn.Last })
  gap_ends a x (gap, p, none, same) (looks, is) end =
      let first = advances_ahead a b c x y z gap p looks in
      record {
        gap = gap;
        advances = record { window = first.window; place = first.place; offset = first.offset; is_read = first.is_read };
        none = none;
        ends = inr (refl, subst (IsAhead c z) end is);
      }

-- or to a line that begins with a brace
module _ {b c : Option (List ℕ)} {y z : Cursor} {o : Option ℕ} {byte : ℕ} where
  pub gap_goes_on : (a : Option (List ℕ)) (x : Cursor) → HasGap a b x y → LooksOn b c y z × IsAhead c z o → o ≡ Some byte → begins_line z.place byte ≡ true → PassesGap a c x z
  gap_goes_on a x (gap, p, none, same) (looks, is) some begins = record {
    gap = gap;
    advances = advances_ahead a b c x y z gap p looks;
    none = none;
    ends = inl (looks.turn ∙ same, (byte, subst (IsAhead c z) some is, begins));
  }

-- and reading failed after it
pub gap_fails : (a b c : Option (List ℕ)) (x y z : Cursor) → HasGap a b x y → LooksOn b c y z → GoesOnTo a c x z
gap_fails a b c x y z (gap, p, none, same) looks = goes_on_to a b c x y z gap p looks

-- a document's text is next, which begins with a brace
module _ {a b c : Option (List ℕ)} {x y z : Cursor} {o : Option ℕ} where
  pub finds_text : (found : Scanned) → PassesBetween a b x y o → o ≡ Some 123
      → LooksOn b c y z × IsScanned c (ahead_of z.window) found → may_begin y.turn ≡ true → FindsText a c x z (next.Text found)
  finds_text found p some (looks, scans) may =
      let (rest, brace) = subst (IsAhead b y) some p.is in
      let (more, kept) = front_kept (ahead_of y.window) (ahead_of z.window) looks.looks.kept in
      let here : ahead_of z.window ≡ 123 ∷ (rest ++ more) = kept ∙ ap (λ l. l ++ more) brace in
      record {
        front = p.front;
        advances = advances_ahead a b c x y z p.front p.advances looks;
        turns = subst (IsBetween x.turn p.front) (sym looks.turn) p.turns;
        is = (ap may_begin looks.turn ∙ may, (rest ++ more, here), scans);
      }

-- and reading it failed
pub finds_fails : (a b c : Option (List ℕ)) (x y z : Cursor) (o : Option ℕ) → PassesBetween a b x y o → LooksOn b c y z → GoesOnTo a c x z
finds_fails a b c x y z o p looks = goes_on_to a b c x y z p.front p.advances looks
