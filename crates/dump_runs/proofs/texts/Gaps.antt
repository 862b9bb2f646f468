-- What is passed over of an input of texts, and why no text is there.
use Rattle.std.proofs.Common.{◌≡◌, ◌⊎◌, ◌+◌, ◌^◌, ◌≤◌, inl, inr, ℕ, List, [], ◌∷◌, ◌++◌, true, false, Option, None, Some, IfSome, append_assoc, ap, arith, drop, length, length-append, length-take-le, refl, sym, subst, take, ◌∙◌}
use Rattle.std.proofs.Math.ListN.{drop_of_length-le}
use Rattle.std.proofs.Math.Seq.{drop-append_seam}
use Rattle.std.proofs.lemmas.List.{take-append-drop}
use Rattle.std.specs.Io.KnownBytes.{Consumes, IsAtEnd}
use Rattle.dump_io.specs.input.Reading.{ahead_of}
use Rattle.dump_io.specs.input.Between.{turn_after_gap}
use Rattle.dump_io.specs.input.Places.{EndsGap, HasNoLine, begins_line, position_over}
use Rattle.dump_io.specs.input.Scans.{HasBrace, IsOpen}
use Rattle.dump_io.specs.input.Texts.{IsTextOf}
use Rattle.dump_io.specs.lines.Fronts.{HasFront}
use Rattle.dump_io.specs.declared.input.position.Position.{Position}
use Rattle.dump_io.specs.declared.input.scan.Scan.{Scan}
use Rattle.dump_io.specs.declared.input.scan.Scanned.{Scanned}
use Rattle.dump_io.specs.declared.input.turn.Turn.{Turn}
use Rattle.dump_io.specs.declared.input.turn.Turn.TheVariants as turn
use Rattle.dump_io.specs.declared.lines.style.Style.{Style}
use Rattle.dump_io.proofs.Face.{last_goes, no_line_first, no_line_none, position_none, position_on, scans_as}
use Rattle.dump_runs.specs.texts.Reading.{IsAhead, IsNextText, IsScanned}
use Rattle.dump_runs.specs.texts.Run.{HasNoText, MeetsNoText, TextPoint}
use Rattle.dump_runs.specs.texts.Steps.{IsBegun, TellsNoText}
use Rattle.dump_runs.specs.declared.texts.cursor.Cursor.{Cursor}
use Rattle.dump_runs.specs.declared.texts.cursor.NextText.{NextText}
use Rattle.dump_runs.specs.declared.texts.cursor.NextText.TheVariants as next
use Rattle.dump_runs.specs.declared.texts.fault.TextReason.{TextReason}
use Rattle.dump_runs.proofs.texts.Whole.{unended_says_none}

-- the input begins with the parts
pub front_of : (input r : Option (List ℕ)) (bytes ahead : List ℕ) → Consumes input r (bytes ++ ahead) → IfSome input (λ s. HasFront s bytes)
front_of None r bytes ahead read = tt
front_of (Some s) None bytes ahead read = absurd read
front_of (Some s) (Some rest) bytes ahead read = (ahead ++ rest, read ∙ append_assoc bytes ahead rest)

-- what is after bytes of an input, of which these are ahead
pub behind_of : (input r : Option (List ℕ)) (bytes ahead : List ℕ) (P : List ℕ → Type 0) → Consumes input r (bytes ++ ahead)
    → ((rest : List ℕ) → (IsAtEnd r → rest ≡ []) → P (ahead ++ rest)) → (n : ℕ) → n ≡ length bytes → IfSome input (λ s. P (drop n s))
behind_of None r bytes ahead P read is n far = tt
behind_of (Some s) None bytes ahead P read is n far = absurd read
behind_of (Some s) (Some rest) bytes ahead P read is n far =
    let same : drop n s ≡ ahead ++ rest =
    ap (λ m. drop m s) far ∙ ap (drop (length bytes)) (read ∙ append_assoc bytes ahead rest) ∙ drop-append_seam bytes (ahead ++ rest) in
    subst P (sym same) (is rest (λ end. end))

-- what is passed over in these bytes
record HasGapIn (p : Position) (l : List ℕ) (u : Turn) : Type 0 where
  gap : List ℕ
  rest : List ℕ
  same : l ≡ gap ++ rest
  none : HasNoLine p gap
  behind : Turn
  ends : EndsGap (position_over p gap) (turn_after_gap u) rest behind
  next : (behind ≡ turn_after_gap u) ⊎ (behind ≡ turn.Last)

gap_more : (p : Position) (b : ℕ) (l : List ℕ) (u : Turn) → begins_line p b ≡ false → HasGapIn (position_over p (b ∷ [])) l u → HasGapIn p (b ∷ l) u
gap_more p b l u none h = record {
  gap = b ∷ h.gap;
  rest = h.rest;
  same = ap (λ m. b ∷ m) h.same;
  none = no_line_first p b h.gap none h.none;
  behind = h.behind;
  ends = subst (λ q. EndsGap q (turn_after_gap u) h.rest h.behind) (sym (position_on p (b ∷ []) h.gap)) h.ends;
  next = h.next;
}

gap_here : (p : Position) (b : ℕ) (l : List ℕ) (u : Turn) → begins_line p b ≡ true → HasGapIn p (b ∷ l) u
gap_here p b l u begins =
    let here = ap (λ (q : Position). begins_line q b) (position_none p) ∙ begins in
    record { gap = []; rest = b ∷ l; same = refl; none = no_line_none p; behind = turn_after_gap u; ends = (here, refl); next = inl refl }

gap_in : (p : Position) (l : List ℕ) (u : Turn) → HasGapIn p l u
gap_in p [] u = record { gap = []; rest = []; same = refl; none = no_line_none p; behind = turn.Last; ends = refl; next = inr refl }
gap_in p (b ∷ l) u =
    elim (begins_line p b) as (λ is. begins_line p b ≡ is → HasGapIn p (b ∷ l) u) [
      | true ↦ λ begins. gap_here p b l u begins
      | false ↦ λ none. gap_more p b l u none (gap_in (position_over p (b ∷ [])) l u)
    ] refl

-- why no whole text is in front of these bytes, where it was found and told
module _ (r : Option (List ℕ)) (ahead rest : List ℕ) (here : TextPoint) (ends : IsAtEnd r → rest ≡ []) where
  text_of : (found : Scanned) → HasBrace ahead → IsScanned r ahead found → IsTextOf (ahead ++ rest) (take found.len ahead)
  text_of found brace (scans, all) =
      let size : length (take found.len ahead) ≡ found.len = length-take-le found.len ahead scans.within in
      record {
        rest = drop found.len ahead ++ rest;
        front = ap (λ l. l ++ rest) (sym (take-append-drop found.len ahead)) ∙ append_assoc (take found.len ahead) (drop found.len ahead) rest;
        most = subst (λ (n : ℕ). n ≤ 2 ^ 27) (sym size) scans.most;
        last = last_goes ahead found brace scans;
        all = λ goes.
            elim (all (subst (λ (s : Scan). IsOpen s) (sym scans.scan) ((scans_as ahead found.len brace scans.most).is_open goes))) [
              | inl whole ↦
                  let all' : length ahead ≤ found.len = omega (arith, whole.0) in
                  let none : drop found.len ahead ≡ [] = drop_of_length-le ahead all' in
                  inl (ap (λ l. l ++ rest) none ∙ ends whole.1)
              | inr long ↦ inr (size ∙ long)
            ];
      }

  no_text_of : (told : NextText) (begun at : ℕ) (why : TextReason) → IsNextText r ahead here.turn told → TellsNoText here.limits ahead told begun at why
      → HasNoText here (ahead ++ rest) begun at why
  no_text_of (next.Text found) begun at why (may, (behind, brace), scanned') (whole, has, fault) =
      let found_there : HasNoText here (123 ∷ (behind ++ rest)) begun at why =
      let is : IsTextOf ((123 ∷ behind) ++ rest) (take found.len ahead) = subst (λ l. IsTextOf (l ++ rest) (take found.len ahead)) brace (text_of found (behind, brace) scanned') in
      inr (refl, may, (take found.len ahead, is, whole, unended_says_none ahead found (behind, brace) scanned'.0 whole, has, fault)) in
      subst (λ l. HasNoText here (l ++ rest) begun at why) (sym brace) found_there
  no_text_of (next.Wrong reason) begun at why (inl (b, behind, is, cant, because)) (none, zero, same) =
      let other : HasNoText here (b ∷ (behind ++ rest)) begun at why = inl (cant, none, zero, same ∙ because) in
      subst (λ l. HasNoText here (l ++ rest) begun at why) (sym is) other
  no_text_of (next.Wrong reason) begun at why (inr (is, end, may, because)) (none, zero, same) =
      let none_left : HasNoText here [] begun at why = (may, none, zero, same ∙ because) in
      subst (λ l. HasNoText here l begun at why) (sym (ap (λ l. l ++ rest) is ∙ ends end)) none_left
  no_text_of next.End begun at why is told = absurd told

-- what comes of bytes that were passed over, up to their end
module _ {style : Style} {input : Option (List ℕ)} (r' : Option (List ℕ)) (bytes : List ℕ) (here : TextPoint) {ahead : List ℕ} {told : NextText}
    (far : here.offset ≡ length bytes) (read : Consumes input r' (bytes ++ ahead)) (is_next : IsNextText r' ahead here.turn told) where
  pub astray_of : {text line : List ℕ} (gap : List ℕ) {v : Turn} (behind : Turn) → IsBegun style here ahead told text line v
      → HasNoLine (position_over here.place text) gap → ((behind ≡ turn_after_gap here.turn) ⊎ (behind ≡ turn.Last))
      → IfSome input (λ s. EndsGap (position_over here.place (text ++ gap)) (turn_after_gap here.turn) (drop (here.offset + length (text ++ gap)) s) behind)
      → MeetsNoText style input here (text ++ gap) line behind
  astray_of {text = text} gap behind is none next ends = record {
    begun = text;
    gap = gap;
    parts = refl;
    unended = is.unended;
    no_line = none;
    fault = is.fault;
    why = behind_of input r' bytes ahead (λ l. HasNoText here l (length text) is.fault.at is.fault.reason) read
        (λ rest end. no_text_of r' ahead rest here end told (length text) is.fault.at is.fault.reason is_next is.why) here.offset far;
    next = next;
    ends = ends;
  }

-- bytes of an input that are passed over after these
pub record GapBehind (input : Option (List ℕ)) (bytes text : List ℕ) (here : TextPoint) : Type 0 where
  pub gap : List ℕ
  pub none : HasNoLine (position_over here.place text) gap
  pub behind : Turn
  pub next : (behind ≡ turn_after_gap here.turn) ⊎ (behind ≡ turn.Last)
  pub ends : IfSome input (λ s. EndsGap (position_over here.place (text ++ gap)) (turn_after_gap here.turn) (drop (here.offset + length (text ++ gap)) s) behind)
  pub in_front : IfSome input (λ s. HasFront s (bytes ++ (text ++ gap)))

pub gap_behind : (input r : Option (List ℕ)) (bytes ahead text : List ℕ) (here : TextPoint) → here.offset ≡ length bytes → Consumes input r (bytes ++ ahead) → HasFront ahead text
    → GapBehind input bytes text here
gap_behind None r bytes ahead text here far read front = record { gap = []; none = no_line_none _; behind = turn_after_gap here.turn; next = inl refl; ends = tt; in_front = tt }
gap_behind (Some s) None bytes ahead text here far read front = absurd read
gap_behind (Some s) (Some rest) bytes ahead text here far read (left, split) =
    let place = here.place in
    let u = here.turn in
    let h = gap_in (position_over place text) (left ++ rest) u in
    let whole = bytes ++ (text ++ h.gap) in
    let all : s ≡ whole ++ h.rest =
    read ∙ append_assoc bytes ahead rest ∙ ap (λ l. bytes ++ (l ++ rest)) split ∙ ap (λ l. bytes ++ l) (append_assoc text left rest) ∙ ap (λ l. bytes ++ (text ++ l)) h.same
    ∙ ap (λ l. bytes ++ l) (sym (append_assoc text h.gap h.rest)) ∙ sym (append_assoc bytes (text ++ h.gap) h.rest) in
    let size : length whole ≡ length bytes + length (text ++ h.gap) = length-append bytes (text ++ h.gap) in
    let end : here.offset + length (text ++ h.gap) ≡ length whole = ap (λ n. n + length (text ++ h.gap)) far ∙ sym size in
    let behind : drop (here.offset + length (text ++ h.gap)) s ≡ h.rest =
    ap (λ n. drop n s) end ∙ ap (drop (length whole)) all ∙ drop-append_seam whole h.rest in
    let there : position_over place (text ++ h.gap) ≡ position_over (position_over place text) h.gap = position_on place text h.gap in
    record {
      gap = h.gap;
      none = h.none;
      behind = h.behind;
      next = h.next;
      ends = subst (λ q. EndsGap q (turn_after_gap u) (drop (here.offset + length (text ++ h.gap)) s) h.behind) (sym there)
          (subst (λ l. EndsGap (position_over (position_over place text) h.gap) (turn_after_gap u) l h.behind) (sym behind) h.ends);
      in_front = (h.rest, all);
    }

-- the same of bytes that were passed over
pub gap_ends : (r : Option (List ℕ)) (z q : Cursor) (place : Position) (u : Turn) (rest : List ℕ) → (IsAtEnd r → rest ≡ []) → z.turn ≡ turn_after_gap u → q.place ≡ place
    → ((q.turn ≡ z.turn) × ((b : ℕ) × IsAhead r q (Some b) × (begins_line q.place b ≡ true))) ⊎ ((q.turn ≡ turn.Last) × IsAhead r q None)
    → EndsGap place (turn_after_gap u) (ahead_of q.window ++ rest) q.turn
gap_ends r z q place u rest end next here (inl (same, (b, (behind, is), begins))) =
    let line : begins_line place b ≡ true = subst (λ p. begins_line p b ≡ true) here begins in
    let ends : EndsGap place (turn_after_gap u) (b ∷ (behind ++ rest)) q.turn = (line, same ∙ next) in
    subst (λ l. EndsGap place (turn_after_gap u) (l ++ rest) q.turn) (sym is) ends
gap_ends r z q place u rest end next here (inr (last, (none, done))) =
    subst (λ l. EndsGap place (turn_after_gap u) l q.turn) (sym (ap (λ l. l ++ rest) none ∙ end done)) last
