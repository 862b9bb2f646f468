-- How the parts of an input of texts that were passed grow by one more.
use Rattle.std.proofs.Common.{◌≡◌, ◌≢◌, ◌⊎◌, ◌+◌, inl, inr, ℕ, List, [], ◌∷◌, ◌++◌, Bool, true, false, Option, None, Some, IfSome, add-zero, add_assoc, append_assoc, append-nil, ap, arith, flat_map, length, length-append, refl, sym, subst, zero-add, ◌∙◌}
use Rattle.std.proofs.lemmas.Grind.{flat_map-append, fold-append}
use Rattle.std.specs.Io.KnownBytes.{Consumes, IsAtEnd}
use Rattle.std.proofs.KnownBytes.{Consumes-nil}
use Rattle.dump_io.specs.input.Reading.{IsWindow, ahead_of}
use Rattle.dump_io.specs.input.Between.{IsBetween, turn_after_gap}
use Rattle.dump_io.specs.input.Places.{EndsGap, HasNoLine, first_position, position_over}
use Rattle.dump_io.specs.lines.Fronts.{HasFront}
use Rattle.dump_io.specs.declared.input.turn.Turn.{Turn}
use Rattle.dump_io.specs.declared.input.turn.Turn.TheVariants as turn
use Rattle.dump_io.specs.declared.lines.style.Style.{Style}
use Rattle.dump_io.proofs.Face.{position_on, read_behind}
use Rattle.dump_runs.specs.Plays.{Event, Held, Played}
use Rattle.dump_runs.specs.texts.Reading.{Advances, FindsText, GoesOnTo, PassesGap}
use Rattle.dump_runs.specs.texts.Run.{AreTexts, EndsTexts, GoesOn, HaltsTexts, IsFault, IsSaid, IsTextPart, Said, TextPart, TextPoint, after, after_all, bytes_of, bytes_of_texts, events_of, events_of_texts, first_point, passed_to, refused, said, style_of, turn_after}
use Rattle.dump_runs.specs.texts.Steps.{Becomes, FailsAt, HaltsText, IsBegun, PassesBehind, PassesText, PassesTexts, point_of}
use Rattle.dump_runs.specs.declared.ends.Ended.{Ended}
use Rattle.dump_runs.specs.declared.ends.Ended.TheVariants as how
use Rattle.dump_runs.specs.declared.reading.TextJob.{TextJob}
use Rattle.dump_runs.specs.declared.texts.cursor.Cursor.{Cursor}
use Rattle.dump_runs.specs.declared.texts.cursor.NextText.{NextText}
use Rattle.dump_runs.specs.declared.texts.cursor.NextText.TheVariants as next
use Rattle.dump_runs.specs.declared.texts.piece.Went.{Went}
use Rattle.dump_runs.specs.declared.texts.piece.Went.TheVariants as went
use Rattle.dump_runs.proofs.Plays.{played_none, played_on}
use Rattle.dump_runs.proofs.texts.Advancing.{advances_more, advances_on}
use Rattle.dump_runs.proofs.texts.Becoming.{begun_of, fault_of, on_of, said_of}
use Rattle.dump_runs.proofs.texts.Gaps.{astray_of, behind_of, front_of, gap_behind, gap_ends}

-- a run goes on after each of these
abbrev pub AllGoOn : Bool → List TextPart → Type 0
AllGoOn keep_going [] = Unit {0}
AllGoOn keep_going (p ∷ ps) = GoesOn keep_going p.says × AllGoOn keep_going ps

go_more : (k : Bool) (ps : List TextPart) (p : TextPart) → AllGoOn k ps → GoesOn k p.says → AllGoOn k (ps ++ p ∷ [])
go_more k [] p all here = (here, tt)
go_more k (x ∷ ps) p (first, rest) here = (first, go_more k ps p rest here)

-- so it does after the last
last_goes : (k : Bool) (before : List TextPart) (p : TextPart) → AllGoOn k (before ++ p ∷ []) → GoesOn k p.says
last_goes k [] p (here, rest) = here
last_goes k (x ∷ before) p (first, rest) = last_goes k before p rest

last_of : (k : Bool) (ps : List TextPart) → AllGoOn k ps → (before : List TextPart) (p : TextPart) → ps ≡ before ++ p ∷ [] → GoesOn k p.says
last_of k ps all before p same = last_goes k before p (subst (AllGoOn k) same all)

texts_more : (job : TextJob) {input : Option (List ℕ)} (here : TextPoint) (ps : List TextPart) (p : TextPart) → AreTexts job input here ps → AllGoOn job.keep_going ps
    → IsTextPart job input (after_all here ps) p → AreTexts job input here (ps ++ p ∷ [])
texts_more job here [] p are all is = (is, inl refl, tt)
texts_more job here (x ∷ ps) p (first, _, rest) (go, all) is = (first, inr go, texts_more job (after here x) ps p rest all is)

one_more : {A : Type 0} (f : TextPart → List A) (ps : List TextPart) (p : TextPart) → flat_map f ps ++ f p ≡ flat_map f (ps ++ p ∷ [])
one_more f ps p = sym (flat_map-append f ps (p ∷ []) ∙ ap (λ xs. flat_map f ps ++ xs) (append-nil (f p)))

-- where parts end
offset_behind : (here : TextPoint) (ps : List TextPart) → (after_all here ps).offset ≡ here.offset + length (bytes_of_texts ps)
offset_behind here [] = sym (add-zero here.offset)
offset_behind here (p ∷ ps) =
    let one = length (bytes_of p) in
    let others = length (bytes_of_texts ps) in
    let rest : (after_all here (p ∷ ps)).offset ≡ (here.offset + one) + others = offset_behind (after here p) ps in
    rest ∙ add_assoc here.offset one others ∙ ap (λ (n : ℕ). here.offset + n) (sym (length-append (bytes_of p) (bytes_of_texts ps)))

turn_of : (here : TextPoint) (ps : List TextPart) → (after_all here ps).turn ≡ turn_after here.turn ps
turn_of here [] = refl
turn_of here (p ∷ ps) = turn_of (after here p) ps

-- these bytes were passed of an input, and others are ahead
pub record IsAt (input r : Option (List ℕ)) (x : Cursor) : Type 0 where
  pub bytes : List ℕ
  pub offset : x.window.offset ≡ length bytes
  pub is_read : Consumes input r (bytes ++ ahead_of x.window)

-- more of them
pub at_more : (input r r' : Option (List ℕ)) (x y : Cursor) → IsAt input r x → GoesOnTo r r' x y → IsAt input r' y
at_more input r r' x y is (more, p) =
    let size : length (is.bytes ++ more) ≡ length is.bytes + length more = length-append is.bytes more in
    let first : x.window.offset ≡ length is.bytes = is.offset in
    let second : y.window.offset ≡ x.window.offset + length more = p.offset in
    record {
      bytes = is.bytes ++ more;
      offset = omega (arith, size, first, second);
      is_read = subst (Consumes input r') (sym (append_assoc is.bytes more (ahead_of y.window)))
          (read_behind is.bytes (ahead_of x.window) (more ++ ahead_of y.window) input r r' is.is_read p.is_read);
    }

-- what is known of parts in front of an input
pub record HasTexts (job : TextJob) (name : List ℕ) (input : Option (List ℕ)) (old new : Held) (ps : List TextPart) : Type 0 where
  pub parts : AreTexts job input (first_point job name old.counts) ps
  pub in_front : IfSome input (λ s. HasFront s (bytes_of_texts ps))
  pub played : Played (events_of_texts ps) old new

-- they were passed, the run goes on after each of them, and these bytes are ahead
pub record GoesOnBehind (job : TextJob) (name : List ℕ) (input r : Option (List ℕ)) (old new : Held) (x : Cursor) : Type 0 where
  pub ps : List TextPart
  pub has : HasTexts job name input old new ps
  pub all : AllGoOn job.keep_going ps
  pub is_read : Consumes input r (bytes_of_texts ps ++ ahead_of x.window)
  pub to : point_of job name x new.counts ≡ after_all (first_point job name old.counts) ps

pub nothing_passed : (job : TextJob) (name : List ℕ) (r : Option (List ℕ)) (old : Held) (x : Cursor) → ahead_of x.window ≡ [] → x.place ≡ first_position → x.window.offset ≡ 0 → x.turn ≡ turn.First
    → GoesOnBehind job name r r old old x
nothing_passed job name r old x none start zero first =
    let read : Consumes r r ([] ++ ahead_of x.window) = subst (Consumes r r) (sym none) (Consumes-nil r) in
    record {
      ps = [];
      has = record { parts = tt; in_front = front_of r r [] (ahead_of x.window) read; played = played_none refl };
      all = tt;
      is_read = read;
      to = λ i. record { name = name; limits = job.limits; offset = zero i; place = start i; turn = first i; counts = old.counts };
    }

module _ {job : TextJob} {name : List ℕ} {input r : Option (List ℕ)} {old mid : Held} {x : Cursor} (g : GoesOnBehind job name input r old mid x) where
  there : x.window.offset ≡ length (bytes_of_texts g.ps)
  there = ap (λ (q : TextPoint). q.offset) g.to ∙ offset_behind (first_point job name old.counts) g.ps ∙ zero-add (length (bytes_of_texts g.ps))

  pub at_of : IsAt input r x
  at_of = record { bytes = bytes_of_texts g.ps; offset = there; is_read = g.is_read }

  -- one more part comes after them
  parts_more : (p : TextPart) → IsTextPart job input (point_of job name x mid.counts) p → AreTexts job input (first_point job name old.counts) (g.ps ++ p ∷ [])
  parts_more p is =
      texts_more job (first_point job name old.counts) g.ps p g.has.parts g.all (subst (λ (q : TextPoint). IsTextPart job input q p) g.to is)

  -- it is the last one, in front of the input
  has_more : {new : Held} (p : TextPart) → IsTextPart job input (point_of job name x mid.counts) p → IfSome input (λ s. HasFront s (bytes_of_texts g.ps ++ bytes_of p))
      → Played (events_of p.says) mid new → HasTexts job name input old new (g.ps ++ p ∷ [])
  has_more {new} p is front played = record {
    parts = parts_more p is;
    in_front = subst (λ l. IfSome input (λ s. HasFront s l)) (one_more bytes_of g.ps p) front;
    played = subst (λ (es : List Event). Played es old new) (one_more (λ (q : TextPart). events_of q.says) g.ps p) (played_on g.has.played played);
  }

  -- it is passed
  module _ {r' : Option (List ℕ)} {y : Cursor} {new : Held} where
    goes_more : (p : TextPart) → IsTextPart job input (point_of job name x mid.counts) p → Advances r r' x y (bytes_of p) → Played (events_of p.says) mid new → GoesOn job.keep_going p.says
        → y.turn ≡ p.behind → GoesOnBehind job name input r' old new y
    goes_more p is advances played goes turns =
        let bytes = bytes_of_texts g.ps in
        let first = first_point job name old.counts in
        let read = read_behind bytes (ahead_of x.window) (bytes_of p ++ ahead_of y.window) input r r' g.is_read advances.is_read in
        let both = subst (Consumes input r') (sym (append_assoc bytes (bytes_of p) (ahead_of y.window))) read in
        let next : point_of job name y new.counts ≡ after (point_of job name x mid.counts) p =
        λ i. record { name = name; limits = job.limits; offset = advances.offset i; place = advances.place i; turn = turns i; counts = played.counts i } in
        record {
          ps = g.ps ++ p ∷ [];
          has = has_more p is (front_of input r' (bytes ++ bytes_of p) (ahead_of y.window) both) played;
          all = go_more job.keep_going g.ps p g.all goes;
          is_read = subst (Consumes input r') (ap (λ l. l ++ ahead_of y.window) (one_more bytes_of g.ps p)) both;
          to = next ∙ ap (λ (q : TextPoint). after q p) g.to ∙ sym (fold-append after first g.ps (p ∷ []));
        }

-- a part with this front and text, or one that goes on with more, is in front of the input after these bytes
abbrev pub Completes : (job : TextJob) (input : Option (List ℕ)) (bytes : List ℕ) (here : TextPoint) (front text : List ℕ) → Said → Type 0
Completes job input bytes here front text says =
    (gap : List ℕ) × (behind : Turn) × IsTextPart job input here (record { front = front; text = text ++ gap; says = says; behind = behind })
    × IfSome input (λ s. HasFront s (bytes ++ (front ++ (text ++ gap))))

both_of : (input : Option (List ℕ)) (P Q : List ℕ → Type 0) → IfSome input P → IfSome input Q → IfSome input (λ s. P s × Q s)
both_of None P Q p q = tt
both_of (Some s) P Q p q = (p, q)

read_of : (input r : Option (List ℕ)) (bytes : List ℕ) (at : ℕ) → Consumes input r bytes → at ≡ length bytes
    → IfSome input (λ s. (read : List ℕ) × Consumes (Some s) r read × (at ≡ length read))
read_of None r bytes at read far = tt
read_of (Some s) r bytes at read far = (bytes, read, far)

module _ {job : TextJob} {name : List ℕ} {input r : Option (List ℕ)} {old new : Held} {y : Cursor} {ps : List TextPart} where
  -- reading fails after what is ahead
  fails_at : (e : Ended) → HasTexts job name input old new ps → AllGoOn job.keep_going ps → IsAt input r y → FailsAt (y.window.offset + length (ahead_of y.window)) e
      → PassesTexts job name input r old new e
  fails_at how.Whole h all here none = absurd none
  fails_at how.Cut h all here none = absurd none
  fails_at (how.Failed failed) h all here is =
      let size : length (here.bytes ++ ahead_of y.window) ≡ length here.bytes + length (ahead_of y.window) = length-append here.bytes (ahead_of y.window) in
      let far : failed.at ≡ length (here.bytes ++ ahead_of y.window) = is ∙ ap (λ m. m + length (ahead_of y.window)) here.offset ∙ sym size in
      record {
        ps = ps;
        parts = h.parts;
        ends = both_of input (λ s. HasFront s (bytes_of_texts ps)) (λ s. (read : List ℕ) × Consumes (Some s) r read × (failed.at ≡ length read)) h.in_front
            (read_of input r (here.bytes ++ ahead_of y.window) failed.at here.is_read far);
        stops = last_of job.keep_going ps all;
        played = h.played;
      }

-- nothing more is played
halts_has : {job : TextJob} {name : List ℕ} {input : Option (List ℕ)} {old new : Held} {ps : List TextPart} → HasTexts job name input old new ps → HaltsTexts job name input old new
halts_has {ps = ps} h = record {
  ps = ps;
  parts = h.parts;
  in_front = h.in_front;
  es = [];
  next = inl refl;
  played = played_on h.played (played_none refl);
}

module _ {job : TextJob} {name : List ℕ} {input r r' : Option (List ℕ)} {old mid : Held} {x y : Cursor} {told : NextText}
    (g : GoesOnBehind job name input r old mid x) (f : FindsText r r' x y told) where
  -- where the text begins
  abbrev here : TextPoint
  here = point_of job name y mid.counts

  -- how its fault is told
  abbrev shown : Style
  shown = style_of job here

  -- what is in front of the text
  abbrev before : List ℕ
  before = bytes_of_texts g.ps ++ f.front

  read_found : Consumes input r' (before ++ ahead_of y.window)
  read_found =
      subst (Consumes input r') (sym (append_assoc (bytes_of_texts g.ps) f.front (ahead_of y.window)))
      (read_behind (bytes_of_texts g.ps) (ahead_of x.window) (f.front ++ ahead_of y.window) input r r' g.is_read f.advances.is_read)

  far_found : y.window.offset ≡ length before
  far_found = f.advances.offset ∙ ap (λ m. m + length f.front) (there g) ∙ sym (length-append (bytes_of_texts g.ps) f.front)

  -- what is next is a part
  part_of : (text : List ℕ) (says : Said) (v : Turn) → IsSaid shown input here text says v
      → IsTextPart job input (point_of job name x mid.counts) (record { front = f.front; text = text; says = says; behind = v })
  part_of text says v is =
      let same : here ≡ passed_to (point_of job name x mid.counts) f.front y.turn =
      λ i. record { name = name; limits = job.limits; offset = f.advances.offset i; place = f.advances.place i; turn = y.turn; counts = mid.counts } in
      record { between = y.turn; fronts = f.turns; is = subst (λ (q : TextPoint). IsSaid shown input q text says v) same is }

  -- the text is in front of the input, after what is before it
  front_text : (text : List ℕ) → HasFront (ahead_of y.window) text → IfSome input (λ s. HasFront s (bytes_of_texts g.ps ++ (f.front ++ text)))
  front_text text (rest, split) =
      let both = subst (Consumes input r') (ap (λ l. before ++ l) split ∙ sym (append_assoc before text rest)) read_found in
      subst (λ l. IfSome input (λ s. HasFront s l)) (append_assoc (bytes_of_texts g.ps) f.front text) (front_of input r' (before ++ text) rest both)

  -- a whole text with nothing after it
  completed_whole : (text : List ℕ) (says : Said) (v : Turn) → HasFront (ahead_of y.window) text → IsSaid shown input here text says v
      → Completes job input (bytes_of_texts g.ps) (point_of job name x mid.counts) f.front text says
  completed_whole text says v front is =
      let same : text ≡ text ++ [] = sym (append-nil text) in (
        [],
        v,
        part_of (text ++ []) says v (subst (λ l. IsSaid shown input here l says v) same is),
        front_text (text ++ []) (subst (HasFront (ahead_of y.window)) same front),
      )

  -- and with what is passed over after it, where it is no whole one
  completed : (what : Went) (text : List ℕ) (says : Said) (v : Turn) → HasFront (ahead_of y.window) text
      → Becomes shown here (ahead_of y.window) told what text says v → Completes job input (bytes_of_texts g.ps) (point_of job name x mid.counts) f.front text says
  completed went.Document text (said bytes) v front is = completed_whole text (said bytes) v front is
  completed went.Document text (refused line) v front is = absurd is
  completed went.Refused text (said bytes) v front is = absurd is
  completed went.Refused text (refused line) v front is = completed_whole text (refused line) v front (inl is)
  completed went.Astray text (said bytes) v front is = absurd is
  completed went.Astray text (refused line) v front is =
      let h = gap_behind input r' before (ahead_of y.window) text here far_found read_found front in
      let astray = astray_of r' before here far_found read_found f.is h.gap h.behind is h.none h.next h.ends in (
        h.gap,
        h.behind,
        part_of (text ++ h.gap) (refused line) h.behind (inr astray),
        subst (λ l. IfSome input (λ s. HasFront s l)) (append_assoc (bytes_of_texts g.ps) f.front (text ++ h.gap)) h.in_front,
      )

  -- a run that fails, and of what is next a front was played
  pub halts_next : {new : Held} → HaltsText job name told y mid new → HaltsTexts job name input old new
  halts_next (inl none) = record { ps = g.ps; parts = g.has.parts; in_front = g.has.in_front; es = []; next = inl refl; played = played_on g.has.played none }
  halts_next (inr (what, v, part, (es, played, inl none))) =
      record { ps = g.ps; parts = g.has.parts; in_front = g.has.in_front; es = es; next = inl none; played = played_on g.has.played played }
  halts_next (inr (what, v, part, (es, played, inr begun))) =
      let (gap, behind, next, there) = completed what part.text part.says v part.front part.is in
      let last : TextPart = record { front = f.front; text = part.text ++ gap; says = part.says; behind = behind } in
      record {
        ps = g.ps;
        parts = g.has.parts;
        in_front = g.has.in_front;
        es = es;
        next = inr (last, parts_more g last next, subst (λ l. IfSome input (λ s. HasFront s l)) (one_more bytes_of g.ps last) there, begun);
        played = played_on g.has.played played;
      }

  module _ {z : Cursor} {new : Held} {what : Went} (p : PassesText job name told y z mid new what) where
    over_text : Advances r r' x z (f.front ++ p.part.text)
    over_text = advances_more r r' x y z f.front p.part.text f.advances p.window p.ahead p.place p.offset

    -- it is the last part
    last_part : (q : TextPart) × (q.says ≡ p.part.says) × HasTexts job name input old new (g.ps ++ q ∷ [])
    last_part =
        let (gap, behind, next, there) = completed what p.part.text p.part.says z.turn (ahead_of z.window, p.ahead) p.part.is in
        let part : TextPart = record { front = f.front; text = p.part.text ++ gap; says = p.part.says; behind = behind } in
        (part, refl, has_more g part next there p.played)

    -- it has a fault, and the run stops after it
    pub stops_fault : (left : Option (List ℕ)) → (what ≢ went.Document) × (job.keep_going ≡ false) → PassesTexts job name input left old new how.Cut
    stops_fault left (other, asked) =
        let (q, same, h) = last_part in
        record {
          ps = g.ps ++ q ∷ [];
          parts = h.parts;
          ends = h.in_front;
          stops = (asked, (g.ps, q, refl, subst IsFault (sym same) (fault_of shown here (ahead_of y.window) told what p.part.text p.part.says z.turn p.part.is other)));
          played = h.played;
        }

    -- reading fails after it
    pub fails_behind : (r'' : Option (List ℕ)) (q : Cursor) (e : Ended) → (what ≡ went.Document) ⊎ (job.keep_going ≡ true) → GoesOnTo r' r'' z q
        → FailsAt (q.window.offset + length (ahead_of q.window)) e → PassesTexts job name input r'' old new e
    fails_behind r'' q e asked goes is =
        let (part, same, h) = last_part in
        let on : GoesOn job.keep_going part.says =
        subst (GoesOn job.keep_going) (sym same) (on_of shown here (ahead_of y.window) told what p.part.text p.part.says z.turn job.keep_going p.part.is asked) in
        fails_at e h (go_more job.keep_going g.ps part g.all on) (at_more input r' r'' z q (at_more input r r' x z (at_of g) (f.front ++ p.part.text, over_text)) goes) is

    -- or writing does
    pub halts_passed : HaltsTexts job name input old new
    halts_passed = let (part, same, h) = last_part in halts_has h

    -- nothing is passed after it
    goes_whole : GoesOn job.keep_going p.part.says → IsSaid shown input here p.part.text p.part.says z.turn → GoesOnBehind job name input r' old new z
    goes_whole on is =
        let part : TextPart = record { front = f.front; text = p.part.text; says = p.part.says; behind = z.turn } in
        goes_more g part (part_of p.part.text p.part.says z.turn is) over_text p.played on refl

    -- bytes are
    goes_gap : (r'' : Option (List ℕ)) (q : Cursor) (line : List ℕ) → p.part.says ≡ refused line → IsBegun shown here (ahead_of y.window) told p.part.text line z.turn → PassesGap r' r'' z q
        → job.keep_going ≡ true → GoesOnBehind job name input r'' old new q
    goes_gap r'' q line says is over asked =
        let text = p.part.text ++ over.gap in
        let part : TextPart = record { front = f.front; text = text; says = refused line; behind = q.turn } in
        let none : HasNoLine (position_over y.place p.part.text) over.gap = subst (λ l. HasNoLine l over.gap) p.place over.none in
        let there : q.place ≡ position_over y.place text =
        over.advances.place ∙ ap (λ l. position_over l over.gap) p.place ∙ sym (position_on y.place p.part.text over.gap) in
        let both = subst (Advances r r'' x q) (append_assoc f.front p.part.text over.gap) (advances_on r r' r'' x z q (f.front ++ p.part.text) over.gap over_text over.advances) in
        let read = subst (Consumes input r'') (ap (λ l. bytes_of_texts g.ps ++ l) (append_assoc f.front text (ahead_of q.window))
        ∙ sym (append_assoc (bytes_of_texts g.ps) f.front (text ++ ahead_of q.window)) ∙ sym (append_assoc before text (ahead_of q.window)))
        (read_behind (bytes_of_texts g.ps) (ahead_of x.window) ((f.front ++ text) ++ ahead_of q.window) input r r'' g.is_read both.is_read) in
        let size : length (before ++ text) ≡ length before + length text = length-append before text in
        let end : y.window.offset + length text ≡ length (before ++ text) = ap (λ n. n + length text) far_found ∙ sym size in
        let next : (q.turn ≡ turn_after_gap y.turn) ⊎ (q.turn ≡ turn.Last) = elim over.ends [ inl on ↦ inl (on.0 ∙ is.next) | inr last ↦ inr last.0 ] in
        let ends = behind_of input r'' (before ++ text) (ahead_of q.window) (λ l. EndsGap (position_over y.place text) (turn_after_gap y.turn) l q.turn) read
        (λ rest done. gap_ends r'' z q (position_over y.place text) y.turn rest done is.next there over.ends) (y.window.offset + length text) end in
        let astray = astray_of r' before here far_found read_found f.is over.gap q.turn is none next ends in
        let played : Played (events_of (refused line)) mid new = subst (λ (s : Said). Played (events_of s) mid new) says p.played in
        goes_more g part (part_of text (refused line) q.turn (inr astray)) both played asked refl

pub same_behind : {job : TextJob} {name : List ℕ} {input r r' : Option (List ℕ)} {old new : Held} {x y : Cursor} → (r' ≡ r) × (y ≡ x) → GoesOnBehind job name input r old new x
    → GoesOnBehind job name input r' old new y
same_behind {job = job} {name = name} {input = input} {r = r} {old = old} {new = new} {y = y} (read, same) g =
    subst (λ l. GoesOnBehind job name input l old new y) (sym read) (subst (λ l. GoesOnBehind job name input r old new l) (sym same) g)

module _ {job : TextJob} {name : List ℕ} {input r r' : Option (List ℕ)} {old mid new : Held} {x y z : Cursor} {told : NextText}
    (g : GoesOnBehind job name input r old mid x) (f : FindsText r r' x y told) where
  -- a whole text is passed
  goes_on_whole : (what : Went) → PassesText job name told y z mid new what → (what ≡ went.Astray → ⊥)
      → (what ≡ went.Document) ⊎ (job.keep_going ≡ true) → GoesOnBehind job name input r' old new z
  goes_on_whole what p whole asked =
      let on = on_of (shown g f) (here g f) (ahead_of y.window) told what p.part.text p.part.says z.turn job.keep_going p.part.is asked in
      goes_whole g f p on (said_of (shown g f) input (here g f) (ahead_of y.window) told what p.part.text p.part.says z.turn whole p.part.is)

  -- what is next is passed, and the bytes after it
  pub goes_next : (what : Went) (r'' : Option (List ℕ)) (q : Cursor) → PassesText job name told y z mid new what
      → PassesBehind what r' r'' z q → (what ≡ went.Document) ⊎ (job.keep_going ≡ true) → GoesOnBehind job name input r'' old new q
  goes_next went.Document r'' q p same asked = same_behind same (goes_on_whole went.Document p (λ other. let none : ⊥ = cc in none) asked)
  goes_next went.Refused r'' q p same asked = same_behind same (goes_on_whole went.Refused p (λ other. let none : ⊥ = cc in none) asked)
  goes_next went.Astray r'' q p over (inl other) = let none : ⊥ = cc in absurd none
  goes_next went.Astray r'' q p over (inr asked) =
      let (line, says, is) = begun_of (shown g f) (here g f) (ahead_of y.window) told p.part.text p.part.says z.turn p.part.is in
      goes_gap g f p r'' q line says is over asked

pub window_behind : (what : Went) (r r' : Option (List ℕ)) (z q : Cursor) → PassesBehind what r r' z q → IsWindow z.window → IsWindow q.window
window_behind went.Document r r' z q (read, same) is = subst (λ (l : Cursor). IsWindow l.window) (sym same) is
window_behind went.Refused r r' z q (read, same) is = subst (λ (l : Cursor). IsWindow l.window) (sym same) is
window_behind went.Astray r r' z q over is = over.advances.window

-- the input is at its end
whole_of : (input r : Option (List ℕ)) (bytes front ahead : List ℕ) → Consumes input r (bytes ++ (front ++ ahead)) → ahead ≡ [] → IsAtEnd r → IfSome input (λ s. s ≡ bytes ++ front)
whole_of None r bytes front ahead read none end = tt
whole_of (Some s) None bytes front ahead read none end = absurd read
whole_of (Some s) (Some rest) bytes front ahead read none end =
    read ∙ ap (λ l. (bytes ++ (front ++ ahead)) ++ l) end ∙ append-nil _ ∙ ap (λ l. bytes ++ (front ++ l)) none ∙ ap (λ l. bytes ++ l) (append-nil front)

some_of : (input : Option (List ℕ)) (P Q : List ℕ → Type 0) → ((s : List ℕ) → P s → Q s) → IfSome input P → IfSome input Q
some_of None P Q is h = tt
some_of (Some s) P Q is h = is s h

module _ {job : TextJob} {name : List ℕ} {input r : Option (List ℕ)} {old new : Held} {x : Cursor} (g : GoesOnBehind job name input r old new x) where
  -- a run in which reading fails
  pub fails_here : (r' : Option (List ℕ)) (y : Cursor) (e : Ended) → GoesOnTo r r' x y → FailsAt (y.window.offset + length (ahead_of y.window)) e → PassesTexts job name input r' old new e
  fails_here r' y e goes is = fails_at e g.has g.all (at_more input r r' x y (at_of g) goes) is

  -- one that comes to the end of the input
  pub stops_end : (r' : Option (List ℕ)) (y : Cursor) → FindsText r r' x y next.End → PassesTexts job name input r' old new how.Whole
  stops_end r' y f =
      let bytes = bytes_of_texts g.ps in
      let read = read_behind bytes (ahead_of x.window) (f.front ++ ahead_of y.window) input r r' g.is_read f.advances.is_read in
      let same : x.turn ≡ turn_after turn.First g.ps = ap (λ (q : TextPoint). q.turn) g.to ∙ turn_of (first_point job name old.counts) g.ps in
      let turns = subst (λ (l : Turn). IsBetween l f.front y.turn) same f.turns in
      record {
        ps = g.ps;
        parts = g.has.parts;
        ends = some_of input (λ s. s ≡ bytes ++ f.front) (EndsTexts how.Whole g.ps r') (λ s same. (f.front, y.turn, same, turns, f.is.0, f.is.2))
            (whole_of input r' bytes f.front (ahead_of y.window) read f.is.1 f.is.2);
        stops = last_of job.keep_going g.ps g.all;
        played = g.has.played;
      }

  -- one that fails, and writes nothing more
  pub halts_here : HaltsTexts job name input old new
  halts_here = halts_has g.has

-- nothing is read
pub texts_first : (job : TextJob) (name : List ℕ) (input : Option (List ℕ)) (old : Held) → HaltsTexts job name input old old
texts_first job name None old = record { ps = []; parts = tt; in_front = tt; es = []; next = inl refl; played = played_none refl }
texts_first job name (Some s) old = record { ps = []; parts = tt; in_front = (s, refl); es = []; next = inl refl; played = played_none refl }
