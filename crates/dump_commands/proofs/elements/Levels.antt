-- What is left to list of the levels of a document, of which some wait.
use Rattle.std.proofs.Common.{◌≡◌, ◌≢◌, ◌+◌, ◌-◌, ◌<◌, ℕ, suc, zero, List, [], ◌∷◌, ◌++◌, Option, None, Some, Ok, Err, codes, drop, length, length-append, length-drop, arith, ap, sym, ◌∙◌, subst, refl, inl, inr, append_assoc, append-nil}
use Rattle.std.specs.Prelude.{◌⊎◌, sum_by}
use Rattle.std.proofs.lemmas.List.Sums.{sum_by_push}
use Rattle.std.specs.Io.KnownBytes.{Appends}
use Rattle.std.proofs.KnownBytes.{Appends-nil, Appends-trans}
use Rattle.std.specs.Option.{option_copied}
use Rattle.raw_tree.proofs.Face.{held_holds, nested_beside}
use Rattle.raw_view.specs.Document.{bytes_of}
use Rattle.raw_view.specs.Frame.{Frame, IsWalk, LeadsTo, End, Done, Stopped}
use Rattle.raw_view.specs.Frame.ElementSteps.{frame_of}
use Rattle.raw_view.specs.Frame.Front.{StepsFront}
use Rattle.raw_view.specs.Meaning.{RawValue}
use Rattle.raw_view.specs.Meaning.Value.{HoldsLevel, holding}
use Rattle.raw_view.specs.declared.element.RawElement.{RawElement}
use Rattle.raw_view.specs.declared.error.BorrowedError.{BorrowedError}
use Rattle.raw_view.specs.declared.level.Holder.{Holder}
use Rattle.raw_view.specs.declared.level.RawLevel.{RawLevel}
use Rattle.raw_view.proofs.Face.{IsFrame-shorter, stop_said}
use Rattle.dump_io.specs.lines.Fronts.{AppendsFront, HasFront}
use Rattle.dump_commands.specs.elements.Listing.{HasLinesFront, HasNextFront, Lists, ListsEnd, ListsFrame, ListsFrames, ListsInside, ListsNext, TellsElement, TellsStop, indented}
use Rattle.dump_commands.specs.declared.elements.listing.Next.TheVariants as next

-- the lines of what is left of a level, inside which at most so many are listed; nothing is left after a stop
abbrev pub ListsLeft : ℕ → ℕ → Option (List ℕ) → List ℕ → Type 0
ListsLeft n depth None text = text ≡ []
ListsLeft n depth (Some s) text =
    (frames : List Frame) × (end : End) × (elements last : List ℕ) × IsWalk s frames end × ListsFrames (Lists n (depth + 1)) depth frames elements
    × ListsEnd depth end last × (text ≡ elements ++ last)

-- a front of them
abbrev pub HasLeftFront : ℕ → ℕ → Option (List ℕ) → List ℕ → Type 0
HasLeftFront n depth None text = text ≡ []
HasLeftFront n depth (Some s) text =
    (frames : List Frame) × (left elements last : List ℕ) × LeadsTo s frames left × ListsFrames (Lists n (depth + 1)) depth frames elements
    × HasNextFront (HasLinesFront n (depth + 1)) depth left last × (text ≡ elements ++ last)

-- The lines of what is left of these levels, the outermost first, of which at most so many are listed; those of the innermost come first.
abbrev pub ListsLevels : ℕ → ℕ → List (Option (List ℕ)) → List ℕ → Type 0
ListsLevels n depth [] text = text ≡ []
ListsLevels zero depth (w ∷ ws) text = ⊥
ListsLevels (suc n) depth (w ∷ ws) text = (inner rest : List ℕ) × ListsLevels n (depth + 1) ws inner × ListsLeft n depth w rest × (text ≡ inner ++ rest)

-- a front of them, which ends in a level, after those inside it
abbrev pub HasLevelsFront : ℕ → ℕ → List (Option (List ℕ)) → List ℕ → Type 0
HasLevelsFront n depth [] text = ⊥
HasLevelsFront zero depth (w ∷ ws) text = ⊥
HasLevelsFront (suc n) depth (w ∷ ws) text =
    HasLevelsFront n (depth + 1) ws text
    ⊎ ((inner rest : List ℕ) × ListsLevels n (depth + 1) ws inner × HasLeftFront n depth w rest × (text ≡ inner ++ rest))

-- with this line in front, what lists the new levels lists the old ones
pub record IsAdvance (k here : ℕ) (old new : List (Option (List ℕ))) (line : List ℕ) : Type 0 where
  pub whole : (text : List ℕ) → ListsLevels k here new text → ListsLevels k here old (line ++ text)
  pub front : (text : List ℕ) → HasLevelsFront k here new text → HasLevelsFront k here old (line ++ text)

-- the same within those that wait
module _ {k here : ℕ} {old new : List (Option (List ℕ))} {line : List ℕ} (step : IsAdvance k here old new line) where
  whole_outward : (n depth : ℕ) (ws : List (Option (List ℕ))) (text : List ℕ) → n ≡ length ws + k → here ≡ depth + length ws → ListsLevels n depth (ws ++ new) text
      → ListsLevels n depth (ws ++ old) (line ++ text)
  whole_outward n depth [] text e at h =
      let levels : k ≡ n = omega arith in
      let place : here ≡ depth = omega arith in
      subst (λ (m : ℕ). ListsLevels m depth new text → ListsLevels m depth old (line ++ text)) levels
      (subst (λ (d : ℕ). ListsLevels k d new text → ListsLevels k d old (line ++ text)) place (step.whole text)) h
  whole_outward zero depth (w ∷ ws) text e at h = absurd h
  whole_outward (suc n) depth (w ∷ ws) text e at (inner, rest, levels, left, is) = (
    line ++ inner,
    rest,
    whole_outward n (depth + 1) ws inner (omega arith) (omega arith) levels,
    left,
    ap (λ (x : List ℕ). line ++ x) is ∙ sym (append_assoc line inner rest),
  )

  front_outward : (n depth : ℕ) (ws : List (Option (List ℕ))) (text : List ℕ) → n ≡ length ws + k → here ≡ depth + length ws → HasLevelsFront n depth (ws ++ new) text
      → HasLevelsFront n depth (ws ++ old) (line ++ text)
  front_outward n depth [] text e at h =
      let levels : k ≡ n = omega arith in
      let place : here ≡ depth = omega arith in
      subst (λ (m : ℕ). HasLevelsFront m depth new text → HasLevelsFront m depth old (line ++ text)) levels
      (subst (λ (d : ℕ). HasLevelsFront k d new text → HasLevelsFront k d old (line ++ text)) place (step.front text)) h
  front_outward zero depth (w ∷ ws) text e at h = absurd h
  front_outward (suc n) depth (w ∷ ws) text e at (inl h) = inl (front_outward n (depth + 1) ws text (omega arith) (omega arith) h)
  front_outward (suc n) depth (w ∷ ws) text e at (inr (inner, rest, levels, left, is)) = inr (
    line ++ inner,
    rest,
    whole_outward n (depth + 1) ws inner (omega arith) (omega arith) levels,
    left,
    ap (λ (x : List ℕ). line ++ x) is ∙ sym (append_assoc line inner rest),
  )

-- a front that ends in the innermost levels is one of all
front_inside : (k here : ℕ) (l : List (Option (List ℕ))) (text : List ℕ) → HasLevelsFront k here l text
    → (n depth : ℕ) (ws : List (Option (List ℕ))) → n ≡ length ws + k → here ≡ depth + length ws → HasLevelsFront n depth (ws ++ l) text
front_inside k here l text h n depth [] e at =
    let levels : k ≡ n = omega arith in
    let place : here ≡ depth = omega arith in
    subst (λ (m : ℕ). HasLevelsFront m depth l text) levels (subst (λ (d : ℕ). HasLevelsFront k d l text) place h)
front_inside k here l text h zero depth (w ∷ ws) e at = absurd (omega (arith, e))
front_inside k here l text h (suc n) depth (w ∷ ws) e at = inl (front_inside k here l text h n (depth + 1) ws (omega arith) (omega arith))

-- one level alone
one_level : (m here : ℕ) (l : Option (List ℕ)) (text : List ℕ) → ListsLevels (suc m) here (l ∷ []) text → ListsLeft m here l text
one_level m here l text (inner, rest, none, left, is) = subst (ListsLeft m here l) (sym (is ∙ ap (λ (x : List ℕ). x ++ rest) none)) left

one_front : (m here : ℕ) (l : Option (List ℕ)) (text : List ℕ) → HasLevelsFront (suc m) here (l ∷ []) text → HasLeftFront m here l text
one_front m here l text (inl h) = absurd h
one_front m here l text (inr (inner, rest, none, left, is)) = subst (HasLeftFront m here l) (sym (is ∙ ap (λ (x : List ℕ). x ++ rest) none)) left

pub front_alone : (m here : ℕ) (l : Option (List ℕ)) (text : List ℕ) → HasLeftFront m here l text → HasLevelsFront (suc m) here (l ∷ []) text
front_alone m here l text h = inr ([], text, refl, h, refl)

-- what is written, and what is after it
pub record IsListing (n depth : ℕ) (d : List ℕ) (levels : List (Option (List ℕ))) (old out : Option (List ℕ)) : Type 0 where
  pub written : List ℕ
  pub whole : (text : List ℕ) → ListsLevels n depth levels text → Lists n depth d (written ++ text)
  pub front : (text : List ℕ) → HasLevelsFront n depth levels text → HasLinesFront n depth d (written ++ text)
  pub put : Appends old out written

listing_begins : (n depth : ℕ) (d : List ℕ) (out : Option (List ℕ)) → IsListing (suc n) depth d (Some (drop 4 d) ∷ []) out out
listing_begins n depth d out = record {
  written = [];
  whole = λ text h. one_level n depth (Some (drop 4 d)) text h;
  front = λ text h. one_front n depth (Some (drop 4 d)) text h;
  put = Appends-nil out;
}

module _ {n depth : ℕ} {d : List ℕ} {a b : Option (List ℕ)} where
  listing_goes : {k here : ℕ} {old new : List (Option (List ℕ))} {line : List ℕ} (ws : List (Option (List ℕ))) (c : Option (List ℕ)) → n ≡ length ws + k
      → here ≡ depth + length ws → IsAdvance k here old new line → IsListing n depth d (ws ++ old) a b → Appends b c line → IsListing n depth d (ws ++ new) a c
  listing_goes {k} {here} {old} {new} {line} ws c e at step is put = record {
    written = is.written ++ line;
    whole = λ text h. subst (Lists n depth d) (sym (append_assoc is.written line text)) (is.whole (line ++ text) (whole_outward step n depth ws text e at h));
    front = λ text h. subst (HasLinesFront n depth d) (sym (append_assoc is.written line text))
        (is.front (line ++ text) (front_outward step n depth ws text e at h));
    put = Appends-trans a b c is.written line is.put put;
  }

  listing_ends : IsListing n depth d [] a b → (text : List ℕ) × Lists n depth d text × Appends a b text
  listing_ends is = (is.written, subst (Lists n depth d) (append-nil is.written) (is.whole [] refl), is.put)

  listing_fails : (k here : ℕ) (l ws : List (Option (List ℕ))) (text : List ℕ) (c : Option (List ℕ)) → n ≡ length ws + k → here ≡ depth + length ws
      → IsListing n depth d (ws ++ l) a b → HasLevelsFront k here l text → Appends b c text → (lines : List ℕ) × HasLinesFront n depth d lines × Appends a c lines
  listing_fails k here l ws text c e at is h put =
      (is.written ++ text, is.front text (front_inside k here l text h n depth ws e at), Appends-trans a b c is.written text is.put put)

-- lines of an element

module _ (Nested : List ℕ → List ℕ → Type 0) where
  -- the lines of the level that is held, if one is
  abbrev pub ListsHeld : Option RawLevel → List ℕ → Type 0
  ListsHeld None text = text ≡ []
  ListsHeld (Some x) text = Nested (bytes_of x.document) text

  inside_holding : (h : Holder) (d text : List ℕ) → Nested d text → ListsInside Nested (holding h d) text
  inside_holding h d text t = grind arith

  inside_held : (v : RawValue) (x : Option RawLevel) (text : List ℕ) → HoldsLevel v x → ListsHeld x text → ListsInside Nested v text
  inside_held v None text single t = grind arith
  inside_held v (Some x) text h t = rw h (inside_holding x.holder (bytes_of x.document) text t)

  frame_lines : (depth : ℕ) (f : Frame) (line : List ℕ) (x : Option RawLevel) (text : List ℕ) → TellsElement depth f line x → ListsHeld x text
      → ListsFrame Nested depth f (line ++ text)
  frame_lines depth f line x text (inl (v, shown, means, shows, holds, is)) held =
      inl (v, shown, text, means, shows, inside_held v x text holds held, ap (λ (y : List ℕ). y ++ text) is)
  frame_lines depth f line x text (inr (fault, shown, means, says, none, is)) held =
      let nothing : text ≡ [] = subst (λ (y : Option RawLevel). ListsHeld y text) none held in
      inr (fault, shown, means, says, ap (λ (y : List ℕ). line ++ y) nothing ∙ append-nil line ∙ is)

  -- of which nothing is written that is inside
  frame_line : (depth : ℕ) (f : Frame) (line : List ℕ) (x : Option RawLevel) → TellsElement depth f line x → ListsHeld x [] → ListsFrame Nested depth f line
  frame_line depth f line x tells held = subst (ListsFrame Nested depth f) (append-nil line) (frame_lines depth f line x [] tells held)

-- of each level nothing is a front
no_lines : (n depth : ℕ) (b : List ℕ) → HasLinesFront n depth b []
no_lines zero depth b = (_, refl)
no_lines (suc n) depth b = ([], drop 4 b, [], [], refl, refl, inl refl, refl)

pub front_nothing : (m here : ℕ) (left : Option (List ℕ)) → HasLeftFront m here left []
front_nothing m here None = refl
front_nothing m here (Some s) = ([], s, [], [], refl, refl, inl refl, refl)

-- steps over elements

-- an element more, in front of others and of what is after them
module _ (m here : ℕ) (E : Type 0) (Goes : List ℕ → List Frame → E → Type 0) (Ends : E → List ℕ → Type 0) where
  abbrev pub HasLines : List ℕ → List ℕ → Type 0
  HasLines s text =
      (frames : List Frame) × (end : E) × (elements last : List ℕ) × Goes s frames end × ListsFrames (Lists m (here + 1)) here frames elements × Ends end last
      × (text ≡ elements ++ last)

  lines_more : (s r : List ℕ) (f : Frame) (lines text : List ℕ)
      → ((fs : List Frame) (end : E) → Goes r fs end → Goes s (f ∷ fs) end) × ListsFrame (Lists m (here + 1)) here f lines → HasLines r text → HasLines s (lines ++ text)
  lines_more s r f lines text (goes, one) (frames, end, elements, last, are, listed, ends, whole) = (
    f ∷ frames,
    end,
    lines ++ elements,
    last,
    goes frames end are,
    (lines, elements, one, listed, refl),
    ends,
    ap (λ (x : List ℕ). lines ++ x) whole ∙ sym (append_assoc lines elements last),
  )

left_more : (m here : ℕ) (left new : Option (List ℕ)) (e : RawElement) (lines text : List ℕ) → StepsFront left (Some (Ok e)) new
    → ListsFrame (Lists m (here + 1)) here (frame_of e) lines → ListsLeft m here new text → ListsLeft m here left (lines ++ text)
left_more m here None new e lines text (none, gone) one h = absurd (cc)
left_more m here (Some s) new e lines text (r, at, is) one h =
    lines_more m here End IsWalk (ListsEnd here) s r (frame_of e) lines text ((λ fs end walk. (r, at, walk)), one) (subst (λ (x : Option (List ℕ)). ListsLeft m here x text) is h)

front_more : (m here : ℕ) (left new : Option (List ℕ)) (e : RawElement) (lines text : List ℕ) → StepsFront left (Some (Ok e)) new
    → ListsFrame (Lists m (here + 1)) here (frame_of e) lines → HasLeftFront m here new text → HasLeftFront m here left (lines ++ text)
front_more m here None new e lines text (none, gone) one h = absurd (cc)
front_more m here (Some s) new e lines text (r, at, is) one h =
    lines_more m here (List ℕ) LeadsTo (HasNextFront (HasLinesFront m (here + 1)) here) s r (frame_of e) lines text ((λ fs left leads. (r, at, leads)), one)
    (subst (λ (x : Option (List ℕ)). HasLeftFront m here x text) is h)

-- a front of the lines of the element
front_within : (m here : ℕ) (left new : Option (List ℕ)) (e : RawElement) (lines text : List ℕ) → StepsFront left (Some (Ok e)) new
    → ListsFrame (HasLinesFront m (here + 1)) here (frame_of e) lines → HasFront lines text → HasLeftFront m here left text
front_within m here None new e lines text (none, gone) one front = absurd (cc)
front_within m here (Some s) new e lines text (r, at, is) one front = ([], s, [], text, refl, refl, inr (inl (frame_of e, r, lines, at, one, front)), refl)

-- stops

left_stop : (m here : ℕ) (left new : Option (List ℕ)) (e : BorrowedError) (line text : List ℕ) → StepsFront left (Some (Err e)) new → TellsStop here e line
    → ListsLeft m here new text → ListsLeft m here left (line ++ text)
left_stop m here None new e line text (none, gone) tells h = absurd (cc)
left_stop m here (Some s) new e line text (stops, gone) (reading, is) h =
    let (fault, says, stop) = stop_said e.kind (option_copied e.key) s stops in
    let none : text ≡ [] = subst (λ (x : Option (List ℕ)). ListsLeft m here x text) gone h in
    ([], Stopped fault (option_copied e.key), [], line, stop, refl, (_, (e.kind, says, reading, refl), is), ap (λ (x : List ℕ). line ++ x) none ∙ append-nil line)

front_stop : (m here : ℕ) (left new : Option (List ℕ)) (e : BorrowedError) (line text : List ℕ) → StepsFront left (Some (Err e)) new → TellsStop here e line
    → HasFront line text → HasLeftFront m here left text
front_stop m here None new e line text (none, gone) tells front = absurd (cc)
front_stop m here (Some s) new e line text (stops, gone) (reading, is) (behind, whole) =
    let (fault, says, stop) = stop_said e.kind (option_copied e.key) s stops in
    ([], s, [], text, refl, refl, inr (inr (fault, option_copied e.key, _, stop, (e.kind, says, reading, refl), (behind, sym is ∙ whole))), refl)

-- nothing is after the line of a stop
stop_whole : (m here : ℕ) (left new : Option (List ℕ)) (e : BorrowedError) (line text : List ℕ) → StepsFront left (Some (Err e)) new → TellsStop here e line
    → HasLeftFront m here new text → HasLeftFront m here left (line ++ text)
stop_whole m here None new e line text (none, gone) tells h = absurd (cc)
stop_whole m here (Some s) new e line text (stops, gone) tells h =
    let none : text ≡ [] = subst (λ (x : Option (List ℕ)). HasLeftFront m here x text) gone h in
    front_stop m here (Some s) new e line (line ++ text) (stops, gone) tells ([], sym (append-nil (line ++ text) ∙ ap (λ (x : List ℕ). line ++ x) none ∙ append-nil line))

-- steps of the loop

module _ (here : ℕ) (left new : Option (List ℕ)) (line : List ℕ) where
  ended_level : (m : ℕ) (old : Option (List ℕ)) → StepsFront old None new → ListsLeft m here old []
  ended_level m None steps = refl
  ended_level m (Some s) (final, same) = ([], Done, [], [], final, refl, refl, refl)

  pub advance_end : (m : ℕ) → ListsNext here left new line next.End → IsAdvance (suc m) here (left ∷ []) [] []
  advance_end m steps = record {
    whole = λ text h. ([], [], refl, ended_level m left steps, h);
    front = λ text h. absurd h;
  }

  line_whole : (m : ℕ) → ListsNext here left new line next.Line → (text : List ℕ) → ListsLeft m here new text → ListsLeft m here left (line ++ text)
  line_whole m (inl (e, steps, tells)) text h = left_more m here left new e line text steps (frame_line (Lists m (here + 1)) here (frame_of e) line None tells refl) h
  line_whole m (inr (e, steps, tells)) text h = left_stop m here left new e line text steps tells h

  line_more : (m : ℕ) → ListsNext here left new line next.Line → (text : List ℕ) → HasLeftFront m here new text → HasLeftFront m here left (line ++ text)
  line_more m (inl (e, steps, tells)) text h = front_more m here left new e line text steps (frame_line (Lists m (here + 1)) here (frame_of e) line None tells refl) h
  line_more m (inr (e, steps, tells)) text h = stop_whole m here left new e line text steps tells h

  pub advance_line : (m : ℕ) → ListsNext here left new line next.Line → IsAdvance (suc m) here (left ∷ []) (new ∷ []) line
  advance_line m is = record {
    whole = λ text h. ([], line ++ text, refl, line_whole m is text (one_level m here new text h), refl);
    front = λ text h. front_alone m here left (line ++ text) (line_more m is text (one_front m here new text h));
  }

  -- a front of the line
  pub line_front : (m : ℕ) (text : List ℕ) → ListsNext here left new line next.Line → HasFront line text → HasLeftFront m here left text
  line_front m text (inl (e, steps, tells)) front = front_within m here left new e line text steps (frame_line (HasLinesFront m (here + 1)) here (frame_of e) line None tells refl) front
  line_front m text (inr (e, steps, tells)) front = front_stop m here left new e line text steps tells front

  -- a level is inside
  module _ (inner : RawLevel) (is : ListsNext here left new line (next.Inside inner)) where
    inside_lines : (Nested : List ℕ → List ℕ → Type 0) (text : List ℕ) → Nested (bytes_of inner.document) text → ListsFrame Nested here (frame_of is.0) (line ++ text)
    inside_lines Nested text h = frame_lines Nested here (frame_of is.0) line (Some inner) text is.2 h

    pub inside_front : (m : ℕ) (text : List ℕ) → HasFront line text → HasLeftFront m here left text
    inside_front m text front = front_within m here left new is.0 line text is.1
        (frame_line (HasLinesFront m (here + 1)) here (frame_of is.0) line (Some inner) is.2 (no_lines m (here + 1) (bytes_of inner.document))) front

    -- after the line, a front of those inside
    pub inside_more : (m : ℕ) (text : List ℕ) → HasLinesFront m (here + 1) (bytes_of inner.document) text → HasLeftFront m here left (line ++ text)
    inside_more m text h = front_within m here left new is.0 (line ++ text) (line ++ text) is.1 (inside_lines (HasLinesFront m (here + 1)) text h) ([], sym (append-nil (line ++ text)))

    -- none of which is listed
    pub advance_deep : IsAdvance 1 here (left ∷ []) (new ∷ []) (line ++ indented (here + 1) (codes "too deep"))
    advance_deep =
        let deep = indented (here + 1) (codes "too deep") in
        let lines = inside_lines (Lists 0 (here + 1)) deep refl in
        record {
          whole = λ text h. ([], (line ++ deep) ++ text, refl, left_more 0 here left new is.0 (line ++ deep) text is.1 lines (one_level 0 here new text h), refl);
          front = λ text h. front_alone 0 here left ((line ++ deep) ++ text) (front_more 0 here left new is.0 (line ++ deep) text is.1 lines (one_front 0 here new text h));
        }

    enter_front : (m : ℕ) (text : List ℕ) → HasLevelsFront (suc (suc m)) here (new ∷ Some (drop 4 (bytes_of inner.document)) ∷ []) text
        → HasLevelsFront (suc (suc m)) here (left ∷ []) (line ++ text)
    enter_front m text (inl h) =
        front_alone (suc m) here left (line ++ text) (inside_more (suc m) text (one_front m (here + 1) (Some (drop 4 (bytes_of inner.document))) text h))
    enter_front m text (inr (a, rest, levels, h, whole)) =
        let lines = inside_lines (Lists (suc m) (here + 1)) a (one_level m (here + 1) (Some (drop 4 (bytes_of inner.document))) a levels) in
        inr (
          [],
          (line ++ a) ++ rest,
          refl,
          front_more (suc m) here left new is.0 (line ++ a) rest is.1 lines h,
          ap (λ (x : List ℕ). line ++ x) whole ∙ sym (append_assoc line a rest),
        )

    enter_whole : (m : ℕ) (text : List ℕ) → ListsLevels (suc (suc m)) here (new ∷ Some (drop 4 (bytes_of inner.document)) ∷ []) text
        → ListsLevels (suc (suc m)) here (left ∷ []) (line ++ text)
    enter_whole m text (a, rest, levels, h, whole) =
        let lines = inside_lines (Lists (suc m) (here + 1)) a (one_level m (here + 1) (Some (drop 4 (bytes_of inner.document))) a levels) in (
          [],
          (line ++ a) ++ rest,
          refl,
          left_more (suc m) here left new is.0 (line ++ a) rest is.1 lines h,
          ap (λ (x : List ℕ). line ++ x) whole ∙ sym (append_assoc line a rest),
        )

    pub advance_inside : (m : ℕ) → IsAdvance (suc (suc m)) here (left ∷ []) (new ∷ Some (drop 4 (bytes_of inner.document)) ∷ []) line
    advance_inside m = record {
      whole = λ text h. enter_whole m text h;
      front = λ text h. enter_front m text h;
    }

-- how much is left of a level

abbrev pub size_left : Option (List ℕ) → ℕ
size_left None = 0
size_left (Some s) = suc (length s)

-- of those that wait
abbrev pub size_waiting : List (Option (List ℕ)) → ℕ
size_waiting ws = sum_by (λ w. size_left w + 1) ws

element_less : (left new : Option (List ℕ)) (e : RawElement) → StepsFront left (Some (Ok e)) new → size_left new < size_left left
element_less None new e (none, gone) = absurd (cc)
element_less (Some s) new e (r, at, is) = rw is (omega (arith, IsFrame-shorter s (frame_of e) r at))

stop_less : (left new : Option (List ℕ)) (e : BorrowedError) → StepsFront left (Some (Err e)) new → size_left new < size_left left
stop_less None new e (none, gone) = absurd (cc)
stop_less (Some s) new e (stops, gone) = rw gone (omega arith)

pub line_less : (here : ℕ) (left new : Option (List ℕ)) (line : List ℕ) → ListsNext here left new line next.Line → size_left new < size_left left
line_less here left new line (inl (e, steps, tells)) = element_less left new e steps
line_less here left new line (inr (e, steps, tells)) = stop_less left new e steps

pub inside_less : (here : ℕ) (left new : Option (List ℕ)) (line : List ℕ) (x : RawLevel) → ListsNext here left new line (next.Inside x) → size_left new < size_left left
inside_less here left new line x (e, steps, tells) = element_less left new e steps

enter_less : (here : ℕ) (left new : Option (List ℕ)) (e : RawElement) (line : List ℕ) (x : RawLevel) → StepsFront left (Some (Ok e)) new
    → TellsElement here (frame_of e) line (Some x) → size_left (Some (drop 4 (bytes_of x.document))) + size_left new + 1 < size_left left
enter_less here None new e line x (none, gone) tells = absurd (cc)
enter_less here (Some s) new e line x (r, at, is) (inl (v, shown, means, shows, holds, it)) =
    let d = bytes_of x.document in
    rw is (omega (arith, nested_beside s (frame_of e) r v d at means (rw holds (held_holds x.holder d)), length-drop 4 d, x.document.envelope.enough))
enter_less here (Some s) new e line x (r, at, is) (inr (fault, shown, means, says, none, it)) = absurd (cc)

pub inside_waits : (here : ℕ) (left new : Option (List ℕ)) (line : List ℕ) (x : RawLevel) (ws : List (Option (List ℕ))) → ListsNext here left new line (next.Inside x)
    → size_left (Some (drop 4 (bytes_of x.document))) + size_waiting (ws ++ new ∷ []) < size_left left + size_waiting ws
inside_waits here left new line x ws (e, steps, tells) =
    omega (arith, enter_less here left new e line x steps tells, sum_by_push (λ (w : Option (List ℕ)). size_left w + 1) ws new)

-- the loop over a document, of which 500 levels are listed: what it keeps, where ws wait and l is the innermost
pub record IsLooping (d : List ℕ) (ws : List (Option (List ℕ))) (l old out : Option (List ℕ)) : Type 0 where
  pub few : length ws < 500
  pub listing : IsListing 500 1 d (ws ++ l ∷ []) old out

pub looping_begins : (d : List ℕ) (out : Option (List ℕ)) → IsLooping d [] (Some (drop 4 d)) out out
looping_begins d out = record { few = omega arith; listing = listing_begins 499 1 d out }

module _ {d : List ℕ} {ws : List (Option (List ℕ))} {l a b : Option (List ℕ)} (is : IsLooping d ws l a b) where
  -- a front of the lines is written
  abbrev pub IsPart : Option (List ℕ) → Type 0
  IsPart c = (lines : List ℕ) × HasLinesFront 500 1 d lines × Appends a c lines

  inside_one : 500 ≡ length ws + suc (499 - length ws)
  inside_one = omega (arith, is.few)

  part_of : (here : ℕ) (text : List ℕ) (c : Option (List ℕ)) → here ≡ 1 + length ws → HasLeftFront (499 - length ws) here l text → Appends b c text → IsPart c
  part_of here text c at h put =
      listing_fails (suc (499 - length ws)) here (l ∷ []) ws text c inside_one at is.listing (front_alone (499 - length ws) here l text h) put

  -- no line is made
  pub part_before : IsPart b
  part_before = part_of (1 + length ws) [] b refl (front_nothing (499 - length ws) (1 + length ws) l) (Appends-nil b)

  module _ {here : ℕ} (at : here ≡ 1 + length ws) (new : Option (List ℕ)) (line : List ℕ) where
    pub part_line : (c : Option (List ℕ)) → ListsNext here l new line next.Line → AppendsFront b c line → IsPart c
    part_line c tells front = part_of here front.front c at (line_front here l new line (499 - length ws) front.front tells (front.behind, front.whole)) front.put

    pub goes_line : (c : Option (List ℕ)) → ListsNext here l new line next.Line → Appends b c line → IsLooping d ws new a c
    goes_line c tells put = record { few = is.few; listing = listing_goes ws c inside_one at (advance_line here l new line (499 - length ws) tells) is.listing put }

    ended : ListsNext here l new line next.End → IsListing 500 1 d ws a b
    ended tells =
        subst (λ (ls : List (Option (List ℕ))). IsListing 500 1 d ls a b) (append-nil ws)
        (listing_goes ws b inside_one at (advance_end here l new line (499 - length ws) tells) is.listing (Appends-nil b))

    pub goes_outward : (others : List (Option (List ℕ))) (outer : Option (List ℕ)) → ListsNext here l new line next.End → ws ≡ others ++ outer ∷ [] → IsLooping d others outer a b
    goes_outward others outer tells are = record {
      few = omega (arith, is.few, ap length are, length-append others (outer ∷ []));
      listing = subst (λ (ls : List (Option (List ℕ))). IsListing 500 1 d ls a b) are (ended tells);
    }

    pub all_listed : ListsNext here l new line next.End → ws ≡ [] → (text : List ℕ) × Lists 500 1 d text × Appends a b text
    all_listed tells none = listing_ends (subst (λ (ls : List (Option (List ℕ))). IsListing 500 1 d ls a b) none (ended tells))

    module _ (x : RawLevel) (tells : ListsNext here l new line (next.Inside x)) where
      pub part_inside : (c : Option (List ℕ)) → AppendsFront b c line → IsPart c
      part_inside c front = part_of here front.front c at (inside_front here l new line x tells (499 - length ws) front.front (front.behind, front.whole)) front.put

      -- the line is written
      module _ (mid : Option (List ℕ)) (put : Appends b mid line) where
        part_more : (text : List ℕ) (c : Option (List ℕ)) → HasLinesFront (499 - length ws) (here + 1) (bytes_of x.document) text → Appends mid c text → IsPart c
        part_more text c h more = part_of here (line ++ text) c at (inside_more here l new line x tells (499 - length ws) text h) (Appends-trans b mid c line text put more)

        pub part_behind : IsPart mid
        part_behind = part_more [] mid (no_lines (499 - length ws) (here + 1) (bytes_of x.document)) (Appends-nil mid)

        pub part_deep : (c : Option (List ℕ)) → here ≡ 500 → AppendsFront mid c (indented (here + 1) (codes "too deep")) → IsPart c
        part_deep c most front =
            let none : 0 ≡ 499 - length ws = omega (arith, at, most) in
            part_more front.front c (subst (λ (m : ℕ). HasLinesFront m (here + 1) (bytes_of x.document) front.front) none (front.behind, front.whole)) front.put

        pub goes_deep : (c : Option (List ℕ)) → here ≡ 500 → Appends mid c (indented (here + 1) (codes "too deep")) → IsLooping d ws new a c
        goes_deep c most deep = record {
          few = is.few;
          listing = listing_goes ws c (omega (arith, at, most)) at (advance_deep here l new line x tells) is.listing
              (Appends-trans b mid c line (indented (here + 1) (codes "too deep")) put deep);
        }

        pub goes_inside : here ≢ 500 → IsLooping d (ws ++ new ∷ []) (Some (drop 4 (bytes_of x.document))) a mid
        goes_inside less = record {
          few = omega (arith, is.few, at, less, length-append ws (new ∷ []));
          listing = subst (λ (ls : List (Option (List ℕ))). IsListing 500 1 d ls a mid) (sym (append_assoc ws (new ∷ []) (Some (drop 4 (bytes_of x.document)) ∷ [])))
              (listing_goes ws mid (omega (arith, is.few, at, less)) at (advance_inside here l new line x tells (498 - length ws)) is.listing put);
        }
