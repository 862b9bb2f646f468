-- Steps over the levels of a document whose bytes are shown.
use Rattle.std.proofs.Common.{◌≡◌, ◌≢◌, ◌+◌, ◌-◌, ◌<◌, ◌≤◌, ℕ, suc, zero, Bool, true, false, List, [], ◌∷◌, ◌++◌, Option, None, Some, Ok, codes, drop, get_or, length, length-append, length-drop, map, take, arith, ap, sym, ◌∙◌, subst, refl, inl, inr, append_assoc, append-nil}
use Rattle.std.proofs.lemmas.List.Sums.{sum_by_push}
use Rattle.std.proofs.Math.Seq.{take-length}
use Rattle.std.specs.Io.KnownBytes.{Appends}
use Rattle.std.proofs.KnownBytes.{Appends-nil, Appends-trans}
use Rattle.raw_tree.proofs.Face.{held_holds, nested_beside}
use Rattle.raw_view.specs.Document.{bytes_of}
use Rattle.raw_view.specs.Frame.{Fault, Frame, HasKey, IsFrame, IsStop, key_not_utf8, no_byte_left, no_payload, no_such_tag, regex_not_utf8}
use Rattle.raw_view.specs.Frame.Format.{tagged}
use Rattle.raw_view.specs.Frame.Kind.{tag_of}
use Rattle.raw_view.specs.Frame.Kind as says
use Rattle.raw_view.specs.Frame.ElementSteps.{frame_of}
use Rattle.raw_view.specs.Frame.Front.{StepsFront, StopsWith}
use Rattle.raw_view.specs.declared.element.RawElement.{RawElement}
use Rattle.raw_view.specs.declared.error.BorrowedError.{BorrowedError}
use Rattle.raw_view.specs.Errors.{IsMalformed}
use Rattle.raw_view.specs.Frame.Envelope.{IsEnvelope, Refuses}
use Rattle.raw_view.specs.declared.error.ErrorKind.{ErrorKind}
use Rattle.raw_view.specs.declared.error.ErrorKind.TheVariants as kind
use Rattle.raw_view.specs.declared.error.Reason.{Reason}
use Rattle.dump_io.specs.lines.Find.{explanation_text, kind_text, reason_explained}
use Rattle.raw_view.specs.Meaning.{RawValue, array, document, scoped, single}
use Rattle.raw_view.specs.Meaning.Value.{HoldsLevel, IsSingle, holding}
use Rattle.bson_model.specs.Bytes.{NulFree}
use Rattle.raw_view.specs.declared.level.Holder.{Holder}
use Rattle.raw_view.specs.declared.level.RawLevel.{RawLevel}
use Rattle.raw_view.proofs.Face.{IsFrame-shorter, stop_key, stop_said}
use Rattle.dump_io.specs.lines.Fronts.{AppendsFront}
use Rattle.dump_commands.specs.declared.elements.page.Page.{Page}
use Rattle.dump_commands.specs.declared.elements.level.Level.{Level}
use Rattle.dump_commands.specs.elements.Runs.{Run, Sheet, Writes, document_lines, fault_run, is_shown, rest_line, run_lines, run_of, sheet_of, shown_end, shown_lines}
use Rattle.dump_commands.specs.elements.Showing.{Extent, Whole, Begun, HasEndRuns, HasFrameRuns, HasInnerRuns, HasLeftRuns, HasRuns, HasStopRuns, TellsFrame, head_runs, key_text, left_in, length_run, payload_runs, refused_runs, sheet_at, ShowsPiece, ShowsPieceFront, value_runs}
use Rattle.dump_commands.specs.elements.ShownLevels.{GoesOn, HaveLevelsRuns, IsPartly, IsShown, IsShownFront, IsWritten, levels_of, page_text, size_left}

-- lines of runs one after the other

module _ (sheet : Sheet) where
  hidden_lines : (at : ℕ) (runs : List Run) → is_shown sheet at ≡ false → shown_lines sheet at runs ≡ []
  hidden_lines at [] h = refl
  hidden_lines at (r ∷ rs) h = rw h refl

  hidden_end : (at : ℕ) (runs : List Run) → is_shown sheet at ≡ false → shown_end sheet at runs ≡ at
  hidden_end at [] h = refl
  hidden_end at (r ∷ rs) h = rw h refl

  lines_case : (at : ℕ) (x : Run) (xs ys : List Run) (is : Bool) → is_shown sheet at ≡ is
      → shown_lines sheet (at + length x.bytes) (xs ++ ys) ≡ shown_lines sheet (at + length x.bytes) xs ++ shown_lines sheet (shown_end sheet (at + length x.bytes) xs) ys
      → shown_lines sheet at (x ∷ (xs ++ ys)) ≡ shown_lines sheet at (x ∷ xs) ++ shown_lines sheet (shown_end sheet at (x ∷ xs)) ys
  lines_case at x xs ys false h so = rw h (sym (hidden_lines at ys h))
  lines_case at x xs ys true h so = rw h (ap (λ (l : List ℕ). run_lines sheet at x ++ l) so ∙ sym (append_assoc (run_lines sheet at x) _ _))

  pub lines_append : (at : ℕ) (xs ys : List Run) → shown_lines sheet at (xs ++ ys) ≡ shown_lines sheet at xs ++ shown_lines sheet (shown_end sheet at xs) ys
  lines_append at [] ys = refl
  lines_append at (x ∷ xs) ys = lines_case at x xs ys (is_shown sheet at) refl (lines_append (at + length x.bytes) xs ys)

  end_case : (at : ℕ) (x : Run) (xs ys : List Run) (is : Bool) → is_shown sheet at ≡ is
      → shown_end sheet (at + length x.bytes) (xs ++ ys) ≡ shown_end sheet (shown_end sheet (at + length x.bytes) xs) ys
      → shown_end sheet at (x ∷ (xs ++ ys)) ≡ shown_end sheet (shown_end sheet at (x ∷ xs)) ys
  end_case at x xs ys false h so = rw h (sym (hidden_end at ys h))
  end_case at x xs ys true h so = rw h so

  pub end_append : (at : ℕ) (xs ys : List Run) → shown_end sheet at (xs ++ ys) ≡ shown_end sheet (shown_end sheet at xs) ys
  end_append at [] ys = refl
  end_append at (x ∷ xs) ys = end_case at x xs ys (is_shown sheet at) refl (end_append (at + length x.bytes) xs ys)

pub writes_none : (page : Page) → Writes page page []
writes_none page = record { text = sym (append-nil page.text.items); at = refl; same = refl }

pub writes_as : (a b : Page) (runs given : List Run) → runs ≡ given → Writes a b runs → Writes a b given
writes_as a b runs given same w = subst (Writes a b) same w

pub writes_more : (a b c : Page) (xs ys : List Run) → Writes a b xs → Writes b c ys → Writes a c (xs ++ ys)
writes_more a b c xs ys v w = record {
  text = w.text ∙ (λ i. v.text i ++ shown_lines (v.same i) (v.at i) ys) ∙ append_assoc a.text.items _ _
      ∙ ap (λ (x : List ℕ). a.text.items ++ x) (sym (lines_append (sheet_of a) a.at xs ys));
  at = w.at ∙ (λ i. shown_end (v.same i) (v.at i) ys) ∙ sym (end_append (sheet_of a) a.at xs ys);
  same = w.same ∙ v.same;
}

-- where a level stops

abbrev pub why_of : BorrowedError → List ℕ
why_of e = codes "damaged: " ++ kind_text e.kind

-- the end of a level that stops with this error
pub ends_stop : (depth : ℕ) (s : List ℕ) (e : BorrowedError) (key : Option (List ℕ)) (runs : List Run) → StopsWith e.kind key s
    → ((fault : Fault) → IsStop s fault key → HasStopRuns depth s key (why_of e) runs) → HasEndRuns depth s runs
ends_stop depth s e key runs stops has =
    let (fault, says, stop) = stop_said e.kind key s stops in
    inr (fault, key, why_of e, stop, (e.kind, says, e.reading, refl), has fault stop)

no_key : (s : List ℕ) (fault : Fault) (key : Option (List ℕ)) → IsStop s fault key → s ≡ [] → key ≡ None
no_key s fault None stop none = refl
no_key s fault (Some key) stop none =
    let bad : tagged (stop_key s fault key stop).tag key (stop_key s fault key stop).behind ≡ [] = sym (stop_key s fault key stop).spelled ∙ none in
    absurd (cc)

pub ends_nothing : (depth : ℕ) (s : List ℕ) (e : BorrowedError) (key : Option (List ℕ)) → StopsWith e.kind key s → s ≡ []
    → HasEndRuns depth s (fault_run depth s (why_of e) ∷ [])
ends_nothing depth s e key stops none =
    ends_stop depth s e key (fault_run depth s (why_of e) ∷ []) stops
    (λ fault stop. subst (λ (k : Option (List ℕ)). HasStopRuns depth s k (why_of e) (fault_run depth s (why_of e) ∷ [])) (sym (no_key s fault key stop none)) (inl (none, refl)))

bad_key_at : (s : List ℕ) (fault : Fault) → IsStop s fault None → s ≢ [] → (key : List ℕ) × HasKey s key
bad_key_at s fault (no_byte_left none a b) more = absurd (more none)
bad_key_at s fault (key_not_utf8 k at u a b) more = (k, at)
bad_key_at s fault (no_such_tag k at u n a b) more = absurd (cc)
bad_key_at s fault (regex_not_utf8 k at u n t a b) more = absurd (cc)
bad_key_at s fault (no_payload k at t why u i n m p a b) more = absurd (cc)

pub bad_key : (s : List ℕ) (e : BorrowedError) → StopsWith e.kind None s → s ≢ [] → (key : List ℕ) × HasKey s key
bad_key s e stops more =
    let (fault, says, stop) = stop_said e.kind None s stops in
    bad_key_at s fault stop more

pub no_value : (s : List ℕ) (e : BorrowedError) (key : List ℕ) → StopsWith e.kind (Some key) s → HasKey s key
no_value s e key stops =
    let (fault, says, stop) = stop_said e.kind (Some key) s stops in
    stop_key s fault key stop

-- a frame that is next

pub next_frame : (left new : Option (List ℕ)) (e : RawElement) (s : List ℕ) → left ≡ Some s → StepsFront left (Some (Ok e)) new → (r : List ℕ) × IsFrame s (frame_of e) r
next_frame left new e s is steps =
    let (r, at, same) = subst (λ (x : Option (List ℕ)). StepsFront x (Some (Ok e)) new) is steps in
    (r, at)

-- a key that is sought

-- of bytes that begin with a key these are left, after some of the key
abbrev pub HasKeyLeft : List ℕ → List ℕ → Type 0
HasKeyLeft bytes rest = (key others : List ℕ) → bytes ≡ key ++ 0 ∷ others → NulFree key → (k : List ℕ) × (rest ≡ k ++ 0 ∷ others) × NulFree k

key_step : (byte : ℕ) (more others k : List ℕ) → byte ∷ more ≡ k ++ 0 ∷ others → NulFree k → byte ≢ 0 → (j : List ℕ) × (more ≡ j ++ 0 ∷ others) × NulFree j
key_step byte more others [] is free one = absurd (one (cc))
key_step byte more others (x ∷ k) is free one = (k, cc, λ i d less. free (suc i) d (omega (arith, less)))

-- what is left after the first byte
abbrev pub behind_first : List ℕ → List ℕ
behind_first rest = take (length rest - 1) (drop 1 rest)

behind_is : (x : ℕ) (xs : List ℕ) → behind_first (x ∷ xs) ≡ xs
behind_is x xs =
    let less : length (x ∷ xs) - 1 ≡ length xs = omega arith in
    rw less (take-length xs)

pub key_goes : (bytes rest : List ℕ) → HasKeyLeft bytes rest → 1 ≤ length rest → (get_or rest 0 0 ≡ 0 → ⊥) → HasKeyLeft bytes (behind_first rest)
key_goes bytes [] left some one key others is free = absurd (omega (arith, some))
key_goes bytes (x ∷ xs) left some one key others is free =
    let (k, rest, none) = left key others is free in
    rw (behind_is x xs) (key_step x xs others k rest none one)

key_at : (byte : ℕ) (more others k : List ℕ) → byte ∷ more ≡ k ++ 0 ∷ others → NulFree k → byte ≡ 0 → more ≡ others
key_at byte more others [] is free nul = cc
key_at byte more others (x ∷ k) is free nul =
    let same : x ≡ 0 = cc in
    absurd (free 0 0 (omega arith) same)

pub key_found : (bytes rest : List ℕ) → HasKeyLeft bytes rest → 1 ≤ length rest → get_or rest 0 0 ≡ 0 → (key others : List ℕ) → bytes ≡ key ++ 0 ∷ others → NulFree key
    → length bytes - length (behind_first rest) ≡ length key + 1
key_found bytes [] left some nul key others is free = absurd (omega (arith, some))
key_found bytes (x ∷ xs) left some nul key others is free =
    let (k, rest, none) = left key others is free in
    let same : xs ≡ others = key_at x xs others k rest none nul in
    omega (arith, ap length is, length-append key (0 ∷ others), ap length same, ap length (behind_is x xs))

pub key_none : (bytes rest : List ℕ) → HasKeyLeft bytes rest → length rest < 1 → (key others : List ℕ) → bytes ≡ key ++ 0 ∷ others → NulFree key → length bytes ≡ length key + 1
key_none bytes rest left none key others is free =
    let (k, has, n) = left key others is free in
    absurd (omega (arith, none, ap length has, length-append k (0 ∷ others)))

-- values

pub own_single : (depth : ℕ) (f : Frame) (v : RawValue) (text : List ℕ) → IsSingle v → payload_runs depth f.kind f.payload text ≡ value_runs depth f v text
own_single depth f (single l) text is = refl
own_single depth f (document d) text is = absurd is
own_single depth f (array d) text is = absurd is
own_single depth f (scoped code d) text is = absurd is

-- the runs of a tag and a key that are cut off the bytes

abbrev pub marked : Bool → ℕ → List ℕ → List ℕ → Run
marked is_fault depth bytes text = record { bytes = bytes; depth = depth; is_fault = is_fault; text = text }

pub heads_as : (is_fault : Bool) (depth : ℕ) (f : Frame) (tag key name text : List ℕ) → tag ≡ tag_of f.kind ∷ [] → key ≡ f.key ++ 0 ∷ [] → name ≡ says.kind_text f.kind
    → text ≡ key_text f.key → marked is_fault depth tag name ∷ (run_of depth key text ∷ []) ≡ head_runs is_fault depth f
heads_as is_fault depth f tag key name text t k n w = λ i. marked is_fault depth (t i) (n i) ∷ (run_of depth (k i) (w i) ∷ [])

-- after these runs, what shows the new levels shows the old ones
abbrev pub Advances : ℕ → ℕ → (old new : List (List ℕ)) → List Run → Type 0
Advances k here old new runs = (e : Extent) (rest : List Run) → HaveLevelsRuns e k here new rest → HaveLevelsRuns e k here old (runs ++ rest)

-- the same within those that wait
module _ (k here : ℕ) (old new : List (List ℕ)) (runs : List Run) (step : Advances k here old new runs) where
  inmost : (e : Extent) (n depth : ℕ) (rest : List Run) → (n ≡ k) × (here ≡ depth) → HaveLevelsRuns e n depth new rest → HaveLevelsRuns e n depth old (runs ++ rest)
  inmost e n depth rest (levels, place) h =
      subst (λ (m : ℕ). HaveLevelsRuns e m depth new rest → HaveLevelsRuns e m depth old (runs ++ rest)) (sym levels)
      (subst (λ (d : ℕ). HaveLevelsRuns e k d new rest → HaveLevelsRuns e k d old (runs ++ rest)) place (step e rest)) h

  -- what shows the new levels, within these that wait
  abbrev ShowsAround : Extent → (n depth : ℕ) → (ws : List (List ℕ)) → List Run → Type 0
  ShowsAround e n depth ws rest = (n ≡ length ws + k) × (here ≡ depth + length ws) × HaveLevelsRuns e n depth (ws ++ new) rest

  outward : (e : Extent) (n depth : ℕ) (ws : List (List ℕ)) (rest : List Run) → ShowsAround e n depth ws rest → HaveLevelsRuns e n depth (ws ++ old) (runs ++ rest)
  outward e n depth [] rest (many, at, h) = inmost e n depth rest (omega (arith, many), omega (arith, at)) h
  outward Whole zero depth (w ∷ ws) rest (many, at, h) = absurd h
  outward Begun zero depth (w ∷ ws) rest (many, at, h) = absurd h
  outward Whole (suc n) depth (w ∷ ws) rest (many, at, (inner, last, levels, left, is)) = (
    runs ++ inner,
    last,
    outward Whole n (depth + 1) ws inner (omega (arith, many), omega (arith, at), levels),
    left,
    ap (λ (x : List Run). runs ++ x) is ∙ sym (append_assoc runs inner last),
  )
  outward Begun (suc n) depth (w ∷ ws) rest (many, at, inl h) = inl (outward Begun n (depth + 1) ws rest (omega (arith, many), omega (arith, at), h))
  outward Begun (suc n) depth (w ∷ ws) rest (many, at, inr (inner, last, levels, left, is)) = inr (
    runs ++ inner,
    last,
    outward Whole n (depth + 1) ws inner (omega (arith, many), omega (arith, at), levels),
    left,
    ap (λ (x : List Run). runs ++ x) is ∙ sym (append_assoc runs inner last),
  )

-- one level alone
module _ (m here : ℕ) (s : List ℕ) where
  pub one_level : (e : Extent) (runs : List Run) → HaveLevelsRuns e (suc m) here (s ∷ []) runs → HasLeftRuns (HasRuns m (here + 1)) e here s runs
  one_level Whole runs (inner, rest, none, left, is) =
      subst (HasLeftRuns (HasRuns m (here + 1)) Whole here s) (sym (is ∙ ap (λ (x : List Run). x ++ rest) none)) left
  one_level Begun runs (inl h) = absurd h
  one_level Begun runs (inr (inner, rest, none, left, is)) =
      subst (HasLeftRuns (HasRuns m (here + 1)) Begun here s) (sym (is ∙ ap (λ (x : List Run). x ++ rest) none)) left

  alone : (e : Extent) (runs : List Run) → HasLeftRuns (HasRuns m (here + 1)) e here s runs → HaveLevelsRuns e (suc m) here (s ∷ []) runs
  alone Whole runs left = ([], runs, refl, left, refl)
  alone Begun runs left = inr ([], runs, refl, left, refl)

-- of levels nothing may be shown
nothing_left : (n depth : ℕ) (ws : List (List ℕ)) (s : List ℕ) → length ws < n → HaveLevelsRuns Begun n depth (ws ++ s ∷ []) []
nothing_left zero depth ws s few = absurd (omega (arith, few))
nothing_left (suc n) depth [] s few = inr ([], [], refl, ([], s, [], [], refl, refl, inl refl, refl), refl)
nothing_left (suc n) depth (w ∷ ws) s few = inl (nothing_left n (depth + 1) ws s (omega (arith, few)))

-- runs of a frame

module _ (Nested : List ℕ → List Run → Type 0) where
  -- the runs of the level that is held, if one is
  abbrev pub HasHeldRuns : Option RawLevel → List Run → Type 0
  HasHeldRuns None runs = runs ≡ []
  HasHeldRuns (Some x) runs = Nested (bytes_of x.document) runs

  inner_holding : (h : Holder) (d : List ℕ) (runs : List Run) → Nested d runs → HasInnerRuns Nested (holding h d) runs
  inner_holding h d runs t = grind arith

  inner_held : (v : RawValue) (x : Option RawLevel) (runs : List Run) → HoldsLevel v x → HasHeldRuns x runs → HasInnerRuns Nested v runs
  inner_held v None runs h t = grind arith
  inner_held v (Some x) runs h t = rw h (inner_holding x.holder (bytes_of x.document) runs t)

  frame_runs : (depth : ℕ) (f : Frame) (runs : List Run) (x : Option RawLevel) (inner : List Run) → TellsFrame depth f runs x → HasHeldRuns x inner
      → HasFrameRuns Nested depth f (runs ++ inner)
  frame_runs depth f runs x inner (inl (v, shown, means, shows, holds, is)) held =
      inl (v, shown, inner, means, shows, inner_held v x inner holds held, ap (λ (y : List Run). y ++ inner) is)
  frame_runs depth f runs x inner (inr (fault, shown, means, says, none, is)) held =
      let nothing : inner ≡ [] = subst (λ (y : Option RawLevel). HasHeldRuns y inner) none held in
      inr (fault, shown, means, says, ap (λ (y : List Run). runs ++ y) nothing ∙ append-nil runs ∙ is)

  frame_alone : (depth : ℕ) (f : Frame) (runs : List Run) → TellsFrame depth f runs None → HasFrameRuns Nested depth f runs
  frame_alone depth f runs tells = subst (HasFrameRuns Nested depth f) (append-nil runs) (frame_runs depth f runs None [] tells refl)

-- steps in the innermost level, of which s is left, and then t

module _ (here : ℕ) (s : List ℕ) where
  left_end : (m : ℕ) (runs : List Run) → HasEndRuns here s runs → HasLeftRuns (HasRuns m (here + 1)) Whole here s runs
  left_end m runs end = ([], s, [], runs, refl, refl, end, refl)

  advance_end : (m : ℕ) (runs : List Run) → HasEndRuns here s runs → Advances (suc m) here (s ∷ []) [] runs
  advance_end m runs end Whole rest none =
      alone m here s Whole (runs ++ rest)
      (subst (HasLeftRuns (HasRuns m (here + 1)) Whole here s) (sym (ap (λ (x : List Run). runs ++ x) none ∙ append-nil runs)) (left_end m runs end))
  advance_end m runs end Begun rest none = absurd none

  module _ (t : List ℕ) (f : Frame) (at : IsFrame s f t) where
    left_more : (m : ℕ) (e : Extent) (runs rest : List Run) → HasFrameRuns (HasRuns m (here + 1) Whole) here f runs → HasLeftRuns (HasRuns m (here + 1)) e here t rest
        → HasLeftRuns (HasRuns m (here + 1)) e here s (runs ++ rest)
    left_more m e runs rest one (frames, left, elements, last, leads, have, next, is) = (
      f ∷ frames,
      left,
      runs ++ elements,
      last,
      (t, at, leads),
      (runs, elements, one, have, refl),
      next,
      ap (λ (x : List Run). runs ++ x) is ∙ sym (append_assoc runs elements last),
    )

    advance_frame : (m : ℕ) (runs : List Run) → HasFrameRuns (HasRuns m (here + 1) Whole) here f runs → Advances (suc m) here (s ∷ []) (t ∷ []) runs
    advance_frame m runs one e rest h = alone m here s e (runs ++ rest) (left_more m e runs rest one (one_level m here t e rest h))

    advance_element : (m : ℕ) (runs : List Run) → TellsFrame here f runs None → Advances (suc m) here (s ∷ []) (t ∷ []) runs
    advance_element m runs tells = advance_frame m runs (frame_alone (HasRuns m (here + 1) Whole) here f runs tells)

    module _ (inner : RawLevel) (runs : List Run) (tells : TellsFrame here f runs (Some inner)) where
      -- the first of a level inside
      held_runs : (Nested : List ℕ → List Run → Type 0) (rest : List Run) → Nested (bytes_of inner.document) rest → HasFrameRuns Nested here f (runs ++ rest)
      held_runs Nested rest h = frame_runs Nested here f runs (Some inner) rest tells h

      advance_deep : (deep : Run) → HasRuns 0 (here + 1) Whole (bytes_of inner.document) (deep ∷ []) → Advances 1 here (s ∷ []) (t ∷ []) (runs ++ deep ∷ [])
      advance_deep deep h = advance_frame 0 (runs ++ deep ∷ []) (held_runs (HasRuns 0 (here + 1) Whole) (deep ∷ []) h)

      inner_runs : (m : ℕ) (e : Extent) (rest : List Run) → HaveLevelsRuns e (suc m) (here + 1) (drop 4 (bytes_of inner.document) ∷ []) rest
          → HasRuns (suc m) (here + 1) e (bytes_of inner.document) (length_run (here + 1) (bytes_of inner.document) ∷ rest)
      inner_runs m e rest h = (rest, one_level m (here + 1) (drop 4 (bytes_of inner.document)) e rest h, refl)

      abbrev head : Run
      head = length_run (here + 1) (bytes_of inner.document)

      joined : (a last rest : List Run) → rest ≡ a ++ last → (runs ++ head ∷ []) ++ rest ≡ (runs ++ head ∷ a) ++ last
      joined a last rest is =
          append_assoc runs (head ∷ []) rest ∙ ap (λ (x : List Run). runs ++ head ∷ x) is ∙ sym (append_assoc runs (head ∷ a) last)

      -- the runs of the level inside, after what its element has
      has_inside : (m : ℕ) (a : List Run) → HaveLevelsRuns Whole (suc m) (here + 1) (drop 4 (bytes_of inner.document) ∷ []) a
          → HasFrameRuns (HasRuns (suc m) (here + 1) Whole) here f (runs ++ head ∷ a)
      has_inside m a levels = held_runs (HasRuns (suc m) (here + 1) Whole) (head ∷ a) (inner_runs m Whole a levels)

      advance_inside : (m : ℕ) → Advances (suc (suc m)) here (s ∷ []) (t ∷ drop 4 (bytes_of inner.document) ∷ []) (runs ++ head ∷ [])
      advance_inside m Whole rest (a, last, levels, left, is) =
          subst (HaveLevelsRuns Whole (suc (suc m)) here (s ∷ [])) (sym (joined a last rest is))
          (alone (suc m) here s Whole ((runs ++ head ∷ a) ++ last) (left_more (suc m) Whole (runs ++ head ∷ a) last (has_inside m a levels) left))
      advance_inside m Begun rest (inr (a, last, levels, left, is)) =
          subst (HaveLevelsRuns Begun (suc (suc m)) here (s ∷ [])) (sym (joined a last rest is))
          (alone (suc m) here s Begun ((runs ++ head ∷ a) ++ last) (left_more (suc m) Begun (runs ++ head ∷ a) last (has_inside m a levels) left))
      advance_inside m Begun rest (inl h) =
          let first = held_runs (HasRuns (suc m) (here + 1) Begun) (head ∷ rest) (inner_runs m Begun rest h) in
          subst (HaveLevelsRuns Begun (suc (suc m)) here (s ∷ [])) (sym (append_assoc runs (head ∷ []) rest))
          (alone (suc m) here s Begun (runs ++ head ∷ rest) ([], s, [], runs ++ head ∷ rest, refl, refl, inr (f, t, at, first), refl))

-- how much is left

size_push : (ws : List (List ℕ)) (s : List ℕ) → size_left (ws ++ s ∷ []) ≡ size_left ws + (length s + 2)
size_push ws s = sum_by_push (λ (x : List ℕ). length x + 2) ws s

levels_push : (ws : List Level) (l : Level) → levels_of ws l ≡ map left_in ws ++ left_in l ∷ []
levels_push [] l = refl
levels_push (w ∷ ws) l = ap (λ (x : List (List ℕ)). left_in w ∷ x) (levels_push ws l)

length_lefts : (ws : List Level) → length (map left_in ws) ≡ length ws
length_lefts [] = refl
length_lefts (w ∷ ws) = ap suc (length_lefts ws)

enter_less : (s t : List ℕ) (f : Frame) (depth : ℕ) (runs : List Run) (inner : RawLevel) → IsFrame s f t → TellsFrame depth f runs (Some inner)
    → length (drop 4 (bytes_of inner.document)) + length t + 2 < length s
enter_less s t f depth runs inner at (inl (v, shown, means, shows, holds, is)) =
    let d = bytes_of inner.document in
    omega (arith, nested_beside s f t v d at means (rw holds (held_holds inner.holder d)), length-drop 4 d, inner.document.envelope.enough)
enter_less s t f depth runs inner at (inr (fault, shown, means, says, none, is)) = absurd (cc)

-- steps over the levels of a document

module _ (ws : List Level) (l : Level) (few : length ws < 500) where
  -- where new levels are in place of the innermost
  lifted : (m : ℕ) (new : List (List ℕ)) (runs : List Run) → 500 ≡ length ws + suc m → Advances (suc m) (length ws) (left_in l ∷ []) new runs
      → (e : Extent) (rest : List Run) → HaveLevelsRuns e 500 0 (map left_in ws ++ new) rest → HaveLevelsRuns e 500 0 (levels_of ws l) (runs ++ rest)
  lifted m new runs many step e rest h =
      subst (λ (x : List (List ℕ)). HaveLevelsRuns e 500 0 x (runs ++ rest)) (sym (levels_push ws l))
      (outward (suc m) (length ws) (left_in l ∷ []) new runs step e 500 0 (map left_in ws) rest
      (omega (arith, many, length_lefts ws), omega (arith, length_lefts ws), h))

  many : 500 ≡ length ws + suc (499 - length ws)
  many = omega (arith, few)

  pub goes_end : (runs : List Run) → ws ≡ [] → HasEndRuns (length ws) (left_in l) runs → GoesOn (levels_of ws l) [] runs
  goes_end runs none end = record {
    continues = λ e rest h.
        lifted (499 - length ws) [] runs many (advance_end (length ws) (left_in l) (499 - length ws) runs end) e rest
        (subst (λ (x : List Level). HaveLevelsRuns e 500 0 (map left_in x ++ []) rest) (sym none) h);
    less = omega (arith, ap size_left (levels_push ws l), size_push (map left_in ws) (left_in l));
  }

  pub goes_outward : (others : List Level) (outer : Level) (runs : List Run) → ws ≡ others ++ outer ∷ [] → HasEndRuns (length ws) (left_in l) runs
      → GoesOn (levels_of ws l) (levels_of others outer) runs
  goes_outward others outer runs are end =
      let same : levels_of others outer ≡ map left_in ws ++ [] = ap (λ (x : List Level). map left_in x) (sym are) ∙ sym (append-nil (map left_in ws)) in
      record {
        continues = λ e rest h.
            lifted (499 - length ws) [] runs many (advance_end (length ws) (left_in l) (499 - length ws) runs end) e rest
            (subst (λ (x : List (List ℕ)). HaveLevelsRuns e 500 0 x rest) same h);
        less = omega (arith, ap size_left same, ap size_left (append-nil (map left_in ws)), ap size_left (levels_push ws l), size_push (map left_in ws) (left_in l));
      }

  module _ (new : Level) (f : Frame) (at : IsFrame (left_in l) f (left_in new)) where
    shorter : length (left_in new) < length (left_in l)
    shorter = omega (arith, IsFrame-shorter (left_in l) f (left_in new) at)

    less_beside : size_left (levels_of ws new) < size_left (levels_of ws l)
    less_beside =
        omega (arith, shorter, ap size_left (levels_push ws l), size_push (map left_in ws) (left_in l), ap size_left (levels_push ws new), size_push (map left_in ws) (left_in new))

    beside : (m : ℕ) (runs : List Run) → 500 ≡ length ws + suc m → Advances (suc m) (length ws) (left_in l ∷ []) (left_in new ∷ []) runs
        → GoesOn (levels_of ws l) (levels_of ws new) runs
    beside m runs these step = record {
      continues = λ e rest h.
          lifted m (left_in new ∷ []) runs these step e rest (subst (λ (x : List (List ℕ)). HaveLevelsRuns e 500 0 x rest) (levels_push ws new) h);
      less = less_beside;
    }

    pub goes_element : (runs : List Run) → TellsFrame (length ws) f runs None → GoesOn (levels_of ws l) (levels_of ws new) runs
    goes_element runs tells =
        beside (499 - length ws) runs many (advance_element (length ws) (left_in l) (left_in new) f at (499 - length ws) runs tells)

    module _ (inner : RawLevel) (runs : List Run) (tells : TellsFrame (length ws) f runs (Some inner)) where
      pub goes_deep : (deep : Run) → length ws + 1 ≡ 500 → HasRuns 0 (length ws + 1) Whole (bytes_of inner.document) (deep ∷ [])
          → GoesOn (levels_of ws l) (levels_of ws new) (runs ++ deep ∷ [])
      goes_deep deep most h =
          beside 0 (runs ++ deep ∷ []) (omega (arith, most)) (advance_deep (length ws) (left_in l) (left_in new) f at inner runs tells deep h)

      inside : (deeper : Level) → left_in deeper ≡ drop 4 (bytes_of inner.document)
          → levels_of (ws ++ new ∷ []) deeper ≡ map left_in ws ++ left_in new ∷ drop 4 (bytes_of inner.document) ∷ []
      inside deeper is =
          levels_push (ws ++ new ∷ []) deeper ∙ ap (λ (x : List (List ℕ)). x ++ left_in deeper ∷ []) (levels_push ws new)
          ∙ append_assoc (map left_in ws) (left_in new ∷ []) (left_in deeper ∷ [])
          ∙ ap (λ (x : List ℕ). map left_in ws ++ left_in new ∷ x ∷ []) is

      inside_less : (deeper : Level) → left_in deeper ≡ drop 4 (bytes_of inner.document) → size_left (levels_of (ws ++ new ∷ []) deeper) < size_left (levels_of ws l)
      inside_less deeper is =
          let d = drop 4 (bytes_of inner.document) in
          omega (
            arith,
            ap size_left (inside deeper is ∙ sym (append_assoc (map left_in ws) (left_in new ∷ []) (d ∷ []))),
            size_push (map left_in ws ++ left_in new ∷ []) d,
            size_push (map left_in ws) (left_in new),
            ap size_left (levels_push ws l),
            size_push (map left_in ws) (left_in l),
            enter_less (left_in l) (left_in new) f (length ws) runs inner at tells,
          )

      pub goes_inside : (deeper : Level) → length ws + 1 ≢ 500 → left_in deeper ≡ drop 4 (bytes_of inner.document)
          → GoesOn (levels_of ws l) (levels_of (ws ++ new ∷ []) deeper) (runs ++ length_run (length ws + 1) (bytes_of inner.document) ∷ [])
      goes_inside deeper fewer is = record {
        continues = λ e rest h.
            lifted (suc (498 - length ws)) (left_in new ∷ drop 4 (bytes_of inner.document) ∷ []) (runs ++ length_run (length ws + 1) (bytes_of inner.document) ∷ [])
            (omega (arith, few, fewer)) (advance_inside (length ws) (left_in l) (left_in new) f at inner runs tells (498 - length ws)) e rest
            (subst (λ (x : List (List ℕ)). HaveLevelsRuns e 500 0 x rest) (inside deeper is) h);
        less = inside_less deeper is;
      }

-- what the loop over a document keeps

pub record IsShowing (d : List ℕ) (first page : Page) (old out : Option (List ℕ)) (levels : List (List ℕ)) : Type 0 where
  pub runs : List Run
  pub leads : (e : Extent) (rest : List Run) → HaveLevelsRuns e 500 0 levels rest → HasRuns 500 0 e d (runs ++ rest)
  pub written : List ℕ
  pub put : Appends old out written
  pub lines : written ++ page.text.items ≡ shown_lines (sheet_of first) 0 runs
  pub at : page.at ≡ shown_end (sheet_of first) 0 runs
  pub same : sheet_of page ≡ sheet_of first

pub showing_begins : (d : List ℕ) (first page : Page) (out : Option (List ℕ)) → first.text.items ≡ [] → first.at ≡ 0 → Writes first page (length_run 0 d ∷ [])
    → IsShowing d first page out out (drop 4 d ∷ [])
showing_begins d first page out none start w = record {
  runs = length_run 0 d ∷ [];
  leads = λ e rest h. (rest, one_level 499 0 (drop 4 d) e rest h, refl);
  written = [];
  put = Appends-nil out;
  lines = w.text ∙ (λ i. none i ++ shown_lines (sheet_of first) (start i) (length_run 0 d ∷ []));
  at = w.at ∙ ap (λ (x : ℕ). shown_end (sheet_of first) x (length_run 0 d ∷ [])) start;
  same = w.same;
}

-- nothing is written
pub shown_nothing : (d : List ℕ) (first : Page) (out : Option (List ℕ)) → IsShownFront d first out out
shown_nothing d first out =
    ([], Appends-nil out, (Begun, length_run 0 d ∷ [], ([], ([], drop 4 d, [], [], refl, refl, inl refl, refl), refl), (_, refl)))

module _ {d : List ℕ} {first page : Page} {old out : Option (List ℕ)} {levels : List (List ℕ)} (is : IsShowing d first page old out levels) where
  pub showing_goes : (next : Page) (new : List (List ℕ)) (more : List Run) → GoesOn levels new more → Writes page next more → IsShowing d first next old out new
  showing_goes next new more goes w = record {
    runs = is.runs ++ more;
    leads = λ e rest h. subst (HasRuns 500 0 e d) (sym (append_assoc is.runs more rest)) (is.leads e (more ++ rest) (goes.continues e rest h));
    written = is.written;
    put = is.put;
    lines =
        ap (λ (x : List ℕ). is.written ++ x) (w.text ∙ (λ i. page.text.items ++ shown_lines (is.same i) (is.at i) more))
        ∙ sym (append_assoc is.written page.text.items _)
        ∙ ap (λ (x : List ℕ). x ++ shown_lines (sheet_of first) (shown_end (sheet_of first) 0 is.runs) more) is.lines
        ∙ sym (lines_append (sheet_of first) 0 is.runs more);
    at = w.at ∙ (λ i. shown_end (is.same i) (is.at i) more) ∙ sym (end_append (sheet_of first) 0 is.runs more);
    same = w.same ∙ is.same;
  }

  -- the lines on the page are written
  pub showing_written : (next : Page) (new : Option (List ℕ)) → Appends out new page.text.items → next.text.items ≡ [] → next.at ≡ page.at → sheet_of next ≡ sheet_of page
      → IsShowing d first next old new levels
  showing_written next new put none at same = record {
    runs = is.runs;
    leads = is.leads;
    written = is.written ++ page.text.items;
    put = Appends-trans old out new is.written page.text.items is.put put;
    lines = ap (λ (x : List ℕ). (is.written ++ page.text.items) ++ x) none ∙ append-nil (is.written ++ page.text.items) ∙ is.lines;
    at = at ∙ is.at;
    same = same ∙ is.same;
  }

  pub showing_ends : levels ≡ [] → IsShown d page old out first
  showing_ends none = record {
    extent = Whole;
    runs = is.runs;
    has = subst (HasRuns 500 0 Whole d) (append-nil is.runs) (is.leads Whole [] (subst (λ (x : List (List ℕ)). HaveLevelsRuns Whole 500 0 x []) (sym none) refl));
    enough = tt;
    written = is.written;
    put = is.put;
    lines = is.lines;
    at = is.at;
    same = is.same;
  }

  module _ (ws : List Level) (l : Level) (are : levels ≡ levels_of ws l) (few : length ws < 500) where
    begun : HasRuns 500 0 Begun d is.runs
    begun =
        subst (HasRuns 500 0 Begun d) (append-nil is.runs) (is.leads Begun []
        (subst (λ (x : List (List ℕ)). HaveLevelsRuns Begun 500 0 x []) (sym (are ∙ levels_push ws l))
        (nothing_left 500 0 (map left_in ws) (left_in l) (omega (arith, few, length_lefts ws)))))

    pub showing_enough : is_shown (sheet_of page) page.at ≡ false → IsShown d page old out first
    showing_enough none = record {
      extent = Begun;
      runs = is.runs;
      has = begun;
      enough = (λ i. is_shown (sym is.same i) (sym is.at i)) ∙ none;
      written = is.written;
      put = is.put;
      lines = is.lines;
      at = is.at;
      same = is.same;
    }

    pub showing_fails : IsShownFront d first old out
    showing_fails = (is.written, is.put, (Begun, is.runs, begun, (page.text.items, sym is.lines)))

    pub showing_breaks : (new : Option (List ℕ)) → AppendsFront out new page.text.items → IsShownFront d first old new
    showing_breaks new front = (
      is.written ++ front.front,
      Appends-trans old out new is.written front.front is.put front.put,
      (
        Begun,
        is.runs,
        begun,
        (front.behind, sym is.lines ∙ ap (λ (x : List ℕ). is.written ++ x) front.whole ∙ sym (append_assoc is.written front.front front.behind)),
      ),
    )

-- what is written in the end

module _ {d : List ℕ} {first page : Page} {a b : Option (List ℕ)} (is : IsShown d page a b first) where
  rest_is : page_text page ≡ page.text.items ++ rest_line (first.base + shown_end (sheet_of first) 0 is.runs) (first.size - shown_end (sheet_of first) 0 is.runs)
  rest_is = λ i. page.text.items ++ rest_line ((is.same i).base + is.at i) ((is.same i).size - is.at i)

  whole_is : is.written ++ page_text page ≡ document_lines (sheet_of first) is.runs
  whole_is =
      ap (λ (x : List ℕ). is.written ++ x) rest_is ∙ sym (append_assoc is.written page.text.items _)
      ∙ ap (λ (x : List ℕ). x ++ rest_line (first.base + shown_end (sheet_of first) 0 is.runs) (first.size - shown_end (sheet_of first) 0 is.runs)) is.lines

  pub all_written : (c : Option (List ℕ)) → Appends b c (page_text page) → IsWritten d (sheet_of first) a c
  all_written c put = (is.extent, is.runs, is.has, is.enough, subst (Appends a c) whole_is (Appends-trans a b c is.written (page_text page) is.put put))

  pub partly_written : (c : Option (List ℕ)) → AppendsFront b c (page_text page) → IsPartly d (sheet_of first) a c
  partly_written c front = (
    is.written ++ front.front,
    Appends-trans a b c is.written front.front is.put front.put,
    (
      is.extent,
      is.runs,
      is.has,
      inr (
        is.enough,
        (front.behind, sym whole_is ∙ ap (λ (x : List ℕ). is.written ++ x) front.whole ∙ sym (append_assoc is.written front.front front.behind)),
      ),
    ),
  )

pub partly_shown : (d : List ℕ) (first : Page) (a b : Option (List ℕ)) → IsShownFront d first a b → IsPartly d (sheet_of first) a b
partly_shown d first a b (text, put, (extent, runs, has, front)) = (text, put, (extent, runs, has, inl front))

-- pieces

pub refused_text : (a b : Page) (runs : List Run) → Writes a b runs → a.text.items ≡ [] → a.at ≡ 0 → page_text b ≡ document_lines (sheet_of a) runs
refused_text a b runs w none start =
    let at : b.at ≡ shown_end (sheet_of a) 0 runs = w.at ∙ ap (λ (x : ℕ). shown_end (sheet_of a) x runs) start in
    (λ i. (w.text ∙ (λ j. none j ++ shown_lines (sheet_of a) (start j) runs)) i ++ rest_line ((w.same i).base + at i) ((w.same i).size - at i))

module _ (most : Option ℕ) (base : ℕ) (b : List ℕ) (old new : Option (List ℕ)) where
  pub piece_shown : IsEnvelope b → IsWritten b (sheet_at most base b) old new → (text : List ℕ) × ShowsPiece most base b text × Appends old new text
  piece_shown is (extent, runs, has, enough, put) = (document_lines (sheet_at most base b) runs, (extent, runs, inl (is, has), enough, refl), put)

  pub piece_front : IsEnvelope b → IsPartly b (sheet_at most base b) old new → (text : List ℕ) × ShowsPieceFront most base b text × Appends old new text
  piece_front is (text, put, (extent, runs, has, inl front)) = (text, inr (inl (extent, runs, inl (is, has), front)), put)
  piece_front is (text, put, (extent, runs, has, inr (enough, front))) =
      (text, inr (inr (document_lines (sheet_at most base b) runs, (extent, runs, inl (is, has), enough, refl), front)), put)

abbrev pub RefusedLines : Option ℕ → ℕ → List ℕ → Reason → List ℕ
RefusedLines most base b why = document_lines (sheet_at most base b) (refused_runs b why (codes "damaged: " ++ explanation_text (reason_explained why)))

module _ (most : Option ℕ) (base : ℕ) (b : List ℕ) (why : Reason) (refuses : Refuses b why) where
  refused_piece : ShowsPiece most base b (RefusedLines most base b why)
  refused_piece = (Whole, refused_runs b why (codes "damaged: " ++ explanation_text (reason_explained why)), inr (why, refuses, refl), tt, refl)

  pub refused_shown : (old new : Option (List ℕ)) → Appends old new (RefusedLines most base b why) → (text : List ℕ) × ShowsPiece most base b text × Appends old new text
  refused_shown old new put = (RefusedLines most base b why, refused_piece, put)

  pub refused_front : (old new : Option (List ℕ)) → AppendsFront old new (RefusedLines most base b why)
      → (text : List ℕ) × ShowsPieceFront most base b text × Appends old new text
  refused_front old new front = (front.front, inr (inr (RefusedLines most base b why, refused_piece, (front.behind, front.whole))), front.put)

-- why bytes have no envelope
pub reason_of : (k : ErrorKind) (b : List ℕ) → IsMalformed k (Refuses b) → (why : Reason) × Refuses b why × (k ≡ kind.MalformedValue why)
reason_of (kind.MalformedValue why) b h = (why, h, refl)
reason_of (kind.Utf8EncodingError e) b h = absurd h
reason_of kind.OutOfMemory b h = absurd h

pub refused_as : (most : Option ℕ) (base : ℕ) (b : List ℕ) (why : Reason) (k : ErrorKind) (sheet : Sheet) → k ≡ kind.MalformedValue why
    → sheet ≡ sheet_at most base b → document_lines sheet (refused_runs b why (codes "damaged: " ++ kind_text k)) ≡ RefusedLines most base b why
refused_as most base b why k sheet is same = λ i. document_lines (same i) (refused_runs b why (codes "damaged: " ++ kind_text (is i)))
