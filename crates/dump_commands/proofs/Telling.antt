-- The lines of two inputs that are compared.
use Rattle.std.proofs.Common.{◌≡◌, ◌⊎◌, ◌+◌, ◌<◌, ◌≤◌, ◌++◌, ◌∷◌, ◌∙◌, [], ℕ, List, Bool, true, false, Option, ap, append-nil, append_assoc, arith, drop, get_or, inl, inr, length, map, refl, subst, sym, take}
use Rattle.std.proofs.lemmas.List.{drop_more, map-append, map_more, take-append-drop, take_all}
use Rattle.std.proofs.KnownBytes.{Appends-nil, Appends-trans}
use Rattle.std.specs.Io.KnownBytes.{Appends}
use Rattle.dump_io.specs.lines.Fronts.{AppendsFront, HasFront}
use Rattle.dump_commands.specs.diff.Lines.{AreLines, HasLinesFront, HasNextFront, IsLine, TellsFrontUnless, TellsUnless, differences_line}
use Rattle.dump_commands.specs.diff.Pairs.{Told, differences_in, told_by, told_of}
use Rattle.dump_commands.specs.diff.Sides.{Sides}
use Rattle.dump_commands.specs.declared.diff.pairs.Differences.{Differences}
use Rattle.dump_commands.specs.declared.diff.pairs.Told as code
use Rattle.dump_commands.specs.declared.diff.tell.Telling.{Telling}

some_of : (told : List code.Told) (i : ℕ) → i < length told → code.Told
some_of [] i within = absurd (let impossible : ⊥ = omega (arith, within) in impossible)
some_of (x ∷ told) i within = x

module _ (t : Telling) (bytes_of : List ℕ → Option (List ℕ)) where
  -- lines are written of the first documents
  abbrev pub AreWritten : List Told → (old new : Option (List ℕ)) → Type 0
  AreWritten told old new = (lines : List ℕ) × AreLines t bytes_of told lines × Appends old new lines

  -- the line of one is
  abbrev pub IsOneWritten : Told → (old new : Option (List ℕ)) → Type 0
  IsOneWritten x old new = (line : List ℕ) × IsLine t bytes_of x line × Appends old new line

  -- a front of it is
  abbrev pub IsOneBegun : Told → (old new : Option (List ℕ)) → Type 0
  IsOneBegun x old new = (line : List ℕ) × IsLine t bytes_of x line × AppendsFront old new line

  -- those of all are, and then the last line
  abbrev pub AreAllWritten : (last : List ℕ) → List Told → (old new : Option (List ℕ)) → Type 0
  AreAllWritten last told old new = (lines : List ℕ) × AreLines t bytes_of told lines × Appends old new (lines ++ last)

  pub none_written : (w : Option (List ℕ)) → AreWritten [] w w
  none_written w = ([], refl, Appends-nil w)

  lines_more : (told : List Told) (x : Told) (lines line : List ℕ) → AreLines t bytes_of told lines → IsLine t bytes_of x line → AreLines t bytes_of (told ++ x ∷ []) (lines ++ line)
  lines_more [] x lines line are is = (line, [], is, refl, ap (λ (l : List ℕ). l ++ line) are ∙ sym (append-nil line))
  lines_more (y ∷ told) x lines line (first, rest, one, others, whole) is =
      (first, rest ++ line, one, lines_more told x rest line others is, ap (λ (l : List ℕ). l ++ line) whole ∙ append_assoc first rest line)

  -- the line of one more is
  pub one_written : (told : List Told) (x : Told) (a b c : Option (List ℕ)) → AreWritten told a b → IsOneWritten x b c → AreWritten (told ++ x ∷ []) a c
  one_written told x a b c (lines, are, put) (line, is, more) = (lines ++ line, lines_more told x lines line are is, Appends-trans a b c lines line put more)

  -- a front of the lines of all, and of the last line, is written
  abbrev pub IsFrontWritten : (last : List ℕ) → List Told → (old new : Option (List ℕ)) → Type 0
  IsFrontWritten last told old new = (front : List ℕ) × HasLinesFront t bytes_of last told front × Appends old new front

  front_of : (last : List ℕ) (passed left : List Told) (lines next : List ℕ) → AreLines t bytes_of passed lines → HasNextFront t bytes_of last left next
      → HasLinesFront t bytes_of last (passed ++ left) (lines ++ next)
  front_of last passed left lines next are is = record { passed = passed; left = left; in_order = refl; lines = lines; are = are; next = next; is_next = is; whole = refl }

  -- no more than those of some
  pub front_before : (last : List ℕ) (passed : List Told) (x : Told) (left : List Told) (a b : Option (List ℕ)) → AreWritten passed a b → IsFrontWritten last (passed ++ x ∷ left) a b
  front_before last passed x left a b (lines, are, put) =
      (lines ++ [], front_of last passed (x ∷ left) lines [] are (inl refl), subst (Appends a b) (sym (append-nil lines)) put)

  -- and a front of the next line
  pub front_inside : (last : List ℕ) (passed : List Told) (x : Told) (left : List Told) (a b c : Option (List ℕ)) → AreWritten passed a b → IsOneBegun x b c
      → IsFrontWritten last (passed ++ x ∷ left) a c
  front_inside last passed x left a b c (lines, are, put) (line, is, front) =
      (lines ++ front.front, front_of last passed (x ∷ left) lines front.front are (inr (line, is, (front.behind, front.whole))), Appends-trans a b c lines front.front put front.put)

  -- or those of all, and a front of the last line
  pub front_last : (last : List ℕ) (told : List Told) (a b c : Option (List ℕ)) → AreWritten told a b → AppendsFront b c last → IsFrontWritten last told a c
  front_last last told a b c (lines, are, put) front = (
    lines ++ front.front,
    subst (λ (all : List Told). HasLinesFront t bytes_of last all (lines ++ front.front)) (append-nil told) (front_of last told [] lines front.front are (front.behind, front.whole)),
    Appends-trans a b c lines front.front put front.put,
  )

  pub front_all : (last : List ℕ) (told : List Told) (a b : Option (List ℕ)) → AreWritten told a b → IsFrontWritten last told a b
  front_all last told a b (lines, are, put) = (
    lines ++ [],
    subst (λ (all : List Told). HasLinesFront t bytes_of last all (lines ++ [])) (append-nil told) (front_of last told [] lines [] are (last, refl)),
    subst (Appends a b) (sym (append-nil lines)) put,
  )

  module _ (told : List code.Told) (i : ℕ) (x : code.Told) (within : i < length told) where
    -- the first lines are written, and the next one
    pub next_written : (a b c : Option (List ℕ)) → AreWritten (map told_by (take i told)) a b → IsOneWritten (told_by (get_or told i x)) b c
        → AreWritten (map told_by (take (i + 1) told)) a c
    next_written a b c are put =
        subst (λ (xs : List Told). AreWritten xs a c) (sym (map_more told_by told i x within)) (one_written (map told_by (take i told)) (told_by (get_or told i x)) a b c are put)

    split_here : map told_by told ≡ map told_by (take i told) ++ told_by (get_or told i x) ∷ map told_by (drop (i + 1) told)
    split_here =
        ap (map told_by) (sym (take-append-drop i told)) ∙ map-append told_by (take i told) (drop i told)
        ∙ ap (λ (xs : List code.Told). map told_by (take i told) ++ map told_by xs) (drop_more told i x within)

    -- or no more than these
    halts_before : (last : List ℕ) (a b : Option (List ℕ)) → AreWritten (map told_by (take i told)) a b → IsFrontWritten last (map told_by told) a b
    halts_before last a b are =
        subst (λ (xs : List Told). IsFrontWritten last xs a b) (sym split_here) (front_before last (map told_by (take i told)) (told_by (get_or told i x)) (map told_by (drop (i + 1) told)) a b are)

    -- or a front of the next one
    pub halts_inside : (last : List ℕ) (a b c : Option (List ℕ)) → AreWritten (map told_by (take i told)) a b → IsOneBegun (told_by (get_or told i x)) b c
        → IsFrontWritten last (map told_by told) a c
    halts_inside last a b c are front =
        subst (λ (xs : List Told). IsFrontWritten last xs a c) (sym split_here)
        (front_inside last (map told_by (take i told)) (told_by (get_or told i x)) (map told_by (drop (i + 1) told)) a b c are front)

  pub halts_here : (told : List code.Told) (i : ℕ) → i < length told → (last : List ℕ) (a b : Option (List ℕ)) → AreWritten (map told_by (take i told)) a b
      → IsFrontWritten last (map told_by told) a b
  halts_here told i within last a b are = halts_before told i (some_of told i within) within last a b are

  -- all lines are written
  pub all_written : (told : List code.Told) (i : ℕ) (a b : Option (List ℕ)) → length told ≤ i → AreWritten (map told_by (take i told)) a b → AreWritten (map told_by told) a b
  all_written told i a b end are = subst (λ (xs : List code.Told). AreWritten (map told_by xs) a b) (take_all i told end) are

  -- and the last one
  pub last_written : (told : List Told) (last : List ℕ) (a b c : Option (List ℕ)) → AreWritten told a b → Appends b c last → AreAllWritten last told a c
  last_written told last a b c (lines, are, put) more = (lines, are, Appends-trans a b c lines last put more)

  -- what is told of two inputs that were compared
  module _ (all : Sides) (told : List Told) (n : Differences) (is : told ≡ told_of all) (counts : n ≡ differences_in all) where
    pub tells_all : (quiet : Bool) (a b : Option (List ℕ)) → quiet ≡ false → AreAllWritten (differences_line t.style n) told a b
        → (text : List ℕ) × TellsUnless t bytes_of quiet all text × Appends a b text
    tells_all true a b loud written = let impossible : ⊥ = cc in absurd impossible
    tells_all false a b loud (lines, are, put) = (
      lines ++ differences_line t.style n,
      (lines, subst (λ (x : List Told). AreLines t bytes_of x lines) is are, ap (λ (m : Differences). lines ++ differences_line t.style m) counts),
      put,
    )

    pub tells_front : (quiet : Bool) (a b : Option (List ℕ)) → quiet ≡ false → IsFrontWritten (differences_line t.style n) told a b
        → (text : List ℕ) × TellsFrontUnless t bytes_of quiet all text × Appends a b text
    tells_front true a b loud written = let impossible : ⊥ = cc in absurd impossible
    tells_front false a b loud (front, has, put) = (
      front,
      subst (λ (x : List Told). HasLinesFront t bytes_of (differences_line t.style (differences_in all)) x front) is
          (subst (λ (m : Differences). HasLinesFront t bytes_of (differences_line t.style m) told front) counts has),
      put,
    )

  pub tells_none : (all : Sides) (quiet : Bool) (a : Option (List ℕ)) → quiet ≡ true → (text : List ℕ) × TellsUnless t bytes_of quiet all text × Appends a a text
  tells_none all true a is = ([], refl, Appends-nil a)
  tells_none all false a is = let impossible : ⊥ = cc in absurd impossible
