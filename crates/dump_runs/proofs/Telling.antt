-- What is told of all inputs.
use Rattle.std.proofs.Common.{◌≡◌, ◌∙◌, ◌++◌, ◌∷◌, [], ℕ, List, Bool, false, true, Option, None, Some, ap, append-nil, append_assoc, inl, inr, refl, subst, sym}
use Rattle.std.proofs.KnownBytes.{Appends-kept, Appends-nil, Appends-trans}
use Rattle.std.specs.Io.KnownBytes.{Appends, Keeps}
use Rattle.dump_io.specs.input.Done.{CutInput}
use Rattle.dump_io.specs.lines.Fronts.{AppendsFront, HasFront}
use Rattle.dump_commands.specs.Commands.{compares}
use Rattle.dump_commands.specs.diff.Lines.{HasNextFront, TellsFrontUnless, is_quiet, uncompared_line}
use Rattle.dump_commands.specs.diff.Pairs.{Told, told_of}
use Rattle.dump_commands.specs.diff.Sides.{Sides}
use Rattle.dump_commands.specs.state.Gathered.{tabled}
use Rattle.dump_commands.specs.declared.diff.sides.Comparing.{Comparing}
use Rattle.dump_commands.specs.declared.diff.tell.Telling.{Telling}
use Rattle.dump_commands.specs.declared.job.Job.{Job}
use Rattle.dump_runs.specs.Summed.{AreCompared, WritesCompared, WritesComparedFront, uncompared_text}
use Rattle.dump_runs.specs.Sums.{Sum, TellsAll, TellsAllFront, TellsIfCompared, TellsIfComparedFront, WritesAll, WritesAllFront, all_line, if_compared, telling_of}
use Rattle.dump_runs.specs.declared.reading.Reading.{Reading}
use Rattle.dump_runs.specs.declared.reading.Reading.TheVariants as reading

-- all of a text is a front of it
whole_front : (text : List ℕ) → HasFront text text
whole_front text = ([], sym (append-nil text))

module _ (bytes_of : List ℕ → Option (List ℕ)) where
  -- nothing is a front of what is told of two inputs
  module _ (t : Telling) where
    none_next : (last : List ℕ) (told : List Told) → HasNextFront t bytes_of last told []
    none_next last [] = (last, refl)
    none_next last (x ∷ told) = inl refl

    none_unless : (quiet : Bool) (all : Sides) → TellsFrontUnless t bytes_of quiet all []
    none_unless true all = refl
    none_unless false all = record { passed = []; left = told_of all; in_order = refl; lines = []; are = refl; next = []; is_next = none_next _ (told_of all); whole = refl }

  -- nor of what is told of those of a command
  none_if : (job : Job) (cut : Option CutInput) (comparing : Option Comparing) (all : Sides) → TellsIfComparedFront job bytes_of cut comparing all []
  none_if job cut None all = refl
  none_if job None (Some comparing) all = none_unless (telling_of job bytes_of comparing) (is_quiet job.style) all
  none_if job (Some cut) (Some comparing) all = (uncompared_line job.style cut.name, refl)

  module _ (sum : Sum) where
    none_told : (r : Reading) → TellsAllFront r bytes_of sum []
    none_told (reading.Dumps job) = inl (none_if job sum.cut (compares job.command) (tabled sum.kept).sides)
    none_told (reading.Texts job) = (_, refl)

    tells_whole : (r : Reading) (text : List ℕ) → TellsAll r bytes_of sum text → TellsAllFront r bytes_of sum text
    tells_whole (reading.Dumps job) text tells = inr (text, tells, whole_front text)
    tells_whole (reading.Texts job) text tells = subst (λ (x : List ℕ). HasFront x text) tells (whole_front text)

    module _ (r : Reading) where
      -- what is written is kept
      pub writes_kept : (a b c : Option (List ℕ)) → WritesAll r bytes_of sum a b → Keeps b c → WritesAll r bytes_of sum a c
      writes_kept a b c (text, tells, put) kept = (text, tells, Appends-kept a b c text put kept)

      pub writes_whole : (a b : Option (List ℕ)) → WritesAll r bytes_of sum a b → WritesAllFront r bytes_of sum a b
      writes_whole a b (text, tells, put) = (text, tells_whole r text tells, put)

      -- nothing is
      pub writes_none : (a : Option (List ℕ)) → WritesAllFront r bytes_of sum a a
      writes_none a = ([], none_told r, Appends-nil a)

    module _ (job : Job) where
      -- of dumps which differ, and then the lines of all
      pub writes_dumps : (a b c : Option (List ℕ)) → WritesCompared job bytes_of sum a b → Appends b c (all_line job sum.counts sum.kept) → WritesAll (reading.Dumps job) bytes_of sum a c
      writes_dumps a b c (text, tells, put) more =
          (text ++ all_line job sum.counts sum.kept, (text, tells, refl), Appends-trans a b c text (all_line job sum.counts sum.kept) put more)

      -- or a front of which differ
      pub dumps_first : (a b : Option (List ℕ)) → WritesComparedFront job bytes_of sum a b → WritesAllFront (reading.Dumps job) bytes_of sum a b
      dumps_first a b (front, tells, put) = (front, inl tells, put)

      -- or a front of the lines of all
      pub dumps_behind : (a b c : Option (List ℕ)) → WritesCompared job bytes_of sum a b → AppendsFront b c (all_line job sum.counts sum.kept) → WritesAllFront (reading.Dumps job) bytes_of sum a c
      dumps_behind a b c (text, tells, put) f =
          let line = all_line job sum.counts sum.kept in (
            text ++ f.front,
            inr (text ++ line, (text, tells, refl), (f.behind, ap (λ (x : List ℕ). text ++ x) f.whole ∙ sym (append_assoc text f.front f.behind))),
            Appends-trans a b c text f.front put f.put,
          )

      -- none are compared
      pub compared_none : (a : Option (List ℕ)) → compares job.command ≡ None → WritesCompared job bytes_of sum a a
      compared_none a none = ([], subst (λ (c : Option Comparing). TellsIfCompared job bytes_of sum.cut c (tabled sum.kept).sides []) (sym none) refl, Appends-nil a)

      module _ (comparing : Comparing) (compares_so : compares job.command ≡ Some comparing) where
        front_so : (front : List ℕ) → TellsIfComparedFront job bytes_of sum.cut (Some comparing) (tabled sum.kept).sides front
            → TellsIfComparedFront job bytes_of sum.cut (compares job.command) (tabled sum.kept).sides front
        front_so front = subst (λ (c : Option Comparing). TellsIfComparedFront job bytes_of sum.cut c (tabled sum.kept).sides front) (sym compares_so)

        -- an input isn't read to its end
        uncompared_front : (cut : Option CutInput) (all : Sides) (front : List ℕ) → AreCompared (if_compared cut (Some comparing) all) None → HasFront (uncompared_text job.style cut) front
            → TellsIfComparedFront job bytes_of cut (Some comparing) all front
        uncompared_front None all front impossible has = absurd impossible
        uncompared_front (Some cut) all front is has = has

        pub cut_front : (a b : Option (List ℕ)) → AreCompared (if_compared sum.cut (Some comparing) (tabled sum.kept).sides) None → AppendsFront a b (uncompared_text job.style sum.cut)
            → WritesComparedFront job bytes_of sum a b
        cut_front a b is f = (f.front, front_so f.front (uncompared_front sum.cut (tabled sum.kept).sides f.front is (f.behind, f.whole)), f.put)
