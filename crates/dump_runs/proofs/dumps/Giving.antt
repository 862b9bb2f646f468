-- What a document gives, and fronts of that.
use Rattle.std.proofs.Common.{◌≡◌, ℕ, ◌+◌, List, [], ◌∷◌, ◌++◌, Bool, Option, None, Some, ap, cond, fold, inl, inr, is_some, length, refl, subst, sym, ◌∙◌}
use Rattle.std.proofs.KnownBytes.{Appends-trans}
use Rattle.std.specs.Io.KnownBytes.{Appends}
use Rattle.std.specs.Option.{option_map}
use Rattle.dump_io.specs.input.Cut.{IsPiece}
use Rattle.dump_io.specs.lines.Find.{Account}
use Rattle.dump_io.specs.lines.Fronts.{AppendsFront, WritesFront}
use Rattle.dump_io.specs.lines.Origins.{Origin, origin_of}
use Rattle.dump_io.specs.declared.lines.origin.Origin as place
use Rattle.dump_io.specs.declared.lines.style.Style.{Style}
use Rattle.dump_commands.specs.Gathering.{CountsFields}
use Rattle.dump_commands.specs.Findings.{FindsFor}
use Rattle.dump_commands.specs.Emitting.{IsMade, Puts, Writes}
use Rattle.dump_commands.specs.Making.{Makes}
use Rattle.dump_commands.specs.Reporting.{Lists, ListsFront, Reports, first_line, lines_of_repeats}
use Rattle.dump_commands.specs.Unique.{repeats_of, written_of}
use Rattle.dump_commands.specs.state.Gathered.{Gathered, KeepsCounted, KeepsWritten, with_document}
use Rattle.dump_commands.specs.state.Forms.{Made, firsts_of, knows, origins_of, placed_at, repeat_at}
use Rattle.dump_commands.specs.declared.counts.Counts.{Counts}
use Rattle.dump_commands.specs.declared.job.Job.{Job}
use Rattle.dump_commands.specs.declared.state.kept.Kept.{Kept}
use Rattle.dump_commands.proofs.Face.{writes_kept}
use Rattle.dump_runs.specs.Plays.{Played, given, reported}
use Rattle.dump_runs.specs.Limits.{style_at}
use Rattle.dump_runs.specs.dumps.Run.{Entry, findings_in, repeats_in}
use Rattle.dump_runs.specs.dumps.Steps.{GivesPiece, HaltsPiece, point_at}
use Rattle.dump_runs.specs.declared.dumps.piece.Piece.{Piece}
use Rattle.dump_runs.proofs.Plays.{holds, played_made, played_text, played_texts}

repeats_counted : (at : Origin) (first : Option Origin) → length (repeat_at at first) ≡ cond (is_some first) 1 0
repeats_counted at None = refl
repeats_counted at (Some first) = refl

some_mapped : (first : Option place.Origin) → is_some first ≡ is_some (option_map origin_of first)
some_mapped None = refl
some_mapped (Some first) = refl

-- what is found in a document, and the line of that
pub record IsFound (job : Job) (p : Piece) (n : Counts) : Type 0 where
  pub told : Option Account
  pub found : FindsFor job.limits job.command p.bytes.now p.judged.finding told
  pub line : p.judged.line.items ≡ first_line job.command (style_at job.style job.limit n) (origin_of p.at) p.bytes.now p.judged.finding told

-- that line is written, and the listing
pub record IsReported (job : Job) (p : Piece) (w w' : Option (List ℕ)) : Type 0 where
  pub lines : List ℕ
  pub lists : Lists job.command p.at.offset p.bytes.now lines
  pub put : Appends w w' (p.judged.line.items ++ lines)

-- and what is made of the document
pub record IsGiven (job : Job) (p : Piece) (d d' : Option (List ℕ)) (k k' : Kept) (first : Option place.Origin) : Type 0 where
  pub made : List Made
  pub makes : Makes job.command p.bytes.now p.judged.finding made
  pub puts : Puts job.command p.at made d d' k k' first

-- and its elements are counted
pub record IsCounted (job : Job) (p : Piece) (k k' k'' : Kept) : Type 0 where
  pub table : KeepsCounted k k'
  pub fields : CountsFields job.limits job.command (origin_of p.at) p.bytes.now p.judged.finding k' k''
  pub written : KeepsWritten k' k''

module _ {job : Job} {p : Piece} {n : Counts} (j : IsFound job p n) where
  -- a front of the first line is reported
  pub front_line : {d a w w' : Option (List ℕ)} {k : Kept} → AppendsFront w w' p.judged.line.items → HaltsPiece job p (holds d a w n k) (holds d a w' n k)
  front_line {d = d} {a = a} {w = w} {w' = w'} {k = k} front = (
    reported front.front ∷ [],
    played_text d d w w' n k k front.front front.put,
    λ before broken. (j.told, j.found, inl (front.front, inl (front.behind, sym j.line ∙ front.whole), refl)),
  )

  -- that line, and a front of the listing
  pub front_listing : {d a w w' : Option (List ℕ)} {k : Kept} (v : Option (List ℕ)) → Appends w v p.judged.line.items
      → (lines : List ℕ) × ListsFront job.command p.at.offset p.bytes.now lines × Appends v w' lines
      → HaltsPiece job p (holds d a w n k) (holds d a w' n k)
  front_listing {d = d} {a = a} {w = w} {w' = w'} {k = k} v first (lines, front, put) =
      let text = p.judged.line.items ++ lines in (
        reported text ∷ [],
        played_text d d w w' n k k text (Appends-trans w v w' p.judged.line.items lines first put),
        λ before broken. (j.told, j.found, inl (text, inr (lines, front, ap (λ (l : List ℕ). l ++ lines) j.line), refl)),
      )

  -- both are reported
  reports : {w u : Option (List ℕ)} (r : IsReported job p w u)
      → Reports job.command (style_at job.style job.limit n) (origin_of p.at) p.bytes.now p.judged.finding j.told (p.judged.line.items ++ r.lines)
  reports r = (r.lines, r.lists, ap (λ (l : List ℕ). l ++ r.lines) j.line)

  module _ {d w u : Option (List ℕ)} {k : Kept} (r : IsReported job p w u) where
    -- and a front of what is made is written, or nothing
    pub front_made : {a d' : Option (List ℕ)} {k' : Kept} → WritesFront (IsMade job.command p.bytes.now p.judged.finding k) d d' → HaltsPiece job p (holds d a w n k) (holds d' a u n k')
    front_made {a = a} {d' = d'} {k' = k'} (inl same) =
        let text = p.judged.line.items ++ r.lines in (
          reported text ∷ [],
          subst (λ (o : Option (List ℕ)). Played (reported text ∷ []) (holds d a w n k) (holds o a u n k')) (sym same) (played_text d d w u n k k' text r.put),
          λ before broken. (j.told, j.found, inr (text, reports r, inl refl)),
        )
    front_made {a = a} {d' = d'} {k' = k'} (inr (bytes, (made, makes, is), front)) =
        let text = p.judged.line.items ++ r.lines in (
          reported text ∷ given front.front ∷ [],
          played_made d d' w u n k k' text front.front r.put front.put,
          λ before broken. (j.told, j.found, inr (text, reports r, inr (inl (made, makes, (front.front, (front.behind, sym is ∙ front.whole), refl))))),
        )

    -- all of it is written
    module _ {d' : Option (List ℕ)} {k' : Kept} {first : Option place.Origin} (m : IsGiven job p d d' k k' first) {style : Style} (style_is : style ≡ style_at job.style job.limit n) where
      abbrev line : List ℕ
      line = lines_of_repeats style (repeat_at (origin_of p.at) (option_map origin_of first))

      line_same : line ≡ lines_of_repeats (style_at job.style job.limit n) (repeats_of job.command (firsts_of k) (placed_at (origin_of p.at) m.made))
      line_same =
          ap (λ (s : Style). lines_of_repeats s (repeat_at (origin_of p.at) (option_map origin_of first))) style_is ∙ ap (lines_of_repeats (style_at job.style job.limit n)) m.puts.1.repeats

      -- and a front of the line of a repeat
      pub front_repeat : {a w' : Option (List ℕ)} {k'' : Kept} → AppendsFront u w' line → HaltsPiece job p (holds d a w n k) (holds d' a w' n k'')
      front_repeat {a = a} {w' = w'} {k'' = k''} front =
          let bytes = written_of job.command (knows k) m.made in
          let text = p.judged.line.items ++ r.lines in (
            reported text ∷ given bytes ∷ reported front.front ∷ [],
            played_texts d d' w w' n k k'' text bytes front.front (Appends-trans w u w' text front.front r.put front.put) m.puts.0.is_written,
            λ before broken. (j.told, j.found, inr (text, reports r, inr (inr (m.made, m.makes, (front.front, (front.behind, sym line_same ∙ front.whole), refl))))),
          )

      -- or that line, and the elements are counted
      pub gives : {a w' : Option (List ℕ)} {k'' : Kept} {findings : ℕ} → IsPiece job.limits.bytes p.bytes.now → Appends u w' line → IsCounted job p k k' k''
          → findings ≡ findings_in job.command p.judged.finding + cond (is_some first) 1 0 → GivesPiece job p (holds d a w n k) (holds d' a w' n k'') findings
      gives {a = a} {w' = w'} {k'' = k''} {findings = findings} piece put counts number before behind broken =
          let c = job.command in
          let at = origin_of p.at in
          let here = point_at p before broken (holds d a w n k) in
          let text = p.judged.line.items ++ r.lines in
          let (fields, has, added) = counts.fields in
          let e : Entry =
          record { bytes = p.bytes.now; finding = p.judged.finding; told = j.told; made = m.made; lines = text; fields = fields; work = behind } in
          let written : Writes c m.made d d' k k'' = writes_kept c m.made d d' k k' k'' m.puts.0 counts.written in
          let repeats : length (repeats_in job here e) ≡ cond (is_some first) 1 0 =
          ap length (sym m.puts.1.repeats) ∙ repeats_counted at (option_map origin_of first) ∙ ap (λ (b : Bool). cond b 1 0) (sym (some_mapped first)) in (
            e,
            refl,
            record {
              bytes = refl;
              finding = refl;
              is = record { piece = piece; found = j.found; makes = m.makes; reports = reports r; has = has };
              played = subst (λ (l : List ℕ). Played (reported text ∷ given (written_of c (knows k) m.made) ∷ reported l ∷ []) (holds d a w n k) (holds d' a w' n k'')) line_same
                  (played_texts d d' w w' n k k'' text (written_of c (knows k) m.made) line (Appends-trans w u w' text line r.put put) m.puts.0.is_written);
              kept = λ i. record {
                known = λ (x : List ℕ). written.is_known x i;
                firsts = (ap origins_of counts.written.1 ∙ m.puts.1.placed) i;
                count = written.is_counted i;
                gathered = (added ∙ ap (λ (t : Gathered). fold with_document t fields) counts.table) i;
              };
            },
            number ∙ ap (λ (x : ℕ). findings_in c p.judged.finding + x) (sym repeats),
          )
