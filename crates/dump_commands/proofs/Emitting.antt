-- What is written of a document, and how what was written stays as it is.
use Rattle.std.proofs.Common.{◌≡◌, ◌⊎◌, ℕ, List, [], ◌∷◌, ◌++◌, Bool, true, false, Option, None, arith, codes, flat_map, inl, inr, length, sym, ap, ◌∙◌, subst, refl, append-nil}
use Rattle.std.specs.Io.KnownBytes.{Appends}
use Rattle.std.proofs.KnownBytes.{Appends-nil}
use Rattle.bson_to_json.specs.Errors.{TellsWriteError}
use Rattle.bson_to_json.specs.Json.{IsJson}
use Rattle.bson_to_json.specs.Written.{WroteFront}
use Rattle.bson_to_json.specs.declared.error.WriteJsonError.{WriteJsonError}
use Rattle.bson_to_json.specs.declared.error.WriteJsonError.TheVariants as error
use Rattle.bson_to_json.specs.declared.style.Style as json
use Rattle.raw_tree.specs.CanonicalForm.{IsCanonicalForm}
use Rattle.raw_tree.specs.declared.reader.limits.Limits.{Limits}
use Rattle.dump_commands.proofs.state.Known.{known_same}
use Rattle.dump_commands.specs.state.Gathered.{KeepsWritten}
use Rattle.dump_io.specs.lines.Fronts.{AppendsFront, WritesFront}
use Rattle.dump_commands.specs.Emitting.{Emits, IsMade, Puts, Writes}
use Rattle.dump_commands.specs.Making.{IsJsonLine, Makes, MakesIf, MakesOf, is_unique, spelled}
use Rattle.dump_io.proofs.Face.{front_behind, front_first}
use Rattle.dump_commands.specs.state.Forms.{CountsOne, Made, firsts_of, knows, made_as, origins_of, plain}
use Rattle.dump_commands.specs.Unique.{kept_if, kept_of, known_if, writes_once, written_of}
use Rattle.dump_commands.specs.declared.command.Command.{Command}
use Rattle.dump_commands.specs.declared.command.Command.TheVariants as command
use Rattle.dump_commands.specs.declared.gathering.Gathering.{Gathering}
use Rattle.dump_commands.specs.declared.making.Making.{Making}
use Rattle.dump_commands.specs.declared.making.Making.TheVariants as making
use Rattle.dump_commands.specs.declared.making.Spelling.{Spelling}
use Rattle.dump_commands.specs.declared.reporting.Report.{Report}
use Rattle.dump_commands.specs.declared.state.kept.Kept.{Kept}
use Rattle.dump_io.specs.declared.lines.origin.Origin.{Origin}
use Rattle.dump_commands.proofs.Repeating.{firsts_none, repeats_none}
use Rattle.dump_io.specs.declared.lines.find.Finding.{Finding}
use Rattle.dump_io.specs.declared.lines.find.Finding.TheVariants as finding

nothing_kept : (once : Bool) (known : List ℕ → Bool) → kept_if once known [] ≡ []
nothing_kept true known = refl
nothing_kept false known = refl

nothing_known : (once : Bool) (known : List ℕ → Bool) (d : List ℕ) → known d ≡ known_if once known [] d
nothing_known true known d = refl
nothing_known false known d = refl

-- nothing is made
pub writes_none : (c : Command) (out : Option (List ℕ)) (k : Kept) → Writes c [] out out k k
writes_none c out k = record {
  is_written = subst (λ l. Appends out out (flat_map (λ (m : Made). m.bytes) l)) (sym (nothing_kept (writes_once c) (knows k))) (Appends-nil out);
  is_known = nothing_known (writes_once c) (knows k);
  is_counted = let none : length (kept_of c (knows k) []) ≡ 0 = ap length (nothing_kept (writes_once c) (knows k)) in omega arith;
}

-- the same is written and known where no more is counted
pub writes_kept : (c : Command) (made : List Made) (d d' : Option (List ℕ)) (k k' k'' : Kept) → Writes c made d d' k k' → KeepsWritten k' k'' → Writes c made d d' k k''
writes_kept c made d d' k k' k'' writes (count, digests) = record {
  is_written = writes.is_written;
  is_known = λ x. known_same k' k'' x digests ∙ writes.is_known x;
  is_counted = count ∙ writes.is_counted;
}

-- nothing is made of a document
pub nothing_put : (c : Command) (at : Origin) (out : Option (List ℕ)) (k : Kept) → Puts c at [] out out k k None
nothing_put c at out k = (writes_none c out k, record { placed = sym (firsts_none (writes_once c) (firsts_of k)); repeats = sym (repeats_none (writes_once c) (firsts_of k)) })

pub nothing_emitted : (c : Command) (at : Origin) (b : List ℕ) (f : Finding) (out : Option (List ℕ)) (k : Kept) → Makes c b f [] → Emits c at b f out out k k None
nothing_emitted c at b f out k nothing = ([], nothing, nothing_put c at out k)

-- the command writes nothing
pub unwritten : (c : Command) (at : Origin) (b : List ℕ) (f : Finding) (out : Option (List ℕ)) (k : Kept)
    → ((r : Report) × (c ≡ command.Prints r)) ⊎ ((g : Gathering) × (c ≡ command.Gathers g)) → Emits c at b f out out k k None
unwritten c at b f out k (inl (r, e)) = nothing_emitted c at b f out k (rw e refl)
unwritten c at b f out k (inr (g, e)) = nothing_emitted c at b f out k (rw e refl)

-- no damage is found
abbrev pub IsClean : Finding → Type 0
IsClean f = (f ≡ finding.Canonical) ⊎ (f ≡ finding.Breached)

makes_if : (Is : List ℕ → Type 0) (f : Finding) (text : List ℕ) → IsClean f → Is text → MakesIf Is f (plain text ∷ [])
makes_if Is f text (inl canonical) is = rw canonical (text, is, refl)
makes_if Is f text (inr breached) is = rw breached (text, is, refl)

-- of each of these documents one text is made, and all are written
-- such a text is written, and counted
abbrev pub IsTextPut : (Is : List ℕ → Type 0) → (d d' : Option (List ℕ)) → (kept : Kept × Kept) → Type 0
IsTextPut Is d d' kept = (text : List ℕ) × Is text × Appends d d' text × CountsOne kept.0 kept.1

module _ (m : Making) (all : is_unique m ≡ false) (Is : List ℕ → Type 0) (b : List ℕ) (f : Finding)
    (makes : (made : List Made) → MakesIf Is f made → MakesOf m b f made) (clean : IsClean f) (d d' : Option (List ℕ)) where
  one_written : (text : List ℕ) (known : List ℕ → Bool) → text ≡ flat_map (λ (m : Made). m.bytes) (kept_if (is_unique m) known (plain text ∷ []))
  one_written text known = rw all (sym (append-nil text))

  pub text_emitted : (at : Origin) (kept : Kept × Kept) → IsTextPut Is d d' kept → Emits (command.Writes m) at b f d d' kept.0 kept.1 None
  text_emitted at (k, k') (text, is, put, (counted, same)) = (
    plain text ∷ [],
    makes (plain text ∷ []) (makes_if Is f text clean is),
    (
      record {
        is_written = subst (Appends d d') (one_written text (knows k)) put;
        is_known = λ x. rw all (known_same k k' x same);
        is_counted = rw all counted;
      },
      record { placed = rw all (ap origins_of same); repeats = rw all refl },
    ),
  )

  -- or a front of it
  pub text_front : (k : Kept) → WritesFront Is d d' → WritesFront (IsMade (command.Writes m) b f k) d d'
  text_front k (inl same) = inl same
  text_front k (inr (text, is, front)) = inr (text, (plain text ∷ [], makes (plain text ∷ []) (makes_if Is f text clean is), one_written text (knows k)), front)

pub json_emitted : (style : json.Style) (at : Origin) (b : List ℕ) (f : Finding) (d d' : Option (List ℕ)) (k k' : Kept) → IsClean f
    → (text : List ℕ) × IsJson style b text × Appends d d' (text ++ codes "\n") × CountsOne k k' → Emits (command.Writes (making.Json style)) at b f d d' k k' None
json_emitted style at b f d d' k k' clean (text, is, put, counted) =
    text_emitted (making.Json style) refl (IsJsonLine style b) b f (λ made is. is) clean d d' at (k, k') (text ++ codes "\n", (text, is, refl), put, counted)

json_front : (style : json.Style) (b : List ℕ) (d d' : Option (List ℕ)) → WroteFront style b d d' → WritesFront (IsJsonLine style b) d d'
json_front style b d d' (text, is, front) =
    let same : AppendsFront d d' text = record { front = front.front; behind = front.behind; whole = front.whole; put = front.put } in
    inr (text ++ codes "\n", (text, is, refl), front_first d d' text (codes "\n") same)

-- the writer of Extended JSON failed
pub json_failed : (limits : Limits) (style : json.Style) (b : List ℕ) (d d' : Option (List ℕ)) (e : WriteJsonError) → TellsWriteError limits style b d d' e
    → WritesFront (IsJsonLine style b) d d'
json_failed limits style b d d' (error.Barrier barrier) (tells, same) = inl same
json_failed limits style b d d' error.OutOfMemory (within, inl same) = inl same
json_failed limits style b d d' error.OutOfMemory (within, inr wrote) = json_front style b d d' wrote
json_failed limits style b d d' (error.Writing e) (t, reads, wrote) = json_front style b d d' wrote

-- its line feed isn't written
pub json_unended : (style : json.Style) (b : List ℕ) (d d' d'' : Option (List ℕ)) → (text : List ℕ) × IsJson style b text × Appends d d' text → AppendsFront d' d'' (codes "\n")
    → WritesFront (IsJsonLine style b) d d''
json_unended style b d d' d'' (text, is, put) front = inr (text ++ codes "\n", (text, is, refl), front_behind d d' d'' text (codes "\n") put front)

-- what is made of a document with this canonical form, and this is written of it
abbrev pub form_made : Making → (b form : List ℕ) → List Made
form_made m b form = made_as (spelled m b form) form ∷ []

abbrev pub IsFormWritten : Making → List ℕ → Kept → List ℕ → Type 0
IsFormWritten m b k text = (form : List ℕ) × IsCanonicalForm b form × (text ≡ written_of (command.Writes m) (knows k) (form_made m b form))

pub spelled_made : (m : Making) (b form text : List ℕ) (k : Kept) → text ≡ spelled m b form
    → written_of (command.Writes m) (knows k) (made_as text form ∷ []) ≡ written_of (command.Writes m) (knows k) (form_made m b form)
spelled_made m b form text k same = ap (λ (x : List ℕ). written_of (command.Writes m) (knows k) (made_as x form ∷ [])) same

-- a command that makes canonical forms
abbrev pub MakesForms : Making → Type 0
MakesForms m = (m ≡ making.Canon) ⊎ ((s : Spelling) × (m ≡ making.Unique s))

makes_form : (m : Making) (b form : List ℕ) (f : Finding) → MakesForms m → f ≡ finding.Breached → IsCanonicalForm b form → MakesOf m b f (form_made m b form)
makes_form m b form f (inl e) breached is = rw (e, breached) (form, is, refl)
makes_form m b form f (inr (s, e)) breached is = rw (e, breached) (form, is, refl)

-- it is put
abbrev pub IsFormPut : Making → Origin → (b : List ℕ) → (d d' : Option (List ℕ)) → (k k' : Kept) → Option Origin → Type 0
IsFormPut m at b d d' k k' first = (form : List ℕ) × IsCanonicalForm b form × Puts (command.Writes m) at (form_made m b form) d d' k k' first

-- of a document that isn't canonical it is written
pub form_emitted : (m : Making) (at : Origin) (b : List ℕ) (f : Finding) (d d' : Option (List ℕ)) (k k' : Kept) (first : Option Origin) → MakesForms m → f ≡ finding.Breached
    → IsFormPut m at b d d' k k' first → Emits (command.Writes m) at b f d d' k k' first
form_emitted m at b f d d' k k' first makes breached (form, is, puts) = (form_made m b form, makes_form m b form f makes breached is, puts)

-- or a front of it
pub form_front : (m : Making) (b : List ℕ) (f : Finding) (k : Kept) (d d' : Option (List ℕ)) → MakesForms m → f ≡ finding.Breached
    → WritesFront (IsFormWritten m b k) d d' → WritesFront (IsMade (command.Writes m) b f k) d d'
form_front m b f k d d' makes breached (inl same) = inl same
form_front m b f k d d' makes breached (inr (text, (form, is, it), front)) = inr (text, (form_made m b form, makes_form m b form f makes breached is, it), front)
