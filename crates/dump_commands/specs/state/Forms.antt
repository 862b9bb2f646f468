-- Forms of which each is given once, by their digests.
use Rattle.std.specs.Prelude.{◌≡◌, ◌+◌, ℕ, List, [], ◌∷◌, ◌++◌, Bool, true, false, Option, None, Some, cond, bytes_eq, is_some, map}
use Rattle.std.specs.BTreeMap.{get}
use Rattle.std.specs.BTreeSet.{contains}
use Rattle.std.specs.Cmp.Lexicographic.{slice_cmp}
use Rattle.std.specs.Option.{option_map}
use Rattle.std.specs.Ordering.{nat_cmp}
use Rattle.sha2.specs.Sha256.{sha256}
use Rattle.dump_commands.specs.declared.state.kept.Added.{Added}
use Rattle.dump_commands.specs.declared.state.kept.Added.TheVariants as added
use Rattle.dump_commands.specs.declared.state.kept.Forms.{Forms}
use Rattle.dump_commands.specs.declared.state.kept.Forms.TheVariants as forms
use Rattle.dump_commands.specs.declared.state.kept.Kept.{Kept}
use Rattle.dump_io.specs.lines.Origins.{Origin, Repeat, origin_of}

-- the digest by which a form is known
unfoldable pub digest_of : List ℕ → List ℕ
digest_of form = sha256 form

-- a document that a command makes: the bytes that are written of it, and the form by whose digest it is known
pub record Made : Type 0 where
  pub bytes : List ℕ
  pub form : List ℕ

abbrev pub made_as : (bytes form : List ℕ) → Made
made_as bytes form = record { bytes = bytes; form = form }

-- one that is known by its own bytes
abbrev pub plain : List ℕ → Made
plain bytes = made_as bytes bytes

-- a form, and the place of the document that it is made of
pub record Placed : Type 0 where
  pub place : Origin
  pub form : List ℕ

abbrev pub placed : Origin → List ℕ → Placed
placed place form = record { place = place; form = form }

-- the forms of what is made of the document at this place
abbrev pub placed_at : Origin → List Made → List Placed
placed_at place made = map (λ (m : Made). placed place m.form) made

-- the places of documents by the digests of their forms; none where no places are kept
abbrev pub Firsts : Type 0
Firsts = Option (List ℕ → Option Origin)

-- no document came yet; places are kept where that is asked for
abbrev pub no_firsts : Bool → Firsts
no_firsts true = Some (λ d. None)
no_firsts false = None

-- the place of the first document with the form's digest, if one came before
abbrev pub first_at : Firsts → List ℕ → Option Origin
first_at None form = None
first_at (Some places) form = places (digest_of form)

-- this place, if none is known
abbrev pub origin_or : Option Origin → Origin → Origin
origin_or (Some first) place = first
origin_or None place = place

-- the places that are known, and that of a form whose digest has none
abbrev pub with_origin : (List ℕ → Option Origin) → Placed → List ℕ → Option Origin
with_origin places p d = cond (bytes_eq (digest_of p.form) d) (Some (origin_or (places d) p.place)) (places d)

abbrev pub with_first : Firsts → Placed → Firsts
with_first None p = None
with_first (Some places) p = Some (with_origin places p)

-- the document at this place repeats the one at that place, if there is one
abbrev pub repeat_at : Origin → Option Origin → List Repeat
repeat_at place None = []
repeat_at place (Some first) = record { place = place; first = first } ∷ []

-- those of these documents whose digest is known or came before, in the order of their arrival, each with the first of that digest
abbrev pub repeats : Firsts → List Placed → List Repeat
repeats firsts [] = []
repeats firsts (p ∷ ps) = repeat_at p.place (first_at firsts p.form) ++ repeats (with_first firsts p) ps

-- whether the digests of forms have this one
abbrev pub has_digest : Forms → List ℕ → Bool
has_digest (forms.Digests digests) d = contains (slice_cmp nat_cmp) digests d
has_digest (forms.Firsts places) d = is_some (get (slice_cmp nat_cmp) places d)

-- whether the digests of the forms of what was written have this one
abbrev pub knows : Kept → List ℕ → Bool
knows kept d = has_digest kept.forms d

-- the places that are kept of the documents that were written
abbrev pub origins_of : Forms → Firsts
origins_of (forms.Digests digests) = None
origins_of (forms.Firsts places) = Some (λ d. option_map origin_of (get (slice_cmp nat_cmp) places d))

abbrev pub firsts_of : Kept → Firsts
firsts_of kept = origins_of kept.forms

-- how many documents were written
abbrev pub written_count : Kept → ℕ
written_count kept = kept.count

-- a document more is counted, and no digest more is known
abbrev pub CountsOne : Kept → Kept → Type 0
CountsOne old new = (new.count ≡ old.count + 1) × (new.forms ≡ old.forms)

-- the digests that are known, and that of a form
abbrev pub with_form : (List ℕ → Bool) → List ℕ → List ℕ → Bool
with_form known form d = cond (bytes_eq (digest_of form) d) true (known d)

-- the same of what is made
abbrev pub with_made : (List ℕ → Bool) → Made → List ℕ → Bool
with_made known m = with_form known m.form

-- what is made, unless the digest of its form is known
abbrev pub if_new : (List ℕ → Bool) → Made → List Made
if_new known m = cond (known (digest_of m.form)) [] (m ∷ [])

-- what is made, in the order of its arrival, without what has a form whose digest is known or came before
abbrev pub first_made : (List ℕ → Bool) → List Made → List Made
first_made known [] = []
first_made known (m ∷ made) = if_new known m ++ first_made (with_made known m) made

-- What the code tells of a form that is put to the others. No public contract cites it.

-- whether it is new
abbrev pub is_new : Added → Bool
is_new added.New = true
is_new (added.Repeat first) = false

-- the place of the first document with its digest, if one came before and its place is known
abbrev pub first_of : Added → Option Origin
first_of added.New = None
first_of (added.Repeat first) = option_map origin_of first
