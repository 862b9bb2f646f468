-- How the differences of two inputs are told.
use Rattle.std.specs.Prelude.{◌≡◌, ◌⊎◌, ◌++◌, ◌∷◌, ℕ, List, [], Bool, true, false, Option, None, Some, bytes_eq, codes, cond, decimal, map, nat_lt}
use Rattle.std.specs.Option.{option_map}
use Rattle.std.specs.String.{string_bytes}
use Rattle.json.specs.Token.{Token, begin_array, end_array, key, null, number, string}
use Rattle.dump_io.specs.lines.Fronts.{HasFront}
use Rattle.dump_io.specs.lines.Origins.{Origin}
use Rattle.dump_io.specs.lines.Quoting.{quoted}
use Rattle.dump_io.specs.lines.Told.{head_members, line, object_line}
use Rattle.dump_io.specs.declared.lines.style.Style.{Style}
use Rattle.dump_io.specs.declared.lines.style.Style.TheVariants as style
use Rattle.dump_commands.specs.Summary.{count_members, count_text, next_text}
use Rattle.dump_commands.specs.diff.Again.{IsFormAgain, ShowsKey, ShowsPaths, safe_text}
use Rattle.dump_commands.specs.diff.Pairs.{Change, Told, added, changed, differences_in, removed, told_of}
use Rattle.dump_commands.specs.diff.Sides.{Side, Sides}
use Rattle.dump_commands.specs.elements.Changes.{Listing, changes_words, listing_by}
use Rattle.dump_commands.specs.declared.diff.lines.Details as code
use Rattle.dump_commands.specs.declared.diff.pairs.Differences.{Differences}
use Rattle.dump_commands.specs.declared.diff.tell.Telling.{Telling}

-- what is found of a document, in a word
abbrev pub word_of : Change → List ℕ
word_of (changed new) = codes "changed"
word_of removed = codes "removed"
word_of added = codes "added"

-- the key of a document as canonical Extended JSON, and the paths at which it differs, where these are known
pub record Details : Type 0 where
  pub json : Option (List ℕ)
  pub paths : Option Listing

-- those that the code knows
abbrev pub details_of : code.Details → Details
details_of details = record { json = option_map string_bytes details.json; paths = option_map listing_by details.paths }

-- the key, after the word; words in its place where no path leads to an element, or the document isn't read again
abbrev pub key_words : Option (List ℕ) → List ℕ
key_words None = codes " (not read again)"
key_words (Some json) = cond (bytes_eq json (codes "{}")) (codes " (no key)") (codes " " ++ safe_text json)

-- where the partner of a document that is changed begins
abbrev pub new_words : Change → List ℕ
new_words (changed new) = codes ", now at " ++ decimal new.place.offset
new_words removed = []
new_words added = []

-- the paths, after that
abbrev pub paths_words : Option Listing → List ℕ
paths_words None = []
paths_words (Some paths) = codes ": " ++ changes_words paths

-- what is told of a document, in words
abbrev pub change_words : Change → Details → List ℕ
change_words c details = word_of c ++ key_words details.json ++ new_words c ++ paths_words details.paths

-- the same as members of an object
abbrev pub key_members : Option (List ℕ) → List Token
key_members None = key (codes "key") ∷ null ∷ []
key_members (Some json) = key (codes "key") ∷ string json ∷ []

abbrev pub texts_members : List (List ℕ) → List Token
texts_members texts = key (codes "paths") ∷ begin_array ∷ map string texts ++ end_array ∷ []

abbrev pub more_members : (more : ℕ) → List Token
more_members more = cond (nat_lt 0 more) (key (codes "more paths") ∷ number (decimal more) ∷ []) []

abbrev pub paths_members : Option Listing → List Token
paths_members None = []
paths_members (Some paths) = texts_members paths.texts ++ more_members paths.more

abbrev pub new_members : Change → List Token
new_members (changed new) = key (codes "new file") ∷ string new.place.name ∷ key (codes "new offset") ∷ number (decimal new.place.offset) ∷ []
new_members removed = []
new_members added = []

-- what is told of a document, as members of an object
abbrev pub change_members : Change → Details → List Token
change_members c details =
    key (codes "finding") ∷ string (word_of c) ∷ key_members details.json ++ new_members c ++ paths_members details.paths

-- the line of a document that begins there
abbrev pub change_line : Style → Origin → Change → Details → List ℕ
change_line style.Words at c details = line at.name at.offset (change_words c details)
change_line style.Json at c details = object_line (head_members at.name at.offset ++ change_members c details)
change_line style.Quiet at c details = []

-- how many documents there are of each kind, in words, and as members of an object
abbrev pub differences_words : Differences → List ℕ
differences_words n =
    count_text (codes "same", n.same) ++ next_text (codes "changed", n.changed) ++ next_text (codes "removed", n.removed) ++ next_text (codes "added", n.added)

abbrev pub differences_members : Differences → List Token
differences_members n =
    count_members (codes "same", n.same) ++ count_members (codes "changed", n.changed) ++ count_members (codes "removed", n.removed)
    ++ count_members (codes "added", n.added)

-- the line that tells it
abbrev pub differences_line : Style → Differences → List ℕ
differences_line style.Words n = differences_words n ++ codes "\n"
differences_line style.Json n = object_line (differences_members n)
differences_line style.Quiet n = []

-- the line that tells why inputs aren't compared: the one of this name isn't read to its end
abbrev pub uncompared_line : Style → (name : List ℕ) → List ℕ
uncompared_line style.Words name = quoted name ++ codes ": not read to its end, so nothing is compared\n"
uncompared_line style.Json name = object_line (key (codes "file") ∷ string name ∷ key (codes "finding") ∷ string (codes "not compared") ∷ [])
uncompared_line style.Quiet name = []

-- whether nothing is printed
abbrev pub is_quiet : Style → Bool
is_quiet style.Words = false
is_quiet style.Json = false
is_quiet style.Quiet = true

-- the first of two forms that is known
abbrev pub first_known : (before after : Option (List ℕ)) → Option (List ℕ)
first_known (Some form) after = Some form
first_known None after = after

-- Where documents are read again, the bytes of the input of each name are known or not.
module _ (t : Telling) (bytes_of : List ℕ → Option (List ℕ)) where
  -- a document has this form, if it is known
  abbrev pub HasForm : Side → Option (List ℕ) → Type 0
  HasForm s form = IsFormAgain t.limits (bytes_of s.place.name) s form

  -- the line of a document that has no partner, with its key
  abbrev pub IsKeyLine : Side → Change → List ℕ → Type 0
  IsKeyLine s c text =
      (form : Option (List ℕ)) × (json : Option (List ℕ)) × HasForm s form × ShowsKey t.comparing.by.now form json
      × (text ≡ change_line t.style s.place c (record { json = json; paths = None }))

  -- the line of a document that is changed, with its key, which its partner has as well, and the paths at which it differs
  abbrev pub IsChangedLine : Side → (new : Side) → List ℕ → Type 0
  IsChangedLine s new text =
      (before : Option (List ℕ)) × (after : Option (List ℕ)) × (details : Details) × HasForm s before × HasForm new after
      × ShowsKey t.comparing.by.now (first_known before after) details.json × ShowsPaths before after details.paths × (text ≡ change_line t.style s.place (changed new) details)

  -- the line of a document of which this is found
  abbrev pub IsLine : Told → List ℕ → Type 0
  IsLine (s, changed new) text = IsChangedLine s new text
  IsLine (s, removed) text = IsKeyLine s removed text
  IsLine (s, added) text = IsKeyLine s added text

  -- the lines of documents, one after the other
  abbrev pub AreLines : List Told → List ℕ → Type 0
  AreLines [] text = text ≡ []
  AreLines (x ∷ xs) text = (first : List ℕ) × (rest : List ℕ) × IsLine x first × AreLines xs rest × (text ≡ first ++ rest)

  -- what is told of two inputs: the lines of documents, in order, and how many there are of each kind; nothing if quiet
  abbrev pub TellsUnless : (quiet : Bool) → Sides → List ℕ → Type 0
  TellsUnless true all text = text ≡ []
  TellsUnless false all text = (lines : List ℕ) × AreLines (told_of all) lines × (text ≡ lines ++ differences_line t.style (differences_in all))

  abbrev pub TellsDifferences : Sides → List ℕ → Type 0
  TellsDifferences all text = TellsUnless (is_quiet t.style) all text

  -- a front of what comes after the lines of some documents, where those are left: of the next line, or of the last one
  abbrev pub HasNextFront : (last : List ℕ) → (left : List Told) → List ℕ → Type 0
  HasNextFront last [] front = HasFront last front
  HasNextFront last (x ∷ xs) front = (front ≡ []) ⊎ ((first : List ℕ) × IsLine x first × HasFront first front)

  -- a front of the lines of these documents and of the last line
  pub record HasLinesFront (last : List ℕ) (told : List Told) (front : List ℕ) : Type 0 where
    pub passed : List Told
    pub left : List Told
    pub in_order : told ≡ passed ++ left
    pub lines : List ℕ
    pub are : AreLines passed lines
    pub next : List ℕ
    pub is_next : HasNextFront last left next
    pub whole : front ≡ lines ++ next

  -- a front of what is told of two inputs
  abbrev pub TellsFrontUnless : (quiet : Bool) → Sides → List ℕ → Type 0
  TellsFrontUnless true all front = front ≡ []
  TellsFrontUnless false all front = HasLinesFront (differences_line t.style (differences_in all)) (told_of all) front

  abbrev pub TellsFront : Sides → List ℕ → Type 0
  TellsFront all front = TellsFrontUnless (is_quiet t.style) all front
