-- What is so of each command that writes documents, and what it makes of one in which something is found.
use Rattle.std.specs.Prelude.{◌≡◌, Bool, true, false, ℕ, List, [], ◌∷◌, ◌++◌, Option, None, Some, codes}
use Rattle.raw_tree.specs.CanonicalForm.{IsCanonicalForm}
use Rattle.bson_to_json.specs.Json.{IsJson}
use Rattle.bson_to_json.specs.declared.style.Style as json
use Rattle.dump_commands.specs.Picking.{IsPickedAs, is_dump}
use Rattle.dump_commands.specs.state.Forms.{Made, made_as, plain}
use Rattle.dump_commands.specs.Texts.{MakesKept}
use Rattle.dump_commands.specs.declared.command.Breaches.{Breaches}
use Rattle.dump_commands.specs.declared.command.Breaches.TheVariants as breaches
use Rattle.dump_commands.specs.declared.command.Profile.{Profile}
use Rattle.dump_commands.specs.declared.command.Summaries.TheVariants as summaries
use Rattle.dump_commands.specs.declared.command.Command.{Command}
use Rattle.dump_commands.specs.declared.command.Command.TheVariants as command
use Rattle.dump_commands.specs.declared.making.Making.{Making}
use Rattle.dump_commands.specs.declared.making.Making.TheVariants as making
use Rattle.dump_commands.specs.declared.making.Spelling.TheVariants as spelling
use Rattle.dump_commands.specs.declared.picking.Picking.{Picking}
use Rattle.dump_commands.specs.declared.texts.Texts.{Texts}
use Rattle.dump_commands.specs.declared.texts.Texts.TheVariants as texts
use Rattle.dump_io.specs.declared.lines.find.Finding.{Finding}
use Rattle.dump_io.specs.declared.lines.find.Finding.TheVariants as finding

-- what comes of documents that aren't canonical: canon writes another in place of such a one, and counts it
abbrev pub making_breaches : Making → Breaches
making_breaches making.Canon = breaches.Counted
making_breaches (making.Sound t) = breaches.Ignored
making_breaches (making.Unique s) = breaches.Ignored
making_breaches (making.Json style) = breaches.Ignored
making_breaches (making.Pick picking) = breaches.Ignored

-- they look into documents, and tell at the end what was counted
abbrev pub making_profile : Making → Profile
making_profile m = record { looks = true; breaches = making_breaches m; summaries = summaries.Last }

-- whether BSON is written
abbrev pub is_bson : Making → Bool
is_bson making.Canon = true
is_bson (making.Sound t) = true
is_bson (making.Unique s) = true
is_bson (making.Json style) = false
is_bson (making.Pick picking) = is_dump picking.form

-- whether one document of each form is written, and no other
abbrev pub is_unique : Making → Bool
is_unique making.Canon = false
is_unique (making.Sound t) = false
is_unique (making.Unique s) = true
is_unique (making.Json style) = false
is_unique (making.Pick picking) = false

-- what comes of texts that aren't UTF-8
abbrev pub texts_of : Making → Texts
texts_of making.Canon = texts.Checked
texts_of (making.Sound t) = t
texts_of (making.Unique s) = texts.Checked
texts_of (making.Json style) = texts.Checked
texts_of (making.Pick picking) = texts.Checked

-- which elements are picked
abbrev pub picking_of : Making → Option Picking
picking_of making.Canon = None
picking_of (making.Sound t) = None
picking_of (making.Unique s) = None
picking_of (making.Json style) = None
picking_of (making.Pick picking) = Some picking

-- what is written of a piece b with this canonical form: the form, or the piece as it is
abbrev pub spelled : Making → (b form : List ℕ) → List ℕ
spelled (making.Unique spelling.Original) b form = b
spelled (making.Unique spelling.Canonical) b form = form
spelled making.Canon b form = form
spelled (making.Sound t) b form = form
spelled (making.Json style) b form = form
spelled (making.Pick picking) b form = form

-- what is made of a piece b in which this is found: what is written of it, and its form; nothing if it is damaged or too deep, or wasn't looked into
abbrev pub MakesForm : Making → List ℕ → Finding → List Made → Type 0
MakesForm m b finding.Canonical made = made ≡ plain b ∷ []
MakesForm m b finding.Breached made = (form : List ℕ) × IsCanonicalForm b form × (made ≡ made_as (spelled m b form) form ∷ [])
MakesForm m b finding.Damaged made = made ≡ []
MakesForm m b finding.TooDeep made = made ≡ []
MakesForm m b finding.Unvalidated made = made ≡ []

-- what is made of a piece in which no damage is found, if this is so of it; nothing of any other
abbrev pub MakesIf : (List ℕ → Type 0) → Finding → List Made → Type 0
MakesIf is finding.Canonical made = (text : List ℕ) × is text × (made ≡ plain text ∷ [])
MakesIf is finding.Breached made = (text : List ℕ) × is text × (made ≡ plain text ∷ [])
MakesIf is finding.Damaged made = made ≡ []
MakesIf is finding.TooDeep made = made ≡ []
MakesIf is finding.Unvalidated made = made ≡ []

-- a line is the text of the document b as Extended JSON, and a line feed
abbrev pub IsJsonLine : json.Style → (b line : List ℕ) → Type 0
IsJsonLine style b line = (text : List ℕ) × IsJson style b text × (line ≡ text ++ codes "\n")

-- what sound makes of a piece b: the piece itself, or what a damaged one is kept as
abbrev pub MakesSound : Texts → List ℕ → Finding → List Made → Type 0
MakesSound t b finding.Canonical made = made ≡ plain b ∷ []
MakesSound t b finding.Breached made = made ≡ plain b ∷ []
MakesSound t b finding.Damaged made = MakesKept t b made
MakesSound t b finding.TooDeep made = made ≡ []
MakesSound t b finding.Unvalidated made = made ≡ []

-- what is made of a piece b in which this is found: of canon and unique its canonical form, or of unique the piece itself, where it is asked for; of json its
-- line; of pick what is written of some of its elements
abbrev pub MakesOf : Making → List ℕ → Finding → List Made → Type 0
MakesOf making.Canon b found made = MakesForm making.Canon b found made
MakesOf (making.Sound t) b found made = MakesSound t b found made
MakesOf (making.Unique s) b found made = MakesForm (making.Unique s) b found made
MakesOf (making.Json style) b found made = MakesIf (IsJsonLine style b) found made
MakesOf (making.Pick picking) b found made = MakesIf (IsPickedAs picking b) found made

-- the same of any command
abbrev pub Makes : Command → List ℕ → Finding → List Made → Type 0
Makes (command.Prints r) b found made = made ≡ []
Makes (command.Gathers g) b found made = made ≡ []
Makes (command.Writes m) b found made = MakesOf m b found made
