-- What is so of each command that gathers something of documents, what any command gathers of one, and how it tells that.
use Rattle.std.specs.Prelude.{◌≡◌, ℕ, List, [], ◌∷◌, Bool, true, false, Option, None, Some, fold}
use Rattle.raw_form.specs.Tokens.{HasTokens}
use Rattle.raw_form.specs.declared.token.Token.{Token}
use Rattle.raw_tree.specs.declared.reader.limits.Limits.{Limits}
use Rattle.dump_io.specs.lines.Origins.{Origin}
use Rattle.dump_io.specs.declared.lines.find.Finding.{Finding}
use Rattle.dump_io.specs.declared.lines.find.Finding.TheVariants as finding
use Rattle.dump_io.specs.declared.lines.style.Style.{Style}
use Rattle.dump_commands.specs.Making.{picking_of}
use Rattle.dump_commands.specs.diff.Sides.{IsSide, Side, is_old}
use Rattle.dump_commands.specs.elements.Having.{HasEach}
use Rattle.dump_commands.specs.elements.Pick.{comma, parts}
use Rattle.dump_commands.specs.state.Fields.{fields_of, outermost, table_text}
use Rattle.dump_commands.specs.state.Gathered.{Document, Gathered, IsMeasured, measure_lines, of_fields, of_seen, of_side, summaries_of, tabled, with_document}
use Rattle.dump_commands.specs.state.Seen.{missing_lines}
use Rattle.dump_commands.specs.declared.command.Breaches.TheVariants as breaches
use Rattle.dump_commands.specs.declared.command.Command.{Command}
use Rattle.dump_commands.specs.declared.command.Command.TheVariants as command
use Rattle.dump_commands.specs.declared.command.Profile.{Profile}
use Rattle.dump_commands.specs.declared.command.Summaries.TheVariants as summaries
use Rattle.dump_commands.specs.declared.diff.sides.Comparing.{Comparing}
use Rattle.dump_commands.specs.declared.gathering.Gathering.{Gathering}
use Rattle.dump_commands.specs.declared.gathering.Gathering.TheVariants as gathering
use Rattle.dump_commands.specs.declared.making.Making.{Making}
use Rattle.dump_commands.specs.declared.picking.Picking.{Picking}
use Rattle.dump_commands.specs.declared.state.kept.Kept.{Kept}

-- what is so of each: those that measure lengths look into no document
abbrev pub gathering_profile : Gathering → Profile
gathering_profile gathering.Fields = record { looks = true; breaches = breaches.Ignored; summaries = summaries.Last }
gathering_profile (gathering.Differences comparing) = record { looks = true; breaches = breaches.Ignored; summaries = summaries.Last }
gathering_profile (gathering.Measure measure) = record { looks = false; breaches = breaches.Ignored; summaries = summaries_of measure }

-- what is gathered of a document in which no damage is found, if this is so of it; nothing of any other
abbrev pub GathersIf : (Document → Type 0) → Finding → List Document → Type 0
GathersIf is finding.Canonical ds = (d : Document) × is d × (ds ≡ d ∷ [])
GathersIf is finding.Breached ds = (d : Document) × is d × (ds ≡ d ∷ [])
GathersIf is finding.Damaged ds = ds ≡ []
GathersIf is finding.TooDeep ds = ds ≡ []
GathersIf is finding.Unvalidated ds = ds ≡ []

-- these are the elements of the document b, which begins there
abbrev pub AreFields : Limits → Origin → List ℕ → Document → Type 0
AreFields limits place b d = (ts : List Token) × HasTokens limits.depth 0 0 b ts × (d ≡ of_fields place (fields_of b (outermost ∷ []) ts))

-- how two inputs are compared, if they are
abbrev pub comparing_of : Gathering → Option Comparing
comparing_of gathering.Fields = None
comparing_of (gathering.Measure measure) = None
comparing_of (gathering.Differences comparing) = Some comparing

-- this is gathered of the document b, which begins there and is compared
abbrev pub HasSide : Limits → Comparing → Origin → List ℕ → Document → Type 0
HasSide limits comparing place b d = (s : Side) × IsSide limits comparing.by.now place b s × (d ≡ of_side (is_old comparing place) s)

-- what is gathered of a piece b at this place, in which this is found: its elements, or what it is compared by, unless it is damaged or too deep; its
-- length, whatever is found
abbrev pub HasGathered : Limits → Gathering → Origin → List ℕ → Finding → List Document → Type 0
HasGathered limits gathering.Fields place b found ds = GathersIf (AreFields limits place b) found ds
HasGathered limits (gathering.Differences comparing) place b found ds = GathersIf (HasSide limits comparing place b) found ds
HasGathered limits (gathering.Measure measure) place b found ds = (d : Document) × IsMeasured measure place b d × (ds ≡ d ∷ [])

-- these of the paths that pick elements lead to one in the document b
abbrev pub AreSeen : Picking → List ℕ → Document → Type 0
AreSeen picking b d = (flags : List Bool) × HasEach picking.choice b (parts comma picking.paths.now) flags × (d ≡ of_seen flags)

-- where elements are picked of a piece b in which this is found, which of the paths lead to one
abbrev pub HasSeen : Option Picking → List ℕ → Finding → List Document → Type 0
HasSeen None b found ds = ds ≡ []
HasSeen (Some picking) b found ds = GathersIf (AreSeen picking b) found ds

-- what a command gathers of a piece b at this place, in which this is found
abbrev pub HasFields : Limits → Command → Origin → List ℕ → Finding → List Document → Type 0
HasFields limits (command.Prints r) place b found ds = ds ≡ []
HasFields limits (command.Gathers g) place b found ds = HasGathered limits g place b found ds
HasFields limits (command.Writes m) place b found ds = HasSeen (picking_of m) b found ds

-- the lines of what was gathered; how documents differ is told apart
abbrev pub gathering_lines : Style → Gathering → Gathered → List ℕ
gathering_lines style gathering.Fields g = table_text g.table
gathering_lines style (gathering.Differences comparing) g = []
gathering_lines style (gathering.Measure measure) g = measure_lines style measure g.measures

-- the lines of the paths that lead to no element in any document
abbrev pub unseen_lines : Style → Option Picking → Gathered → List ℕ
unseen_lines style None g = []
unseen_lines style (Some picking) g = missing_lines style (parts comma picking.paths.now) g.seen

-- the lines of what a command gathered
abbrev pub lines_of : Style → Command → Gathered → List ℕ
lines_of style (command.Prints r) g = []
lines_of style (command.Gathers gathering) g = gathering_lines style gathering g
lines_of style (command.Writes m) g = unseen_lines style (picking_of m) g

-- What the code tells of a document that is gathered.

-- what is gathered of a document is put to what was gathered
abbrev pub PutsAll : (List Document → Type 0) → (kept_old kept_new : Kept) → Type 0
PutsAll has old new = (ds : List Document) × has ds × (tabled new ≡ fold with_document (tabled old) ds)

abbrev pub Gathers : Limits → Gathering → Origin → List ℕ → Finding → (kept_old kept_new : Kept) → Type 0
Gathers limits g place b found old new = PutsAll (HasGathered limits g place b found) old new

abbrev pub Sees : Making → List ℕ → Finding → (kept_old kept_new : Kept) → Type 0
Sees m b found old new = PutsAll (HasSeen (picking_of m) b found) old new

abbrev pub CountsFields : Limits → Command → Origin → List ℕ → Finding → (kept_old kept_new : Kept) → Type 0
CountsFields limits c place b found old new = PutsAll (HasFields limits c place b found) old new
