-- What came of the bytes that were next in an input of texts.
use Rattle.std.proofs.Common.{◌≡◌, ◌≢◌, ◌⊎◌, inl, inr, ℕ, List, Bool, true, Option, refl}
use Rattle.dump_io.specs.declared.input.turn.Turn.{Turn}
use Rattle.dump_io.specs.declared.lines.style.Style.{Style}
use Rattle.dump_runs.specs.texts.Run.{GoesOn, IsFault, IsSaid, Said, TextPoint, refused, said}
use Rattle.dump_runs.specs.texts.Steps.{Becomes, IsBegun}
use Rattle.dump_runs.specs.declared.texts.cursor.NextText.{NextText}
use Rattle.dump_runs.specs.declared.texts.piece.Went.{Went}
use Rattle.dump_runs.specs.declared.texts.piece.Went.TheVariants as went

-- a run goes on after a document, and after a fault where that is asked for
pub on_of : (style : Style) (here : TextPoint) (ahead : List ℕ) (told : NextText) (what : Went) (text : List ℕ) (says : Said) (behind : Turn) (k : Bool)
    → Becomes style here ahead told what text says behind → (what ≡ went.Document) ⊎ (k ≡ true) → GoesOn k says
on_of style here ahead told what text (said bytes) behind k is asked = tt
on_of style here ahead told what text (refused line) behind k is (inr asked) = asked
on_of style here ahead told went.Document text (refused line) behind k is (inl same) = absurd is
on_of style here ahead told went.Refused text (refused line) behind k is (inl other) = let none : ⊥ = cc in absurd none
on_of style here ahead told went.Astray text (refused line) behind k is (inl other) = let none : ⊥ = cc in absurd none

-- what is no document is a fault
pub fault_of : (style : Style) (here : TextPoint) (ahead : List ℕ) (told : NextText) (what : Went) (text : List ℕ) (says : Said) (behind : Turn)
    → Becomes style here ahead told what text says behind → what ≢ went.Document → IsFault says
fault_of style here ahead told went.Document text says behind is other = absurd (other refl)
fault_of style here ahead told went.Refused text (said bytes) behind is other = absurd is
fault_of style here ahead told went.Astray text (said bytes) behind is other = absurd is
fault_of style here ahead told went.Refused text (refused line) behind is other = tt
fault_of style here ahead told went.Astray text (refused line) behind is other = tt

-- a whole text says what is known of it
pub said_of : (style : Style) (input : Option (List ℕ)) (here : TextPoint) (ahead : List ℕ) (told : NextText) (what : Went) (text : List ℕ) (says : Said) (behind : Turn)
    → (what ≡ went.Astray → ⊥) → Becomes style here ahead told what text says behind → IsSaid style input here text says behind
said_of style input here ahead told went.Document text (said bytes) behind whole is = is
said_of style input here ahead told went.Document text (refused line) behind whole is = absurd is
said_of style input here ahead told went.Refused text (said bytes) behind whole is = absurd is
said_of style input here ahead told went.Refused text (refused line) behind whole is = inl is
said_of style input here ahead told went.Astray text says behind whole is = absurd (whole refl)

-- what is no whole text has a fault
pub begun_of : (style : Style) (here : TextPoint) (ahead : List ℕ) (told : NextText) (text : List ℕ) (says : Said) (behind : Turn)
    → Becomes style here ahead told went.Astray text says behind → (line : List ℕ) × (says ≡ refused line) × IsBegun style here ahead told text line behind
begun_of style here ahead told text (said bytes) behind is = absurd is
begun_of style here ahead told text (refused line) behind is = (line, refl, is)
