-- What is between the texts of documents in an input, which follow one another or are the items of one array. `Turn` (src/input/turn.rt) says
-- what may come at a place between them.
use Rattle.std.specs.Prelude.{◌≡◌, ◌⊎◌, ℕ, List, [], ◌∷◌, Bool, true, false, Option, None, Some, codes, not}
use Rattle.std.specs.List.{filter}
use Rattle.dump_io.specs.input.Texts.{is_space}
use Rattle.dump_io.specs.declared.input.turn.Turn.{Turn}
use Rattle.dump_io.specs.declared.input.turn.Turn.TheVariants as turn

-- what may come after these marks: the brackets of the one array, and a comma after each item but the last
abbrev pub Leads : Turn → (marks : List ℕ) → (next : Turn) → Type 0
Leads turn.First marks next =
    ((marks ≡ []) × (next ≡ turn.First)) ⊎ (((marks ≡ codes "[") × (next ≡ turn.Item)) ⊎ ((marks ≡ codes "[]") × (next ≡ turn.Last)))
Leads turn.Next marks next = (marks ≡ []) × (next ≡ turn.Next)
Leads turn.Item marks next = ((marks ≡ []) × (next ≡ turn.Item)) ⊎ ((marks ≡ codes "]") × (next ≡ turn.Last))
Leads turn.More marks next = (marks ≡ []) × (next ≡ turn.More)
Leads turn.Comma marks next =
    ((marks ≡ []) × (next ≡ turn.Comma)) ⊎ (((marks ≡ codes ",") × (next ≡ turn.More)) ⊎ ((marks ≡ codes "]") × (next ≡ turn.Last)))
Leads turn.Last marks next = (marks ≡ []) × (next ≡ turn.Last)

-- these bytes may be between texts, and then this may come: white space, with such marks in it
abbrev pub IsBetween : Turn → (bytes : List ℕ) → (next : Turn) → Type 0
IsBetween here bytes next = Leads here (filter (λ b. not (is_space b)) bytes) next

-- what may come after one byte more; nothing, if it can't be there
abbrev pub TurnsTo : Turn → ℕ → Option Turn → Type 0
TurnsTo here b (Some next) = IsBetween here (b ∷ []) next
TurnsTo here b None = (next : Turn) → ¬ IsBetween here (b ∷ []) next

-- whether a document may come
abbrev pub may_begin : Turn → Bool
may_begin turn.Comma = false
may_begin turn.Last = false
may_begin _ = true

-- a byte can't be where this may come: it is neither what may be between documents nor the brace of one
abbrev pub CantBe : Turn → ℕ → Type 0
CantBe t b = TurnsTo t b None × (b ≡ 123 → may_begin t ≡ false)

-- whether the input may end
abbrev pub may_end : Turn → Bool
may_end turn.First = true
may_end turn.Next = true
may_end turn.Last = true
may_end _ = false

-- what comes after a document
abbrev pub turn_after_document : Turn → Turn
turn_after_document turn.Item = turn.Comma
turn_after_document turn.More = turn.Comma
turn_after_document turn.Comma = turn.Comma
turn_after_document _ = turn.Next

-- what comes after bytes that are passed over, unless the input ends there: a document, with no comma before it
abbrev pub turn_after_gap : Turn → Turn
turn_after_gap turn.Item = turn.Item
turn_after_gap turn.More = turn.Item
turn_after_gap turn.Comma = turn.Item
turn_after_gap _ = turn.Next
