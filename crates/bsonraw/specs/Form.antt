-- What the program makes of a document whose canonical form is asked for, before it is printed.
use Rattle.std.specs.Prelude.{◌≡◌, ◌⊎◌, ◌≤◌, List, ℕ, codes, Option, None, Some}
use Rattle.raw_bson.specs.Conversion.{TellsTooLong}
use Rattle.raw_bson.specs.Encoding.{encoding, encoded_len}
use Rattle.raw_bson.specs.Error.{Error}
use Rattle.raw_bson.specs.ErrorKind.{ErrorKind}
use Rattle.raw_bson.specs.ErrorKind.TheVariants as kind
use Rattle.raw_bson.specs.Number.{max_length}
use Rattle.raw_bson.specs.Reason.TheVariants as reason
use Rattle.raw_bson.specs.Tree.{Tree}
use Rattle.raw_bson.specs.WithinLimits.{ReadsWithin, TellsFirstBarrier}
use Rattle.bsonraw.specs.Print.{form_limits}

-- the bytes are the encoding of the tree that the document b is read as within the limits
abbrev pub HasForm : List ℕ → List ℕ → Type 0
HasForm b form = (t : Tree) × ReadsWithin form_limits b t × (encoded_len t ≤ max_length) × (form ≡ encoding t)

-- why there are none: the first barrier, the length of the encoding, or out of memory
abbrev pub LacksForm : List ℕ → Error → Type 0
LacksForm b e = TellsFirstBarrier form_limits b e ⊎ ((t : Tree) × ReadsWithin form_limits b t × TellsTooLong t e)

-- the line of an error that says a limit; the others have a line with kind and key
abbrev pub limit_text : ErrorKind → Option (List ℕ)
limit_text (kind.MalformedValue reason.TooLong) = Some (codes "refused 5\n")
limit_text (kind.MalformedValue reason.TooManyBytes) = Some (codes "refused 6\n")
limit_text (kind.MalformedValue reason.TooDeep) = Some (codes "refused 7\n")
limit_text _ = None
