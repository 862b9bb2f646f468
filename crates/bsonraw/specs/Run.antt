-- What a run of the program reads and writes.
use Rattle.std.specs.Prelude.{ℕ, List, Option}
use Rattle.std.specs.Io.KnownBytes.{Consumes, IsAtEnd, Appends}
use Rattle.bsonraw.specs.Print.{Prints}

-- All was read, and what was written is the output on it. Known bytes are those of a reader and a writer.
pub record Answers (command : List ℕ) (read_old read_new written_old written_new : Option (List ℕ)) (status : ℕ) : Type 0 where
  pub text : List ℕ
  pub output : List ℕ
  pub is_read : Consumes read_old read_new text
  pub to_end : IsAtEnd read_new
  pub printed : Prints command text status output
  pub is_written : Appends written_old written_new output
