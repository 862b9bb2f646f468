-- Writers that are flushed.
use Rattle.std.specs.Prelude.{◌≡◌, Bool, None}
use Rattle.bsonraw_dump.specs.declared.files.prompt.Prompt.{Prompt}

-- Nothing was written to this writer. It is flushed with each write, or once a second; before each write the line of standard error is cleared,
-- or not.
pub record IsUnwritten {W : Type 0} (writer : W) (often clears : Bool) (p : Prompt W) : Type 0 where
  pub same : p.writer ≡ writer
  pub flushed : p.often ≡ often
  pub cleared : p.clears ≡ clears
  pub not_flushed : p.last ≡ None
  pub not_failed : p.failed ≡ None
