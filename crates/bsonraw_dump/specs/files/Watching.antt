-- Readers that are looked at while they are read.
use Rattle.std.specs.Prelude.{◌≡◌, ◌∷◌, ◌++◌, ℕ, List, [], codes, false}
use Rattle.dump_io.specs.lines.Quoting.{quoted}
use Rattle.bsonraw_dump.specs.declared.files.watch.About.{About}
use Rattle.bsonraw_dump.specs.declared.files.watch.Watched.{Watched}

-- the reader that is looked at
abbrev pub reader_of : {R : Type 0} → Watched R → R
reader_of w = w.reader

-- Nothing of this reader was read, of which this is known.
pub record IsUnread {R : Type 0} (reader : R) (about : About) (w : Watched R) : Type 0 where
  pub same : w.reader ≡ reader
  pub known : w.about ≡ about
  pub not_begun : w.is_begun ≡ false

-- The line that shows how far the reading of an input has come: in place of the one before it, its name in quotes, then these words. The
-- next line goes over it.
abbrev pub progress_line : List ℕ → List ℕ → List ℕ
progress_line name words = 0x1B ∷ codes "[K" ++ quoted name ++ codes ": " ++ words ++ 0x0D ∷ []
