-- What reading an input gives, where some of it is read ahead.
use Rattle.std.specs.Prelude.{◌≡◌, ◌+◌, ◌≤◌, ◌<◌, ℕ, List, [], ◌++◌, Bool, true, false, Option, IsNone, take, drop, length}
use Rattle.std.specs.Io.KnownBytes.{Consumes, IsAtEnd}
use Rattle.dump_io.specs.input.Cut.{IsPiece, EndsWith}
use Rattle.dump_io.specs.declared.input.ending.Ending.{Ending}
use Rattle.dump_io.specs.declared.input.ending.Ending.TheVariants as ending
use Rattle.dump_io.specs.declared.input.window.Drained.{Drained}
use Rattle.dump_io.specs.declared.input.window.Filled.{Filled}
use Rattle.dump_io.specs.declared.input.window.Next.{Next}
use Rattle.dump_io.specs.declared.input.window.Next.TheVariants as next
use Rattle.dump_io.specs.declared.input.window.Window.{Window}

-- A buffer of which `front` bytes were filled is now filled up to `to.len`; its front is as it was. Unless reading failed, it has at least
-- `enough` bytes, or the input is at its end. `old` and `new` are the known bytes of the reader before and after.
pub record FillsBuffer (old new : Option (List ℕ)) (front enough : ℕ) (buffer filled : List ℕ) (to : Filled) : Type 0 where
  pub len : length filled ≡ length buffer
  pub behind : front ≤ to.len
  pub within : to.len ≤ length filled
  pub kept : take front filled ≡ take front buffer
  pub is_read : (before : Option (List ℕ)) → Consumes before old (take front buffer) → Consumes before new (take to.len filled)
  pub to_end : IsNone to.failure → to.len < enough → IsAtEnd new

-- the bytes ahead are in the room
abbrev pub IsWindow : Window → Type 0
IsWindow w = w.at + w.len ≤ length w.room.items

-- the bytes that were read but not passed
abbrev pub ahead_of : Window → List ℕ
ahead_of w = take w.len (drop w.at w.room.items)

-- how many bytes of the input were passed
abbrev pub offset_of : Window → ℕ
offset_of w = w.offset

-- Bytes were read: `ahead` was ahead before, `more` is ahead now and begins with it.
pub record ReadsAhead (old new : Option (List ℕ)) (ahead more : List ℕ) : Type 0 where
  pub is_read : (before : Option (List ℕ)) → Consumes before old ahead → Consumes before new more
  pub len : length ahead ≤ length more
  pub kept : take (length ahead) more ≡ ahead

-- bytes were read, and none passed: `want` bytes or more are ahead; or fewer, and the input is at its end
pub record SeesAhead (old new : Option (List ℕ)) (window_old window_new : Window) (want : ℕ) (is_there : Bool) : Type 0 where
  pub window : IsWindow window_new
  pub offset : window_new.offset ≡ window_old.offset
  pub looks : ReadsAhead old new (ahead_of window_old) (ahead_of window_new)
  pub there : is_there ≡ true → want ≤ length (ahead_of window_new)
  pub ends : is_there ≡ false → (length (ahead_of window_new) < want) × IsAtEnd new

-- bytes were read, and none passed
pub record Stays (old new : Option (List ℕ)) (window_old window_new : Window) : Type 0 where
  pub window : IsWindow window_new
  pub offset : window_new.offset ≡ window_old.offset
  pub looks : ReadsAhead old new (ahead_of window_old) (ahead_of window_new)

-- this number of bytes was read and passed
pub record Consumed (old new : Option (List ℕ)) (ahead_old ahead_new : List ℕ) (count : ℕ) : Type 0 where
  pub bytes : List ℕ
  pub len : length bytes ≡ count
  pub is_read : (before : Option (List ℕ)) → Consumes before old ahead_old → Consumes before new (bytes ++ ahead_new)

-- bytes were read, and some of them passed
pub record GoesAhead (old new : Option (List ℕ)) (window_old window_new : Window) : Type 0 where
  pub window : IsWindow window_new
  pub count : ℕ
  pub offset : window_new.offset ≡ window_old.offset + count
  pub passes : Consumed old new (ahead_of window_old) (ahead_of window_new) count

-- The rest of an input was read: the bytes ahead and more after them, `rest.count` in all. Unless reading failed, none are left.
pub record ReadsRest (old new : Option (List ℕ)) (ahead : List ℕ) (rest : Drained) : Type 0 where
  pub more : List ℕ
  pub is_read : (before : Option (List ℕ)) → Consumes before old ahead → Consumes before new (ahead ++ more)
  pub len : length (ahead ++ more) ≡ rest.count
  pub to_end : IsNone rest.failure → IsAtEnd new

-- the input was read to its end if it cuts off a document; it need not be after an unsound or a wrong length
abbrev pub IsReadBehind : Ending → Option (List ℕ) → Type 0
IsReadBehind (ending.CutOff count) new = IsAtEnd new
IsReadBehind (ending.Unsound len) new = Unit {0}
IsReadBehind (ending.WrongLength len) new = Unit {0}

-- what is next in the bytes ahead: a document; nothing, at the end of the input; or why there is no document
abbrev pub IsNextPiece : (most : ℕ) → Option (List ℕ) → List ℕ → Next → Type 0
IsNextPiece most new ahead (next.Document len) = (len ≤ length ahead) × IsPiece most (take len ahead)
IsNextPiece most new ahead next.Nothing = (ahead ≡ []) × IsAtEnd new
IsNextPiece most new ahead (next.End ending) = EndsWith most ending ahead × IsReadBehind ending new

-- bytes were read, and none passed; what is next after the first `from` bytes ahead was told
pub record TellsNext (most : ℕ) (old new : Option (List ℕ)) (window_old window_new : Window) (from : ℕ) (told : Next) : Type 0 where
  pub window : IsWindow window_new
  pub offset : window_new.offset ≡ window_old.offset
  pub looks : ReadsAhead old new (ahead_of window_old) (ahead_of window_new)
  pub is : IsNextPiece most new (drop from (ahead_of window_new)) told
