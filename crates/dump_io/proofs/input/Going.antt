-- What is next in the bytes ahead.
use Rattle.std.proofs.Common.{◌≡◌, ℕ, ℤ, ◌+◌, ◌-◌, ◌<◌, ◌≤◌, ◌⊎◌, List, ◌++◌, Option, Some, Bool, true, false, arith, length, take, drop, sym, ap, ◌∙◌, subst, inr, length-append, length-drop, length-take-le}
use Rattle.std.proofs.lemmas.List.{drop-append-le, take-append-le, take-take}
use Rattle.std.specs.Int.{w32, cast_signed, from_le_bytes}
use Rattle.std.specs.Io.KnownBytes.{Consumes}
use Rattle.dump_io.specs.input.Cut.{EndsWith, IsPiece, IsSoundLength, said_len}
use Rattle.dump_io.specs.declared.input.ending.Ending.{Ending}
use Rattle.dump_io.specs.declared.input.ending.Ending.TheVariants as ending
use Rattle.dump_io.specs.input.Reading.{IsNextPiece, IsReadBehind, SeesAhead, TellsNext, ahead_of}
use Rattle.dump_io.specs.declared.input.window.Next.{Next}
use Rattle.dump_io.specs.declared.input.window.Next.TheVariants as next
use Rattle.dump_io.specs.declared.input.window.Window.{Window}
use Rattle.dump_io.proofs.input.Ahead.{all_ahead, front_ahead, front_kept, looks_on}

pub said_front : (x y : List ℕ) → 4 ≤ length x → said_len (x ++ y) ≡ said_len x
said_front x y four = ap (from_le_bytes w32) (take-append-le 4 x y four)

-- a length that is unsound is so whatever follows it
pub unsound_behind : {most : ℕ} (len : ℤ) (x rest : List ℕ) → EndsWith most (ending.Unsound len) x → EndsWith most (ending.Unsound len) (x ++ rest)
unsound_behind {most} len x rest (four, unsound, same) =
    let size : length (x ++ rest) ≡ length x + length rest = length-append x rest in
    let said : said_len (x ++ rest) ≡ said_len x = said_front x rest four in
    (omega arith, subst (λ n. (n < 5) ⊎ (most < n)) (sym said) unsound, same ∙ ap (cast_signed w32) (sym said))

-- what ends the bytes ahead ends all that is left
pub ends_all : (most : ℕ) (e : Ending) (s x : List ℕ) (r : Option (List ℕ)) → EndsWith most e x → IsReadBehind e r → Consumes (Some s) r x → EndsWith most e s
ends_all most (ending.CutOff count) s x r ends end read = subst (EndsWith most (ending.CutOff count)) (sym (all_ahead s x r read end)) ends
ends_all most (ending.Unsound len) s x r ends end read =
    let (rest, split) = front_ahead s x r read in
    subst (EndsWith most (ending.Unsound len)) (sym split) (unsound_behind len x rest ends)
ends_all most (ending.WrongLength len) s x r ends end read = absurd ends

-- the length at an offset is that of the bytes ahead
pub said_ahead : (s ahead rest : List ℕ) (from : ℕ) → s ≡ ahead ++ rest → from + 4 ≤ length ahead → said_len (drop from s) ≡ said_len (drop from ahead)
said_ahead s ahead rest from split there =
    let size : length (drop from ahead) ≡ length ahead - from = length-drop from ahead in
    ap (λ l. said_len (drop from l)) split ∙ ap said_len (drop-append-le from ahead rest (omega arith)) ∙ said_front (drop from ahead) rest (omega arith)

-- the piece at the front
pub front_piece : {most : ℕ} (a : List ℕ) (len : ℕ) → said_len a ≡ len → IsSoundLength most len → len ≤ length a → IsPiece most (take len a)
front_piece {most} a len said sound within =
    let enough : 5 ≤ len = sound.0 in
    let count : length (take len a) ≡ len = length-take-le len a within in
    let says : said_len (take len a) ≡ len = ap (from_le_bytes w32) (take-take 4 len a (omega arith)) ∙ said in
    record { said = says ∙ sym count; sound = subst (IsSoundLength most) (sym count) sound }

-- fewer bytes are left than the length at their front says
pub cut_off : {most : ℕ} (a : List ℕ) (len count : ℕ) → length a ≡ count → said_len a ≡ len → IsSoundLength most len → 4 ≤ length a → length a < len → EndsWith most (ending.CutOff count) a
cut_off {most} a len count size said sound four few =
    let less : count < len = omega arith in
    (size, omega arith, inr (subst (IsSoundLength most) (sym said) sound, subst (λ n. count < n) (sym said) less))

-- a sound length is ahead after `from` bytes, and the bytes that it says are looked for
module _ {most : ℕ} {r r' r'' : Option (List ℕ)} {x y z : Window} (from len : ℕ) (there more : Bool) (yes' : there ≡ true) (first : SeesAhead r r' x y (from + 4) there)
    (second : SeesAhead r' r'' y z (from + len) more) (said : said_len (drop from (ahead_of y)) ≡ len) (sound : IsSoundLength most len) where
  says : said_len (drop from (ahead_of z)) ≡ len
  says = let (rest, split) = front_kept (ahead_of y) (ahead_of z) second.looks.kept in said_ahead (ahead_of z) (ahead_of y) rest from split (first.there yes') ∙ said

  size : length (drop from (ahead_of z)) ≡ length (ahead_of z) - from
  size = length-drop from (ahead_of z)

  tells_next : (told : Next) → IsNextPiece most r'' (drop from (ahead_of z)) told → TellsNext most r r'' x z from told
  tells_next told is = record {
    window = second.window;
    offset = second.offset ∙ first.offset;
    looks = looks_on r r' r'' (ahead_of x) (ahead_of y) (ahead_of z) first.looks second.looks;
    is = is;
  }

  -- they are all there
  pub tells_document : more ≡ true → TellsNext most r r'' x z from (next.Document len)
  tells_document all =
      let enough : from + len ≤ length (ahead_of z) = second.there all in
      let len' : length (drop from (ahead_of z)) ≡ length (ahead_of z) - from = size in
      let within : len ≤ length (drop from (ahead_of z)) = omega arith in
      tells_next (next.Document len) (within, front_piece (drop from (ahead_of z)) len says sound within)

  -- the input ends before them
  pub tells_cut : (count : ℕ) → more ≡ false → length (ahead_of z) - from ≡ count → TellsNext most r r'' x z from (next.End (ending.CutOff count))
  tells_cut count not left =
      let (few, end) = second.ends not in
      let len' : length (drop from (ahead_of z)) ≡ length (ahead_of z) - from = size in
      let four : from + 4 ≤ length (ahead_of y) = first.there yes' in
      let grown : length (ahead_of y) ≤ length (ahead_of z) = second.looks.len in
      tells_next (next.End (ending.CutOff count)) (cut_off (drop from (ahead_of z)) len count (size ∙ left) says sound (omega arith) (omega arith), end)
