-- Bytes that are read ahead.
use Rattle.std.proofs.Common.{◌≡◌, ℕ, suc, ◌+◌, ◌-◌, ◌≤◌, List, [], ◌∷◌, ◌++◌, Option, None, Some, IfSome, append_assoc, arith, length, length-drop, length-take-le, take, drop, min, sym, ap, ◌∙◌, refl, append-nil, subst}
use Rattle.std.proofs.Math.Seq.{drop-append_seam}
use Rattle.std.proofs.lemmas.List.{drop-take, drop-drop, length-take, take-append-drop, take-take}
use Rattle.std.specs.Io.KnownBytes.{Consumes, IsAtEnd}
use Rattle.dump_io.specs.input.Reading.{IsWindow, ReadsAhead, ahead_of}
use Rattle.dump_io.specs.declared.input.window.Window.{Window}

-- how many bytes are ahead
pub len_ahead : (w : Window) → IsWindow w → length (ahead_of w) ≡ w.len
len_ahead w is =
    let size : length (drop w.at w.room.items) ≡ length w.room.items - w.at = length-drop w.at w.room.items in
    length-take-le w.len (drop w.at w.room.items) (omega arith)

-- some bytes are passed
pub passed_ahead : (at len n : ℕ) (room : List ℕ) → n ≤ length (take len (drop at room)) → take (len - n) (drop (at + n) room) ≡ drop n (take len (drop at room))
passed_ahead at len n room h =
    let size : length (take len (drop at room)) ≡ min len (length (drop at room)) = length-take len (drop at room) in
    let same : n + (len - n) ≡ len = omega arith in
    ap (take (len - n)) (sym (drop-drop n at room)) ∙ sym (drop-take n (len - n) (drop at room)) ∙ ap (λ k. drop n (take k (drop at room))) same

pub passed_within : (at len n : ℕ) (room : List ℕ) → n ≤ length (take len (drop at room)) → at + len ≤ length room → (at + n) + (len - n) ≤ length room
passed_within at len n room h within =
    let size : length (take len (drop at room)) ≡ min len (length (drop at room)) = length-take len (drop at room) in
    omega arith

-- two reads one after another
pub looks_on : (a b c : Option (List ℕ)) (x y z : List ℕ) → ReadsAhead a b x y → ReadsAhead b c y z → ReadsAhead a c x z
looks_on a b c x y z p q =
    let less : length x ≤ length y = p.len in
    let more : length y ≤ length z = q.len in
    record {
      is_read = λ before read. q.is_read before (p.is_read before read);
      len = omega arith;
      kept = sym (take-take (length x) (length y) z less) ∙ ap (take (length x)) q.kept ∙ p.kept;
    }

-- a reader that is at its end has given all
pub all_ahead : (s ahead : List ℕ) (r : Option (List ℕ)) → Consumes (Some s) r ahead → IsAtEnd r → s ≡ ahead
all_ahead s ahead None read end = absurd read
all_ahead s ahead (Some rest) read end = read ∙ ap (λ l. ahead ++ l) end ∙ append-nil ahead

-- what is ahead is at the front of all
pub front_ahead : (s ahead : List ℕ) (r : Option (List ℕ)) → Consumes (Some s) r ahead → (rest : List ℕ) × (s ≡ ahead ++ rest)
front_ahead s ahead None read = absurd read
front_ahead s ahead (Some rest) read = (rest, read)

-- what was ahead is at the front of what is ahead now
pub front_kept : (x y : List ℕ) → take (length x) y ≡ x → (rest : List ℕ) × (y ≡ x ++ rest)
front_kept x y kept = (drop (length x) y, sym (take-append-drop (length x) y) ∙ ap (λ l. l ++ drop (length x) y) kept)

pub nil_of_none : (s : List ℕ) → length s ≡ 0 → s ≡ []
nil_of_none [] none = refl
nil_of_none (x ∷ xs) none = let some : length (x ∷ xs) ≡ suc (length xs) = refl in absurd (omega arith)

-- what holds of what is left after these bytes, for each input, holds of the rest of the known input
pub input_behind : (bytes x : List ℕ) (r r' : Option (List ℕ)) (P : List ℕ → Type 0) → Consumes r r' (bytes ++ x) → ((s : List ℕ) → Consumes (Some s) r' x → P s)
    → IfSome r (λ s. P (drop (length bytes) s))
input_behind bytes x None r' P read holds = tt
input_behind bytes x (Some s) None P read holds = absurd read
input_behind bytes x (Some s) (Some rest) P read holds =
    let behind : drop (length bytes) s ≡ x ++ rest = ap (drop (length bytes)) (read ∙ append_assoc bytes x rest) ∙ drop-append_seam bytes (x ++ rest) in
    subst P (sym behind) (holds (x ++ rest) refl)
