-- What is at the front of the rest of an input.
use Rattle.std.proofs.Common.{◌≡◌, ℕ, suc, ◌+◌, ◌-◌, ◌<◌, ◌≤◌, List, [], ◌∷◌, ◌++◌, Bool, arith, length, take, drop, sym, ap, ◌∙◌, subst, inl, inr, append-nil, length-append, length-drop, length-take-le}
use Rattle.std.proofs.lemmas.List.{drop-append-le, drop-drop, take-append-drop, take-append-le, take-take}
use Rattle.std.proofs.Math.Seq.{take-append_seam, drop-append_seam}
use Rattle.std.specs.Int.{w32, from_le_bytes}
use Rattle.raw_tree.specs.declared.reader.limits.Limits.{Limits}
use Rattle.raw_resync.specs.Pieces.{IsPiece, IsSoundLength, said_len}
use Rattle.raw_resync.specs.Searches.{IsBegun, IsLikely}
use Rattle.raw_resync.specs.Seeking.{LacksPiece, LacksTag, MayFollow, TellsFront}
use Rattle.raw_resync.specs.declared.check.Front.TheVariants as front
use Rattle.raw_view.specs.Frame.Kind.{tag_of}

pub said_front : (x y : List ℕ) → 4 ≤ length x → said_len (x ++ y) ≡ said_len x
said_front x y four = ap (from_le_bytes w32) (take-append-le 4 x y four)

-- the length at the front is that of the piece at the front
pub front_said : (most : ℕ) (s b rest : List ℕ) → IsPiece most b → s ≡ b ++ rest → said_len s ≡ length b
front_said most s b rest is split = let enough : 5 ≤ length b = is.sound.0 in ap said_len split ∙ said_front b rest (omega arith) ∙ is.said

-- only one piece is at the front
pub same_front : (most : ℕ) (s b rest c more : List ℕ) → IsPiece most b → s ≡ b ++ rest → IsPiece most c → s ≡ c ++ more → (b ≡ c) × (rest ≡ more)
same_front most s b rest c more is split is' split' =
    let same : length b ≡ length c = sym (front_said most s b rest is split) ∙ front_said most s c more is' split' in
    let both : b ++ rest ≡ c ++ more = sym split ∙ split' in (
      sym (take-append_seam b rest) ∙ ap (take (length b)) both ∙ ap (λ n. take n (c ++ more)) same ∙ take-append_seam c more,
      sym (drop-append_seam b rest) ∙ ap (drop (length b)) both ∙ ap (λ n. drop n (c ++ more)) same ∙ drop-append_seam c more,
    )

-- no piece is at the front of t, whatever follows it
pub no_piece : (most : ℕ) (last : Bool) (t rest b more : List ℕ) → LacksPiece most last t → MayFollow last rest → IsPiece most b → ¬ (t ++ rest ≡ b ++ more)
no_piece most last t rest b more (inl (is, some, inl short)) may piece split =
    let enough : 5 ≤ length b = piece.sound.0 in
    let none : length rest ≡ 0 = ap length (may is) in
    let len : length t + length rest ≡ length b + length more = sym (length-append t rest) ∙ ap length split ∙ length-append b more in
    absurd (omega arith)
no_piece most last t rest b more (inl (is, some, inr cut)) may piece split =
    let none : length rest ≡ 0 = ap length (may is) in
    let whole : t ≡ b ++ more = sym (append-nil t) ∙ ap (λ l. t ++ l) (sym (may is)) ∙ split in
    let said : said_len t ≡ length b = front_said most t b more piece whole in
    let len : length t + length rest ≡ length b + length more = sym (length-append t rest) ∙ ap length split ∙ length-append b more in
    absurd (omega arith)
no_piece most last t rest b more (inr (four, inl few)) may piece split =
    let said : said_len (t ++ rest) ≡ length b = front_said most (t ++ rest) b more piece split in
    let same : said_len (t ++ rest) ≡ said_len t = said_front t rest four in
    let enough : 5 ≤ length b = piece.sound.0 in
    absurd (omega arith)
no_piece most last t rest b more (inr (four, inr many)) may piece split =
    let said : said_len (t ++ rest) ≡ length b = front_said most (t ++ rest) b more piece split in
    let same : said_len (t ++ rest) ≡ said_len t = said_front t rest four in
    let bound : length b ≤ most = piece.sound.1 in
    absurd (omega arith)

head_same : (l more : List ℕ) (x : ℕ) (r : List ℕ) → 0 < length l → x ∷ r ≡ l ++ more → (rest : List ℕ) × (l ≡ x ∷ rest)
head_same [] more x r some is = absurd (omega (arith, some))
head_same (y ∷ ys) more x r some is = let same : x ≡ y = cc in (ys, ap (λ z. z ∷ ys) (sym same))

-- what follows the length at the front of t follows that of a document there
same_behind_length : (t rest b more : List ℕ) (x : ℕ) (r : List ℕ) → drop 4 t ≡ x ∷ r → 5 ≤ length b → t ++ rest ≡ b ++ more → (r' : List ℕ) × (drop 4 b ≡ x ∷ r')
same_behind_length t rest b more x r is enough split =
    let size : length (drop 4 t) ≡ length t - 4 = length-drop 4 t in
    let some : length (drop 4 t) ≡ suc (length r) = ap length is in
    let left : length (drop 4 b) ≡ length b - 4 = length-drop 4 b in
    head_same (drop 4 b) more x (r ++ rest) (omega (arith, left, enough))
    (sym (ap (λ l. l ++ rest) is) ∙ sym (drop-append-le 4 t rest (omega (arith, size, some))) ∙ ap (drop 4) split ∙ drop-append-le 4 b more (omega (arith, enough)))

-- no document that may count is at the front of t if no tag follows its length
no_tag : (most : ℕ) (t rest b more : List ℕ) → LacksTag t → IsPiece most b → IsBegun b → ¬ (t ++ rest ≡ b ++ more)
no_tag most t rest b more (x, r, is, none) piece (kind, other, begins) split =
    let (r', same) = same_behind_length t rest b more x r is piece.sound.0 split in
    let heads : x ∷ r' ≡ tag_of kind ∷ other = sym same ∙ begins in
    let first : x ≡ tag_of kind = cc in
    none kind first

-- if no piece is at the front of t, t isn't empty
pub lacking_some : (most : ℕ) (last : Bool) (t : List ℕ) → LacksPiece most last t → 0 < length t
lacking_some most last t (inl (is, some, short)) = some
lacking_some most last t (inr (four, which)) = omega arith

-- the rest after this many bytes
pub left_behind : (place : ℕ) (bytes rest : List ℕ) → place ≤ length bytes → drop place (bytes ++ rest) ≡ drop place bytes ++ rest
left_behind place bytes rest within = drop-append-le place bytes rest within

-- where there is no piece, no document may count
pub lacks_behind : (limits : Limits) (last : Bool) (place : ℕ) (bytes rest : List ℕ) → place ≤ length bytes → LacksPiece limits.bytes last (drop place bytes) → MayFollow last rest
    → ¬ IsLikely limits (bytes ++ rest) place
lacks_behind limits last place bytes rest within lacks may p =
    no_piece limits.bytes last (drop place bytes) rest p.b p.rest lacks may p.piece (sym (left_behind place bytes rest within) ∙ p.split)

-- there are bytes where no piece is found
pub told_some : (most : ℕ) (bytes : List ℕ) (last : Bool) (place : ℕ) → place ≤ length bytes → TellsFront most bytes last place front.NoPiece → place < length bytes
told_some most bytes last place within (inl lacks) =
    let some : 0 < length (drop place bytes) = lacking_some most last (drop place bytes) lacks in
    let size : length (drop place bytes) ≡ length bytes - place = length-drop place bytes in
    omega arith
told_some most bytes last place within (inr (longer, (x, r, is, none))) =
    let all : length (drop 4 (drop place bytes)) ≡ length (drop place bytes) - 4 = length-drop 4 (drop place bytes) in
    let some : length (drop 4 (drop place bytes)) ≡ suc (length r) = ap length is in
    let size : length (drop place bytes) ≡ length bytes - place = length-drop place bytes in
    omega arith

-- where no piece is found, no document may count
pub none_behind : (limits : Limits) (last : Bool) (place : ℕ) (bytes rest : List ℕ) → place ≤ length bytes → TellsFront limits.bytes bytes last place front.NoPiece
    → MayFollow last rest → ¬ IsLikely limits (bytes ++ rest) place
none_behind limits last place bytes rest within (inl lacks) may there = lacks_behind limits last place bytes rest within lacks may there
none_behind limits last place bytes rest within (inr (longer, lacks)) may p =
    no_tag limits.bytes (drop place bytes) rest p.b p.rest lacks p.piece p.begun (sym (left_behind place bytes rest within) ∙ p.split)

-- the piece at the front of the rest, and what follows it
pub split_front : (place len : ℕ) (bytes rest : List ℕ) → place + len ≤ length bytes
    → drop place (bytes ++ rest) ≡ take len (drop place bytes) ++ drop (place + len) (bytes ++ rest)
split_front place len bytes rest within =
    let size : length (drop place bytes) ≡ length bytes - place = length-drop place bytes in
    let all : drop place (bytes ++ rest) ≡ drop place bytes ++ rest = drop-append-le place bytes rest (omega arith) in
    let front : take len (drop place bytes ++ rest) ≡ take len (drop place bytes) = take-append-le len (drop place bytes) rest (omega arith) in
    sym (take-append-drop len (drop place (bytes ++ rest))) ∙ ap (λ l. l ++ drop len (drop place (bytes ++ rest))) (ap (take len) all ∙ front)
    ∙ ap (λ l. take len (drop place bytes) ++ l) (drop-drop len place (bytes ++ rest))

pub front_len : (place len : ℕ) (bytes : List ℕ) → place + len ≤ length bytes → length (take len (drop place bytes)) ≡ len
front_len place len bytes within = let size : length (drop place bytes) ≡ length bytes - place = length-drop place bytes in length-take-le len (drop place bytes) (omega arith)

-- the piece at the front
pub front_piece : (most : ℕ) (a : List ℕ) (len : ℕ) → said_len a ≡ len → IsSoundLength most len → len ≤ length a → IsPiece most (take len a)
front_piece most a len said sound within =
    let enough : 5 ≤ len = sound.0 in
    let count : length (take len a) ≡ len = length-take-le len a within in
    let says : said_len (take len a) ≡ len = ap (from_le_bytes w32) (take-take 4 len a (omega arith)) ∙ said in
    record { said = says ∙ sym count; sound = subst (IsSoundLength most) (sym count) sound }
