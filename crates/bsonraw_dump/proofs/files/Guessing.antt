-- What a file looks like, by its first bytes.
use Rattle.std.proofs.Common.{◌≡◌, ℕ, ◌-◌, ◌≤◌, ◌⊎◌, List, [], ◌∷◌, ◌++◌, Bool, true, false, Bor, MatchBool, MatchOption, None, Option, Some, ap, append_assoc, arith, drop, get_or, inl, inr, length, length-drop, refl, subst, nat_eq, sym, take-append-drop, ◌∙◌}
use Rattle.std.proofs.lemmas.Bool.{false≢true}
use Rattle.std.proofs.lemmas.Bool.Decides.{Decides-eqb}
use Rattle.std.proofs.lemmas.List.{drop-append-le}
use Rattle.std.proofs.lemmas.Slice.Eq.{starts_is}
use Rattle.std.specs.List.{starts_with}
use Rattle.std.specs.Option.{option_copied}
use Rattle.raw_view.specs.Frame.{Frame, IsFrame}
use Rattle.dump_io.specs.input.Cut.{IsSoundLength, said_len}
use Rattle.bsonraw_dump.specs.files.Guess.{Begins, Hints, LooksLike, LooksLikeNothing, MayBegin, MayFollow, OpensWell, front_of}
use Rattle.dump_io.proofs.Face.{said_front}

-- the byte after the length of a document that opens well
follows : (most len t : ℕ) (s d r : List ℕ) → length d ≡ len → IsSoundLength most len → t ∷ s ≡ drop 4 d ++ r
    → (drop 4 d ≡ 0 ∷ []) ⊎ ((f : Frame) × (z : List ℕ) × IsFrame (drop 4 d) f z) → MayFollow most len t
follows most len t s d r size sound e (inl empty) =
    let zero : t ≡ 0 = ap (λ l. get_or l 0 0) (e ∙ ap (λ l. l ++ r) empty) in
    let four : length (drop 4 d) ≡ 1 = ap length empty in
    let rest : length (drop 4 d) ≡ length d - 4 = length-drop 4 d in
    inl (zero, omega (arith, sound.0))
follows most len t s d r size sound e (inr (f, z, is)) = inr ((f.kind, ap (λ l. get_or l 0 0) (e ∙ ap (λ l. l ++ r) is.spelled)), sound)

-- a document that opens well may begin with its first bytes
pub may_begin : (most : ℕ) (d r x more : List ℕ) → OpensWell most d → x ++ more ≡ d ++ r → MayBegin most x
may_begin most d r [] more w e = tt
may_begin most d r (a ∷ []) more w e = tt
may_begin most d r (a ∷ b ∷ []) more w e = tt
may_begin most d r (a ∷ b ∷ c ∷ []) more w e = tt
may_begin most d r (a ∷ b ∷ c ∷ g ∷ []) more w e = tt
may_begin most d r (a ∷ b ∷ c ∷ g ∷ t ∷ x) more w e =
    let whole = a ∷ b ∷ c ∷ g ∷ t ∷ x in
    let enough : 5 ≤ length d = w.piece.sound.0 in
    let said : said_len whole ≡ length d =
    sym (said_front whole more (omega arith)) ∙ ap said_len e ∙ said_front d r (omega arith) ∙ w.piece.said in
    let behind : t ∷ (x ++ more) ≡ drop 4 d ++ r = ap (drop 4) e ∙ drop-append-le 4 d r (omega arith) in
    follows most (said_len whole) t (x ++ more) d r (sym said) (subst (λ n. IsSoundLength most n) (sym said) w.piece.sound) behind w.opens

-- what `starts_with` says
pub begins_is : (r : Bool) (s p : List ℕ) → r ≡ starts_with nat_eq s p → MatchBool r (Begins p s) (¬ Begins p s)
begins_is true s p e = (drop (length p) s, (starts_is Decides-eqb s p true e).0 refl)
begins_is false s p e = λ begun. absurd (false≢true ((starts_is Decides-eqb s p false e).1 begun.0 begun.1))

-- what is told of a file, where no document may begin with its first bytes
pub looks_hint : (most : ℕ) (s x : List ℕ) (r : Option (Bor (List ℕ))) → x ≡ front_of s → ¬ MayBegin most x
    → MatchOption r (LooksLikeNothing x) (λ w. LooksLike x w.now) → Hints most s (option_copied r)
looks_hint most s x None e never h = inr (subst LooksLikeNothing e h)
looks_hint most s x (Some w) e never h = (subst (λ y. ¬ MayBegin most y) e never, subst (λ y. LooksLike y w.now) e h)

-- none opens well with it
pub opens_none : (most : ℕ) (s x d r more : List ℕ) → x ≡ front_of s → ¬ MayBegin most x → OpensWell most d → s ++ more ≡ d ++ r → ⊥
opens_none most s x d r more e never w split =
    let whole : front_of s ++ (drop 64 s ++ more) ≡ d ++ r =
    sym (append_assoc (front_of s) (drop 64 s) more) ∙ ap (λ l. l ++ more) (take-append-drop 64 s) ∙ split in
    never (subst (λ y. MayBegin most y) (sym e) (may_begin most d r (front_of s) (drop 64 s ++ more) w whole))
