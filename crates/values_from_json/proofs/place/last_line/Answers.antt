use Rattle.std.proofs.Common.{◌≡◌, ◌+◌, ◌-◌, ℕ, List, cond, length, length-drop, take, drop, arith, sym, subst}
use Rattle.std.proofs.lemmas.List.{take-append-drop}
use Rattle.std.proofs.lemmas.List.Sums.{sum_by-take-drop}
use Rattle.std.proofs.Math.Seq.{take-length}
use Rattle.values_from_json.specs.Place.{EndsLine, IsLastLine, is_line_feed, line_feeds}
use Rattle.values_from_json.proofs.place.last_line.Goals as goal

-- the bytes after a place are all that is left
rest_is : (b : List ℕ) (start : ℕ) → take (length b - start) (drop start b) ≡ drop start b
rest_is b start =
    let P : ℕ → Type 0 = λ n. take n (drop start b) ≡ drop start b in
    subst P (length-drop start b) (take-length (drop start b))

-- all bytes are taken
all_taken : (b : List ℕ) (n : ℕ) → n ≡ length b → take n b ≡ b
all_taken b n e = rw e (take-length b)

-- the last line follows a place before which all line feeds are
last_of : (b : List ℕ) (start n : ℕ) → n ≡ length b → EndsLine (take start b) → line_feeds (take n b) ≡ line_feeds (take start b) → IsLastLine b (take (length b - start) (drop start b))
last_of b start n e ends same =
    let whole : line_feeds b ≡ line_feeds (take start b) = rw (all_taken b n e) at same in
    let parts : line_feeds (take start b) + line_feeds (drop start b) ≡ line_feeds b = sum_by-take-drop (λ x. cond (is_line_feed x) 1 0) b start in
    let none : line_feeds (drop start b) ≡ 0 = omega (arith, parts, whole) in
    rw (rest_is b start) (take start b, sym (take-append-drop start b), ends, none)

pub returns : goal.returns
returns c =
    last_of c.args.text.now c.loop-place.start c.loop-place.place (omega (arith, c.loop-place-test.false, c.loop-place.auto.place-end)) c.loop-place.invariant.1 c.loop-place.invariant.2
