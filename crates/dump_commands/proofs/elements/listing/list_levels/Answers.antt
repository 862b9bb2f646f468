use Rattle.std.proofs.Common.{rules, ◌≡◌, ◌≢◌, ◌+◌, ◌<◌, ◌∙◌, ℕ, List, [], Option, length, arith, sym, subst}
use Rattle.std.specs.Io.KnownBytes.{Appends}
use Rattle.dump_io.specs.lines.Fronts.{AppendsFront}
use Rattle.raw_view.specs.Document.{bytes_of}
use Rattle.dump_commands.specs.elements.Listing.{ListsNext}
use Rattle.dump_commands.specs.declared.elements.listing.Next.{Next}
use Rattle.dump_io.proofs.Face.{on_any}
use Rattle.dump_commands.proofs.elements.Levels.{IsLooping, looping_begins, part_before, part_line, part_inside, part_behind, part_deep, goes_line, goes_outward, all_listed, goes_deep, goes_inside, line_less, inside_less, inside_waits, size_left, size_waiting}
use Rattle.dump_commands.proofs.elements.listing.list_levels.Goals as goal

pub levels-init : goal.levels-init
levels-init g c =
    let d = bytes_of c.args.document in
    let old = g.W.Write.contents c.args.out.now in
    let begun = subst (λ (l : Option (List ℕ)). IsLooping d [] l old old) (sym c.new-level.ensures) (looping_begins d old) in
    subst (λ (ws : List (Option (List ℕ))). IsLooping d ws c.new-level.result old old) (sym c.new-waiting.ensures.items) begun

pub returns-in_err-next_line-clause-front : goal.returns-in_err-next_line-clause-front
returns-in_err-next_line-clause-front g c = on_any _ _ (part_before c.levels.invariant)

pub returns-in_default-clause-listed : goal.returns-in_default-clause-listed
returns-in_default-clause-listed g c =
    let l = c.levels.level in
    let new = c.next_line.new.level in
    let line = c.next_line.new.line.items in
    let len : c.len-depth.result ≡ length c.levels.waiting.items = search rules in
    let here : ℕ = c.len-depth.result + 1 in
    let at : here ≡ 1 + length c.levels.waiting.items = omega (arith, len) in
    let tells = subst (λ (n : Next). ListsNext here l new line n) c.in-End.is c.in_ok-next_line.ensures in
    let none : c.levels.waiting.items ≡ [] = search rules in
    all_listed c.levels.invariant at new line tells none

pub levels-preserved-in-End : goal.levels-preserved-in-End
levels-preserved-in-End g c =
    let l = c.levels.level in
    let new = c.next_line.new.level in
    let line = c.next_line.new.line.items in
    let len : c.len-depth.result ≡ length c.levels.waiting.items = search rules in
    let here : ℕ = c.len-depth.result + 1 in
    let at : here ≡ 1 + length c.levels.waiting.items = omega (arith, len) in
    let tells = subst (λ (n : Next). ListsNext here l new line n) c.in-End.is c.in_ok-next_line.ensures in
    goes_outward c.levels.invariant at new line c.pop.new.self.items c.in-Some.outer tells c.in-Some.ensures.items

pub levels-smaller-in-Continue-branch-3 : goal.levels-smaller-in-Continue-branch-3
levels-smaller-in-Continue-branch-3 g c =
    let l = c.levels.level in
    let new = c.next_line.new.level in
    let line = c.next_line.new.line.items in
    let len : c.len-depth.result ≡ length c.levels.waiting.items = search rules in
    let here : ℕ = c.len-depth.result + 1 in
    let at : here ≡ 1 + length c.levels.waiting.items = omega (arith, len) in
    let tells = subst (λ (n : Next). ListsNext here l new line n) c.in-Line.is c.in_ok-next_line.ensures in
    let ws = c.levels.waiting.items in
    let less : size_left new + size_waiting ws < size_left l + size_waiting ws = omega (arith, line_less here l new line tells) in
    less

pub levels-preserved-in-Continue-branch-3 : goal.levels-preserved-in-Continue-branch-3
levels-preserved-in-Continue-branch-3 g c =
    let l = c.levels.level in
    let new = c.next_line.new.level in
    let line = c.next_line.new.line.items in
    let len : c.len-depth.result ≡ length c.levels.waiting.items = search rules in
    let here : ℕ = c.len-depth.result + 1 in
    let at : here ≡ 1 + length c.levels.waiting.items = omega (arith, len) in
    let tells = subst (λ (n : Next). ListsNext here l new line n) c.in-Line.is c.in_ok-next_line.ensures in
    let old = g.W.Write.contents c.levels.out in
    let last = g.W.Write.contents c.put.new.writer in
    goes_line c.levels.invariant at new line last tells (subst (λ (x : List ℕ). Appends old last x) c.deref.ensures.value c.in_ok-put-in-Line.ensures.written)

pub returns-in_err-put-in-Line-clause-front : goal.returns-in_err-put-in-Line-clause-front
returns-in_err-put-in-Line-clause-front g c =
    let l = c.levels.level in
    let new = c.next_line.new.level in
    let line = c.next_line.new.line.items in
    let len : c.len-depth.result ≡ length c.levels.waiting.items = search rules in
    let here : ℕ = c.len-depth.result + 1 in
    let at : here ≡ 1 + length c.levels.waiting.items = omega (arith, len) in
    let tells = subst (λ (n : Next). ListsNext here l new line n) c.in-Line.is c.in_ok-next_line.ensures in
    let old = g.W.Write.contents c.levels.out in
    let last = g.W.Write.contents c.put.new.writer in
    on_any _ _ (part_line c.levels.invariant at new line last tells (subst (λ (x : List ℕ). AppendsFront old last x) c.deref.ensures.value c.in_err-put-in-Line.ensures.front))

pub returns-in_err-put-in-Inside-clause-front : goal.returns-in_err-put-in-Inside-clause-front
returns-in_err-put-in-Inside-clause-front g c =
    let l = c.levels.level in
    let new = c.next_line.new.level in
    let line = c.next_line.new.line.items in
    let len : c.len-depth.result ≡ length c.levels.waiting.items = search rules in
    let here : ℕ = c.len-depth.result + 1 in
    let at : here ≡ 1 + length c.levels.waiting.items = omega (arith, len) in
    let tells = subst (λ (n : Next). ListsNext here l new line n) c.in-Inside.is c.in_ok-next_line.ensures in
    let old = g.W.Write.contents c.levels.out in
    let last = g.W.Write.contents c.put-in-Inside.new.writer in
    let front = subst (λ (x : List ℕ). AppendsFront old last x) c.deref-in-Inside.ensures.value c.in_err-put-in-Inside.ensures.front in
    on_any _ _ (part_inside c.levels.invariant at new line c.in-Inside.inner tells last front)

pub returns-in_err-deep_line-in-Inside-clause-front : goal.returns-in_err-deep_line-in-Inside-clause-front
returns-in_err-deep_line-in-Inside-clause-front g c =
    let l = c.levels.level in
    let new = c.next_line.new.level in
    let line = c.next_line.new.line.items in
    let len : c.len-depth.result ≡ length c.levels.waiting.items = search rules in
    let here : ℕ = c.len-depth.result + 1 in
    let at : here ≡ 1 + length c.levels.waiting.items = omega (arith, len) in
    let tells = subst (λ (n : Next). ListsNext here l new line n) c.in-Inside.is c.in_ok-next_line.ensures in
    let old = g.W.Write.contents c.levels.out in
    let mid = g.W.Write.contents c.put-in-Inside.new.writer in
    let put = subst (λ (x : List ℕ). Appends old mid x) c.deref-in-Inside.ensures.value c.in_ok-put-in-Inside.ensures.written in
    on_any _ _ (part_behind c.levels.invariant at new line c.in-Inside.inner tells mid put)

pub levels-smaller-in-Continue-branch-6 : goal.levels-smaller-in-Continue-branch-6
levels-smaller-in-Continue-branch-6 g c =
    let l = c.levels.level in
    let new = c.next_line.new.level in
    let line = c.next_line.new.line.items in
    let len : c.len-depth.result ≡ length c.levels.waiting.items = search rules in
    let here : ℕ = c.len-depth.result + 1 in
    let at : here ≡ 1 + length c.levels.waiting.items = omega (arith, len) in
    let tells = subst (λ (n : Next). ListsNext here l new line n) c.in-Inside.is c.in_ok-next_line.ensures in
    let ws = c.levels.waiting.items in
    let less : size_left new + size_waiting ws < size_left l + size_waiting ws = omega (arith, inside_less here l new line c.in-Inside.inner tells) in
    less

pub levels-preserved-in-Continue-branch-6 : goal.levels-preserved-in-Continue-branch-6
levels-preserved-in-Continue-branch-6 g c =
    let l = c.levels.level in
    let new = c.next_line.new.level in
    let line = c.next_line.new.line.items in
    let len : c.len-depth.result ≡ length c.levels.waiting.items = search rules in
    let here : ℕ = c.len-depth.result + 1 in
    let at : here ≡ 1 + length c.levels.waiting.items = omega (arith, len) in
    let tells = subst (λ (n : Next). ListsNext here l new line n) c.in-Inside.is c.in_ok-next_line.ensures in
    let old = g.W.Write.contents c.levels.out in
    let mid = g.W.Write.contents c.put-in-Inside.new.writer in
    let put = subst (λ (x : List ℕ). Appends old mid x) c.deref-in-Inside.ensures.value c.in_ok-put-in-Inside.ensures.written in
    let most : here ≡ 500 = search rules in
    let last = g.W.Write.contents c.put-then-depth-eq-LEVELS.new.writer in
    let is = c.deref-then-depth-eq-LEVELS.ensures.value ∙ c.in_ok-deep_line-in-Inside.ensures in
    goes_deep c.levels.invariant at new line c.in-Inside.inner tells mid put last most (subst (λ (x : List ℕ). Appends mid last x) is c.in_ok-put-in-Inside-2.ensures.written)

pub returns-in_err-put-in-Inside-2-clause-front : goal.returns-in_err-put-in-Inside-2-clause-front
returns-in_err-put-in-Inside-2-clause-front g c =
    let l = c.levels.level in
    let new = c.next_line.new.level in
    let line = c.next_line.new.line.items in
    let len : c.len-depth.result ≡ length c.levels.waiting.items = search rules in
    let here : ℕ = c.len-depth.result + 1 in
    let at : here ≡ 1 + length c.levels.waiting.items = omega (arith, len) in
    let tells = subst (λ (n : Next). ListsNext here l new line n) c.in-Inside.is c.in_ok-next_line.ensures in
    let old = g.W.Write.contents c.levels.out in
    let mid = g.W.Write.contents c.put-in-Inside.new.writer in
    let put = subst (λ (x : List ℕ). Appends old mid x) c.deref-in-Inside.ensures.value c.in_ok-put-in-Inside.ensures.written in
    let most : here ≡ 500 = search rules in
    let last = g.W.Write.contents c.put-then-depth-eq-LEVELS.new.writer in
    let is = c.deref-then-depth-eq-LEVELS.ensures.value ∙ c.in_ok-deep_line-in-Inside.ensures in
    on_any _ _ (part_deep c.levels.invariant at new line c.in-Inside.inner tells mid put last most (subst (λ (x : List ℕ). AppendsFront mid last x) is c.in_err-put-in-Inside-2.ensures.front))

pub levels-smaller : goal.levels-smaller
levels-smaller g c =
    let l = c.levels.level in
    let new = c.next_line.new.level in
    let line = c.next_line.new.line.items in
    let len : c.len-depth.result ≡ length c.levels.waiting.items = search rules in
    let here : ℕ = c.len-depth.result + 1 in
    let at : here ≡ 1 + length c.levels.waiting.items = omega (arith, len) in
    let tells = subst (λ (n : Next). ListsNext here l new line n) c.in-Inside.is c.in_ok-next_line.ensures in
    rw (c.in_ok-enter-in-Inside.ensures.waits, c.in_ok-enter-in-Inside.ensures.inside) (inside_waits here l new line c.in-Inside.inner c.levels.waiting.items tells)

pub levels-preserved : goal.levels-preserved
levels-preserved g c =
    let l = c.levels.level in
    let new = c.next_line.new.level in
    let line = c.next_line.new.line.items in
    let len : c.len-depth.result ≡ length c.levels.waiting.items = search rules in
    let here : ℕ = c.len-depth.result + 1 in
    let at : here ≡ 1 + length c.levels.waiting.items = omega (arith, len) in
    let tells = subst (λ (n : Next). ListsNext here l new line n) c.in-Inside.is c.in_ok-next_line.ensures in
    let old = g.W.Write.contents c.levels.out in
    let mid = g.W.Write.contents c.put-in-Inside.new.writer in
    let put = subst (λ (x : List ℕ). Appends old mid x) c.deref-in-Inside.ensures.value c.in_ok-put-in-Inside.ensures.written in
    let less : here ≢ 500 = search rules in
    rw (c.in_ok-enter-in-Inside.ensures.waits, c.in_ok-enter-in-Inside.ensures.inside) (goes_inside c.levels.invariant at new line c.in-Inside.inner tells mid put less)

pub returns-in_err-enter-in-Inside-clause-front : goal.returns-in_err-enter-in-Inside-clause-front
returns-in_err-enter-in-Inside-clause-front g c =
    let l = c.levels.level in
    let new = c.next_line.new.level in
    let line = c.next_line.new.line.items in
    let len : c.len-depth.result ≡ length c.levels.waiting.items = search rules in
    let here : ℕ = c.len-depth.result + 1 in
    let at : here ≡ 1 + length c.levels.waiting.items = omega (arith, len) in
    let tells = subst (λ (n : Next). ListsNext here l new line n) c.in-Inside.is c.in_ok-next_line.ensures in
    let old = g.W.Write.contents c.levels.out in
    let mid = g.W.Write.contents c.put-in-Inside.new.writer in
    let put = subst (λ (x : List ℕ). Appends old mid x) c.deref-in-Inside.ensures.value c.in_ok-put-in-Inside.ensures.written in
    on_any _ _ (part_behind c.levels.invariant at new line c.in-Inside.inner tells mid put)
