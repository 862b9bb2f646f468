use Rattle.std.proofs.Common.{rules, ◌≡◌, ◌-◌, ◌∙◌, Bool, List, ℕ, false, suc, ap, arith, refl, true}
use Rattle.raw_view.specs.Document.{bytes_of}
use Rattle.raw_view.specs.Frame.ElementSteps.{frame_of}
use Rattle.dump_commands.specs.elements.Cut.{goes, is_array, opens, stays, texts_of}
use Rattle.dump_commands.proofs.elements.Cutting.{stepped}
use Rattle.dump_commands.proofs.elements.Had.{Level, named_same, names_begin, names_done, names_step, or_false, or_true}
use Rattle.dump_commands.proofs.elements.having.+has_named.Goals as goal

abbrev level_of : ℕ → Bool → List (List ℕ) → List ℕ → Level
level_of levels in_array paths bytes = record { levels = levels; in_array = in_array; paths = paths; bytes = bytes }

pub loop-item-init : goal.loop-item-init
loop-item-init t c =
    let v = level_of (c.args.depth - 1) c.args.in_array (texts_of c.args.paths.now) (bytes_of c.args.level) in
    let begun : c.into_iter-item-iterator.result ≡ c.new-item-items.result = search rules in
    names_begin v c.into_iter-item-iterator.result (begun ∙ c.new-item-items.ensures)

pub loop-item-preserved-in-Stays : goal.loop-item-preserved-in-Stays
loop-item-preserved-in-Stays t c =
    let l = c.loop-item in
    let v = level_of (c.args.depth - 1) c.args.in_array (texts_of c.args.paths.now) (bytes_of c.args.level) in
    let e = c.in-Ok.element in
    names_step v l.had l.had l.item-iterator c.next.new.self e
    (stepped l.item-iterator c.next.new.self c.next.result e c.next.ensures.steps (rw (← c.in-Ok.is) c.in-Some.is)) l.invariant (record {
      fate = stays;
      here = false;
      same = rw c.in-Stays.is at c.in_ok-decided.ensures;
      had = refl;
      joins = or_false l.had;
    })

pub loop-item-preserved-in-Goes : goal.loop-item-preserved-in-Goes
loop-item-preserved-in-Goes t c =
    let l = c.loop-item in
    let v = level_of (c.args.depth - 1) c.args.in_array (texts_of c.args.paths.now) (bytes_of c.args.level) in
    let e = c.in-Ok.element in
    names_step v l.had true l.item-iterator c.next.new.self e
    (stepped l.item-iterator c.next.new.self c.next.result e c.next.ensures.steps (rw (← c.in-Ok.is) c.in-Some.is)) l.invariant (record {
      fate = goes;
      here = true;
      same = rw c.in-Goes.is at c.in_ok-decided.ensures;
      had = refl;
      joins = or_true l.had;
    })

pub loop-item-preserved : goal.loop-item-preserved
loop-item-preserved t c =
    let l = c.loop-item in
    let v = level_of (c.args.depth - 1) c.args.in_array (texts_of c.args.paths.now) (bytes_of c.args.level) in
    let e = c.in-Ok.element in
    let f = frame_of e in
    let rests = c.in-Opens.rests.items in
    let here = c.in_ok-here-in-Opens.here in
    let array : c.is_array-is_inner_array.result ≡ is_array f.kind = c.is_array-is_inner_array.ensures ∙ ap is_array c.element_type.ensures in
    let paths : texts_of c.deref.result.now ≡ texts_of rests = ap texts_of c.deref.ensures.value in
    let bytes : bytes_of c.in_ok-inside-in-Opens.inside ≡ f.payload = c.in_ok-inside-in-Opens.ensures in
    let inside = named_same
    (level_of (c.args.depth - 1) c.is_array-is_inner_array.result (texts_of c.deref.result.now) (bytes_of c.in_ok-inside-in-Opens.inside))
    (level_of (c.args.depth - 1) (is_array f.kind) (texts_of rests) f.payload) here (λ i. level_of (c.args.depth - 1) (array i) (paths i) (bytes i))
    c.in_ok-here-in-Opens.ensures in
    names_step v l.had c.either-had.result l.item-iterator c.next.new.self e
    (stepped l.item-iterator c.next.new.self c.next.result e c.next.ensures.steps (rw (← c.in-Ok.is) c.in-Some.is)) l.invariant (record {
      fate = opens (texts_of rests);
      here = here;
      same = rw c.in-Opens.is at c.in_ok-decided.ensures;
      had = inside;
      joins = c.either-had.ensures;
    })

pub returns : goal.returns
returns t c =
    let l = c.loop-item in
    let deep = c.if-depth-eq0.false in
    let levels : suc (c.args.depth - 1) ≡ c.args.depth = omega (arith, deep) in
    let v = level_of (c.args.depth - 1) c.args.in_array (texts_of c.args.paths.now) (bytes_of c.args.level) in
    named_same (level_of (suc (c.args.depth - 1)) c.args.in_array (texts_of c.args.paths.now) (bytes_of c.args.level))
    (level_of c.args.depth c.args.in_array (texts_of c.args.paths.now) (bytes_of c.args.level)) l.had
    (λ i. level_of (levels i) c.args.in_array (texts_of c.args.paths.now) (bytes_of c.args.level))
    (names_done v l.had l.item-iterator c.next.new.self c.next.result c.next.ensures.steps c.in-None.is l.invariant)
