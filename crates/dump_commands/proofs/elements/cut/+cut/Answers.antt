use Rattle.std.proofs.Common.{rules, ◌≡◌, ◌-◌, ◌∙◌, [], Bool, ℕ, suc, List, ap, append-nil, arith, refl, sym}
use Rattle.raw_view.specs.Document.{bytes_of}
use Rattle.raw_view.specs.Frame.ElementSteps.{frame_of}
use Rattle.raw_view.specs.Frame.Format.{element_of, framed}
use Rattle.dump_commands.specs.elements.Cut.{goes, is_array, key_at, opens, stays, texts_of}
use Rattle.dump_commands.proofs.elements.Cutting.{Level, cut_same, cuts_begin, cuts_done, cuts_step, stepped}
use Rattle.dump_commands.proofs.elements.cut.+cut.Goals as goal

abbrev level_of : Bool → ℕ → Bool → List (List ℕ) → List ℕ → Level
level_of others levels in_array paths bytes = record { others = others; levels = levels; in_array = in_array; paths = paths; bytes = bytes }

pub loop-item-init : goal.loop-item-init
loop-item-init t c =
    let v = level_of c.args.others (c.args.depth - 1) c.args.in_array (texts_of c.args.paths.now) (bytes_of c.args.level) in
    let begun : c.into_iter-item-iterator.result ≡ c.new-item-items.result = search rules in
    cuts_begin v c.new-out.result.items c.into_iter-item-iterator.result (search rules) (begun ∙ c.new-item-items.ensures)

pub loop-item-preserved-in-Goes : goal.loop-item-preserved-in-Goes
loop-item-preserved-in-Goes t c =
    let l = c.loop-item in
    let v = level_of c.args.others (c.args.depth - 1) c.args.in_array (texts_of c.args.paths.now) (bytes_of c.args.level) in
    let e = c.in-Ok.element in
    cuts_step v l.out.items l.out.items l.number l.number l.item-iterator c.next.new.self e
    (stepped l.item-iterator c.next.new.self c.next.result e c.next.ensures.steps (rw (← c.in-Ok.is) c.in-Some.is)) l.invariant (record {
      fate = goes;
      first = [];
      same = rw c.in-Goes.is at c.in_ok-decided.ensures;
      cut = refl;
      puts = sym (append-nil l.out.items);
      next = refl;
    })

pub loop-item-preserved-in-Continue-branch-3 : goal.loop-item-preserved-in-Continue-branch-3
loop-item-preserved-in-Continue-branch-3 t c =
    let l = c.loop-item in
    let v = level_of c.args.others (c.args.depth - 1) c.args.in_array (texts_of c.args.paths.now) (bytes_of c.args.level) in
    let e = c.in-Ok.element in
    let f = frame_of e in
    let put = c.in_ok-put_element-in-Stays.ensures in
    cuts_step v l.out.items c.put_element.new.out.items l.number c.put_element.new.number l.item-iterator c.next.new.self e
    (stepped l.item-iterator c.next.new.self c.next.result e c.next.ensures.steps (rw (← c.in-Ok.is) c.in-Some.is)) l.invariant (record {
      fate = stays;
      first = element_of f.kind (key_at c.args.in_array l.number f.key) c.payload.result.now;
      same = rw c.in-Stays.is at c.in_ok-decided.ensures;
      cut = ap (λ (x : List ℕ). element_of f.kind (key_at c.args.in_array l.number f.key) x) c.payload.ensures;
      puts = put.put;
      next = put.counted;
    })

pub loop-item-preserved : goal.loop-item-preserved
loop-item-preserved t c =
    let l = c.loop-item in
    let v = level_of c.args.others (c.args.depth - 1) c.args.in_array (texts_of c.args.paths.now) (bytes_of c.args.level) in
    let e = c.in-Ok.element in
    let f = frame_of e in
    let put = c.in_ok-put_element-in-Opens.ensures in
    let rests = c.in-Opens.rests.items in
    let value = c.in_ok-value-in-Opens.value.items in
    let array : c.is_array-is_inner_array.result ≡ is_array f.kind = c.is_array-is_inner_array.ensures ∙ ap is_array c.element_type.ensures in
    let paths : texts_of c.deref.result.now ≡ texts_of rests = ap texts_of c.deref.ensures.value in
    let bytes : bytes_of c.in_ok-inside-in-Opens.inside ≡ f.payload = c.in_ok-inside-in-Opens.ensures in
    let inside = cut_same
    (level_of c.args.others (c.args.depth - 1) c.is_array-is_inner_array.result (texts_of c.deref.result.now) (bytes_of c.in_ok-inside-in-Opens.inside))
    (level_of c.args.others (c.args.depth - 1) (is_array f.kind) (texts_of rests) f.payload) value value
    (λ i. level_of c.args.others (c.args.depth - 1) (array i) (paths i) (bytes i)) refl c.in_ok-value-in-Opens.ensures.cut in
    cuts_step v l.out.items c.put_element-in-Opens.new.out.items l.number c.put_element-in-Opens.new.number l.item-iterator c.next.new.self e
    (stepped l.item-iterator c.next.new.self c.next.result e c.next.ensures.steps (rw (← c.in-Ok.is) c.in-Some.is)) l.invariant (record {
      fate = opens (texts_of rests);
      first = element_of f.kind (key_at c.args.in_array l.number f.key) c.deref-in-Opens.result.now;
      same = rw c.in-Opens.is at c.in_ok-decided.ensures;
      cut = (value, inside, ap (λ (x : List ℕ). element_of f.kind (key_at c.args.in_array l.number f.key) x) c.deref-in-Opens.ensures.value);
      puts = put.put;
      next = put.counted;
    })

pub returns-clause-cut : goal.returns-clause-cut
returns-clause-cut t c =
    let l = c.loop-item in
    let deep = c.if-depth-eq0.false in
    let levels : suc (c.args.depth - 1) ≡ c.args.depth = omega (arith, deep) in
    let v = level_of c.args.others (c.args.depth - 1) c.args.in_array (texts_of c.args.paths.now) (bytes_of c.args.level) in
    let whole = cuts_done v l.out.items l.number l.item-iterator c.next.new.self c.next.result c.next.ensures.steps c.in-None.is l.invariant in
    cut_same (level_of c.args.others (suc (c.args.depth - 1)) c.args.in_array (texts_of c.args.paths.now) (bytes_of c.args.level))
    (level_of c.args.others c.args.depth c.args.in_array (texts_of c.args.paths.now) (bytes_of c.args.level)) (framed l.out.items) c.in_ok-made.made.items
    (λ i. level_of c.args.others (levels i) c.args.in_array (texts_of c.args.paths.now) (bytes_of c.args.level))
    (ap framed (sym c.deref-2.ensures.value) ∙ sym c.in_ok-made.ensures.framed) whole
