use Rattle.std.proofs.Common.{◌≡◌, Bool, true, false, not, Some, None, length, refl, ap, sym, ◌∙◌, arith}
use Rattle.std.specs.String.{string_bytes}
use Rattle.std.proofs.lemmas.Option.{slice_get-get_or}
use Rattle.bson_model.specs.Keys.{is_among}
use Rattle.bson_model.specs.Pairs.{value_at}
use Rattle.bson_model.proofs.Kept.{found, lost}
use Rattle.bson_model.proofs.parts.Parts.insert.Goals as goal

was_new : (b : Bool) → true ≡ not b → b ≡ false
was_new true e = cc
was_new false e = refl

was_there : (b : Bool) → false ≡ not b → b ≡ true
was_there true e = refl
was_there false e = cc

pub returns-in_err-make_room-clause-present : goal.returns-in_err-make_room-clause-present
returns-in_err-make_room-clause-present g c p =
    let a = c.self.inside in
    let h : is_among (string_bytes c.args.key) a.keys ≡ false = rw c.as_str.ensures.value at c.in_err-make_room.ensures.err in
    let l = lost string_bytes (string_bytes c.args.key) c.args.value a.keys a.values.items c.self.invariant h in
    let none : value_at (string_bytes c.args.key) c.args.self.now ≡ None = rw (← c.self.view_is) l.0 in
    let q = rw none at p in cc

pub returns-in_err-index-clause-present : goal.returns-in_err-index-clause-present
returns-in_err-index-clause-present g c p =
    let a = c.self.inside in
    let l = lost string_bytes (string_bytes c.args.key) c.args.value a.keys a.values.items c.self.invariant c.in_err-index.ensures.absent in
    let none : value_at (string_bytes c.args.key) c.args.self.now ≡ None = rw (← c.self.view_is) l.0 in
    let q = rw none at p in cc

pub push_reserved-requires : goal.push_reserved-requires
push_reserved-requires g c =
    let a = c.self.inside in
    let h : is_among (string_bytes c.args.key) a.keys ≡ false = was_new (is_among (string_bytes c.args.key) a.keys) (sym c.if-is_new.true ∙ c.in_ok-index.ensures.is_new) in
    c.in_ok-make_room.ensures.room (rw c.as_str.ensures.value h)

pub returns-then-is_new-clause-inserted : goal.returns-then-is_new-clause-inserted
returns-then-is_new-clause-inserted g c =
    let a = c.self.inside in
    let h : is_among (string_bytes c.args.key) a.keys ≡ false = was_new (is_among (string_bytes c.args.key) a.keys) (sym c.if-is_new.true ∙ c.in_ok-index.ensures.is_new) in
    let l = lost string_bytes (string_bytes c.args.key) c.args.value a.keys a.values.items c.self.invariant h in
    let k = rw h at c.in_ok-index.ensures.keys in
    rw (c.push_reserved.ensures.items, c.make_room.ensures.items, k, ← c.self.view_is) (sym (l.1 c.args.key refl))

pub returns-then-is_new-clause-old : goal.returns-then-is_new-clause-old
returns-then-is_new-clause-old g c =
    let a = c.self.inside in
    let h : is_among (string_bytes c.args.key) a.keys ≡ false = was_new (is_among (string_bytes c.args.key) a.keys) (sym c.if-is_new.true ∙ c.in_ok-index.ensures.is_new) in
    let l = lost string_bytes (string_bytes c.args.key) c.args.value a.keys a.values.items c.self.invariant h in
    rw (← c.self.view_is) (sym l.0)

pub index_mut-requires : goal.index_mut-requires
index_mut-requires g c =
    let a = c.self.inside in
    let h : is_among (string_bytes c.args.key) a.keys ≡ true = was_there (is_among (string_bytes c.args.key) a.keys) (sym c.if-is_new.false ∙ c.in_ok-index.ensures.is_new) in
    let f = found string_bytes (string_bytes c.args.key) c.args.value a.keys a.values.items c.self.invariant h in
    omega (arith, c.in_ok-index.ensures.index, f.2, c.make_room.new.values.ok.0, ap length c.make_room.ensures.items)

pub returns-clause-inserted : goal.returns-clause-inserted
returns-clause-inserted g c =
    let a = c.self.inside in
    let h : is_among (string_bytes c.args.key) a.keys ≡ true = was_there (is_among (string_bytes c.args.key) a.keys) (sym c.if-is_new.false ∙ c.in_ok-index.ensures.is_new) in
    let f = found string_bytes (string_bytes c.args.key) c.args.value a.keys a.values.items c.self.invariant h in
    let k = rw h at c.in_ok-index.ensures.keys in
    rw (c.replace-old.ensures.after, c.in_ok-index.ensures.index, c.make_room.ensures.items, k, ← c.self.view_is) (sym f.1)

pub returns-clause-old : goal.returns-clause-old
returns-clause-old g c =
    let a = c.self.inside in
    let h : is_among (string_bytes c.args.key) a.keys ≡ true = was_there (is_among (string_bytes c.args.key) a.keys) (sym c.if-is_new.false ∙ c.in_ok-index.ensures.is_new) in
    let f = found string_bytes (string_bytes c.args.key) c.args.value a.keys a.values.items c.self.invariant h in
    let was = rw (c.make_room.ensures.items, c.in_ok-index.ensures.index) at c.index_mut.ensures.value in
    let at = slice_get-get_or a.values.items _ c.index_mut.result.now f.2 in
    rw (c.replace-old.ensures.value, ← c.self.view_is) (ap Some was ∙ sym at ∙ sym f.0)
