use Rattle.std.proofs.Common.{◌≡◌, ℤ, arith, inl, subst, sym, true}
use Rattle.bsonraw_c.specs.PathValues.{is_wanted}
use Rattle.bsonraw_c.specs.Values.{GivesValue}
use Rattle.bsonraw_c.proofs.Iterating.{crosses, is_zero}
use Rattle.bsonraw_c.proofs.path_values.bsonraw_value_at.Goals as goal

pub returns : goal.returns
returns c =
    let code = c.bsonraw_iter_init_find_descendant-code.result in
    let it = c.bsonraw_iter_init_find_descendant-code.new.iter in
    let given = c.bsonraw_iter_value.result in
    let wanted : is_wanted it.tag c.args.tags.now ≡ true = grind (arith, c.is_wanted.ensures, c.if-not-is_wanted.ensures, c.if-not-is_wanted.false) in (
      it,
      code,
      c.bsonraw_iter_init_find_descendant-code.ensures,
      inl (
        is_zero code c.bsonraw_iter_init_find_descendant-code.type_inv c.if-code-ne0.false,
        wanted,
        subst (λ (z : ℤ). GivesValue c.args.bytes.now it c.bsonraw_iter_value.new.value z) (sym (crosses given c.bsonraw_iter_value.type_inv)) c.bsonraw_iter_value.ensures,
      ),
    )
