use Rattle.std.proofs.Common.{◌≡◌, ◌∙◌, ℤ, ap, inl, pos, subst, sym, to_z, w32}
use Rattle.bsonraw_c.specs.Paths.{FindsPathOf}
use Rattle.bsonraw_c.proofs.Iterating.{crosses}
use Rattle.bsonraw_c.proofs.path_values.bsonraw_iter_init_find_descendant.Goals as goal

pub returns : goal.returns
returns c =
    let code = c.bsonraw_iter_init-code.result in
    let first = c.bsonraw_iter_init-code.new.iter in
    let found = c.bsonraw_iter_find_descendant.result in
    let begun : code ≡ pos 0 = sym (crosses code c.bsonraw_iter_init-code.type_inv) ∙ ap (to_z w32) c.if-code-ne0.false in (
      first,
      code,
      c.bsonraw_iter_init-code.ensures,
      inl (
        begun,
        subst (λ (z : ℤ). FindsPathOf c.args.bytes.now c.args.path.now c.args.separator first c.bsonraw_iter_find_descendant.new.iter z)
            (sym (crosses found c.bsonraw_iter_find_descendant.type_inv)) c.bsonraw_iter_find_descendant.ensures,
      ),
    )
