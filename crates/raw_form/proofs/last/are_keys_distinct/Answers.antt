use Rattle.std.proofs.Common.{◌≡◌, ◌++◌, ◌∷◌, None, [], arith, refl}
use Rattle.raw_form.proofs.canonical.Common.{frame_of, keys_of, map-append}
use Rattle.key_set.specs.References.{texts}
use Rattle.key_set.proofs.Face.{keys_distinct}
use Rattle.raw_form.proofs.last.Places.{passed_all, passed_more}
use Rattle.raw_form.proofs.last.are_keys_distinct.Goals as goal

pub elements-init : goal.elements-init
elements-init c = (
  texts c.truncate.new.self.items,
  [],
  rw c.deref.ensures.value at c.behind-keys.ensures,
  λ pairs read. record { passed = []; rest = pairs; whole = refl; left_is = rw c.new-elements.ensures read; holds = refl },
)

pub returns-in_default-clause-distinct : goal.returns-in_default-clause-distinct
returns-in_default-clause-distinct c pairs read =
    let (below, own, keys, each) = c.elements.invariant in
    λ told. rw (passed_all (each pairs read) _ c.in_default.ensures) (keys_distinct _ _ below own keys)

pub elements-preserved : goal.elements-preserved
elements-preserved c =
    let (below, own, keys, each) = c.elements.invariant in
    let key = (frame_of c.in-Some.element).key in
    let none : c.in_ok-add.field-0 ≡ None = grind (arith, c.is_some.ensures, c.if-is_some.false) in (
      below,
      own ++ key ∷ [],
      (rw (none, c.key.ensures) at (c.in_ok-add.ensures.adds below own keys)).keys,
      λ pairs read. passed_more (each pairs read) (λ passed. keys_of passed ≡ own ++ key ∷ []) _ c.in-Some.element c.in-Some.ensures
          (λ passed t stands same. rw (map-append (λ p. p.0) passed ((key, t) ∷ []), same) refl),
    )
