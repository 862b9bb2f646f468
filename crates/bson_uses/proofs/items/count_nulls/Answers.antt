use Rattle.std.proofs.Common.{◌≡◌, ◌≤◌, ◌+◌, ◌∙◌, ℕ, List, Ok, ap, refl, arith}
use Rattle.raw_bson.specs.Leaf.{null, double}
use Rattle.raw_bson.specs.Meaning.{RawValue, single, document}
use Rattle.raw_bson.proofs.Face.{HasFolded-none, HasFolded-more, HasFolded-fault, HasFolded-end, HasFolded-grows}
use Rattle.bson_uses.specs.Nulls.{CountsNull, with_null}
use Rattle.bson_uses.proofs.items.count_nulls.Goals as goal

-- a value makes the count at most one greater
at_most_one : (n : ℕ) (v : RawValue) → with_null n v ≤ n + 1
at_most_one n (single null) = omega arith
at_most_one n (single (double bits)) = omega arith
at_most_one n (single _) = omega arith
at_most_one n (document b) = omega arith
at_most_one n _ = omega arith

grows : (n m : ℕ) (key : List ℕ) (v : RawValue) → CountsNull n key v (Ok m) → m ≤ n + 1
grows n m key v is = let same : m ≡ with_null n v = (let a = is in cc) in omega (arith, same, at_most_one n v)

pub loop-item-init : goal.loop-item-init
loop-item-init c = HasFolded-none (c.into_iter-item-iterator.ensures.into_iter_gives ∙ c.iter-item-items.ensures.begins)

pub plus_null-nulls-requires : goal.plus_null-nulls-requires
plus_null-nulls-requires c = omega (arith, HasFolded-grows (λ n. n) grows c.loop-item.invariant, c.args.document.envelope.header.fits)

pub loop-item-preserved : goal.loop-item-preserved
loop-item-preserved c = HasFolded-more c.loop-item.invariant c.in-Some.ensures.steps c.in_ok-value.was (ap Ok c.plus_null-nulls.ensures) refl

pub returns-in_err-value : goal.returns-in_err-value
returns-in_err-value c = HasFolded-fault c.next.new.self _ c.loop-item.invariant c.in-Some.ensures.steps c.in_err-value.was c.iter-item-items.ensures.one_list.1.0 c.from_residual.ensures.1

pub returns : goal.returns
returns c = HasFolded-end c.next.new.self c.loop-item.invariant c.in-None.ensures.steps
