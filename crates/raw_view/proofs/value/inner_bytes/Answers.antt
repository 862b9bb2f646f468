use Rattle.std.proofs.Common.{rules, ◌≡◌, ◌-◌, ◌++◌, ◌∙◌, take, drop, length, length-drop, pos, refl, ap, sym, arith}
use Rattle.std.proofs.lemmas.Int.{ints}
use Rattle.std.proofs.lemmas.List.{take_all, take-append-drop}
use Rattle.raw_view.specs.Meaning.{malformed, malformed_at, no_inner_length, overflow, wrong_inner_length}
use Rattle.raw_view.specs.declared.error.Reason.TheVariants as reason
use Rattle.raw_view.specs.Frame.Number.{IsLe32}
use Rattle.raw_view.proofs.Bytes.Numbers.{length_fits}
use Rattle.raw_view.proofs.value.inner_bytes.Goals as goal

pub returns-then-outer-lt4-clause-fault : goal.returns-then-outer-lt4-clause-fault
returns-then-outer-lt4-clause-fault c = (malformed_at reason.OldNoInner c.args.key.now, no_inner_length c.if-outer-lt4.true refl, c.malformed_at.ensures.tells)

pub returns-then-contains-clause-fault : goal.returns-then-contains-clause-fault
returns-then-contains-clause-fault c = (malformed reason.AddOverflow, overflow c.front_i32-inner.result (omega arith) c.front_i32-inner.ensures (search rules) refl, c.malformed.ensures.tells)

pub returns-then-from-outer-clause-fault : goal.returns-then-from-outer-clause-fault
returns-then-from-outer-clause-fault c = (
  malformed_at reason.OldWrongInner c.args.key.now,
  wrong_inner_length c.front_i32-inner.result (omega arith) c.front_i32-inner.ensures (search rules) (search rules) refl,
  c.malformed_at-then-from-outer.ensures.tells,
)

pub returns-clause-inner : goal.returns-clause-inner
returns-clause-inner c =
    let outer = c.args.outer.now in
    let all : take (length outer - 4) (drop 4 outer) ≡ drop 4 outer = take_all _ _ (omega (arith, length-drop 4 outer)) in
    let counted : c.front_i32-inner.result ≡ pos (length (drop 4 outer)) = omega (arith, ints, length-drop 4 outer) in
    let header : IsLe32 (take 4 outer) (pos (length (drop 4 outer))) = rw (← counted) c.front_i32-inner.ensures in
    rw all (record {
      fits = length_fits (take 4 outer) (length (drop 4 outer)) header;
      spelled = sym (take-append-drop 4 outer) ∙ ap (λ x. x ++ drop 4 outer) header.bytes_are;
    })
