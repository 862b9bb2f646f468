use Rattle.std.proofs.Common.{Option, List, ℕ, subst}
use Rattle.std.specs.Iterator.{Drains}
use Rattle.raw_view.specs.Errors.Answers.{StepsItems, TellsValue}
use Rattle.raw_view.specs.Meaning.Value.{array_bytes_of}
use Rattle.raw_view.proofs.Values.ItemSteps.{items_of}
use Rattle.raw_view.proofs.Values.Meanings.{has_items}
use Rattle.raw_view.proofs.Unique.Items.{the_items}
use Rattle.raw_view.proofs.array.RawArray.iter.Goals as goal

pub returns-clause-items : goal.returns-clause-items
returns-clause-items c outs run =
    let t = items_of TellsValue _ outs (subst (λ (x : Option (List ℕ)). Drains (StepsItems TellsValue) x outs) c.new.ensures run) in
    (t.2, (t.0, t.1, t.3, t.4), t.5)

pub returns-clause-one_list : goal.returns-clause-one_list
returns-clause-one_list c =
    let t = has_items (array_bytes_of c.args.self) c.args.self.document.envelope in
    (t.0, the_items (array_bytes_of c.args.self) t.0 t.1)
