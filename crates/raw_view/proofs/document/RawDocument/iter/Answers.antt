use Rattle.std.proofs.Common.{Option, List, ℕ, subst}
use Rattle.std.specs.Iterator.{Drains}
use Rattle.raw_view.specs.Errors.Answers.{StepsItems, TellsItem}
use Rattle.raw_view.specs.Document.{bytes_of}
use Rattle.raw_view.proofs.Values.ItemSteps.{items_of}
use Rattle.raw_view.proofs.Values.Meanings.{has_items}
use Rattle.raw_view.proofs.Unique.Items.{the_items}
use Rattle.raw_view.proofs.document.RawDocument.iter.Goals as goal

pub returns-clause-items : goal.returns-clause-items
returns-clause-items c outs run =
    let t = items_of TellsItem _ outs (subst (λ (x : Option (List ℕ)). Drains (StepsItems TellsItem) x outs) c.new.ensures run) in
    (t.2, (t.0, t.1, t.3, t.4), t.5)

pub returns-clause-one_list : goal.returns-clause-one_list
returns-clause-one_list c =
    let t = has_items (bytes_of c.args.self) c.args.self.envelope in
    (t.0, the_items (bytes_of c.args.self) t.0 t.1)
