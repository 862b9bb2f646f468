use Rattle.bson_model.proofs.OptionOrder.{OrdersOptions-sorted_options}
use Rattle.bson_model.proofs.regexes.Regex.new.Goals as goal

pub returns-clause-ordered : goal.returns-clause-ordered
returns-clause-ordered c = rw c.in_ok-in_order.ensures (OrdersOptions-sorted_options c.args.options.now c.utf8.options)
