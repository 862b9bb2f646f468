use Rattle.std.proofs.Common.{Ok, Err}
use Rattle.raw_view.specs.Frame.ElementSteps.{frame_of}
use Rattle.raw_tree.proofs.reader.OneWay.{element_one_way}
use Rattle.raw_tree.proofs.reader.bson_from_element.Goals as goal

pub returns-in_err-value-clause-one_reading : goal.returns-in_err-value-clause-one_reading
returns-in_err-value-clause-one_reading c = element_one_way (frame_of c.args.element) (Err c.in_err-value.field-0.0) c.in_err-value.ensures.meaning

pub returns-clause-one_reading : goal.returns-clause-one_reading
returns-clause-one_reading c = element_one_way (frame_of c.args.element) (Ok c.in_ok-value.value) c.in_ok-value.ensures.meaning
