use Rattle.std.proofs.Common.{rules, inr, arith}
use Rattle.std.proofs.lemmas.Grind.{common_steps}
use Rattle.std.proofs.lemmas.Result.{err_from_is_err_and}
use Rattle.bson_uses.proofs.op_msg.read_message.Goals as goal

pub returns-in_err-all_sections-clause-refused : goal.returns-in_err-all_sections-clause-refused
returns-in_err-all_sections-clause-refused c =
    let q = err_from_is_err_and c.from_residual-in_err-all_sections.result c.from_residual-in_err-all_sections.ensures.1 in
    rw (q.1, q.2) (inr (inr (inr (inr (inr (c.cast_unsigned-flags.result, search rules, search rules, search rules, c.in_err-all_sections.ensures.refused))))))

pub returns-clause-message : goal.returns-clause-message
returns-clause-message c = record {
  header = record { enough = search rules; size = search rules; code = search (rules, c.i32_at.ensures); bits = search (rules, c.i32_at-2.ensures.bytes_are) };
  known = search rules;
  room = search rules;
  request_id = search (rules, c.i32_at-3.ensures);
  response_to = search (rules, c.i32_at-4.ensures);
  sections = search rules;
  checksum = first_of (search rules, grind (arith, common_steps));
}
