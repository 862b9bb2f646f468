use Rattle.std.proofs.Common.{◌≡◌, ◌-◌, length, take, vec_len, append_assoc, arith}
use Rattle.raw_bson.proofs.appending.put_at_end.Goals as goal

pub returns : goal.returns
returns c =
    let old = c.args.bytes.now.items in
    let same : vec_len c.args.bytes.now ≡ length old = omega arith in
    let popped : c.pop.new.self.items ≡ take (length old - 1) old = rw same at c.pop.ensures.rest in
    record { items = rw (c.push_reserved.ensures.items, c.put_element.ensures.items, popped) (simp append_assoc); in_range = c.put_element.ensures.in_range }
