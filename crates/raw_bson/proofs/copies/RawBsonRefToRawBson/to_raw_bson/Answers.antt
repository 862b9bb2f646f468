use Rattle.std.proofs.Common.{ap}
use Rattle.raw_view.specs.Meaning.{array}
use Rattle.raw_bson.proofs.copies.RawBsonRefToRawBson.to_raw_bson.Goals as goal

pub returns-in_ok-to_raw_array_buf-in-Array-clause-copied :
    goal.returns-in_ok-to_raw_array_buf-in-Array-clause-copied
returns-in_ok-to_raw_array_buf-in-Array-clause-copied c =
    let same = c.in_ok-to_raw_array_buf-in-Array.ensures.copied in
    rw c.in-Array.is (record { value_is = ap array same; count_is = rw same c.in_ok-to_raw_array_buf-in-Array.ensures.counted })
