use Rattle.std.proofs.Common.{◌≡◌, ap, ◌∙◌, w64}
use Rattle.std.specs.Int.{from_le_bytes}
use Rattle.raw_view.proofs.Bytes.Numbers.{unsigned64}
use Rattle.raw_view.proofs.front.number.u64_of.Goals as goal

pub returns : goal.returns
returns c =
    let same : c.from_le_bytes.result ≡ from_le_bytes w64 c.args.bytes.now = c.from_le_bytes.ensures ∙ ap (from_le_bytes w64) c.array_of.ensures in
    rw same (unsigned64 _ c.requires (λ i. (c.type_inv.bytes i).fits))
