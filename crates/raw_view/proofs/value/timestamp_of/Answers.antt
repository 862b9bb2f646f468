use Rattle.std.proofs.Common.{◌≡◌, ◌++◌, sym}
use Rattle.std.proofs.lemmas.List.{take-append-drop}
use Rattle.raw_view.proofs.Frames.Payloads.{timestamp_found}
use Rattle.raw_view.proofs.value.timestamp_of.Goals as goal

pub returns : goal.returns
returns c =
    let whole : c.args.payload.now ≡ c.split_at.result.0.now ++ c.split_at.result.1.now = rw (c.split_at.ensures.front, c.split_at.ensures.back) (sym (take-append-drop 4 c.args.payload.now)) in
    timestamp_found _ _ _ _ _ whole c.u32_of-2.ensures c.u32_of.ensures
