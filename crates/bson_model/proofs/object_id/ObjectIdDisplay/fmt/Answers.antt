use Rattle.std.proofs.Common.{◌<◌, lit<}
use Rattle.std.specs.Str.{IsAscii}
use Rattle.std.proofs.lemmas.List.Elements.{All-from_recursion}
use Rattle.std.proofs.lemmas.Str.{IsUtf8-from_ascii}
use Rattle.std.proofs.lemmas.Str.Ascii.{IsAscii-from_all}
use Rattle.hex.specs.Hex.{lower_digits}
use Rattle.hex.proofs.HexLemmas.{IsAscii-encode_with}
use Rattle.bson_model.proofs.object_id.ObjectIdDisplay.fmt.Goals as goal

-- the sixteen digits
table : IsAscii lower_digits
table =
    IsAscii-from_all lower_digits (All-from_recursion (λ b. b < 128) lower_digits (
      lit< tt,
      (
        lit< tt,
        (
          lit< tt,
          (
            lit< tt,
            (
              lit< tt,
              (lit< tt, (lit< tt, (lit< tt, (lit< tt, (lit< tt, (lit< tt, (lit< tt, (lit< tt, (lit< tt, (lit< tt, (lit< tt, tt))))))))))),
            ),
          ),
        ),
      ),
    ))

pub unreachable-requires-in_default-from_utf8 : goal.unreachable-requires-in_default-from_utf8
unreachable-requires-in_default-from_utf8 g c =
    let text = IsUtf8-from_ascii _ (IsAscii-encode_with lower_digits c.bytes-bytes.result table) in
    c.in_default-from_utf8.ensures.cases.0 (rw c.in-Ok.ensures.written text)
