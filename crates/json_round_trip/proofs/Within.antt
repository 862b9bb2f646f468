-- A text that writes the document b, read within limits that b is within, isn't read only for lack of memory.
use Rattle.std.proofs.Common.{◌≡◌, ◌≤◌, ℕ, List, length, min, refl, sym, ap, subst, ◌∙◌, arith}
use Rattle.std.proofs.Math.Nat.{le-min}
use Rattle.bson_model.specs.Tree.{Tree, Entries, document}
use Rattle.raw_view.specs.Frame.Envelope.{IsEnvelope}
use Rattle.raw_view.specs.Frame.Number.{max_length}
use Rattle.raw_tree.specs.Encoding.{encoded_len, encoding}
use Rattle.raw_tree.specs.Reading.{Reads, as_document}
use Rattle.raw_tree.specs.declared.reader.limits.Limits.{Limits}
use Rattle.raw_tree.proofs.Face.{bytes_one_way, length-tree_payload, to_depth}
use Rattle.bson_from_json.specs.Depths.{tree_depth}
use Rattle.bson_from_json.specs.JsonReason.TheVariants as reason
use Rattle.bson_from_json.specs.Texts.{Says}
use Rattle.json_round_trip.specs.Closing.{IsReadWithin, IsWithin}
use Rattle.json_round_trip.proofs.Deep.{read_deep}

module _ (b text : List ℕ) (env : IsEnvelope b) (es : Entries) (says : Says text es) (spelled : encoding (document es) ≡ b) (reads : Reads b (document es)) where
  few : (limits : Limits) → IsWithin limits b → encoded_len (document es) ≤ min limits.bytes max_length
  few limits (t, within) =
      let len : encoded_len (document es) ≡ length b = sym (length-tree_payload (document es)) ∙ ap length spelled in
      le-min (omega (arith, len, within.few_bytes)) (omega (arith, len, env.header.fits))

  shallow : (limits : Limits) → IsWithin limits b → tree_depth (document es) ≤ limits.depth
  shallow limits (t, within) =
      let same : t ≡ document es = (bytes_one_way as_document b env).one_tree (document es) t reads within.read in
      subst (λ (x : Tree). tree_depth x ≤ limits.depth) same (read_deep limits.depth as_document b t (to_depth limits b t within))

  pub read_within_limits : IsReadWithin text b
  read_within_limits limits reason.OutOfMemory within is = refl
  read_within_limits limits reason.TooManyBytes within all = absurd (omega (arith, all es says, few limits within))
  read_within_limits limits reason.TooDeep within all = absurd (omega (arith, all es says, shallow limits within))
  read_within_limits limits reason.EndOfText within none = absurd (none es says)
  read_within_limits limits reason.ByteOrderMark within none = absurd (none es says)
  read_within_limits limits reason.ExpectedDocument within none = absurd (none es says)
  read_within_limits limits reason.ExpectedKey within none = absurd (none es says)
  read_within_limits limits reason.ExpectedColon within none = absurd (none es says)
  read_within_limits limits reason.ExpectedComma within none = absurd (none es says)
  read_within_limits limits reason.ExpectedValue within none = absurd (none es says)
  read_within_limits limits reason.TextBehind within none = absurd (none es says)
  read_within_limits limits reason.BadNumber within none = absurd (none es says)
  read_within_limits limits reason.IntegerTooLarge within none = absurd (none es says)
  read_within_limits limits reason.NumberTooLarge within none = absurd (none es says)
  read_within_limits limits reason.ControlCharacter within none = absurd (none es says)
  read_within_limits limits reason.BadEscape within none = absurd (none es says)
  read_within_limits limits reason.LoneSurrogate within none = absurd (none es says)
  read_within_limits limits reason.InteriorNul within none = absurd (none es says)
  read_within_limits limits (reason.Malformed w) within none = absurd (none es says)
  read_within_limits limits reason.InexactDecimal within none = absurd (none es says)
