use Rattle.std.proofs.Common.{◌≡◌, ◌≤◌, ◌+◌, Some, slice_get, length, take, ap, sym, ◌∙◌, arith}
use Rattle.std.proofs.lemmas.List.{take_all}
use Rattle.std.proofs.lemmas.Option.{slice_get-get_or}
use Rattle.std.proofs.lemmas.Str.{IsUtf8-string_bytes}
use Rattle.bson_model.specs.Tree.{pairs_of}
use Rattle.bson_model.proofs.Measures.{value_smaller}
use Rattle.bson_model.proofs.Trees.{tree_of-Double, tree_of-String, tree_of-RegularExpression, tree_of-DbPointer, tree_of-JavaScriptCode, tree_of-Symbol, tree_of-JavaScriptCodeWithScope, tree_of-Timestamp}
use Rattle.bson_model.proofs.WellFormed.{ArePairsWellFormed, AreWellFormed-more, ArePairsWellFormed-more, text_at, not_past, IsWellFormed-document}
use Rattle.bson_model.proofs.laws.+attest.Goals.{attest_document-in-Some, attest_document-in_default}
use Rattle.bson_model.proofs.laws.+attest.Goals as goal

pub attest_value-returns-in-Double : goal.attest_value-returns-in-Double
attest_value-returns-in-Double t c = rw (c.in-Double.is, tree_of-Double) c.attest_u64.ensures

pub attest_value-returns-in-DbPointer : goal.attest_value-returns-in-DbPointer
attest_value-returns-in-DbPointer t c =
    let id = rw c.bytes-bytes-in-DbPointer.ensures.bytes at c.bytes-bytes-in-DbPointer.ensures.in_range in
    rw (c.in-DbPointer.is, tree_of-DbPointer) (IsUtf8-string_bytes c.in-DbPointer.pointer.namespace, id)

pub attest_value-returns-in-JavaScriptCodeWithScope :
    goal.attest_value-returns-in-JavaScriptCodeWithScope
attest_value-returns-in-JavaScriptCodeWithScope t c =
    let scope = c.attest_document-in-JavaScriptCodeWithScope.ensures in
    rw (c.in-JavaScriptCodeWithScope.is, tree_of-JavaScriptCodeWithScope) (IsUtf8-string_bytes c.in-JavaScriptCodeWithScope.code.code, scope.0, scope.1)

pub attest_value-returns-in-Timestamp : goal.attest_value-returns-in-Timestamp
attest_value-returns-in-Timestamp t c = rw (c.in-Timestamp.is, tree_of-Timestamp) (c.attest_u32.ensures, c.attest_u32-in-Timestamp.ensures)

pub attest_value-returns-in-String : goal.attest_value-returns-in-String
attest_value-returns-in-String t c = rw (c.in-String.is, tree_of-String) (IsUtf8-string_bytes c.in-String._text)

pub attest_value-returns-in-JavaScriptCode : goal.attest_value-returns-in-JavaScriptCode
attest_value-returns-in-JavaScriptCode t c = rw (c.in-JavaScriptCode.is, tree_of-JavaScriptCode) (IsUtf8-string_bytes c.in-JavaScriptCode._text)

pub attest_value-returns-in-Symbol : goal.attest_value-returns-in-Symbol
attest_value-returns-in-Symbol t c = rw (c.in-Symbol.is, tree_of-Symbol) (IsUtf8-string_bytes c.in-Symbol._text)

pub attest_value-returns-in-RegularExpression : goal.attest_value-returns-in-RegularExpression
attest_value-returns-in-RegularExpression t c =
    rw (c.in-RegularExpression.is, tree_of-RegularExpression) (IsUtf8-string_bytes c.in-RegularExpression._regex.pattern, IsUtf8-string_bytes c.in-RegularExpression._regex.options)

pub attest_document-attest_value-requires : goal.attest_document-attest_value-requires
attest_document-attest_value-requires t c =
    let below = value_smaller c.args.document.now c.loop-index.index c.in-Some._key.now c.in-Some.value.now (sym c.in-Some.ensures.pair) in
    let here = c.decreases in (omega arith, tt)

pub attest_document-loop-index-preserved : goal.attest_document-loop-index-preserved
attest_document-loop-index-preserved t c =
    let ps = pairs_of c.args.document.now in
    let i = c.loop-index.index in
    let more : ArePairsWellFormed (take (i + 1) ps) =
    elim c.match-pair_at.branch [
      | attest_document-in-Some w ↦ ArePairsWellFormed-more ps i w.in-Some._key.now w.in-Some.value.now (sym w.in-Some.ensures.pair) c.loop-index.invariant.1
          (text_at ps c.len-index-end.ensures.texts i w.in-Some._key.now w.in-Some.value.now (sym w.in-Some.ensures.pair)) w.attest_value.ensures
      | attest_document-in_default w ↦ absurd (not_past ps i (let h = c.loop-index-test.true in let e = c.len-index-end.ensures.len in omega arith) (sym w.in_default.ensures.pair))
    ] in
    (c.loop-index.invariant.0, more)

pub attest_document-returns : goal.attest_document-returns
attest_document-returns t c =
    let whole : length (pairs_of c.args.document.now) ≤ c.loop-index.index = let e = c.len-index-end.ensures.len in omega arith in
    IsWellFormed-document c.args.document.now c.len-index-end.ensures.distinct (rw (take_all c.loop-index.index (pairs_of c.args.document.now) whole) at c.loop-index.invariant.1)

pub attest_list-loop-member-preserved : goal.attest_list-loop-member-preserved
attest_list-loop-member-preserved t c =
    let at : slice_get c.args.values.now c.loop-member.member-index ≡ Some c.member-item.result =
    slice_get-get_or c.args.values.now c.loop-member.member-index c.member-item.result c.loop-member-test.true ∙ ap Some (sym c.member-item.is) in
    AreWellFormed-more c.args.values.now c.loop-member.member-index c.member-item.result at c.loop-member.invariant c.attest_value.ensures
