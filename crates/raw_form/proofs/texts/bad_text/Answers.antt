use Rattle.std.proofs.Common.{List, ℕ}
use Rattle.raw_form.specs.Replacing.{HasBadText}
use Rattle.raw_form.proofs.canonical.Common.{frame_of}
use Rattle.raw_form.proofs.texts.Bad.{bad_parts, fault_is_bad, kind_is_utf8, no_value_is_bad, said_utf8}
use Rattle.raw_view.specs.Meaning.Value.{value_of}
use Rattle.raw_form.proofs.texts.bad_text.Goals.{In-Utf8EncodingError}
use Rattle.raw_form.proofs.texts.bad_text.Goals as goal

pub returns-in_default-clause-none : goal.returns-in_default-clause-none
returns-in_default-clause-none c text rest bad = no_value_is_bad (frame_of c.args.element) (value_of c.in_default.field-0) text rest c.in_default.ensures.value bad

pub returns-in_default-kind-clause-none : goal.returns-in_default-kind-clause-none
returns-in_default-kind-clause-none c text rest bad =
    let h = c.in-Err.ensures.fault in
    let (why, is) = kind_is_utf8 (frame_of c.args.element) c.in-Err.error h.0 text rest h.1 h.2 bad in
    c.in_default-kind.not-Utf8EncodingError why is

-- the text
bad_in : (c : In-Utf8EncodingError) → (text rest : List ℕ) × HasBadText c.args.element.kind c.args.element.payload.now text rest
bad_in c =
    let h = c.in-Err.ensures.fault in
    fault_is_bad c.args.element.kind c.args.element.key.now c.args.element.payload.now h.0 h.1 (said_utf8 c.in-Err.error h.0 c.in-Utf8EncodingError.field-0 h.2 c.in-Utf8EncodingError.is)

pub string_in-requires : goal.string_in-requires
string_in-requires c =
    let bad = bad_in (goal.at.string_in-requires c).In-Utf8EncodingError in
    rw c.payload.ensures (bad_parts c.args.element.kind c.args.element.payload.now bad.0 bad.1 bad.2).0

pub parts_of-requires : goal.parts_of-requires
parts_of-requires c =
    let bad = bad_in (goal.at.parts_of-requires c).In-Utf8EncodingError in
    let parts = bad_parts c.args.element.kind c.args.element.payload.now bad.0 bad.1 bad.2 in
    (bad.0, bad.1, parts.1, rw (c.string_in.ensures, c.element_type.ensures, c.payload.ensures) parts.2)

pub returns-clause-text : goal.returns-clause-text
returns-clause-text c =
    let bad = bad_in (goal.at.returns-clause-text c).In-Utf8EncodingError in
    let parts = bad_parts c.args.element.kind c.args.element.payload.now bad.0 bad.1 bad.2 in
    let same = c.parts_of.ensures bad.0 bad.1 parts.1 (rw (c.string_in.ensures, c.element_type.ensures, c.payload.ensures) parts.2) in
    rw (same.0, same.1) bad.2
