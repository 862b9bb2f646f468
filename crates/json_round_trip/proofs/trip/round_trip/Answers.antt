use Rattle.std.proofs.Common.{List, ℕ, string_bytes, subst}
use Rattle.raw_view.specs.Document.{bytes_of}
use Rattle.bson_from_json.specs.Texts.{IsCause, IsWritten}
use Rattle.json_round_trip.proofs.Law.{closes_circle, prints_within, same_again}
use Rattle.json_round_trip.proofs.trip.round_trip.Goals as goal

pub returns-in-Ok-from_json-clause-same : goal.returns-in-Ok-from_json-clause-same
returns-in-Ok-from_json-clause-same c =
    let again : List ℕ = c.in-Ok-from_json.again in
    let written = subst (λ (x : List ℕ). IsWritten x again) c.as_str.ensures.value c.in-Ok-from_json.ensures.written in
    same_again (bytes_of c.args.document) c.args.document.envelope c.args.layout again (string_bytes c.in-Ok.text, c.in-Ok.ensures.text, written)

pub returns-clause-error : goal.returns-clause-error
returns-clause-error c =
    let reason = c.in-Err-from_json.error.reason in
    let cause = subst (λ (x : List ℕ). IsCause c.args.limits x reason) c.as_str.ensures.value c.in-Err-from_json.ensures.cause in
    (string_bytes c.in-Ok.text, c.in-Ok.ensures.text, cause)

pub returns-clause-memory : goal.returns-clause-memory
returns-clause-memory c = λ back within.
    let reason = c.in-Err-from_json.error.reason in
    let cause = subst (λ (x : List ℕ). IsCause c.args.limits x reason) c.as_str.ensures.value c.in-Err-from_json.ensures.cause in
    (closes_circle (bytes_of c.args.document) c.args.document.envelope back c.args.layout (string_bytes c.in-Ok.text) c.in-Ok.ensures.text).1 c.args.limits reason within cause

pub returns-in-Err-clause-memory : goal.returns-in-Err-clause-memory
returns-in-Err-clause-memory c = λ back within. prints_within c.args.limits (bytes_of c.args.document) c.args.document.envelope _ c.in-Err.ensures.err within
