use Rattle.std.proofs.Common.{rules, ◌≡◌, ◌≢◌, ◌∙◌, ℕ, List, Option, None, Some, Vec, ap, option_map, sym}
use Rattle.std.proofs.lemmas.Result.{IfOk-weaker}
use Rattle.std.specs.declared.alloc.Global.{Global}
use Rattle.raw_form.specs.FormsWithin.{IsFormWithin}
use Rattle.raw_view.specs.declared.error.ErrorKind.TheVariants.{OutOfMemory}
use Rattle.dump_commands.specs.diff.Again.{IsFormAgain}
use Rattle.dump_commands.specs.diff.Sides.{side_of}
use Rattle.dump_commands.specs.state.Forms.{digest_of}
use Rattle.dump_commands.proofs.Rereading.{form_found, form_missing, no_form, none_again, read_bytes, told_same}
use Rattle.dump_commands.proofs.state.Digesting.{digest_is}
use Rattle.dump_commands.proofs.diff.again.form_again.Goals as goal

pub returns-in-Err : goal.returns-in-Err
returns-in-Err g c =
    let s = side_of c.args.side.now in
    let input = g.I.Inputs.bytes_of c.args.inputs.now s.place.name in
    let b = c.deref.result.now in
    let there = read_bytes input s.place.offset s.size c.in_ok-bytes.field-0 c.in-Some.bytes b c.in-Some.is c.deref.ensures.value c.in_ok-bytes.ensures.bytes in
    none_again c.args.limits s b input c.none_of.result c.in-Err.error.kind there (λ not. no_form c.in-Err.error c.in-Err.ensures.one_answer c.in-Err.ensures.refused not) c.none_of.ensures.none

pub returns-then-eq : goal.returns-then-eq
returns-then-eq g c =
    let s = side_of c.args.side.now in
    let input = g.I.Inputs.bytes_of c.args.inputs.now s.place.name in
    let b = c.deref.result.now in
    let there = read_bytes input s.place.offset s.size c.in_ok-bytes.field-0 c.in-Some.bytes b c.in-Some.is c.deref.ensures.value c.in_ok-bytes.ensures.bytes in
    let is : c.digest.result ≡ digest_of c.in-Ok.form.items = digest_is _ _ (search rules) in
    let same : c.digest.result ≡ s.form = search rules in
    form_found c.args.limits s b input c.in-Ok.form.items there c.in-Ok.ensures.form (sym is ∙ same)

pub returns : goal.returns
returns g c =
    let s = side_of c.args.side.now in
    let input = g.I.Inputs.bytes_of c.args.inputs.now s.place.name in
    let b = c.deref.result.now in
    let there = read_bytes input s.place.offset s.size c.in_ok-bytes.field-0 c.in-Some.bytes b c.in-Some.is c.deref.ensures.value c.in_ok-bytes.ensures.bytes in
    let first : c.digest.result ≡ digest_of c.in-Ok.form.items = digest_is _ _ (search rules) in
    form_missing c.args.limits s b input there (λ form is same. told_same c.digest.result s.form
    (first ∙ ap digest_of (sym (c.in-Ok.ensures.one_form b c.in-Ok.form.items form c.in-Ok.ensures.form.form is.form)) ∙ same) c.if-eq.ensures)
