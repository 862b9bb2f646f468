use Rattle.std.proofs.Common.{rules, ◌≡◌, ◌∙◌, ℕ, List, ap, length, subst, sym}
use Rattle.raw_form.specs.FormsWithin.{IsFormWithin}
use Rattle.dump_io.specs.lines.Origins.{origin_of}
use Rattle.dump_commands.specs.diff.Sides.{IsKey}
use Rattle.dump_commands.specs.state.Forms.{digest_of}
use Rattle.dump_commands.proofs.state.Digesting.{digest_is}
use Rattle.dump_commands.proofs.diff.sides.side_at.Goals as goal

pub returns-in-Ok-clause-side : goal.returns-in-Ok-clause-side
returns-in-Ok-clause-side c =
    let form = c.in-Ok.form.items in
    let key = c.in_ok-key-in-Ok.key.items in
    let is : IsFormWithin c.args.limits c.args.bytes.now form = search rules in
    let has : IsKey c.args.paths.now form key = subst (λ (x : List ℕ). IsKey c.args.paths.now x key) c.deref.ensures.value c.in_ok-key-in-Ok.ensures in
    let of_key : c.digest.result ≡ digest_of key = digest_is _ _ (search rules) in
    let of_form : c.digest-in-Ok.result ≡ digest_of form = digest_is _ _ (search rules) in
    (form, key, is, has, λ i. record { place = origin_of c.args.place; size = length c.args.bytes.now; key = of_key i; form = of_form i })
