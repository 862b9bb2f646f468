use Rattle.std.proofs.Common.{rules, [], ◌∷◌, ◌++◌, OnOk, codes, decimal, subst, sym}
use Rattle.std.specs.Fmt.{signed_decimal}
use Rattle.json.specs.Token.{key, number, string}
use Rattle.dump_io.specs.lines.Told.{Grows}
use Rattle.dump_io.specs.input.Endings.{ending_members}
use Rattle.dump_io.proofs.lines.Cases.{on_ok}
use Rattle.dump_io.proofs.lines.Objects.{grows_more}
use Rattle.dump_io.proofs.input.rest.put_ending.Goals as goal

pub returns-in_ok-put_text-in-Unsound : goal.returns-in_ok-put_text-in-Unsound
returns-in_ok-put_text-in-Unsound c =
    let old = c.args.object.now in
    let mid = c.put_text-in-Unsound.new.object in
    let new = c.put_signed.new.object in
    let len = c.in-Unsound.len in
    let first = key (codes "finding") ∷ string (codes "unsound length") ∷ [] in
    let more = key (codes "length") ∷ number (signed_decimal len) ∷ [] in
    let put : OnOk c.put_signed.result (Grows mid new more) = search rules in
    let grows = on_ok c.put_signed.result (Grows mid new more) (Grows old new (first ++ more)) (λ m. grows_more old mid new first more c.in_ok-put_text-in-Unsound.ensures m) put in
    subst (λ e. OnOk c.put_signed.result (Grows old new (ending_members e))) (sym c.in-Unsound.is) grows

pub returns-in_ok-put_text-in-WrongLength : goal.returns-in_ok-put_text-in-WrongLength
returns-in_ok-put_text-in-WrongLength c =
    let old = c.args.object.now in
    let mid = c.put_text-in-WrongLength.new.object in
    let new = c.put_number-in-WrongLength.new.object in
    let len = c.in-WrongLength.len in
    let first = key (codes "finding") ∷ string (codes "wrong length") ∷ [] in
    let more = key (codes "length") ∷ number (decimal len) ∷ [] in
    let put : OnOk c.put_number-in-WrongLength.result (Grows mid new more) = search rules in
    let grows = on_ok c.put_number-in-WrongLength.result (Grows mid new more) (Grows old new (first ++ more))
    (λ m. grows_more old mid new first more c.in_ok-put_text-in-WrongLength.ensures m) put in
    subst (λ e. OnOk c.put_number-in-WrongLength.result (Grows old new (ending_members e))) (sym c.in-WrongLength.is) grows
