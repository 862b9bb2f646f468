use Rattle.std.proofs.Common.{◌≡◌, ◌-◌, length, drop, subst, refl, rules}
use Rattle.std.proofs.lemmas.Grind.{common_steps}
use Rattle.bsonraw_c.proofs.PlainBytes.{IsPlain, plain_over}
use Rattle.bsonraw_c.proofs.plain_bytes.is_plain_by.Goals as goal

pub returns-then-begins_plain : goal.returns-then-begins_plain
returns-then-begins_plain g c is =
    let bytes = c.args.bytes.now in
    let front = c.if-begins_plain.ensures in
    let behind = c.begins_plain-then-begins_plain.ensures in
    let last : c.split_at.result.1.now ≡ drop (length bytes - g.row.N) bytes = search (rules, common_steps) in
    plain_over g.row.N bytes c.requires.long c.requires.short
    (front.nul_free refl, front.ascii refl)
    (subst (IsPlain g.row.N) last (behind.nul_free is, behind.ascii is))
