use Rattle.std.proofs.Common.{◌≡◌, List, ℕ, Some, [], ap, sym, ◌∙◌, subst, take}
use Rattle.bsonraw_c.specs.BuildParts.{AddsUnder}
use Rattle.bsonraw_c.specs.Numbers.{number_size}
use Rattle.bsonraw_c.proofs.Building.{appended, as_it_is, declined, number_appended}
use Rattle.bsonraw_c.proofs.build.Builder.append_number.Goals as goal

pub returns-in-Ok : goal.returns-in-Ok
returns-in-Ok c =
    let n = c.in-Some-number_size.size in
    let kind = c.in-Some.kind in
    let layout = c.of-layout.result in
    let payload = take n c.to_le_bytes-bytes.result in
    let old = c.args.self.now in
    let new = c.add_under.new.self in
    let size : number_size layout ≡ Some n = cc in
    let whole = subst (λ (x : List ℕ). AddsUnder c.args.key.now kind x old new c.args.room.now c.add_under.new.room) (sym (as_it_is layout n payload [] size)) c.add_under.ensures in
    number_appended c.args.tag c.args.key.now payload c.args.number n kind old new c.in-Some.ensures.kind
    (ap number_size (sym c.of-layout.ensures) ∙ size) (ap (λ (x : List ℕ). take n x) c.to_le_bytes-bytes.ensures)
    (appended kind layout c.args.key.now payload [] old new (c.requires, c.is_begun.ensures.0 c.if-not-is_begun.false)
    (sym c.of-layout.ensures) c.in-Ok.ensures.good whole)

pub returns-in-Err : goal.returns-in-Err
returns-in-Err c =
    let n = c.in-Some-number_size.size in
    let kind = c.in-Some.kind in
    let layout = c.of-layout.result in
    let payload = take n c.to_le_bytes-bytes.result in
    let old = c.args.self.now in
    let new = c.refuse-in-Err.new.self in
    let size : number_size layout ≡ Some n = cc in
    number_appended c.args.tag c.args.key.now payload c.args.number n kind old new c.in-Some.ensures.kind
    (ap number_size (sym c.of-layout.ensures) ∙ size) (ap (λ (x : List ℕ). take n x) c.to_le_bytes-bytes.ensures)
    (declined kind layout c.args.key.now payload [] c.in-Err.status old new (c.requires, c.is_begun.ensures.0 c.if-not-is_begun.false)
    (sym c.of-layout.ensures) c.in-Err.ensures.refused c.refuse-in-Err.ensures)
