use Rattle.std.proofs.Common.{◌≡◌, ℕ, List, codes, subst, refl}
use Rattle.std.specs.Io.KnownBytes.{Appends}
use Rattle.raw_view.specs.Document.{bytes_of}
use Rattle.bson_to_json.specs.Errors.{TellsWriteError}
use Rattle.bson_to_json.specs.Json.{IsJson}
use Rattle.dump_io.specs.lines.Fronts.{AppendsFront, WritesFront}
use Rattle.dump_io.proofs.Face.{on_err}
use Rattle.dump_commands.specs.Making.{IsJsonLine}
use Rattle.dump_commands.proofs.Emitting.{json_failed, json_unended}
use Rattle.dump_commands.proofs.making.put_json.Goals as goal

pub returns-in-Ok-write_json-clause-front : goal.returns-in-Ok-write_json-clause-front
returns-in-Ok-write_json-clause-front g c =
    let style = c.args.style in
    let b = c.args.bytes.now in
    let old = g.D.Write.contents c.args.out.now.inner in
    let mid = g.D.Write.contents c.write_json.new.out.inner in
    let new = g.D.Write.contents c.put_one.new.out.inner in
    let same : bytes_of c.in-Ok.document ≡ b = c.in-Ok.ensures.same in
    let written = subst (λ (x : List ℕ). (text : List ℕ) × IsJson style x text × Appends old mid text) same c.in-Ok-write_json.ensures.text in
    on_err c.put_one.result (AppendsFront mid new (codes "\n")) (WritesFront (IsJsonLine style b) old new) (λ front. json_unended style b old mid new written front) c.put_one.ensures.front

pub returns-in-Err-Writing-clause-front : goal.returns-in-Err-Writing-clause-front
returns-in-Err-Writing-clause-front g c =
    let style = c.args.style in
    let b = c.args.bytes.now in
    let old = g.D.Write.contents c.args.out.now.inner in
    let new = g.D.Write.contents c.write_json.new.out.inner in
    let same : bytes_of c.in-Ok.document ≡ b = c.in-Ok.ensures.same in
    let tells = subst (λ (x : List ℕ). TellsWriteError c.args.limits style x old new c.in-Err-Writing.field-0) same c.in-Err-Writing.ensures.err in
    json_failed c.args.limits style b old new c.in-Err-Writing.field-0 tells

pub returns : goal.returns
returns g c =
    let style = c.args.style in
    let b = c.args.bytes.now in
    let old = g.D.Write.contents c.args.out.now.inner in
    let new = g.D.Write.contents c.write_json.new.out.inner in
    let same : bytes_of c.in-Ok.document ≡ b = c.in-Ok.ensures.same in
    let tells = subst (λ (x : List ℕ). TellsWriteError c.args.limits style x old new c.in-Err.field-0) same c.in-Err.ensures.err in
    record { written = tt; front = json_failed c.args.limits style b old new c.in-Err.field-0 tells; table = refl; failed = λ reading. reading }
