use Rattle.std.proofs.Common.{List, ℕ, ◌∷◌, [], codes, decimal, subst}
use Rattle.json.specs.Token.{Token, begin_object, key, number, string}
use Rattle.dump_runs.specs.texts.Faults.{reason_text}
use Rattle.dump_io.specs.lines.Told.{Grows}
use Rattle.dump_io.proofs.Face.{has_more}
use Rattle.dump_runs.proofs.texts.fault.fault_object.Goals as goal

pub returns : goal.returns
returns c =
    let file : List Token = key (codes "file") ∷ string c.args.name.now ∷ [] in
    let line : List Token = key (codes "line") ∷ number (decimal c.args.place.line) ∷ [] in
    let column : List Token = key (codes "column") ∷ number (decimal c.args.place.column) ∷ [] in
    let finding : List Token = key (codes "finding") ∷ string (codes "fault") ∷ [] in
    let reason : List Token = key (codes "reason") ∷ string (reason_text c.args.reason) ∷ [] in
    let a = has_more c.in_ok-object.object c.put_text.new.object (begin_object ∷ []) file c.in_ok-object.ensures c.in_ok-put_text.ensures in
    let b = has_more c.put_text.new.object c.put_number.new.object _ line a c.in_ok-put_number.ensures in
    let d = has_more c.put_number.new.object c.put_number-2.new.object _ column b c.in_ok-put_number-2.ensures in
    let e = has_more c.put_number-2.new.object c.put_text-2.new.object _ finding d c.in_ok-put_text-2.ensures in
    let last = subst (λ (t : List ℕ). Grows c.put_text-2.new.object c.put_text-3.new.object (key (codes "reason") ∷ string t ∷ [])) c.words.ensures c.in_ok-put_text-3.ensures in
    let f = has_more c.put_text-2.new.object c.put_text-3.new.object _ reason e last in
    c.ended.ensures _ f.0 f.1
