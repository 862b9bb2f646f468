use Rattle.std.proofs.Common.{rules, ◌≡◌, ◌≤◌, ℕ, List, arith, length, length-take-le, subst, sym, take}
use Rattle.raw_tree.specs.declared.reader.limits.Limits.{Limits}
use Rattle.dump_io.specs.input.Reading.{ahead_of}
use Rattle.dump_io.specs.input.Texts.{MayGoOn}
use Rattle.dump_io.specs.declared.input.scan.Scan.TheVariants as scan
use Rattle.dump_io.proofs.Face.{scans_as}
use Rattle.dump_runs.specs.texts.Run.{Gives}
use Rattle.dump_runs.specs.texts.Steps.{IsMadeOf, TellsNoText}
use Rattle.dump_runs.specs.declared.texts.cursor.NextText.TheVariants as next
use Rattle.dump_runs.specs.declared.texts.piece.Made.{Made}
use Rattle.dump_runs.proofs.texts.Whole.{has_begun, scanned_there, torn_is_none, written_there}
use Rattle.dump_runs.proofs.texts.piece.pass_found.Goals as goal

-- what is made of the text that is ahead
made_as : (limits : Limits) (len : ℕ) {l ahead : List ℕ} {m n : Made} → l ≡ ahead → m ≡ n → IsMadeOf limits (take len l) m → IsMadeOf limits (take len ahead) n
made_as limits len {l} {ahead} {m} {n} same is made = subst (λ (l : List ℕ). IsMadeOf limits (take len l) n) same (subst (λ (m : Made). IsMadeOf limits (take len l) m) is made)

pub pass_document-requires : goal.pass_document-requires
pass_document-requires g c =
    let found = c.args.found in
    let ahead = ahead_of c.args.cursor.now.window in
    let written : Gives c.args.input.job.limits (take found.len ahead) c.in-Document.document =
    made_as c.args.input.job.limits found.len c.ahead.ensures c.in-Document.is c.in_ok-document.ensures.made in
    (c.requires.0, c.requires.3.within, written_there ahead found c.requires.2 c.requires.3 c.args.cursor.now.turn c.requires.1 c.in-Document.document written.0)

pub returns-in-Document : goal.returns-in-Document
returns-in-Document g c =
    let input = c.args.input in
    let written = made_as input.job.limits c.args.found.len c.ahead.ensures c.in-Document.is c.in_ok-document.ensures.made in
    c.pass_document.ensures input.job input.name.now (next.Text c.args.found) written

pub pass_refused-requires : goal.pass_refused-requires
pass_refused-requires g c =
    let found = c.args.found in
    let ahead = ahead_of c.args.cursor.now.window in
    let is : found.scan ≡ scan.Whole = search rules in
    let fault = made_as c.args.input.job.limits found.len c.ahead.ensures c.in-Fault.is c.in_ok-document.ensures.made in
    let size = length-take-le found.len ahead c.requires.3.within in (
      c.requires.0,
      c.requires.3.within,
      scanned_there ahead found c.requires.2 c.requires.3 c.args.cursor.now.turn c.requires.1 is,
      subst (λ (n : ℕ). c.in-Fault.at ≤ n) size fault.0,
      fault.1,
    )

pub returns-in-Fault : goal.returns-in-Fault
returns-in-Fault g c = c.pass_refused.ensures (next.Text c.args.found)

pub pass_astray-requires : goal.pass_astray-requires
pass_astray-requires g c =
    let found = c.args.found in
    let scans = c.requires.3 in
    let ahead = ahead_of c.args.cursor.now.window in
    let f = c.fault_of-fault.result in
    let same : f.len ≡ c.begun.result = c.fault_of-fault.ensures.begun in
    let less : c.begun.result ≤ found.len = c.begun.ensures.less in
    let goes : MayGoOn (take c.begun.result ahead) = (scans_as ahead c.begun.result c.requires.2 (omega (arith, scans.most))).goes (c.begun.ensures.open ahead scans) in (
      c.requires.0,
      omega (arith, scans.within),
      subst (λ (n : ℕ). MayGoOn (take n ahead)) (sym same) goes,
      subst (λ (n : ℕ). f.at ≤ n) (sym same) c.fault_of-fault.ensures.within,
    )

pub returns-in-Fault-2 : goal.returns-in-Fault-2
returns-in-Fault-2 g c =
    let found = c.args.found in
    let scans = c.requires.3 in
    let ahead = ahead_of c.args.cursor.now.window in
    let limits = c.args.input.job.limits in
    let text = take found.len ahead in
    let size : found.len ≡ length text = sym (length-take-le found.len ahead scans.within) in
    let other : ¬ (found.scan ≡ scan.Whole) = search rules in
    let fault = made_as limits found.len c.ahead.ensures c.in-Fault.is c.in_ok-document.ensures.made in
    let f = c.fault_of-fault.result in
    let n = c.begun.result in
    let told : TellsNoText limits ahead (next.Text found) n f.at f.reason = (
      torn_is_none ahead found c.requires.2 scans other,
      has_begun ahead found c.requires.2 scans n (c.begun.ensures.begun text scans.scan size),
      c.fault_of-fault.ensures.fault limits text (sym size) fault.1,
    ) in
    c.pass_astray.ensures (next.Text found) (subst (λ (n : ℕ). TellsNoText limits ahead (next.Text found) n f.at f.reason) (sym c.fault_of-fault.ensures.begun) told)
