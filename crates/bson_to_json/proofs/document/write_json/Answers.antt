use Rattle.bson_to_json.proofs.Common.{Limits, Style, WroteFront, WroteWithin, bytes_of}
use Rattle.std.proofs.Common.{◌≡◌, ◌⊎◌, inl, inr, ℕ, List, Option, Some, ap, refl}
use Rattle.bson_to_json.proofs.Sinks.{appends_of_grows, wrote_front}
use Rattle.bson_to_json.specs.declared.guarded.Guarded.{Guarded}
use Rattle.bson_to_json.proofs.document.write_json.Given as given
use Rattle.bson_to_json.proofs.document.write_json.Goals as goal

-- what is known that a writer holds
abbrev known : (g : given.Over) → Guarded g.row.W.Denot → Option (List ℕ)
known g w = g.W.Write.contents w.inner

pub returns-in-Ok-clause-text : goal.returns-in-Ok-clause-text
returns-in-Ok-clause-text g c =
    let (text, json, grows) = c.in-Ok.ensures.text in
    (text, json, appends_of_grows (g.W.Write.contents c.args.out.now.inner) (g.W.Write.contents c.print.new.out.inner) text grows)

pub returns-in-Err-Barrier-clause-err : goal.returns-in-Err-Barrier-clause-err
returns-in-Err-Barrier-clause-err g c =
    let (told, before) = rw c.in-Err-Barrier.field-0-is at c.in-Err-Barrier.ensures.told in
    (told, ap (known g) (before refl))

-- nothing or a prefix was written
wrote : {S : Type 0} (contents : S → Option (List ℕ)) (style : Style) (limits : Limits) (b : List ℕ) (old new : S)
    → ((new ≡ old) ⊎ WroteWithin (λ (w : S) (most : ℕ) (text : List ℕ). contents w ≡ Some text) style limits b old new)
    → (contents new ≡ contents old) ⊎ WroteFront style b (contents old) (contents new)
wrote contents style limits b old new (inl same) = inl (ap contents same)
wrote contents style limits b old new (inr (t, within, front)) = inr (wrote_front contents style b old new front)

pub returns-in-Err-Failure-OutOfMemory-clause-err : goal.returns-in-Err-Failure-OutOfMemory-clause-err
returns-in-Err-Failure-OutOfMemory-clause-err g c =
    let (few, before) = rw (c.in-Err-Failure-OutOfMemory.field-0-is, c.in-Err-Failure-OutOfMemory.field-0-0-is) at c.in-Err-Failure-OutOfMemory.ensures.told in
    (few, wrote (known g) c.args.style c.args.limits (bytes_of c.args.document) c.args.out.now c.print.new.out (before refl))

pub returns-in-Err-Failure-Writing-clause-err : goal.returns-in-Err-Failure-Writing-clause-err
returns-in-Err-Failure-Writing-clause-err g c =
    let (few, before) = rw (c.in-Err-Failure-Writing.field-0-is, c.in-Err-Failure-Writing.field-0-0-is) at c.in-Err-Failure-Writing.ensures.told in
    let (t, within, front) = before refl in
    (t, within, wrote_front (known g) c.args.style (bytes_of c.args.document) c.args.out.now c.print.new.out front)
