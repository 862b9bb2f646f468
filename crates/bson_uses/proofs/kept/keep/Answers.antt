use Rattle.std.proofs.Common.{Bool, true, false, List, ℕ, Ok, Result, sym, subst}
use Rattle.raw_bson.specs.CanonicalForm.{IsCanonicalForm}
use Rattle.raw_shelf.specs.Shelves.{Puts}
use Rattle.raw_shelf.specs.declared.put_error.PutError.{PutError}
use Rattle.bson_uses.specs.Keeping.{IsKept}
use Rattle.bson_uses.proofs.kept.keep.Goals as goal
use Rattle.bson_uses.proofs.kept.keep.Goals.{in-Ok, in-Err-OutOfMemory}

kept_as : (before : List (List ℕ)) (b form : List ℕ) (is_new : Bool) (after : List (List ℕ)) → IsCanonicalForm b form → Puts before form (Ok is_new) after → IsKept before b is_new after
kept_as before b form true after f p = (form, f, p.1, p.2)
kept_as before b form false after f p = (form, f, p.1, p.2)

pub returns-clause-kept : goal.returns-clause-kept
returns-clause-kept c =
    let form = subst (IsCanonicalForm c.args.bytes.now) (sym c.in_ok-form.ensures.same) c.in_ok-canonical_bytes.ensures.form in
    elim c.match-put.branch [
      | in-Ok w ↦ rw (w.result-is) (kept_as c.args.shelf.now c.args.bytes.now c.in_ok-form.form w.in-Ok.is_new c.put.new.self form
          (subst (λ (x : Result Bool PutError). Puts c.args.shelf.now c.in_ok-form.form x c.put.new.self) w.in-Ok.is c.put.ensures))
      | in-Err-OutOfMemory w ↦ rw (w.result-is) tt
    ]
