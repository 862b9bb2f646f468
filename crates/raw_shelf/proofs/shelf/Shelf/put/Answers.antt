use Rattle.std.proofs.Common.{◌≡◌, List, ℕ, refl, sym, ◌∙◌, subst}
use Rattle.raw_bson.specs.Breaches.{HasBreach, TellsBreach}
use Rattle.raw_bson.specs.Canonical.{IsCanonical}
use Rattle.raw_bson.specs.Document.{bytes_of}
use Rattle.raw_shelf.specs.Shelves.{items}
use Rattle.raw_shelf.proofs.Stored.{shelf_after}
use Rattle.raw_shelf.proofs.shelf.Shelf.put.Goals as goal

pub returns-in-Ok-Some : goal.returns-in-Ok-Some
returns-in-Ok-Some c =
    let b = bytes_of c.as_ref.result in
    let breach : HasBreach b c.in-Ok-Some.breach = subst (TellsBreach b) c.in-Ok-Some.field-0-is c.in-Ok-Some.ensures.breach in
    let validated = c.in-Ok-Some.ensures.one_validation b c.as_ref.result.envelope in (
      λ canonical. validated.not_both c.in-Ok-Some.breach.path.items c.in-Ok-Some.breach.cause breach (subst IsCanonical (sym c.as_ref.ensures) canonical),
      subst (λ (x : List ℕ). HasBreach x c.in-Ok-Some.breach) c.as_ref.ensures breach,
      refl,
    )

pub invariant_of-self : goal.invariant_of-self
invariant_of-self c =
    let b = bytes_of c.as_ref.result in
    let same : c.into_bytes.result.items ≡ b = c.into_bytes.ensures ∙ sym c.as_ref.ensures in
    let canonical : IsCanonical b = subst (TellsBreach b) c.in-Ok-None.field-0-is c.in-Ok-None.ensures.breach in
    shelf_after c.in-Ok-None.ensures.one_spelling (items c.self.inside.documents.keys) c.into_bytes.result.items c.store.result
    (items c.store.new.documents.keys) c.self.invariant (rw same c.as_ref.result.envelope) (rw same canonical) c.store.ensures
