-- A document of which something is gathered.
use Rattle.std.proofs.Common.{◌≡◌, ◌⊎◌, [], ◌∷◌, inl, inr, refl}
use Rattle.dump_io.specs.declared.lines.find.Finding.{Finding}
use Rattle.dump_io.specs.declared.lines.find.Finding.TheVariants as finding
use Rattle.dump_commands.specs.Gathering.{GathersIf, PutsAll}
use Rattle.dump_commands.specs.state.Gathered.{Document, tabled, with_document}
use Rattle.dump_commands.specs.declared.state.kept.Kept.{Kept}

-- where no damage is found, this is gathered of it
pub gathers_one : (Is : Document → Type 0) (f : Finding) (d : Document) (k k' : Kept) → (f ≡ finding.Canonical) ⊎ (f ≡ finding.Breached) → Is d
    → tabled k' ≡ with_document (tabled k) d → PutsAll (GathersIf Is f) k k'
gathers_one Is f d k k' (inl canonical) is added = (d ∷ [], rw canonical (d, is, refl), added)
gathers_one Is f d k k' (inr breached) is added = (d ∷ [], rw breached (d, is, refl), added)
