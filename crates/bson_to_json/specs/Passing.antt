-- What is known of a document whose text is written block by block. No public contract cites this file.
use Rattle.std.specs.Prelude.{◌≡◌, ◌⊎◌, ◌≤◌, ℕ, Bool, true, false, List, length, Some}
use Rattle.bson_model.specs.Tree.{Tree}
use Rattle.raw_tree.specs.Barriers.{TellsBarrier}
use Rattle.raw_tree.specs.declared.walk.barrier.Barrier.{Barrier}
use Rattle.raw_tree.specs.WithinLimits.{ReadsWithin}
use Rattle.raw_tree.specs.declared.reader.limits.Limits.{Limits}
use Rattle.bson_to_json.specs.Written.{GrowsFront, HasFront}
use Rattle.bson_to_json.specs.declared.sink.Failure.TheVariants as failure
use Rattle.bson_to_json.specs.declared.print.PrintError.{PrintError}
use Rattle.bson_to_json.specs.declared.print.PrintError.TheVariants as print
use Rattle.bson_to_json.specs.declared.style.Style.{Style}

-- the document b was looked through: it is within the limits, and has no barrier
pub record IsSeen (limits : Limits) (b : List ℕ) : Type 0 where
  pub t : Tree
  pub within : ReadsWithin limits b t
  pub none : (answer : Barrier) → ¬ TellsBarrier limits b (Some answer)

-- nothing was written of a document that was not looked through
abbrev pub Guards : {S : Type 0} → Limits → List ℕ → (unseen : Bool) → (before now : S) → Type 0
Guards limits b true before now = now ≡ before
Guards limits b false before now = IsSeen limits b

-- why a look through the document b ended early: its first barrier, or out of memory
abbrev pub TellsLookError : Limits → List ℕ → PrintError → Type 0
TellsLookError limits b (print.Barrier answer) = TellsBarrier limits b (Some answer)
TellsLookError limits b (print.Failure failure.OutOfMemory) = Unit {0}
TellsLookError limits b (print.Failure (failure.Writing e)) = ⊥

-- Why a block isn't passed on. If the look found a barrier, nothing was written. Otherwise a prefix of the block was written. Nothing was
-- written before it of a document that was not looked through.
abbrev pub TellsPassError : {S : Type 0} → (S → ℕ → List ℕ → Type 0) → Limits → List ℕ → (unseen : Bool) → (old new : S) → List ℕ → PrintError → Type 0
TellsPassError {S} has limits b unseen old new block (print.Barrier answer) = TellsBarrier limits b (Some answer) × ((before : S) → Guards limits b unseen before old → new ≡ before)
TellsPassError {S} has limits b unseen old new block (print.Failure failure.OutOfMemory) =
    (before : S) → Guards limits b unseen before old → (new ≡ before) ⊎ (IsSeen limits b × GrowsFront has old new block)
TellsPassError {S} has limits b unseen old new block (print.Failure (failure.Writing e)) = (before : S) → Guards limits b unseen before old → IsSeen limits b × GrowsFront has old new block

-- the document is within the limits, and a prefix of its text was written
abbrev pub WroteWithin : {S : Type 0} → (S → ℕ → List ℕ → Type 0) → Style → Limits → List ℕ → (old new : S) → Type 0
WroteWithin has style limits b old new = (t : Tree) × ReadsWithin limits b t × HasFront has style b old new

-- why the document b isn't printed: its first barrier; or a failure, which is possible only if it has few enough bytes
abbrev pub TellsBriefly : Limits → List ℕ → PrintError → Type 0
TellsBriefly limits b (print.Barrier answer) = TellsBarrier limits b (Some answer)
TellsBriefly limits b (print.Failure failed) = length b ≤ limits.bytes

-- what a careful print wrote before this error: nothing at a barrier; otherwise a prefix of the text, or nothing if memory ran out before
abbrev pub WroteBefore : {S : Type 0} → (S → ℕ → List ℕ → Type 0) → Style → Limits → List ℕ → (old new : S) → PrintError → Type 0
WroteBefore has style limits b old new (print.Barrier answer) = new ≡ old
WroteBefore has style limits b old new (print.Failure failure.OutOfMemory) = (new ≡ old) ⊎ WroteWithin has style limits b old new
WroteBefore has style limits b old new (print.Failure (failure.Writing e)) = WroteWithin has style limits b old new

-- why the document b isn't printed, and what was written if the print was careful
abbrev pub TellsPrintError : {S : Type 0} → (S → ℕ → List ℕ → Type 0) → Style → Limits → List ℕ → (careful : Bool) → (old new : S) → PrintError → Type 0
TellsPrintError has style limits b careful old new e = TellsBriefly limits b e × (careful ≡ true → WroteBefore has style limits b old new e)
