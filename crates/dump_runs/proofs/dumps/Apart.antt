-- Documents that stand alone.
use Rattle.std.proofs.Common.{◌≡◌, ℕ, List, [], ◌∷◌, Option, append-nil, length, refl, sym}
use Rattle.std.specs.Io.KnownBytes.{Appends}
use Rattle.dump_io.specs.lines.Fronts.{AppendsFront}
use Rattle.dump_commands.specs.Counting.{count_alone}
use Rattle.dump_commands.specs.declared.counts.Counts.{Counts}
use Rattle.dump_commands.specs.declared.state.kept.Kept.{Kept}
use Rattle.dump_runs.specs.Plays.{Played, set_aside}
use Rattle.dump_runs.specs.dumps.Run.{events_of_lone}
use Rattle.dump_runs.specs.dumps.Steps.{HaltsAside}
use Rattle.dump_runs.proofs.Plays.{holds, played_aside, played_count}

module _ {d a a' w : Option (List ℕ)} {n : Counts} {k : Kept} (b : List ℕ) where
  -- it is set aside, and counted
  pub lone_played : {m : Counts} → Appends a a' b → m ≡ count_alone n (length b) → Played (events_of_lone b) (holds d a w n k) (holds d a' w m k)
  lone_played put counts = played_count (λ m. count_alone m (length b)) counts (set_aside b ∷ []) (played_aside d a a' w n k b put)

  -- or a front of it
  pub lone_front : AppendsFront a a' b → HaltsAside b (holds d a w n k) (holds d a' w n k)
  lone_front front = (set_aside front.front ∷ [], played_aside d a a' w n k front.front front.put, (front.front, (front.behind, front.whole), refl))

  -- or all of it
  pub lone_whole : Appends a a' b → HaltsAside b (holds d a w n k) (holds d a' w n k)
  lone_whole put = (set_aside b ∷ [], played_aside d a a' w n k b put, (b, ([], sym (append-nil b)), refl))
