-- What a look at the front of a level says.
use Rattle.std.proofs.Common.{List, ℕ, Option, None, Some, Ok, Err, refl}
use Rattle.raw_view.specs.declared.level.RawLevel.{RawLevel}
use Rattle.raw_tree.proofs.walk.Common.{Finds, option_copied}
use Rattle.raw_tree.proofs.Common.{frame_of, StepsFront, Means, value, IsSingle, held_value, value_of, RawBsonRef, RawElement, BorrowedError}
use Rattle.raw_view.proofs.Face.{stop_said}
use Rattle.raw_tree.specs.declared.walk.level.Next.TheVariants as seen

pub looks_stop : (old new : Option (List ℕ)) (e : BorrowedError) → StepsFront old (Some (Err e)) new → Finds old new (seen.Fault None e)
looks_stop None new e st = tt
looks_stop (Some s) new e st =
    let (fault, says, stop) = stop_said e.kind (option_copied e.key) s st.0 in
    (record { fault = fault; key = option_copied e.key }, stop, record { says = says; key_is = refl })

pub looks_whole : (old new : Option (List ℕ)) (e : RawElement) (v : RawBsonRef) → StepsFront old (Some (Ok e)) new → Means (frame_of e) (value (value_of v)) → IsSingle (value_of v)
    → Finds old new (seen.Whole e v)
looks_whole None new e v st means single = tt
looks_whole (Some s) new e v st means single = (st.0, st.1, means, single, st.2)

pub looks_inside : (old new : Option (List ℕ)) (e : RawElement) (level : RawLevel) → StepsFront old (Some (Ok e)) new → Means (frame_of e) (value (held_value level))
    → Finds old new (seen.Inside e level)
looks_inside None new e level st means = tt
looks_inside (Some s) new e level st means = (st.0, st.1, means, st.2)
