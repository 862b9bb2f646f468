-- What is reported where a document has no form.
use Rattle.std.proofs.Common.{◌≡◌, ◌≢◌, ◌<◌, ℕ, suc, zero, List, ap, sym, ◌∙◌, arith, inl, inr, refl}
use Rattle.raw_bson.specs.Limits.{Limits}
use Rattle.raw_bson.specs.WithinLimits.{Barrier, HasDepthUpTo, fault_of, too_deep, too_many_bytes}
use Rattle.bsonraw_c.specs.Codes.{status_code}
use Rattle.bsonraw_c.specs.Forms.{FormsIn}
use Rattle.bsonraw_c.specs.Reports.{FaultsIn, RunsOut, status_of_barrier}
use Rattle.bsonraw_c.specs.declared.codes.Status.{Status}
use Rattle.bsonraw_c.specs.declared.codes.Status.TheVariants as status
use Rattle.bsonraw_c.specs.declared.report.Report.{Report}

-- a barrier has a status of its own
not_done : (x : Barrier) → status_of_barrier x ≢ status.Done
not_done too_many_bytes same = omega (arith, ap status_code same)
not_done too_deep same = omega (arith, ap status_code same)
not_done (fault_of fault) same = omega (arith, ap status_code same)

out_not_done : status.NoMemory ≢ status.Done
out_not_done same = omega (arith, ap status_code same)

-- every document has a level
has_level : (levels : ℕ) (b : List ℕ) (n : ℕ) → HasDepthUpTo levels b n → 0 < n
has_level zero b n deep = absurd deep
has_level (suc levels) b n (frames, end, inside, walk, greatest, is) = omega (arith, is)

-- where a document has no form, and no barrier either, memory ran out
pub runs_out : (limits : Limits) (b room path : List ℕ) (report : Report) (s : Status) → FaultsIn limits b room path report s → s ≡ status.Done → RunsOut limits b room path report status.NoMemory
runs_out limits b room path report s (inl none) is =
    let depth = none.read.shallow in
    record {
      few_bytes = none.read.few_bytes;
      entered = omega (arith, has_level depth.1.0 b depth.0 depth.1.1, depth.2);
      ends = record { report_is = none.ends.report_is; path_is = none.ends.path_is; status_is = refl };
    }
runs_out limits b room path report s (inr (inl barrier)) is = absurd (not_done barrier.x (sym barrier.status_is ∙ is))
runs_out limits b room path report s (inr (inr out)) is = absurd (out_not_done (sym out.ends.status_is ∙ is))

-- and else it is told what was reported
pub lacks_form : (limits : Limits) (b form room path : List ℕ) (report : Report) (s : Status) → FaultsIn limits b room path report s → s ≢ status.Done → FormsIn limits b form form room path report s
lacks_form limits b form room path report s (inl none) other = absurd (other none.ends.status_is)
lacks_form limits b form room path report s (inr (inl barrier)) other = inr (inr (inl (barrier, refl)))
lacks_form limits b form room path report s (inr (inr out)) other = inr (inr (inr (out, refl)))
