-- How far the text of a document comes as more of it is read.
use Rattle.std.proofs.Common.{◌≡◌, ℕ, ◌+◌, ◌-◌, ◌^◌, ◌≤◌, ◌<◌, List, arith, ap, drop, fold, length, sym, subst, take, ◌∙◌}
use Rattle.std.proofs.lemmas.Grind.{fold-append}
use Rattle.std.proofs.lemmas.List.{take-take}
use Rattle.dump_io.specs.input.Scans.{ScansAhead, IsOpen, scanned, start, step}
use Rattle.dump_io.specs.declared.input.scan.Scan.{Scan}
use Rattle.dump_io.specs.declared.input.scan.Scanned.{Scanned}
use lib.Seq.{take-add}

-- m bytes are scanned after k others
scanned_on : (ahead : List ℕ) (k m n : ℕ) → m ≤ n → fold step (scanned (take k ahead)) (take m (take n (drop k ahead))) ≡ scanned (take (k + m) ahead)
scanned_on ahead k m n less =
    ap (fold step (scanned (take k ahead))) (take-take m n (drop k ahead) less) ∙ sym (fold-append step start (take k ahead) (take m (drop k ahead)))
    ∙ ap scanned (sym (take-add k m ahead))

-- the text goes on
pub scans_on : (ahead : List ℕ) (f m : Scanned) (n : ℕ) → ScansAhead ahead f → m.len ≤ n → f.len + m.len ≤ length ahead → f.len + m.len ≤ 2 ^ 27
    → m.scan ≡ fold step f.scan (take m.len (take n (drop f.len ahead)))
    → (¬ IsOpen m.scan → (0 < m.len) × IsOpen (fold step f.scan (take (m.len - 1) (take n (drop f.len ahead)))))
    → ScansAhead ahead (record { scan = m.scan; len = f.len + m.len })
scans_on ahead f m n h less within most scan last = record {
  within = within;
  most = most;
  scan = scan ∙ ap (λ s. fold step s (take m.len (take n (drop f.len ahead)))) h.scan ∙ scanned_on ahead f.len m.len n less;
  last = λ no.
      let some : 0 < m.len = (last no).0 in
      let open' = subst (λ (s : Scan). IsOpen (fold step s (take (m.len - 1) (take n (drop f.len ahead))))) h.scan (last no).1 in
      let same : f.len + (m.len - 1) ≡ (f.len + m.len) - 1 = omega arith in
      (omega arith, subst (λ (s : Scan). IsOpen s) (scanned_on ahead f.len (m.len - 1) n (omega arith) ∙ ap (λ k. scanned (take k ahead)) same) open');
}
