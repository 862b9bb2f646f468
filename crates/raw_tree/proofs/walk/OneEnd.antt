-- Frames are passed up to one place only, where the final 0, a stop or a frame blocks.
use Rattle.std.proofs.Common.{◌≡◌, ◌++◌, ◌∷◌, [], ℕ, List, refl, sym, ◌∙◌}
use Rattle.raw_tree.proofs.Common.{Done, Frame, IsFrame, IsWalk, LeadsTo}
use Rattle.raw_view.proofs.Face.{no_frame_at_final, one_frame}

-- s blocks: the frame at its front isn't passed after these, whatever follows
abbrev pub IsBlocked : (List Frame → Type 0) → List Frame → List ℕ → Type 0
IsBlocked Passed ps s = (f : Frame) (r : List ℕ) (more : List Frame) → IsFrame s f r → ¬ Passed (ps ++ f ∷ more)

-- frames are passed up to what blocks in one way only
pub passed_once : (Passed : List Frame → Type 0) (s : List ℕ) (ps qs : List Frame) (r t : List ℕ) → LeadsTo s ps r → Passed ps → IsBlocked Passed ps r
    → LeadsTo s qs t → Passed qs → IsBlocked Passed qs t → (qs ≡ ps) × (t ≡ r)
passed_once Passed s [] [] r t l p none m q other = (refl, sym m ∙ l)
passed_once Passed s [] (g ∷ qs) r t l p none m q other = absurd (none g m.0 qs (rw l at m.1) q)
passed_once Passed s (f ∷ ps) [] r t l p none m q other = absurd (other f l.0 ps (rw m at l.1) p)
passed_once Passed s (f ∷ ps) (g ∷ qs) r t l p none m q other =
    let same = one_frame s f g l.0 m.0 l.1 m.1 in
    let others = passed_once (λ fs. Passed (g ∷ fs)) m.0 ps qs r t (rw same.1 at l.2) (rw same.0 at p) (rw same.0 at none) m.2 q other in
    (rw (same.0, others.0) refl, others.1)

-- the frames of a whole walk lead to the final 0
pub walk_leads : (s : List ℕ) (fs : List Frame) → IsWalk s fs Done → LeadsTo s fs (0 ∷ [])
walk_leads s [] w = w
walk_leads s (f ∷ fs) w = (w.0, w.1, walk_leads w.0 fs w.2)

-- so if the frames of a whole walk are passed, what blocks is the final 0
pub passed_whole : (Passed : List Frame → Type 0) (s : List ℕ) (frames ps : List Frame) (t : List ℕ) → IsWalk s frames Done → Passed frames → LeadsTo s ps t → Passed ps → IsBlocked Passed ps t
    → t ≡ 0 ∷ []
passed_whole Passed s frames ps t w p l q none =
    (passed_once Passed s frames ps (0 ∷ []) t (walk_leads s frames w) p (λ f r more at c. no_frame_at_final (0 ∷ []) refl f r at) l q none).1
