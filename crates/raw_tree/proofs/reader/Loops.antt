-- What a loop over elements preserves: nested bytes are shorter, some number of levels suffices, frames stand for trees.
use Rattle.std.proofs.Common.{◌≡◌, ◌≤◌, ◌+◌, ◌++◌, ◌∷◌, [], ℕ, zero, suc, List, length, drop, arith, ap, refl, length-append}
use Rattle.raw_tree.proofs.Common.{Tree, Entries, document, IsEnvelope, Frame, IsFrame, HasShape, IsWalk, Done, RawValue, Means, MeansValue, value, ElementType, Sort}
use Rattle.raw_tree.proofs.Common.{as_document, tree_of_pairs, StandsFor, StandForEach, ReadsUpTo, ReadsAs, Holds, HoldsAs}

-- nested bytes

-- they have an envelope and are no longer than the payload
nested_in : (k : ElementType) (p r : List ℕ) (v : RawValue) (d : List ℕ) → HasShape k p r → MeansValue k p v → Holds v d → IsEnvelope d × (length d ≤ length p)
nested_in k p r v d x m h = grind (arith, length-append)

pub nested_envelope : (s : List ℕ) (f : Frame) (r : List ℕ) (v : RawValue) (d : List ℕ) → IsFrame s f r → Means f (value v) → Holds v d → IsEnvelope d
nested_envelope s f r v d b m h = (nested_in f.kind f.payload r v d b.payload_is m h).0

-- what a value holds as a document or as an array, it holds
pub holds_bytes : (v : RawValue) (sort : Sort) (d : List ℕ) → HoldsAs v sort d → Holds v d
holds_bytes v sort d h = grind arith

-- they are at least two shorter than the bytes that begin with the frame, without those after it
pub nested_beside : (s : List ℕ) (f : Frame) (r : List ℕ) (v : RawValue) (d : List ℕ) → IsFrame s f r → Means f (value v) → Holds v d → length d + length r + 2 ≤ length s
nested_beside s f r v d b m h =
    omega (arith, (nested_in f.kind f.payload r v d b.payload_is m h).1, ap length b.spelled, length-append f.key (0 ∷ (f.payload ++ r)), length-append f.payload r)

pub nested_shorter : (s : List ℕ) (f : Frame) (r : List ℕ) (v : RawValue) (d : List ℕ) → IsFrame s f r → Means f (value v) → Holds v d → length d + 2 ≤ length s
nested_shorter s f r v d b m h = omega (arith, nested_beside s f r v d b m h)

-- levels

-- if other bytes are read as the same trees, a value stands for the same tree
pub stands_on : (N M : Sort → List ℕ → Tree → Type 0) → ((sort : Sort) (b : List ℕ) (t : Tree) → N sort b t → M sort b t) → (v : RawValue) (t : Tree) → StandsFor N v t → StandsFor M v t
stands_on N M on v t h = grind arith

-- and so do the values of frames
pub stand_each_on : (N M : Sort → List ℕ → Tree → Type 0) → ((sort : Sort) (b : List ℕ) (t : Tree) → N sort b t → M sort b t)
    → (fs : List Frame) (pairs : List (List ℕ × Tree)) → StandForEach N fs pairs → StandForEach M fs pairs
stand_each_on N M on [] pairs h = h
stand_each_on N M on (f ∷ fs) pairs h = (h.0, h.1, h.2, h.3, stands_on N M on h.0 h.1 h.4, h.5, stand_each_on N M on fs h.2 h.6)

-- what is read within some levels is read within more
pub reads_up_to : (n m : ℕ) → n ≤ m → (sort : Sort) (b : List ℕ) (t : Tree) → ReadsUpTo n sort b t → ReadsUpTo m sort b t
reads_up_to zero m l sort b t h = absurd h
reads_up_to (suc n) zero l sort b t h = absurd (omega arith)
reads_up_to (suc n) (suc m) l sort b t h = grind (arith, stand_each_on, reads_up_to n m)

-- what is read within some levels is read
pub value_read : (n : ℕ) (v : RawValue) (t : Tree) → StandsFor (ReadsUpTo n) v t → StandsFor ReadsAs v t
value_read n v t h = stands_on (ReadsUpTo n) ReadsAs (λ sort b t read. (n, read)) v t h

pub each_read : (n : ℕ) (fs : List Frame) (pairs : List (List ℕ × Tree)) → StandForEach (ReadsUpTo n) fs pairs → StandForEach ReadsAs fs pairs
each_read n fs pairs h = stand_each_on (ReadsUpTo n) ReadsAs (λ sort b t read. (n, read)) fs pairs h

-- a value that stands for a tree does so within some levels
stands_level : (v : RawValue) (t : Tree) → StandsFor ReadsAs v t → (n : ℕ) × StandsFor (ReadsUpTo n) v t
stands_level v t h = grind arith

-- frames that are read are read within some levels
pub stand_each_level : (fs : List Frame) (pairs : List (List ℕ × Tree)) → StandForEach ReadsAs fs pairs → (n : ℕ) × StandForEach (ReadsUpTo n) fs pairs
stand_each_level [] pairs h = (0, h)
stand_each_level (f ∷ fs) pairs h =
    let first = stands_level h.0 h.1 h.4 in
    let others = stand_each_level fs h.2 h.6 in
    let n : ℕ = first.0 + others.0 in
    let here : StandsFor (ReadsUpTo n) h.0 h.1 = stands_on (ReadsUpTo first.0) (ReadsUpTo n) (reads_up_to first.0 n (omega arith)) h.0 h.1 first.1 in
    let behind : StandForEach (ReadsUpTo n) fs h.2 = stand_each_on (ReadsUpTo others.0) (ReadsUpTo n) (reads_up_to others.0 n (omega arith)) fs h.2 others.1 in
    (n, (h.0, h.1, h.2, h.3, here, h.5, behind))

-- bytes whose walk is done and whose frames all stand for trees are read
pub reads_of : (sort : Sort) (b : List ℕ) (frames : List Frame) (pairs : List (List ℕ × Tree)) → IsWalk (drop 4 b) frames Done
    → StandForEach ReadsAs frames pairs → ReadsAs sort b (tree_of_pairs sort pairs)
reads_of sort b frames pairs w h =
    let each = stand_each_level frames pairs h in
    (suc each.0, (pairs, (frames, w, each.1), refl))

-- the tree of bytes that are read as a document is that of entries
pub document_read : (b : List ℕ) (t : Tree) → ReadsAs as_document b t → (es : Entries) × (t ≡ document es)
document_read b t h = grind arith

-- a caller's loop

-- one more frame is read
pub stand_more : (Nested : Sort → List ℕ → Tree → Type 0) (fs : List Frame) (pairs : List (List ℕ × Tree)) (f : Frame) (v : RawValue) (t : Tree)
    → StandForEach Nested fs pairs → Means f (value v) → StandsFor Nested v t → StandForEach Nested (fs ++ f ∷ []) (pairs ++ (f.key, t) ∷ [])
stand_more Nested [] pairs f v t h m st = (v, t, [], m, st, ap (λ x. x ++ (f.key, t) ∷ []) h, refl)
stand_more Nested (g ∷ fs) pairs f v t h m st =
    (h.0, h.1, h.2 ++ (f.key, t) ∷ [], h.3, h.4, ap (λ x. x ++ (f.key, t) ∷ []) h.5, stand_more Nested fs h.2 f v t h.6 m st)
