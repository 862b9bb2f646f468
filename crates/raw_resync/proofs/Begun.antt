-- What follows the length of a document.
use Rattle.std.proofs.Common.{◌≡◌, ◌≢◌, ℕ, zero, suc, List, [], ◌∷◌, Bool, MatchBool, Option, None, Some, is_some, MatchOption, true, false, drop, length, slice_get, subst, sym, ap, arith, ◌-◌, ◌<◌, ◌∙◌, length-drop}
use Rattle.std.specs.Bool.{◌==◌}
use Rattle.bson_model.specs.Tree.{Tree}
use Rattle.raw_view.specs.Frame.{Frame, IsWalk, Done}
use Rattle.raw_view.specs.Frame.Envelope.{IsEnvelope}
use Rattle.raw_view.specs.Frame.Kind.{tag_of}
use Rattle.raw_view.specs.declared.element_type.ElementType.{ElementType}
use Rattle.raw_tree.specs.Reading.{Reads}
use Rattle.raw_tree.specs.declared.reader.limits.Limits.{Limits}
use Rattle.raw_resync.specs.Resync.{IsSound}
use Rattle.raw_resync.specs.Searches.{IsBegun}

walk_begun : (b : List ℕ) (fs : List Frame) → 8 < length b → IsWalk (drop 4 b) fs Done → IsBegun b
walk_begun b [] long end =
    let one : length (drop 4 b) ≡ 1 = ap length end in
    let size : length (drop 4 b) ≡ length b - 4 = length-drop 4 b in
    absurd (omega (arith, long, one, size))
walk_begun b (f ∷ fs) long (t, frame, more) = (f.kind, _, frame.spelled)

read_begun : (b : List ℕ) (t : Tree) → 8 < length b → Reads b t → IsBegun b
read_begun b t long (zero, none) = absurd none
read_begun b t long (suc n, (pairs, (frames, walk, each), same)) = walk_begun b frames long walk

-- a tag follows that of an undamaged document of over 8 bytes
pub sound_begun : (limits : Limits) (b : List ℕ) → 8 < length b → IsSound limits b → IsBegun b
sound_begun limits b long sound = read_begun b sound.tree long sound.reads.read

-- whether a byte that follows a length is a tag
pub begins_or_not : (b : List ℕ) (x : ℕ) (r : List ℕ) (tag : Option ElementType) (is : Bool) → drop 4 b ≡ x ∷ r
    → MatchOption tag ((kind : ElementType) → x ≢ tag_of kind) (λ kind. x ≡ tag_of kind) → is ≡ is_some tag → MatchBool is (IsBegun b) (¬ IsBegun b)
begins_or_not b x r None true split none same = let impossible : ⊥ = cc in absurd impossible
begins_or_not b x r None false split none same = λ (kind, other, begins).
    let heads : x ∷ r ≡ tag_of kind ∷ other = sym split ∙ begins in
    let first : x ≡ tag_of kind = cc in
    none kind first
begins_or_not b x r (Some kind) true split at same = (kind, r, split ∙ ap (λ y. y ∷ r) at)
begins_or_not b x r (Some kind) false split at same = let impossible : ⊥ = cc in absurd impossible

-- a byte that is no tag
pub no_kind : (x : ℕ) (tag : Option ElementType) → MatchOption tag ((kind : ElementType) → x ≢ tag_of kind) (λ kind. x ≡ tag_of kind) → is_some tag ≡ false → (kind : ElementType) → x ≢ tag_of kind
no_kind x None none is = none
no_kind x (Some kind) at is = let impossible : ⊥ = cc in absurd impossible

-- the last byte of an envelope is 0
pub last_is_zero : (b : List ℕ) (x : ℕ) → slice_get b (length b - 1) ≡ Some x → (x == 0) ≡ false → ¬ IsEnvelope b
last_is_zero b x last isnt envelope =
    let both : ◌≡◌ {A = Option ℕ} (Some x) (Some 0) = sym last ∙ envelope.ended in
    let zero : x ≡ 0 = cc in
    let bad : (0 == 0) ≡ false = subst (λ n. (n == 0) ≡ false) zero isnt in
    let impossible : ⊥ = cc in
    impossible
