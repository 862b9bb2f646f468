-- A container is measured member by member. What is counted so far and what the remaining members take make the whole. The whole has no 0
-- in a C string if and only if the remaining members have none.
use Rattle.std.proofs.Common.{◌≡◌, ◌↔◌, ◌<◌, ◌-◌, ◌^◌, ℕ, ◌+◌, List, [], ◌∷◌, length, min, Option, Some, arith}
use Rattle.raw_tree.proofs.Common.{NulFree, Leaf, IsNulFree, nul_free_parts, InEntries, Tree, Entries, no_entry, entry_then, leaf, RawValue, single, encoded_len, entries_len, Measures, members, opening_len, IsLeafOf}
use Rattle.raw_tree.proofs.Common.{HoldsTrees}
use Rattle.raw_tree.proofs.writer.MemberSteps.{members_len, members_free}

-- what remains at these levels
abbrev pub left_in : List Entries → ℕ
left_in [] = 0
left_in (es ∷ levels) = entries_len es + left_in levels

abbrev pub AreFree : List Entries → Type 0
AreFree [] = Unit {0}
AreFree (es ∷ levels) = InEntries nul_free_parts es × AreFree levels

-- the tree is measured except the remaining members, the innermost first
pub record IsMeasuring (t : Tree) (levels : List Entries) (total : ℕ) : Type 0 where
  pub counted : ℕ
  pub total_is : total ≡ min counted (2 ^ 64 - 1)
  pub whole : counted + left_in levels ≡ encoded_len t
  pub free : IsNulFree t ↔ AreFree levels

pub measuring_begins : (t : Tree) (total : ℕ) → HoldsTrees t → total ≡ opening_len t + 1 → total < 2 ^ 64 → IsMeasuring t (members t ∷ []) total
measuring_begins t total holds e fits = record {
  counted = total;
  total_is = omega arith;
  whole = omega (arith, members_len t holds);
  free = grind (arith, members_free t holds);
}

-- the sum as the code computes it, with a key and a payload of this length
abbrev pub added_up : ℕ → List ℕ → ℕ → ℕ
added_up total key len = min (min (min (total + 2) (2 ^ 64 - 1) + length key) (2 ^ 64 - 1) + len) (2 ^ 64 - 1)

module _ {t m : Tree} {levels : List Entries} {key : List ℕ} {left : Entries} {total after : ℕ} (is : IsMeasuring t (entry_then key m left ∷ levels) total) (free : NulFree key) (len : ℕ)
    (added : after ≡ added_up total key len) where
  -- a member is measured
  pub measuring_member : Measures m (Some len) → IsMeasuring t (left ∷ levels) after
  measuring_member measured =
      let before = is.total_is in
      record {
        counted = is.counted + (2 + length key + encoded_len m);
        total_is = omega (arith, before, measured.1);
        whole = omega (arith, is.whole);
        free = grind (arith, is.free, measured.0);
      }

  -- its own members are measured first
  pub measuring_inside : HoldsTrees m → len ≡ opening_len m + 1 → IsMeasuring t (members m ∷ left ∷ levels) after
  measuring_inside holds frame =
      let before = is.total_is in
      record {
        counted = is.counted + (2 + length key + len);
        total_is = omega (arith, before);
        whole = omega (arith, is.whole, members_len m holds);
        free = grind (arith, is.free, members_free m holds);
      }

-- the members of the innermost are measured
pub measuring_ends : (t : Tree) (levels : List Entries) (total : ℕ) → IsMeasuring t (no_entry ∷ levels) total → IsMeasuring t levels total
measuring_ends t levels total is = grind arith

-- a leaf is measured by its view
pub leaf_measured : (t : Tree) (v : RawValue) (r : Option ℕ) → IsLeafOf t v → ((l : Leaf) → v ≡ single l → Measures (leaf l) r) → Measures t r
leaf_measured t v r e h = grind arith
