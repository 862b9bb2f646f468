-- Within limits, bytes are read as one tree or have one first barrier, and never both. To a depth that no document has, all bytes are read.
use Rattle.std.proofs.Common.{◌⊎◌, inl, inr, ◌<◌, ◌≤◌, [], ℕ, List, Result, Ok, Err, IfOk, IfErr, length, arith, refl}
use Rattle.raw_tree.proofs.Common.{cases_lt, Tree, IsEnvelope, Barrier, too_many_bytes, ReadsWithin, FirstBarrier, AllAreAnsweredOneWay, as_document, ReadsUpTo, Limits, bytes_of, max_length, Error}
use Rattle.raw_tree.proofs.Common.{TellsFrames, TellsFramesWithin, AreRead, TellsReading, fault_of, too_deep, FirstFaultWithin, TellsFirstFault, Contents, Nested}
use Rattle.raw_tree.proofs.reader.Decides.{decided_within}
use Rattle.raw_tree.proofs.reader.Depths.{shallow_within, read_to_depth}
use Rattle.raw_tree.proofs.reader.Faults.{apart_within, barriers_unique, deep_long, never_too_many}
use Rattle.raw_tree.proofs.reader.OneTree.{one_tree}
use Rattle.raw_tree.proofs.walk.Common.{AllAreBarredAtOnePlace}
use Rattle.raw_tree.proofs.walk.First.{one_first}

-- limits

pub read_within : (limits : Limits) (b : List ℕ) (t : Tree) → length b ≤ limits.bytes → ReadsUpTo limits.depth as_document b t → ReadsWithin limits b t
read_within limits b t few h =
    let k = shallow_within limits.depth as_document b t h in
    record { few_bytes = few; read = (limits.depth, h); shallow = (k.0, (limits.depth, k.1), k.2) }

-- a document has at most one first barrier, at one place
pub barred_at_one_place : (limits : Limits) → AllAreBarredAtOnePlace limits
barred_at_one_place limits b x other path other_path offset other_offset h g = grind (arith, one_first barriers_unique)

module _ (limits : Limits) (b : List ℕ) where
  -- too many bytes are a first barrier, and otherwise what is first within the depth
  pub barred_whole : limits.bytes < length b → FirstBarrier limits b too_many_bytes
  barred_whole many = ([], 0, inl (many, refl, refl, refl))

  pub barred_within : (x : Barrier) → length b ≤ limits.bytes → FirstFaultWithin limits.depth b x → FirstBarrier limits b x
  barred_within x few (path, offset, bars) = (path, offset, inr (few, bars))

  pub to_depth : (t : Tree) → ReadsWithin limits b t → ReadsUpTo limits.depth as_document b t
  to_depth t h = read_to_depth limits.depth as_document b t h.shallow.0 h.read h.shallow.1 h.shallow.2

  either_way : IsEnvelope b → ((t : Tree) × ReadsWithin limits b t) ⊎ ((x : Barrier) × FirstBarrier limits b x)
  either_way env =
      elim (cases_lt limits.bytes (length b)) [
        | inl many ↦ inr (too_many_bytes, barred_whole many)
        | inr few ↦ elim (decided_within limits.depth as_document b env) [
          | inl t ↦ inl (t.0, read_within limits b t.0 few t.1)
          | inr bad ↦ inr (bad.0, barred_within bad.0 few bad.1)
        ]
      ]

  tree_or_barrier : (t : Tree) (x : Barrier) → ReadsWithin limits b t → FirstBarrier limits b x → ⊥
  tree_or_barrier t x h (path, offset, inl many) = omega (arith, h.few_bytes, many.0)
  tree_or_barrier t x h (path, offset, inr bars) = apart_within limits.depth as_document b t x (to_depth t h) (path, offset, bars.1)

pub answered_one_way : (limits : Limits) → AllAreAnsweredOneWay limits
answered_one_way limits b env = record {
  either = either_way limits b env;
  not_both = tree_or_barrier limits b;
  one_tree = λ t other r s. one_tree as_document b other t s.read r.read;
  one_fault = λ x other h k. (barred_at_one_place limits b x other h.0 k.0 h.1 k.1 h.2 k.2).0;
}

-- all levels

-- no level of a document is deeper than the greatest length
never_too_deep : (n : ℕ) (b : List ℕ) → IsEnvelope b → max_length < n → FirstFaultWithin n b too_deep → ⊥
never_too_deep n b env more h = omega (arith, env.header.fits, deep_long n b h)

frames_of_all : (depth : ℕ) (u : Nested) → max_length < depth → (result : Result Contents Error) (n : ℕ) → TellsFramesWithin depth (bytes_of u.document) result n
    → TellsFrames (bytes_of u.document) result n
frames_of_all depth u more result n (inl deep) = absurd (never_too_deep depth (bytes_of u.document) u.document.envelope more deep)
frames_of_all depth u more result n (inr frames) = frames

-- what is returned for such a depth is returned for all levels
pub told_of_all : (depth : ℕ) (u : Nested) → max_length < depth → (result : Result Contents Error) (n : ℕ) → TellsReading depth u result n
    → IfOk result (AreRead u.holder (bytes_of u.document)) × IfErr result (TellsFirstFault (bytes_of u.document)) × TellsFrames (bytes_of u.document) result n
told_of_all depth u more (Ok c) n (tree, fault, frames) = ((tree.0, (depth, tree.1)), tt, frames_of_all depth u more (Ok c) n frames)
told_of_all depth u more (Err e) n (tree, inl memory, frames) = (tt, inl memory, frames_of_all depth u more (Err e) n frames)
told_of_all depth u more (Err e) n (tree, inr (fault_of fault, bars, says), frames) = (tt, inr (fault, (depth, bars.0, bars.1, bars.2), says), frames_of_all depth u more (Err e) n frames)
told_of_all depth u more (Err e) n (tree, inr (too_deep, bars, says), frames) = absurd (never_too_deep depth (bytes_of u.document) u.document.envelope more bars)
told_of_all depth u more (Err e) n (tree, inr (too_many_bytes, bars, says), frames) = absurd (never_too_many depth (bytes_of u.document) bars)
