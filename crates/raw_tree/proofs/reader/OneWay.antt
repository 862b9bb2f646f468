-- Bytes, values and frames are read in exactly one way.
use Rattle.std.proofs.Common.{List, ℕ, Result, Ok, Err, subst, arith}
use Rattle.raw_tree.proofs.Common.{Tree, TellsMeaning, IsEnvelope, Frame, RawValue, KeyedFault, Means, Meaning, value, faulty, value_of, RawBsonRef, Error, AllAreCountedOneWay, Sort}
use Rattle.raw_tree.proofs.Common.{ReadsAs, StandsFor, Holds, FirstFaultOfValue, FirstFaultOfFrame, FrameStandsFor, AreReadOneWay, IsValueReadOneWay, IsFrameReadOneWay}
use Rattle.raw_tree.proofs.reader.Decides.{counted, decided, value_decided}
use Rattle.raw_tree.proofs.reader.FrameCounts.{one_until}
use Rattle.raw_tree.proofs.reader.Faults.{one_first_fault, one_first_fault_of_value, tree_or_fault, tree_or_fault_of_value}
use Rattle.raw_tree.proofs.reader.OneTree.{one_fault_of, one_value_of, value_nor_fault, one_tree, stands_same}

-- bytes with an envelope
pub bytes_one_way : (sort : Sort) (b : List ℕ) → IsEnvelope b → AreReadOneWay sort b
bytes_one_way sort b env = record {
  either = decided sort b env;
  not_both = λ t fault. tree_or_fault sort b t fault;
  one_tree = λ t other r s. one_tree sort b other t s r;
  one_fault = λ fault other r s. one_first_fault b other fault s r;
}

-- and have one number of frames up to the first fault
pub counted_one_way : AllAreCountedOneWay
counted_one_way b env =
    let n = counted b env in
    (n.0, n.2, λ other h. one_until b other n.0 h n.2)

-- the nested bytes of a borrowed value have an envelope
viewed_envelope : (v : RawBsonRef) (d : List ℕ) → Holds (value_of v) d → IsEnvelope d
viewed_envelope v d h = grind arith

-- a value whose nested bytes have an envelope
pub enveloped_one_way : (v : RawValue) → ((d : List ℕ) → Holds v d → IsEnvelope d) → IsValueReadOneWay v
enveloped_one_way v env = record {
  either = value_decided v env;
  not_both = λ t fault. tree_or_fault_of_value v t fault;
  one_tree = λ t other r s. stands_same ReadsAs ReadsAs one_tree v other t s r;
  one_fault = λ fault other r s. one_first_fault_of_value v other fault s r;
}

-- a borrowed value
pub value_one_way : (v : RawBsonRef) → IsValueReadOneWay (value_of v)
value_one_way v = enveloped_one_way (value_of v) (viewed_envelope v)

-- a frame of which the value or the fault was returned
module _ (f : Frame) where
  of_value : (v : RawValue) → Means f (value v) → IsValueReadOneWay v → IsFrameReadOneWay f
  of_value v m read = record {
    either = grind (arith, read.either);
    not_both = λ t fault r s. read.not_both t fault (tree t r) (fault_in fault s);
    one_tree = λ t other r s. read.one_tree t other (tree t r) (tree other s);
    one_fault = λ fault other r s. read.one_fault fault other (fault_in fault r) (fault_in other s);
  }
    where
      tree : (t : Tree) → FrameStandsFor f t → StandsFor ReadsAs v t
      tree t r = subst (λ (w : RawValue). StandsFor ReadsAs w t) (one_value_of f r.0 v r.1 m) r.2

      fault_in : (fault : KeyedFault) → FirstFaultOfFrame f fault → FirstFaultOfValue v fault
      fault_in fault h = grind (arith, one_value_of, value_nor_fault)

  of_fault : (fault : KeyedFault) → Means f (faulty fault) → IsFrameReadOneWay f
  of_fault fault m = grind (arith, one_fault_of, value_nor_fault)

  pub element_one_way : (answer : Result RawBsonRef Error) → (m : Meaning) × Means f m × TellsMeaning answer m → IsFrameReadOneWay f
  element_one_way (Ok w) (value v, m, told) = of_value v m (subst IsValueReadOneWay told (value_one_way w))
  element_one_way (Err e) (value v, m, told) = absurd told
  element_one_way answer (faulty fault, m, told) = of_fault fault m
