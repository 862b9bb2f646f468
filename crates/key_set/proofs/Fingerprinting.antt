-- Fingerprints of keys in a table: what a free slot means, and that fingerprints stay.
use Rattle.std.proofs.Common.{◌≡◌, ◌≢◌, ◌⊎◌, ◌<◌, ◌≤◌, ◌++◌, ◌∷◌, [], ℕ, List, Option, None, Some, length, arith}
use Rattle.std.proofs.Math.ListN.{set, length-set}
use Rattle.std.proofs.lemmas.Bool.{cases_eq}
use Rattle.std.proofs.lemmas.List.{get_or-set_same, get_or-set_other}
use Rattle.std.proofs.lemmas.Option.{gets}
use Rattle.std.specs.List.{slice_get}
use Rattle.key_set.specs.IndexedKeys.{InsertsKey}
use Rattle.key_set.specs.Fingerprints.{fingerprint_of, HaveFingerprints, AreTaken, IsFingerprintAt, HasFingerprint}
use Rattle.key_set.proofs.KeyPlaces.{place_where}
use Rattle.key_set.proofs.References.{each_more}
use Rattle.key_set.specs.declared.fingerprints.Fingerprints.{Fingerprints}

-- a slot that is written, and every other slot
slot_where : (slots : List ℕ) (at fingerprint i : ℕ) → at < length slots
    → ((i ≡ at) × (slice_get (set slots at fingerprint) i ≡ Some fingerprint)) ⊎ ((i ≢ at) × (slice_get (set slots at fingerprint) i ≡ slice_get slots i))
slot_where slots at fingerprint i within = grind (arith, gets, cases_eq i at, length-set slots at fingerprint, get_or-set_same slots at fingerprint, get_or-set_other slots at i fingerprint)

-- the slots from the start up to a place are taken, but not by the fingerprint
pub record ArePassed (slots : List ℕ) (start fingerprint at : ℕ) : Type 0 where
  pub behind : start ≤ at
  pub taken : AreTaken slots start at
  pub apart : (i : ℕ) → start ≤ i → i < at → slice_get slots i ≢ Some fingerprint

-- what is found is still found after a free slot is taken
pub fingerprints_kept : (slots : List ℕ) (at fingerprint start m : ℕ) → fingerprint ≢ 0 → m ≢ 0 → at < length slots → slice_get slots at ≡ Some 0
    → IsFingerprintAt slots start m → IsFingerprintAt (set slots at fingerprint) start m
fingerprints_kept slots at fingerprint start m some other within free h =
    (h.0, h.1, grind (arith, slot_where slots at fingerprint h.0), λ i s l e. grind (arith, slot_where slots at fingerprint i, h.3 i s l))

pub fingerprint_some : (hash : ℕ) → fingerprint_of hash ≢ 0
fingerprint_some hash = omega arith

-- hashed keys stay hashed, with one more key or not
module _ (old new : Fingerprints) (keys after : List (List ℕ)) (kept : (k : List ℕ) → HasFingerprint old k → HasFingerprint new k) (were : HaveFingerprints old keys) where
  fingerprints_more : (key : List ℕ) → after ≡ keys ++ key ∷ [] → HasFingerprint new key → HaveFingerprints new after
  fingerprints_more key more here = rw more (each_more (HasFingerprint old) (HasFingerprint new) keys key were kept here)

  pub fingerprints_inserted : (key : List ℕ) (place : Option ℕ) → InsertsKey keys key place after → HasFingerprint new key → HaveFingerprints new after
  fingerprints_inserted key None inserts here = fingerprints_more key inserts.1 here
  fingerprints_inserted key (Some n) inserts here = rw inserts.1 (λ k c. kept k (were k c))

  -- none of the keys had the fingerprint of the key
  pub fingerprint_put : (key : List ℕ) → (¬ HasFingerprint old key) × HasFingerprint new key → after ≡ keys ++ key ∷ [] → InsertsKey keys key None after × HaveFingerprints new after
  fingerprint_put key put more = ((grind (arith, place_where keys key, were key, put.0), more), fingerprints_more key more put.1)
