-- Fingerprints of keys in a table. No public contract cites this file.
use Rattle.std.specs.Prelude.{◌≡◌, ◌≢◌, ◌<◌, ◌≤◌, ◌/◌, ◌^◌, ℕ, List, Some, length, bit_and, max, slice_get}
use Rattle.std.specs.Hash.FoldHasher as folding
use Rattle.std.specs.List.{Contains}
use Rattle.key_set.specs.declared.fingerprints.Fingerprints.{Fingerprints}

-- the hash of a key
abbrev pub hash_of : List ℕ → ℕ
hash_of key = folding.finish (folding.write folding.initial key)

-- the fingerprint of a hash: its high half, but never 0, which marks a free slot
abbrev pub fingerprint_of : ℕ → ℕ
fingerprint_of hash = max (hash / 2 ^ 32) 1

-- no slot from `start` up to this place is free
abbrev pub AreTaken : List ℕ → ℕ → ℕ → Type 0
AreTaken slots start at = (i : ℕ) → start ≤ i → i < at → slice_get slots i ≢ Some 0

-- the fingerprint is in a slot from `start` on, and no slot before it is free
abbrev pub IsFingerprintAt : List ℕ → ℕ → ℕ → Type 0
IsFingerprintAt slots start fingerprint = (at : ℕ) × (start ≤ at) × (slice_get slots at ≡ Some fingerprint) × AreTaken slots start at

-- the fingerprint of the key is in the table, from the slot that its hash gives
abbrev pub HasFingerprint : Fingerprints → List ℕ → Type 0
HasFingerprint fingerprints key = IsFingerprintAt fingerprints.slots.items (bit_and (hash_of key) fingerprints.mask) (fingerprint_of (hash_of key))

-- each of these keys has its fingerprint in the table
abbrev pub HaveFingerprints : Fingerprints → List (List ℕ) → Type 0
HaveFingerprints fingerprints keys = (key : List ℕ) → Contains keys key → HasFingerprint fingerprints key

-- the first free slot from `start` on, with no such fingerprint before it
pub record IsFreeFrom (slots : List ℕ) (start fingerprint at : ℕ) : Type 0 where
  pub behind : start ≤ at
  pub within : at < length slots
  pub free : slice_get slots at ≡ Some 0
  pub taken : AreTaken slots start at
  pub apart : (i : ℕ) → start ≤ i → i < at → slice_get slots i ≢ Some fingerprint
