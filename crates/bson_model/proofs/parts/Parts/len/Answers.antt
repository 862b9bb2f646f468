use Rattle.std.proofs.Common.{ℕ, zero, suc, ◌<◌, List, [], ◌∷◌, String, Global, length, map, slice_index_or, ap, arith}
use Rattle.std.specs.Str.{IsUtf8}
use Rattle.std.proofs.lemmas.Str.{IsUtf8-string_bytes}
use Rattle.std.proofs.lemmas.List.{length-map}
use Rattle.std.specs.String.{string_bytes}
use Rattle.std.proofs.lemmas.Slice.Zip.{length-zip}
use Rattle.bson_model.proofs.Kept.{keys_of-pairs, distinct_map}
use Rattle.bson_model.proofs.parts.Parts.len.Goals as goal

texts : (ks : List (String Global)) (k : ℕ) (d : List ℕ) → k < length ks → IsUtf8 (slice_index_or (map string_bytes ks) k d)
texts [] k d h = absurd (omega arith)
texts (s ∷ ks) zero d h = IsUtf8-string_bytes s
texts (s ∷ ks) (suc k) d h = texts ks k d (omega arith)

pub returns-clause-len : goal.returns-clause-len
returns-clause-len g c =
    let i = c.self.invariant in
    rw (← c.self.view_is, length-zip, length-map) (omega (arith, i, ap length c.as_slice.ensures.texts))

pub returns-clause-distinct : goal.returns-clause-distinct
returns-clause-distinct g c =
    let a = c.self.inside in
    rw (← c.self.view_is, keys_of-pairs string_bytes a.keys a.values.items c.self.invariant) (distinct_map string_bytes a.keys c.as_slice.ensures.distinct)

pub returns-clause-texts : goal.returns-clause-texts
returns-clause-texts g c =
    let a = c.self.inside in
    rw (← c.self.view_is, keys_of-pairs string_bytes a.keys a.values.items c.self.invariant) (λ k d h. texts a.keys k d (rw length-map at h))
