-- Each value of a document is smaller than the document, by the measure of the checker. A call needs this that goes down a tree and calls
-- itself for each pair of `iter`.
use Rattle.std.proofs.Common.{ℕ, ◌<◌, List, [], ◌∷◌, map, arith}
use denote.Param.Weighed.{most}
use Rattle.bson_model.specs.Tree.{pairs_of}
use Rattle.bson_model.specs.declared.bson.Bson.{Bson, size-Bson}
use Rattle.bson_model.specs.declared.bson.Document.{Document, size-Document, size_is-Document}

-- the value of each of these pairs is smaller than the document
abbrev pub AreSmaller : Document → List (List ℕ × Bson) → Type 0
AreSmaller d [] = Unit {0}
AreSmaller d (p ∷ pairs) = (size-Bson p.1 < size-Document d) × AreSmaller d pairs

each_smaller : (d : Document) (pairs : List (List ℕ × Bson)) → most size-Bson (map (λ p. p.1) pairs) < size-Document d → AreSmaller d pairs
each_smaller d [] h = tt
each_smaller d (p ∷ pairs) h = (omega arith, each_smaller d pairs (omega arith))

pub values_smaller : (d : Document) → AreSmaller d (pairs_of d)
values_smaller d = each_smaller d (pairs_of d) (omega (arith, size_is-Document d))
