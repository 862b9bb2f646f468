use Rattle.std.proofs.Common.{rules, ◌≡◌, ℕ, List, Bor, refl, inl, inr, arith}
use Rattle.std.proofs.lemmas.List.{length-map, nil_from_length}
use Rattle.raw_bson.specs.Document.{bytes_of}
use Rattle.bson_uses.proofs.update.change_of.Goals as goal

pub returns-in_default-split_first : goal.returns-in_default-split_first
returns-in_default-split_first c v =
    let same : c.args.element.key.now ≡ c.in-Some.key.now.now = search rules in
    rw (c.in-Some.ensures.cases.0, nil_from_length c.in-Some.keys.now c.in_default-split_first.ensures.cases) (inl (same, refl))

pub returns-in-None : goal.returns-in-None
returns-in-None c v =
    let same : c.args.element.key.now ≡ c.in-Some.key.now.now = search rules in
    rw (c.in-Some.ensures.cases.0, c.in-Some-split_first.ensures.cases.0) (inl (same, inr (c.in-None.ensures, refl)))

pub returns-in-Some-document_in : goal.returns-in-Some-document_in
returns-in-Some-document_in c =
    let same : c.args.element.key.now ≡ c.in-Some.key.now.now = search rules in
    let inside = bytes_of c.in-Some-document_in.document in
    let means = c.in-Some-document_in.ensures in
    let less = length-map c.in-Some-split_first.field-0.1.now (λ (key : Bor (List ℕ)). key.now) in
    rw (c.in-Some.ensures.cases.0, c.in-Some-split_first.ensures.cases.0)
    (omega (arith, less), λ v set copy. inl (same, inl (inside, set, means, copy, refl)), λ v e refused. (same, inside, means, refused))
