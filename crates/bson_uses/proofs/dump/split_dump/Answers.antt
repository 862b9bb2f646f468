use Rattle.std.proofs.Common.{rules, ◌≡◌, ◌++◌, ◌∷◌, [], List, map, ap, sym, ◌∙◌}
use Rattle.std.proofs.lemmas.List.{map-append}
use Rattle.raw_bson.specs.Document.{bytes_of}
use Rattle.raw_bson.specs.Folds.{joined}
use Rattle.raw_bson.specs.RawDocument.{RawDocument}
use Rattle.raw_bson.proofs.Face.{joined-more}
use Rattle.bson_uses.proofs.dump.split_dump.Goals as goal

pub loop-rest-preserved : goal.loop-rest-preserved
loop-rest-preserved c =
    let ds = c.loop-rest.documents.items in
    let d = c.in-Ok.document in
    let rest = c.in-Ok.behind.now in
    let pushed : c.push.new.self.items ≡ ds ++ d ∷ [] = search rules in
    ap (λ (x : List RawDocument). joined (map bytes_of x) ++ rest) pushed ∙ ap (λ y. joined y ++ rest) (map-append bytes_of ds (d ∷ []))
    ∙ joined-more (map bytes_of ds) (bytes_of d) rest ∙ ap (λ y. joined (map bytes_of ds) ++ y) (sym c.in-Ok.ensures.parts) ∙ c.loop-rest.invariant
