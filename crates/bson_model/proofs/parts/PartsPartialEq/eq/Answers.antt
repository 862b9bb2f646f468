use Rattle.std.proofs.Common.{◌≡◌, map, sym, ◌∙◌, nat_eq, ap, true, false, ◌&&◌}
use Rattle.std.proofs.lemmas.List.{length-map}
use Rattle.std.specs.Cmp.Lexicographic.{pointwise}
use Rattle.std.specs.String.{string_bytes}
use Rattle.bson_model.proofs.Zips.{zip_eq}
use Rattle.bson_model.proofs.parts.PartsPartialEq.eq.Goals as goal

pub returns-then-have_same_keys : goal.returns-then-have_same_keys
returns-then-have_same_keys g c =
    let a = c.self.inside in
    let b = c.other.inside in
    let z = zip_eq (pointwise nat_eq) g.T.PartialEq.eq (map string_bytes a.keys) (map string_bytes b.keys) a.values.items b.values.items
    (c.self.invariant ∙ sym (length-map a.keys string_bytes)) (c.other.invariant ∙ sym (length-map b.keys string_bytes)) in
    let h : true ≡ pointwise (pointwise nat_eq) (map string_bytes a.keys) (map string_bytes b.keys) = sym c.if-have_same_keys.true ∙ c.have_same_keys.ensures in
    let k : c.eq.result ≡ pointwise g.T.PartialEq.eq a.values.items b.values.items = rw (← c.as_slice.ensures.value, ← c.as_slice-then-have_same_keys.ensures.value) c.eq.ensures in
    rw (← c.self.view_is, ← c.other.view_is) (k ∙ ap (λ x. x && pointwise g.T.PartialEq.eq a.values.items b.values.items) h ∙ sym z)

pub returns-else-have_same_keys : goal.returns-else-have_same_keys
returns-else-have_same_keys g c =
    let a = c.self.inside in
    let b = c.other.inside in
    let z = zip_eq (pointwise nat_eq) g.T.PartialEq.eq (map string_bytes a.keys) (map string_bytes b.keys) a.values.items b.values.items
    (c.self.invariant ∙ sym (length-map a.keys string_bytes)) (c.other.invariant ∙ sym (length-map b.keys string_bytes)) in
    let h : false ≡ pointwise (pointwise nat_eq) (map string_bytes a.keys) (map string_bytes b.keys) = sym c.if-have_same_keys.false ∙ c.have_same_keys.ensures in
    rw (← c.self.view_is, ← c.other.view_is) (c.if-have_same_keys.false ∙ ap (λ x. x && pointwise g.T.PartialEq.eq a.values.items b.values.items) h ∙ sym z)
