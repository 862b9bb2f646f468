-- The items of a document are determined.
use Rattle.std.proofs.Common.{◌≡◌, ℕ, List, [], ◌∷◌, drop, sym, ◌∙◌}
use Rattle.raw_view.specs.Frame.{Frame, End, Done, Stopped}
use Rattle.raw_view.specs.Meaning.Item.{Item, ItemsOf, AreItems}
use Rattle.raw_view.specs.OneReading.{AreTheItems}
use Rattle.raw_view.proofs.Unique.Walks.{one_walk}
use Rattle.raw_view.proofs.Unique.Meanings.{one_meaning}

-- frames and their end have one list of items
items_same : (fs : List Frame) (end : End) (xs ys : List Item) → ItemsOf fs end xs → ItemsOf fs end ys → xs ≡ ys
items_same [] Done xs ys a b = a ∙ sym b
items_same [] (Stopped fault key) xs ys a b = a ∙ sym b
items_same (f ∷ fs) end xs ys a b =
    let meanings = one_meaning f a.0 b.0 a.2 b.2 in
    let rest = items_same fs end a.1 b.1 a.4 b.4 in
    a.3 ∙ rw (meanings, rest) (sym b.3)

-- a document has one list of items at most
pub one_items : (b : List ℕ) (xs ys : List Item) → AreItems b xs → AreItems b ys → xs ≡ ys
one_items b xs ys x y =
    let walks = one_walk (drop 4 b) x.0 y.0 x.1 y.1 x.2 y.2 in
    items_same x.0 x.1 xs ys x.3 (rw (walks.0, walks.1) y.3)

pub the_items : (b : List ℕ) (items : List Item) → AreItems b items → AreTheItems b items
the_items b items a = (a, λ other o. one_items b other items o a)
