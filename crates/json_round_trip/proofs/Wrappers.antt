-- An object of one member with the key of a wrapper means what that wrapper writes.
use Rattle.std.proofs.Common.{◌≡◌, ◌||◌, Bool, true, false, List, ℕ, sym, ap, ◌∙◌, inl, inr}
use Rattle.std.proofs.lemmas.Bool.{false≢true}
use Rattle.json.specs.Json.{Json, Members, no_members, member}
use Rattle.json.specs.Json as json
use Rattle.bson_model.specs.Leaf.{Leaf}
use Rattle.bson_model.specs.Tree.{Tree, leaf}
use Rattle.bson_from_json.specs.Keys.{wrapper_key}
use Rattle.bson_from_json.specs.Meaning.{Means, WrapsOne, WrapsScope, has_wrapper_key, is_wrapper_key}
use Rattle.bson_from_json.specs.Wrapped.{one_member}
use Rattle.bson_from_json.specs.Wrapper.{Wrapper}
use Rattle.values_from_json.proofs.Face.{Writes, is_of_wrapper, old_binary_key, wrapped_key, writes}

-- an object that is a wrapper has the key of one
pub wraps_one_key : (ms : Members) (t : Tree) → WrapsOne ms t → has_wrapper_key ms ≡ true
wraps_one_key no_members t (l, is, e) = old_binary_key no_members l is
wraps_one_key (member k j no_members) t (l, is, e) = ap (λ (b : Bool). b || false) (wrapped_key k j l is)
wraps_one_key (member k j (member k' j' ms)) t (l, is, e) = old_binary_key (member k j (member k' j' ms)) l is

pub wraps_scope_key : (ms : Members) (t : Tree) → WrapsScope ms t → has_wrapper_key ms ≡ true
wraps_scope_key no_members t w = absurd w
wraps_scope_key (member k j no_members) t w = absurd w
wraps_scope_key (member k j (member k' j' no_members)) t (inl w) = ap (λ (x : List ℕ). is_wrapper_key x || (is_wrapper_key k' || false)) w.2
wraps_scope_key (member k j (member k' j' no_members)) t (inr w) = ap (λ (x : List ℕ). is_wrapper_key x || (is_wrapper_key k' || false)) w.2
wraps_scope_key (member k j (member k' j' (member k'' j'' ms))) t w = absurd w

-- such an object means one leaf, if its wrapper writes one
pub only_wrapped : (w : Wrapper) (j : Json) (l : Leaf) → ((other : Leaf) → Writes w j other → other ≡ l) → (t : Tree) → Means (json.object (one_member (wrapper_key w) j)) t → t ≡ leaf l
only_wrapped w j l only t (inl (es, none, are, e)) = absurd (false≢true (sym none ∙ ap (λ (b : Bool). b || false) (is_of_wrapper w)))
only_wrapped w j l only t (inr (inl (other, is, e))) = e ∙ ap leaf (only other (writes w j other is))
only_wrapped w j l only t (inr (inr s)) = absurd s
