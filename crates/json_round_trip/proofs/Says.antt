-- The meaning of the JSON values that are printed of documents, arrays and scopes: each means one tree alone.
use Rattle.std.proofs.Common.{◌≡◌, ◌⊎◌, ◌||◌, ℕ, Bool, true, false, not, List, ◌∷◌, ◌++◌, codes, inl, inr, refl, sym, ap, ◌∙◌}
use Rattle.std.proofs.lemmas.Bool.{false≢true}
use Rattle.std.specs.List.{list_any}
use Rattle.std.specs.Str.{bytes_eq}
use Rattle.json.specs.Json.{Json, Items, Members, no_items, item, no_members, member}
use Rattle.json.specs.Json as json
use Rattle.json.specs.Tree.{json_tokens, items_tokens, members_tokens, HasNumbers, ItemsHaveNumbers, MembersHaveNumbers}
use Rattle.bson_model.specs.Bytes.{NulFree}
use Rattle.bson_model.specs.Leaf.{Leaf}
use Rattle.bson_model.specs.Proper.{keys_in}
use Rattle.bson_model.specs.Tree.{Tree, Trees, Entries, leaf, array, document, code_with_scope, no_tree, tree_then, no_entry, entry_then}
use Rattle.raw_tree.specs.Reading.{as_document, as_array}
use Rattle.bson_to_json.specs.Json.{before_scope, end_text, head_text}
use Rattle.bson_to_json.specs.declared.style.Layout.{Layout}
use Rattle.bson_from_json.specs.Meaning.{AreItems, AreMembers, Means, has_wrapper_key, is_wrapper_key}
use Rattle.values_from_json.proofs.Face.{old_binary_first}
use Rattle.json_round_trip.specs.Printed.{IsPrintedAs}
use Rattle.json_round_trip.specs.Returning.{HasNoWrapperKey}
use Rattle.json_round_trip.proofs.Spaced.{IsSpaced, printed}
use Rattle.json_round_trip.proofs.Structure.{array_text, item_text, items_end_text, member_text, members_end_text, object_text, scoped_json, scoped_text}
use Rattle.json_round_trip.proofs.Wrappers.{wraps_one_key, wraps_scope_key}

-- the text is that of the JSON value, which means this tree alone
pub record IsPrinted (t : Tree) (text : List ℕ) (j : Json) : Type 0 where
  pub spaced : IsSpaced false text (json_tokens j)
  pub numbers : HasNumbers j
  pub says : Means j t
  pub only : (other : Tree) → Means j other → other ≡ t

-- the text, after others unless it is the first, is that of the members with their bracket, which mean these pairs alone
pub record AreMembersPrinted (first : Bool) (es : Entries) (text : List ℕ) (ms : Members) : Type 0 where
  pub spaced : IsSpaced (not first) text (members_tokens ms)
  pub numbers : MembersHaveNumbers ms
  pub say : AreMembers ms es
  pub only : (other : Entries) → AreMembers ms other → other ≡ es
  pub keys : has_wrapper_key ms ≡ list_any is_wrapper_key (keys_in es)

-- the items of an array
pub record AreItemsPrinted (first : Bool) (ts : Trees) (text : List ℕ) (js : Items) : Type 0 where
  pub spaced : IsSpaced (not first) text (items_tokens js)
  pub numbers : ItemsHaveNumbers js
  pub say : AreItems js ts
  pub only : (other : Trees) → AreItems js other → other ≡ ts

-- the text is that of an object whose members mean these pairs alone
pub record IsObjectPrinted (es : Entries) (text : List ℕ) (ms : Members) : Type 0 where
  pub spaced : IsSpaced false text (json_tokens (json.object ms))
  pub numbers : MembersHaveNumbers ms
  pub say : AreMembers ms es
  pub only : (other : Entries) → AreMembers ms other → other ≡ es
  pub keys : has_wrapper_key ms ≡ list_any is_wrapper_key (keys_in es)

pub leaf_printed : (l : Leaf) (text : List ℕ) (j : Json) → IsPrintedAs l text j → IsPrinted (leaf l) text j
leaf_printed l text j h = record { spaced = printed false text (json_tokens j) h.text_is; numbers = h.numbers; says = h.says; only = h.only }

module _ (layout : Layout) (depth : ℕ) (first : Bool) where
  pub no_member_printed : AreMembersPrinted first no_entry (end_text layout depth as_document first) no_members
  no_member_printed = record { spaced = members_end_text layout depth first; numbers = tt; say = refl; only = λ other e. e; keys = refl }

  pub no_item_printed : AreItemsPrinted first no_tree (end_text layout depth as_array first) no_items
  no_item_printed = record { spaced = items_end_text layout depth first; numbers = tt; say = refl; only = λ other e. e }

  pub member_printed : (key shown others : List ℕ) (t : Tree) (es : Entries) (j : Json) (ms : Members) → NulFree key × IsPrinted t shown j → AreMembersPrinted false es others ms
      → AreMembersPrinted first (entry_then key t es) (head_text layout depth as_document first key ++ (shown ++ others)) (member key j ms)
  member_printed key shown others t es j ms h k = record {
    spaced = member_text layout depth first shown others key j ms h.1.spaced k.spaced;
    numbers = (h.1.numbers, k.numbers);
    say = (t, es, h.0, h.1.says, k.say, refl);
    only = λ other (u, rest, free, means, are, e). e ∙ (λ i. entry_then key (h.1.only u means i) (k.only rest are i));
    keys = ap (λ (b : Bool). is_wrapper_key key || b) k.keys;
  }

  pub item_printed : (key shown others : List ℕ) (t : Tree) (ts : Trees) (j : Json) (js : Items) → IsPrinted t shown j → AreItemsPrinted false ts others js
      → AreItemsPrinted first (tree_then t ts) (head_text layout depth as_array first key ++ (shown ++ others)) (item j js)
  item_printed key shown others t ts j js h k = record {
    spaced = item_text layout depth first shown others key j js h.spaced k.spaced;
    numbers = (h.numbers, k.numbers);
    say = (t, ts, h.says, k.say, refl);
    only = λ other (u, rest, means, are, e). e ∙ (λ i. tree_then (h.only u means i) (k.only rest are i));
  }

pub object_printed : (es : Entries) (text : List ℕ) (ms : Members) → AreMembersPrinted true es text ms → IsObjectPrinted es (123 ∷ text) ms
object_printed es text ms h = record { spaced = object_text text ms h.spaced; numbers = h.numbers; say = h.say; only = h.only; keys = h.keys }

pub array_printed : (ts : Trees) (text : List ℕ) (js : Items) → AreItemsPrinted true ts text js → IsPrinted (array ts) (91 ∷ text) (json.array js)
array_printed ts text js h = record {
  spaced = array_text text js h.spaced;
  numbers = h.numbers;
  says = (ts, h.say, refl);
  only = λ other (rest, are, e). e ∙ ap array (h.only rest are);
}

-- an object without a wrapper's key is a document only

only_document : (es : Entries) (text : List ℕ) (ms : Members) → IsObjectPrinted es text ms → has_wrapper_key ms ≡ false → (other : Tree) → Means (json.object ms) other → other ≡ document es
only_document es text ms h none other (inl (rest, no_key, are, e)) = e ∙ ap document (h.only rest are)
only_document es text ms h none other (inr (inl w)) = absurd (false≢true (sym none ∙ wraps_one_key ms other w))
only_document es text ms h none other (inr (inr w)) = absurd (false≢true (sym none ∙ wraps_scope_key ms other w))

pub document_printed : (es : Entries) (text : List ℕ) (ms : Members) → IsObjectPrinted es text ms → HasNoWrapperKey (keys_in es) → IsPrinted (document es) text (json.object ms)
document_printed es text ms h none = record {
  spaced = h.spaced;
  numbers = h.numbers;
  says = inl (es, h.keys ∙ none, h.say, refl);
  only = only_document es text ms h (h.keys ∙ none);
}

-- an object of a code and a scope is a code with scope only

same_string : (a b : List ℕ) → json.string a ≡ json.string b → a ≡ b
same_string a b e = cc

not_the_key : {P : Type 0} → codes "$code" ≡ codes "$scope" → P
not_the_key e = absurd (false≢true (sym (ap (bytes_eq (codes "$code")) e)))

code_unlike : (codes "$code" ≡ codes "$binary") ⊎ (codes "$code" ≡ codes "$type") → ⊥
code_unlike (inl e) = false≢true (sym (ap (bytes_eq (codes "$code")) e))
code_unlike (inr e) = false≢true (sym (ap (bytes_eq (codes "$code")) e))

only_scoped : (code : List ℕ) (es : Entries) (text : List ℕ) (ms : Members) → IsObjectPrinted es text ms → (other : Tree) → Means (scoped_json code (json.object ms)) other
    → other ≡ code_with_scope code es
only_scoped code es text ms h other (inl (rest, no_key, are, e)) = absurd (false≢true (sym no_key))
only_scoped code es text ms h other (inr (inl (l, is, e))) = absurd (code_unlike (old_binary_first is))
only_scoped code es text ms h other (inr (inr (inl (code', rest, k, k', is, whole, e)))) =
    e ∙ (λ i. code_with_scope (same_string code' code (sym is) i) (h.only rest whole i))
only_scoped code es text ms h other (inr (inr (inr (code', rest, k, k', whole, is, e)))) = not_the_key k

pub scoped_printed : (code : List ℕ) (es : Entries) (text : List ℕ) (ms : Members) → IsObjectPrinted es text ms
    → IsPrinted (code_with_scope code es) (before_scope code ++ (text ++ codes "}")) (scoped_json code (json.object ms))
scoped_printed code es text ms h = record {
  spaced = scoped_text code text (json.object ms) h.spaced;
  numbers = (tt, (h.numbers, tt));
  says = inr (inr (inl (code, es, refl, refl, refl, h.say, refl)));
  only = only_scoped code es text ms h;
}
