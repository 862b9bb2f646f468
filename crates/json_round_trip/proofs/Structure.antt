-- The tokens of what is printed of documents, arrays and scopes, in either layout.
use Rattle.std.proofs.Common.{◌≡◌, ◌*◌, ℕ, zero, suc, Bool, true, false, not, List, [], ◌∷◌, ◌++◌, codes, replicate, inl, inr, refl, sym, ap, subst, ◌∙◌, append_assoc, append-nil}
use Rattle.json.specs.Json.{Json, Items, Members, no_items, item, no_members, member}
use Rattle.json.specs.Json as json
use Rattle.json.specs.Print.{quoted, escape_byte, token_text, separator, ends}
use Rattle.json.specs.Spaced.{IsGap}
use Rattle.json.specs.Token.{Token}
use Rattle.json.specs.Tree.{json_tokens, items_tokens, members_tokens}
use Rattle.raw_tree.specs.Reading.{as_document, as_array}
use Rattle.bson_to_json.specs.Json.{before_scope, colon, comma, end_text, head_text, line}
use Rattle.bson_to_json.specs.declared.style.Layout.{Layout}
use Rattle.bson_to_json.specs.declared.style.Layout.TheVariants.{OneLine, Indented}
use Rattle.json_round_trip.proofs.Spaced.{IsSpaced, begun, both, comma_if, do_begin, nothing, then_value, token_then}

-- gaps

spaces : (n : ℕ) → IsGap (replicate n 32)
spaces zero = tt
spaces (suc n) = (inl refl, spaces n)

line_is_gap : (layout : Layout) (depth : ℕ) → IsGap (line layout depth)
line_is_gap OneLine depth = tt
line_is_gap Indented depth = (inr refl, spaces (2 * depth))

-- what follows a colon
abbrev behind_colon : Layout → List ℕ
behind_colon OneLine = []
behind_colon Indented = 32 ∷ []

colon_is_gap : (layout : Layout) → IsGap (behind_colon layout)
colon_is_gap OneLine = tt
colon_is_gap Indented = (inl refl, tt)

-- the first token of a value begins one, and what follows its last token comes after a value

value_begins : (j : Json) → do_begin (json_tokens j) ≡ true
value_begins json.null = refl
value_begins (json.boolean b) = refl
value_begins (json.number s) = refl
value_begins (json.string s) = refl
value_begins (json.array js) = refl
value_begins (json.object ms) = refl

then_both : (c : Bool) (ts us : List Token) → then_value c (ts ++ us) ≡ then_value (then_value c ts) us
then_both c [] us = refl
then_both c (t ∷ ts) us = then_both (ends t) ts us

items_end : (c : Bool) (js : Items) → then_value c (items_tokens js) ≡ true
items_end c no_items = refl
items_end c (item j js) = then_both c (json_tokens j) (items_tokens js) ∙ items_end (then_value c (json_tokens j)) js

members_end : (c : Bool) (ms : Members) → then_value c (members_tokens ms) ≡ true
members_end c no_members = refl
members_end c (member k j ms) = then_both false (json_tokens j) (members_tokens ms) ∙ members_end (then_value false (json_tokens j)) ms

value_ends : (c : Bool) (j : Json) → then_value c (json_tokens j) ≡ true
value_ends c json.null = refl
value_ends c (json.boolean b) = refl
value_ends c (json.number s) = refl
value_ends c (json.string s) = refl
value_ends c (json.array js) = items_end false js
value_ends c (json.object ms) = members_end false ms

-- more tokens after a value
value_then : (c : Bool) (shown others : List ℕ) (j : Json) (ts : List Token) → IsSpaced c shown (json_tokens j) → IsSpaced true others ts → IsSpaced c (shown ++ others) (json_tokens j ++ ts)
value_then c shown others j ts h k = both c shown others (json_tokens j) ts h (subst (λ (b : Bool). IsSpaced b others ts) (sym (value_ends c j)) k)

-- members

comma_is_separator : (first : Bool) (key : List ℕ) → comma first ≡ separator (not first) (Token.key key)
comma_is_separator true key = refl
comma_is_separator false key = refl

comma_is : (first : Bool) → comma first ≡ comma_if (not first)
comma_is true = refl
comma_is false = refl

key_and_colon : (layout : Layout) (key : List ℕ) → quoted key ++ colon layout ≡ token_text (Token.key key) ++ behind_colon layout
key_and_colon OneLine key = sym (append-nil (quoted key ++ 58 ∷ []))
key_and_colon Indented key = sym (append_assoc (quoted key) (58 ∷ []) (32 ∷ []))

regroup_member : (a l t g s o : List ℕ) → (a ++ (l ++ (t ++ g))) ++ (s ++ o) ≡ a ++ (l ++ (t ++ ((g ++ s) ++ o)))
regroup_member a l t g s o = simp append_assoc

regroup_item : (a l s o : List ℕ) → (a ++ (l ++ [])) ++ (s ++ o) ≡ (a ++ (l ++ s)) ++ o
regroup_item a l s o = rw append-nil (simp append_assoc)

module _ (layout : Layout) (depth : ℕ) (first : Bool) (shown others : List ℕ) where
  -- a member, and the others followed by the bracket
  pub member_text : (key : List ℕ) (j : Json) (ms : Members) → IsSpaced false shown (json_tokens j) → IsSpaced true others (members_tokens ms)
      → IsSpaced (not first) (head_text layout depth as_document first key ++ (shown ++ others)) (members_tokens (member key j ms))
  member_text key j ms h k =
      let l = line layout depth in
      let g = behind_colon layout in
      let inside = begun false g shown (json_tokens j) (colon_is_gap layout) (value_begins j) h in
      let rest = value_then false (g ++ shown) others j (members_tokens ms) inside k in
      let whole = token_then (not first) l ((g ++ shown) ++ others) (Token.key key) (json_tokens j ++ members_tokens ms) (line_is_gap layout depth) rest in
      let same = (λ i. (comma_is_separator first key i ++ (l ++ key_and_colon layout key i)) ++ (shown ++ others))
      ∙ regroup_member (separator (not first) (Token.key key)) l (token_text (Token.key key)) g shown others in
      subst (λ (x : List ℕ). IsSpaced (not first) x (members_tokens (member key j ms))) (sym same) whole

  -- an item of an array, whose key isn't printed
  pub item_text : (key : List ℕ) (j : Json) (js : Items) → IsSpaced false shown (json_tokens j) → IsSpaced true others (items_tokens js)
      → IsSpaced (not first) (head_text layout depth as_array first key ++ (shown ++ others)) (items_tokens (item j js))
  item_text key j js h k =
      let l = line layout depth in
      let inside = begun (not first) l shown (json_tokens j) (line_is_gap layout depth) (value_begins j) h in
      let whole = value_then (not first) (comma_if (not first) ++ (l ++ shown)) others j (items_tokens js) inside k in
      let same = (λ i. (comma_is first i ++ (l ++ [])) ++ (shown ++ others)) ∙ regroup_item (comma_if (not first)) l shown others in
      subst (λ (x : List ℕ). IsSpaced (not first) x (items_tokens (item j js))) (sym same) whole

-- the bracket after the last

module _ (layout : Layout) (depth : ℕ) where
  pub members_end_text : (first : Bool) → IsSpaced (not first) (end_text layout depth as_document first) (Token.end_object ∷ [])
  members_end_text true = token_then false [] [] Token.end_object [] tt (nothing true)
  members_end_text false = token_then true (line layout depth) [] Token.end_object [] (line_is_gap layout depth) (nothing true)

  pub items_end_text : (first : Bool) → IsSpaced (not first) (end_text layout depth as_array first) (Token.end_array ∷ [])
  items_end_text true = token_then false [] [] Token.end_array [] tt (nothing true)
  items_end_text false = token_then true (line layout depth) [] Token.end_array [] (line_is_gap layout depth) (nothing true)

-- with the bracket before the first

pub object_text : (text : List ℕ) (ms : Members) → IsSpaced false text (members_tokens ms) → IsSpaced false (123 ∷ text) (json_tokens (json.object ms))
object_text text ms h = token_then false [] text Token.begin_object (members_tokens ms) tt h

pub array_text : (text : List ℕ) (js : Items) → IsSpaced false text (items_tokens js) → IsSpaced false (91 ∷ text) (json_tokens (json.array js))
array_text text js h = token_then false [] text Token.begin_array (items_tokens js) tt h

-- a code with its scope
abbrev pub scoped_json : List ℕ → Json → Json
scoped_json code j = json.object (member (codes "$code") (json.string code) (member (codes "$scope") j no_members))

pub scoped_text : (code scope : List ℕ) (j : Json) → IsSpaced false scope (json_tokens j) → IsSpaced false (before_scope code ++ (scope ++ codes "}")) (json_tokens (scoped_json code j))
unfolding escape_byte
scoped_text code scope j h =
    let end : List Token = Token.end_object ∷ [] in
    let inner = json_tokens j ++ end in
    let key' = Token.key (codes "$code") in
    let key'' = Token.key (codes "$scope") in
    let a = value_then false scope (125 ∷ []) j end h (token_then true [] [] Token.end_object [] tt (nothing true)) in
    let b = token_then true [] _ key'' inner tt a in
    let c = token_then false [] _ (Token.string code) (key'' ∷ inner) tt b in
    let d = token_then false [] _ key' (Token.string code ∷ key'' ∷ inner) tt c in
    let e = token_then false [] _ Token.begin_object (key' ∷ Token.string code ∷ key'' ∷ inner) tt d in
    let behind = append_assoc (quoted code) (codes ",\"$scope\":") (scope ++ codes "}") in
    let same = append_assoc (codes "{\"$code\":") (quoted code ++ codes ",\"$scope\":") (scope ++ codes "}") ∙ ap (λ (x : List ℕ). codes "{\"$code\":" ++ x) behind in
    subst (λ (x : List ℕ). IsSpaced false x (json_tokens (scoped_json code j))) (sym same) e
