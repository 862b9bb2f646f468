-- The text of a document is UTF-8.
use Rattle.bson_to_json.proofs.Common.{AreMembersJson, Done, Frame, IsJson, IsJsonUpTo, IsUtf8, IsValueJson, IsWalk, MeansValue, RawValue, Style, closing, comma, end_text, line, member_key, opening}
use Rattle.std.proofs.Common.{◌*◌, ◌<◌, ◌++◌, [], ◌∷◌, ℕ, zero, suc, Bool, true, false, List, replicate, drop, codes, refl, sym, subst, arith}
use Rattle.std.proofs.lemmas.Str.{IsUtf8-nil}
use Rattle.raw_view.specs.Meaning as raw
use Rattle.raw_view.specs.declared.element_type.ElementType.{ElementType}
use Rattle.raw_tree.specs.Reading.{Sort, as_document, as_array}
use Rattle.bson_to_json.specs.declared.style.Layout.{Layout}
use Rattle.bson_to_json.specs.declared.style.Layout.TheVariants.{OneLine, Indented}
use Rattle.bson_to_json.proofs.Utf8.{AreLeafTexts, Text, ascii, is_joined, joined_utf8, leaf_utf8, literal, quote, same_ascii, small, whole}

-- the texts of a value are UTF-8
abbrev AreTexts : RawValue → Type 0
AreTexts (raw.single l) = AreLeafTexts l
AreTexts (raw.scoped code scope) = IsUtf8 code
AreTexts _ = Unit {0}

texts_of : (k : ElementType) (p : List ℕ) (v : RawValue) → MeansValue k p v → AreTexts v
texts_of k p v means = grind arith

line_utf8 : (layout : Layout) (depth : ℕ) → IsUtf8 (line layout depth)
line_utf8 OneLine depth = IsUtf8-nil
line_utf8 Indented depth = joined_utf8 (literal (10 ∷ []) refl) (ascii (replicate (2 * depth) 32) (same_ascii (2 * depth) 32 (omega arith)) ∷ [])

comma_utf8 : (first : Bool) → IsUtf8 (comma first)
comma_utf8 true = IsUtf8-nil
comma_utf8 false = (literal (44 ∷ []) refl).utf8

key_utf8 : (layout : Layout) (sort : Sort) (key : List ℕ) → IsUtf8 key → IsUtf8 (member_key layout sort key)
key_utf8 OneLine as_document key u = joined_utf8 (quote key u) (literal (codes ":") refl ∷ [])
key_utf8 Indented as_document key u = joined_utf8 (quote key u) (literal (codes ": ") refl ∷ [])
key_utf8 layout as_array key u = IsUtf8-nil

abbrev line_of : Layout → ℕ → Text
line_of layout depth = record { bytes = line layout depth; utf8 = line_utf8 layout depth }

abbrev head_of : (layout : Layout) (depth : ℕ) (sort : Sort) (first : Bool) (key : List ℕ) → IsUtf8 key → Text
head_of layout depth sort first key u =
    whole (record { bytes = comma first; utf8 = comma_utf8 first }) (line_of layout depth ∷ record { bytes = member_key layout sort key; utf8 = key_utf8 layout sort key u } ∷ [])

brackets_small : (sort : Sort) → (opening sort < 128) × (closing sort < 128)
brackets_small as_document = omega arith
brackets_small as_array = omega arith

end_utf8 : (layout : Layout) (depth : ℕ) (sort : Sort) (first : Bool) → IsUtf8 (end_text layout depth sort first)
end_utf8 layout depth sort true = (small (closing sort ∷ []) ((brackets_small sort).1, tt)).utf8
end_utf8 layout depth sort false = joined_utf8 (line_of layout depth) (small (closing sort ∷ []) ((brackets_small sort).1, tt) ∷ [])

module _ (style : Style) (depth : ℕ) (Nested : Sort → List ℕ → List ℕ → Type 0) (nested : (sort : Sort) (b text : List ℕ) → Nested sort b text → IsUtf8 text) where
  value_utf8 : (v : RawValue) (text : List ℕ) → AreTexts v → IsValueJson style depth Nested v text → IsUtf8 text
  value_utf8 (raw.single l) text u is = leaf_utf8 style.format l text u is
  value_utf8 (raw.document d) text u is = nested as_document d text is
  value_utf8 (raw.array d) text u is = nested as_array d text is
  value_utf8 (raw.scoped code d) text u (scope, is, e) =
      let before = whole (literal (codes "{\"$code\":") refl) (quote code u ∷ literal (codes ",\"$scope\":") refl ∷ []) in
      is_joined before (record { bytes = scope; utf8 = nested as_document d scope is } ∷ literal (codes "}") refl ∷ []) text e

  members_utf8 : (sort : Sort) (first : Bool) (s : List ℕ) (frames : List Frame) (text : List ℕ) → IsWalk s frames Done → AreMembersJson style depth Nested sort first frames text → IsUtf8 text
  members_utf8 sort first s [] text walk e = subst IsUtf8 (sym e) (end_utf8 style.layout depth sort first)
  members_utf8 sort first s (f ∷ fs) text (r, at, walk) (v, shown, others, means, is, rest, e) =
      let value : Text = record { bytes = shown; utf8 = value_utf8 v shown (texts_of f.kind f.payload v means) is } in
      let behind : Text = record { bytes = others; utf8 = members_utf8 sort false r fs others walk rest } in
      is_joined (head_of style.layout (suc depth) sort first f.key at.key_utf8) (value ∷ behind ∷ []) text e

up_to_utf8 : (style : Style) (n depth : ℕ) (sort : Sort) (b text : List ℕ) → IsJsonUpTo style n depth sort b text → IsUtf8 text
up_to_utf8 style zero depth sort b text is = absurd is
up_to_utf8 style (suc n) depth sort b text (frames, members, walk, are, e) =
    let inside = members_utf8 style depth (IsJsonUpTo style n (suc depth)) (up_to_utf8 style n (suc depth)) sort true (drop 4 b) frames members walk are in
    is_joined (small (opening sort ∷ []) ((brackets_small sort).0, tt)) (record { bytes = members; utf8 = inside } ∷ []) text e

-- the text of a document
pub json_utf8 : (style : Style) (b text : List ℕ) → IsJson style b text → IsUtf8 text
json_utf8 style b text (levels, is) = up_to_utf8 style levels 0 as_document b text is
