-- A document as MongoDB Extended JSON v2. The bytes b of a document or of an array have an envelope.
use Rattle.std.specs.Prelude.{◌≡◌, ◌*◌, ℕ, suc, zero, Bool, true, false, List, [], ◌∷◌, ◌++◌, codes, drop, replicate}
use Rattle.json.specs.Print.{quoted}
use Rattle.raw_view.specs.Frame.{Frame, IsWalk, Done}
use Rattle.raw_view.specs.Meaning.{RawValue, Means, value}
use Rattle.raw_view.specs.Meaning as raw
use Rattle.raw_tree.specs.Reading.{Sort, as_document, as_array}
use Rattle.bson_to_json.specs.Leaves.{IsLeafJson}
use Rattle.bson_to_json.specs.declared.style.Layout.{Layout}
use Rattle.bson_to_json.specs.declared.style.Layout.TheVariants.{OneLine, Indented}
use Rattle.bson_to_json.specs.declared.style.Style.{Style}

-- the opening bracket of a document or of an array
abbrev pub opening : Sort → ℕ
opening as_document = 123
opening as_array = 91

-- the closing bracket
abbrev pub closing : Sort → ℕ
closing as_document = 125
closing as_array = 93

-- a new line, with two spaces for each level around it
abbrev pub line : Layout → ℕ → List ℕ
line OneLine depth = []
line Indented depth = 10 ∷ replicate (2 * depth) 32

-- a comma before every member but the first
abbrev pub comma : Bool → List ℕ
comma true = []
comma false = 44 ∷ []

-- a colon, followed by a space if there are lines
abbrev pub colon : Layout → List ℕ
colon OneLine = codes ":"
colon Indented = codes ": "

-- the key of a document's member; an array's keys are not printed
abbrev pub member_key : Layout → Sort → List ℕ → List ℕ
member_key layout as_document key = quoted key ++ colon layout
member_key layout as_array key = []

-- what is before a member's value: a comma, a line of its own, its key
abbrev pub head_text : Layout → ℕ → Sort → Bool → List ℕ → List ℕ
head_text layout depth sort first key = comma first ++ (line layout depth ++ member_key layout sort key)

-- what comes after the last member: the bracket, on a line of its own unless there is no member
abbrev pub end_text : Layout → ℕ → Sort → Bool → List ℕ
end_text layout depth sort true = closing sort ∷ []
end_text layout depth sort false = line layout depth ++ (closing sort ∷ [])

-- what is before the scope of a code
abbrev pub before_scope : List ℕ → List ℕ
before_scope code = codes "{\"$code\":" ++ (quoted code ++ codes ",\"$scope\":")

-- `depth` levels are around the document or the array; `Nested` says which text nested bytes have
module _ (style : Style) (depth : ℕ) (Nested : Sort → List ℕ → List ℕ → Type 0) where
  -- the value has this text
  abbrev pub IsValueJson : RawValue → List ℕ → Type 0
  IsValueJson (raw.single l) text = IsLeafJson style.format l text
  IsValueJson (raw.document d) text = Nested as_document d text
  IsValueJson (raw.array d) text = Nested as_array d text
  IsValueJson (raw.scoped code d) text = (scope : List ℕ) × Nested as_document d scope × (text ≡ before_scope code ++ (scope ++ codes "}"))

  -- these frames have this text one after another, followed by the closing bracket; `first` says whether they are all
  abbrev pub AreMembersJson : Sort → Bool → List Frame → List ℕ → Type 0
  AreMembersJson sort first [] text = text ≡ end_text style.layout depth sort first
  AreMembersJson sort first (f ∷ fs) text =
      (v : RawValue) × (shown others : List ℕ) × Means f (value v) × IsValueJson v shown × AreMembersJson sort false fs others
      × (text ≡ head_text style.layout (suc depth) sort first f.key ++ (shown ++ others))

-- The bytes b, which are inside `depth` levels and have at most n levels, have this text: that of the frames of their walk in order,
-- whatever their keys are. The walk ends at the final 0.
abbrev pub IsJsonUpTo : Style → ℕ → ℕ → Sort → List ℕ → List ℕ → Type 0
IsJsonUpTo style zero depth sort b text = ⊥
IsJsonUpTo style (suc n) depth sort b text =
    (frames : List Frame) × (members : List ℕ) × IsWalk (drop 4 b) frames Done
    × AreMembersJson style depth (IsJsonUpTo style n (suc depth)) sort true frames members × (text ≡ opening sort ∷ members)

-- the document b has this text
abbrev pub IsJson : Style → List ℕ → List ℕ → Type 0
IsJson style b text = (levels : ℕ) × IsJsonUpTo style levels 0 as_document b text
