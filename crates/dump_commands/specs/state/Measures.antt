-- What is gathered of the lengths of documents, and how that is printed.
use Rattle.std.specs.Prelude.{◌≡◌, ◌⊎◌, ◌<◌, ◌≤◌, ◌+◌, ◌*◌, ◌^◌, ◌/◌, ℕ, List, [], ◌∷◌, ◌++◌, Bool, false, None, codes, cond, decimal, get_or, length, map, max, nat_eq, nat_lt, replicate, set, take}
use Rattle.std.specs.List.{insert, position_or_len}
use Rattle.dump_io.specs.lines.Origins.{Origin, origin_of}
use Rattle.dump_io.specs.lines.Told.{line}
use Rattle.dump_io.specs.declared.lines.style.Style.{Style}
use Rattle.dump_commands.specs.Summary.{counts_line}
use Rattle.dump_commands.specs.declared.state.measures.Measures as code
use Rattle.dump_commands.specs.declared.state.measures.Ranked as code_ranked
use Rattle.dump_commands.specs.declared.state.measures.Share as code_share

-- a document: where it begins, how many bytes it has, and what shows its _id
pub record Ranked : Type 0 where
  pub place : Origin
  pub size : ℕ
  pub id : List ℕ

-- documents one after the other: where the first begins, and how many there are
pub record Share : Type 0 where
  pub place : Origin
  pub count : ℕ

-- how many documents have a length in each range, the longest documents, and the shares of stretches
pub record Measured : Type 0 where
  pub ranges : List ℕ
  pub largest : List Ranked
  pub shares : List Share

-- nothing is gathered
abbrev pub no_measures : Measured
no_measures = record { ranges = replicate 32 0; largest = []; shares = [] }

-- A length is in the range with this number: it is 2 to the power of that or more, and below the next such power. The first range has all below it,
-- the last all above it.
abbrev pub IsInRange : (len number : ℕ) → Type 0
IsInRange len number = (number < 32) × ((number ≡ 0) ⊎ (2 ^ number ≤ len)) × ((number ≡ 31) ⊎ (len < 2 ^ (number + 1)))

-- a document more whose length is in this range
abbrev pub with_length : ℕ → Measured → Measured
with_length number m = record m { ranges = set m.ranges number (get_or m.ranges number 0 + 1) }

-- a document more, before the first that is shorter
abbrev pub ranked_among : Ranked → List Ranked → List Ranked
ranked_among r rs = insert rs (position_or_len (λ (s : Ranked). nat_lt s.size r.size) rs) r

-- a document more of those of which the longest are kept, at most this number
abbrev pub with_ranked : (most : ℕ) → Ranked → Measured → Measured
with_ranked most r m = record m { largest = take most (ranked_among r m.largest) }

-- whether a document that begins there is in a share: after its first one, in the same stretch of this number of bytes
abbrev pub is_in_share : (stretch : ℕ) → Share → Origin → Bool
is_in_share stretch share place =
    cond (nat_lt share.place.offset place.offset) (nat_eq (share.place.offset / max stretch 1) (place.offset / max stretch 1)) false

-- a document more of the last share, or of the next one
abbrev pub with_one : (stretch : ℕ) → Origin → List Share → List Share
with_one stretch place [] = record { place = place; count = 1 } ∷ []
with_one stretch place (share ∷ []) =
    cond (is_in_share stretch share place) (record share { count = share.count + 1 } ∷ []) (share ∷ record { place = place; count = 1 } ∷ [])
with_one stretch place (share ∷ next ∷ shares) = share ∷ with_one stretch place (next ∷ shares)

abbrev pub with_share : (stretch : ℕ) → Origin → Measured → Measured
with_share stretch place m = record m { shares = with_one stretch place m.shares }

-- the line of a range, if there are documents in it
abbrev pub range_line : Style → (least documents : ℕ) → List ℕ
range_line style least documents =
    cond (nat_eq documents 0) [] (counts_line style None documents ((codes "bytes from", least) ∷ (codes "below", least * 2) ∷ []))

-- the lines of the ranges, the first of which begins with this length
unfoldable pub range_lines : Style → (least : ℕ) → List ℕ → List ℕ
range_lines style least [] = []
range_lines style least (n ∷ ns) = range_line style least n ++ range_lines style (least * 2) ns

-- how many bytes a document has, and what shows its _id, if anything does
abbrev pub ranked_words : Ranked → List ℕ
ranked_words r = decimal r.size ++ codes " bytes" ++ cond (nat_lt 0 (length r.id)) (codes ", _id: " ++ r.id) []

abbrev pub ranked_line : Ranked → List ℕ
ranked_line r = line r.place.name r.place.offset (ranked_words r)

-- the line of a share: the options that ask for its documents
abbrev pub share_line : Share → List ℕ
share_line share = codes "--at " ++ decimal share.place.offset ++ codes " --take " ++ decimal share.count ++ codes "\n"

-- what the code gathered
abbrev pub ranked_of : code_ranked.Ranked → Ranked
ranked_of r = record { place = origin_of r.place; size = r.size; id = r.id.items }

abbrev pub share_of : code_share.Share → Share
share_of share = record { place = origin_of share.place; count = share.count }

abbrev pub measures_of : code.Measures → Measured
measures_of m = record { ranges = m.ranges; largest = map ranked_of m.largest.items; shares = map share_of m.shares.items }
