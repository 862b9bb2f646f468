-- How what is told is printed: in words, as an object of JSON, or not at all.
use Rattle.std.specs.Prelude.{◌≡◌, ℕ, List, [], ◌∷◌, ◌++◌, ◌-◌, Option, None, Some, codes, decimal, cond, drop, flat_map, length, map, nat_lt, suc, take, zero}
use Rattle.json.specs.Print.{print}
use Rattle.json.specs.Token.{Token, begin_object, end_object, begin_array, end_array, key, string, number, null}
use Rattle.json.specs.Written.{Written}
use Rattle.raw_tree.specs.Places.{Step}
use Rattle.dump_io.specs.lines.Find.{Account, Explanation, Spot, explanation_text}
use Rattle.dump_io.specs.lines.Origins.{Origin, Repeat}
use Rattle.dump_io.specs.lines.Quoting.{quoted}
use Rattle.dump_io.specs.declared.lines.style.Style.{Style}
use Rattle.dump_io.specs.declared.lines.style.Style.TheVariants as style

-- a line in words: the name of the input, the offset in it, and a text
abbrev pub line : List ℕ → ℕ → List ℕ → List ℕ
line name offset text = quoted name ++ codes ":" ++ decimal offset ++ codes ": " ++ text ++ codes "\n"

-- a key after a colon, in quotes, where there is one
abbrev pub key_suffix : Option (List ℕ) → List ℕ
key_suffix None = []
key_suffix (Some text) = codes ":" ++ quoted text

-- a step of a path: the number of an element, and its key
abbrev pub step_text : Step → List ℕ
step_text step = codes "/" ++ decimal step.number ++ key_suffix step.key

-- the steps of a path; of more than 20 the first ten and the last ten, with two points between
abbrev pub path_text : List Step → List ℕ
path_text path =
    cond (nat_lt 20 (length path)) (flat_map step_text (take 10 path) ++ codes "/.." ++ flat_map step_text (drop (length path - 10) path)) (flat_map step_text path)

-- a place: the path from the outermost level on, and the offset in the document
abbrev pub spot_text : Option Spot → List ℕ
spot_text None = []
spot_text (Some spot) = codes " at " ++ path_text spot.path ++ codes ", byte " ++ decimal spot.offset

-- a reason after a colon, where there is one
abbrev pub reason_part : Option Explanation → List ℕ
reason_part None = []
reason_part (Some why) = codes ": " ++ explanation_text why

-- what is told of a document, in words
abbrev pub words_of : Account → List ℕ
words_of told = told.word ++ spot_text told.spot ++ reason_part told.reason

-- a line that is an object of JSON, with these members
abbrev pub object_line : List Token → List ℕ
object_line members = print (begin_object ∷ members ++ end_object ∷ []) ++ codes "\n"

-- the name of the input, and the offset in it
abbrev pub head_members : List ℕ → ℕ → List Token
head_members name offset = key (codes "file") ∷ string name ∷ key (codes "offset") ∷ number (decimal offset) ∷ []

-- the number of an element
abbrev pub number_token : Step → Token
number_token step = number (decimal step.number)

-- a text, or null where there is none
abbrev pub text_or_null : Option (List ℕ) → Token
text_or_null None = null
text_or_null (Some text) = string text

-- the key of an element; null where there is none
abbrev pub key_token : Step → Token
key_token step = text_or_null step.key

-- the numbers of a path, from the outermost level on
abbrev pub numbers_members : List Step → List Token
numbers_members path = key (codes "path") ∷ begin_array ∷ map number_token path ++ end_array ∷ []

-- the keys of a path, from the outermost level on
abbrev pub keys_members : List Step → List Token
keys_members path = key (codes "keys") ∷ begin_array ∷ map key_token path ++ end_array ∷ []

-- a place: the numbers of a path and its keys, and the offset in the document
abbrev pub spot_members : Option Spot → List Token
spot_members None = []
spot_members (Some spot) = numbers_members spot.path ++ keys_members spot.path ++ key (codes "byte") ∷ number (decimal spot.offset) ∷ []

-- a number of a reason, where it has one
abbrev pub number_member : List ℕ → Option ℕ → List Token
number_member name None = []
number_member name (Some n) = key name ∷ number (decimal n) ∷ []

-- the reason of damage in words, and its numbers
abbrev pub reason_members : Option Explanation → List Token
reason_members None = []
reason_members (Some why) = key (codes "reason") ∷ string why.words ∷ number_member (codes "number") why.number ++ number_member (codes "left") why.left

-- what is told of a document, as members of an object
abbrev pub members_of : Account → List Token
members_of told = key (codes "finding") ∷ string told.word ∷ spot_members told.spot ++ reason_members told.reason

-- the line that tells this of the document at an offset; none if quiet
abbrev pub report_line : Style → List ℕ → ℕ → Account → List ℕ
report_line style.Words name offset told = line name offset (words_of told)
report_line style.Json name offset told = object_line (head_members name offset ++ members_of told)
report_line style.Quiet name offset told = []

-- the first document of a form, in words
abbrev pub first_text : Origin → List ℕ
first_text first = codes "repeats " ++ quoted first.name ++ codes ":" ++ decimal first.offset

-- the same as members of an object
abbrev pub first_members : Origin → List Token
first_members first = key (codes "finding") ∷ string (codes "repeat") ∷ key (codes "first file") ∷ string first.name ∷ key (codes "first offset") ∷ number (decimal first.offset) ∷ []

-- the line of a document whose form came before; none if quiet
abbrev pub repeat_line : Style → Repeat → List ℕ
repeat_line style.Words r = line r.place.name r.place.offset (first_text r.first)
repeat_line style.Json r = object_line (head_members r.place.name r.place.offset ++ first_members r.first)
repeat_line style.Quiet r = []

-- how a finding is reported if this number of findings may still be: not at all if none may
abbrev pub with_left : Style → ℕ → Style
with_left shown zero = style.Quiet
with_left shown (suc n) = shown

-- how many bytes a piece has, and after that what is told of it
abbrev pub head_text : List ℕ → Option Account → List ℕ
head_text b None = decimal (length b) ++ codes " bytes"
head_text b (Some told) = decimal (length b) ++ codes " bytes" ++ codes ": " ++ words_of told

-- the members of an object that tells what goes wrong with a file
abbrev pub error_members : List ℕ → Option ℕ → List ℕ → List Token
error_members name at text = key (codes "file") ∷ string name ∷ number_member (codes "offset") at ++ key (codes "error") ∷ string text ∷ []

-- What the code tells of an object that is written. No public contract cites it.

-- tokens are put after those that are there
abbrev pub Grows : Written → Written → List Token → Type 0
Grows old new more = (new.before ≡ old.before) × (new.tokens ≡ old.tokens ++ more)
