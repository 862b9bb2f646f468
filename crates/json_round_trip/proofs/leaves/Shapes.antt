-- What JSON values of the wrappers' shapes are printed as, and what they hold.
use Rattle.std.proofs.Common.{◌≡◌, inl, inr, true, List, [], ◌∷◌, ◌++◌, ℕ, get_or, codes, Result, Ok, refl, sym, ap, ◌∙◌, append_assoc}
use Rattle.json.specs.Json.{Json, object, string, number, member}
use Rattle.json.specs.Print.{escape_byte, print, print_from, quoted}
use Rattle.json.specs.Tree.{json_tokens}
use Rattle.bson_from_json.specs.Wrapped.{AreTwo, one_member}
use Rattle.json_round_trip.proofs.leaves.Plain.{are_plain, escape_plain}

pub same_ok : {X E : Type 0} {x y : X} (r : Result X E) → r ≡ Ok x → r ≡ Ok y → x ≡ y
same_ok r e f = cc

pub same_string : {s t : List ℕ} → string s ≡ string t → s ≡ t
same_string e = cc

pub same_number : {s t : List ℕ} → number s ≡ number t → s ≡ t
same_number e = cc

-- an object of two members has these two values alone
pub two_only : (k k' : List ℕ) (i : ℕ) {a a' b b' : Json} → (get_or k i 0 ≡ get_or k' i 0 → ⊥) → AreTwo k b k' b' (member k a (one_member k' a')) → (b ≡ a) × (b' ≡ a')
two_only k k' i unlike (inl e) = (cc, cc)
two_only k k' i unlike (inr e) = let same : k ≡ k' = cc in absurd (unlike (ap (λ (l : List ℕ). get_or l i 0) same))

-- a text in quotes
pub in_quotes : (t rest : List ℕ) → are_plain t ≡ true → 34 ∷ (t ++ 34 ∷ rest) ≡ quoted t ++ rest
in_quotes t rest h = ap (λ (l : List ℕ). 34 ∷ l) (sym (append_assoc t (34 ∷ []) rest)) ∙ ap (λ (l : List ℕ). 34 ∷ ((l ++ 34 ∷ []) ++ rest)) (sym (escape_plain t h))

-- texts under one key

pub prints_oid : (t : List ℕ) → are_plain t ≡ true → codes "{\"$oid\":\"" ++ (t ++ codes "\"}") ≡ print (json_tokens (object (one_member (codes "$oid") (string t))))
unfolding print_from escape_byte
prints_oid t h = ap (λ (l : List ℕ). codes "{\"$oid\":" ++ l) (in_quotes t (125 ∷ []) h)

pub prints_double : (t : List ℕ) → are_plain t ≡ true
    → codes "{\"$numberDouble\":\"" ++ (t ++ codes "\"}") ≡ print (json_tokens (object (one_member (codes "$numberDouble") (string t))))
unfolding print_from escape_byte
prints_double t h = ap (λ (l : List ℕ). codes "{\"$numberDouble\":" ++ l) (in_quotes t (125 ∷ []) h)

pub prints_decimal : (t : List ℕ) → are_plain t ≡ true
    → codes "{\"$numberDecimal\":\"" ++ (t ++ codes "\"}") ≡ print (json_tokens (object (one_member (codes "$numberDecimal") (string t))))
unfolding print_from escape_byte
prints_decimal t h = ap (λ (l : List ℕ). codes "{\"$numberDecimal\":" ++ l) (in_quotes t (125 ∷ []) h)

pub prints_int32 : (t : List ℕ) → are_plain t ≡ true → codes "{\"$numberInt\":\"" ++ (t ++ codes "\"}") ≡ print (json_tokens (object (one_member (codes "$numberInt") (string t))))
unfolding print_from escape_byte
prints_int32 t h = ap (λ (l : List ℕ). codes "{\"$numberInt\":" ++ l) (in_quotes t (125 ∷ []) h)

pub prints_int64 : (t : List ℕ) → are_plain t ≡ true → codes "{\"$numberLong\":\"" ++ (t ++ codes "\"}") ≡ print (json_tokens (object (one_member (codes "$numberLong") (string t))))
unfolding print_from escape_byte
prints_int64 t h = ap (λ (l : List ℕ). codes "{\"$numberLong\":" ++ l) (in_quotes t (125 ∷ []) h)

pub prints_code : (s : List ℕ) → codes "{\"$code\":" ++ (quoted s ++ codes "}") ≡ print (json_tokens (object (one_member (codes "$code") (string s))))
unfolding print_from escape_byte
prints_code s = refl

pub prints_symbol : (s : List ℕ) → codes "{\"$symbol\":" ++ (quoted s ++ codes "}") ≡ print (json_tokens (object (one_member (codes "$symbol") (string s))))
unfolding print_from escape_byte
prints_symbol s = refl

-- objects under one key

pub prints_date : (t : List ℕ) → are_plain t ≡ true
    → codes "{\"$date\":{\"$numberLong\":\"" ++ (t ++ codes "\"}}") ≡ print (json_tokens (object (one_member (codes "$date") (object (one_member (codes "$numberLong") (string t))))))
unfolding print_from escape_byte
prints_date t h = ap (λ (l : List ℕ). codes "{\"$date\":{\"$numberLong\":" ++ l) (in_quotes t (125 ∷ 125 ∷ []) h)

pub prints_binary : (t d : List ℕ) → are_plain t ≡ true → are_plain d ≡ true
    → codes "{\"$binary\":{\"base64\":\"" ++ (t ++ (codes "\",\"subType\":\"" ++ (d ++ codes "\"}}")))
    ≡ print (json_tokens (object (one_member (codes "$binary") (object (member (codes "base64") (string t) (one_member (codes "subType") (string d)))))))
unfolding print_from escape_byte
prints_binary t d h k =
    ap (λ (l : List ℕ). codes "{\"$binary\":{\"base64\":\"" ++ (t ++ (codes "\",\"subType\":" ++ l))) (in_quotes d (125 ∷ 125 ∷ []) k)
    ∙ ap (λ (l : List ℕ). codes "{\"$binary\":{\"base64\":" ++ l) (in_quotes t (codes ",\"subType\":" ++ (quoted d ++ 125 ∷ 125 ∷ [])) h)

pub prints_regex : (pattern options : List ℕ)
    → codes "{\"$regularExpression\":{\"pattern\":" ++ (quoted pattern ++ (codes ",\"options\":" ++ (quoted options ++ codes "}}")))
    ≡ print (json_tokens (object (one_member (codes "$regularExpression") (object (member (codes "pattern") (string pattern) (one_member (codes "options") (string options)))))))
unfolding print_from escape_byte
prints_regex pattern options = refl

pub prints_timestamp : (t i : List ℕ)
    → codes "{\"$timestamp\":{\"t\":" ++ (t ++ (codes ",\"i\":" ++ (i ++ codes "}}")))
    ≡ print (json_tokens (object (one_member (codes "$timestamp") (object (member (codes "t") (number t) (one_member (codes "i") (number i)))))))
unfolding print_from escape_byte
prints_timestamp t i = refl

pub prints_pointer : (namespace t : List ℕ) → are_plain t ≡ true
    → codes "{\"$dbPointer\":{\"$ref\":" ++ (quoted namespace ++ (codes ",\"$id\":" ++ (codes "{\"$oid\":\"" ++ (t ++ codes "\"}}}"))))
    ≡ print (json_tokens (object (one_member (codes "$dbPointer") (object (member (codes "$ref") (string namespace) (one_member (codes "$id") (object (one_member (codes "$oid") (string t)))))))))
unfolding print_from escape_byte
prints_pointer namespace t h = ap (λ (l : List ℕ). codes "{\"$dbPointer\":{\"$ref\":" ++ (quoted namespace ++ (codes ",\"$id\":{\"$oid\":" ++ l))) (in_quotes t (125 ∷ 125 ∷ 125 ∷ []) h)
