-- The keys of wrappers, and what those write that hold no others.
use Rattle.std.proofs.Common.{◌≡◌, ℕ, Bool, true, List, codes, cond, refl, sym, ap, subst, ◌∙◌, inl, inr}
use Rattle.std.specs.Str.{bytes_eq}
use Rattle.json.specs.Json.{Json}
use Rattle.json.specs.Json as json
use Rattle.json.specs.Token.{Token}
use Rattle.bson_model.specs.Leaf.{Leaf, javascript_code, max_key, min_key, symbol, undefined}
use Rattle.values_from_json.specs.DecimalTexts.{IsQuotedDecimal}
use Rattle.values_from_json.specs.Keys.{wrapper_key}
use Rattle.values_from_json.specs.Meaning.{is_wrapper_key}
use Rattle.values_from_json.specs.Numbers.{IsQuotedDouble, IsQuotedInt32, IsQuotedInt64}
use Rattle.values_from_json.specs.Taken.{LacksLeaf, TakesNone}
use Rattle.values_from_json.specs.Wrapped.{InString, IsBinary, IsDate, IsDbPointer, IsOid, IsRegex, IsTimestamp, IsUuid, IsWrapped}
use Rattle.values_from_json.specs.declared.wrapper.Wrapper.{Wrapper}
use Rattle.values_from_json.specs.declared.wrapper.Wrapper.TheVariants as wrapper

-- they are keys of wrappers
pub wrapped_key : (k : List ℕ) (j : Json) (l : Leaf) → IsWrapped k j l → is_wrapper_key k ≡ true
wrapped_key k j l (inl (e, is)) = ap is_wrapper_key e
wrapped_key k j l (inr (inl (e, is))) = ap is_wrapper_key e
wrapped_key k j l (inr (inr (inl (e, is)))) = ap is_wrapper_key e
wrapped_key k j l (inr (inr (inr (inl (e, is))))) = ap is_wrapper_key e
wrapped_key k j l (inr (inr (inr (inr (inl (e, is)))))) = ap is_wrapper_key e
wrapped_key k j l (inr (inr (inr (inr (inr (inl (e, is))))))) = ap is_wrapper_key e
wrapped_key k j l (inr (inr (inr (inr (inr (inr (inl (e, is)))))))) = ap is_wrapper_key e
wrapped_key k j l (inr (inr (inr (inr (inr (inr (inr (inl (e, is))))))))) = ap is_wrapper_key e
wrapped_key k j l (inr (inr (inr (inr (inr (inr (inr (inr (inl (e, is)))))))))) = ap is_wrapper_key e
wrapped_key k j l (inr (inr (inr (inr (inr (inr (inr (inr (inr (inl (e, is))))))))))) = ap is_wrapper_key e
wrapped_key k j l (inr (inr (inr (inr (inr (inr (inr (inr (inr (inr (inl (e, is)))))))))))) = ap is_wrapper_key e
wrapped_key k j l (inr (inr (inr (inr (inr (inr (inr (inr (inr (inr (inr (inl (e, is))))))))))))) = ap is_wrapper_key e
wrapped_key k j l (inr (inr (inr (inr (inr (inr (inr (inr (inr (inr (inr (inr (inl (e, is)))))))))))))) = ap is_wrapper_key e
wrapped_key k j l (inr (inr (inr (inr (inr (inr (inr (inr (inr (inr (inr (inr (inr (inl (b, e, is))))))))))))))) = ap is_wrapper_key e.0
wrapped_key k j l (inr (inr (inr (inr (inr (inr (inr (inr (inr (inr (inr (inr (inr (inr (inl (e, is)))))))))))))))) = ap is_wrapper_key e.0
wrapped_key k j l (inr (inr (inr (inr (inr (inr (inr (inr (inr (inr (inr (inr (inr (inr (inr (e, is)))))))))))))))) = ap is_wrapper_key e.0

pub is_of_wrapper : (w : Wrapper) → is_wrapper_key (wrapper_key w) ≡ true
is_of_wrapper wrapper.Oid = refl
is_of_wrapper wrapper.NumberInt = refl
is_of_wrapper wrapper.NumberLong = refl
is_of_wrapper wrapper.NumberDouble = refl
is_of_wrapper wrapper.NumberDecimal = refl
is_of_wrapper wrapper.Binary = refl
is_of_wrapper wrapper.Uuid = refl
is_of_wrapper wrapper.Date = refl
is_of_wrapper wrapper.RegularExpression = refl
is_of_wrapper wrapper.Timestamp = refl
is_of_wrapper wrapper.Code = refl
is_of_wrapper wrapper.Scope = refl
is_of_wrapper wrapper.DbPointer = refl
is_of_wrapper wrapper.Symbol = refl
is_of_wrapper wrapper.Undefined = refl
is_of_wrapper wrapper.MinKey = refl
is_of_wrapper wrapper.MaxKey = refl

-- the wrapper of a key
abbrev of_key : List ℕ → Wrapper
of_key k =
    cond (bytes_eq k (codes "$oid")) wrapper.Oid (cond (bytes_eq k (codes "$numberInt")) wrapper.NumberInt (cond (bytes_eq k (codes "$numberLong")) wrapper.NumberLong
    (cond (bytes_eq k (codes "$numberDouble")) wrapper.NumberDouble (cond (bytes_eq k (codes "$numberDecimal")) wrapper.NumberDecimal (cond (bytes_eq k (codes "$binary")) wrapper.Binary
    (cond (bytes_eq k (codes "$uuid")) wrapper.Uuid (cond (bytes_eq k (codes "$date")) wrapper.Date (cond (bytes_eq k (codes "$regularExpression")) wrapper.RegularExpression
    (cond (bytes_eq k (codes "$timestamp")) wrapper.Timestamp (cond (bytes_eq k (codes "$code")) wrapper.Code (cond (bytes_eq k (codes "$scope")) wrapper.Scope
    (cond (bytes_eq k (codes "$dbPointer")) wrapper.DbPointer (cond (bytes_eq k (codes "$symbol")) wrapper.Symbol (cond (bytes_eq k (codes "$undefined")) wrapper.Undefined
    (cond (bytes_eq k (codes "$minKey")) wrapper.MinKey wrapper.MaxKey)))))))))))))))

of_wrapper_key : (w : Wrapper) → of_key (wrapper_key w) ≡ w
of_wrapper_key wrapper.Oid = refl
of_wrapper_key wrapper.NumberInt = refl
of_wrapper_key wrapper.NumberLong = refl
of_wrapper_key wrapper.NumberDouble = refl
of_wrapper_key wrapper.NumberDecimal = refl
of_wrapper_key wrapper.Binary = refl
of_wrapper_key wrapper.Uuid = refl
of_wrapper_key wrapper.Date = refl
of_wrapper_key wrapper.RegularExpression = refl
of_wrapper_key wrapper.Timestamp = refl
of_wrapper_key wrapper.Code = refl
of_wrapper_key wrapper.Scope = refl
of_wrapper_key wrapper.DbPointer = refl
of_wrapper_key wrapper.Symbol = refl
of_wrapper_key wrapper.Undefined = refl
of_wrapper_key wrapper.MinKey = refl
of_wrapper_key wrapper.MaxKey = refl

pub named : (w v : Wrapper) → wrapper_key w ≡ wrapper_key v → v ≡ w
named w v e = sym (of_wrapper_key v) ∙ ap of_key (sym e) ∙ of_wrapper_key w

-- what a wrapper that holds no others writes
abbrev pub Writes : Wrapper → Json → Leaf → Type 0
Writes wrapper.Oid j l = IsOid j l
Writes wrapper.NumberInt j l = InString IsQuotedInt32 j l
Writes wrapper.NumberLong j l = InString IsQuotedInt64 j l
Writes wrapper.NumberDouble j l = InString IsQuotedDouble j l
Writes wrapper.NumberDecimal j l = InString IsQuotedDecimal j l
Writes wrapper.Binary j l = IsBinary j l
Writes wrapper.Uuid j l = IsUuid j l
Writes wrapper.Date j l = IsDate j l
Writes wrapper.RegularExpression j l = IsRegex j l
Writes wrapper.Timestamp j l = IsTimestamp j l
Writes wrapper.Code j l = InString (λ s l. l ≡ javascript_code s) j l
Writes wrapper.Scope j l = ⊥
Writes wrapper.DbPointer j l = IsDbPointer j l
Writes wrapper.Symbol j l = InString (λ s l. l ≡ symbol s) j l
Writes wrapper.Undefined j l = (b : Bool) × (j ≡ json.boolean b) × (l ≡ undefined)
Writes wrapper.MinKey j l = (j ≡ json.number (codes "1")) × (l ≡ min_key)
Writes wrapper.MaxKey j l = (j ≡ json.number (codes "1")) × (l ≡ max_key)

module _ (w : Wrapper) (j : Json) (l : Leaf) where
  as_named : (v : Wrapper) → wrapper_key w ≡ wrapper_key v → Writes v j l → Writes w j l
  as_named v e is = subst (λ (x : Wrapper). Writes x j l) (named w v e) is

  pub writes : IsWrapped (wrapper_key w) j l → Writes w j l
  writes (inl (e, is)) = as_named wrapper.Oid e is
  writes (inr (inl (e, is))) = as_named wrapper.NumberInt e is
  writes (inr (inr (inl (e, is)))) = as_named wrapper.NumberLong e is
  writes (inr (inr (inr (inl (e, is))))) = as_named wrapper.NumberDouble e is
  writes (inr (inr (inr (inr (inl (e, is)))))) = as_named wrapper.NumberDecimal e is
  writes (inr (inr (inr (inr (inr (inl (e, is))))))) = as_named wrapper.Binary e is
  writes (inr (inr (inr (inr (inr (inr (inl (e, is)))))))) = as_named wrapper.Uuid e is
  writes (inr (inr (inr (inr (inr (inr (inr (inl (e, is))))))))) = as_named wrapper.Date e is
  writes (inr (inr (inr (inr (inr (inr (inr (inr (inl (e, is)))))))))) = as_named wrapper.RegularExpression e is
  writes (inr (inr (inr (inr (inr (inr (inr (inr (inr (inl (e, is))))))))))) = as_named wrapper.Timestamp e is
  writes (inr (inr (inr (inr (inr (inr (inr (inr (inr (inr (inl (e, is)))))))))))) = as_named wrapper.DbPointer e is
  writes (inr (inr (inr (inr (inr (inr (inr (inr (inr (inr (inr (inl (e, is))))))))))))) = as_named wrapper.Code e is
  writes (inr (inr (inr (inr (inr (inr (inr (inr (inr (inr (inr (inr (inl (e, is)))))))))))))) = as_named wrapper.Symbol e is
  writes (inr (inr (inr (inr (inr (inr (inr (inr (inr (inr (inr (inr (inr (inl (b, e, is))))))))))))))) = as_named wrapper.Undefined e.0 (b, e.1, is)
  writes (inr (inr (inr (inr (inr (inr (inr (inr (inr (inr (inr (inr (inr (inr (inl (e, is)))))))))))))))) = as_named wrapper.MinKey e.0 (e.1, is)
  writes (inr (inr (inr (inr (inr (inr (inr (inr (inr (inr (inr (inr (inr (inr (inr (e, is)))))))))))))))) = as_named wrapper.MaxKey e.0 (e.1, is)

-- .. and back
pub wrapped : (w : Wrapper) (j : Json) (l : Leaf) → Writes w j l → IsWrapped (wrapper_key w) j l
wrapped wrapper.Oid j l h = inl (refl, h)
wrapped wrapper.NumberInt j l h = inr (inl (refl, h))
wrapped wrapper.NumberLong j l h = inr (inr (inl (refl, h)))
wrapped wrapper.NumberDouble j l h = inr (inr (inr (inl (refl, h))))
wrapped wrapper.NumberDecimal j l h = inr (inr (inr (inr (inl (refl, h)))))
wrapped wrapper.Binary j l h = inr (inr (inr (inr (inr (inl (refl, h))))))
wrapped wrapper.Uuid j l h = inr (inr (inr (inr (inr (inr (inl (refl, h)))))))
wrapped wrapper.Date j l h = inr (inr (inr (inr (inr (inr (inr (inl (refl, h))))))))
wrapped wrapper.RegularExpression j l h = inr (inr (inr (inr (inr (inr (inr (inr (inl (refl, h)))))))))
wrapped wrapper.Timestamp j l h = inr (inr (inr (inr (inr (inr (inr (inr (inr (inl (refl, h))))))))))
wrapped wrapper.DbPointer j l h = inr (inr (inr (inr (inr (inr (inr (inr (inr (inr (inl (refl, h)))))))))))
wrapped wrapper.Code j l h = inr (inr (inr (inr (inr (inr (inr (inr (inr (inr (inr (inl (refl, h))))))))))))
wrapped wrapper.Scope j l h = absurd h
wrapped wrapper.Symbol j l h = inr (inr (inr (inr (inr (inr (inr (inr (inr (inr (inr (inr (inl (refl, h)))))))))))))
wrapped wrapper.Undefined j l h = inr (inr (inr (inr (inr (inr (inr (inr (inr (inr (inr (inr (inr (inl (h.0, (refl, h.1), h.2))))))))))))))
wrapped wrapper.MinKey j l h = inr (inr (inr (inr (inr (inr (inr (inr (inr (inr (inr (inr (inr (inr (inl ((refl, h.0), h.1)))))))))))))))
wrapped wrapper.MaxKey j l h = inr (inr (inr (inr (inr (inr (inr (inr (inr (inr (inr (inr (inr (inr (inr ((refl, h.0), h.1)))))))))))))))

pub none_wrapped : (w : Wrapper) (ts : List Token) → TakesNone (Writes w) ts → LacksLeaf (wrapper_key w) ts
none_wrapped w ts none = record { none = λ j l is. none j l (writes w j l is) }
