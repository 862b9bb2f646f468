-- The steps of reading, between two moments of a reader.
use Rattle.std.proofs.Common.{◌≡◌, ◌⊎◌, inl, inr, ℕ, ℤ, FitsSigned, ◌+◌, false, List, [], ◌∷◌, ◌++◌, Result, Ok, Err, OnOk, codes, decimal, length, refl, sym, ap, ◌∙◌, subst, reverse, append-nil, append_assoc}
use Rattle.std.specs.Int.{w32, w64}
use Rattle.json.specs.Json.{Json, string, object}
use Rattle.json.specs.Lex.{tokens as text_tokens}
use Rattle.json.specs.Token.{Token}
use Rattle.json.specs.Tree.{json_tokens, members_tokens}
use Rattle.std.specs.Str.{IsUtf8}
use Rattle.bson_model.specs.Leaf.{Leaf, int32, int64, javascript_code}
use Rattle.bson_model.specs.Proper.{IsLeafNulFree, IsLeafSubtypeProper}
use Rattle.bson_model.specs.Tree.{leaf}
use Rattle.raw_view.specs.Frame.Format.{framed}
use Rattle.raw_view.specs.Meaning.{RawValue, single}
use Rattle.raw_tree.specs.Payload.{element_bytes, unset}
use Rattle.values_from_json.specs.Meaning.{Means, is_wrapper_key}
use Rattle.bson_from_json.specs.Levels.{before_scope, headed, level_at, array_level, with_len, with_string, HasMembers, IsClosed, IsKeyReadable, IsReadableDocument, MayBeIn, bracket, Rest, ValueIn, levels_of, bytes_of, RestOf, TakesLevel, ClosesBracket, TakesValue, Puts, TakesLeaf, SaysBytes}
use Rattle.values_from_json.specs.Keys.{wrapper_key}
use Rattle.bson_from_json.specs.declared.levels.Holder.{Holder}
use Rattle.bson_from_json.specs.declared.levels.Holder.TheVariants as holder
use Rattle.bson_from_json.specs.declared.levels.Level.{Level}
use Rattle.bson_from_json.specs.declared.reading.Reader.{Reader}
use Rattle.bson_from_json.specs.declared.unfinished.Unfinished.{Unfinished}
use Rattle.values_from_json.specs.declared.source.Source.{Source}
use Rattle.bson_from_json.specs.Texts.{IsWritten}
use Rattle.values_from_json.specs.Numbers.{IsPlain, WritesInteger}
use Rattle.values_from_json.specs.Taken.{Takes}
use Rattle.values_from_json.specs.declared.wrapper.Wrapper.{Wrapper}
use Rattle.values_from_json.proofs.Face.{Writes, wrapped}
use Rattle.bson_from_json.proofs.Steps.{innermost, closes as level_closes, takes_item, takes_member, takes_first, opens_text, opens_array, opens_begun, opens_scope, opens_before_code, puts_empty, puts_leaf, puts_wrapped}
use denote.Ref.{Bor}

-- a reader with these levels, bytes and tokens
pub record IsAt (r : Reader) (ls : List Level) (b : List ℕ) (ts : List Token) : Type 0 where
  pub levels : r.document.levels.items ≡ ls
  pub bytes : bytes_of r ≡ b
  pub tokens : r.source.tokens ≡ ts

pub rest_at : {r : Reader} {ls : List Level} {b : List ℕ} {ts : List Token} (out : List ℕ) → IsAt r ls b ts → RestOf out r → Rest out (reverse ls) b ts
rest_at {r} {ls} {b} {ts} out is rest =
    let one = subst (λ (x : List Level). Rest out (reverse x) (bytes_of r) r.source.tokens) is.levels rest in
    let two = subst (λ (x : List ℕ). Rest out (reverse ls) x r.source.tokens) is.bytes one in
    subst (λ (x : List Token). Rest out (reverse ls) b x) is.tokens two

-- .. one more level innermost
pub rest_within : {r : Reader} {b : List ℕ} {ts : List Token} (ls : List Level) (l : Level) (out : List ℕ) → IsAt r (ls ++ l ∷ []) b ts → RestOf out r → Rest out (l ∷ reverse ls) b ts
rest_within {r} {b} {ts} ls l out is rest = subst (λ (x : List Level). Rest out x b ts) (innermost ls l) (rest_at {r = r} out is rest)

pub value_at : {r : Reader} {b : List ℕ} {ts : List Token} (ls : List Level) (l : Level) (out k : List ℕ) (taken : List Token) → IsAt r (ls ++ l ∷ []) b ts
    → ValueIn (Rest out (levels_of r)) k (bytes_of r) (taken ++ r.source.tokens) → ValueIn (Rest out (l ∷ reverse ls)) k b (taken ++ ts)
value_at {r} {b} {ts} ls l out k taken is value =
    let one = subst (λ (x : List Level). ValueIn (Rest out (reverse x)) k (bytes_of r) (taken ++ r.source.tokens)) is.levels value in
    let two = subst (λ (x : List ℕ). ValueIn (Rest out (reverse (ls ++ l ∷ []))) k x (taken ++ r.source.tokens)) is.bytes one in
    let three = subst (λ (x : List Token). ValueIn (Rest out (reverse (ls ++ l ∷ []))) k b (taken ++ x)) is.tokens two in
    subst (λ (x : List Level). ValueIn (Rest out x) k b (taken ++ ts)) (innermost ls l) three

-- a level without a wrapper
plain_holder : (h : Holder) → ((start : ℕ) → h ≡ holder.Scope start → ⊥) → ((start : ℕ) → h ≡ holder.ScopeBeforeCode start → ⊥)
    → (start : ℕ) (b : List ℕ) → IsClosed h start b [] (with_len start b)
plain_holder holder.Text a c start b = (refl, refl)
plain_holder holder.Document a c start b = (refl, refl)
plain_holder (holder.Begun first) a c start b = (refl, refl)
plain_holder holder.Typed a c start b = (refl, refl)
plain_holder (holder.Array items) a c start b = (refl, refl)
plain_holder (holder.Scope outer) a c start b = absurd (a outer refl)
plain_holder (holder.ScopeBeforeCode outer) a c start b = absurd (c outer refl)

module _ (old new : Reader) where
  -- an item of an array, after its first token
  pub item_taken : {mid : Reader} {token : Token} {k : List ℕ} {ts : List Token} (n start : ℕ) → IsAt mid (old.document.levels.items ++ array_level (n + 1) start ∷ []) (bytes_of old) ts
      → old.source.tokens ≡ token ∷ ts → k ≡ decimal n → TakesValue mid new k (token ∷ []) → TakesLevel old new (array_level n start)
  item_taken {mid} {token} {k} {ts} n start is e key value = record {
    made = λ out rest.
        let at = subst (λ (x : List ℕ). ValueIn (Rest out (array_level (n + 1) start ∷ levels_of old)) x (bytes_of old) (token ∷ ts)) key (value_at _ _ out k (token ∷ []) is (value.made out rest)) in
        takes_item (Rest out (levels_of old)) n start (bytes_of old) old.source.tokens
        (subst (λ (x : List Token). ValueIn (Rest out (array_level (n + 1) start ∷ levels_of old)) (decimal n) (bytes_of old) x) (sym e) at);
  }

  -- a member, after its key
  pub member_taken : {mid : Reader} {k : List ℕ} {ts : List Token} (l : Level) → HasMembers l.holder → IsUtf8 k → MayBeIn l.holder k
      → IsAt mid (old.document.levels.items ++ l ∷ []) (bytes_of old) ts → old.source.tokens ≡ Token.key k ∷ ts → TakesValue mid new k [] → TakesLevel old new l
  member_taken {mid} {k} {ts} l has text may is e value = record {
    made = λ out rest.
        subst (λ (x : List Token). Rest out (l ∷ levels_of old) (bytes_of old) x) (sym e)
        (takes_member (Rest out (levels_of old)) l.holder l.start k (bytes_of old) ts has text may (value_at _ _ out k [] is (value.made out rest)));
  }

  -- the value of a key that was taken already
  pub first_taken : {mid : Reader} (first : Bor (List ℕ)) (start : ℕ) → IsAt mid (old.document.levels.items ++ level_at holder.Document start ∷ []) (bytes_of old) old.source.tokens
      → TakesValue mid new first.now [] → TakesLevel old new (level_at (holder.Begun first) start)
  first_taken {mid} first start is value = record {
    made = λ out rest.
        takes_first (Rest out (levels_of old)) first start (bytes_of old) old.source.tokens (value_at _ _ out first.now [] is (value.made out rest));
  }

  pub begun_taken : {mid : Reader} (l : Level) (first : Bor (List ℕ)) → l.holder ≡ holder.Begun first
      → IsAt mid (old.document.levels.items ++ level_at holder.Document l.start ∷ []) (bytes_of old) old.source.tokens → TakesValue mid new first.now [] → TakesLevel old new l
  begun_taken {mid} l first e is value = subst (λ (h : Holder). TakesLevel old new (level_at h l.start)) (sym e) (first_taken first l.start is value)

  -- the end of a level, after its bracket
  pub end_taken : {mid : Reader} (l : Level) → IsAt mid old.document.levels.items (bytes_of old) mid.source.tokens → old.source.tokens ≡ bracket l.holder ∷ mid.source.tokens
      → HasMembers l.holder ⊎ (bracket l.holder ≡ Token.end_array) → ClosesBracket mid new l → TakesLevel old new l
  end_taken {mid} l is e may closes = record {
    made = λ out rest.
        let at = closes.made may out rest in
        let one = subst (λ (x : List Level). Rest out (l ∷ reverse x) (bytes_of mid) (bracket l.holder ∷ mid.source.tokens)) is.levels at in
        let two = subst (λ (x : List ℕ). Rest out (l ∷ levels_of old) x (bracket l.holder ∷ mid.source.tokens)) is.bytes one in
        subst (λ (x : List Token). Rest out (l ∷ levels_of old) (bytes_of old) x) (sym e) two;
  }

  pub closed : {b : List ℕ} (l : Level) (after ts : List Token) → IsClosed l.holder l.start (bytes_of old ++ 0 ∷ []) after b → IsAt new old.document.levels.items b ts
      → old.source.tokens ≡ after ++ ts → ClosesBracket old new l
  closed {b} l after ts ended is e = record {
    made = λ may out rest.
        subst (λ (x : List Token). Rest out (l ∷ levels_of old) (bytes_of old) (bracket l.holder ∷ x)) (sym e)
        (level_closes (Rest out (levels_of old)) l.holder l.start (bytes_of old) ts after b may ended (rest_at {r = new} out is rest));
  }

  pub plain_closed : (l : Level) → ((start : ℕ) → l.holder ≡ holder.Scope start → ⊥) → ((start : ℕ) → l.holder ≡ holder.ScopeBeforeCode start → ⊥)
      → new.document.levels.items ≡ old.document.levels.items → bytes_of new ≡ with_len l.start (bytes_of old ++ 0 ∷ []) → new.source ≡ old.source → ClosesBracket old new l
  plain_closed l a c levels bytes same =
      closed l [] old.source.tokens (plain_holder l.holder a c l.start (bytes_of old ++ 0 ∷ []))
      (record { levels = levels; bytes = bytes; tokens = ap (λ (x : Source). x.tokens) same }) refl

  pub scope_closed : {b : List ℕ} (l : Level) (start : ℕ) → l.holder ≡ holder.Scope start → new.document.levels.items ≡ old.document.levels.items
      → b ≡ with_len l.start (bytes_of old ++ 0 ∷ []) → bytes_of new ≡ with_len start b → old.source.tokens ≡ Token.end_object ∷ new.source.tokens → ClosesBracket old new l
  scope_closed {b} l start is levels f bytes e =
      closed l (Token.end_object ∷ []) new.source.tokens
      (subst (λ (h : Holder). IsClosed h l.start (bytes_of old ++ 0 ∷ []) (Token.end_object ∷ []) (with_len start (with_len l.start (bytes_of old ++ 0 ∷ [])))) (sym is) (refl, refl))
      (record { levels = levels; bytes = bytes ∙ ap (λ (x : List ℕ). with_len start x) f; tokens = refl }) e

  pub code_closed : {b c code : List ℕ} (l : Level) (start : ℕ) → l.holder ≡ holder.ScopeBeforeCode start → new.document.levels.items ≡ old.document.levels.items
      → b ≡ with_len l.start (bytes_of old ++ 0 ∷ []) → IsUtf8 code → c ≡ with_string l.start code b → bytes_of new ≡ with_len start c
      → old.source.tokens ≡ Token.key (codes "$code") ∷ Token.string code ∷ Token.end_object ∷ new.source.tokens → ClosesBracket old new l
  code_closed {b} {c} {code} l start is levels f text g bytes e =
      let after = Token.key (codes "$code") ∷ Token.string code ∷ Token.end_object ∷ [] in
      let whole = with_len start (with_string l.start code (with_len l.start (bytes_of old ++ 0 ∷ []))) in
      closed l after new.source.tokens (subst (λ (h : Holder). IsClosed h l.start (bytes_of old ++ 0 ∷ []) after whole) (sym is) (code, text, refl, refl))
      (record {
        levels = levels;
        bytes = bytes ∙ ap (λ (x : List ℕ). with_len start x) g ∙ ap (λ (x : List ℕ). with_len start (with_string l.start code x)) f;
        tokens = refl;
      }) e

  -- values that hold no others

  pub value_as : {k : List ℕ} {taken others : List Token} → taken ≡ others → TakesValue old new k taken → TakesValue old new k others
  value_as {k} {taken} {others} e value = subst (λ (x : List Token). TakesValue old new k x) e value

  pub leaf_put : {l : Leaf} (k : List ℕ) (j : Json) → Means j (leaf l) → IsLeafNulFree l → IsLeafSubtypeProper l → new.source ≡ old.source → Puts old new k (single l)
      → TakesValue old new k (json_tokens j)
  leaf_put {l} k j means free proper same puts = record {
    made = λ out rest.
        puts_leaf (Rest out (levels_of old)) k (bytes_of old) j l old.source.tokens means (puts.in_range, free, proper)
        (rest_at {r = new} out (record { levels = puts.levels; bytes = puts.bytes; tokens = ap (λ (x : Source). x.tokens) same }) rest);
  }

  pub wrapped_put : {mid : Reader} {wrapper k : List ℕ} → TakesLeaf old mid wrapper k → mid.source.tokens ≡ Token.end_object ∷ new.source.tokens
      → new.document ≡ mid.document → TakesValue old new k (Token.begin_object ∷ Token.key wrapper ∷ [])
  wrapped_put {mid} {wrapper} {k} taken e same = record {
    made = λ out rest.
        puts_wrapped (Rest out (levels_of old)) {old = old.source.tokens} k (bytes_of old) wrapper taken.json taken.says mid.source.tokens new.source.tokens
        (taken.is, (taken.puts.in_range, taken.nul_free, taken.subtype)) taken.tokens e
        (rest_at {r = new} out (record {
          levels = ap (λ (d : Unfinished). d.levels.items) same ∙ taken.puts.levels;
          bytes = ap (λ (d : Unfinished). d.bytes.items) same ∙ taken.puts.bytes;
          tokens = refl;
        }) rest);
  }

  pub code_put : {mid : Reader} (k code : List ℕ) → old.source.tokens ≡ Token.string code ∷ Token.end_object ∷ new.source.tokens → mid.document ≡ old.document
      → Puts mid new k (single (javascript_code code)) → TakesValue old new k (Token.begin_object ∷ Token.key (codes "$code") ∷ [])
  code_put {mid} k code e same puts = record {
    made = λ out rest.
        puts_wrapped (Rest out (levels_of old)) {old = old.source.tokens} k (bytes_of old) (codes "$code") (string code) (javascript_code code) (Token.end_object ∷ new.source.tokens) new.source.tokens
        ((inr (inr (inr (inr (inr (inr (inr (inr (inr (inr (inr (inl (refl, refl))))))))))))), (puts.in_range, tt, tt)) e refl
        (rest_at {r = new} out (record {
          levels = puts.levels ∙ ap (λ (d : Unfinished). d.levels.items) same;
          bytes = puts.bytes ∙ ap (λ (d : Unfinished). d.bytes.items ++ element_bytes k (single (javascript_code code))) same;
          tokens = refl;
        }) rest);
  }

  -- some tokens were taken already
  pub more_taken : {mid : Reader} {k : List ℕ} (taken more : List Token) → mid.document ≡ old.document → old.source.tokens ≡ more ++ mid.source.tokens
      → TakesValue mid new k (taken ++ more) → TakesValue old new k taken
  more_taken {mid} {k} taken more same e value = record {
    made = λ out rest.
        let one = subst (λ (d : Unfinished). ValueIn (Rest out (reverse d.levels.items)) k d.bytes.items ((taken ++ more) ++ mid.source.tokens)) same (value.made out rest) in
        let two = subst (λ (x : List Token). ValueIn (Rest out (levels_of old)) k (bytes_of old) x) (append_assoc taken more mid.source.tokens) one in
        subst (λ (x : List Token). ValueIn (Rest out (levels_of old)) k (bytes_of old) (taken ++ x)) (sym e) two;
  }

  -- values that hold others

  pub empty_put : (k : List ℕ) (ts : List Token) → IsAt new old.document.levels.items (headed (bytes_of old) 3 k ++ framed []) ts
      → old.source.tokens ≡ Token.end_object ∷ ts → TakesValue old new k (Token.begin_object ∷ [])
  empty_put k ts is e = record {
    made = λ out rest.
        subst (λ (x : List Token). ValueIn (Rest out (levels_of old)) k (bytes_of old) (Token.begin_object ∷ x)) (sym e)
        (puts_empty (Rest out (levels_of old)) k (bytes_of old) ts (rest_at {r = new} out is rest));
  }

  pub array_opened : (k : List ℕ) → IsAt new (old.document.levels.items ++ array_level 0 (length (headed (bytes_of old) 4 k)) ∷ []) (headed (bytes_of old) 4 k ++ unset) old.source.tokens
      → TakesValue old new k (Token.begin_array ∷ [])
  array_opened k is = record { made = λ out rest. opens_array (Rest out (levels_of old)) k (bytes_of old) old.source.tokens (rest_within {r = new} _ _ out is rest) }

  pub begun_opened : (k : List ℕ) (first : Bor (List ℕ)) (ts : List Token) → IsKeyReadable first.now → is_wrapper_key first.now ≡ false
      → IsAt new (old.document.levels.items ++ level_at (holder.Begun first) (length (headed (bytes_of old) 3 k)) ∷ []) (headed (bytes_of old) 3 k ++ unset) ts
      → old.source.tokens ≡ Token.key first.now ∷ ts → TakesValue old new k (Token.begin_object ∷ [])
  begun_opened k first ts key plain is e = record {
    made = λ out rest.
        subst (λ (x : List Token). ValueIn (Rest out (levels_of old)) k (bytes_of old) (Token.begin_object ∷ x)) (sym e)
        (opens_begun (Rest out (levels_of old)) k (bytes_of old) first ts key plain (rest_within {r = new} _ _ out is rest));
  }

  pub scope_opened : (k code : List ℕ) (ts : List Token) → IsUtf8 code
      → IsAt new (old.document.levels.items ++ level_at (holder.Scope (length (headed (bytes_of old) 15 k))) (length (before_scope (bytes_of old) k code)) ∷ [])
      (before_scope (bytes_of old) k code ++ unset) ts
      → old.source.tokens ≡ Token.begin_object ∷ ts
      → TakesValue old new k (Token.begin_object ∷ Token.key (codes "$code") ∷ Token.string code ∷ Token.key (codes "$scope") ∷ [])
  scope_opened k code ts text is e = record {
    made = λ out rest.
        subst (λ (x : List Token). ValueIn (Rest out (levels_of old)) k (bytes_of old) (Token.begin_object ∷ Token.key (codes "$code") ∷ Token.string code ∷ Token.key (codes "$scope") ∷ x)) (sym e)
        (opens_scope (Rest out (levels_of old)) k (bytes_of old) code ts text (rest_within {r = new} _ _ out is rest));
  }

  pub before_code_opened : (k : List ℕ) (ts : List Token)
      → IsAt new (old.document.levels.items ++ level_at (holder.ScopeBeforeCode (length (headed (bytes_of old) 15 k))) (length (headed (bytes_of old) 15 k ++ unset)) ∷ [])
      ((headed (bytes_of old) 15 k ++ unset) ++ unset) ts → old.source.tokens ≡ Token.begin_object ∷ ts → TakesValue old new k (Token.begin_object ∷ Token.key (codes "$scope") ∷ [])
  before_code_opened k ts is e = record {
    made = λ out rest.
        subst (λ (x : List Token). ValueIn (Rest out (levels_of old)) k (bytes_of old) (Token.begin_object ∷ Token.key (codes "$scope") ∷ x)) (sym e)
        (opens_before_code (Rest out (levels_of old)) k (bytes_of old) ts (rest_within {r = new} _ _ out is rest));
  }

-- a level that was opened after these bytes
pub opened_at : {new : Reader} {ls ls' : List Level} {b b' : List ℕ} {ts : List Token} (h : Holder) → ls ≡ ls' → b ≡ b' → new.document.levels.items ≡ ls ++ level_at h (length b) ∷ []
    → bytes_of new ≡ b ++ unset → new.source.tokens ≡ ts → IsAt new (ls' ++ level_at h (length b') ∷ []) (b' ++ unset) ts
opened_at {new} {ls} {ls'} {b} {b'} {ts} h e f level bytes tokens = record {
  levels = level ∙ ap (λ (x : List Level). x ++ level_at h (length b) ∷ []) e ∙ ap (λ (x : List ℕ). ls' ++ level_at h (length x) ∷ []) f;
  bytes = bytes ∙ ap (λ (x : List ℕ). x ++ unset) f;
  tokens = tokens;
}

-- .. one whose holder has a place
pub scope_at : {new : Reader} {ls ls' : List Level} {b b' : List ℕ} {start start' : ℕ} {ts : List Token} (h : ℕ → Holder) → ls ≡ ls' → start ≡ start' → b ≡ b'
    → new.document.levels.items ≡ ls ++ level_at (h start) (length b) ∷ [] → bytes_of new ≡ b ++ unset → new.source.tokens ≡ ts
    → IsAt new (ls' ++ level_at (h start') (length b') ∷ []) (b' ++ unset) ts
scope_at {new} {ls} {ls'} {b} {b'} {start} {start'} {ts} h e s f level bytes tokens = record {
  levels = level ∙ ap (λ (x : List Level). x ++ level_at (h start) (length b) ∷ []) e ∙ ap (λ (n : ℕ). ls' ++ level_at (h n) (length b) ∷ []) s
      ∙ ap (λ (x : List ℕ). ls' ++ level_at (h start') (length x) ∷ []) f;
  bytes = bytes ∙ ap (λ (x : List ℕ). x ++ unset) f;
  tokens = tokens;
}

-- the whole

-- whatever comes of the rest is what the tokens write
pub record Whole (ts : List Token) (r : Reader) : Type 0 where
  pub made : (out : List ℕ) → RestOf out r → SaysBytes ts out

pub reading_begun : {ls : List Level} {b : List ℕ} (r : Reader) (ts : List Token) → ls ≡ [] → b ≡ [] → r.document.levels.items ≡ ls ++ level_at holder.Text (length b) ∷ [] → bytes_of r ≡ b ++ unset
    → ts ≡ Token.begin_object ∷ r.source.tokens → Whole ts r
reading_begun {ls} {b} r ts e f level bytes start = record {
  made = λ out h.
      let is : IsAt r (level_at holder.Text 0 ∷ []) unset r.source.tokens = opened_at holder.Text e f level bytes refl in
      let (ms, es, behind, mean, readable, tokens, (none, whole)) = opens_text (Rest out []) r.source.tokens (rest_at {r = r} out is h) in
      (ms, es, mean, readable, start ∙ ap (λ (x : List Token). Token.begin_object ∷ x) (tokens ∙ ap (λ (x : List Token). members_tokens ms ++ x) none ∙ append-nil (members_tokens ms)), whole);
}

pub reading_goes_on : {old new : Reader} (ts : List Token) (all : Reader) (l : Level) → all.document.levels.items ≡ old.document.levels.items ++ l ∷ [] → bytes_of old ≡ bytes_of all
    → old.source.tokens ≡ all.source.tokens → Whole ts all → TakesLevel old new l → Whole ts new
reading_goes_on {old} {new} ts all l levels bytes tokens whole takes = record {
  made = λ out rest.
      let at = takes.made out rest in
      let one = subst (λ (x : List Level). Rest out x (bytes_of old) old.source.tokens) (sym (ap (λ (x : List Level). reverse x) levels ∙ innermost old.document.levels.items l)) at in
      let two = subst (λ (x : List ℕ). Rest out (levels_of all) x old.source.tokens) bytes one in
      whole.made out (subst (λ (x : List Token). Rest out (levels_of all) (bytes_of all) x) tokens two);
}

pub says_readable : {ts : List Token} {b : List ℕ} → SaysBytes ts b → IsReadableDocument b
says_readable {ts} {b} (ms, es, mean, readable, tokens, bytes) = (es, readable, bytes)

pub written : {ts : List Token} {b d : List ℕ} (text : List ℕ) → SaysBytes ts b → ts ≡ text_tokens text → d ≡ b → IsWritten text d
written {ts} {b} {d} text (ms, es, mean, readable, tokens, bytes) e f = (es, (object ms, sym e ∙ tokens, mean), f ∙ bytes)

-- a plain number has no C string and no subtype
pub plain_free : {s : List ℕ} {l : Leaf} → IsPlain s l → IsLeafNulFree l
plain_free {s} {l} (inl (z, w, fits, e)) = subst IsLeafNulFree (sym e) tt
plain_free {s} {l} (inr (inl (z, w, large, fits, e))) = subst IsLeafNulFree (sym e) tt
plain_free {s} {l} (inr (inr (fraction, (bits, w, e)))) = subst IsLeafNulFree (sym e) tt

pub plain_proper : {s : List ℕ} {l : Leaf} → IsPlain s l → IsLeafSubtypeProper l
plain_proper {s} {l} (inl (z, w, fits, e)) = subst IsLeafSubtypeProper (sym e) tt
plain_proper {s} {l} (inr (inl (z, w, large, fits, e))) = subst IsLeafSubtypeProper (sym e) tt
plain_proper {s} {l} (inr (inr (fraction, (bits, w, e)))) = subst IsLeafSubtypeProper (sym e) tt

-- values of wrappers

pub on_ok : {T E : Type 0} {A B : Type 0} (r : Result T E) → (A → B) → OnOk r A → OnOk r B
on_ok (Ok x) f a = f a
on_ok (Err e) f a = tt

pub on_ok_two : {T E : Type 0} {A B C : Type 0} (r : Result T E) → (A → B → C) → OnOk r A → OnOk r B → OnOk r C
on_ok_two (Ok x) f a b = f a b
on_ok_two (Err e) f a b = tt

-- the value that is put equals this one
pub puts_as : {old new : Reader} {k : List ℕ} {v w : RawValue} → Puts old new k v → v ≡ w → Puts old new k w
puts_as {old} {new} {k} {v} {w} puts e = subst (λ (x : RawValue). Puts old new k x) e puts

pub leaf_taken : {old mid new : Reader} {k : List ℕ} {l : Leaf} (w : Wrapper) → Takes (Writes w) old.source.tokens mid.source.tokens l → mid.document ≡ old.document
    → new.source ≡ mid.source → IsLeafNulFree l → IsLeafSubtypeProper l → Puts mid new k (single l) → TakesLeaf old new (wrapper_key w) k
leaf_taken {old} {mid} {new} {k} {l} w (j, tokens, is) same source free proper puts = record {
  json = j;
  says = l;
  is = wrapped w j l is;
  nul_free = free;
  subtype = proper;
  tokens = tokens ∙ ap (λ (x : List Token). json_tokens j ++ x) (sym (ap (λ (x : Source). x.tokens) source));
  puts = record {
    limits = puts.limits ∙ ap (λ (d : Unfinished). d.limits) same;
    levels = puts.levels ∙ ap (λ (d : Unfinished). d.levels.items) same;
    bytes = puts.bytes ∙ ap (λ (d : Unfinished). d.bytes.items ++ element_bytes k (single l)) same;
    in_range = puts.in_range;
  };
}

-- an integer is put that a text writes
module _ {old new : Reader} {s k : List ℕ} {z : ℤ} where
  pub int32_put : Puts old new k (single (int32 z)) → WritesInteger s z → FitsSigned w32 z → (l : Leaf) × IsPlain s l × Puts old new k (single l)
  int32_put puts w fits = (int32 z, inl (z, w, fits, refl), puts)

  pub int64_put : Puts old new k (single (int64 z)) → WritesInteger s z → ¬ FitsSigned w32 z → FitsSigned w64 z → (l : Leaf) × IsPlain s l × Puts old new k (single l)
  int64_put puts w large fits = (int64 z, inr (inl (z, w, large, fits, refl)), puts)
