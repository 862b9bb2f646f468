-- How the rest of a reader may end, from step to step; and what excuses a step that fails.
use Rattle.std.proofs.Common.{◌≡◌, ◌≤◌, ◌⊎◌, inl, inr, ℕ, ℤ, FitsSigned, ◌+◌, suc, Bool, false, List, [], ◌∷◌, ◌++◌, Result, Ok, Err, IfErr, OnErr, codes, decimal, length, refl, sym, ap, ◌∙◌, subst, reverse, append_assoc, append-nil, length-append, arith}
use Rattle.std.proofs.lemmas.List.{length-reverse}
use Rattle.std.specs.Int.{w32, w64}
use Rattle.json.specs.Json.{Json, Members}
use Rattle.json.specs.Json as json
use Rattle.json.specs.Reads.{token_of}
use Rattle.json.specs.declared.token.Token.{Token as Read}
use Rattle.json.specs.declared.token.Token.TheVariants as read
use Rattle.json.specs.Token.{Token}
use Rattle.json.specs.Tree.{json_tokens, members_tokens}
use Rattle.bson_model.specs.Bytes.{NulFree}
use Rattle.bson_model.specs.Leaf.{Leaf, boolean, int32, int64, javascript_code, null, string}
use Rattle.bson_model.specs.Tree.{Entries}
use Rattle.raw_tree.specs.declared.reader.limits.Limits.{Limits}
use Rattle.raw_tree.specs.Payload.{element_bytes, unset}
use Rattle.raw_view.specs.Frame.Format.{framed, leaf_payload, string_payload}
use Rattle.raw_view.specs.Meaning.{RawValue, single}
use Rattle.values_from_json.specs.Meaning.{AreMembers, is_wrapper_key}
use Rattle.values_from_json.specs.Numbers.{IsPlain, WritesInteger}
use Rattle.values_from_json.specs.Wrapped.{IsWrapped}
use Rattle.bson_from_json.specs.Depths.{entries_depth}
use Rattle.raw_tree.specs.Encoding.{entries_len}
use Rattle.bson_from_json.specs.Levels.{HasMembers, MayBeIn, headed, Puts, Rest, SaysBytes, TakesLeaf, TakesLevel, array_level, bytes_of, level_at, levels_of}
use Rattle.values_from_json.specs.Keys.{wrapper_key}
use Rattle.bson_from_json.specs.Ends.{CanEnd, CanGoOn, Exceeds, Excuses, FirstThen, HaveLength, ItemsThen, MembersThen, KeepsClosed, KeepsLevel, KeepsValue, LacksLevel, LacksValue, LacksWrapper, LevelNext, LevelThen, Refuses, RefusesValue, Size, StopsClosed, StopsLeaf, StopsLevel, StopsPlain, StopsValue, StopsWhole, ValueNext, ValueThen, WrapperNext, WrapperThen, len_of, size_of}
use Rattle.values_from_json.specs.Taken.{LacksLeaf, LacksToken, NoToken, Takes}
use Rattle.values_from_json.specs.declared.error.JsonReason.{JsonReason}
use Rattle.values_from_json.specs.declared.error.JsonReason.TheVariants.{OutOfMemory}
use Rattle.bson_from_json.specs.declared.levels.Holder.{Holder}
use Rattle.bson_from_json.specs.declared.levels.Holder.TheVariants as holder
use Rattle.bson_from_json.specs.declared.levels.Level.{Level}
use Rattle.bson_from_json.specs.declared.unfinished.Unfinished.{Unfinished}
use Rattle.bson_from_json.specs.declared.reading.Reader.{Reader}
use Rattle.values_from_json.specs.declared.source.Source.{Source}
use Rattle.values_from_json.specs.declared.wrapper.Wrapper.{Wrapper}
use Rattle.values_from_json.specs.declared.wrapper.Wrapper.TheVariants as wrapper
use Rattle.bson_from_json.proofs.Ends.{LeafThen, ObjectThen, ScopeSized, ScopeThen, Starts, WrapperValueThen, array_end_taken, empty_object, end_taken, free_first, item_next, key_taken, no_object, none_taken, ordinary, starts, wrapper_value}
use Rattle.values_from_json.proofs.Face.{Writes, same_value, writes}
use Rattle.bson_from_json.proofs.Moments.{Whole}
use Rattle.bson_from_json.proofs.Refusals.{exceeds_more, refused_later}
use Rattle.bson_from_json.proofs.Sizes.{one_plain_size, one_wrapped_size}
use Rattle.bson_from_json.proofs.Steps.{innermost}
use denote.Ref.{Bor}

-- errors

pub on_err : {T E : Type 0} {P Q : E → Type 0} (r : Result T E) → ((e : E) → P e → Q e) → IfErr r P → IfErr r Q
on_err (Ok x) f p = tt
on_err (Err e) f p = f e p

-- whatever the error is
pub each_err : {T E : Type 0} {P : E → Type 0} (r : Result T E) → ((e : E) → P e) → IfErr r P
each_err (Ok x) f = tt
each_err (Err e) f = f e

pub lacks_on : {T E : Type 0} {P : Type 0} {Q : E → Type 0} (r : Result T E) → ((e : E) → P → Q e) → OnErr r P → IfErr r Q
lacks_on (Ok x) f p = tt
lacks_on (Err e) f p = f e p

-- tokens

same_first : {ts a b : List Token} {t u : Token} → ts ≡ t ∷ a → ts ≡ u ∷ b → t ≡ u
same_first e f = cc

no_first_of_none : {ts a : List Token} {t : Token} → ts ≡ [] → ts ≡ t ∷ a → ⊥
no_first_of_none e f = cc

pub no_token : {ts : List Token} → NoToken ts → (t : Token) → (t ≡ Token.bad → ⊥) → LacksToken ts t
no_token (inl e) t good rest f = no_first_of_none e f
no_token (inr (more, e)) t good rest f = good (same_first f e)

pub same_behind : {ts a b : List Token} {t : Token} → ts ≡ t ∷ a → ts ≡ t ∷ b → a ≡ b
same_behind e f = cc

same_text : {ts a b : List Token} {s t : List ℕ} → ts ≡ Token.string s ∷ a → ts ≡ Token.string t ∷ b → s ≡ t
same_text e f = cc

-- sizes

-- what was read is part of the document
long : (size : Size) (ls : List Level) (b : ℕ) (ts : List Token) → CanEnd size ls b ts → b ≤ size.len
long size [] b ts (none, e) = omega (arith, e)
long size (l ∷ ls) b ts (behind, d, n, level, deep, outer) = omega (arith, long size ls (b + n) behind outer)

-- and so are the levels
open_levels : (size : Size) (ls : List Level) (b : ℕ) (ts : List Token) → CanEnd size ls b ts → length ls ≤ size.depth
open_levels size [] b ts can = omega arith
open_levels size (l ∷ ls) b ts (behind, d, n, level, deep, outer) = omega (arith, deep)

-- what is refused belongs to a value of this size
refused_next : (old : Reader) (k : List ℕ) (r : JsonReason) (size : Size) (d n : ℕ) (behind : List Token)
    → (d + length (levels_of old) ≤ size.depth) × CanEnd size (levels_of old) (len_of old + (2 + length k + n)) behind → (bytes levels : ℕ)
    → (bytes ≤ 2 + length k + n) × (levels ≤ d) → Refuses old.document bytes levels r → Excuses old.document.limits size r
refused_next old k r size d n behind (deep, outer) bytes levels (few, fewer) over =
    let more : len_of old + bytes ≤ size.len = omega (arith, few, long size (levels_of old) (len_of old + (2 + length k + n)) behind outer) in
    let further : length old.document.levels.items + levels ≤ size.depth = omega (arith, fewer, deep, length-reverse old.document.levels.items) in
    exceeds_more old.document.limits _ _ _ _ r further more over

module _ {old : Reader} {k : List ℕ} {taken : List Token} (r : JsonReason) where
  pub value_refused : (bytes levels : ℕ) → ((d n : ℕ) (behind : List Token) → ValueThen d n (taken ++ old.source.tokens) behind → (bytes ≤ 2 + length k + n) × (levels ≤ d))
      → Refuses old.document bytes levels r → StopsValue old k taken r
  value_refused bytes levels is over = record {
    excused = λ size (behind, d, n, value, deep, outer). refused_next old k r size d n behind (deep, outer) bytes levels (is d n behind value) over;
  }

  -- no value is next
  pub value_lacks : LacksValue (taken ++ old.source.tokens) → StopsValue old k taken r
  value_lacks none = record { excused = λ size (behind, d, n, value, deep, outer). absurd (none d n behind value) }

module _ {old : Reader} {l : Level} (r : JsonReason) where
  pub level_lacks : LacksLevel l.holder old.source.tokens → StopsLevel old l r
  level_lacks none = record { excused = λ size (behind, d, n, level, deep, outer). absurd (none d n behind level) }

  pub wrapper_lacks : LacksWrapper l.holder old.source.tokens → StopsClosed old l r
  wrapper_lacks none = record { excused = λ size (behind, n, wrapper, outer). absurd (none n behind wrapper) }

  -- what is refused belongs to the end of the level and its wrapper
  pub wrapper_refused : (bytes : ℕ) → ((n : ℕ) (behind : List Token) → WrapperThen l.holder n old.source.tokens behind → bytes ≤ 1 + n) → Refuses old.document bytes 0 r → StopsClosed old l r
  wrapper_refused bytes is over = record {
    excused = λ size (behind, n, wrapper, outer).
        let few : len_of old + bytes ≤ size.len = omega (arith, is n behind wrapper, long size (levels_of old) (len_of old + (1 + n)) behind outer) in
        let within : length old.document.levels.items + 0 ≤ size.depth =
        omega (arith, open_levels size (levels_of old) (len_of old + (1 + n)) behind outer, length-reverse old.document.levels.items) in
        exceeds_more old.document.limits _ _ _ _ r within few over;
  }

-- levels

can_end : (size : Size) (r : Reader) (ls : List Level) (b : ℕ) (ts : List Token) → r.document.levels.items ≡ ls → len_of r ≡ b → r.source.tokens ≡ ts → CanEnd size (reverse ls) b ts
    → CanGoOn size r
can_end size r ls b ts e f g can =
    let one = subst (λ (x : List Token). CanEnd size (reverse ls) b x) (sym g) can in
    let two = subst (λ (x : ℕ). CanEnd size (reverse ls) x r.source.tokens) (sym f) one in
    subst (λ (x : List Level). CanEnd size (reverse x) (len_of r) r.source.tokens) (sym e) two

pub levels_within : (r : Reader) (ls : List Level) (l : Level) → r.document.levels.items ≡ ls ++ l ∷ [] → levels_of r ≡ l ∷ reverse ls
levels_within r ls l e = ap (λ (x : List Level). reverse x) e ∙ innermost ls l

within : (size : Size) (r : Reader) (ls : List Level) (l : Level) (b : ℕ) (ts : List Token) → r.document.levels.items ≡ ls ++ l ∷ [] → len_of r ≡ b → r.source.tokens ≡ ts
    → CanEnd size (l ∷ reverse ls) b ts → CanGoOn size r
within size r ls l b ts e f g can =
    let one = subst (λ (x : List Token). CanEnd size (l ∷ reverse ls) b x) (sym g) can in
    let two = subst (λ (x : ℕ). CanEnd size (l ∷ reverse ls) x r.source.tokens) (sym f) one in
    subst (λ (x : List Level). CanEnd size x (len_of r) r.source.tokens) (sym (levels_within r ls l e)) two

plain_wrapper : (h : Holder) → ((start : ℕ) → h ≡ holder.Scope start → ⊥) → ((start : ℕ) → h ≡ holder.ScopeBeforeCode start → ⊥)
    → (n : ℕ) (ts behind : List Token) → WrapperThen h n ts behind → (ts ≡ behind) × (0 ≡ n)
plain_wrapper holder.Text a b n ts behind e = (e.0, sym e.1)
plain_wrapper holder.Document a b n ts behind e = (e.0, sym e.1)
plain_wrapper (holder.Begun first) a b n ts behind e = (e.0, sym e.1)
plain_wrapper holder.Typed a b n ts behind e = (e.0, sym e.1)
plain_wrapper (holder.Array items) a b n ts behind e = (e.0, sym e.1)
plain_wrapper (holder.Scope start) a b n ts behind e = absurd (a start refl)
plain_wrapper (holder.ScopeBeforeCode start) a b n ts behind e = absurd (b start refl)

code_behind_key : {old a b : List Token} {s t k : List ℕ} {u : Token} → old ≡ Token.key k ∷ Token.string s ∷ u ∷ a → old ≡ Token.key k ∷ Token.string t ∷ u ∷ b → (a ≡ b) × (s ≡ t)
code_behind_key e f = (cc, cc)

code_closes : {old new : List Token} {code : List ℕ} (start : ℕ) → old ≡ Token.key (codes "$code") ∷ Token.string code ∷ Token.end_object ∷ new → (n : ℕ) (behind : List Token)
    → WrapperThen (holder.ScopeBeforeCode start) n old behind → (new ≡ behind) × (5 + length code ≡ n)
code_closes start e n behind (text, f, len) = let (same, is) = code_behind_key e f in (same, ap (λ (x : List ℕ). 5 + length x) is ∙ sym len)

-- some tokens were taken already
next_more : (old mid : Reader) (k : List ℕ) (taken more : List Token) → mid.document ≡ old.document → old.source.tokens ≡ more ++ mid.source.tokens
    → (size : Size) → ValueNext size old k taken → ValueNext size mid k (taken ++ more)
next_more old mid k taken more same e size (behind, d, n, value, deep, outer) = (
  behind,
  d,
  n,
  subst (λ (x : List Token). ValueThen d n x behind) (ap (λ (x : List Token). taken ++ x) e ∙ sym (append_assoc taken more mid.source.tokens)) value,
  subst (λ (u : Unfinished). d + length (reverse u.levels.items) ≤ size.depth) (sym same) deep,
  subst (λ (u : Unfinished). CanEnd size (reverse u.levels.items) (length u.bytes.items + (2 + length k + n)) behind) (sym same) outer,
)

pub more_stops : {old mid : Reader} {k : List ℕ} {r : JsonReason} (taken more : List Token) → mid.document ≡ old.document → old.source.tokens ≡ more ++ mid.source.tokens
    → StopsValue mid k (taken ++ more) r → StopsValue old k taken r
more_stops {old} {mid} {k} {r} taken more same e stops = record {
  excused = λ size next. subst (λ (u : Unfinished). Excuses u.limits size r) same (stops.excused size (next_more old mid k taken more same e size next));
}

module _ (old new : Reader) where
  -- a value that is written whole, and one that is opened
  pub put_keeps : {k : List ℕ} {taken : List Token} (n : ℕ) → new.document.limits ≡ old.document.limits → new.document.levels.items ≡ old.document.levels.items
      → len_of new ≡ len_of old + (2 + length k + n)
      → ((d m : ℕ) (behind : List Token) → ValueThen d m (taken ++ old.source.tokens) behind → (new.source.tokens ≡ behind) × (n ≡ m)) → KeepsValue old new k taken
  put_keeps {k} {taken} n limits levels len is = record {
    limits = limits;
    kept = λ size (behind, d, m, value, deep, outer).
        let (same, e) = is d m behind value in
        can_end size new _ _ behind levels (len ∙ ap (λ (x : ℕ). len_of old + (2 + length k + x)) e) same outer;
  }

  -- the rest of a level is next, of which these bytes were written
  abbrev pub OpensThen : Holder → ℕ → ℕ → ℕ → List Token → List Token → Type 0
  OpensThen h before d whole ts behind = (e m : ℕ) × LevelThen h e m ts behind × (suc e ≤ d) × (before + m ≡ whole)

  pub open_keeps : {k : List ℕ} {taken : List Token} {ls : List Level} (h : Holder) (start before : ℕ) → new.document.limits ≡ old.document.limits → ls ≡ old.document.levels.items
      → new.document.levels.items ≡ ls ++ level_at h start ∷ [] → len_of new ≡ len_of old + before
      → ((d m : ℕ) (behind : List Token) → ValueThen d m (taken ++ old.source.tokens) behind → OpensThen h before d (2 + length k + m) new.source.tokens behind) → KeepsValue old new k taken
  open_keeps {k} {taken} {ls} h start before limits same levels len is = record {
    limits = limits;
    kept = λ size (behind, d, m, value, deep, outer).
        let (e, inside, level, fewer, sum) = is d m behind value in
        let opened : new.document.levels.items ≡ old.document.levels.items ++ level_at h start ∷ [] = levels ∙ ap (λ (x : List Level). x ++ level_at h start ∷ []) same in
        let room : suc (e + length (levels_of old)) ≤ size.depth = omega (arith, fewer, deep) in
        let ended : len_of old + (2 + length k + m) ≡ (len_of old + before) + inside = omega (arith, sum) in
        within size new _ (level_at h start) (len_of old + before) new.source.tokens opened len refl
        (behind, e, inside, level, room, subst (λ (x : ℕ). CanEnd size (levels_of old) x behind) ended outer);
  }

  pub more_keeps : {mid : Reader} {k : List ℕ} (taken more : List Token) → mid.document ≡ old.document → old.source.tokens ≡ more ++ mid.source.tokens
      → KeepsValue mid new k (taken ++ more) → KeepsValue old new k taken
  more_keeps {mid} {k} taken more same e value = record {
    limits = value.limits ∙ ap (λ (u : Unfinished). u.limits) same;
    kept = λ size next. value.kept size (next_more old mid k taken more same e size next);
  }

-- what is next after a step into a level

-- the level was put back
pub record IsWithin (old mid : Reader) (l : Level) : Type 0 where
  pub limits : mid.document.limits ≡ old.document.limits
  pub levels : mid.document.levels.items ≡ old.document.levels.items ++ l ∷ []
  pub bytes : mid.document.bytes.items ≡ old.document.bytes.items

module _ (old mid : Reader) (size : Size) where
  -- a value, then the rest of this level
  pub value_within : {d n m others : ℕ} {next : List Token} (k : List ℕ) (behind : List Token) (l : Level) (taken : List Token) → IsWithin old mid l → ValueThen d m (taken ++ mid.source.tokens) next
      → LevelThen l.holder d others next behind → (2 + length k + m) + others ≡ n → (suc (d + length (levels_of old)) ≤ size.depth) × CanEnd size (levels_of old) (len_of old + n) behind
      → ValueNext size mid k taken
  value_within {d} {n} {m} {others} {next} k behind l taken is value level sum (deep, outer) =
      let levels = levels_within mid old.document.levels.items l is.levels in
      let ended : len_of old + n ≡ (len_of mid + (2 + length k + m)) + others = omega (arith, sum, ap length is.bytes) in (
        next,
        d,
        m,
        value,
        subst (λ (x : List Level). d + length x ≤ size.depth) (sym levels) (omega (arith, deep)),
        subst (λ (x : List Level). CanEnd size x (len_of mid + (2 + length k + m)) next) (sym levels)
            (behind, d, others, level, deep, subst (λ (x : ℕ). CanEnd size (levels_of old) x behind) ended outer),
      )

  -- a member after its key
  member_next : {k : List ℕ} (l : Level) → HasMembers l.holder → IsWithin old mid l → old.source.tokens ≡ Token.key k ∷ mid.source.tokens → LevelNext size old l → ValueNext size mid k []
  member_next {k} l has is e (behind, d, n, (rest, m, after, inside, wrapper, sum), deep, outer) =
      let (may, (next, first, others, value, more, total)) = key_taken _ _ l.holder old.source.tokens rest has inside k mid.source.tokens e in
      value_within k behind l [] is value (rest, others, after, more, wrapper, refl) (omega (arith, total, sum)) (deep, outer)

  -- the value of a key that was taken already
  begun_next : (l : Level) (first : Bor (List ℕ)) → l.holder ≡ holder.Begun first → IsWithin old mid (level_at holder.Document l.start) → mid.source.tokens ≡ old.source.tokens
      → LevelNext size old l → ValueNext size mid first.now []
  begun_next l first is at same (behind, d, n, level, deep, outer) =
      let (rest, m, after, (next, one, others, value, more, total), wrapper, sum) = subst (λ (h : Holder). LevelThen h d n old.source.tokens behind) is level in
      value_within first.now behind (level_at holder.Document l.start) [] at (subst (λ (x : List Token). ValueThen d one x next) (sym same) value) (rest, others, after, more, wrapper, refl)
      (omega (arith, total, sum)) (deep, outer)

  -- an item after its first token
  item_after : {token : Token} {k : List ℕ} (n start : ℕ) → IsWithin old mid (array_level (n + 1) start) → old.source.tokens ≡ token ∷ mid.source.tokens → k ≡ decimal n
      → LacksToken old.source.tokens Token.end_array → LevelNext size old (array_level n start) → ValueNext size mid k (token ∷ [])
  item_after {token} {k} n start is e key end (behind, d, whole, (rest, m, after, inside, wrapper, sum), deep, outer) =
      let (next, first, others, value, more, total) = item_next n old.source.tokens rest inside end in
      subst (λ (x : List ℕ). ValueNext size mid x (token ∷ [])) (sym key)
      (value_within (decimal n) behind (array_level (n + 1) start) (token ∷ []) is (subst (λ (x : List Token). ValueThen d first x next) e value) (rest, others, after, more, wrapper, refl)
      (omega (arith, total, sum)) (deep, outer))

  -- a bracket
  bracket_next : {n m : ℕ} {rest : List Token} (after : ℕ) (behind : List Token) (h : Holder) → mid.document ≡ old.document → (mid.source.tokens ≡ rest) × (0 ≡ m)
      → WrapperThen h after rest behind → (m + 1) + after ≡ n
      → CanEnd size (levels_of old) (len_of old + n) behind → WrapperNext size mid h
  bracket_next {n} {m} {rest} after behind h same (tokens, none) wrapper sum outer =
      let ended : len_of old + n ≡ len_of old + (1 + after) = omega (arith, none, sum) in (
        behind,
        after,
        subst (λ (x : List Token). WrapperThen h after x behind) (sym tokens) wrapper,
        subst (λ (u : Unfinished). CanEnd size (reverse u.levels.items) (length u.bytes.items + (1 + after)) behind) (sym same)
            (subst (λ (x : ℕ). CanEnd size (levels_of old) x behind) ended outer),
      )

  end_next : (l : Level) → HasMembers l.holder → mid.document ≡ old.document → old.source.tokens ≡ Token.end_object ∷ mid.source.tokens → LevelNext size old l → WrapperNext size mid l.holder
  end_next l has same e (behind, d, n, (rest, m, after, inside, wrapper, sum), deep, outer) =
      bracket_next after behind l.holder same (end_taken _ _ l.holder old.source.tokens rest has inside mid.source.tokens e) wrapper sum outer

  array_end_next : (n start : ℕ) → mid.document ≡ old.document → old.source.tokens ≡ Token.end_array ∷ mid.source.tokens → LevelNext size old (array_level n start)
      → WrapperNext size mid (holder.Array n)
  array_end_next n start same e (behind, d, whole, (rest, m, after, inside, wrapper, sum), deep, outer) =
      bracket_next after behind (holder.Array n) same (array_end_taken n old.source.tokens rest inside mid.source.tokens e) wrapper sum outer

module _ (old new : Reader) {mid : Reader} where
  pub member_keeps : {k : List ℕ} (l : Level) → HasMembers l.holder → IsWithin old mid l → old.source.tokens ≡ Token.key k ∷ mid.source.tokens → KeepsValue mid new k [] → KeepsLevel old new l
  member_keeps {k} l has is e value = record { limits = value.limits ∙ is.limits; kept = λ size next. value.kept size (member_next old mid size l has is e next) }

  pub begun_keeps : (l : Level) (first : Bor (List ℕ)) → l.holder ≡ holder.Begun first → IsWithin old mid (level_at holder.Document l.start) → mid.source.tokens ≡ old.source.tokens
      → KeepsValue mid new first.now [] → KeepsLevel old new l
  begun_keeps l first is at same value = record { limits = value.limits ∙ at.limits; kept = λ size next. value.kept size (begun_next old mid size l first is at same next) }

  pub item_keeps : {token : Token} {k : List ℕ} (n start : ℕ) → IsWithin old mid (array_level (n + 1) start) → old.source.tokens ≡ token ∷ mid.source.tokens → k ≡ decimal n
      → LacksToken old.source.tokens Token.end_array → KeepsValue mid new k (token ∷ []) → KeepsLevel old new (array_level n start)
  item_keeps {token} {k} n start is e key end value = record { limits = value.limits ∙ is.limits; kept = λ size next. value.kept size (item_after old mid size n start is e key end next) }

  pub end_keeps : (l : Level) → HasMembers l.holder → mid.document ≡ old.document → old.source.tokens ≡ Token.end_object ∷ mid.source.tokens → KeepsClosed mid new l → KeepsLevel old new l
  end_keeps l has same e closed = record { limits = closed.limits ∙ ap (λ (u : Unfinished). u.limits) same; kept = λ size next. closed.kept size (end_next old mid size l has same e next) }

  pub array_end_keeps : (n start : ℕ) → mid.document ≡ old.document → old.source.tokens ≡ Token.end_array ∷ mid.source.tokens → KeepsClosed mid new (array_level n start)
      → KeepsLevel old new (array_level n start)
  array_end_keeps n start same e closed = record {
    limits = closed.limits ∙ ap (λ (u : Unfinished). u.limits) same;
    kept = λ size next. closed.kept size (array_end_next old mid size n start same e next);
  }

module _ {old mid : Reader} (r : JsonReason) where
  pub member_stops : {k : List ℕ} (l : Level) → HasMembers l.holder → IsWithin old mid l → old.source.tokens ≡ Token.key k ∷ mid.source.tokens → StopsValue mid k [] r → StopsLevel old l r
  member_stops {k} l has is e stops = record {
    excused = λ size next. subst (λ (x : Limits). Excuses x size r) is.limits (stops.excused size (member_next old mid size l has is e next));
  }

  pub begun_stops : (l : Level) (first : Bor (List ℕ)) → l.holder ≡ holder.Begun first → IsWithin old mid (level_at holder.Document l.start) → mid.source.tokens ≡ old.source.tokens
      → StopsValue mid first.now [] r → StopsLevel old l r
  begun_stops l first is at same stops = record {
    excused = λ size next. subst (λ (x : Limits). Excuses x size r) at.limits (stops.excused size (begun_next old mid size l first is at same next));
  }

  pub item_stops : {token : Token} {k : List ℕ} (n start : ℕ) → IsWithin old mid (array_level (n + 1) start) → old.source.tokens ≡ token ∷ mid.source.tokens → k ≡ decimal n
      → LacksToken old.source.tokens Token.end_array → StopsValue mid k (token ∷ []) r → StopsLevel old (array_level n start) r
  item_stops {token} {k} n start is e key end stops = record {
    excused = λ size next. subst (λ (x : Limits). Excuses x size r) is.limits (stops.excused size (item_after old mid size n start is e key end next));
  }

  pub end_stops : (l : Level) → HasMembers l.holder → mid.document ≡ old.document → old.source.tokens ≡ Token.end_object ∷ mid.source.tokens → StopsClosed mid l r → StopsLevel old l r
  end_stops l has same e stops = record {
    excused = λ size next. subst (λ (u : Unfinished). Excuses u.limits size r) same (stops.excused size (end_next old mid size l has same e next));
  }

  pub array_end_stops : (n start : ℕ) → mid.document ≡ old.document → old.source.tokens ≡ Token.end_array ∷ mid.source.tokens → StopsClosed mid (array_level n start) r
      → StopsLevel old (array_level n start) r
  array_end_stops n start same e stops = record {
    excused = λ size next. subst (λ (u : Unfinished). Excuses u.limits size r) same (stops.excused size (array_end_next old mid size n start same e next));
  }

-- what follows a bracket
module _ (old new : Reader) (l : Level) (limits : new.document.limits ≡ old.document.limits) (levels : new.document.levels.items ≡ old.document.levels.items) where
  closed_keeps : (after : ℕ) → len_of new ≡ len_of old + (1 + after)
      → ((n : ℕ) (behind : List Token) → WrapperThen l.holder n old.source.tokens behind → (new.source.tokens ≡ behind) × (after ≡ n)) → KeepsClosed old new l
  closed_keeps after len is = record {
    limits = limits;
    kept = λ size (behind, n, wrapper, outer).
        let (same, e) = is n behind wrapper in can_end size new _ _ behind levels (len ∙ ap (λ (x : ℕ). len_of old + (1 + x)) e) same outer;
  }

  pub plain_keeps : ((start : ℕ) → l.holder ≡ holder.Scope start → ⊥) → ((start : ℕ) → l.holder ≡ holder.ScopeBeforeCode start → ⊥)
      → len_of new ≡ len_of old + 1 → new.source.tokens ≡ old.source.tokens → KeepsClosed old new l
  plain_keeps a b len same = closed_keeps 0 len (λ n behind wrapper. let (e, none) = plain_wrapper l.holder a b n old.source.tokens behind wrapper in (same ∙ e, none))

  pub scope_keeps : (start : ℕ) → l.holder ≡ holder.Scope start → len_of new ≡ len_of old + 1 → old.source.tokens ≡ Token.end_object ∷ new.source.tokens → KeepsClosed old new l
  scope_keeps start is len e =
      closed_keeps 0 len (λ n behind wrapper. let (f, none) = subst (λ (h : Holder). WrapperThen h n old.source.tokens behind) is wrapper in (same_behind e f, sym none))

  pub code_keeps : {code : List ℕ} (start : ℕ) → l.holder ≡ holder.ScopeBeforeCode start → len_of new ≡ len_of old + (1 + (5 + length code))
      → old.source.tokens ≡ Token.key (codes "$code") ∷ Token.string code ∷ Token.end_object ∷ new.source.tokens → KeepsClosed old new l
  code_keeps {code} start is len e =
      closed_keeps (5 + length code) len (λ n behind wrapper. code_closes start e n behind (subst (λ (h : Holder). WrapperThen h n old.source.tokens behind) is wrapper))

-- values that aren't next

pub no_value : {ts : List Token} → NoToken ts → LacksValue ts
no_value {ts} (inl e) d n behind value = subst (λ (x : List Token). Starts d n x behind) e (starts ts behind value)
no_value {ts} (inr (more, e)) d n behind value = subst (λ (x : List Token). Starts d n x behind) e (starts ts behind value)

pub as_object : {d n : ℕ} (ts behind : List Token) → ValueThen d n (Token.begin_object ∷ ts) behind → ObjectThen d n ts behind
as_object ts behind value = starts (Token.begin_object ∷ ts) behind value

pub no_key : {ts : List Token} → LacksToken ts Token.end_object → ((k : List ℕ) → LacksToken ts (Token.key k)) → LacksValue (Token.begin_object ∷ ts)
no_key {ts} end key d n behind value = no_object ts behind end key (as_object ts behind value)

pub end_is_good : Token.end_object ≡ Token.bad → ⊥
end_is_good e = cc

array_end_is_good : Token.end_array ≡ Token.bad → ⊥
array_end_is_good e = cc

pub key_is_good : (k : List ℕ) → Token.key k ≡ Token.bad → ⊥
key_is_good k e = cc

pub no_first : {ts : List Token} → NoToken ts → LacksValue (Token.begin_object ∷ ts)
no_first {ts} none = no_key (no_token none Token.end_object end_is_good) (λ k. no_token none (Token.key k) (key_is_good k))

pub no_free_key : {ts new : List Token} {first : List ℕ} → is_wrapper_key first ≡ false → (first ≡ codes "$type" → ⊥) → ts ≡ Token.key first ∷ new → (NulFree first → ⊥)
    → LacksValue (Token.begin_object ∷ ts)
no_free_key {ts} {new} {first} plain other e none d n behind value = none (free_first first new ts behind e plain other (as_object ts behind value))

-- the lengths of what was written

headed_len : (b k more : List ℕ) (tag : ℕ) → length (headed b tag k ++ more) ≡ length b + (2 + length k + length more)
headed_len b k more tag = omega (arith, length-append (headed b tag k) more, length-append b (tag ∷ (k ++ 0 ∷ [])), length-append k (0 ∷ []))

pub puts_len : {old new : Reader} {k : List ℕ} {l : Leaf} → Puts old new k (single l) → len_of new ≡ len_of old + (2 + length k + length (leaf_payload l))
puts_len {old} {new} {k} {l} puts =
    omega (arith, ap length puts.bytes, length-append (bytes_of old) (element_bytes k (single l)), length-append k (0 ∷ leaf_payload l))

pub head_len : {new : List ℕ} (old k : List ℕ) → new ≡ headed old 15 k ++ unset → length new ≡ length old + (2 + length k + 4)
head_len {new} old k e = ap length e ∙ headed_len old k unset 15

pub code_head_len : {new mid : List ℕ} (old k code : List ℕ) → mid ≡ headed old 15 k ++ unset → new ≡ mid ++ string_payload code → length new ≡ length old + (2 + length k + 4 + (5 + length code))
code_head_len {new} {mid} old k code e f = omega (arith, head_len old k e, ap length f, length-append mid (string_payload code), length-append code (0 ∷ []))

pub opened_more : {new : List ℕ} (old : List ℕ) → new ≡ old ++ unset → length new ≡ length old + 4
opened_more {new} old e = ap length e ∙ length-append old unset

-- documents and arrays that are opened

-- the header of a level
pub opened_len : (old new : Reader) (k : List ℕ) (tag : ℕ) → bytes_of new ≡ headed (bytes_of old) tag k ++ unset → len_of new ≡ len_of old + (2 + length k + 4)
opened_len old new k tag bytes = ap length bytes ∙ headed_len (bytes_of old) k unset tag

module _ (old new : Reader) {k : List ℕ} where
  pub empty_keeps : old.source.tokens ≡ Token.end_object ∷ new.source.tokens → new.document.limits ≡ old.document.limits
      → new.document.levels.items ≡ old.document.levels.items → bytes_of new ≡ headed (bytes_of old) 3 k ++ framed [] → KeepsValue old new k (Token.begin_object ∷ [])
  empty_keeps e limits levels bytes =
      put_keeps old new 5 limits levels (ap length bytes ∙ headed_len (bytes_of old) k (framed []) 3)
      (λ d m behind value. let (is, deep, five) = empty_object old.source.tokens behind new.source.tokens (as_object old.source.tokens behind value) e in (is, five))

  pub array_keeps : (start : ℕ) → new.document.limits ≡ old.document.limits → new.document.levels.items ≡ old.document.levels.items ++ array_level 0 start ∷ []
      → bytes_of new ≡ headed (bytes_of old) 4 k ++ unset → new.source.tokens ≡ old.source.tokens → KeepsValue old new k (Token.begin_array ∷ [])
  array_keeps start limits levels bytes same =
      open_keeps old new (holder.Array 0) start (2 + length k + 4) limits refl levels (opened_len old new k 4 bytes)
      (λ d m behind value.
      let (e, inside, items, fewer, five) = starts (Token.begin_array ∷ old.source.tokens) behind value in
      (e, inside + 1 + 0, (behind, inside, 0, subst (λ (x : List Token). ItemsThen 0 e inside x behind) (sym same) items, (refl, refl), refl), fewer, omega (arith, five)))

  pub begun_opens : {ts : List Token} (first : Bor (List ℕ)) (start : ℕ) → is_wrapper_key first.now ≡ false → (first.now ≡ codes "$type" → ⊥) → old.source.tokens ≡ Token.key first.now ∷ ts
      → new.source.tokens ≡ ts
      → new.document.limits ≡ old.document.limits → new.document.levels.items ≡ old.document.levels.items ++ level_at (holder.Begun first) start ∷ []
      → bytes_of new ≡ headed (bytes_of old) 3 k ++ unset → KeepsValue old new k (Token.begin_object ∷ [])
  begun_opens {ts} first start plain other e same limits levels bytes =
      open_keeps old new (holder.Begun first) start (2 + length k + 4) limits refl levels (opened_len old new k 3 bytes)
      (λ d m behind value.
      let (f, inside, members, fewer, five) = ordinary first.now ts old.source.tokens behind e plain other (as_object old.source.tokens behind value) in
      (f, inside + 1 + 0, (behind, inside, 0, subst (λ (x : List Token). FirstThen first.now f inside x behind) (sym same) members, (refl, refl), refl), fewer, omega (arith, five)))

module _ {old : Reader} {k : List ℕ} (r : JsonReason) where
  -- what is refused at an empty document, at an array and at a document
  pub empty_refused : {ts : List Token} → old.source.tokens ≡ Token.end_object ∷ ts → Refuses old.document (2 + length k + 5) 1 r → StopsValue old k (Token.begin_object ∷ []) r
  empty_refused {ts} e over = value_refused r (2 + length k + 5) 1
      (λ d n behind value. let (is, deep, five) = empty_object old.source.tokens behind ts (as_object old.source.tokens behind value) e in (omega (arith, five), deep)) over

  pub array_refused : Refuses old.document (2 + length k + 4) 1 r → StopsValue old k (Token.begin_array ∷ []) r
  array_refused over = value_refused r (2 + length k + 4) 1
      (λ d n behind value. let (e, inside, items, fewer, five) = starts (Token.begin_array ∷ old.source.tokens) behind value in (omega (arith, five), omega (arith, fewer))) over

  pub begun_refused : {first : List ℕ} {ts : List Token} → is_wrapper_key first ≡ false → (first ≡ codes "$type" → ⊥) → old.source.tokens ≡ Token.key first ∷ ts
      → Refuses old.document (2 + length k + 4) 1 r
      → StopsValue old k (Token.begin_object ∷ []) r
  begun_refused {first} {ts} plain other e over = value_refused r (2 + length k + 4) 1
      (λ d n behind value.
      let (f, inside, members, fewer, five) = ordinary first ts old.source.tokens behind e plain other (as_object old.source.tokens behind value) in
      (omega (arith, five), omega (arith, fewer))) over

-- values that hold no others

module _ (old new : Reader) {k : List ℕ} where
  alone_keeps : {l : Leaf} {taken : List Token} → Puts old new k (single l) → new.source ≡ old.source
      → ((d m : ℕ) (behind : List Token) → ValueThen d m (taken ++ old.source.tokens) behind → (old.source.tokens ≡ behind) × (length (leaf_payload l) ≡ m)) → KeepsValue old new k taken
  alone_keeps {l} {taken} puts same is =
      put_keeps old new (length (leaf_payload l)) puts.limits puts.levels (puts_len puts)
      (λ d m behind value. let (e, len) = is d m behind value in (ap (λ (x : Source). x.tokens) same ∙ e, len))

  pub string_keeps : (s : List ℕ) → Puts old new k (single (string s)) → new.source ≡ old.source → KeepsValue old new k (Token.string s ∷ [])
  string_keeps s puts same = alone_keeps puts same (λ d m behind value. starts (Token.string s ∷ old.source.tokens) behind value)

  pub boolean_keeps : (b : Bool) → Puts old new k (single (boolean b)) → new.source ≡ old.source → KeepsValue old new k (Token.boolean b ∷ [])
  boolean_keeps b puts same = alone_keeps puts same (λ d m behind value. starts (Token.boolean b ∷ old.source.tokens) behind value)

  pub null_keeps : Puts old new k (single null) → new.source ≡ old.source → KeepsValue old new k (Token.null ∷ [])
  null_keeps puts same = alone_keeps puts same (λ d m behind value. starts (Token.null ∷ old.source.tokens) behind value)

  pub number_keeps : {l : Leaf} (s : List ℕ) → IsPlain s l → Puts old new k (single l) → new.source ≡ old.source → KeepsValue old new k (Token.number s ∷ [])
  number_keeps {l} s is puts same = alone_keeps puts same (λ d m behind value.
      let (other, means, e, len) = starts (Token.number s ∷ old.source.tokens) behind value in (e, one_plain_size s l other is means ∙ len))

  pub keeps_as : {taken others : List Token} → taken ≡ others → KeepsValue old new k taken → KeepsValue old new k others
  keeps_as {taken} {others} e keeps = subst (λ (x : List Token). KeepsValue old new k x) e keeps

module _ {old : Reader} {k : List ℕ} (r : JsonReason) where
  alone_refused : {taken : List Token} (l : Leaf) → ((d m : ℕ) (behind : List Token) → ValueThen d m (taken ++ old.source.tokens) behind → length (leaf_payload l) ≡ m)
      → RefusesValue old.document k (single l) r → StopsValue old k taken r
  alone_refused {taken} l is over = value_refused r (2 + length k + length (leaf_payload l)) 0 (λ d m behind value. (omega (arith, is d m behind value), omega arith)) over.refused

  pub string_refused : (s : List ℕ) → RefusesValue old.document k (single (string s)) r → StopsValue old k (Token.string s ∷ []) r
  string_refused s over = alone_refused (string s) (λ d m behind value. (starts (Token.string s ∷ old.source.tokens) behind value).1) over

  pub boolean_refused : (b : Bool) → RefusesValue old.document k (single (boolean b)) r → StopsValue old k (Token.boolean b ∷ []) r
  boolean_refused b over = alone_refused (boolean b) (λ d m behind value. (starts (Token.boolean b ∷ old.source.tokens) behind value).1) over

  pub null_refused : RefusesValue old.document k (single null) r → StopsValue old k (Token.null ∷ []) r
  null_refused over = alone_refused null (λ d m behind value. (starts (Token.null ∷ old.source.tokens) behind value).1) over

  -- a number
  pub number_stops : (s : List ℕ) → StopsPlain old s k r → StopsValue old k (Token.number s ∷ []) r
  number_stops s stops = record {
    excused = λ size (behind, d, n, value, deep, outer).
        let (l, is, e, len) = starts (Token.number s ∷ old.source.tokens) behind value in
        refused_next old k r size d n behind (deep, outer) (2 + length k + length (leaf_payload l)) 0 (omega (arith, len), omega arith) (stops.refused l is);
  }

  pub plain_refused : {s : List ℕ} (l : Leaf) → IsPlain s l → RefusesValue old.document k (single l) r → StopsPlain old s k r
  plain_refused {s} l is over = record { refused = λ other means. subst (λ (x : ℕ). Refuses old.document (2 + length k + x) 0 r) (one_plain_size s l other is means) over.refused }

  pub int32_refused : {s : List ℕ} {z : ℤ} → RefusesValue old.document k (single (int32 z)) r → WritesInteger s z → FitsSigned w32 z → StopsPlain old s k r
  int32_refused {s} {z} over w fits = plain_refused (int32 z) (inl (z, w, fits, refl)) over

  pub int64_refused : {s : List ℕ} {z : ℤ} → RefusesValue old.document k (single (int64 z)) r → WritesInteger s z → ¬ FitsSigned w32 z → FitsSigned w64 z → StopsPlain old s k r
  int64_refused {s} {z} over w large fits = plain_refused (int64 z) (inr (inl (z, w, large, fits, refl))) over

  pub plain_lacks : {s : List ℕ} → ((l : Leaf) → IsPlain s l → ⊥) → StopsPlain old s k r
  plain_lacks {s} none = record { refused = λ other means. absurd (none other means) }

  -- the value of a wrapper
  pub leaf_lacks : {wrapper : List ℕ} → LacksLeaf wrapper old.source.tokens → StopsLeaf old wrapper k r
  leaf_lacks {wrapper} none = record { refused = λ j l rest is e. absurd (none.none j l is rest e) }

  pub leaf_refused : {ts : List Token} {l : Leaf} (w : Wrapper) → Takes (Writes w) old.source.tokens ts l → RefusesValue old.document k (single l) r → StopsLeaf old (wrapper_key w) k r
  leaf_refused {ts} {l} w (j, e, wrote) over = record {
    refused = λ i other rest is f.
        let one = (same_value j i ts rest (sym e ∙ f)).0 in
        let len = one_wrapped_size w i l other (subst (λ (x : Json). Writes w x l) one wrote) is in
        subst (λ (x : ℕ). Refuses old.document (2 + length k + x) 0 r) len over.refused;
  }

-- the value that was to be put equals this one
pub refused_as : {u : Unfinished} {k : List ℕ} {v w : RawValue} {r : JsonReason} → RefusesValue u k v r → v ≡ w → RefusesValue u k w r
refused_as {u} {k} {v} {w} {r} over e = subst (λ (x : RawValue). RefusesValue u k x r) e over

-- wrappers

pub as_wrapper : {d n : ℕ} (w : Wrapper) (ts behind : List Token) → ValueThen d n (Token.begin_object ∷ Token.key (wrapper_key w) ∷ ts) behind → WrapperValueThen w d n ts behind
as_wrapper w ts behind value = wrapper_value w ts (Token.key (wrapper_key w) ∷ ts) behind refl (as_object (Token.key (wrapper_key w) ∷ ts) behind value)

module _ (w : Wrapper) (not_code : w ≡ wrapper.Code → ⊥) (not_scope : w ≡ wrapper.Scope → ⊥) (not_binary : w ≡ wrapper.Binary → ⊥) where
  leaf_then : {d n : ℕ} (ts behind : List Token) → WrapperValueThen w d n ts behind → LeafThen w n ts behind
  leaf_then {d} {n} ts behind (inl is) = is
  leaf_then {d} {n} ts behind (inr (inl (same, is))) = absurd (not_code (sym same))
  leaf_then {d} {n} ts behind (inr (inr (inl (same, is)))) = absurd (not_scope (sym same))
  leaf_then {d} {n} ts behind (inr (inr (inr (same, is)))) = absurd (not_binary (sym same))

  leaf_of : {d n : ℕ} (ts behind : List Token) → ValueThen d n (Token.begin_object ∷ Token.key (wrapper_key w) ∷ ts) behind → LeafThen w n ts behind
  leaf_of ts behind value = leaf_then ts behind (as_wrapper w ts behind value)

  end_behind : {n : ℕ} {ts mid : List Token} (j : Json) → ts ≡ json_tokens j ++ mid → (behind : List Token) → LeafThen w n ts behind → mid ≡ Token.end_object ∷ behind
  end_behind {n} {ts} {mid} j e behind (i, l, is, f, len) = (same_value j i mid (Token.end_object ∷ behind) (sym e ∙ f)).1

  size_of_leaf : {n : ℕ} {ts : List Token} (mid : List Token) (j : Json) (l : Leaf) → IsWrapped (wrapper_key w) j l → ts ≡ json_tokens j ++ mid → (behind : List Token) → LeafThen w n ts behind
      → length (leaf_payload l) ≡ n
  size_of_leaf {n} {ts} mid j l means e behind (i, other, is, f, len) =
      let one = (same_value j i mid (Token.end_object ∷ behind) (sym e ∙ f)).0 in
      one_wrapped_size w i l other (writes w i l (subst (λ (x : Json). IsWrapped (wrapper_key w) x l) one means)) is ∙ len

  pub wrapped_keeps : {old mid new : Reader} {k : List ℕ} → TakesLeaf old mid (wrapper_key w) k → mid.source.tokens ≡ Token.end_object ∷ new.source.tokens → new.document ≡ mid.document
      → KeepsValue old new k (Token.begin_object ∷ Token.key (wrapper_key w) ∷ [])
  wrapped_keeps {old} {mid} {new} {k} taken e same =
      put_keeps old new (length (leaf_payload taken.says)) (ap (λ (u : Unfinished). u.limits) same ∙ taken.puts.limits)
      (ap (λ (u : Unfinished). u.levels.items) same ∙ taken.puts.levels) (ap (λ (u : Unfinished). length u.bytes.items) same ∙ puts_len taken.puts)
      (λ d m behind value.
      let leaf = leaf_of old.source.tokens behind value in
      (same_behind e (end_behind taken.json taken.tokens behind leaf), size_of_leaf mid.source.tokens taken.json taken.says taken.is taken.tokens behind leaf))

  pub wrapped_stops : {old : Reader} {k : List ℕ} (r : JsonReason) → StopsLeaf old (wrapper_key w) k r → StopsValue old k (Token.begin_object ∷ Token.key (wrapper_key w) ∷ []) r
  wrapped_stops {old} {k} r stops = record {
    excused = λ size (behind, d, n, value, deep, outer).
        let (j, l, is, e, len) = leaf_of old.source.tokens behind value in
        refused_next old k r size d n behind (deep, outer) (2 + length k + length (leaf_payload l)) 0 (omega (arith, len), omega arith)
        (stops.refused j l (Token.end_object ∷ behind) is e);
  }

  pub no_wrapper_end : {old mid : Reader} {k : List ℕ} → TakesLeaf old mid (wrapper_key w) k → LacksToken mid.source.tokens Token.end_object
      → LacksValue (Token.begin_object ∷ Token.key (wrapper_key w) ∷ old.source.tokens)
  no_wrapper_end {old} {mid} {k} taken none d n behind value = none behind (end_behind taken.json taken.tokens behind (leaf_of old.source.tokens behind value))

-- a wrapper after its key, whose tokens are read on
pub wrapped_as : {old : Reader} {k : List ℕ} (r : JsonReason) (w v : Wrapper) → w ≡ v → StopsValue old k (Token.begin_object ∷ Token.key (wrapper_key v) ∷ []) r
    → StopsValue old k (Token.begin_object ∷ Token.key (wrapper_key w) ∷ []) r
wrapped_as {old} {k} r w v e stops = subst (λ (x : Wrapper). StopsValue old k (Token.begin_object ∷ Token.key (wrapper_key x) ∷ []) r) (sym e) stops

pub stops_as : {old : Reader} {k : List ℕ} {r : JsonReason} {taken others : List Token} → taken ≡ others → StopsValue old k taken r → StopsValue old k others r
stops_as {old} {k} {r} {taken} {others} e stops = subst (λ (x : List Token). StopsValue old k x r) e stops

-- code

abbrev pub CodeStarts : ℕ → ℕ → List Token → List Token → Type 0
CodeStarts d n ts behind = (s : List ℕ) × (((ts ≡ Token.string s ∷ Token.end_object ∷ behind) × (length (leaf_payload (javascript_code s)) ≡ n))
    ⊎ ((rest : List Token) × (ts ≡ Token.string s ∷ Token.key (codes "$scope") ∷ Token.begin_object ∷ rest) × ScopeSized s d n rest (Token.end_object ∷ behind)))

of_code : {d n : ℕ} (ts behind : List Token) (j : Json) (l : Leaf) → Writes wrapper.Code j l → ts ≡ json_tokens j ++ (Token.end_object ∷ behind) → length (leaf_payload l) ≡ n
    → CodeStarts d n ts behind
of_code {d} {n} ts behind json.null l is e len = absurd is
of_code {d} {n} ts behind (json.boolean b) l is e len = absurd is
of_code {d} {n} ts behind (json.number s) l is e len = absurd is
of_code {d} {n} ts behind (json.string s) l is e len = (s, inl (e, sym (ap (λ (x : Leaf). length (leaf_payload x)) is) ∙ len))
of_code {d} {n} ts behind (json.array js) l is e len = absurd is
of_code {d} {n} ts behind (json.object ms) l is e len = absurd is

scope_is_no_code : wrapper.Scope ≡ wrapper.Code → ⊥
scope_is_no_code e = cc

pub binary_is_no_code : wrapper.Binary ≡ wrapper.Code → ⊥
binary_is_no_code e = cc

pub binary_is_no_scope : wrapper.Binary ≡ wrapper.Scope → ⊥
binary_is_no_scope e = cc

code_of : {d n : ℕ} (ts behind : List Token) → WrapperValueThen wrapper.Code d n ts behind → CodeStarts d n ts behind
code_of {d} {n} ts behind (inl (j, l, is, e, len)) = of_code ts behind j l (writes wrapper.Code j l is) e len
code_of {d} {n} ts behind (inr (inl (same, (code, rest, e, scope)))) = (code, inr (rest, e, scope))
code_of {d} {n} ts behind (inr (inr (inl (same, is)))) = absurd (scope_is_no_code same)
code_of {d} {n} ts behind (inr (inr (inr (same, is)))) = absurd (binary_is_no_code same)

scope_of : {d n : ℕ} (ts behind : List Token) → WrapperValueThen wrapper.Scope d n ts behind → ScopeThen d n ts behind
scope_of {d} {n} ts behind (inl (j, l, is, e, len)) = absurd (writes wrapper.Scope j l is)
scope_of {d} {n} ts behind (inr (inl (same, is))) = absurd (scope_is_no_code (sym same))
scope_of {d} {n} ts behind (inr (inr (inl (same, is)))) = is
scope_of {d} {n} ts behind (inr (inr (inr (same, is)))) = absurd (binary_is_no_scope same)

code_starts : {d n : ℕ} (ts behind : List Token) → ValueThen d n (Token.begin_object ∷ Token.key (codes "$code") ∷ ts) behind → CodeStarts d n ts behind
code_starts ts behind value = code_of ts behind (as_wrapper wrapper.Code ts behind value)

no_string : {d n : ℕ} {ts behind : List Token} → ((s : List ℕ) → LacksToken ts (Token.string s)) → CodeStarts d n ts behind → ⊥
no_string {d} {n} {ts} {behind} none (s, inl e) = none s (Token.end_object ∷ behind) e.0
no_string {d} {n} {ts} {behind} none (s, inr (rest, e, scope)) = none s (Token.key (codes "$scope") ∷ Token.begin_object ∷ rest) e

pub no_code : {ts : List Token} → ((s : List ℕ) → LacksToken ts (Token.string s)) → LacksValue (Token.begin_object ∷ Token.key (codes "$code") ∷ ts)
no_code {ts} none d n behind value = no_string none (code_starts ts behind value)

behind_string : {ts a b : List Token} {s t : List ℕ} → ts ≡ Token.string s ∷ a → ts ≡ Token.string t ∷ b → a ≡ b
behind_string e f = cc

neither_behind : {d n : ℕ} {ts mid behind : List Token} {code : List ℕ} → ts ≡ Token.string code ∷ mid → LacksToken mid Token.end_object → LacksToken mid (Token.key (codes "$scope"))
    → CodeStarts d n ts behind → ⊥
neither_behind {d} {n} {ts} {mid} {behind} {code} f end scope (s, inl e) = end behind (behind_string f e.0)
neither_behind {d} {n} {ts} {mid} {behind} {code} f end scope (s, inr (rest, e, members)) = scope (Token.begin_object ∷ rest) (behind_string f e)

pub no_code_end : {ts mid : List Token} {code : List ℕ} → ts ≡ Token.string code ∷ mid → LacksToken mid Token.end_object → LacksToken mid (Token.key (codes "$scope"))
    → LacksValue (Token.begin_object ∷ Token.key (codes "$code") ∷ ts)
no_code_end {ts} {mid} {code} f end scope d n behind value = neither_behind f end scope (code_starts ts behind value)

pub no_code_token : {ts mid : List Token} {code : List ℕ} → ts ≡ Token.string code ∷ mid → NoToken mid → LacksValue (Token.begin_object ∷ Token.key (codes "$code") ∷ ts)
no_code_token {ts} {mid} {code} f none = no_code_end f (no_token none Token.end_object end_is_good) (no_token none (Token.key (codes "$scope")) (key_is_good (codes "$scope")))

end_is_no_key : {ts a b : List Token} {k : List ℕ} → ts ≡ Token.end_object ∷ a → ts ≡ Token.key k ∷ b → ⊥
end_is_no_key e f = cc

only_code : {d n : ℕ} {ts new behind : List Token} {code : List ℕ} → ts ≡ Token.string code ∷ Token.end_object ∷ new → CodeStarts d n ts behind
    → (new ≡ behind) × (length (leaf_payload (javascript_code code)) ≡ n)
only_code {d} {n} {ts} {new} {behind} {code} f (s, inl e) =
    (same_behind refl (behind_string f e.0), ap (λ (x : List ℕ). length (leaf_payload (javascript_code x))) (same_text f e.0) ∙ e.1)
only_code {d} {n} {ts} {new} {behind} {code} f (s, inr (rest, e, scope)) = absurd (end_is_no_key refl (behind_string f e))

pub code_put_keeps : {old mid new : Reader} {k code : List ℕ} → old.source.tokens ≡ Token.string code ∷ Token.end_object ∷ new.source.tokens → mid.document ≡ old.document
    → Puts mid new k (single (javascript_code code)) → KeepsValue old new k (Token.begin_object ∷ Token.key (codes "$code") ∷ [])
code_put_keeps {old} {mid} {new} {k} {code} f same puts =
    put_keeps old new (length (leaf_payload (javascript_code code))) (puts.limits ∙ ap (λ (u : Unfinished). u.limits) same) (puts.levels ∙ ap (λ (u : Unfinished). u.levels.items) same)
    (puts_len puts ∙ ap (λ (u : Unfinished). length u.bytes.items + (2 + length k + length (leaf_payload (javascript_code code)))) same)
    (λ d m behind value. only_code f (code_starts old.source.tokens behind value))

pub code_refused : {old : Reader} {k code : List ℕ} {rest : List Token} (r : JsonReason) → old.source.tokens ≡ Token.string code ∷ Token.end_object ∷ rest
    → RefusesValue old.document k (single (javascript_code code)) r → StopsValue old k (Token.begin_object ∷ Token.key (codes "$code") ∷ []) r
code_refused {old} {k} {code} {rest} r f over = value_refused r (2 + length k + length (leaf_payload (javascript_code code))) 0
    (λ d m behind value. (omega (arith, (only_code f (code_starts old.source.tokens behind value)).1), omega arith)) over.refused

abbrev pub BraceThen : List ℕ → ℕ → ℕ → List Token → List Token → Type 0
BraceThen code d n ts behind = (rest : List Token) × (ts ≡ Token.begin_object ∷ rest) × ScopeSized code d n rest (Token.end_object ∷ behind)

-- the tokens of a code up to the brace of its scope
abbrev pub code_head : List ℕ → List Token
code_head code = Token.begin_object ∷ Token.key (codes "$code") ∷ Token.string code ∷ Token.key (codes "$scope") ∷ []

only_scope : {d n : ℕ} {ts behind : List Token} {code : List ℕ} → CodeStarts d n (Token.string code ∷ Token.key (codes "$scope") ∷ ts) behind → BraceThen code d n ts behind
only_scope {d} {n} {ts} {behind} {code} (s, inl e) = absurd (end_is_no_key refl (behind_string e.0 refl))
only_scope {d} {n} {ts} {behind} {code} (s, inr (rest, e, scope)) =
    (rest, same_behind refl (behind_string refl e), subst (λ (x : List ℕ). ScopeSized x d n rest (Token.end_object ∷ behind)) (sym (same_text refl e)) scope)

brace_of : {d n : ℕ} (code : List ℕ) (ts behind : List Token) → ValueThen d n (code_head code ++ ts) behind → BraceThen code d n ts behind
brace_of code ts behind value = only_scope (code_starts (Token.string code ∷ Token.key (codes "$scope") ∷ ts) behind value)

pub no_scope : {ts : List Token} (code : List ℕ) → LacksToken ts Token.begin_object → LacksValue (code_head code ++ ts)
no_scope {ts} code none d n behind value = let (rest, e, scope) = brace_of code ts behind value in none rest e

-- what is refused of a scope after its code, up to its length
pub scope_refused : {old : Reader} {k : List ℕ} (code : List ℕ) (r : JsonReason) (bytes levels : ℕ) → bytes ≤ 2 + length k + 4 + (5 + length code) + 4 → levels ≤ 1
    → Refuses old.document bytes levels r → StopsValue old k (code_head code) r
scope_refused {old} {k} code r bytes levels few one over = value_refused r bytes levels
    (λ d n behind value.
    let (rest, e, (deep, m, members, fewer, sum)) = brace_of code old.source.tokens behind value in
    (omega (arith, few, sum), omega (arith, one, fewer))) over

pub scope_begun : {old new : Reader} {k : List ℕ} {ls : List Level} (code : List ℕ) (inner start : ℕ) → old.source.tokens ≡ Token.begin_object ∷ new.source.tokens
    → new.document.limits ≡ old.document.limits → ls ≡ old.document.levels.items → new.document.levels.items ≡ ls ++ level_at (holder.Scope inner) start ∷ []
    → len_of new ≡ len_of old + (2 + length k + 4 + (5 + length code) + 4) → KeepsValue old new k (code_head code)
scope_begun {old} {new} {k} {ls} code inner start f limits same levels len =
    open_keeps old new (holder.Scope inner) start (2 + length k + 4 + (5 + length code) + 4) limits same levels len
    (λ d m behind value.
    let (rest, e, (deep, inside, members, fewer, sum)) = brace_of code old.source.tokens behind value in
    let at = subst (λ (x : List Token). MembersThen deep inside x (Token.end_object ∷ behind)) (same_behind e f) members in
    (deep, inside + 1 + 0, (Token.end_object ∷ behind, inside, 0, at, (refl, refl), refl), fewer, omega (arith, sum)))

scope_starts : {d n : ℕ} (ts behind : List Token) → ValueThen d n (Token.begin_object ∷ Token.key (codes "$scope") ∷ ts) behind → ScopeThen d n ts behind
scope_starts ts behind value = scope_of ts behind (as_wrapper wrapper.Scope ts behind value)

pub no_scope_before : {ts : List Token} → LacksToken ts Token.begin_object → LacksValue (Token.begin_object ∷ Token.key (codes "$scope") ∷ ts)
no_scope_before {ts} none d n behind value = let (code, rest, e, scope) = scope_starts ts behind value in none rest e

pub before_code_refused : {old : Reader} {k : List ℕ} (r : JsonReason) (bytes levels : ℕ) → bytes ≤ 2 + length k + 4 + 4 → levels ≤ 1
    → Refuses old.document bytes levels r → StopsValue old k (Token.begin_object ∷ Token.key (codes "$scope") ∷ []) r
before_code_refused {old} {k} r bytes levels few one over = value_refused r bytes levels
    (λ d n behind value.
    let (code, rest, e, (deep, m, members, fewer, sum)) = scope_starts old.source.tokens behind value in
    (omega (arith, few, sum), omega (arith, one, fewer))) over

pub before_code_begun : {old new : Reader} {k : List ℕ} {ls : List Level} (inner start : ℕ) → old.source.tokens ≡ Token.begin_object ∷ new.source.tokens
    → new.document.limits ≡ old.document.limits → ls ≡ old.document.levels.items → new.document.levels.items ≡ ls ++ level_at (holder.ScopeBeforeCode inner) start ∷ []
    → len_of new ≡ len_of old + (2 + length k + 4 + 4) → KeepsValue old new k (Token.begin_object ∷ Token.key (codes "$scope") ∷ [])
before_code_begun {old} {new} {k} {ls} inner start f limits same levels len =
    open_keeps old new (holder.ScopeBeforeCode inner) start (2 + length k + 4 + 4) limits same levels len
    (λ d m behind value.
    let (code, rest, e, (deep, inside, members, fewer, sum)) = scope_starts old.source.tokens behind value in
    let after : List Token = Token.key (codes "$code") ∷ Token.string code ∷ Token.end_object ∷ behind in
    let at = subst (λ (x : List Token). MembersThen deep inside x after) (same_behind e f) members in
    (deep, (inside + 1) + (5 + length code), (after, inside, 5 + length code, at, (code, refl, refl), refl), fewer, omega (arith, sum)))

-- levels that don't continue

module _ (h : Holder) (has : HasMembers h) {ts : List Token} where
  pub no_member : LacksToken ts Token.end_object → ((k : List ℕ) → LacksToken ts (Token.key k)) → LacksLevel h ts
  no_member end key d n behind (rest, m, after, inside, wrapper, sum) = none_taken _ _ h ts rest has inside end key

  pub no_member_token : NoToken ts → LacksLevel h ts
  no_member_token none = no_member (no_token none Token.end_object end_is_good) (λ k. no_token none (Token.key k) (key_is_good k))

  pub no_such_key : {k : List ℕ} {new : List Token} → ts ≡ Token.key k ∷ new → (MayBeIn h k → ⊥) → LacksLevel h ts
  no_such_key {k} {new} e never d n behind (rest, m, after, inside, wrapper, sum) = never (key_taken _ _ h ts rest has inside k new e).0

pub no_item_token : {ts : List Token} (items : ℕ) → NoToken ts → LacksLevel (holder.Array items) ts
no_item_token {ts} items none d n behind (rest, m, after, inside, wrapper, sum) =
    let (next, first, others, value, more, total) = item_next items ts rest inside (no_token none Token.end_array array_end_is_good) in no_value none d first next value

pub no_scope_end : {ts : List Token} (h : Holder) (start : ℕ) → h ≡ holder.Scope start → LacksToken ts Token.end_object → LacksWrapper h ts
no_scope_end {ts} h start is none n behind wrapper = none behind (subst (λ (x : Holder). WrapperThen x n ts behind) is wrapper).0

pub no_code_behind : {ts : List Token} (h : Holder) (start : ℕ) → h ≡ holder.ScopeBeforeCode start
    → ((s : List ℕ) (rest : List Token) → ts ≡ Token.key (codes "$code") ∷ Token.string s ∷ Token.end_object ∷ rest → ⊥) → LacksWrapper h ts
no_code_behind {ts} h start is none n behind wrapper =
    let (s, e, len) = subst (λ (x : Holder). WrapperThen x n ts behind) is wrapper in none s behind e

-- the string of a code after its scope is refused
pub code_behind_refused : {old : Reader} {code : List ℕ} {rest : List Token} (mid : Unfinished) (l : Level) (start : ℕ) (r : JsonReason) → l.holder ≡ holder.ScopeBeforeCode start
    → old.source.tokens ≡ Token.key (codes "$code") ∷ Token.string code ∷ Token.end_object ∷ rest → mid.limits ≡ old.document.limits
    → mid.levels.items ≡ old.document.levels.items → length mid.bytes.items ≡ len_of old + 1 → Refuses mid (5 + length code) 0 r → StopsClosed old l r
code_behind_refused {old} {code} {rest} mid l start r is e limits levels len over = wrapper_refused r (1 + (5 + length code))
    (λ n behind wrapper.
    let (same, size) = code_closes start e n behind (subst (λ (h : Holder). WrapperThen h n old.source.tokens behind) is wrapper) in omega (arith, size))
    (refused_later old.document mid 1 (5 + length code) 0 r limits levels len over)

-- the whole

-- if the tokens are those of a document, the rest can be ended so that it has the size of the document
pub record MayEnd (limits : Limits) (ts : List Token) (r : Reader) : Type 0 where
  pub limits_are : r.document.limits ≡ limits
  pub kept : (ms : Members) (es : Entries) → AreMembers ms es → ts ≡ json_tokens (json.object ms) → CanGoOn (size_of es) r

pub may_end_begun : {ls : List Level} {b : List ℕ} {limits : Limits} (n : ℕ) (r : Reader) (ts : List Token) → ls ≡ [] → b ≡ [] → r.document.limits ≡ limits
    → r.document.levels.items ≡ ls ++ level_at holder.Text n ∷ [] → bytes_of r ≡ b ++ unset → ts ≡ Token.begin_object ∷ r.source.tokens → MayEnd limits ts r
may_end_begun {ls} {b} {limits} n r ts e f same level bytes start = record {
  limits_are = same;
  kept = λ ms es are g.
      let levels : r.document.levels.items ≡ level_at holder.Text n ∷ [] = level ∙ ap (λ (x : List Level). x ++ level_at holder.Text n ∷ []) e in
      let len : len_of r ≡ 4 = ap length bytes ∙ ap (λ (x : List ℕ). length (x ++ unset)) f in
      let members : MembersThen (entries_depth es) (entries_len es) (members_tokens ms) [] = (ms, es, are, sym (append-nil (members_tokens ms)), omega arith, refl) in
      can_end (size_of es) r (level_at holder.Text n ∷ []) 4 (members_tokens ms) levels len (same_behind start g)
      ([], entries_depth es, entries_len es + 1 + 0, ([], entries_len es, 0, members, (refl, refl), refl), omega arith, (refl, omega arith));
}

popped : (size : Size) (all old : Reader) (l : Level) → all.document.levels.items ≡ old.document.levels.items ++ l ∷ [] → bytes_of old ≡ bytes_of all → old.source.tokens ≡ all.source.tokens
    → CanGoOn size all → LevelNext size old l
popped size all old l levels bytes tokens can =
    let one = subst (λ (x : List Level). CanEnd size x (len_of all) all.source.tokens) (levels_within all old.document.levels.items l levels) can in
    let two = subst (λ (x : List ℕ). CanEnd size (l ∷ levels_of old) (length x) all.source.tokens) (sym bytes) one in
    subst (λ (x : List Token). CanEnd size (l ∷ levels_of old) (len_of old) x) (sym tokens) two

pub may_end_on : {old new : Reader} {limits : Limits} (ts : List Token) (all : Reader) (l : Level) → all.document.levels.items ≡ old.document.levels.items ++ l ∷ [] → bytes_of old ≡ bytes_of all
    → old.document.limits ≡ all.document.limits → old.source.tokens ≡ all.source.tokens → MayEnd limits ts all → KeepsLevel old new l → MayEnd limits ts new
may_end_on {old} {new} {limits} ts all l levels bytes same tokens may keeps = record {
  limits_are = keeps.limits ∙ same ∙ may.limits_are;
  kept = λ ms es are e. keeps.kept (size_of es) (popped (size_of es) all old l levels bytes tokens (may.kept ms es are e));
}

pub none_on : {old : Reader} {limits : Limits} {r : JsonReason} (ts : List Token) (all : Reader) (l : Level) → all.document.levels.items ≡ old.document.levels.items ++ l ∷ []
    → bytes_of old ≡ bytes_of all → old.document.limits ≡ all.document.limits → old.source.tokens ≡ all.source.tokens → MayEnd limits ts all → StopsLevel old l r → StopsWhole limits ts r
none_on {old} {limits} {r} ts all l levels bytes same tokens may stops = record {
  excused = λ ms es are e.
      subst (λ (x : Limits). Excuses x (size_of es) r) (same ∙ may.limits_are) (stops.excused (size_of es) (popped (size_of es) all old l levels bytes tokens (may.kept ms es are e)));
}

pub read_whole : (ts : List Token) (all : Reader) (out : List ℕ) → all.document.levels.items ≡ [] → out ≡ bytes_of all → all.source.tokens ≡ [] → Whole ts all → SaysBytes ts out
read_whole ts all out levels bytes none whole =
    whole.made out (subst (λ (x : List Level). Rest out (reverse x) (bytes_of all) all.source.tokens) (sym levels) (none, bytes))

pub have_length : {limits : Limits} {out : List ℕ} (ts : List Token) (all : Reader) → all.document.levels.items ≡ [] → out ≡ bytes_of all → MayEnd limits ts all → HaveLength ts (length out)
have_length {limits} {out} ts all levels bytes may = record {
  same = λ ms es are e.
      let can = subst (λ (x : List Level). CanEnd (size_of es) (reverse x) (len_of all) all.source.tokens) levels (may.kept ms es are e) in
      sym can.1 ∙ ap length (sym bytes);
}

pub whole_lacks : {limits : Limits} (ts : List Token) (r : JsonReason) → ((ms : Members) → ts ≡ json_tokens (json.object ms) → ⊥) → StopsWhole limits ts r
whole_lacks ts r none = record { excused = λ ms es are e. absurd (none ms e) }

pub stops_at_end : {limits : Limits} (ts : List Token) (r : JsonReason) (all : Reader) → all.document.levels.items ≡ [] → MayEnd limits ts all → (all.source.tokens ≡ [] → ⊥) → StopsWhole limits ts r
stops_at_end {limits} ts r all levels may none = record {
  excused = λ ms es are e.
      absurd (none (subst (λ (x : List Level). CanEnd (size_of es) (reverse x) (len_of all) all.source.tokens) levels (may.kept ms es are e)).0);
}

-- the brace of the text is refused
pub whole_refused : {limits : Limits} (ts : List Token) (r : JsonReason) (u : Unfinished) → u.limits ≡ limits → u.levels.items ≡ [] → u.bytes.items ≡ [] → Refuses u 4 1 r → StopsWhole limits ts r
whole_refused {limits} ts r u same levels bytes over = record {
  excused = λ ms es are e.
      let deep : length u.levels.items + 1 ≤ suc (entries_depth es) = omega (arith, ap length levels) in
      let few : length u.bytes.items + 4 ≤ 5 + entries_len es = omega (arith, ap length bytes) in
      exceeds_more limits _ _ _ _ r deep few (subst (λ (x : Limits). Exceeds x (length u.levels.items + 1) (length u.bytes.items + 4) r) same over);
}

brace_is_good : Token.begin_object ≡ Token.bad → ⊥
brace_is_good e = cc

pub no_brace : {ts : List Token} → LacksToken ts Token.begin_object → (ms : Members) → ts ≡ json_tokens (json.object ms) → ⊥
no_brace {ts} none ms e = none (members_tokens ms) e

pub no_start : {ts : List Token} → NoToken ts → (ms : Members) → ts ≡ json_tokens (json.object ms) → ⊥
no_start none = no_brace (no_token none Token.begin_object brace_is_good)

-- a token that is another

pub other_first : {old new : List Token} {t : Token} → old ≡ t ∷ new → (u : Token) → (t ≡ u → ⊥) → LacksToken old u
other_first e u differ rest f = differ (same_first e f)

pub no_end_of : (t : Read) → (t ≡ read.EndObject → ⊥) → token_of t ≡ Token.end_object → ⊥
no_end_of read.BeginObject differ e = cc
no_end_of read.EndObject differ e = differ refl
no_end_of read.BeginArray differ e = cc
no_end_of read.EndArray differ e = cc
no_end_of (read.Key s) differ e = cc
no_end_of (read.String s) differ e = cc
no_end_of (read.Number s) differ e = cc
no_end_of (read.Bool b) differ e = cc
no_end_of read.Null differ e = cc
no_end_of read.Bad differ e = cc

pub no_key_of : (t : Read) → ((s : Bor (List ℕ)) → t ≡ read.Key s → ⊥) → (k : List ℕ) → token_of t ≡ Token.key k → ⊥
no_key_of read.BeginObject differ k e = cc
no_key_of read.EndObject differ k e = cc
no_key_of read.BeginArray differ k e = cc
no_key_of read.EndArray differ k e = cc
no_key_of (read.Key s) differ k e = differ s refl
no_key_of (read.String s) differ k e = cc
no_key_of (read.Number s) differ k e = cc
no_key_of (read.Bool b) differ k e = cc
no_key_of read.Null differ k e = cc
no_key_of read.Bad differ k e = cc

-- by the equations of a match

pub array_takes : {old new : Reader} (l : Level) (n : ℕ) → l.holder ≡ holder.Array n → TakesLevel old new (array_level n l.start) → TakesLevel old new l
array_takes {old} {new} l n e takes = subst (λ (h : Holder). TakesLevel old new (level_at h l.start)) (sym e) takes

pub array_level_keeps : {old new : Reader} (l : Level) (n : ℕ) → l.holder ≡ holder.Array n → KeepsLevel old new (array_level n l.start) → KeepsLevel old new l
array_level_keeps {old} {new} l n e keeps = subst (λ (h : Holder). KeepsLevel old new (level_at h l.start)) (sym e) keeps

pub array_level_stops : {old : Reader} {r : JsonReason} (l : Level) (n : ℕ) → l.holder ≡ holder.Array n → StopsLevel old (array_level n l.start) r → StopsLevel old l r
array_level_stops {old} {r} l n e stops = subst (λ (h : Holder). StopsLevel old (level_at h l.start) r) (sym e) stops
