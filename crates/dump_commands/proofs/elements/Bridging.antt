-- The leaves of a document come of its tokens.
use Rattle.std.proofs.Common.{◌≡◌, ◌<◌, ◌+◌, ◌||◌, ◌∙◌, ℕ, zero, suc, pos, List, [], ◌∷◌, ◌++◌, ap, append_assoc, arith, cond, drop, get_or, length, length-append, nat_eq, refl, rules, subst, sym, take}
use Rattle.std.proofs.lemmas.List.{append-nil, drop-drop, drop_at, get_or-take, get_or_at, length-drop, length-take-le, take-append-drop, take-take, take_at}
use Rattle.raw_view.specs.Frame.{Done, Frame, IsFrame, IsWalk}
use Rattle.raw_view.specs.Frame.Kind.{tag_of}
use Rattle.raw_view.specs.Meaning.{RawValue}
use Rattle.raw_view.specs.Meaning as raw
use Rattle.raw_view.specs.declared.element_type.ElementType.{ElementType}
use Rattle.raw_view.specs.declared.element_type.ElementType.TheVariants as kind
use Rattle.raw_view.specs.Frame.Format.{element_of, string_payload}
use Rattle.raw_view.specs.Frame.Number.{le32}
use Rattle.raw_view.proofs.Face.{front_and_rest}
use Rattle.raw_tree.specs.Payload.{payload_of}
use Rattle.raw_tree.specs.Looking.{size_of}
use Rattle.raw_tree.proofs.Face.{value_spelled}
use Rattle.raw_form.specs.Tokens.{AreInside, AreTokens, AreTokensOf, HasTokens, IsTokenOf, NestedUpTo}
use Rattle.raw_form.specs.declared.token.Token.{Token}
use Rattle.dump_commands.specs.elements.Changes.{AreLeaves, AreLeavesInside, AreLeavesOf, HasLeaves, HasLeavesAt, Leaf, compared}
use Rattle.dump_commands.specs.elements.Numbered.{around_next, compared_at, leaves_from, path_after}

-- the bytes s are in b from this offset on
abbrev IsIn : List ℕ → ℕ → List ℕ → Type 0
IsIn b offset s = (rest : List ℕ) × (drop offset b ≡ s ++ rest)

-- what follows some of them
then_in : (b : List ℕ) (offset end : ℕ) (x y : List ℕ) → offset + length x ≡ end → IsIn b offset (x ++ y) → IsIn b end y
then_in b offset end x y e (rest, is) =
    (rest, ap (λ (n : ℕ). drop n b) (sym e) ∙ sym (drop-drop (length x) offset b) ∙ ap (drop (length x)) (is ∙ append_assoc x y rest) ∙ drop_at x (y ++ rest) (length x) refl)

-- some of them at their front
front_in : (b : List ℕ) (offset : ℕ) (x y : List ℕ) → IsIn b offset (x ++ y) → IsIn b offset x
front_in b offset x y (rest, is) = (y ++ rest, is ∙ append_assoc x y rest)

taken_in : (b : List ℕ) (offset n : ℕ) (x : List ℕ) → n ≡ length x → IsIn b offset x → take n (drop offset b) ≡ x
taken_in b offset n x e (rest, is) = ap (take n) is ∙ take_at x rest n (sym e)

-- after tokens the levels around are the same again
record ComesBack (b : List ℕ) (depth : ℕ) (around : List (List (List ℕ))) (ts us : List Token) (ls : List Leaf) : Type 0 where
  around' : List (List (List ℕ))
  same : take (suc depth) around' ≡ take (suc depth) around
  deep : depth < length around'
  comes : leaves_from b around (ts ++ us) ≡ ls ++ leaves_from b around' us

-- the tokens ts of elements that `depth` levels are around, of which the innermost has this path, come to the leaves ls
abbrev ComesTo : List ℕ → (path : List (List ℕ)) → ℕ → List Token → List Leaf → Type 0
ComesTo b path depth ts ls = (around : List (List (List ℕ))) (us : List Token) → depth < length around → get_or around depth [] ≡ path → ComesBack b depth around ts us ls

-- the path of the innermost level is the same again
same_level : (depth : ℕ) (x y : List (List (List ℕ))) → take (suc depth) x ≡ take (suc depth) y → get_or x depth [] ≡ get_or y depth []
same_level depth x y e = sym (get_or-take (suc depth) x depth [] (omega arith)) ∙ ap (λ (l : List (List (List ℕ))). get_or l depth []) e ∙ get_or-take (suc depth) y depth [] (omega arith)

none_comes : (b : List ℕ) (path : List (List ℕ)) (depth : ℕ) → ComesTo b path depth [] []
none_comes b path depth around us deep is = record { around' = around; same = refl; deep = deep; comes = refl }

both_come : (b : List ℕ) (path : List (List ℕ)) (depth : ℕ) (ts us : List Token) (ls ms : List Leaf) → ComesTo b path depth ts ls → ComesTo b path depth us ms
    → ComesTo b path depth (ts ++ us) (ls ++ ms)
both_come b path depth ts us ls ms one two around vs deep is =
    let first = one around (us ++ vs) deep is in
    let next = two first.around' vs first.deep (same_level depth first.around' around first.same ∙ is) in record {
      around' = next.around';
      same = next.same ∙ first.same;
      deep = next.deep;
      comes = ap (leaves_from b around) (append_assoc ts us vs) ∙ first.comes ∙ ap (λ (l : List Leaf). ls ++ l) next.comes ∙ sym (append_assoc ls ms (leaves_from b next.around' vs));
    }

-- the levels around are the same, after one more inside
same_again : (around around' : List (List (List ℕ))) (path : List (List ℕ)) (d : ℕ) {depth : ℕ} → d ≡ depth → depth < length around
    → take (suc (suc depth)) around' ≡ take (suc (suc depth)) (take (d + 1) around ++ path ∷ []) → take (suc depth) around' ≡ take (suc depth) around
same_again around around' path d {depth = depth} is deep same =
    let one : d + 1 ≡ suc depth = omega (arith, is) in
    let front = take (d + 1) around in
    let size : length front ≡ suc depth = length-take-le (d + 1) around (omega (arith, one, deep)) ∙ one in
    let first : take (suc depth) around' ≡ take (suc depth) (front ++ path ∷ []) =
    sym (take-take (suc depth) (suc (suc depth)) around' (omega arith)) ∙ ap (take (suc depth)) same ∙ take-take (suc depth) (suc (suc depth)) (front ++ path ∷ []) (omega arith) in
    first ∙ take_at front (path ∷ []) (suc depth) size ∙ ap (λ (n : ℕ). take n around) one

-- a token, and those inside
module _ (b : List ℕ) (path : List (List ℕ)) (depth offset : ℕ) (f : Frame) (t : Token) (inner : List Token) (inside : List Leaf)
    (is : IsTokenOf depth offset f (length inner) t) (key : take t.key_len (drop t.key_at b) ≡ f.key) where
  one_comes : ComesTo b (path ++ f.key ∷ []) (suc depth) inner inside → ComesTo b path depth (t ∷ inner) (record { path = path ++ f.key ∷ []; tag = t.tag; bytes = compared_at b t } ∷ inside)
  one_comes come around us deep there =
      let here : path_after b around t ≡ path ++ f.key ∷ [] = (λ i. get_or around (is.depth_is i) [] ++ key i ∷ []) ∙ ap (λ (p : List (List ℕ)). p ++ f.key ∷ []) there in
      let front = take (t.depth + 1) around in
      let one : t.depth + 1 ≡ suc depth = omega (arith, is.depth_is) in
      let size : length front ≡ suc depth = length-take-le (t.depth + 1) around (omega (arith, one, deep)) ∙ one in
      let back = come (around_next b around t) us (omega (arith, length-append front (path_after b around t ∷ []), size)) (get_or_at front (path_after b around t) [] [] (suc depth) size ∙ here) in
      record {
        around' = back.around';
        same = same_again around back.around' (path_after b around t) t.depth is.depth_is deep back.same;
        deep = omega (arith, back.deep);
        comes = λ i. record { path = here i; tag = t.tag; bytes = compared_at b t } ∷ back.comes i;
      }

-- what is compared, by a tag and by a kind
by_kind : (k : ElementType) (p : List ℕ) → cond (nat_eq (tag_of k) 3 || nat_eq (tag_of k) 4) [] p ≡ compared k p
by_kind kind.Double p = refl
by_kind kind.String p = refl
by_kind kind.EmbeddedDocument p = refl
by_kind kind.Array p = refl
by_kind kind.Binary p = refl
by_kind kind.Undefined p = refl
by_kind kind.ObjectId p = refl
by_kind kind.Boolean p = refl
by_kind kind.DateTime p = refl
by_kind kind.Null p = refl
by_kind kind.RegularExpression p = refl
by_kind kind.DbPointer p = refl
by_kind kind.JavaScriptCode p = refl
by_kind kind.Symbol p = refl
by_kind kind.JavaScriptCodeWithScope p = refl
by_kind kind.Int32 p = refl
by_kind kind.Timestamp p = refl
by_kind kind.Int64 p = refl
by_kind kind.Decimal128 p = refl
by_kind kind.MaxKey p = refl
by_kind kind.MinKey p = refl

compared_same : (b : List ℕ) (f : Frame) (t : Token) → t.tag ≡ tag_of f.kind → take t.payload_len (drop t.payload_at b) ≡ f.payload → compared_at b t ≡ compared f.kind f.payload
compared_same b f t tag payload = (λ i. cond (nat_eq (tag i) 3 || nat_eq (tag i) 4) [] (payload i)) ∙ by_kind f.kind f.payload

-- what follows an element
rest_in : (b s r : List ℕ) (f : Frame) (offset : ℕ) → IsFrame s f r → IsIn b offset s → IsIn b (offset + size_of f) r
rest_in b s r f offset at there =
    let front = element_of f.kind f.key f.payload in
    let whole : s ≡ front ++ r = front_and_rest s f r at in
    then_in b offset (offset + size_of f) front r (omega (arith, length-append f.key (0 ∷ f.payload))) (subst (IsIn b offset) whole there)

-- an element at an offset of b, where Nested says which tokens nested bytes have, and Leaves which leaves
module _ {b : List ℕ} {Nested : ℕ → List ℕ → List Token → Type 0} {Leaves : (path : List (List ℕ)) → List ℕ → List Leaf → Type 0} {depth : ℕ}
    (each : (start : ℕ) (d : List ℕ) (ts : List Token) (path : List (List ℕ)) → IsIn b start d → Nested start d ts
    → (ls : List Leaf) × Leaves path d ls × ComesTo b path (suc depth) ts ls) where
  -- nested bytes at the end of a value
  ends_with : (at end : ℕ) (front d : List ℕ) (ts : List Token) (path : List (List ℕ)) → at + length (front ++ d) ≡ end → IsIn b at (front ++ d) → NestedUpTo Nested end d ts
      → (ls : List Leaf) × Leaves path d ls × ComesTo b path (suc depth) ts ls
  ends_with at end front d ts path len there (start, ends, has) = each start d ts path (then_in b at start front d (omega (arith, ends, len, length-append front d)) there) has

  inside_comes : (v : RawValue) (at end : ℕ) (ts : List Token) (path : List (List ℕ)) → at + length (payload_of v) ≡ end → IsIn b at (payload_of v) → AreInside Nested v end ts
      → (ls : List Leaf) × AreLeavesInside Leaves path v ls × ComesTo b path (suc depth) ts ls
  inside_comes (raw.single leaf) at end ts path len there none = ([], refl, subst (λ (ts : List Token). ComesTo b path (suc depth) ts []) (sym none) (none_comes b path (suc depth)))
  inside_comes (raw.document d) at end ts path len there has = ends_with at end [] d ts path len there has
  inside_comes (raw.array d) at end ts path len there has = ends_with at end [] d ts path len there has
  inside_comes (raw.scoped code d) at end ts path len there has =
      let header = le32 (pos (4 + length (string_payload code ++ d))) in
      let whole : (header ++ string_payload code) ++ d ≡ payload_of (raw.scoped code d) = append_assoc header (string_payload code) d in
      ends_with at end (header ++ string_payload code) d ts path (omega (arith, len, ap length whole)) (subst (IsIn b at) (sym whole) there) has

  -- the tokens of an element, whose level has this path
  frame_comes : (s r : List ℕ) (f : Frame) (offset : ℕ) (path : List (List ℕ)) (ts : List Token) → IsFrame s f r → IsIn b offset s → AreTokensOf Nested depth offset f ts
      → (ls : List Leaf) × AreLeavesOf Leaves (path ++ f.key ∷ []) f ls × ComesTo b path depth ts ls
  frame_comes s r f offset path ts at there (v, t, inner, means, inside, is, whole) =
      let spelled = value_spelled f.kind f.payload r v at.payload_is means in
      let whole_in : IsIn b offset ((tag_of f.kind ∷ []) ++ (f.key ++ ((0 ∷ []) ++ (f.payload ++ r)))) = subst (IsIn b offset) at.spelled there in
      let key_in = then_in b offset (offset + 1) (tag_of f.kind ∷ []) (f.key ++ ((0 ∷ []) ++ (f.payload ++ r))) (omega arith) whole_in in
      let zero_in = then_in b (offset + 1) (offset + 1 + length f.key) f.key ((0 ∷ []) ++ (f.payload ++ r)) (omega arith) key_in in
      let value_in = then_in b (offset + 1 + length f.key) (offset + (2 + length f.key)) (0 ∷ []) (f.payload ++ r) (omega arith) zero_in in
      let payload_in = front_in b (offset + (2 + length f.key)) f.payload r value_in in
      let key : take t.key_len (drop t.key_at b) ≡ f.key =
      ap (λ (n : ℕ). take t.key_len (drop n b)) is.key_at ∙ taken_in b (offset + 1) t.key_len f.key is.key_len (front_in b (offset + 1) f.key _ key_in) in
      let payload : take t.payload_len (drop t.payload_at b) ≡ f.payload =
      ap (λ (n : ℕ). take t.payload_len (drop n b)) is.payload_at ∙ taken_in b (offset + (2 + length f.key)) t.payload_len f.payload is.payload_len payload_in in
      let (ms, are, come) = inside_comes v (offset + (2 + length f.key)) (offset + size_of f) inner (path ++ f.key ∷ []) (omega (arith, ap length spelled.0))
      (subst (IsIn b (offset + (2 + length f.key))) (sym spelled.0) payload_in) inside in
      let same = compared_same b f t is.tag payload in
      let ls = record { path = path ++ f.key ∷ []; tag = t.tag; bytes = compared_at b t } ∷ ms in (
        ls,
        (v, ms, means, are, λ i. record { path = path ++ f.key ∷ []; tag = is.tag i; bytes = same i } ∷ ms),
        subst (λ (ts : List Token). ComesTo b path depth ts ls) (sym whole) (one_comes b path depth offset f t inner ms is key come),
      )

  -- those of elements that follow one another
  frames_come : (s : List ℕ) (fs : List Frame) (offset : ℕ) (path : List (List ℕ)) (ts : List Token) → IsWalk s fs Done → IsIn b offset s → AreTokens Nested depth offset fs ts
      → (ls : List Leaf) × AreLeaves Leaves path fs ls × ComesTo b path depth ts ls
  frames_come s [] offset path ts walk there none = ([], refl, subst (λ (ts : List Token). ComesTo b path depth ts []) (sym none) (none_comes b path depth))
  frames_come s (f ∷ fs) offset path ts (r, at, walk) there (first, rest, are, others, whole) =
      let (ls, leaves, come) = frame_comes s r f offset path first at there are in
      let (ms, more, also) = frames_come r fs (offset + size_of f) path rest walk (rest_in b s r f offset at there) others in (
        ls ++ ms,
        (ls, ms, leaves, more, refl),
        subst (λ (ts : List Token). ComesTo b path depth ts (ls ++ ms)) (sym whole) (both_come b path depth first rest ls ms come also),
      )

-- a walk isn't empty
walk_some : (s : List ℕ) (fs : List Frame) → IsWalk s fs Done → 0 < length s
walk_some s [] walk = omega (arith, ap length walk)
walk_some s (f ∷ fs) (r, at, walk) = omega (arith, ap length at.spelled)

-- the tokens of nested bytes, and of those inside them
levels_come : (b : List ℕ) (n depth start : ℕ) (d : List ℕ) (ts : List Token) (path : List (List ℕ)) → IsIn b start d → HasTokens n depth start d ts
    → (ls : List Leaf) × HasLeavesAt n path d ls × ComesTo b path depth ts ls
levels_come b zero depth start d ts path there has = absurd has
levels_come b (suc n) depth start d ts path there (frames, walk, are) =
    let some = walk_some (drop 4 d) frames walk in
    let header : start + length (take 4 d) ≡ start + 4 = ap (λ (k : ℕ). start + k) (length-take-le 4 d (omega (arith, some, length-drop 4 d))) in
    let rest = then_in b start (start + 4) (take 4 d) (drop 4 d) header (subst (IsIn b start) (sym (take-append-drop 4 d)) there) in
    let (ls, leaves, come) =
    frames_come {b = b} {Nested = HasTokens n (suc depth)} {Leaves = HasLeavesAt n} {depth = depth}
    (λ start d ts path there has. levels_come b n (suc depth) start d ts path there has) (drop 4 d) frames (start + 4) path ts walk rest are in
    (ls, (frames, walk, leaves), come)

-- the leaves of a document
pub come_of : (b : List ℕ) (n : ℕ) (ts : List Token) → HasTokens n 0 0 b ts → HasLeaves b (leaves_from b ([] ∷ []) ts)
come_of b n ts has =
    let (ls, leaves, come) = levels_come b n 0 0 b ts [] ([], search rules) has in
    let back = come ([] ∷ []) [] (omega arith) refl in
    let all : ls ≡ leaves_from b ([] ∷ []) ts = sym (append-nil ls) ∙ sym back.comes ∙ ap (leaves_from b ([] ∷ [])) (append-nil ts) in
    (n, subst (HasLeavesAt n [] b) all leaves)
