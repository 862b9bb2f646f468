-- The elements of all levels of a document as tokens, depth first. The bytes b of a document or of an array have an envelope.
use Rattle.std.specs.Prelude.{◌≡◌, ◌+◌, ◌++◌, ◌∷◌, [], ℕ, suc, zero, List, drop, length, Result, Ok, Err, ◌<◌, ◌≤◌, Some}
use Rattle.bson_model.specs.Tree.{Tree}
use Rattle.raw_view.specs.Frame.{Frame, IsWalk, Done}
use Rattle.raw_view.specs.Frame.Kind.{tag_of}
use Rattle.raw_view.specs.Meaning.{RawValue, Means, value}
use Rattle.raw_view.specs.Meaning as raw
use Rattle.raw_tree.specs.WithinLimits.{ReadsWithin}
use Rattle.raw_tree.specs.declared.reader.limits.Limits.{Limits}
use Rattle.raw_tree.specs.Barriers.{TellsBarrier}
use Rattle.raw_tree.specs.Looking.{size_of}
pub use Rattle.raw_tree.specs.Places.{last_key}
pub use Rattle.raw_tree.specs.Rooms.{filled_from}
use Rattle.raw_form.specs.declared.flatten.FlattenError.{FlattenError}
use Rattle.raw_form.specs.declared.flatten.FlattenError.TheVariants as error
use Rattle.raw_form.specs.declared.token.Token.{Token}

-- The token of a frame at this offset, in a level inside `depth` others, with `inside` tokens inside. Its key follows the tag, and its
-- payload follows the key and a 0.
pub record IsTokenOf (depth offset : ℕ) (f : Frame) (inside : ℕ) (t : Token) : Type 0 where
  pub tag : t.tag ≡ tag_of f.kind
  pub depth_is : t.depth ≡ depth
  pub key_at : t.key_at ≡ offset + 1
  pub key_len : t.key_len ≡ length f.key
  pub payload_at : t.payload_at ≡ offset + (2 + length f.key)
  pub payload_len : t.payload_len ≡ length f.payload
  pub inside_is : t.inside ≡ inside

-- Tokens. `Nested` says which tokens nested bytes have that begin at an offset.
module _ (Nested : ℕ → List ℕ → List Token → Type 0) where
  -- the tokens of nested bytes that end at this offset
  abbrev pub NestedUpTo : ℕ → List ℕ → List Token → Type 0
  NestedUpTo end d ts = (start : ℕ) × (start + length d ≡ end) × Nested start d ts

  -- the tokens inside a value that ends at this offset: none, or those of the nested bytes, which end there too
  abbrev pub AreInside : RawValue → ℕ → List Token → Type 0
  AreInside (raw.single l) end ts = ts ≡ []
  AreInside (raw.document d) end ts = NestedUpTo end d ts
  AreInside (raw.array d) end ts = NestedUpTo end d ts
  AreInside (raw.scoped code d) end ts = NestedUpTo end d ts

  -- the tokens of a frame at this offset: its own, then those inside the value that it means
  abbrev pub AreTokensOf : ℕ → ℕ → Frame → List Token → Type 0
  AreTokensOf depth offset f ts =
      (v : RawValue) × (t : Token) × (inner : List Token) × Means f (value v) × AreInside v (offset + size_of f) inner
      × IsTokenOf depth offset f (length inner) t × (ts ≡ t ∷ inner)

  -- the tokens of frames that follow one another, the first of them at this offset
  abbrev pub AreTokens : ℕ → ℕ → List Frame → List Token → Type 0
  AreTokens depth offset [] ts = ts ≡ []
  AreTokens depth offset (f ∷ fs) ts = (first rest : List Token) × AreTokensOf depth offset f first × AreTokens depth (offset + size_of f) fs rest × (ts ≡ first ++ rest)

-- The tokens of the bytes b: those of the frames of their walk, which ends at the final 0. The bytes begin at this offset, are inside
-- `depth` levels, and have at most n levels, b being the first.
abbrev pub HasTokens : ℕ → ℕ → ℕ → List ℕ → List Token → Type 0
HasTokens zero depth start b ts = ⊥
HasTokens (suc n) depth start b ts = (frames : List Frame) × IsWalk (drop 4 b) frames Done × AreTokens (HasTokens n (suc depth)) depth (start + 4) frames ts

-- What is returned for the document b: the number of its tokens, of which those that fit are at the front of the room; or its first barrier
-- with its place. Memory is requested only if there are few enough bytes and a level may be entered.
abbrev pub Flattens : Limits → List ℕ → List Token → List Token → Result ℕ FlattenError → Type 0
Flattens limits b before after (Ok count) =
    (ts : List Token) × (t : Tree) × ReadsWithin limits b t × HasTokens limits.depth 0 0 b ts × (count ≡ length ts) × (after ≡ filled_from 0 before ts)
Flattens limits b before after (Err (error.Barrier answer)) = TellsBarrier limits b (Some answer)
Flattens limits b before after (Err error.OutOfMemory) = (length b ≤ limits.bytes) × (0 < limits.depth)
