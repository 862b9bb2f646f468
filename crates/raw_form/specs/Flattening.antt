-- Helpers of flattening. No public contract cites this file.
use Rattle.std.specs.Prelude.{◌≡◌, [], ℕ, List, slice_index_or, slice_set}
use Rattle.raw_tree.specs.Barriers.{steps_of}
use Rattle.raw_tree.specs.declared.walk.barrier.BarrierKind.{BarrierKind}
use Rattle.raw_form.specs.declared.flatten.FlattenError.{FlattenError}
use Rattle.raw_form.specs.declared.flatten.FlattenError.TheVariants as error
use Rattle.raw_form.specs.declared.token.Token.{Token}

-- the token at this place, if there is one, has this number of tokens inside
abbrev pub with_inside : ℕ → ℕ → List Token → List Token
with_inside n size ts =
    let none : Token = record { tag = 0; depth = 0; key_at = 0; key_len = 0; payload_at = 0; payload_len = 0; inside = 0 } in
    slice_set ts n (record (slice_index_or ts n none) { inside = size })

-- a barrier of this kind at the document as a whole
abbrev pub IsAtDocument : BarrierKind → FlattenError → Type 0
IsAtDocument kind (error.Barrier answer) = (answer.kind ≡ kind) × (steps_of answer.place ≡ []) × (answer.place.offset ≡ 0)
IsAtDocument kind error.OutOfMemory = ⊥
