-- Numbers that are appended: elements whose payload is the lowest bytes of a number, or has none.
use Rattle.std.specs.Prelude.{◌≡◌, ◌≢◌, ◌⊎◌, ℕ, List, [], Option, None, Some, cond, nat_le, take}
use Rattle.std.specs.Int.{w64, to_le_bytes}
use Rattle.raw_bson.specs.ElementType.{ElementType}
use Rattle.raw_bson.specs.Frame.{Frame}
use Rattle.raw_bson.specs.Kind.{tag_of}
use Rattle.bsonraw_c.specs.Build.{Appends, Declines, IsOpen, IsReadElement, Refuses, layout_of}
use Rattle.bsonraw_c.specs.declared.build.Builder.{Builder}
use Rattle.bsonraw_c.specs.declared.build_parts.Layout.{Layout}
use Rattle.bsonraw_c.specs.declared.build_parts.Layout.TheVariants as layout
use Rattle.bsonraw_c.specs.declared.codes.Status.TheVariants as status

-- how many bytes the payload of a kind with this layout has, where each has as many, and at most eight
abbrev pub number_size : Layout → Option ℕ
number_size (layout.Fixed n) = cond (nat_le n 8) (Some n) None
number_size layout.Flag = Some 1
number_size layout.Text = None
number_size layout.Nested = None
number_size layout.Binary = None
number_size layout.Regex = None
number_size layout.Pointer = None
number_size layout.Scoped = None

-- the lowest n bytes of a number of 64 bits, the lowest first
abbrev pub lowest : ℕ → ℕ → List ℕ
lowest n number = take n (to_le_bytes w64 number)

-- no kind has the tag, or one without such a payload
abbrev pub IsNoNumber : ℕ → Type 0
IsNoNumber tag = ((k : ElementType) → tag ≢ tag_of k) ⊎ ((k : ElementType) × (tag ≡ tag_of k) × (number_size (layout_of k) ≡ None))

-- the kind with this tag has such a payload, of n bytes
abbrev pub IsNumber : ℕ → ℕ → Type 0
IsNumber tag n = (k : ElementType) × (tag ≡ tag_of k) × (number_size (layout_of k) ≡ Some n)

-- What an append of a number leaves: what that of its lowest bytes does, as many as the kind with the tag has; or there is no such kind.
abbrev pub AppendsNumber : ℕ → List ℕ → ℕ → Builder → Builder → List ℕ → List ℕ → Type 0
AppendsNumber tag key number old new before after =
    Declines old new before after
    ⊎ (IsOpen old × IsNoNumber tag × Refuses status.OtherKind old new before after)
    ⊎ ((n : ℕ) × IsNumber tag n × Appends tag key (lowest n number) [] old new before after)

-- an element with the lowest bytes of the number, which is read as that
abbrev pub IsReadNumber : Builder → ℕ → List ℕ → ℕ → Frame → Type 0
IsReadNumber b tag key number f = (n : ℕ) × IsNumber tag n × IsReadElement b tag key (lowest n number) [] f
