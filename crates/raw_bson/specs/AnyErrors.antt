-- The error that every other error turns into.
use Rattle.std.specs.Prelude.{◌≡◌, ℕ, List, Option, Some}
use Rattle.raw_view.specs.Errors.Access.{IsSameAccess, key_asked}
use Rattle.raw_view.specs.Errors.{IsOutOfMemory, IsSameError, key_of}
use Rattle.raw_bson.specs.declared.any_error.AnyError.{AnyError}
use Rattle.raw_bson.specs.declared.any_error.AnyError.TheVariants as any

-- the key that an error carries
abbrev pub any_key : AnyError → Option (List ℕ)
any_key (any.Raw e) = key_of e
any_key (any.Access e) = Some (key_asked e)

-- two errors of the same sort, kind and key
abbrev pub IsSameAnyError : AnyError → AnyError → Type 0
IsSameAnyError (any.Raw s) (any.Raw t) = IsSameError s t
IsSameAnyError (any.Access s) (any.Access t) = IsSameAccess s.kind t.kind × (key_asked t ≡ key_asked s)
IsSameAnyError _ _ = ⊥

-- memory ran out
abbrev pub IsAnyOutOfMemory : AnyError → Type 0
IsAnyOutOfMemory (any.Raw e) = IsOutOfMemory e
IsAnyOutOfMemory (any.Access e) = ⊥
