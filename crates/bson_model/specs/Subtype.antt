-- The subtypes of binary values, and their bytes.
use Rattle.std.specs.Prelude.{◌≡◌, ℕ, ◌==◌, nat_lt, if◌then◌else◌}
use Rattle.bson_model.specs.declared.binaries.BinarySubtype.{BinarySubtype}
use Rattle.bson_model.specs.declared.binaries.BinarySubtype.TheVariants.{Generic, Function, BinaryOld, UuidOld, Uuid, Md5, Encrypted, Column, Sensitive, Vector, Reserved, UserDefined}

-- the subtype of a byte
abbrev pub subtype_of : ℕ → BinarySubtype
subtype_of byte =
    if byte == 0 then Generic
    else if byte == 1 then Function
    else if byte == 2 then BinaryOld
    else if byte == 3 then UuidOld
    else if byte == 4 then Uuid
    else if byte == 5 then Md5
    else if byte == 6 then Encrypted
    else if byte == 7 then Column
    else if byte == 8 then Sensitive
    else if byte == 9 then Vector
    else if nat_lt byte 128 then Reserved byte
    else UserDefined byte

-- the byte of a subtype
abbrev pub subtype_byte : BinarySubtype → ℕ
subtype_byte Generic = 0
subtype_byte Function = 1
subtype_byte BinaryOld = 2
subtype_byte UuidOld = 3
subtype_byte Uuid = 4
subtype_byte Md5 = 5
subtype_byte Encrypted = 6
subtype_byte Column = 7
subtype_byte Sensitive = 8
subtype_byte Vector = 9
subtype_byte (Reserved byte) = byte
subtype_byte (UserDefined byte) = byte

-- a subtype that its byte gives
abbrev pub IsProperSubtype : BinarySubtype → Type 0
IsProperSubtype subtype = subtype_of (subtype_byte subtype) ≡ subtype
