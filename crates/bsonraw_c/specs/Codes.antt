-- The numbers that C knows: of statuses, faults, reasons and causes. They never change.
use Rattle.std.specs.Prelude.{◌≡◌, ℕ}
use Rattle.raw_bson.specs.Cause.{Cause}
use Rattle.raw_bson.specs.Cause.TheVariants as cause
use Rattle.raw_bson.specs.ErrorKind.{ErrorKind}
use Rattle.raw_bson.specs.ErrorKind.TheVariants as kind
use Rattle.raw_bson.specs.Errors.{IsReadingReason}
use Rattle.raw_bson.specs.Frame.{Fault, Malformed, Utf8}
use Rattle.raw_bson.specs.Reason.{Reason}
use Rattle.raw_bson.specs.Reason.TheVariants as reason
use Rattle.bsonraw_c.specs.declared.answers.FaultCode.{FaultCode}
use Rattle.bsonraw_c.specs.declared.codes.Status.{Status}
use Rattle.bsonraw_c.specs.declared.codes.Status.TheVariants as status

abbrev pub status_code : Status → ℕ
status_code status.Done = 0
status_code status.Nothing = 1
status_code status.Fault = 2
status_code status.Breach = 3
status_code status.NoDocument = 4
status_code status.TooManyBytes = 5
status_code status.TooDeep = 6
status_code status.TooLong = 7
status_code status.SmallBuffer = 8
status_code status.BadOffset = 9
status_code status.NoMemory = 10
status_code status.OtherKind = 11
status_code status.Misuse = 13

abbrev pub fault_code : Fault → ℕ
fault_code (Malformed _) = 1
fault_code Utf8 = 2

abbrev pub reason_code : Reason → ℕ
reason_code reason.TooShort = 1
reason_code reason.LengthIncorrect = 2
reason_code reason.NotTerminated = 3
reason_code reason.Overflowed = 4
reason_code (reason.InvalidTag _) = 5
reason_code (reason.StringHeadShort _) = 6
reason_code reason.NegativeLength = 7
reason_code reason.StringTooSmall = 8
reason_code (reason.StringPastEnd _ _) = 9
reason_code reason.StringNotTerminated = 10
reason_code (reason.PastEnd _ _) = 11
reason_code (reason.DocumentTooSmall _) = 12
reason_code reason.NestedNotTerminated = 13
reason_code (reason.LengthHeadShort _) = 14
reason_code reason.NoTerminator = 15
reason_code (reason.BadBoolean _) = 16
reason_code reason.OldNoInner = 17
reason_code reason.AddOverflow = 18
reason_code reason.OldWrongInner = 19
reason_code reason.CodeTooSmall = 20
reason_code reason.InteriorNul = 21
reason_code reason.TooLong = 22
reason_code reason.TooManyBytes = 23
reason_code reason.TooDeep = 24

abbrev pub cause_code : Cause → ℕ
cause_code cause.Stop = 1
cause_code cause.Value = 2
cause_code cause.RepeatedKey = 3
cause_code cause.ArrayKey = 4
cause_code cause.Options = 5

-- the tag, the byte or the size that a reason names, and 0 where it names none
abbrev pub reason_number : Reason → ℕ
reason_number (reason.InvalidTag byte) = byte
reason_number (reason.BadBoolean byte) = byte
reason_number (reason.StringPastEnd size _) = size
reason_number (reason.PastEnd size _) = size
reason_number (reason.DocumentTooSmall size) = size
reason_number _ = 0

-- how many bytes are left, where a reason says that, and else 0
abbrev pub reason_left : Reason → ℕ
reason_left (reason.StringHeadShort left) = left
reason_left (reason.LengthHeadShort left) = left
reason_left (reason.StringPastEnd _ left) = left
reason_left (reason.PastEnd _ left) = left
reason_left _ = 0

-- the fault that an error of this kind says, as a number; out of memory says none
abbrev pub kind_code : ErrorKind → ℕ
kind_code (kind.MalformedValue why) = fault_code (Malformed why)
kind_code (kind.Utf8EncodingError _) = fault_code Utf8
kind_code kind.OutOfMemory = 0

-- no reason
abbrev pub IsNoReason : FaultCode → Type 0
IsNoReason told = (told.reason ≡ 0) × (told.number ≡ 0) × (told.left ≡ 0)

-- the numbers say the kind of an error, and its reason where it has one
abbrev pub SaysReason : ErrorKind → FaultCode → Type 0
SaysReason (kind.MalformedValue r) told = (told.reason ≡ reason_code r) × (told.number ≡ reason_number r) × (told.left ≡ reason_left r)
SaysReason _ told = IsNoReason told

abbrev pub SaysKind : ErrorKind → FaultCode → Type 0
SaysKind k told = (told.kind ≡ kind_code k) × SaysReason k told

-- no fault
abbrev pub IsNoFault : FaultCode → Type 0
IsNoFault told = (told.kind ≡ 0) × IsNoReason told

-- the numbers say this fault: malformed bytes, for their reason, which is one that reading has; or a text that isn't UTF-8,
-- without one
abbrev pub TellsFaultCode : Fault → FaultCode → Type 0
TellsFaultCode (Malformed why) told = IsReadingReason why × SaysKind (kind.MalformedValue why) told
TellsFaultCode Utf8 told = (told.kind ≡ fault_code Utf8) × IsNoReason told
