-- How long the text of a fault is at most.
use Rattle.std.proofs.Common.{◌<◌, ◌≤◌, ◌^◌, ◌++◌, ℕ, List, length, ap, arith, length-append, codes, decimal, inl, inr, Option, None, Some}
use Rattle.std.proofs.lemmas.Fmt.{length-decimal-le}
use Rattle.bson_from_json.specs.JsonReason.{JsonReason}
use Rattle.bson_from_json.specs.JsonReason.TheVariants as json
use Rattle.bson_from_json.specs.Reasons.{reason_words as json_words, wrapper_words}
use Rattle.bson_from_json.specs.Wrapper.{Wrapper}
use Rattle.bson_from_json.specs.Wrapper.TheVariants as wrapper
use Rattle.raw_bson.specs.Reason.{Reason}
use Rattle.raw_bson.specs.Reason.TheVariants as reason
use Rattle.bsonraw_c.specs.FaultTexts.{IsFaultText, numbers_text, reason_words}
use Rattle.bsonraw_c.specs.JsonFaultTexts.{IsJsonFaultText}
use Rattle.bsonraw_c.specs.TextRooms.{PutsFront}
use Rattle.bsonraw_c.specs.declared.answers.FaultCode.{FaultCode}
use Rattle.bsonraw_c.specs.declared.from_json.JsonReport.{JsonReport}

words_few : (r : Option Reason) → length (reason_words r) < 50
words_few None = omega arith
words_few (Some reason.TooShort) = omega arith
words_few (Some reason.LengthIncorrect) = omega arith
words_few (Some reason.NotTerminated) = omega arith
words_few (Some reason.Overflowed) = omega arith
words_few (Some (reason.InvalidTag n)) = omega arith
words_few (Some (reason.StringHeadShort n)) = omega arith
words_few (Some reason.NegativeLength) = omega arith
words_few (Some reason.StringTooSmall) = omega arith
words_few (Some (reason.StringPastEnd n left)) = omega arith
words_few (Some reason.StringNotTerminated) = omega arith
words_few (Some (reason.PastEnd n left)) = omega arith
words_few (Some (reason.DocumentTooSmall n)) = omega arith
words_few (Some reason.NestedNotTerminated) = omega arith
words_few (Some (reason.LengthHeadShort n)) = omega arith
words_few (Some reason.NoTerminator) = omega arith
words_few (Some (reason.BadBoolean n)) = omega arith
words_few (Some reason.OldNoInner) = omega arith
words_few (Some reason.AddOverflow) = omega arith
words_few (Some reason.OldWrongInner) = omega arith
words_few (Some reason.CodeTooSmall) = omega arith
words_few (Some reason.InteriorNul) = omega arith
words_few (Some reason.TooLong) = omega arith
words_few (Some reason.TooManyBytes) = omega arith
words_few (Some reason.TooDeep) = omega arith

digits_few : (n : ℕ) → n < 2 ^ 64 → length (decimal n) ≤ 20
digits_few n small = length-decimal-le 20 n (omega arith) (omega (arith, small)) small

first_few : (n : ℕ) → n < 2 ^ 64 → length (codes ": " ++ decimal n) ≤ 22
first_few n small = omega (arith, length-append (codes ": ") (decimal n), digits_few n small)

left_few : (n : ℕ) → n < 2 ^ 64 → length (codes ": " ++ decimal n ++ codes " are left") ≤ 31
left_few n small = omega (arith, length-append (codes ": " ++ decimal n) (codes " are left"), first_few n small)

both_few : (n left : ℕ) → n < 2 ^ 64 → left < 2 ^ 64 → length (codes ": " ++ decimal n ++ codes " where " ++ decimal left ++ codes " are left") ≤ 58
both_few n left small few =
    let front = codes ": " ++ decimal n in
    let middle = front ++ codes " where " in
    omega (arith, length-append (middle ++ decimal left) (codes " are left"), length-append middle (decimal left), length-append front (codes " where "), first_few n small, digits_few left few)

numbers_few : (r : Option Reason) (n left : ℕ) → n < 2 ^ 64 → left < 2 ^ 64 → length (numbers_text r n left) ≤ 58
numbers_few None n left small few = omega arith
numbers_few (Some reason.TooShort) n left small few = omega arith
numbers_few (Some reason.LengthIncorrect) n left small few = omega arith
numbers_few (Some reason.NotTerminated) n left small few = omega arith
numbers_few (Some reason.Overflowed) n left small few = omega arith
numbers_few (Some (reason.InvalidTag x)) n left small few = omega (arith, first_few n small)
numbers_few (Some (reason.StringHeadShort x)) n left small few = omega (arith, left_few left few)
numbers_few (Some reason.NegativeLength) n left small few = omega arith
numbers_few (Some reason.StringTooSmall) n left small few = omega arith
numbers_few (Some (reason.StringPastEnd x y)) n left small few = both_few n left small few
numbers_few (Some reason.StringNotTerminated) n left small few = omega arith
numbers_few (Some (reason.PastEnd x y)) n left small few = both_few n left small few
numbers_few (Some (reason.DocumentTooSmall x)) n left small few = omega (arith, first_few n small)
numbers_few (Some reason.NestedNotTerminated) n left small few = omega arith
numbers_few (Some (reason.LengthHeadShort x)) n left small few = omega (arith, left_few left few)
numbers_few (Some reason.NoTerminator) n left small few = omega arith
numbers_few (Some (reason.BadBoolean x)) n left small few = omega (arith, first_few n small)
numbers_few (Some reason.OldNoInner) n left small few = omega arith
numbers_few (Some reason.AddOverflow) n left small few = omega arith
numbers_few (Some reason.OldWrongInner) n left small few = omega arith
numbers_few (Some reason.CodeTooSmall) n left small few = omega arith
numbers_few (Some reason.InteriorNul) n left small few = omega arith
numbers_few (Some reason.TooLong) n left small few = omega arith
numbers_few (Some reason.TooManyBytes) n left small few = omega arith
numbers_few (Some reason.TooDeep) n left small few = omega arith

pub fault_few : (told : FaultCode) (text : List ℕ) → told.number < 2 ^ 64 → told.left < 2 ^ 64 → IsFaultText told text → length text < 150
fault_few told text small few (inl (kind, is)) = omega (arith, ap length is)
fault_few told text small few (inr (inl (kind, r, names, is))) =
    omega (arith, ap length is, length-append (reason_words r) (numbers_text r told.number told.left), words_few r, numbers_few r told.number told.left small few)
fault_few told text small few (inr (inr (inl (kind, is)))) = omega (arith, ap length is)
fault_few told text small few (inr (inr (inr (kind, r, names, is)))) = omega (arith, ap length is, words_few r)

wrapper_few : (w : Wrapper) → length (wrapper_words w) < 100
wrapper_few wrapper.Oid = omega arith
wrapper_few wrapper.NumberInt = omega arith
wrapper_few wrapper.NumberLong = omega arith
wrapper_few wrapper.NumberDouble = omega arith
wrapper_few wrapper.NumberDecimal = omega arith
wrapper_few wrapper.Binary = omega arith
wrapper_few wrapper.Uuid = omega arith
wrapper_few wrapper.Date = omega arith
wrapper_few wrapper.RegularExpression = omega arith
wrapper_few wrapper.Timestamp = omega arith
wrapper_few wrapper.Code = omega arith
wrapper_few wrapper.Scope = omega arith
wrapper_few wrapper.DbPointer = omega arith
wrapper_few wrapper.Symbol = omega arith
wrapper_few wrapper.Undefined = omega arith
wrapper_few wrapper.MinKey = omega arith
wrapper_few wrapper.MaxKey = omega arith

json_few : (r : JsonReason) → length (json_words r) < 100
json_few json.OutOfMemory = omega arith
json_few json.TooManyBytes = omega arith
json_few json.TooDeep = omega arith
json_few json.EndOfText = omega arith
json_few json.ByteOrderMark = omega arith
json_few json.ExpectedDocument = omega arith
json_few json.ExpectedKey = omega arith
json_few json.ExpectedColon = omega arith
json_few json.ExpectedComma = omega arith
json_few json.ExpectedValue = omega arith
json_few json.TextBehind = omega arith
json_few json.BadNumber = omega arith
json_few json.IntegerTooLarge = omega arith
json_few json.NumberTooLarge = omega arith
json_few json.ControlCharacter = omega arith
json_few json.BadEscape = omega arith
json_few json.LoneSurrogate = omega arith
json_few json.InteriorNul = omega arith
json_few (json.Malformed w) = wrapper_few w
json_few json.InexactDecimal = omega arith

pub json_fault_few : (report : JsonReport) (text : List ℕ) → IsJsonFaultText report text → length text < 100
json_fault_few report text (inl (r, names, is)) = omega (arith, ap length is, json_few r)
json_fault_few report text (inr (inl (names, is))) = omega (arith, ap length is)
json_fault_few report text (inr (inr (inl (number, is)))) = omega (arith, ap length is)
json_fault_few report text (inr (inr (inr (number, is)))) = omega (arith, ap length is)

pub counted : (text before after : List ℕ) (count n : ℕ) → PutsFront text before after count → length text < n → count < n
counted text before after count n puts few = omega (arith, puts.1, few)
