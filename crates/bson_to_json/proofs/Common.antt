-- The names of definitions and of lemmas that most proofs cite, passed on from one place. It declares nothing.
pub use Rattle.std.proofs.KnownBytes.{Appends-kept, Appends-nil, Appends-trans}
pub use Rattle.std.proofs.Math.Seq.{take-add, take-length}
pub use Rattle.std.proofs.lemmas.Bool.{cases_lt, eqb-false, eqb-true, ne_eqb}
pub use Rattle.std.proofs.lemmas.Bool.Decides.{nat_tests}
pub use Rattle.std.proofs.lemmas.Fmt.{IsAscii-from_digits, length-decimal-le_wide}
pub use Rattle.std.proofs.lemmas.Int.{ints}
pub use Rattle.std.proofs.lemmas.List.{length-append, length-drop, length-replicate, length-take-le, replicate-append-replicate, take_more}
pub use Rattle.std.proofs.lemmas.Result.{on_ok_weaker}
pub use Rattle.std.specs.Float.{binary64}
pub use Rattle.std.specs.Float.Ieee.{Float, fin, inf, nan}
pub use Rattle.std.specs.Float.Numeral.{Parts, exponent_text as exponent_of, nearest_float, text_of}
pub use Rattle.std.specs.Fmt.{digit_glyph, digits_onto, sign_text, signed_decimal}
pub use Rattle.std.specs.Int.{from_le_bytes, w64}
pub use Rattle.std.specs.Io.KnownBytes.{Appends, Keeps}
pub use Rattle.std.specs.Prelude.{T, not}
pub use Rattle.std.specs.Str.{IsAscii, IsUtf8}
pub use Rattle.std.specs.Str.Parse.{AllDigits, digits_value}
pub use Rattle.ryu.specs.Plain.{IsPlain, IsPlainNumber}
pub use Rattle.json.specs.Print.{escape, escape_byte, quoted}
pub use Rattle.base64.proofs.EngineFacts.{IsAscii-encode_of, encode_of-append, encode_of-nil}
pub use Rattle.base64.specs.Engines.{standard}
pub use Rattle.base64.specs.GeneralPurpose.{encode_of}
pub use Rattle.hex.specs.Hex.{encode_lower, lower_digits}
pub use Rattle.jiff_core.proofs.CalendarLemmas.{day_count-day, day_count-end, day_count-epoch, day_count-last_of_year, day_count-lt_year, day_count-next_month, day_count-next_year}
pub use Rattle.jiff_core.proofs.CalendarLemmas.{days_from_civil-day_count, days_in_month_bounds}
pub use Rattle.jiff_core.specs.Calendar.{IsCivilDate, day_count, days_from_civil, days_in_month, days_in_year}
pub use Rattle.bson_model.specs.Leaf.{Leaf, binary, boolean, date_time, db_pointer, decimal128, double, int32, int64, javascript_code, max_key, min_key, null, object_id, regular_expression}
pub use Rattle.bson_model.specs.Leaf.{string, symbol, timestamp, undefined}
pub use Rattle.bson_model.specs.Subtype.{subtype_byte}
pub use Rattle.bson_model.specs.Scalars.{bytes_of_decimal128, bytes_of_object_id}
pub use Rattle.bson_model.specs.Tree.{Tree}
pub use Rattle.raw_view.specs.Document.{bytes_of}
pub use Rattle.raw_view.specs.Frame.{Done, Frame, IsWalk}
pub use Rattle.raw_view.specs.Frame.ElementSteps.{frame_of}
pub use Rattle.raw_view.specs.Meaning.{MeansValue, RawValue}
pub use Rattle.raw_view.specs.Meaning.Value.{id_of, namespace_of, value_of}
pub use Rattle.raw_view.specs.declared.bson_ref.RawBsonRef.{RawBsonRef}
pub use Rattle.raw_view.specs.declared.document.RawDocument.{RawDocument}
pub use Rattle.raw_tree.specs.Barriers.{TellsBarrier}
pub use Rattle.raw_tree.specs.Reading.{ReadsUpTo}
pub use Rattle.raw_tree.specs.Looking.{size_of}
pub use Rattle.raw_tree.specs.Visits.{HasVisits, Visit, VisitsEach, VisitsLevel, VisitsValue}
pub use Rattle.raw_tree.specs.Walks.{Comes, ComesTo, HasCome, TellsError}
pub use Rattle.raw_tree.specs.WithinLimits.{ReadsWithin}
pub use Rattle.raw_tree.specs.declared.reader.limits.Limits.{Limits}
pub use Rattle.raw_tree.specs.declared.walk.Walk.{Walk}
pub use Rattle.bson_to_json.specs.Dates.{HasInstantText, IsDateJson, IsInstantText, IsWrappedDate, fraction_text, last_millis, second_text, three_digits}
pub use Rattle.bson_to_json.specs.Decimals.{behind_point, coefficient_of, combination, decimal128_text, decimal_of, decimal_text, exponent_text, finite_text, plain_text, scientific_text}
pub use Rattle.bson_to_json.specs.Doubles.{IsDoubleJson, IsDoubleText, IsWrappedDouble, wrapped_double}
pub use Rattle.bson_to_json.specs.Leaves.{IsLeafJson, binary_json, boolean_json, int32_json, int64_json, object_id_json, pointer_json, regex_json, timestamp_json}
pub use Rattle.bson_to_json.specs.declared.decimals.Decimal.{Decimal}
pub use Rattle.bson_to_json.specs.declared.decimals.Decimal.TheVariants.{Finite, Infinity, NaN}
pub use Rattle.bson_to_json.specs.declared.style.Format.TheVariants.{Canonical, Relaxed}
pub use Rattle.bson_to_json.specs.Json.{AreMembersJson, IsJson, IsJsonUpTo, IsValueJson, before_scope, closing, comma, end_text, head_text, line, member_key, opening}
pub use Rattle.bson_to_json.specs.Levels.{IsSingleJson, PutsEvent, PutsSingle, Suits, after, end_of, error_of, head_of, level_sort, opening_text, sort_of}
pub use Rattle.bson_to_json.specs.Passing.{Guards, TellsPassError, TellsPrintError, WroteBefore, WroteWithin}
pub use Rattle.bson_to_json.specs.Written.{Grows, GrowsFront, HasFront, Moves, WroteFront}
pub use Rattle.bson_to_json.specs.declared.print.PrintError.{PrintError}
pub use Rattle.bson_to_json.specs.declared.style.Style.{Style}
