-- What an error says of the text.
use Rattle.std.proofs.Common.{◌≡◌, ◌≤◌, ℕ, suc, List, [], length, sym, subst, ◌∙◌, append-nil, arith}
use Rattle.json.specs.Json.{Members}
use Rattle.json.specs.Json as json
use Rattle.json.specs.Lex.{tokens as text_tokens}
use Rattle.json.specs.Token.{Token}
use Rattle.std.proofs.Math.Nat.{min-le_left}
use Rattle.bson_model.specs.Tree.{Tree, Entries, document}
use Rattle.raw_tree.specs.Encoding.{encoded_len}
use Rattle.raw_tree.specs.WithinLimits.{ReadsWithin}
use Rattle.raw_view.specs.Frame.Number.{max_length}
use Rattle.raw_tree.specs.declared.reader.limits.Limits.{Limits}
use Rattle.values_from_json.specs.Meaning.{AreMembers, IsWhole}
use Rattle.values_from_json.specs.declared.error.JsonReason.{JsonReason}
use Rattle.values_from_json.specs.declared.error.JsonReason.TheVariants as reason
use Rattle.bson_from_json.specs.Depths.{entries_depth}
use Rattle.bson_from_json.specs.Ends.{Excuses, HaveLength, StopsDocument, StopsWhole, size_of}
use Rattle.bson_from_json.specs.Levels.{SaysBytes}
use Rattle.bson_from_json.specs.Texts.{IsCause, IsJsonText, Says, capped}
use Rattle.values_from_json.proofs.Face.{same_value}
use Rattle.bson_from_json.proofs.OneDepth.{one_depth}
use Rattle.bson_from_json.proofs.Refusals.{exceeds_more}

same_members : {ms ns : Members} → json.object ms ≡ json.object ns → ms ≡ ns
same_members e = cc

-- what excuses the document that was read excuses each that the tokens write
pub whole_stopped : {limits : Limits} {ts : List Token} {b : List ℕ} (r : JsonReason) → SaysBytes ts b → HaveLength ts (length b) → StopsDocument limits b r → StopsWhole limits ts r
whole_stopped {limits} {ts} {b} r (ns, fs, means, readable, tokens, bytes) have stops = record {
  excused = λ ms es are e.
      let same = same_value (json.object ns) (json.object ms) [] [] (append-nil _ ∙ sym tokens ∙ e ∙ sym (append-nil _)) in
      let also : AreMembers ms fs = subst (λ (x : Members). AreMembers x fs) (same_members same.0) means in
      let deep : suc (entries_depth fs) ≤ suc (entries_depth es) = omega (arith, one_depth ms es fs are also) in
      let long : encoded_len (document fs) ≤ encoded_len (document es) = omega (arith, have.same ns fs means tokens, have.same ms es are e) in
      exceeds_more limits _ _ _ _ r deep long (stops.excused fs readable bytes);
}

-- .. and each that the text writes
module _ (limits : Limits) (text : List ℕ) (r : JsonReason) (stops : StopsWhole (capped limits) (text_tokens text) r) where
  of_json : (es : Entries) (j : json.Json) → IsJsonText text j → IsWhole j es → Excuses (capped limits) (size_of es) r
  of_json es json.null is whole = absurd whole
  of_json es (json.boolean b) is whole = absurd whole
  of_json es (json.number s) is whole = absurd whole
  of_json es (json.string s) is whole = absurd whole
  of_json es (json.array js) is whole = absurd whole
  of_json es (json.object ms) is whole = stops.excused ms es whole is

  excused : (es : Entries) → Says text es → Excuses (capped limits) (size_of es) r
  excused es (j, is, whole) = of_json es j is whole

told : (limits : Limits) (text : List ℕ) (r : JsonReason) → ((es : Entries) → Says text es → Excuses (capped limits) (size_of es) r) → IsCause limits text r
told limits text reason.OutOfMemory all = tt
told limits text reason.TooManyBytes all = all
told limits text reason.TooDeep all = all
told limits text reason.EndOfText all = all
told limits text reason.ByteOrderMark all = all
told limits text reason.ExpectedDocument all = all
told limits text reason.ExpectedKey all = all
told limits text reason.ExpectedColon all = all
told limits text reason.ExpectedComma all = all
told limits text reason.ExpectedValue all = all
told limits text reason.TextBehind all = all
told limits text reason.BadNumber all = all
told limits text reason.IntegerTooLarge all = all
told limits text reason.NumberTooLarge all = all
told limits text reason.ControlCharacter all = all
told limits text reason.BadEscape all = all
told limits text reason.LoneSurrogate all = all
told limits text reason.InteriorNul all = all
told limits text (reason.Malformed w) all = all
told limits text reason.InexactDecimal all = all

pub cause : {l : Limits} {ts : List Token} (limits : Limits) (text : List ℕ) (r : JsonReason) → l ≡ capped limits → ts ≡ text_tokens text → StopsWhole l ts r → IsCause limits text r
cause {l} {ts} limits text r e f stops =
    let one = subst (λ (x : Limits). StopsWhole x ts r) e stops in
    told limits text r (excused limits text r (subst (λ (x : List Token). StopsWhole (capped limits) x r) f one))

-- what is within the limits that were taken is within those that were given
pub uncapped : {l : Limits} {b : List ℕ} (limits : Limits) → l ≡ capped limits → (t : Tree) × ReadsWithin l b t → (t : Tree) × ReadsWithin limits b t
uncapped {l} {b} limits e (t, reads) =
    let within = subst (λ (x : Limits). ReadsWithin x b t) e reads in
    (t, record { few_bytes = omega (arith, within.few_bytes, min-le_left limits.bytes max_length); read = within.read; shallow = within.shallow })
