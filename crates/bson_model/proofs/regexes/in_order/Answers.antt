use Rattle.std.proofs.Common.{rules, ◌≡◌, refl, ap, sym, ◌∙◌}
use Rattle.std.specs.Prelude.{encode_utf8_all}
use Rattle.std.specs.Str.{chars}
use Rattle.std.specs.String.{string_bytes}
use Rattle.std.proofs.lemmas.Str.{chars_from_encodes}
use Rattle.std.proofs.lemmas.List.Sorted.{IsNonDecreasingBy-from_sort}
use Rattle.bson_model.specs.Options.{ascending}
use Rattle.bson_model.proofs.Ascending.{ascending_unique}
use Rattle.bson_model.proofs.OptionOrder.{sorted_options-same}
use Rattle.bson_model.proofs.regexes.in_order.Goals as goal

pub returns-then-do_options_ascend : goal.returns-then-do_options_ascend
returns-then-do_options_ascend c =
    c.in_ok-from_str.ensures.ok ∙ sym (sorted_options-same c.args.options.now c.utf8.options (c.if-do_options_ascend.ensures.0 refl))

pub returns : goal.returns
returns c =
    let were : c.in_ok-chars.chars.items ≡ chars c.args.options.now = search (rules, chars_from_encodes) in
    let text : string_bytes c.in_ok-collect.field-0 ≡ encode_utf8_all c.sort_unstable.new.self.items = search rules in
    let rises = IsNonDecreasingBy-from_sort (λ x. x) c.sort_unstable.new.self.items c.sort_unstable.ensures.sorted in
    text ∙ ap encode_utf8_all (ascending_unique c.in_ok-chars.chars.items c.sort_unstable.new.self.items c.sort_unstable.ensures.permutation rises ∙ ap ascending were)
