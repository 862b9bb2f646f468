use Rattle.std.proofs.Common.{◌≡◌, ◌++◌, ◌∷◌, [], ap, ◌∙◌}
use Rattle.raw_view.proofs.Frames.Shapes.{no_pattern_fault, no_options_fault, regex_ends}
use Rattle.raw_view.proofs.value.regex_of.Goals as goal

pub unreachable-requires : goal.unreachable-requires
unreachable-requires c = no_pattern_fault _ _ c.requires c.in_default.ensures.fault

pub unreachable-requires-in_default-split_text : goal.unreachable-requires-in_default-split_text
unreachable-requires-in_default-split_text c =
    let text = c.in-Ok.ensures.found in
    no_options_fault _ _ _ _ c.requires text.0 text.1 c.in_default-split_text.ensures.fault

pub returns : goal.returns
returns c =
    let text = c.in-Ok.ensures.found in
    let more = c.in-Ok-split_text.ensures.found in
    let none : c.in-Ok-split_text.field-0-1.now ≡ [] = regex_ends _ _ _ _ _ c.requires text.0 text.1 more.0 more.1 in
    record {
      spelled = text.0 ∙ ap (λ x. c.in-Ok.pattern.now ++ 0 ∷ x) (more.0 ∙ ap (λ x. c.in-Ok-split_text.options.now ++ 0 ∷ x) none);
      pattern_nul_free = text.1;
      pattern_text = text.2;
      options_nul_free = more.1;
      options_text = more.2;
    }
