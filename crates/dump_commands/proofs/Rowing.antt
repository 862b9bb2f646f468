-- The lines of ranges one after the other, where that of the next is put.
use Rattle.std.proofs.Common.{◌≡◌, ◌∙◌, ◌+◌, ◌*◌, ◌<◌, ◌≤◌, ◌++◌, ℕ, List, ap, append_assoc, append-nil, drop, get_or, length, sym}
use Rattle.std.proofs.lemmas.List.{at_drop_all, at_drop_more}
use Rattle.dump_io.specs.declared.lines.style.Style.{Style}
use Rattle.dump_commands.specs.state.Measures.{range_line, range_lines}

pub ranges_next : (style : Style) (text more whole ds : List ℕ) (least i d : ℕ) → i < length ds → text ++ range_lines style least (drop i ds) ≡ whole
    → more ≡ text ++ range_line style least (get_or ds i d) → more ++ range_lines style (least * 2) (drop (i + 1) ds) ≡ whole
unfolding range_lines
ranges_next style text more whole ds least i d less before put =
    let rest = range_lines style (least * 2) (drop (i + 1) ds) in
    ap (λ (t : List ℕ). t ++ rest) put ∙ append_assoc text (range_line style least (get_or ds i d)) rest
    ∙ sym (at_drop_more (λ (ys : List ℕ). text ++ range_lines style least ys) ds i d less) ∙ before

pub ranges_end : (style : Style) (text whole ds : List ℕ) (least i : ℕ) → length ds ≤ i → text ++ range_lines style least (drop i ds) ≡ whole → text ≡ whole
unfolding range_lines
ranges_end style text whole ds least i few before =
    sym (append-nil text) ∙ sym (at_drop_all (λ (ys : List ℕ). text ++ range_lines style least ys) ds i few) ∙ before
