-- What is between texts, one part after the other.
use Rattle.std.proofs.Common.{◌≡◌, inl, inr, ℕ, List, [], ◌++◌, codes, not, refl, sym, subst}
use Rattle.std.proofs.lemmas.List.Elements.{filter-append}
use Rattle.dump_io.specs.input.Between.{IsBetween, Leads}
use Rattle.dump_io.specs.input.Texts.{is_space}
use Rattle.dump_io.specs.declared.input.turn.Turn.{Turn}
use Rattle.dump_io.specs.declared.input.turn.Turn.TheVariants as turn

leads_none : (t : Turn) → Leads t [] t
leads_none turn.First = inl (refl, refl)
leads_none turn.Next = (refl, refl)
leads_none turn.Item = inl (refl, refl)
leads_none turn.More = (refl, refl)
leads_none turn.Comma = inl (refl, refl)
leads_none turn.Last = (refl, refl)

pub between_none : (t : Turn) → IsBetween t [] t
between_none t = leads_none t

-- marks after marks
after_none : (t u v : Turn) (xs ys : List ℕ) → xs ≡ [] → u ≡ t → Leads u ys v → Leads t (xs ++ ys) v
after_none t u v xs ys none same h = subst (λ w. Leads w (xs ++ ys) v) same (subst (λ l. Leads u (l ++ ys) v) (sym none) h)

array_then : (v : Turn) (xs ys : List ℕ) → xs ≡ codes "[" → Leads turn.Item ys v → Leads turn.First (xs ++ ys) v
array_then v xs ys mark (inl (none, same)) = inr (inl (λ i. mark i ++ none i, same))
array_then v xs ys mark (inr (end, same)) = inr (inr (λ i. mark i ++ end i, same))

leads_on : (t u v : Turn) (xs ys : List ℕ) → Leads t xs u → Leads u ys v → Leads t (xs ++ ys) v
leads_on turn.First u v xs ys (inl (none, same)) k = after_none _ u v xs ys none same k
leads_on turn.First u v xs ys (inr (inl (mark, is))) k = array_then v xs ys mark (subst (λ w. Leads w ys v) is k)
leads_on turn.First u v xs ys (inr (inr (mark, is))) k = let h : Leads turn.Last ys v = subst (λ w. Leads w ys v) is k in inr (inr (λ i. mark i ++ h.0 i, h.1))
leads_on turn.Next u v xs ys (none, same) k = after_none _ u v xs ys none same k
leads_on turn.Item u v xs ys (inl (none, same)) k = after_none _ u v xs ys none same k
leads_on turn.Item u v xs ys (inr (mark, is)) k = let h : Leads turn.Last ys v = subst (λ w. Leads w ys v) is k in inr (λ i. mark i ++ h.0 i, h.1)
leads_on turn.More u v xs ys (none, same) k = after_none _ u v xs ys none same k
leads_on turn.Comma u v xs ys (inl (none, same)) k = after_none _ u v xs ys none same k
leads_on turn.Comma u v xs ys (inr (inl (mark, is))) k = let h : Leads turn.More ys v = subst (λ w. Leads w ys v) is k in inr (inl (λ i. mark i ++ h.0 i, h.1))
leads_on turn.Comma u v xs ys (inr (inr (mark, is))) k = let h : Leads turn.Last ys v = subst (λ w. Leads w ys v) is k in inr (inr (λ i. mark i ++ h.0 i, h.1))
leads_on turn.Last u v xs ys (none, same) k = after_none _ u v xs ys none same k

pub between_on : (t u v : Turn) (xs ys : List ℕ) → IsBetween t xs u → IsBetween u ys v → IsBetween t (xs ++ ys) v
between_on t u v xs ys h k = subst (λ l. Leads t l v) (sym (filter-append (λ b. not (is_space b)) xs ys)) (leads_on t u v _ _ h k)
