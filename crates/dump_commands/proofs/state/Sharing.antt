-- A document that is put to the last of shares, or to the next one.
use Rattle.std.proofs.Common.{◌≡◌, ◌∙◌, ◌+◌, ◌++◌, ◌∷◌, [], ℕ, Bool, true, false, List, ap, append_assoc, cond, refl, sym}
use Rattle.dump_io.specs.lines.Origins.{Origin}
use Rattle.dump_commands.specs.state.Measures.{Share, is_in_share, with_one}

to_last : (stretch : ℕ) (place : Origin) (xs : List Share) (s : Share) → with_one stretch place (xs ++ s ∷ []) ≡ xs ++ with_one stretch place (s ∷ [])
to_last stretch place [] s = refl
to_last stretch place (x ∷ []) s = refl
to_last stretch place (x ∷ y ∷ xs) s = ap (λ (zs : List Share). x ∷ zs) (to_last stretch place (y ∷ xs) s)

abbrev pub one_more : Share → Share
one_more s = record s { count = s.count + 1 }

abbrev pub first_of : Origin → Share
first_of place = record { place = place; count = 1 }

pub stays_in : (stretch : ℕ) (place : Origin) (old xs new : List Share) (s : Share) → old ≡ xs ++ s ∷ [] → is_in_share stretch s place ≡ true → new ≡ xs ++ one_more s ∷ []
    → new ≡ with_one stretch place old
stays_in stretch place old xs new s was stays put =
    put ∙ ap (λ (b : Bool). xs ++ cond b (one_more s ∷ []) (s ∷ first_of place ∷ [])) (sym stays) ∙ sym (to_last stretch place xs s)
    ∙ sym (ap (with_one stretch place) was)

pub begins_next : (stretch : ℕ) (place : Origin) (old xs new : List Share) (s : Share) → old ≡ xs ++ s ∷ [] → is_in_share stretch s place ≡ false
    → new ≡ (xs ++ s ∷ []) ++ first_of place ∷ [] → new ≡ with_one stretch place old
begins_next stretch place old xs new s was ends put =
    put ∙ append_assoc xs (s ∷ []) (first_of place ∷ []) ∙ ap (λ (b : Bool). xs ++ cond b (one_more s ∷ []) (s ∷ first_of place ∷ [])) (sym ends)
    ∙ sym (to_last stretch place xs s) ∙ sym (ap (with_one stretch place) was)
