-- The scan of a text is at its end, or may go on, where the outline is or may.
use Rattle.std.proofs.Common.{◌≡◌, ◌≢◌, ◌⊎◌, ◌+◌, ◌-◌, ◌^◌, ◌≤◌, ◌<◌, ◌==◌, ◌&&◌, ◌||◌, inl, inr, ℕ, suc, zero, Bool, true, false, List, [], ◌∷◌, ◌++◌, add-zero, ap, append_assoc, append-nil, arith, fold, if◌then◌else◌, length, length-append, length-take-le, nat_lt, refl, sym, subst, take, ◌∙◌}
use Rattle.std.proofs.Math.Seq.{take-append_seam}
use Rattle.std.proofs.lemmas.Bool.{eqb-true, eqb-false, lt-ltb, ltb-true, ne_eqb, or_cases}
use Rattle.std.proofs.lemmas.List.{length-take, take-take}
use Rattle.dump_io.specs.input.Scans.{HasBrace, IsOpen, ScansAhead, closed, in_levels, in_text, opened, scanned, step}
use Rattle.dump_io.specs.input.Texts.{IsInLevel, IsInQuotes, IsOneText, IsOther, MayGoOn, begins_level, ends_level, is_separator, is_space}
use Rattle.dump_io.specs.declared.input.scan.Scan.{Scan}
use Rattle.dump_io.specs.declared.input.scan.Scan.TheVariants as scan
use Rattle.dump_io.specs.declared.input.scan.Scanned.{Scanned}

-- what a test says of a byte that is one of two
one_of : (P : ℕ → Type 0) (x c d : ℕ) → ((x == c) || (x == d)) ≡ true → P c → P d → P x
one_of P x c d is p q =
    elim (or_cases (x == c) (x == d) is) [
      | inl e ↦ subst P (sym (eqb-true x c e)) p
      | inr e ↦ subst P (sym (eqb-true x d e)) q
    ]

-- where a byte of each kind leads outside of strings
at_space : (d : ℕ) (may : Bool) (b : ℕ) → is_space b ≡ true → in_levels d may b ≡ scan.Levels d may
at_space d may b is =
    ap (λ (c : Bool). if c then scan.Levels d may else if b == 34 then scan.Text d else if begins_level b then opened d may (b == 91) else if ends_level b then closed d
    else scan.Levels d (is_separator b)) is

at_begin : (d : ℕ) (may : Bool) (b : ℕ) → begins_level b ≡ true → in_levels d may b ≡ opened d may (b == 91)
at_begin d may b is = one_of (λ x. in_levels d may x ≡ opened d may (x == 91)) b 123 91 is refl refl

at_end : (d : ℕ) (may : Bool) (b : ℕ) → ends_level b ≡ true → in_levels d may b ≡ closed d
at_end d may b is = one_of (λ x. in_levels d may x ≡ closed d) b 125 93 is refl refl

at_separator : (d : ℕ) (may : Bool) (b : ℕ) → is_separator b ≡ true → in_levels d may b ≡ scan.Levels d true
at_separator d may b is = one_of (λ x. in_levels d may x ≡ scan.Levels d true) b 58 44 is refl refl

at_other : (d : ℕ) (may : Bool) (b : ℕ) → IsOther b → in_levels d may b ≡ scan.Levels d false
at_other d may b is =
    let quote = ne_eqb b 34 is.no_quote in
    λ i. if is.no_space i then scan.Levels d may else if quote i then scan.Text d else if is.no_begin i then opened d may (b == 91) else if is.no_end i then closed d
    else scan.Levels d (is.no_separator i)

at_plain : (d b : ℕ) → b ≢ 34 → b ≢ 92 → b ≢ 10 → in_text d b ≡ scan.Text d
at_plain d b quote slash feed =
    let q = ne_eqb b 34 quote in
    let s = ne_eqb b 92 slash in
    let f = ne_eqb b 10 feed in
    λ i. if q i then scan.Levels d false else if s i then scan.Escape d else if f i then scan.Torn else scan.Text d

-- the kind of a byte
abbrev IsKind : ℕ → Type 0
IsKind b = (is_space b ≡ true) ⊎ ((b ≡ 34) ⊎ ((begins_level b ≡ true) ⊎ ((ends_level b ≡ true) ⊎ ((is_separator b ≡ true) ⊎ IsOther b))))

kind_by : (b : ℕ) (s q o c p : Bool) → is_space b ≡ s → (b == 34) ≡ q → begins_level b ≡ o → ends_level b ≡ c → is_separator b ≡ p → IsKind b
kind_by b true q o c p hs hq ho hc hp = inl hs
kind_by b false true o c p hs hq ho hc hp = inr (inl (eqb-true b 34 hq))
kind_by b false false true c p hs hq ho hc hp = inr (inr (inl ho))
kind_by b false false false true p hs hq ho hc hp = inr (inr (inr (inl hc)))
kind_by b false false false false true hs hq ho hc hp = inr (inr (inr (inr (inl hp))))
kind_by b false false false false false hs hq ho hc hp =
    inr (inr (inr (inr (inr (record { no_space = hs; no_quote = eqb-false b 34 hq; no_begin = ho; no_end = hc; no_separator = hp })))))

kind_of : (b : ℕ) → IsKind b
kind_of b = kind_by b _ _ _ _ _ refl refl refl refl refl

-- what follows in a level, to its end, and after it
record EndsLevel (may : Bool) (Behind : List ℕ → Type 0) (more : List ℕ) : Type 0 where
  inside : List ℕ
  closer : ℕ
  rest : List ℕ
  spelled : more ≡ inside ++ closer ∷ rest
  is_inside : IsInLevel may inside
  closes : ends_level closer ≡ true
  behind : Behind rest

-- after the end of a level in this number of others, to the end of the text
abbrev EndsBehind : (outer : ℕ) → List ℕ → Type 0
EndsBehind zero rest = rest ≡ []
EndsBehind (suc n) rest = EndsLevel false (EndsBehind n) rest

-- in such a level
abbrev EndsIn : ℕ → Bool → List ℕ → Type 0
EndsIn n may more = EndsLevel may (EndsBehind n) more

in_level : (n : ℕ) (may : Bool) (inside : List ℕ) (closer : ℕ) (rest : List ℕ) {more : List ℕ} → more ≡ inside ++ closer ∷ rest → IsInLevel may inside → ends_level closer ≡ true
    → EndsBehind n rest → EndsIn n may more
in_level n may inside closer rest same is closes behind = record { inside = inside; closer = closer; rest = rest; spelled = same; is_inside = is; closes = closes; behind = behind }

record EndsText (n : ℕ) (more : List ℕ) : Type 0 where
  inside : List ℕ
  rest : List ℕ
  spelled : more ≡ inside ++ 34 ∷ rest
  is_inside : IsInQuotes inside
  behind : EndsIn n false rest

record EndsEscape (n : ℕ) (more : List ℕ) : Type 0 where
  byte : ℕ
  rest : List ℕ
  spelled : more ≡ byte ∷ rest
  no_feed : byte ≢ 10
  behind : EndsText n rest

-- what follows, to the end of the text, where the scan has come so far
abbrev Ends : Scan → List ℕ → Type 0
Ends (scan.Levels zero may) more = ⊥
Ends (scan.Levels (suc n) may) more = EndsIn n may more
Ends (scan.Text zero) more = ⊥
Ends (scan.Text (suc n)) more = EndsText n more
Ends (scan.Escape zero) more = ⊥
Ends (scan.Escape (suc n)) more = EndsEscape n more
Ends scan.Whole more = more ≡ []
Ends scan.Torn more = ⊥

-- the end of a level
closed_more : (n : ℕ) → closed (suc (suc n)) ≡ scan.Levels (suc n) false
closed_more n =
    let some : 1 < suc (suc n) = omega arith in
    let less : suc (suc n) - 1 ≡ suc n = omega arith in
    ap (λ (c : Bool). if c then scan.Levels (suc (suc n) - 1) false else scan.Whole) (lt-ltb 1 (suc (suc n)) some) ∙ ap (λ k. scan.Levels k false) less

closed_on : (n : ℕ) (rest : List ℕ) → EndsBehind n rest → Ends (closed (suc n)) rest
closed_on zero rest h = h
closed_on (suc n) rest h = subst (λ s. Ends s rest) (sym (closed_more n)) h

closed_off : (n : ℕ) (rest : List ℕ) → Ends (closed (suc n)) rest → EndsBehind n rest
closed_off zero rest h = h
closed_off (suc n) rest h = subst (λ s. Ends s rest) (closed_more n) h

-- the begin of one
opened_more : (n : ℕ) (array : Bool) → suc n < 2 ^ 27 → opened (suc n) true array ≡ scan.Levels (suc (suc n)) array
opened_more n array less =
    let more : suc n + 1 ≡ suc (suc n) = omega arith in
    ap (λ (c : Bool). if c then scan.Levels (suc n + 1) array else scan.Torn) (lt-ltb (suc n) (2 ^ 27) less) ∙ ap (λ k. scan.Levels k array) more

-- one byte more in a level
level_on : {may : Bool} {inside : List ℕ} → IsInLevel may inside → (n b : ℕ) (more : List ℕ) (closer : ℕ) (rest : List ℕ) → b ∷ more ≡ inside ++ closer ∷ rest
    → ends_level closer ≡ true → EndsBehind n rest → suc n < 2 ^ 27 → Ends (in_levels (suc n) may b) more
level_on (IsInLevel.nothing may) n b more closer rest same closes behind less =
    let is : closer ≡ b = cc in
    let after : rest ≡ more = cc in
    subst (λ s. Ends s more) (sym (at_end (suc n) may b (ap ends_level (sym is) ∙ closes))) (closed_on n more (subst (EndsBehind n) after behind))
level_on (IsInLevel.space may c r space h) n b more closer rest same closes behind less =
    let is : c ≡ b = cc in
    let after : more ≡ r ++ closer ∷ rest = cc in
    subst (λ s. Ends s more) (sym (at_space (suc n) may b (ap is_space (sym is) ∙ space))) (in_level n may r closer rest after h closes behind)
level_on (IsInLevel.string may inside r quotes h) n b more closer rest same closes behind less =
    let is : b ≡ 34 = cc in
    let after : more ≡ (inside ++ 34 ∷ r) ++ closer ∷ rest = cc in
    let ends : EndsText n more = record {
      inside = inside;
      rest = r ++ closer ∷ rest;
      spelled = after ∙ append_assoc inside (34 ∷ r) (closer ∷ rest);
      is_inside = quotes;
      behind = in_level n false r closer rest refl h closes behind;
    } in
    subst (λ x. Ends (in_levels (suc n) may x) more) (sym is) ends
level_on (IsInLevel.level o inside c r begins h ends h') n b more closer rest same closes behind less =
    let is : o ≡ b = cc in
    let after : more ≡ (inside ++ c ∷ r) ++ closer ∷ rest = cc in
    let here : IsInLevel (b == 91) inside = subst (λ x. IsInLevel (x == 91) inside) is h in
    let on : EndsIn (suc n) (b == 91) more = in_level (suc n) (b == 91) inside c (r ++ closer ∷ rest) (after ∙ append_assoc inside (c ∷ r) (closer ∷ rest)) here ends
    (in_level n false r closer rest refl h' closes behind) in
    subst (λ s. Ends s more) (sym (at_begin (suc n) true b (ap begins_level (sym is) ∙ begins) ∙ opened_more n (b == 91) less)) on
level_on (IsInLevel.separator may c r separator h) n b more closer rest same closes behind less =
    let is : c ≡ b = cc in
    let after : more ≡ r ++ closer ∷ rest = cc in
    subst (λ s. Ends s more) (sym (at_separator (suc n) may b (ap is_separator (sym is) ∙ separator))) (in_level n true r closer rest after h closes behind)
level_on (IsInLevel.other may c r other h) n b more closer rest same closes behind less =
    let is : c ≡ b = cc in
    let after : more ≡ r ++ closer ∷ rest = cc in
    subst (λ s. Ends s more) (sym (at_other (suc n) may b (subst IsOther is other))) (in_level n false r closer rest after h closes behind)

-- and in a string
quotes_on : {inside : List ℕ} → IsInQuotes inside → (n b : ℕ) (more rest : List ℕ) → b ∷ more ≡ inside ++ 34 ∷ rest → EndsIn n false rest → Ends (in_text (suc n) b) more
quotes_on IsInQuotes.no_byte n b more rest same behind =
    let is : b ≡ 34 = cc in
    let after : rest ≡ more = cc in
    subst (λ x. Ends (in_text (suc n) x) more) (sym is) (subst (EndsIn n false) after behind)
quotes_on (IsInQuotes.plain c r quote slash feed h) n b more rest same behind =
    let is : c ≡ b = cc in
    let after : more ≡ r ++ 34 ∷ rest = cc in
    let ends : EndsText n more = record { inside = r; rest = rest; spelled = after; is_inside = h; behind = behind } in
    subst (λ x. Ends (in_text (suc n) x) more) is (subst (λ s. Ends s more) (sym (at_plain (suc n) c quote slash feed)) ends)
quotes_on (IsInQuotes.escaped c r feed h) n b more rest same behind =
    let is : b ≡ 92 = cc in
    let after : more ≡ c ∷ (r ++ 34 ∷ rest) = cc in
    let ends : EndsText n (r ++ 34 ∷ rest) = record { inside = r; rest = rest; spelled = refl; is_inside = h; behind = behind } in
    let escape : EndsEscape n more = record { byte = c; rest = r ++ 34 ∷ rest; spelled = after; no_feed = feed; behind = ends } in
    subst (λ x. Ends (in_text (suc n) x) more) (sym is) escape

-- how many levels there are, at least one and at most k
abbrev IsWithin : ℕ → Scan → Type 0
IsWithin k (scan.Levels d may) = (0 < d) × (d ≤ k)
IsWithin k (scan.Text d) = (0 < d) × (d ≤ k)
IsWithin k (scan.Escape d) = (0 < d) × (d ≤ k)
IsWithin k scan.Whole = Unit {0}
IsWithin k scan.Torn = Unit {0}

within_if : (k : ℕ) (c : Bool) (s t : Scan) → (c ≡ true → IsWithin k s) → IsWithin k t → IsWithin k (if c then s else t)
within_if k true s t f g = f refl
within_if k false s t f g = g

within_levels : (k d : ℕ) (may : Bool) (b : ℕ) → 0 < d → d ≤ k → IsWithin (suc k) (in_levels d may b)
within_levels k d may b some most =
    let same : (0 < d) × (d ≤ suc k) = (some, omega arith) in
    within_if (suc k) (is_space b) _ _ (λ _. same)
    (within_if (suc k) (b == 34) _ _ (λ _. same)
    (within_if (suc k) (begins_level b) _ _ (λ _. within_if (suc k) (may && nat_lt d (2 ^ 27)) (scan.Levels (d + 1) (b == 91)) scan.Torn (λ _. (omega arith, omega arith)) tt)
    (within_if (suc k) (ends_level b) _ _ (λ _. within_if (suc k) (nat_lt 1 d) (scan.Levels (d - 1) false) scan.Whole (λ more. let two = ltb-true 1 d more in (omega arith, omega arith)) tt)
    same)))

within_step : (k : ℕ) (s : Scan) (b : ℕ) → IsWithin k s → IsWithin (suc k) (step s b)
within_step k (scan.Levels d may) b (some, most) = within_levels k d may b some most
within_step k (scan.Text d) b (some, most) =
    let same : (0 < d) × (d ≤ suc k) = (some, omega arith) in
    within_if (suc k) (b == 34) _ _ (λ _. same) (within_if (suc k) (b == 92) _ _ (λ _. same) (within_if (suc k) (b == 10) _ _ (λ _. tt) same))
within_step k (scan.Escape d) b (some, most) = within_if (suc k) (b == 10) scan.Torn (scan.Text d) (λ _. tt) (some, omega arith)
within_step k scan.Whole b h = tt
within_step k scan.Torn b h = tt

-- one byte more
step_on : (k : ℕ) (s : Scan) (b : ℕ) (more : List ℕ) → IsWithin k s → k < 2 ^ 27 → Ends s (b ∷ more) → Ends (step s b) more
step_on k (scan.Levels zero may) b more within less h = absurd h
step_on k (scan.Levels (suc n) may) b more (some, most) less h =
    level_on h.is_inside n b more h.closer h.rest h.spelled h.closes h.behind (omega arith)
step_on k (scan.Text zero) b more within less h = absurd h
step_on k (scan.Text (suc n)) b more within less h = quotes_on h.is_inside n b more h.rest h.spelled h.behind
step_on k (scan.Escape zero) b more within less h = absurd h
step_on k (scan.Escape (suc n)) b more within less h =
    let same : b ∷ more ≡ h.byte ∷ h.rest = h.spelled in
    let is : h.byte ≡ b = cc in
    let after : h.rest ≡ more = cc in
    let no = ne_eqb h.byte 10 h.no_feed in
    let to : step (scan.Escape (suc n)) b ≡ scan.Text (suc n) =
    ap (λ x. if x == 10 then scan.Torn else scan.Text (suc n)) (sym is) ∙ ap (λ (c : Bool). if c then scan.Torn else scan.Text (suc n)) no in
    subst (λ s. Ends s more) (sym to) (subst (EndsText n) after h.behind)
step_on k scan.Whole b more within less h = let none : ⊥ = cc in absurd none
step_on k scan.Torn b more within less h = absurd h

scan_on : (t : List ℕ) (k : ℕ) (s : Scan) (more : List ℕ) → IsWithin k s → k + length t ≤ 2 ^ 27 → Ends s (t ++ more) → Ends (fold step s t) more
scan_on [] k s more within most h = h
scan_on (b ∷ t) k s more within most h =
    let less : k < 2 ^ 27 = omega arith in
    let most' : suc k + length t ≤ 2 ^ 27 = omega arith in
    scan_on t (suc k) (step s b) more (within_step k s b within) most' (step_on k s b (t ++ more) within less h)

-- one byte before in a level
opened_off : (n : ℕ) (may : Bool) (b : ℕ) (more : List ℕ) (less : Bool) → begins_level b ≡ true
    → Ends (if may && less then scan.Levels (suc n + 1) (b == 91) else scan.Torn) more → EndsIn n may (b ∷ more)
opened_off n false b more less begins h = absurd h
opened_off n true b more false begins h = absurd h
opened_off n true b more true begins h =
    let on : suc n + 1 ≡ suc (suc n) = omega arith in
    let k : EndsIn (suc n) (b == 91) more = subst (λ k. Ends (scan.Levels k (b == 91)) more) on h in
    let j : EndsIn n false k.rest = k.behind in
    let spelled : b ∷ more ≡ (b ∷ (k.inside ++ k.closer ∷ j.inside)) ++ j.closer ∷ j.rest =
    ap (λ l. b ∷ l) (k.spelled ∙ ap (λ l. k.inside ++ k.closer ∷ l) j.spelled ∙ sym (append_assoc k.inside (k.closer ∷ j.inside) (j.closer ∷ j.rest))) in
    in_level n true (b ∷ (k.inside ++ k.closer ∷ j.inside)) j.closer j.rest spelled (IsInLevel.level b k.inside k.closer j.inside begins k.is_inside k.closes j.is_inside) j.closes j.behind

-- a byte that stays in the level
stays_off : (n : ℕ) (may next : Bool) (b : ℕ) (more : List ℕ) → ((inside : List ℕ) → IsInLevel next inside → IsInLevel may (b ∷ inside)) → EndsIn n next more → EndsIn n may (b ∷ more)
stays_off n may next b more first h = in_level n may (b ∷ h.inside) h.closer h.rest (ap (λ l. b ∷ l) h.spelled) (first h.inside h.is_inside) h.closes h.behind

level_off : (n : ℕ) (may : Bool) (b : ℕ) (more : List ℕ) → IsKind b → Ends (in_levels (suc n) may b) more → EndsIn n may (b ∷ more)
level_off n may b more (inl space) h =
    stays_off n may may b more (λ inside. IsInLevel.space may b inside space) (subst (λ s. Ends s more) (at_space (suc n) may b space) h)
level_off n may b more (inr (inl quote)) h =
    let ends : EndsText n more = subst (λ x. Ends (in_levels (suc n) may x) more) quote h in
    let k : EndsIn n false ends.rest = ends.behind in
    let spelled : b ∷ more ≡ (34 ∷ (ends.inside ++ 34 ∷ k.inside)) ++ k.closer ∷ k.rest =
    ap (λ x. x ∷ more) quote ∙ ap (λ l. 34 ∷ l) (ends.spelled ∙ ap (λ l. ends.inside ++ 34 ∷ l) k.spelled ∙ sym (append_assoc ends.inside (34 ∷ k.inside) (k.closer ∷ k.rest))) in
    in_level n may (34 ∷ (ends.inside ++ 34 ∷ k.inside)) k.closer k.rest spelled (IsInLevel.string may ends.inside k.inside ends.is_inside k.is_inside) k.closes k.behind
level_off n may b more (inr (inr (inl begins))) h = opened_off n may b more (nat_lt (suc n) (2 ^ 27)) begins (subst (λ s. Ends s more) (at_begin (suc n) may b begins) h)
level_off n may b more (inr (inr (inr (inl ends)))) h =
    in_level n may [] b more refl (IsInLevel.nothing may) ends (closed_off n more (subst (λ s. Ends s more) (at_end (suc n) may b ends) h))
level_off n may b more (inr (inr (inr (inr (inl separator))))) h =
    stays_off n may true b more (λ inside. IsInLevel.separator may b inside separator) (subst (λ s. Ends s more) (at_separator (suc n) may b separator) h)
level_off n may b more (inr (inr (inr (inr (inr other))))) h =
    stays_off n may false b more (λ inside. IsInLevel.other may b inside other) (subst (λ s. Ends s more) (at_other (suc n) may b other) h)

-- and in a string
text_off : (n b : ℕ) (more : List ℕ) (q s f : Bool) → (b == 34) ≡ q → (b == 92) ≡ s → (b == 10) ≡ f
    → Ends (if q then scan.Levels (suc n) false else if s then scan.Escape (suc n) else if f then scan.Torn else scan.Text (suc n)) more → EndsText n (b ∷ more)
text_off n b more true s f hq hs hf h =
    record { inside = []; rest = more; spelled = ap (λ x. x ∷ more) (eqb-true b 34 hq); is_inside = IsInQuotes.no_byte; behind = h }
text_off n b more false true f hq hs hf h =
    record {
      inside = 92 ∷ (h.byte ∷ h.behind.inside);
      rest = h.behind.rest;
      spelled = ap (λ x. x ∷ more) (eqb-true b 92 hs) ∙ ap (λ l. 92 ∷ l) (h.spelled ∙ ap (λ l. h.byte ∷ l) h.behind.spelled);
      is_inside = IsInQuotes.escaped h.byte h.behind.inside h.no_feed h.behind.is_inside;
      behind = h.behind.behind;
    }
text_off n b more false false true hq hs hf h = absurd h
text_off n b more false false false hq hs hf h =
    record {
      inside = b ∷ h.inside;
      rest = h.rest;
      spelled = ap (λ l. b ∷ l) h.spelled;
      is_inside = IsInQuotes.plain b h.inside (eqb-false b 34 hq) (eqb-false b 92 hs) (eqb-false b 10 hf) h.is_inside;
      behind = h.behind;
    }

escape_off : (n b : ℕ) (more : List ℕ) (f : Bool) → (b == 10) ≡ f → Ends (if f then scan.Torn else scan.Text (suc n)) more → EndsEscape n (b ∷ more)
escape_off n b more true hf h = absurd h
escape_off n b more false hf h = record { byte = b; rest = more; spelled = refl; no_feed = eqb-false b 10 hf; behind = h }

-- one byte before
step_off : (k : ℕ) (s : Scan) (b : ℕ) (more : List ℕ) → IsWithin k s → Ends (step s b) more → Ends s (b ∷ more)
step_off k (scan.Levels zero may) b more (some, most) h = let none : ⊥ = omega arith in absurd none
step_off k (scan.Levels (suc n) may) b more within h = level_off n may b more (kind_of b) h
step_off k (scan.Text zero) b more (some, most) h = let none : ⊥ = omega arith in absurd none
step_off k (scan.Text (suc n)) b more within h = text_off n b more (b == 34) (b == 92) (b == 10) refl refl refl h
step_off k (scan.Escape zero) b more (some, most) h = let none : ⊥ = omega arith in absurd none
step_off k (scan.Escape (suc n)) b more within h = escape_off n b more (b == 10) refl h
step_off k scan.Whole b more within h = absurd h
step_off k scan.Torn b more within h = absurd h

scan_off : (t : List ℕ) (k : ℕ) (s : Scan) (more : List ℕ) → IsWithin k s → Ends (fold step s t) more → Ends s (t ++ more)
scan_off [] k s more within h = h
scan_off (b ∷ t) k s more within h = step_off k s b (t ++ more) within (scan_off t (suc k) (step s b) more (within_step k s b within) h)

within_scan : (t : List ℕ) (k : ℕ) (s : Scan) → IsWithin k s → IsWithin (k + length t) (fold step s t)
within_scan [] k s h = subst (λ n. IsWithin n s) (sym (add-zero k)) h
within_scan (b ∷ t) k s h =
    let more : suc k + length t ≡ k + length (b ∷ t) = omega arith in
    subst (λ n. IsWithin n (fold step (step s b) t)) more (within_scan t (suc k) (step s b) (within_step k s b h))

-- a text goes on where its levels can still be closed
abbrev CanEnd : Scan → Type 0
CanEnd s = (more : List ℕ) × (more ≢ []) × Ends s more

levels_can : (n : ℕ) (may : Bool) → CanEnd (scan.Levels (suc n) may)
levels_can zero may = (125 ∷ [], (λ none. cc), in_level zero may [] 125 [] refl (IsInLevel.nothing may) refl refl)
levels_can (suc n) may =
    let (more, some, ends) = levels_can n false in (125 ∷ more, (λ none. cc), in_level (suc n) may [] 125 more refl (IsInLevel.nothing may) refl ends)

text_can : (n : ℕ) → CanEnd (scan.Text (suc n))
text_can n =
    let (more, some, ends) = levels_can n false in
    (34 ∷ more, (λ none. cc), record { inside = []; rest = more; spelled = refl; is_inside = IsInQuotes.no_byte; behind = ends })

zero_no_feed : ◌≢◌ {A = ℕ} 0 10
zero_no_feed same = omega arith

can_end : (k : ℕ) (s : Scan) → IsWithin k s → IsOpen s → CanEnd s
can_end k (scan.Levels zero may) (some, most) open' = let none : ⊥ = omega arith in absurd none
can_end k (scan.Levels (suc n) may) within open' = levels_can n may
can_end k (scan.Text zero) (some, most) open' = let none : ⊥ = omega arith in absurd none
can_end k (scan.Text (suc n)) within open' = text_can n
can_end k (scan.Escape zero) (some, most) open' = let none : ⊥ = omega arith in absurd none
can_end k (scan.Escape (suc n)) within open' =
    let (more, some, ends) = text_can n in
    (0 ∷ more, (λ none. cc), record { byte = 0; rest = more; spelled = refl; no_feed = zero_no_feed; behind = ends })
can_end k scan.Whole within open' = absurd open'
can_end k scan.Torn within open' = absurd open'

is_open : (s : Scan) → CanEnd s → IsOpen s
is_open (scan.Levels d may) h = tt
is_open (scan.Text d) h = tt
is_open (scan.Escape d) h = tt
is_open scan.Whole (more, some, ends) = some ends
is_open scan.Torn (more, some, ends) = ends

no_end : (n : ℕ) (may : Bool) → ¬ EndsIn n may []
no_end n may h =
    let size : 0 ≡ length h.inside + suc (length h.rest) = ap length h.spelled ∙ length-append h.inside (h.closer ∷ h.rest) in omega arith

is_whole : (s : Scan) → Ends s [] → s ≡ scan.Whole
is_whole (scan.Levels zero may) h = absurd h
is_whole (scan.Levels (suc n) may) h = absurd (no_end n may h)
is_whole (scan.Text zero) h = absurd h
is_whole (scan.Text (suc n)) h =
    let size : 0 ≡ length h.inside + suc (length h.rest) = ap length h.spelled ∙ length-append h.inside (34 ∷ h.rest) in let none : ⊥ = omega arith in absurd none
is_whole (scan.Escape zero) h = absurd h
is_whole (scan.Escape (suc n)) h = let same : [] ≡ h.byte ∷ h.rest = h.spelled in let none : ⊥ = cc in absurd none
is_whole scan.Whole h = refl
is_whole scan.Torn h = absurd h

-- after the brace
text_of : (more : List ℕ) → EndsIn zero false more → IsOneText (123 ∷ more)
text_of more h = record { inside = h.inside; closer = h.closer; spelled = ap (λ l. 123 ∷ l) (h.spelled ∙ ap (λ l. h.inside ++ h.closer ∷ l) h.behind); is_inside = h.is_inside; closes = h.closes }

of_text : (more : List ℕ) → IsOneText (123 ∷ more) → EndsIn zero false more
of_text more h =
    let spelled : 123 ∷ more ≡ 123 ∷ (h.inside ++ h.closer ∷ []) = h.spelled in
    let after : more ≡ h.inside ++ h.closer ∷ [] = cc in
    record { inside = h.inside; closer = h.closer; rest = []; spelled = after; is_inside = h.is_inside; closes = h.closes; behind = refl }

module _ (t : List ℕ) (most : suc (length t) ≤ 2 ^ 27) where
  on : (more : List ℕ) → IsOneText (123 ∷ (t ++ more)) → Ends (scanned (123 ∷ t)) more
  on more h = scan_on t 1 (scan.Levels 1 false) more (omega arith, omega arith) (omega arith) (of_text (t ++ more) h)

  off : (more : List ℕ) → Ends (scanned (123 ∷ t)) more → IsOneText (123 ∷ (t ++ more))
  off more h = text_of (t ++ more) (scan_off t 1 (scan.Levels 1 false) more (omega arith, omega arith) h)

-- a text may begin
pub nothing_goes_on : MayGoOn []
nothing_goes_on = record { more = 123 ∷ 125 ∷ []; some = λ none. cc; whole = text_of (125 ∷ []) (in_level zero false [] 125 [] refl (IsInLevel.nothing false) refl refl) }

nil_behind : (xs ys : List ℕ) → xs ++ ys ≡ [] → ys ≡ []
nil_behind [] ys none = none
nil_behind (x ∷ xs) ys none = let never : ⊥ = cc in absurd never

front_goes_on : (xs ys : List ℕ) → MayGoOn (xs ++ ys) → MayGoOn xs
front_goes_on xs ys goes = record {
  more = ys ++ goes.more;
  some = λ none. goes.some (nil_behind ys goes.more none);
  whole = subst IsOneText (append_assoc xs ys goes.more) goes.whole;
}

-- what the scan says of these bytes
pub record ScansAs (t : List ℕ) : Type 0 where
  pub whole : scanned t ≡ scan.Whole → IsOneText t
  pub is_whole : IsOneText t → scanned t ≡ scan.Whole
  pub goes : IsOpen (scanned t) → MayGoOn t
  pub is_open : MayGoOn t → IsOpen (scanned t)

-- after a brace
scans_brace : (t : List ℕ) → suc (length t) ≤ 2 ^ 27 → ScansAs (123 ∷ t)
scans_brace t most =
    let within = within_scan t 1 (scan.Levels 1 false) (omega arith, omega arith) in
    record {
      whole = λ is. subst (λ l. IsOneText (123 ∷ l)) (append-nil t) (off t most [] (subst (λ s. Ends s []) (sym is) refl));
      is_whole = λ whole. is_whole (scanned (123 ∷ t)) (on t most [] (subst (λ l. IsOneText (123 ∷ l)) (sym (append-nil t)) whole));
      goes = λ open'. let (more, some, ends) = can_end (1 + length t) (scanned (123 ∷ t)) within open' in record { more = more; some = some; whole = off t most more ends };
      is_open = λ goes. is_open (scanned (123 ∷ t)) (goes.more, goes.some, on t most goes.more goes.whole);
    }

not_begun : scan.Levels 0 true ≡ scan.Whole → ⊥
not_begun same = cc

no_text : ¬ IsOneText []
no_text is = let same : [] ≡ 123 ∷ (is.inside ++ is.closer ∷ []) = is.spelled in cc

pub scans_as : (ahead : List ℕ) (n : ℕ) → HasBrace ahead → n ≤ 2 ^ 27 → ScansAs (take n ahead)
scans_as ahead zero brace most =
    record { whole = λ is. absurd (not_begun is); is_whole = λ is. absurd (no_text is); goes = λ open'. nothing_goes_on; is_open = λ goes. tt }
scans_as ahead (suc n) (rest, same) most =
    let less : suc (length (take n rest)) ≤ 2 ^ 27 = omega (arith, length-take n rest) in
    subst (λ l. ScansAs (take (suc n) l)) (sym same) (scans_brace (take n rest) less)

open_or : (s : Scan) → IsOpen s ⊎ (¬ IsOpen s)
open_or (scan.Levels d may) = inl tt
open_or (scan.Text d) = inl tt
open_or (scan.Escape d) = inl tt
open_or scan.Whole = inr (λ h. h)
open_or scan.Torn = inr (λ h. h)

-- without its last byte what was read for a text may go on
pub last_goes : (ahead : List ℕ) (found : Scanned) → HasBrace ahead → ScansAhead ahead found → (before : List ℕ) (b : ℕ) → take found.len ahead ≡ before ++ b ∷ [] → MayGoOn before
last_goes ahead found brace scans before b same =
    let size : length (take found.len ahead) ≡ length before + 1 = ap length same ∙ length-append before (b ∷ []) in
    let all : length (take found.len ahead) ≡ found.len = length-take-le found.len ahead scans.within in
    let one : length before ≡ found.len - 1 = omega arith in
    let less : length before ≤ found.len = omega arith in
    let front : before ≡ take (found.len - 1) ahead =
    sym (take-append_seam before (b ∷ [])) ∙ ap (take (length before)) (sym same) ∙ take-take (length before) found.len ahead less ∙ ap (λ n. take n ahead) one in
    let fits : found.len - 1 ≤ 2 ^ 27 = omega (arith, scans.most) in
    elim (open_or found.scan) [
      | inl open' ↦
          front_goes_on before (b ∷ []) (subst MayGoOn same ((scans_as ahead found.len brace scans.most).goes (subst (λ (s : Scan). IsOpen s) scans.scan open')))
      | inr done ↦ subst MayGoOn (sym front) ((scans_as ahead (found.len - 1) brace fits).goes (scans.last done).1)
    ]
