-- Which bytes of a document are looked at from its first fault on.
use Rattle.std.proofs.Common.{◌≡◌, ◌≢◌, ℕ, suc, ◌+◌, ◌-◌, ◌<◌, ◌≤◌, ◌⊎◌, List, ◌∷◌, ◌++◌, Bool, true, false, MatchBool, Option, None, Some, arith, get_or, length, min, drop, sym, ap, ◌∙◌, refl, inl, inr, length-append}
use Rattle.std.proofs.Math.Seq.{get_or-append_seam}
use Rattle.bson_model.specs.Bytes.{NulFree}
use Rattle.raw_view.specs.Frame.{HasKey}
use Rattle.raw_view.specs.Frame.Envelope.{IsEnvelope}
use Rattle.raw_tree.specs.WithinLimits.{AllAreAnsweredOneWay, Barrier}
use Rattle.raw_tree.specs.declared.reader.limits.Limits.{Limits}
use Rattle.raw_tree.specs.Barriers.{TellsBarrier, steps_of}
use Rattle.raw_tree.specs.Barriers as barriers
use Rattle.raw_tree.specs.Places.{Step, last_key}
use Rattle.raw_tree.specs.declared.walk.barrier.Barrier as told
use Rattle.raw_tree.proofs.Face.{barrier_bound}
use Rattle.raw_resync.specs.Pieces.{said_len}
use Rattle.raw_resync.specs.Resync.{IsSound}
use Rattle.raw_resync.specs.Charge.{IsBehindText, IsBehindZero, IsOfText, IsOfValue, IsProbed, LooksAt, LooksAtRegex}

neither : (tag : ℕ) (x : Barrier) → tag ≢ 15 → ¬ IsOfText x → ¬ IsBehindText tag x
neither tag x not is (inl text) = is text
neither tag x not is (inr same) = not same

-- whether a text is read up to the fault of a value with this tag
pub no_scope : (tag : ℕ) (x : Barrier) (r : Bool) → tag ≢ 15 → MatchBool r (IsOfText x) (¬ IsOfText x) → MatchBool r (IsBehindText tag x) (¬ IsBehindText tag x)
no_scope tag x true not is = inl is
no_scope tag x false not is = neither tag x not is

pub of_value : (tag : ℕ) (x : Barrier) (path : List Step) (r : Bool) (k : List ℕ) → MatchBool r (IsBehindText tag x) (¬ IsBehindText tag x) → last_key path ≡ Some k
    → MatchBool r (IsOfValue tag x path) (¬ IsOfValue tag x path)
of_value tag x path true k is last = (is, (k, last))
of_value tag x path false k is last = λ v. is v.0

pub no_value : (tag : ℕ) (x : Barrier) (path : List Step) → last_key path ≡ None → ¬ IsOfValue tag x path
no_value tag x path none v = let (text, (key, some)) = v in let bad : ◌≡◌ {A = Option (List ℕ)} None (Some key) = sym none ∙ some in let impossible : ⊥ = cc in impossible

-- no key ends
pub looks_all : (x : Barrier) (path : List Step) (s text : List ℕ) (tag : ℕ) → s ≡ tag ∷ text → NulFree text → LooksAt x path s (length s)
looks_all x path s text tag split free =
    inl (
      λ key k.
          let whole : tag ∷ text ≡ k.tag ∷ (key ++ 0 ∷ k.behind) = sym split ∙ k.spelled in
          let same : text ≡ key ++ 0 ∷ k.behind = ap (drop 1) whole in
          let len : length text ≡ length key + length (0 ∷ k.behind) = ap length same ∙ length-append key (0 ∷ k.behind) in
          free (length key) 0 (omega (arith, len)) (ap (λ l. get_or l (length key) 0) same ∙ get_or-append_seam key 0 k.behind 0),
      refl,
    )

-- either length leads to all of the rest, or both are the same
same_min : (all key behind said r : ℕ) → all ≡ key + behind → (r ≡ said) ⊎ (behind < 4) → min all (key + r + 16) ≡ min all (key + (said + 16))
same_min all key behind said r is (inl one) = omega (arith, one)
same_min all key behind said r is (inr few) = omega (arith, is, few)

-- a key ends, and this follows it
module _ (x : Barrier) (path : List Step) (s text behind : List ℕ) (tag : ℕ) (split : s ≡ tag ∷ text) (z : IsBehindZero text behind) where
  has_key : HasKey s z.0
  has_key = record { tag = tag; behind = behind; spelled = split ∙ ap (λ l. tag ∷ l) z.2; nul_free = z.1 }

  key_len : length s - length behind ≡ length z.0 + 2
  key_len =
      let whole : length s ≡ suc (length text) = ap length split in
      let len : length text ≡ length z.0 + length (0 ∷ behind) = ap length z.2 ∙ length-append z.0 (0 ∷ behind) in
      omega (arith, whole, len)

  pub looks_regex : (m : ℕ) → tag ≡ 11 → LooksAtRegex behind m → LooksAt x path s (length s - length behind + m)
  unfolding has_key
  looks_regex m is regex = inr (inl (z.0, has_key, is, m, regex, ap (λ n. n + m) key_len))

  pub looks_value : (payload : ℕ) → tag ≢ 11 → IsOfValue tag x path → (payload ≡ said_len behind) ⊎ (length behind < 4)
      → LooksAt x path s (min (length s) (length s - length behind + payload + 16))
  unfolding has_key
  looks_value payload not is same =
      let whole : length s ≡ suc (length text) = ap length split in
      let len : length text ≡ length z.0 + length (0 ∷ behind) = ap length z.2 ∙ length-append z.0 (0 ∷ behind) in
      let all : length s ≡ length z.0 + 2 + length behind = omega (arith, whole, len) in
      inr (inr (inl (z.0, has_key, not, is, ap (λ n. min (length s) (n + payload + 16)) key_len ∙ same_min (length s) (length z.0 + 2) (length behind) (said_len behind) payload all same)))

  pub looks_key : tag ≢ 11 → ¬ IsOfValue tag x path → LooksAt x path s (length s - length behind)
  unfolding has_key
  looks_key not none = inr (inr (inr (z.0, has_key, not, none, key_len)))

-- the charge for a document with a barrier is the number of bytes that are looked at
pub costs_fault : (limits : Limits) (b : List ℕ) (barrier : told.Barrier) (m : ℕ) → IsEnvelope b → TellsBarrier limits b (Some barrier) → AllAreAnsweredOneWay limits
    → ((x : Barrier) → barriers.IsBarrier barrier.kind x → LooksAt x (steps_of barrier.place) (drop barrier.place.offset b) m)
    → IsProbed limits b false (barrier.place.offset + m)
costs_fault limits b barrier m envelope (x, is, at) one looks =
    let damaged : ¬ IsSound limits b = λ sound. (one b envelope).not_both sound.tree x sound.reads (steps_of barrier.place, barrier.place.offset, at) in
    (damaged, (x, steps_of barrier.place, barrier.place.offset, m, at, looks x is, refl))

pub offset_within : (limits : Limits) (b : List ℕ) (barrier : told.Barrier) → TellsBarrier limits b (Some barrier) → barrier.place.offset ≤ length b
offset_within limits b barrier (x, is, at) = barrier_bound limits b x (steps_of barrier.place) barrier.place.offset at
