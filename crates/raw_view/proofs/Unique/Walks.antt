-- Reading is determined: at most one frame is at the front, at most one stop is there, and there is at most one walk.
use Rattle.std.proofs.Common.{◌≡◌, ℕ, List, [], ◌∷◌, ◌++◌, ◌≤◌, length, ap, sym, ◌∙◌, subst, refl, Option, Some, None, arith, length-append}
use Rattle.std.specs.Str.{IsUtf8}
use Rattle.raw_view.specs.declared.element_type.ElementType.{ElementType}
use Rattle.raw_view.specs.declared.element_type.ElementType.TheVariants as kind
use Rattle.raw_view.specs.declared.error.Reason.{Reason}
use Rattle.raw_view.specs.declared.error.Reason.TheVariants as reason
use Rattle.raw_view.specs.Frame.Kind.{tag_of}
use Rattle.raw_view.specs.Frame.{Frame, IsFrame, HasShape, HasNoFrame, HasKey, IsWalk, End, Done, Stopped, EndsIn, IsStop, Fault, HasBadText, IsPayloadReason, Malformed, no_byte_left, key_not_utf8, no_such_tag, regex_not_utf8, no_payload}
use Rattle.raw_view.specs.OneReading.{IsTheWalk}
use Rattle.raw_view.proofs.Bytes.Cuts.{cut}
use Rattle.raw_view.proofs.Frames.Fronts.{tag_of-same}
use Rattle.raw_view.proofs.Unique.Payloads.{payload_same}
use Rattle.raw_view.proofs.Unique.Reasons.{one_tagged_reason}

-- frames and stops

-- at most one first frame is at the front of bytes
pub one_frame : (s : List ℕ) (f g : Frame) (r q : List ℕ) → IsFrame s f r → IsFrame s g q → (f ≡ g) × (r ≡ q)
one_frame s f g r q a b =
    let both : tag_of f.kind ∷ (f.key ++ 0 ∷ (f.payload ++ r)) ≡ tag_of g.kind ∷ (g.key ++ 0 ∷ (g.payload ++ q)) = sym a.spelled ∙ b.spelled in
    let tags : tag_of f.kind ≡ tag_of g.kind = cc in
    let behind : f.key ++ 0 ∷ (f.payload ++ r) ≡ g.key ++ 0 ∷ (g.payload ++ q) = cc in
    let parts = cut f.key g.key (f.payload ++ r) (g.payload ++ q) a.key_nul_free b.key_nul_free behind in
    let kinds : f.kind ≡ g.kind = tag_of-same f.kind g.kind tags in
    let shape : HasShape f.kind g.payload q = subst (λ (x : ElementType). HasShape x g.payload q) (sym kinds) b.payload_is in
    let same = payload_same f.kind f.payload g.payload r q a.payload_is shape parts.1 in
    let keys = parts.0 in
    let payloads = same.0 in
    (λ i. record { kind = kinds i; key = keys i; payload = payloads i }, same.1)

-- the tag, the key and what follows the key's 0 are determined
one_key : (s k l : List ℕ) (a : HasKey s k) (b : HasKey s l) → (k ≡ l) × (a.tag ≡ b.tag) × (a.behind ≡ b.behind)
one_key s k l a b =
    let both : a.tag ∷ (k ++ 0 ∷ a.behind) ≡ b.tag ∷ (l ++ 0 ∷ b.behind) = sym a.spelled ∙ b.spelled in
    let tags : a.tag ≡ b.tag = cc in
    let behind : k ++ 0 ∷ a.behind ≡ l ++ 0 ∷ b.behind = cc in
    let parts = cut k l a.behind b.behind a.nul_free b.nul_free behind in
    (parts.0, tags, parts.1)

-- a frame has a key
frame_key : (s : List ℕ) (f : Frame) (r : List ℕ) → IsFrame s f r → HasKey s f.key
frame_key s f r b = record { tag = tag_of f.kind; behind = f.payload ++ r; spelled = b.spelled; nul_free = b.key_nul_free }

-- bytes with a key are at least two
key_takes_two : (s key : List ℕ) → HasKey s key → 2 ≤ length s
key_takes_two s key k = omega (arith, ap length k.spelled, length-append key (0 ∷ k.behind))

-- fewer than two bytes have no key
empty_has_no_key : (s key : List ℕ) → s ≡ [] → HasKey s key → ⊥
empty_has_no_key s key e k = omega (arith, ap length e, key_takes_two s key k)

final_has_no_key : (s key : List ℕ) → s ≡ 0 ∷ [] → HasKey s key → ⊥
final_has_no_key s key e k = omega (arith, ap length e, key_takes_two s key k)

-- a stop with a key has it
pub stop_key : (s : List ℕ) (fault : Fault) (key : List ℕ) → IsStop s fault (Some key) → HasKey s key
stop_key s fault key stop = grind arith

-- what one key says of a stop, another key of the same bytes says too
module _ {s k l : List ℕ} (a : HasKey s k) (b : HasKey s l) where
  same_text : IsUtf8 l → IsUtf8 k
  same_text u = subst IsUtf8 (sym (one_key s k l a b).0) u

  same_bad_text : HasBadText b.tag b.behind → HasBadText a.tag a.behind
  same_bad_text bad = let (key_is, tag_is, behind_is) = one_key s k l a b in rw (tag_is, behind_is) bad

  same_reason : (t u : ElementType) (why other : Reason) → a.tag ≡ tag_of t → b.tag ≡ tag_of u → IsPayloadReason t a.behind why → IsPayloadReason u b.behind other → why ≡ other
  same_reason t u why other is also x y =
      let (key_is, tag_is, behind_is) = one_key s k l a b in
      one_tagged_reason a.tag t u a.behind why other is (tag_is ∙ also) x (rw behind_is y)

-- a stop is one
pub one_stop : (s : List ℕ) (fault other : Fault) (key next : Option (List ℕ)) → IsStop s fault key → IsStop s other next → (fault ≡ other) × (key ≡ next)
one_stop s fault other key next (no_byte_left e f n) (no_byte_left _ g m) = (f ∙ sym g, n ∙ sym m)
one_stop s fault other key next (no_byte_left e _ _) (key_not_utf8 l b _ _ _) = absurd (empty_has_no_key s l e b)
one_stop s fault other key next (no_byte_left e _ _) (no_such_tag l b _ _ _ _) = absurd (empty_has_no_key s l e b)
one_stop s fault other key next (no_byte_left e _ _) (regex_not_utf8 l b _ _ _ _ _) = absurd (empty_has_no_key s l e b)
one_stop s fault other key next (no_byte_left e _ _) (no_payload l b _ _ _ _ _ _ _ _ _) = absurd (empty_has_no_key s l e b)
one_stop s fault other key next (key_not_utf8 k a _ _ _) (no_byte_left e _ _) = absurd (empty_has_no_key s k e a)
one_stop s fault other key next (key_not_utf8 k a _ f n) (key_not_utf8 l b _ g m) = (f ∙ sym g, n ∙ sym m)
one_stop s fault other key next (key_not_utf8 k a bad _ _) (no_such_tag l b u _ _ _) = absurd (bad (same_text a b u))
one_stop s fault other key next (key_not_utf8 k a bad _ _) (regex_not_utf8 l b u _ _ _ _) = absurd (bad (same_text a b u))
one_stop s fault other key next (key_not_utf8 k a bad _ _) (no_payload l b _ _ u _ _ _ _ _ _) = absurd (bad (same_text a b u))
one_stop s fault other key next (no_such_tag k a _ _ _ _) (no_byte_left e _ _) = absurd (empty_has_no_key s k e a)
one_stop s fault other key next (no_such_tag k a u _ _ _) (key_not_utf8 l b bad _ _) = absurd (bad (same_text b a u))
one_stop s fault other key next (no_such_tag k a _ _ f n) (no_such_tag l b _ _ g m) =
    let same = one_key s k l a b in
    (f ∙ ap (λ x. Malformed (reason.InvalidTag x)) same.1 ∙ sym g, n ∙ ap Some same.0 ∙ sym m)
one_stop s fault other key next (no_such_tag k a _ none _ _) (regex_not_utf8 l b _ _ bad _ _) = absurd (none kind.RegularExpression (same_bad_text a b bad).0)
one_stop s fault other key next (no_such_tag k a _ none _ _) (no_payload l b t _ _ is _ _ _ _ _) = absurd (none t ((one_key s k l a b).1 ∙ is))
one_stop s fault other key next (regex_not_utf8 k a _ _ _ _ _) (no_byte_left e _ _) = absurd (empty_has_no_key s k e a)
one_stop s fault other key next (regex_not_utf8 k a u _ _ _ _) (key_not_utf8 l b bad _ _) = absurd (bad (same_text b a u))
one_stop s fault other key next (regex_not_utf8 k a _ _ bad _ _) (no_such_tag l b _ none _ _) = absurd (none kind.RegularExpression (same_bad_text b a bad).0)
one_stop s fault other key next (regex_not_utf8 k a _ _ _ f n) (regex_not_utf8 l b _ _ _ g m) = (f ∙ sym g, n ∙ ap Some (one_key s k l a b).0 ∙ sym m)
one_stop s fault other key next (regex_not_utf8 k a _ _ bad _ _) (no_payload l b _ _ _ _ _ good _ _ _) = absurd (good (same_bad_text b a bad))
one_stop s fault other key next (no_payload k a _ _ _ _ _ _ _ _ _) (no_byte_left e _ _) = absurd (empty_has_no_key s k e a)
one_stop s fault other key next (no_payload k a _ _ u _ _ _ _ _ _) (key_not_utf8 l b bad _ _) = absurd (bad (same_text b a u))
one_stop s fault other key next (no_payload k a t _ _ is _ _ _ _ _) (no_such_tag l b _ none _ _) = absurd (none t ((one_key s l k b a).1 ∙ is))
one_stop s fault other key next (no_payload k a _ _ _ _ _ good _ _ _) (regex_not_utf8 l b _ _ bad _ _) = absurd (good (same_bad_text a b bad))
one_stop s fault other key next (no_payload k a t why _ is _ _ x f n) (no_payload l b u because _ also _ _ y g m) =
    (f ∙ ap Malformed (same_reason a b t u why because is also x y) ∙ sym g, n ∙ ap Some (one_key s k l a b).0 ∙ sym m)

-- where there is a stop, there is no frame
pub no_frame_at_stop : (s : List ℕ) (fault : Fault) (key : Option (List ℕ)) → IsStop s fault key → HasNoFrame s
unfolding frame_key
no_frame_at_stop s fault key (no_byte_left none _ _) f r b = empty_has_no_key s f.key none (frame_key s f r b)
no_frame_at_stop s fault key (key_not_utf8 k at bad _ _) f r b = bad (subst IsUtf8 (sym (one_key s k f.key at (frame_key s f r b)).0) b.key_utf8)
no_frame_at_stop s fault key (no_such_tag k at text none _ _) f r b = none f.kind (one_key s k f.key at (frame_key s f r b)).1
no_frame_at_stop s fault key (regex_not_utf8 k at text none bad _ _) f r b = none f r b
no_frame_at_stop s fault key (no_payload k at t why text tag none good is _ _) f r b = none f r b

-- at the final 0 there is neither a frame nor a stop
pub no_frame_at_final : (s : List ℕ) → s ≡ 0 ∷ [] → HasNoFrame s
no_frame_at_final s e f r b = final_has_no_key s f.key e (frame_key s f r b)

pub no_stop_at_final : (s : List ℕ) (fault : Fault) (key : Option (List ℕ)) → s ≡ 0 ∷ [] → ¬ IsStop s fault key
no_stop_at_final s fault key e (no_byte_left none _ _) = let bad : ◌≡◌ {A = List ℕ} (0 ∷ []) [] = sym e ∙ none in cc
no_stop_at_final s fault key e (key_not_utf8 k at bad _ _) = final_has_no_key s k e at
no_stop_at_final s fault key e (no_such_tag k at text none _ _) = final_has_no_key s k e at
no_stop_at_final s fault key e (regex_not_utf8 k at text none bad _ _) = final_has_no_key s k e at
no_stop_at_final s fault key e (no_payload k at t why text tag none good is _ _) = final_has_no_key s k e at

-- walks

-- where a walk ends, there is no frame
pub no_frame_at_end : (s : List ℕ) (end : End) → EndsIn s end → HasNoFrame s
no_frame_at_end s Done e = no_frame_at_final s e
no_frame_at_end s (Stopped fault key) e = no_frame_at_stop s fault key e

-- bytes end in one way
pub one_end : (s : List ℕ) (e d : End) → EndsIn s e → EndsIn s d → e ≡ d
one_end s Done Done a b = refl
one_end s Done (Stopped fault key) a b = absurd (no_stop_at_final s fault key a b)
one_end s (Stopped fault key) Done a b = absurd (no_stop_at_final s fault key b a)
one_end s (Stopped fault key) (Stopped fault2 key2) a b =
    let same = one_stop s fault fault2 key key2 a b in
    rw (same.0, same.1)

-- one walk at most
pub one_walk : (s : List ℕ) (fs gs : List Frame) (e d : End) → IsWalk s fs e → IsWalk s gs d → (fs ≡ gs) × (e ≡ d)
one_walk s [] [] e d a b = (refl, one_end s e d a b)
one_walk s [] (g ∷ gs) e d a b = absurd (no_frame_at_end s e a g b.0 b.1)
one_walk s (f ∷ fs) [] e d a b = absurd (no_frame_at_end s d b f a.0 a.1)
one_walk s (f ∷ fs) (g ∷ gs) e d a b =
    let first = one_frame s f g a.0 b.0 a.1 b.1 in
    let rest = one_walk a.0 fs gs e d a.2 (subst (λ (x : List ℕ). IsWalk x gs d) (sym first.1) b.2) in
    (λ i. first.0 i ∷ rest.0 i, rest.1)

-- so a walk is the only one of its bytes
pub the_walk : (s : List ℕ) (frames : List Frame) (end : End) → IsWalk s frames end → IsTheWalk s frames end
the_walk s frames end w = (w, λ other last o. one_walk s other frames last end o w)
