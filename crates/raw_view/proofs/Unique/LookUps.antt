-- What a look-up finds is determined.
use Rattle.std.proofs.Common.{refl, ◌≡◌, ◌≢◌, ℕ, List, [], ◌∷◌, ◌<◌, length, drop, ap, sym, ◌∙◌, subst, arith, Option, Some}
use Rattle.raw_view.specs.Frame.{Frame, IsFrame, End, IsWalk, LeadsTo}
use Rattle.raw_view.specs.Meaning.{Meaning}
use Rattle.raw_view.specs.LookUp.{HasNoKey, FoundElement, found, missing, FindsElement, FindsElementAt, IsMeant, MeansFound, LooksUp, FoundItem, at_frame, at_end, past_end, FindsItem, MeansItem, IsAt, KeyAnswer, present, absent, FindsKey}
use Rattle.raw_view.specs.LookUp.ElementLookUp.{IsTheElement, IsTheElementAt}
use Rattle.raw_view.specs.OneReading.{IsTheAnswer, IsTheKeyAnswer, IsTheAnswerAt}
use Rattle.raw_view.proofs.Unique.Walks.{one_frame, one_walk, no_frame_at_end}
use Rattle.raw_view.proofs.Unique.Meanings.{one_meaning}

-- elements

-- no frame of a walk without the key has it
no_such_frame : (s key : List ℕ) (fs gs : List Frame) (end : End) (r q : List ℕ) (g : Frame) → IsWalk s fs end → HasNoKey key fs → LeadsTo s gs r → IsFrame r g q → g.key ≢ key
no_such_frame s key [] [] end r q g w none l b k = no_frame_at_end s end w g q (rw l b)
no_such_frame s key [] (h ∷ gs) end r q g w none l b k = no_frame_at_end s end w h l.0 l.1
no_such_frame s key (f ∷ fs) [] end r q g w none l b k = none.0 (ap (λ (x : Frame). x.key) (one_frame s f g w.0 q w.1 (rw l b)).0 ∙ k)
no_such_frame s key (f ∷ fs) (h ∷ gs) end r q g w none l b k =
    let same = one_frame s f h w.0 l.0 w.1 l.1 in
    no_such_frame w.0 key fs gs end r q g w.2 none.1 (rw same.1 l.2) b k

-- by key, one element is found

-- the first frame with the key is this one, after frames of which none has it
abbrev IsFirstWith : List ℕ → List ℕ → List Frame → Frame → Type 0
IsFirstWith s key fs f = (r t : List ℕ) × LeadsTo s fs r × HasNoKey key fs × IsFrame r f t × (f.key ≡ key)

same_element : (s key : List ℕ) (fs gs : List Frame) (f g : Frame) → IsFirstWith s key fs f → IsFirstWith s key gs g → f ≡ g
same_element s key [] [] f g (r, t, x, m, a, h) (q, u, y, n, b, k) = (one_frame s f g t u (rw x a) (rw y b)).0
same_element s key [] (e ∷ gs) f g (r, t, x, m, a, h) (q, u, y, n, b, k) =
    absurd (n.0 (ap (λ (z : Frame). z.key) (one_frame s e f y.0 t y.1 (rw x a)).0 ∙ h))
same_element s key (e ∷ fs) [] f g (r, t, x, m, a, h) (q, u, y, n, b, k) =
    absurd (m.0 (ap (λ (z : Frame). z.key) (one_frame s e g x.0 u x.1 (rw y b)).0 ∙ k))
same_element s key (e ∷ fs) (d ∷ gs) f g (r, t, x, m, a, h) (q, u, y, n, b, k) =
    let same = one_frame s e d x.0 y.0 x.1 y.1 in
    same_element x.0 key fs gs f g (r, t, x.2, m.1, a, h) (q, u, rw same.1 y.2, n.1, b, k)

one_with_key : (b key : List ℕ) (f g : Frame) → FindsElement b key (found f) → FindsElement b key (found g) → f ≡ g
one_with_key b key f g (fs, r, t, x, m, a, h) (gs, q, u, y, n, b', k) = same_element (drop 4 b) key fs gs f g (r, t, x, m, a, h) (q, u, y, n, b', k)

one_element : (b key : List ℕ) (x y : FoundElement) → FindsElement b key x → FindsElement b key y → x ≡ y
one_element b key (found f) (found g) x y = ap found (one_with_key b key f g x y)
one_element b key (found f) (missing end) x y = absurd (no_such_frame (drop 4 b) key y.0 x.0 end x.1 x.2 f y.1 y.2 x.3 x.5 x.6)
one_element b key (missing end) (found g) x y = absurd (no_such_frame (drop 4 b) key x.0 y.0 end y.1 y.2 g x.1 x.2 y.3 y.5 y.6)
one_element b key (missing end) (missing last) x y = ap missing (one_walk (drop 4 b) x.0 y.0 end last x.1 y.1).1

pub the_element : (b key : List ℕ) (x : FoundElement) → FindsElement b key x → IsTheElement b key x
the_element b key x a = (a, λ other o. one_element b key other x o a)

-- by number, too

-- as many frames lead to the same bytes
led_to : (s : List ℕ) (fs gs : List Frame) (r q : List ℕ) → LeadsTo s fs r → LeadsTo s gs q → length fs ≡ length gs → r ≡ q
led_to s [] [] r q x y n = sym x ∙ y
led_to s [] (g ∷ gs) r q x y n = absurd (omega (arith, n))
led_to s (f ∷ fs) [] r q x y n = absurd (omega (arith, n))
led_to s (f ∷ fs) (g ∷ gs) r q x y n =
    let same = one_frame s f g x.0 y.0 x.1 y.1 in
    led_to x.0 fs gs r q x.2 (rw same.1 y.2) (omega (arith, n))

-- a walk has more frames than are before one of them
fewer_before : (s : List ℕ) (fs gs : List Frame) (end : End) (r q : List ℕ) (g : Frame) → IsWalk s fs end → LeadsTo s gs r → IsFrame r g q → length gs < length fs
fewer_before s [] [] end r q g w l b = absurd (no_frame_at_end s end w g q (rw l b))
fewer_before s [] (h ∷ gs) end r q g w l b = absurd (no_frame_at_end s end w h l.0 l.1)
fewer_before s (f ∷ fs) [] end r q g w l b = omega arith
fewer_before s (f ∷ fs) (h ∷ gs) end r q g w l b =
    let same = one_frame s f h w.0 l.0 w.1 l.1 in
    omega (arith, fewer_before w.0 fs gs end r q g w.2 (rw same.1 l.2) b)

one_with_number : (b : List ℕ) (number : ℕ) (f g : Frame) → FindsElementAt b number (found f) → FindsElementAt b number (found g) → f ≡ g
one_with_number b number f g x y =
    let same : x.1 ≡ y.1 = led_to (drop 4 b) x.0 y.0 x.1 y.1 x.3 y.3 (x.4 ∙ sym y.4) in
    (one_frame x.1 f g x.2 y.2 x.5 (rw same y.5)).0

one_element_at : (b : List ℕ) (number : ℕ) (x y : FoundElement) → FindsElementAt b number x → FindsElementAt b number y → x ≡ y
one_element_at b number (found f) (found g) x y = ap found (one_with_number b number f g x y)
one_element_at b number (found f) (missing end) x y = absurd (omega (arith, fewer_before (drop 4 b) y.0 x.0 end x.1 x.2 f y.1 x.3 x.5, x.4, y.2))
one_element_at b number (missing end) (found g) x y = absurd (omega (arith, fewer_before (drop 4 b) x.0 y.0 end y.1 y.2 g x.1 y.3 y.5, y.4, x.2))
one_element_at b number (missing end) (missing last) x y = ap missing (one_walk (drop 4 b) x.0 y.0 end last x.1 y.1).1

pub the_element_at : (b : List ℕ) (number : ℕ) (x : FoundElement) → FindsElementAt b number x → IsTheElementAt b number x
the_element_at b number x a = (a, λ other o. one_element_at b number other x o a)

-- what they mean

meant_once : (f : Frame) (a c : Option Meaning) → IsMeant f a → IsMeant f c → a ≡ c
meant_once f a c x y = x.2 ∙ ap Some (one_meaning f x.0 y.0 x.1 y.1) ∙ sym y.2

-- by key
means_once : (x : FoundElement) (a c : Option Meaning) → MeansFound x a → MeansFound x c → a ≡ c
means_once (found f) a c m n = meant_once f a c m n
means_once (missing end) a c m n = m ∙ sym n

pub one_look_up : {b key : List ℕ} {a c : Option Meaning} → LooksUp b key a → LooksUp b key c → a ≡ c
one_look_up {b = b} {key = key} {a = a} {c = c} x y =
    means_once x.element a c x.means (subst (λ (e : FoundElement). MeansFound e c) (sym (one_element b key x.element y.element x.finds y.finds)) y.means)

pub the_answer : (b key : List ℕ) (answer : Option Meaning) → LooksUp b key answer → IsTheAnswer b key answer
the_answer b key answer a = (a, λ other o. one_look_up o a)

-- by position
one_item : (b : List ℕ) (index : ℕ) (x y : FoundItem) → FindsItem b index x → FindsItem b index y → x ≡ y
one_item b index (at_frame f) (at_frame g) x y = ap at_frame (one_with_number b index f g x y)
one_item b index (at_frame f) (at_end end) x y = absurd (omega (arith, fewer_before (drop 4 b) y.0 x.0 end x.1 x.2 f y.1 x.3 x.5, x.4, y.2))
one_item b index (at_frame f) past_end x y = absurd (omega (arith, fewer_before (drop 4 b) y.0 x.0 y.1 x.1 x.2 f y.2 x.3 x.5, x.4, y.3))
one_item b index (at_end end) (at_frame g) x y = absurd (omega (arith, fewer_before (drop 4 b) x.0 y.0 end y.1 y.2 g x.1 y.3 y.5, y.4, x.2))
one_item b index (at_end end) (at_end last) x y = ap at_end (one_walk (drop 4 b) x.0 y.0 end last x.1 y.1).1
one_item b index (at_end end) past_end x y = let same = ap length (one_walk (drop 4 b) x.0 y.0 end y.1 x.1 y.2).0 in absurd (omega (arith, same, x.2, y.3))
one_item b index past_end (at_frame g) x y = absurd (omega (arith, fewer_before (drop 4 b) x.0 y.0 x.1 y.1 y.2 g x.2 y.3 y.5, y.4, x.3))
one_item b index past_end (at_end end) x y = let same = ap length (one_walk (drop 4 b) x.0 y.0 x.1 end x.2 y.1).0 in absurd (omega (arith, same, x.3, y.2))
one_item b index past_end past_end x y = refl

item_means_once : (x : FoundItem) (a c : Option Meaning) → MeansItem x a → MeansItem x c → a ≡ c
item_means_once (at_frame f) a c m n = meant_once f a c m n
item_means_once (at_end end) a c m n = m ∙ sym n
item_means_once past_end a c m n = m ∙ sym n

one_at : (b : List ℕ) (index : ℕ) (a c : Option Meaning) → IsAt b index a → IsAt b index c → a ≡ c
one_at b index a c x y =
    item_means_once x.item a c x.means (subst (λ (i : FoundItem). MeansItem i c) (sym (one_item b index x.item y.item x.finds y.finds)) y.means)

pub the_answer_at : (b : List ℕ) (index : ℕ) (answer : Option Meaning) → IsAt b index answer → IsTheAnswerAt b index answer
the_answer_at b index answer a = (a, λ other o. one_at b index other answer o a)

-- whether a key is there

-- a document has a key or doesn't, and its walk has one end
one_key_answer : (b key : List ℕ) (a c : KeyAnswer) → FindsKey b key a → FindsKey b key c → a ≡ c
one_key_answer b key present present x y = refl
one_key_answer b key present (absent end) x y = absurd (no_such_frame (drop 4 b) key y.0 x.0 end x.1 x.3 x.2 y.1 y.2 x.4 x.5 x.6)
one_key_answer b key (absent end) present x y = absurd (no_such_frame (drop 4 b) key x.0 y.0 end y.1 y.3 y.2 x.1 x.2 y.4 y.5 y.6)
one_key_answer b key (absent end) (absent last) x y = ap absent (one_walk (drop 4 b) x.0 y.0 end last x.1 y.1).1

pub the_key_answer : (b key : List ℕ) (answer : KeyAnswer) → FindsKey b key answer → IsTheKeyAnswer b key answer
the_key_answer b key answer a = (a, λ other o. one_key_answer b key other answer o a)
