-- The colours of lists of slots, and the arcs that tables hold.
use Rattle.std.proofs.Common.{◌≡◌, ℕ, ◌+◌, ◌<◌, Bool, true, false, eqb, List, [], ◌∷◌, ◌++◌, length, get_or, set, filter, sym, refl, ap, ◌∙◌, subst, ⊎_elim, arith}
use mathlib.Core.Logic.{∥∥₁_elim}
use Rattle.std.proofs.lemmas.List.{append-nil, get_or-set_same, get_or-set_other}
use Rattle.std.proofs.lemmas.List.Elements.{filter-append}
use Rattle.std.proofs.lemmas.Bool.{cases_eq, cases_lt, eq-eqb, ne_eqb}
use Rattle.ring.specs.declared.arcs.Colour.TheVariants.{Free, White, Grey, Black}
use Rattle.ring.specs.Arcs.{Arcs, ring_of}
use Rattle.ring.specs.Sound.{Tables, stamp_colour, code, stamp_code, walk, count, code_at, Coloured, arc, arcs, Holds}
use Rattle.ring.specs.View.{TablesHold, Fine}
use Rattle.ring.proofs.Single.{holds_prop}
use Rattle.ring.proofs.Chain.{hit_same, hit_other, count_append, walk_ringed}

-- ---- the colour that a stamp means, by cases

colour_black : (o : Bool) (e s : ℕ) → s ≡ e → Black ≡ stamp_colour o e s
unfolding stamp_colour
colour_black o e s h = rw (eq-eqb s e h)

colour_grey : (o : Bool) (e s : ℕ) → s ≡ e + 1 → Grey ≡ stamp_colour o e s
unfolding stamp_colour
colour_grey o e s h = rw (ne_eqb s e (λ d. omega arith), eq-eqb s (e + 1) h)

colour_white : (o : Bool) (e s : ℕ) → o ≡ true → s + 2 ≡ e → White ≡ stamp_colour o e s
unfolding stamp_colour
colour_white o e s l h = rw (ne_eqb s e (λ d. omega arith), ne_eqb s (e + 1) (λ d. omega arith), l, eq-eqb (s + 2) e h)

colour_free : (o : Bool) (e s : ℕ) → (s ≡ e → ⊥) → (s ≡ e + 1 → ⊥) → (o ≡ true → s + 2 ≡ e → ⊥) → Free ≡ stamp_colour o e s
unfolding stamp_colour
colour_free true e s n m h = rw (ne_eqb s e n, ne_eqb s (e + 1) m, ne_eqb (s + 2) e (h refl))
colour_free false e s n m h = rw (ne_eqb s e n, ne_eqb s (e + 1) m)

pub stamp_code_3 : (o : Bool) (e s : ℕ) → s ≡ e → 3 ≡ stamp_code o e s
unfolding stamp_code code
stamp_code_3 o e s h = ap code (colour_black o e s h)

pub stamp_code_2 : (o : Bool) (e s : ℕ) → s ≡ e + 1 → 2 ≡ stamp_code o e s
unfolding stamp_code code
stamp_code_2 o e s h = ap code (colour_grey o e s h)

pub stamp_code_1 : (o : Bool) (e s : ℕ) → o ≡ true → s + 2 ≡ e → 1 ≡ stamp_code o e s
unfolding stamp_code code
stamp_code_1 o e s l h = ap code (colour_white o e s l h)

pub stamp_code_0 : (o : Bool) (e s : ℕ) → (s ≡ e → ⊥) → (s ≡ e + 1 → ⊥) → (o ≡ true → s + 2 ≡ e → ⊥) → 0 ≡ stamp_code o e s
unfolding stamp_code code
stamp_code_0 o e s n m h = ap code (colour_free o e s n m h)

pub stamp_code_black : (o : Bool) (e : ℕ) → stamp_code o e e ≡ 3
stamp_code_black o e = sym (stamp_code_3 o e e refl)

pub stamp_code_grey : (o : Bool) (e : ℕ) → stamp_code o e (e + 1) ≡ 2
stamp_code_grey o e = sym (stamp_code_2 o e (e + 1) refl)

-- ---- the colours of lists of slots

module _ (o : Bool) (e : ℕ) (s : List ℕ) where
  pub coloured_nil : (k : ℕ) → Coloured o e s k []
  unfolding Coloured
  coloured_nil k x h = absurd (omega arith)

  pub coloured_cons : (k x : ℕ) (xs : List ℕ) → code_at o e s x ≡ k → Coloured o e s k xs → Coloured o e s k (x ∷ xs)
  unfolding Coloured
  coloured_cons k x xs h r y i =
      ⊎_elim (λ d. ap (code_at o e s) d ∙ h) (λ ne. r y (omega (arith, hit_other y x ne))) (cases_eq y x)

  pub coloured_head : (k x : ℕ) (xs : List ℕ) → Coloured o e s k (x ∷ xs) → code_at o e s x ≡ k
  unfolding Coloured
  coloured_head k x xs h = h x (omega (arith, hit_same x))

  pub coloured_tail : (k x : ℕ) (xs : List ℕ) → Coloured o e s k (x ∷ xs) → Coloured o e s k xs
  unfolding Coloured
  coloured_tail k x xs h y i = h y (omega arith)

  pub coloured_append : (k : ℕ) (xs ys : List ℕ) → Coloured o e s k xs → Coloured o e s k ys → Coloured o e s k (xs ++ ys)
  unfolding Coloured
  coloured_append k xs ys h r y i =
      ⊎_elim (λ l. h y l) (λ l. r y (omega (arith, count_append y xs ys))) (cases_lt 0 (count y xs))

  pub coloured_left : (k : ℕ) (xs ys : List ℕ) → Coloured o e s k (xs ++ ys) → Coloured o e s k xs
  unfolding Coloured
  coloured_left k xs ys h y i = h y (omega (arith, count_append y xs ys))

  pub coloured_right : (k : ℕ) (xs ys : List ℕ) → Coloured o e s k (xs ++ ys) → Coloured o e s k ys
  unfolding Coloured
  coloured_right k xs ys h y i = h y (omega (arith, count_append y xs ys))

  -- A write at a slot that a list lacks leaves its colours.
  pub coloured_painted : (k x v : ℕ) (xs : List ℕ) → count x xs ≡ 0 → Coloured o e s k xs → Coloured o e (set s x v) k xs
  unfolding Coloured code_at
  coloured_painted k x v xs z h y i =
      let ne : y ≡ x → ⊥ = λ d. omega (arith, ap (λ w. count w xs) d) in
      ap (stamp_code o e) (get_or-set_other s x y v 0 ne) ∙ h y i

  pub code_at_painted : (x v : ℕ) → x < length s → code_at o e (set s x v) x ≡ stamp_code o e v
  unfolding code_at
  code_at_painted x v l = ap (stamp_code o e) (get_or-set_same s x v 0 l)

  pub kept_all : (k : ℕ) (xs : List ℕ) → Coloured o e s k xs → filter (λ x. eqb (code_at o e s x) k) xs ≡ xs
  kept_all k [] h = refl
  kept_all k (x ∷ xs) h =
      rw (eq-eqb (code_at o e s x) k (coloured_head k x xs h)) (ap (λ z. x ∷ z) (kept_all k xs (coloured_tail k x xs h)))

  pub kept_none : (j k : ℕ) (xs : List ℕ) → (j ≡ k → ⊥) → Coloured o e s j xs → filter (λ x. eqb (code_at o e s x) k) xs ≡ []
  kept_none j k [] ne h = refl
  kept_none j k (x ∷ xs) ne h =
      rw (ne_eqb (code_at o e s x) k (λ d. ne (sym (coloured_head j x xs h) ∙ d))) (kept_none j k xs ne (coloured_tail j x xs h))

-- ---- the arcs that tables hold are those read off them

pub settled : (t : Tables) (a : Arcs) → Holds t a → arcs t ≡ a
unfolding arcs arc
settled t a h =
    let w : walk t.next t.slots t.head ≡ ring_of a = subst (λ k. walk t.next k t.head ≡ ring_of a) h.sized (walk_ringed t.next (λ x. get_or t.prev x 0) t.head (ring_of a) h.ringed h.head_at) in
    λ i. record { free = p0 w i; white = p1 w i; grey = p2 w i; black = p3 w i }
  where
    keep : ℕ → List ℕ → List ℕ
    keep k xs = filter (λ x. eqb (code_at t.cycle t.epoch t.stamp x) k) xs

    parts : (k : ℕ) → keep k (ring_of a) ≡ keep k a.free ++ (keep k a.white ++ (keep k a.grey ++ keep k a.black))
    parts k = simp filter-append

    all : (k : ℕ) (xs : List ℕ) → Coloured t.cycle t.epoch t.stamp k xs → keep k xs ≡ xs
    all k xs r = kept_all t.cycle t.epoch t.stamp k xs r

    none : (j k : ℕ) (xs : List ℕ) → (j ≡ k → ⊥) → Coloured t.cycle t.epoch t.stamp j xs → keep k xs ≡ []
    none j k xs ne r = kept_none t.cycle t.epoch t.stamp j k xs ne r

    p0 : walk t.next t.slots t.head ≡ ring_of a → keep 0 (walk t.next t.slots t.head) ≡ a.free
    p0 w = ap (keep 0) w ∙ (parts 0 ∙ rw (all 0 a.free h.frees, none 1 0 a.white (λ d. omega arith) h.whites, none 2 0 a.grey (λ d. omega arith) h.greys, none 3 0 a.black (λ d. omega arith) h.blacks) (append-nil a.free))

    p1 : walk t.next t.slots t.head ≡ ring_of a → keep 1 (walk t.next t.slots t.head) ≡ a.white
    p1 w = ap (keep 1) w ∙ (parts 1 ∙ rw (none 0 1 a.free (λ d. omega arith) h.frees, all 1 a.white h.whites, none 2 1 a.grey (λ d. omega arith) h.greys, none 3 1 a.black (λ d. omega arith) h.blacks) (append-nil a.white))

    p2 : walk t.next t.slots t.head ≡ ring_of a → keep 2 (walk t.next t.slots t.head) ≡ a.grey
    p2 w = ap (keep 2) w ∙ (parts 2 ∙ rw (none 0 2 a.free (λ d. omega arith) h.frees, none 1 2 a.white (λ d. omega arith) h.whites, all 2 a.grey h.greys, none 3 2 a.black (λ d. omega arith) h.blacks) (append-nil a.grey))

    p3 : walk t.next t.slots t.head ≡ ring_of a → keep 3 (walk t.next t.slots t.head) ≡ a.black
    p3 w = ap (keep 3) w ∙ (parts 3 ∙ rw (none 0 3 a.free (λ d. omega arith) h.frees, none 1 3 a.white (λ d. omega arith) h.whites, none 2 3 a.grey (λ d. omega arith) h.greys, all 3 a.black h.blacks))

pub sound_from : (t : Tables) (a : Arcs) → Holds t a → Fine t
unfolding TablesHold
sound_from t a h = ∣ subst (Holds t) (sym (settled t a h)) h ∣₁

pub held : (t : Tables) → Fine t → Holds t (arcs t)
unfolding TablesHold
held t s = ∥∥₁_elim s (holds_prop t (arcs t)) (λ h. h)
