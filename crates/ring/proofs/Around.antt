-- The tables of a ring are linked in the order of its arcs, and a slot's link leads to the one after it.
use Rattle.std.proofs.Common.{◌≡◌, ℕ, zero, suc, ◌+◌, ◌%◌, ◌<◌, ◌≤◌, List, [], ◌∷◌, ◌++◌, length, get_or, Some, None, sym, refl, ap, ◌∙◌, subst, ⊎_elim, mod-eq_of_lt, arith}
use native.Mathlib.Nat.{mod_self}
use Rattle.std.proofs.lemmas.List.{append_assoc, length-append, get_or_append_left, get_or_at}
use Rattle.std.proofs.lemmas.Bool.{cases_lt, eq-eqb, ne_eqb}
use Rattle.ring.specs.Arcs.{Arcs, ring_of, Linked}
use Rattle.ring.specs.Calls.{first_or, next_in, next_around}
use Rattle.ring.specs.Sound.{Tables, hit, count, Chained, Ringed, Starts, arcs, Holds}
use Rattle.ring.specs.View.{Fine}
use Rattle.ring.proofs.Chain.{hit_same, count_append, count_at, split_at, rotate, starts_next}
use Rattle.ring.proofs.Held.{held}
use Rattle.ring.proofs.Steps.{once, inside, there}

-- ---- lists

-- In a list without repetition equal numbers stand at equal places.
pub same_place : (xs : List ℕ) (i j : ℕ) → ((x : ℕ) → count x xs ≤ 1) → i < length xs → j < length xs → get_or xs i 0 ≡ get_or xs j 0 → i ≡ j
same_place [] i j one li lj e = absurd (omega arith)
same_place (x ∷ xs) zero zero one li lj e = refl
same_place (x ∷ xs) zero (suc j) one li lj e =
    absurd (omega (arith, one x, hit_same x, subst (λ z. 0 < count z xs) (sym e) (count_at xs j (omega arith))))
same_place (x ∷ xs) (suc i) zero one li lj e =
    absurd (omega (arith, one x, hit_same x, subst (λ z. 0 < count z xs) e (count_at xs i (omega arith))))
same_place (x ∷ xs) (suc i) (suc j) one li lj e =
    ap suc (same_place xs i j (λ y. omega (arith, one y)) (omega arith) (omega arith) e)

module _ (n p : ℕ → ℕ) where
  chained_at : (x : ℕ) (ys : List ℕ) (i : ℕ) → Chained n p x ys → i < length ys → n (get_or (x ∷ ys) i 0) ≡ get_or ys i 0
  unfolding Chained
  chained_at x [] i h l = absurd (omega arith)
  chained_at x (y ∷ ys) zero h l = h.0
  chained_at x (y ∷ ys) (suc i) h l = chained_at y ys i h.2 (omega arith)

  ringed_at : (xs : List ℕ) (i : ℕ) → Ringed n p xs → i < length xs → n (get_or xs i 0) ≡ get_or xs ((i + 1) % length xs) 0
  unfolding Ringed
  ringed_at [] i h l = absurd (omega arith)
  ringed_at (x ∷ xs) i h l =
      let at : n (get_or (x ∷ (xs ++ x ∷ [])) i 0) ≡ get_or (xs ++ x ∷ []) i 0 = chained_at x (xs ++ x ∷ []) i h (omega (arith, length-append xs (x ∷ []))) in
      let here : get_or (x ∷ (xs ++ x ∷ [])) i 0 ≡ get_or (x ∷ xs) i 0 = get_or_append_left (x ∷ xs) (x ∷ []) 0 i l in
      ap n (sym here) ∙ (at ∙
      ⊎_elim
      (λ (m : i < length xs).
      let k : (i + 1) % suc (length xs) ≡ suc i = mod-eq_of_lt {n = i + 1} {m = suc (length xs)} (omega arith) ∙ omega arith in
      get_or_append_left xs (x ∷ []) 0 i m ∙ ap (λ z. get_or (x ∷ xs) z 0) (sym k))
      (λ (m : length xs ≤ i).
      let e : i + 1 ≡ suc (length xs) = omega arith in
      let k : (i + 1) % suc (length xs) ≡ 0 = ap (λ z. z % suc (length xs)) e ∙ mod_self (suc (length xs)) in
      get_or_at xs x [] 0 i (omega arith) ∙ ap (λ z. get_or (x ∷ xs) z 0) (sym k))
      (cases_lt i (length xs)))

  undone : (x : ℕ) (xs : List ℕ) → Ringed n p (x ∷ xs) → p (n x) ≡ x
  unfolding Ringed Chained
  undone x [] h = ap p h.0 ∙ h.1
  undone x (y ∷ xs) h = ap p h.0 ∙ h.1

-- ---- the real tables

module _ (t : Tables) (a : Arcs) (h : Holds t a) where
  -- The ring turned so that q comes first.
  turned : (q : ℕ) → q < t.slots → (l : List ℕ) × (r : List ℕ) × (ring_of a ≡ l ++ q ∷ r) × Ringed (λ x. get_or t.next x 0) (λ x. get_or t.prev x 0) (q ∷ (r ++ l))
  turned q l =
      let c = split_at q (ring_of a) (omega (arith, there t a h q l)) in
      (c.0, c.1, c.2, rotate (λ x. get_or t.next x 0) (λ x. get_or t.prev x 0) c.0 (q ∷ c.1) (subst (Ringed (λ x. get_or t.next x 0) (λ x. get_or t.prev x 0)) c.2 h.ringed))

  linked_arcs : Linked t.next t.prev t.slots (ring_of a)
  linked_arcs =
      record {
        size = h.sized;
        within = λ i l. inside t a h (get_or (ring_of a) i 0) (count_at (ring_of a) i (omega (arith, h.sized)));
        once = λ i j li lj e. same_place (ring_of a) i j (once t a h) (omega (arith, h.sized)) (omega (arith, h.sized)) e;
        forward = λ i l. subst (λ k. get_or t.next (get_or (ring_of a) i 0) 0 ≡ get_or (ring_of a) ((i + 1) % k) 0) h.sized (ringed_at (λ x. get_or t.next x 0) (λ x. get_or t.prev x 0) (ring_of a) i h.ringed (omega (arith, h.sized)));
        back = λ q l. let c = turned q l in undone (λ x. get_or t.next x 0) (λ x. get_or t.prev x 0) q (c.1 ++ c.0) c.3;
      }

pub tables_linked : (t : Tables) → Fine t → Linked t.next t.prev t.slots (ring_of (arcs t))
tables_linked t s = linked_arcs t (arcs t) (held t s)

-- ---- the slot after another

starts_first : (x : ℕ) (xs : List ℕ) → 0 < length xs → Starts x xs → x ≡ first_or 0 xs
unfolding Starts
starts_first x [] n h = absurd (omega arith)
starts_first x (y ∷ xs) n h = h

starts_or : (x d : ℕ) (xs ys : List ℕ) → Starts x (xs ++ ys) → (length xs ≡ 0 → x ≡ d) → x ≡ first_or d xs
unfolding Starts
starts_or x d [] ys h k = k refl
starts_or x d (y ∷ xs) ys h k = h

-- Where q stands once, the slot after it is the first of what follows, or the default.
pub next_in_at : (d q : ℕ) (l r : List ℕ) → count q l ≡ 0 → next_in d q (l ++ q ∷ r) ≡ Some (first_or d r)
next_in_at d q [] r z = rw (eq-eqb q q refl)
next_in_at d q (x ∷ l) r z =
    let ne : x ≡ q → ⊥ = λ e. omega (arith, hit_same q, ap (λ v. hit q v) e) in
    rw (ne_eqb x q ne) (next_in_at d q l r (omega arith))

pub next_in_none : (d q : ℕ) (xs : List ℕ) → count q xs ≡ 0 → next_in d q xs ≡ None
next_in_none d q [] z = refl
next_in_none d q (x ∷ xs) z =
    let ne : x ≡ q → ⊥ = λ e. omega (arith, hit_same q, ap (λ v. hit q v) e) in
    rw (ne_eqb x q ne) (next_in_none d q xs (omega arith))

module _ (t : Tables) (s : Fine t) (q : ℕ) where
  pub next_some : q < t.slots → Some (get_or t.next q 0) ≡ next_around q (arcs t)
  next_some l =
      let a = arcs t in
      let h = held t s in
      let c = turned t a h q l in
      let nx = get_or t.next q 0 in
      let d = first_or 0 (ring_of a) in
      let alone : count q c.0 ≡ 0 = omega (arith, once t a h q, ap (count q) c.2, count_append q c.0 (q ∷ c.1), hit_same q) in
      let st : Starts nx ((c.1 ++ c.0) ++ q ∷ []) = starts_next (λ x. get_or t.next x 0) (λ x. get_or t.prev x 0) q (c.1 ++ c.0) c.3 in
      let st' : Starts nx (c.1 ++ (c.0 ++ q ∷ [])) = rw (append_assoc c.1 c.0 (q ∷ [])) at st in
      let is : nx ≡ first_or d c.1 = starts_or nx d c.1 (c.0 ++ q ∷ []) st' (λ z. wrapped nx c.0 c.1 st' z c.2) in
      ap (λ (z : ℕ). Some z) is ∙ sym (ap (next_in d q) c.2 ∙ next_in_at d q c.0 c.1 alone)
    where
      wrapped : (x : ℕ) (l r : List ℕ) → Starts x (r ++ (l ++ q ∷ [])) → length r ≡ 0 → ring_of (arcs t) ≡ l ++ q ∷ r → x ≡ first_or 0 (ring_of (arcs t))
      wrapped x l [] st z e = starts_first x (l ++ q ∷ []) (omega (arith, length-append l (q ∷ []))) st ∙ sym (ap (first_or 0) e)
      wrapped x l (y ∷ r) st z e = absurd (omega arith)

  pub next_none : t.slots ≤ q → None ≡ next_around q (arcs t)
  next_none l =
      let a = arcs t in
      let h = held t s in
      let z : count q (ring_of a) ≡ 0 = ⊎_elim (λ i. absurd (omega (arith, inside t a h q i))) (λ i. omega arith) (cases_lt 0 (count q (ring_of a))) in
      sym (next_in_none (first_or 0 (ring_of a)) q (ring_of a) z)
