-- Lists whose neighbours are linked, and how often a number stands in a list.
use Rattle.std.proofs.Common.{◌≡◌, ℕ, zero, suc, ◌+◌, ◌<◌, ◌≤◌, Bool, true, false, cond, eqb, List, [], ◌∷◌, ◌++◌, length, get_or, sym, refl, ap, ◌∙◌, subst, ⊎_elim, append_assoc, arith}
use Rattle.std.proofs.lemmas.List.{append-nil}
use Rattle.std.proofs.lemmas.Bool.{cases_eq, cases_lt, eq-eqb, ne_eqb, or_left, or_right, or_from, both_ways}
use Rattle.ring.specs.Arcs.{has, without, split_last}
use Rattle.ring.specs.Sound.{hit, count, walk, Chained, Ringed, Starts}

-- ---- counts

pub one_most : (b : Bool) → cond b 1 0 ≤ 1
one_most true = omega arith
one_most false = omega arith

pub hit_same : (x : ℕ) → hit x x ≡ 1
hit_same x = rw (eq-eqb x x refl)

pub hit_other : (x y : ℕ) → (x ≡ y → ⊥) → hit x y ≡ 0
hit_other x y h = rw (ne_eqb x y h)

pub count_append : (x : ℕ) (xs ys : List ℕ) → count x (xs ++ ys) ≡ count x xs + count x ys
count_append x [] ys = omega arith
count_append x (y ∷ xs) ys = let ih = count_append x xs ys in omega arith

-- What stands in a list is counted in it.
pub count_at : (xs : List ℕ) (i : ℕ) → i < length xs → 0 < count (get_or xs i 0) xs
count_at [] i l = absurd (omega arith)
count_at (x ∷ xs) zero l = omega (arith, hit_same x)
count_at (x ∷ xs) (suc i) l = let r = count_at xs i (omega arith) in omega arith

pub split_at : (q : ℕ) (xs : List ℕ) → 0 < count q xs → (l : List ℕ) × (r : List ℕ) × (xs ≡ l ++ q ∷ r)
split_at q [] h = absurd (omega arith)
split_at q (x ∷ xs) h =
    ⊎_elim
    (λ e. ([], xs, ap (λ z. z ∷ xs) (sym e)))
    (λ ne.
    let s = split_at q xs (omega (arith, hit_other q x ne)) in
    (x ∷ s.0, s.1, ap (λ z. x ∷ z) s.2))
    (cases_eq q x)

-- ---- the last of a list that begins with a number

unfoldable pub last_of : ℕ → List ℕ → ℕ
last_of a [] = a
last_of a (y ∷ ys) = last_of y ys

pub lastOf_in : (a : ℕ) (ys : List ℕ) → 0 < count (last_of a ys) (a ∷ ys)
unfolding last_of
lastOf_in a [] = omega (arith, hit_same a)
lastOf_in a (y ∷ ys) = let ih = lastOf_in y ys in omega arith

pub lastOf_append : (a : ℕ) (xs : List ℕ) (y : ℕ) (ys : List ℕ) → last_of a (xs ++ y ∷ ys) ≡ last_of y ys
unfolding last_of
lastOf_append a [] y ys = refl
lastOf_append a (x ∷ xs) y ys = lastOf_append x xs y ys

-- ---- links

module _ (n p : ℕ → ℕ) where
  pub chained_split : (a : ℕ) (ys : List ℕ) (y : ℕ) (zs : List ℕ) → Chained n p a (ys ++ y ∷ zs) → Chained n p a (ys ++ y ∷ []) × Chained n p y zs
  unfolding Chained
  chained_split a [] y zs h = ((h.0, h.1, tt), h.2)
  chained_split a (x ∷ ys) y zs h = let r = chained_split x ys y zs h.2 in ((h.0, h.1, r.0), r.1)

  pub chained_join : (a : ℕ) (ys : List ℕ) (y : ℕ) (zs : List ℕ) → Chained n p a (ys ++ y ∷ []) → Chained n p y zs → Chained n p a (ys ++ y ∷ zs)
  unfolding Chained
  chained_join a [] y zs h k = (h.0, h.1, k)
  chained_join a (x ∷ ys) y zs h k = (h.0, h.1, chained_join x ys y zs h.2 k)

  pub chained_ends : (a : ℕ) (ys : List ℕ) (z : ℕ) → Chained n p a (ys ++ z ∷ []) → (n (last_of a ys) ≡ z) × (p z ≡ last_of a ys)
  unfolding Chained last_of
  chained_ends a [] z h = (h.0, h.1)
  chained_ends a (y ∷ ys) z h = chained_ends y ys z h.2

  pub rotate : (xs ys : List ℕ) → Ringed n p (xs ++ ys) → Ringed n p (ys ++ xs)
  unfolding Ringed
  rotate [] ys h = rw (append-nil ys) h
  rotate (x ∷ xs) [] h = rw (append-nil xs) at h
  rotate (x ∷ xs) (y ∷ ys) h =
      let k = chained_split x xs y (ys ++ x ∷ []) (rw (append_assoc xs (y ∷ ys) (x ∷ [])) at h) in
      rw (append_assoc ys (x ∷ xs) (y ∷ [])) (chained_join y ys x (xs ++ y ∷ []) k.1 k.0)

  pub starts_next : (x : ℕ) (xs : List ℕ) → Ringed n p (x ∷ xs) → Starts (n x) (xs ++ x ∷ [])
  unfolding Ringed Chained Starts
  starts_next x [] h = h.0
  starts_next x (y ∷ xs) h = h.0

-- The links of a chain but the last one stand, and its last slot leads to another.
module _ (n p n' p' : ℕ → ℕ) where
  pub retarget : (a : ℕ) (ys : List ℕ) (old new : ℕ) → Chained n p a (ys ++ old ∷ []) → ((x : ℕ) → count x (a ∷ ys) ≤ 1) → n' (last_of a ys) ≡ new → p' new ≡ last_of a ys → ((x : ℕ) → 0 < count x (a ∷ ys) → (x ≡ last_of a ys → ⊥) → n' x ≡ n x) → ((x : ℕ) → 0 < count x ys → p' x ≡ p x) → Chained n' p' a (ys ++ new ∷ [])
  unfolding Chained last_of
  retarget a [] old new h once n-new p-new n-same p-same = (n-new, p-new, tt)
  retarget a (y ∷ ys) old new h once n-new p-new n-same p-same = (
    n-same a (omega (arith, hit_same a))
        (λ e. let i : 0 < count a (y ∷ ys) = subst (λ z. 0 < count z (y ∷ ys)) (sym e) (lastOf_in y ys) in
        omega (arith, once a, hit_same a, i))
        ∙ h.0,
    p-same y (omega (arith, hit_same y)) ∙ h.1,
    retarget y ys old new h.2 (λ x. omega (arith, once x)) n-new p-new
        (λ x i ne. n-same x (omega arith) ne)
        (λ x i. p-same x (omega arith)),
  )

  pub unlink : (q x : ℕ) (xs : List ℕ) → Ringed n p (q ∷ x ∷ xs) → ((k : ℕ) → count k (q ∷ x ∷ xs) ≤ 1) → n' (last_of x xs) ≡ x → p' x ≡ last_of x xs → ((k : ℕ) → (k ≡ last_of x xs → ⊥) → n' k ≡ n k) → ((k : ℕ) → (k ≡ x → ⊥) → p' k ≡ p k) → Ringed n' p' (x ∷ xs)
  unfolding Ringed Chained
  unlink q x xs h once n-new p-new n-same p-same =
      retarget x xs q x h.2 (λ k. omega (arith, once k)) n-new p-new (λ k i ne. n-same k ne)
      (λ k i. p-same k (λ e. let j : 0 < count x xs = subst (λ z. 0 < count z xs) e i in omega (arith, once x, hit_same x)))

  pub insert : (q y : ℕ) (ys : List ℕ) → Ringed n p (y ∷ ys) → ((k : ℕ) → count k (q ∷ y ∷ ys) ≤ 1) → n' (last_of y ys) ≡ q → p' q ≡ last_of y ys → n' q ≡ y → p' y ≡ q → ((k : ℕ) → (k ≡ last_of y ys → ⊥) → (k ≡ q → ⊥) → n' k ≡ n k) → ((k : ℕ) → (k ≡ q → ⊥) → (k ≡ y → ⊥) → p' k ≡ p k) → Ringed n' p' (q ∷ y ∷ ys)
  unfolding Ringed Chained
  insert q y ys h once n-last p-q n-q p-y n-same p-same = (
    n-q,
    p-y,
    retarget y ys y q h (λ k. omega (arith, once k)) n-last p-q
        (λ k i ne. n-same k ne
        (λ e. let j : 0 < count q (y ∷ ys) = subst (λ z. 0 < count z (y ∷ ys)) e i in omega (arith, once q, hit_same q, j)))
        (λ k i. p-same k
        (λ e. let j : 0 < count q ys = subst (λ z. 0 < count z ys) e i in omega (arith, once q, hit_same q))
        (λ e. let j : 0 < count y ys = subst (λ z. 0 < count z ys) e i in omega (arith, once y, hit_same y))),
  )

-- ---- the walk

pub walk_linked : (n : List ℕ) (p : ℕ → ℕ) (a : ℕ) (ys : List ℕ) (z : ℕ) → Chained (λ x. get_or n x 0) p a (ys ++ z ∷ []) → walk n (suc (length ys)) a ≡ a ∷ ys
unfolding walk Chained
walk_linked n p a [] z h = refl
walk_linked n p a (y ∷ ys) z h = ap (λ v. a ∷ v) (rw h.0 (walk_linked n p y ys z h.2))

pub walk_ringed : (n : List ℕ) (p : ℕ → ℕ) (h : ℕ) (xs : List ℕ) → Ringed (λ x. get_or n x 0) p xs → Starts h xs → walk n (length xs) h ≡ xs
unfolding walk Ringed Starts
walk_ringed n p h [] r l = refl
walk_ringed n p h (x ∷ xs) r l = rw l (walk_linked n p x xs x r)

-- ---- whether a number stands in a list, and the list without it

pub count_has : (q : ℕ) (xs : List ℕ) → 0 < count q xs → has q xs ≡ true
count_has q [] h = absurd (omega arith)
count_has q (x ∷ xs) h =
    ⊎_elim
    (λ e. or_left (eqb x q) (has q xs) (eq-eqb x q e))
    (λ ne. or_right (eqb x q) (has q xs) (count_has q xs (omega (arith, hit_other q x (λ e. ne (sym e))))))
    (cases_eq x q)

pub count_hasnt : (q : ℕ) (xs : List ℕ) → count q xs ≡ 0 → has q xs ≡ false
count_hasnt q [] h = refl
count_hasnt q (x ∷ xs) h =
    let ne : x ≡ q → ⊥ = λ e. omega (arith, hit_same q, ap (λ z. hit q z) e) in
    or_from (eqb x q) (has q xs) (ne_eqb x q ne) (count_hasnt q xs (omega arith))

pub has_count : (q : ℕ) (xs : List ℕ) → has q xs ≡ true → 0 < count q xs
has_count q xs h = ⊎_elim (λ l. l) (λ l. absurd (both_ways (has q xs) (count_hasnt q xs (omega arith)) h)) (cases_lt 0 (count q xs))

pub without_at : (q : ℕ) (l r : List ℕ) → count q l ≡ 0 → without q (l ++ q ∷ r) ≡ l ++ r
without_at q [] r h = rw (eq-eqb q q refl)
without_at q (x ∷ l) r h =
    let ne : x ≡ q → ⊥ = λ e. omega (arith, hit_same q, ap (λ z. hit q z) e) in
    rw (ne_eqb x q ne) (ap (λ z. x ∷ z) (without_at q l r (omega arith)))

-- ---- the last of a list and those before it

pub split_push : (x : ℕ) (xs : List ℕ) (z : ℕ) → split_last x (xs ++ z ∷ []) ≡ (x ∷ xs, z)
split_push x [] z = refl
split_push x (y ∷ xs) z = ap (λ (p : List ℕ × ℕ). (x ∷ p.0, p.1)) (split_push y xs z)
