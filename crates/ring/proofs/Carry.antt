-- A slot that is carried along a ring, over tables.
use Rattle.std.proofs.Common.{◌≡◌, ℕ, ◌<◌, ◌≤◌, List, [], ◌∷◌, ◌++◌, length, get_or, set, sym, refl, ap, ◌∙◌, subst, append_assoc, arith}
use Rattle.std.proofs.lemmas.List.{length-append, length-set, get_or-set_same, get_or-set_other}
use Rattle.ring.specs.Sound.{hit, count, Chained, Ringed, Starts}
use Rattle.ring.proofs.Chain.{hit_same, count_append, last_of, lastOf_in, lastOf_append, chained_ends, rotate, unlink, insert}

-- The last number of a list.
unfoldable pub lastD : List ℕ → ℕ
lastD [] = 0
lastD (x ∷ xs) = last_of x xs

pub lastD_append : (xs : List ℕ) (y : ℕ) (ys : List ℕ) → lastD (xs ++ y ∷ ys) ≡ last_of y ys
unfolding lastD
lastD_append [] y ys = refl
lastD_append (x ∷ xs) y ys = lastOf_append x xs y ys

pub lastD_behind : (xs ys : List ℕ) → 0 < length ys → lastD (xs ++ ys) ≡ lastD ys
unfolding lastD
lastD_behind xs [] h = absurd (omega arith)
lastD_behind xs (y ∷ ys) h = lastD_append xs y ys

pub lastD_in : (xs : List ℕ) → 0 < length xs → 0 < count (lastD xs) xs
unfolding lastD
lastD_in [] h = absurd (omega arith)
lastD_in (x ∷ xs) h = lastOf_in x xs

pub starts_in : (x : ℕ) (xs : List ℕ) → 0 < length xs → Starts x xs → 0 < count x xs
unfolding Starts
starts_in x [] h l = absurd (omega arith)
starts_in x (y ∷ ys) h l = omega (arith, hit_same x, ap (hit x) l)

module _ (n p : ℕ → ℕ) where
  -- Behind the last slot comes the first, and before the first the last.
  pub front_of : (xs : List ℕ) → 0 < length xs → Ringed n p xs → Starts (n (lastD xs)) xs
  unfolding lastD Starts Ringed
  front_of [] h r = absurd (omega arith)
  front_of (x ∷ xs) h r = (chained_ends n p x xs x r).0

  pub back_of : (h : ℕ) (xs : List ℕ) → 0 < length xs → Starts h xs → Ringed n p xs → p h ≡ lastD xs
  unfolding lastD Starts Ringed
  back_of h [] k l r = absurd (omega arith)
  back_of h (x ∷ xs) k l r = ap p l ∙ (chained_ends n p x xs x r).1

  pub before : (q : ℕ) (xs : List ℕ) → 0 < length xs → Ringed n p (q ∷ xs) → p q ≡ lastD xs
  unfolding lastD Ringed last_of
  before q [] k r = absurd (omega arith)
  before q (x ∷ xs) k r = (chained_ends n p q (x ∷ xs) q r).1

  pub behind : (q : ℕ) (xs : List ℕ) → 0 < length xs → Ringed n p (q ∷ xs) → Starts (n q) xs
  unfolding Starts Ringed Chained
  behind q [] k r = absurd (omega arith)
  behind q (x ∷ xs) k r = r.0

module _ (n p n' p' : ℕ → ℕ) where
  pub unlink_any : (q x l : ℕ) (xs : List ℕ) → 0 < length xs → Starts x xs → l ≡ lastD xs → Ringed n p (q ∷ xs) → ((k : ℕ) → count k (q ∷ xs) ≤ 1) → n' l ≡ x → p' x ≡ l → ((k : ℕ) → (k ≡ l → ⊥) → n' k ≡ n k) → ((k : ℕ) → (k ≡ x → ⊥) → p' k ≡ p k) → Ringed n' p' xs
  unfolding lastD Starts
  unlink_any q x l [] k le la r once n-new p-new n-same p-same = absurd (omega arith)
  unlink_any q x l (y ∷ ys) k le la r once n-new p-new n-same p-same =
      unlink n p n' p' q y ys r once (ap n' (sym la) ∙ (n-new ∙ le)) (ap p' (sym le) ∙ (p-new ∙ la))
      (λ j ne. n-same j (λ e. ne (e ∙ la)))
      (λ j ne. p-same j (λ e. ne (e ∙ le)))

  pub insert_any : (q y l : ℕ) (xs : List ℕ) → 0 < length xs → Starts y xs → l ≡ lastD xs → Ringed n p xs → ((k : ℕ) → count k (q ∷ xs) ≤ 1) → n' l ≡ q → p' q ≡ l → n' q ≡ y → p' y ≡ q → ((k : ℕ) → (k ≡ l → ⊥) → (k ≡ q → ⊥) → n' k ≡ n k) → ((k : ℕ) → (k ≡ q → ⊥) → (k ≡ y → ⊥) → p' k ≡ p k) → Ringed n' p' (q ∷ xs)
  unfolding lastD Starts
  insert_any q y l [] k le la r once n-last p-q n-q p-y n-same p-same = absurd (omega arith)
  insert_any q y l (x ∷ xs) k le la r once n-last p-q n-q p-y n-same p-same =
      insert n p n' p' q x xs r once (ap n' (sym la) ∙ n-last) (p-q ∙ la) (n-q ∙ le) (ap p' (sym le) ∙ p-y)
      (λ j ne nq. n-same j (λ e. ne (e ∙ la)) nq)
      (λ j nq ny. p-same j nq (λ e. ny (e ∙ le)))

-- What the writes of `shade` leave: q taken out, and put in behind z.
module _ (nx pv : List ℕ) (q z : ℕ) where
  abbrev pub nx1 : List ℕ
  nx1 = set nx (get_or pv q 0) (get_or nx q 0)

  abbrev pub pv1 : List ℕ
  pv1 = set pv (get_or nx q 0) (get_or pv q 0)

  abbrev pub nx2 : List ℕ
  nx2 = set (set nx1 z q) q (get_or nx1 z 0)

  abbrev pub pv2 : List ℕ
  pv2 = set (set pv1 q z) (get_or nx1 z 0) q

-- In the ring  q B D  the slot q goes behind B: q D B.
carry_ring_of : (nx pv : List ℕ) (q : ℕ) (bs ds : List ℕ) → 0 < length bs → Ringed (λ x. get_or nx x 0) (λ x. get_or pv x 0) (q ∷ bs ++ ds) → ((k : ℕ) → count k (q ∷ bs ++ ds) ≤ 1) → ((k : ℕ) → 0 < count k (q ∷ bs ++ ds) → k < length nx) → ((k : ℕ) → 0 < count k (q ∷ bs ++ ds) → k < length pv) → Ringed (λ x. get_or (nx2 nx pv q (lastD bs)) x 0) (λ x. get_or (pv2 nx pv q (lastD bs)) x 0) (q ∷ ds ++ bs)
carry_ring_of nx pv q bs ds some r once in-n in_p =
    let z = lastD bs in
    let n = get_or nx q 0 in
    let p = get_or pv q 0 in
    let long : 0 < length (bs ++ ds) = omega (arith, length-append bs ds) in
    let long' : 0 < length (ds ++ bs) = omega (arith, length-append ds bs) in
    let ln : Starts n (bs ++ ds) = behind (λ x. get_or nx x 0) (λ x. get_or pv x 0) q (bs ++ ds) long r in
    let lp : p ≡ lastD (bs ++ ds) = before (λ x. get_or nx x 0) (λ x. get_or pv x 0) q (bs ++ ds) long r in
    let n_in : 0 < count n (bs ++ ds) = starts_in n (bs ++ ds) long ln in
    let p_in : 0 < count p (bs ++ ds) = subst (λ k. 0 < count k (bs ++ ds)) (sym lp) (lastD_in (bs ++ ds) long) in
    let z_in : 0 < count z bs = lastD_in bs some in
    let q_none : count q (bs ++ ds) ≡ 0 = omega (arith, once q, hit_same q) in
    let p_nx : p < length nx = in-n p (omega arith) in
    let n_pv : n < length pv = in_p n (omega arith) in
    let q_nx : q < length nx = in-n q (omega (arith, hit_same q)) in
    let q_pv : q < length pv = in_p q (omega (arith, hit_same q)) in
    let z_nx : z < length nx = in-n z (omega (arith, count_append z bs ds)) in
    let r1 : Ringed (λ x. get_or (nx1 nx pv q z) x 0) (λ x. get_or (pv1 nx pv q z) x 0) (bs ++ ds) =
    unlink_any (λ x. get_or nx x 0) (λ x. get_or pv x 0) (λ x. get_or (nx1 nx pv q z) x 0) (λ x. get_or (pv1 nx pv q z) x 0) q n p (bs ++ ds) long ln lp r once
    (get_or-set_same nx p n 0 p_nx) (get_or-set_same pv n p 0 n_pv)
    (λ k ne. get_or-set_other nx p k n 0 ne) (λ k ne. get_or-set_other pv n k p 0 ne) in
    let r2 = rotate (λ x. get_or (nx1 nx pv q z) x 0) (λ x. get_or (pv1 nx pv q z) x 0) bs ds r1 in
    let lz : z ≡ lastD (ds ++ bs) = sym (lastD_behind ds bs some) in
    let y = get_or (nx1 nx pv q z) z 0 in
    let ly : Starts y (ds ++ bs) = rw lz (front_of (λ x. get_or (nx1 nx pv q z) x 0) (λ x. get_or (pv1 nx pv q z) x 0) (ds ++ bs) long' r2) in
    let y_in : 0 < count y (ds ++ bs) = starts_in y (ds ++ bs) long' ly in
    let zq : z ≡ q → ⊥ = λ e. omega (arith, ap (λ k. count k bs) e, q_none, count_append q bs ds) in
    let qy : q ≡ y → ⊥ = λ e. omega (arith, ap (λ k. count k (ds ++ bs)) e, q_none, count_append q bs ds, count_append q ds bs) in
    let y_pv : y < length pv = in_p y (omega (arith, count_append y bs ds, count_append y ds bs)) in
    insert_any (λ x. get_or (nx1 nx pv q z) x 0) (λ x. get_or (pv1 nx pv q z) x 0) (λ x. get_or (nx2 nx pv q z) x 0) (λ x. get_or (pv2 nx pv q z) x 0) q y z (ds ++ bs) long' ly lz r2
    (λ k. omega (arith, once k, count_append k bs ds, count_append k ds bs))
    (get_or-set_other (set (nx1 nx pv q z) z q) q z y 0 zq ∙ get_or-set_same (nx1 nx pv q z) z q 0 (simp length-set z_nx))
    (get_or-set_other (set (pv1 nx pv q z) q z) y q q 0 qy ∙ get_or-set_same (pv1 nx pv q z) q z 0 (simp length-set q_pv))
    (get_or-set_same (set (nx1 nx pv q z) z q) q y 0 (simp length-set q_nx))
    (get_or-set_same (set (pv1 nx pv q z) q z) y q 0 (simp length-set y_pv))
    (λ k ne nq. get_or-set_other (set (nx1 nx pv q z) z q) q k y 0 nq ∙ get_or-set_other (nx1 nx pv q z) z k q 0 ne)
    (λ k nq ny. get_or-set_other (set (pv1 nx pv q z) q z) y k q 0 ny ∙ get_or-set_other (pv1 nx pv q z) q k z 0 nq)

-- In the ring  A q B G  the slot q goes behind B: A B q G.
pub carry : (nx pv : List ℕ) (fs : List ℕ) (q : ℕ) (bs gs : List ℕ) → 0 < length bs → Ringed (λ x. get_or nx x 0) (λ x. get_or pv x 0) (fs ++ (q ∷ (bs ++ gs))) → ((k : ℕ) → count k (fs ++ (q ∷ (bs ++ gs))) ≤ 1) → ((k : ℕ) → 0 < count k (fs ++ (q ∷ (bs ++ gs))) → k < length nx) → ((k : ℕ) → 0 < count k (fs ++ (q ∷ (bs ++ gs))) → k < length pv) → Ringed (λ x. get_or (nx2 nx pv q (lastD bs)) x 0) (λ x. get_or (pv2 nx pv q (lastD bs)) x 0) (fs ++ (bs ++ (q ∷ gs)))
carry nx pv fs q bs gs some r once in-n in_p =
    let tally : (k : ℕ) → count k (q ∷ (bs ++ (gs ++ fs))) ≡ count k (fs ++ (q ∷ (bs ++ gs))) = λ k. omega (arith, count_append k fs (q ∷ (bs ++ gs)), count_append k bs gs, count_append k bs (gs ++ fs), count_append k gs fs) in
    let r0 : Ringed (λ x. get_or nx x 0) (λ x. get_or pv x 0) (q ∷ (bs ++ (gs ++ fs))) =
    rw (append_assoc bs gs fs) at (rotate (λ x. get_or nx x 0) (λ x. get_or pv x 0) fs (q ∷ (bs ++ gs)) r) in
    let r1 = carry_ring_of nx pv q bs (gs ++ fs) some r0 (λ k. omega (arith, once k, tally k)) (λ k i. in-n k (omega (arith, tally k))) (λ k i. in_p k (omega (arith, tally k))) in
    let r2 : Ringed (λ x. get_or (nx2 nx pv q (lastD bs)) x 0) (λ x. get_or (pv2 nx pv q (lastD bs)) x 0) ((q ∷ gs) ++ (fs ++ bs)) = rw (append_assoc gs fs bs) at r1 in
    rw (append_assoc fs bs (q ∷ gs)) at (rotate (λ x. get_or (nx2 nx pv q (lastD bs)) x 0) (λ x. get_or (pv2 nx pv q (lastD bs)) x 0) (q ∷ gs) (fs ++ bs) r2)
