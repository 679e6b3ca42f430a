-- A ring that links each slot with the next: all are free.
use Rattle.std.proofs.Common.{◌≡◌, ℕ, zero, suc, ◌+◌, ◌-◌, ◌^◌, ◌<◌, ◌≤◌, false, cond, eqb, ltb, List, [], ◌∷◌, ◌++◌, length, get_or, sym, refl, ap, ◌∙◌, subst, ⊎_elim, arith}
use Rattle.std.proofs.lemmas.List.{append-nil}
use Rattle.std.proofs.lemmas.Bool.{cases_eq, cases_lt, eq-eqb, ne_eqb, lt-ltb, le-ltb, both_ways}
use Rattle.ring.specs.Arcs.{upto, new_arcs}
use Rattle.ring.specs.Sound.{Tables, hit, count, Chained, Ringed, Starts, code_at, Coloured, arcs, Holds}
use Rattle.ring.specs.View.{Fine}
use Rattle.ring.proofs.Chain.{hit_same, hit_other}
use Rattle.ring.proofs.Held.{coloured_nil, settled, sound_from, stamp_code_0}

pub length_upto : (a n : ℕ) → length (upto a n) ≡ n
length_upto a zero = refl
length_upto a (suc n) = ap suc (length_upto (suc a) n)

count_low : (x a n : ℕ) → x < a → count x (upto a n) ≡ 0
count_low x a zero l = refl
count_low x a (suc n) l = let ih = count_low x (suc a) n (omega arith) in omega (arith, hit_other x a (λ e. omega arith))

count_high : (x a n : ℕ) → a + n ≤ x → count x (upto a n) ≡ 0
count_high x a zero l = refl
count_high x a (suc n) l = let ih = count_high x (suc a) n (omega arith) in omega (arith, hit_other x a (λ e. omega arith))

count_mid : (x a n : ℕ) → a ≤ x → x < a + n → count x (upto a n) ≡ 1
count_mid x a zero l h = absurd (omega arith)
count_mid x a (suc n) l h =
    ⊎_elim
    (λ e. omega (arith, count_low x (suc a) n (omega arith), subst (λ z. hit x z ≡ 1) e (hit_same x)))
    (λ ne. omega (arith, count_mid x (suc a) n (omega arith) (omega arith), hit_other x a ne))
    (cases_eq x a)

pub count_upto : (x n : ℕ) → count x (upto 0 n) ≡ cond (ltb x n) 1 0
count_upto x n =
    ⊎_elim
    (λ l. rw (lt-ltb x n l) (count_mid x 0 n (omega arith) (omega arith)))
    (λ l. rw (le-ltb x n l) (count_high x 0 n (omega arith)))
    (cases_lt x n)

chained_upto : (n p : ℕ → ℕ) (a m z : ℕ) → ((k : ℕ) → a ≤ k → k < a + m → n k ≡ suc k) → ((k : ℕ) → a ≤ k → k < a + m → p (suc k) ≡ k) → n (a + m) ≡ z → p z ≡ a + m → Chained n p a (upto (suc a) m ++ z ∷ [])
unfolding Chained
chained_upto n p a zero z hn hp ln lp =
    let e : a + 0 ≡ a = omega arith in
    (ap n (sym e) ∙ ln, lp ∙ e, tt)
chained_upto n p a (suc m) z hn hp ln lp =
    let e : suc a + m ≡ a + suc m = omega arith in (
      hn a (omega arith) (omega arith),
      hp a (omega arith) (omega arith),
      chained_upto n p (suc a) m z (λ k l h. hn k (omega arith) (omega arith)) (λ k l h. hp k (omega arith) (omega arith)) (ap n e ∙ ln) (lp ∙ sym e),
    )

ringed_upto : (n p : ℕ → ℕ) (m : ℕ) → ((k : ℕ) → k < m → n k ≡ cond (eqb (k + 1) m) 0 (k + 1)) → ((k : ℕ) → k < m → p k ≡ cond (eqb k 0) (m - 1) (k - 1)) → Ringed n p (upto 0 m)
unfolding Ringed
ringed_upto n p zero hn hp = tt
ringed_upto n p (suc m) hn hp =
    chained_upto n p 0 m 0
    (λ k l h. let e : k + 1 ≡ suc k = omega arith in let ne : k + 1 ≡ suc m → ⊥ = λ d. omega arith in hn k (omega arith) ∙ rw (ne_eqb (k + 1) (suc m) ne) e)
    (λ k l h. let e : suc k - 1 ≡ k = omega arith in let ne : suc k ≡ 0 → ⊥ = λ d. omega arith in hp (suc k) (omega arith) ∙ rw (ne_eqb (suc k) 0 ne) e)
    (let e : 0 + m ≡ m = omega arith in let d : m + 1 ≡ suc m = omega arith in rw e (hn m (omega arith) ∙ rw (eq-eqb (m + 1) (suc m) d)))
    (let e : suc m - 1 ≡ 0 + m = omega arith in hp 0 (omega arith) ∙ e)

starts_upto : (n : ℕ) → Starts 0 (upto 0 n)
unfolding Starts
starts_upto zero = tt
starts_upto (suc n) = refl

abbrev pub blank : List ℕ → List ℕ → List ℕ → ℕ → ℕ → Tables
blank nx pv st n e = record { next = nx; prev = pv; stamp = st; slots = n; head = 0; grey = 0; black = 0; epoch = e; cycle = false }

module _ (nx pv st : List ℕ) (n e : ℕ) (some : 0 < e) (room : e + 1 < 2 ^ 32) (ln : n ≤ length nx) (lp : n ≤ length pv) (ls : n ≤ length st) (hn : (k : ℕ) → k < n → get_or nx k 0 ≡ cond (eqb (k + 1) n) 0 (k + 1)) (hp : (k : ℕ) → k < n → get_or pv k 0 ≡ cond (eqb k 0) (n - 1) (k - 1)) (hs : (k : ℕ) → k < n → get_or st k 0 ≡ 0) where
  new_held : Holds (blank nx pv st n e) (new_arcs n)
  unfolding Coloured code_at
  new_held =
      let re : upto 0 n ≡ upto 0 n ++ [] = sym (append-nil (upto 0 n)) in
      record {
        ringed = rw (sym re) (ringed_upto (λ k. get_or nx k 0) (λ k. get_or pv k 0) n hn hp);
        full = λ x. rw (sym re) (count_upto x n);
        sized = rw (sym re) (length_upto 0 n);
        head_at = rw (sym re) (starts_upto n);
        grey_at = rw (sym re) (starts_upto n);
        black_at = rw (sym re) (starts_upto n);
        frees = λ x i.
            let l : x < n = ⊎_elim (λ l. l) (λ l. absurd (omega (arith, count_high x 0 n (omega arith)))) (cases_lt x n) in
            let z = hs x l in
            sym (stamp_code_0 false e (get_or st x 0) (λ d. omega arith) (λ d. omega arith) (λ y d. both_ways false refl y));
        whites = coloured_nil false e st 1;
        greys = coloured_nil false e st 2;
        blacks = coloured_nil false e st 3;
        stamped = λ x l. omega (arith, hs x l);
        epoch_fits = room;
        next_long = ln;
        prev_long = lp;
        stamp_long = ls;
        shut = λ e. refl;
      }

  pub new_done : Fine (blank nx pv st n e) × (arcs (blank nx pv st n e) ≡ new_arcs n)
  new_done = (sound_from (blank nx pv st n e) (new_arcs n) new_held, settled (blank nx pv st n e) (new_arcs n) new_held)
