-- The numbers that sound tables hold are below the tables' lengths.
use Rattle.std.proofs.Common.{◌≡◌, ℕ, ◌+◌, ◌<◌, List, [], ◌∷◌, ◌++◌, length, get_or, set, sym, ap, ◌∙◌, subst, ⊎_elim, arith, w32, Fits}
use Rattle.std.proofs.lemmas.List.{length-append, get_or-set_same, get_or-set_other}
use Rattle.std.proofs.lemmas.Bool.{cases_eq}
use Rattle.ring.specs.Arcs.{ring_of}
use Rattle.ring.specs.Sound.{Tables, count, Ringed, arcs}
use Rattle.ring.specs.View.{Fine}
use Rattle.ring.proofs.Chain.{count_append, split_at, rotate, starts_next, lastOf_in, chained_ends}
use Rattle.ring.proofs.Held.{held}
use Rattle.ring.proofs.Carry.{starts_in}
use Rattle.ring.proofs.Steps.{inside, there, tally}

-- The links of a ring stay in it.
pub ring_next_in : (n p : ℕ → ℕ) (x : ℕ) (xs : List ℕ) → Ringed n p (x ∷ xs) → 0 < count (n x) (x ∷ xs)
ring_next_in n p x xs r =
    omega (arith, starts_in (n x) (xs ++ x ∷ []) (omega (arith, length-append xs (x ∷ []))) (starts_next n p x xs r), count_append (n x) xs (x ∷ []))

pub ring_prev_in : (n p : ℕ → ℕ) (x : ℕ) (xs : List ℕ) → Ringed n p (x ∷ xs) → 0 < count (p x) (x ∷ xs)
unfolding Ringed
ring_prev_in n p x xs r = subst (λ k. 0 < count k (x ∷ xs)) (sym (chained_ends n p x xs x r).1) (lastOf_in x xs)

module _ (t : Tables) (s : Fine t) where
  pub in_next : (x : ℕ) → x < t.slots → x < length t.next
  in_next x l = omega (arith, (held t s).next_long)

  pub in_prev : (x : ℕ) → x < t.slots → x < length t.prev
  in_prev x l = omega (arith, (held t s).prev_long)

  pub in_stamp : (x : ℕ) → x < t.slots → x < length t.stamp
  in_stamp x l = omega (arith, (held t s).stamp_long)

  pub grey_fits : Fits w32 (t.epoch + 1)
  grey_fits = omega (arith, (held t s).epoch_fits)

  pub head_in : (t.slots ≡ 0 → ⊥) → t.head < t.slots
  head_in n =
      let h = held t s in
      inside t (arcs t) h t.head (starts_in t.head (ring_of (arcs t)) (omega (arith, h.sized)) h.head_at)

  pub black_in : (t.slots ≡ 0 → ⊥) → t.black < t.slots
  black_in n =
      let h = held t s in
      let a = arcs t in
      let long : 0 < length (a.black ++ (a.free ++ (a.white ++ a.grey))) = simp length-append (omega (arith, simp length-append at h.sized)) in
      let i = starts_in t.black (a.black ++ (a.free ++ (a.white ++ a.grey))) long h.black_at in
      inside t a h t.black (omega (arith, i, tally t a h t.black, count_append t.black a.black (a.free ++ (a.white ++ a.grey)), count_append t.black a.free (a.white ++ a.grey), count_append t.black a.white a.grey))

  pub grey_in : (t.slots ≡ 0 → ⊥) → t.grey < t.slots
  grey_in n =
      let h = held t s in
      let a = arcs t in
      let long : 0 < length (a.grey ++ (a.black ++ (a.free ++ a.white))) = simp length-append (omega (arith, simp length-append at h.sized)) in
      let i = starts_in t.grey (a.grey ++ (a.black ++ (a.free ++ a.white))) long h.grey_at in
      inside t a h t.grey (omega (arith, i, tally t a h t.grey, count_append t.grey a.grey (a.black ++ (a.free ++ a.white)), count_append t.grey a.black (a.free ++ a.white), count_append t.grey a.free a.white))

  pub links_in : (x : ℕ) → x < t.slots → (get_or t.next x 0 < t.slots) × (get_or t.prev x 0 < t.slots)
  links_in x l =
      let h = held t s in
      let a = arcs t in
      let nx : ℕ → ℕ = λ k. get_or t.next k 0 in
      let pv : ℕ → ℕ = λ k. get_or t.prev k 0 in
      let c = split_at x (ring_of a) (omega (arith, there t a h x l)) in
      let r = rotate nx pv c.0 (x ∷ c.1) (subst (Ringed nx pv) c.2 h.ringed) in
      let back : (k : ℕ) → count k (x ∷ (c.1 ++ c.0)) ≡ count k (ring_of a) = λ k. omega (arith, ap (count k) c.2, count_append k c.0 (x ∷ c.1), count_append k c.1 c.0) in (
        inside t a h (nx x) (omega (arith, ring_next_in nx pv x (c.1 ++ c.0) r, back (nx x))),
        inside t a h (pv x) (omega (arith, ring_prev_in nx pv x (c.1 ++ c.0) r, back (pv x))),
      )

pub set_in : (xs : List ℕ) (n i v z : ℕ) → i < length xs → v < n → get_or xs z 0 < n → get_or (set xs i v) z 0 < n
set_in xs n i v z l lv lz =
    ⊎_elim (λ e. omega (arith, ap (λ j. get_or (set xs i v) j 0) e ∙ get_or-set_same xs i v 0 l)) (λ ne. omega (arith, get_or-set_other xs i z v 0 ne)) (cases_eq z i)
