-- What `shade` does to the tables, and that the arcs follow.
use Rattle.std.proofs.Common.{◌≡◌, ℕ, ◌+◌, ◌<◌, ◌≤◌, true, false, cond, eqb, List, [], ◌∷◌, ◌++◌, length, get_or, set, sym, refl, ap, ◌∙◌, subst, append_assoc, arith}
use Rattle.std.proofs.lemmas.List.{append-nil, length-append, length-set}
use Rattle.std.proofs.lemmas.Bool.{eq-eqb, ne_eqb, cond-true, cond-false}
use Rattle.ring.specs.Arcs.{Arcs, has, without, ring_of, shade_slot}
use Rattle.ring.specs.Sound.{Tables, hit, count, Ringed, Starts, Coloured, arcs, Holds}
use Rattle.ring.specs.View.{Fine}
use Rattle.ring.proofs.Chain.{hit_same, count_append, split_at, rotate, count_has, has_count, without_at, last_of, lastOf_in}
use Rattle.ring.proofs.Held.{stamp_code_grey, coloured_cons, coloured_left, coloured_right, coloured_append, coloured_tail, coloured_painted, code_at_painted, settled, sound_from, held}
use Rattle.ring.proofs.Carry.{lastD, lastD_append, back_of, behind, carry, nx2, pv2}
use Rattle.ring.proofs.Steps.{once, inside, tally, stamped_painted}

-- Only the boundary moves.
abbrev pub shaded_near : Tables → ℕ → Tables
shaded_near t q = record { next = t.next; prev = t.prev; stamp = set t.stamp q (t.epoch + 1); slots = t.slots; head = t.head; grey = q; black = t.black; epoch = t.epoch; cycle = t.cycle }

-- The slot moves behind z.
abbrev pub shaded_far : Tables → ℕ → ℕ → Tables
shaded_far t q z = record { next = nx2 t.next t.prev q z; prev = pv2 t.next t.prev q z; stamp = set t.stamp q (t.epoch + 1); slots = t.slots; head = cond (eqb t.head q) (get_or t.next q 0) t.head; grey = q; black = cond (eqb t.black q) (get_or t.next q 0) t.black; epoch = t.epoch; cycle = t.cycle }

-- ---- lists

-- A first slot that is not q stays, and q makes room for the one behind it.
starts_shift : (x q n : ℕ) (ks bs gs ms : List ℕ) → Starts x (ks ++ (q ∷ gs)) → count q ks ≡ 0 → 0 < length bs → Starts n bs → Starts (cond (eqb x q) n x) (ks ++ (bs ++ ms))
unfolding Starts
starts_shift x q n [] [] gs ms l z some ln = absurd (omega arith)
starts_shift x q n [] (b ∷ bs) gs ms l z some ln = rw (eq-eqb x q l) ln
starts_shift x q n (k ∷ ks) bs gs ms l z some ln =
    rw (ne_eqb x q (λ e. omega (arith, hit_same q, ap (hit q) (sym l ∙ e)))) l

starts_front : (n : ℕ) (bs ms : List ℕ) → 0 < length bs → Starts n (bs ++ ms) → Starts n bs
unfolding Starts
starts_front n [] ms some l = absurd (omega arith)
starts_front n (b ∷ bs) ms some l = l

module _ (q : ℕ) (f w₁ w₂ g b : List ℕ) where
  -- The arcs before and after q is shaded, the white arc cut at q.
  abbrev was : Arcs
  was = record { free = f; white = w₁ ++ q ∷ w₂; grey = g; black = b }

  abbrev is : Arcs
  is = record { free = f; white = w₁ ++ w₂; grey = q ∷ g; black = b }

  was_order : ring_of was ≡ (f ++ w₁) ++ (q ∷ (w₂ ++ (g ++ b)))
  was_order = simp append_assoc

  is_order : (f ++ w₁) ++ (w₂ ++ (q ∷ (g ++ b))) ≡ ring_of is
  is_order = simp append_assoc

  same_count : (k : ℕ) → count k (ring_of is) ≡ count k (ring_of was)
  same_count k =
      omega (arith, ap (count k) was_order, ap (count k) is_order, count_append k (f ++ w₁) (q ∷ (w₂ ++ (g ++ b))), count_append k (f ++ w₁) (w₂ ++ (q ∷ (g ++ b))), count_append k w₂ (q ∷ (g ++ b)), count_append k w₂ (g ++ b))

  same_length : length (ring_of is) ≡ length (ring_of was)
  same_length = simp length-append (omega arith)

  module _ (t : Tables) (h : Holds t was) where
    q_in : q < t.slots
    q_in = inside t was h q (omega (arith, tally t was h q, count_append q w₁ (q ∷ w₂), hit_same q))

    -- q stands nowhere else.
    alone : (count q f ≡ 0) × (count q w₁ ≡ 0) × (count q w₂ ≡ 0) × (count q g ≡ 0) × (count q b ≡ 0)
    alone = omega (arith, once t was h q, tally t was h q, count_append q w₁ (q ∷ w₂), hit_same q)

    -- The colours after the write of the stamp.
    paint : (k : ℕ) (xs : List ℕ) → count q xs ≡ 0 → Coloured t.cycle t.epoch t.stamp k xs → Coloured t.cycle t.epoch (set t.stamp q (t.epoch + 1)) k xs
    paint k xs z r = coloured_painted t.cycle t.epoch t.stamp k q (t.epoch + 1) xs z r

    stamp_q : q < length t.stamp
    stamp_q = omega (arith, q_in, h.stamp_long)

    frees_is : Coloured t.cycle t.epoch (set t.stamp q (t.epoch + 1)) 0 f
    frees_is = paint 0 f alone.0 h.frees

    whites_is : Coloured t.cycle t.epoch (set t.stamp q (t.epoch + 1)) 1 (w₁ ++ w₂)
    whites_is =
        coloured_append t.cycle t.epoch (set t.stamp q (t.epoch + 1)) 1 w₁ w₂
        (paint 1 w₁ alone.1 (coloured_left t.cycle t.epoch t.stamp 1 w₁ (q ∷ w₂) h.whites))
        (paint 1 w₂ alone.2 (coloured_tail t.cycle t.epoch t.stamp 1 q w₂ (coloured_right t.cycle t.epoch t.stamp 1 w₁ (q ∷ w₂) h.whites)))

    greys_is : Coloured t.cycle t.epoch (set t.stamp q (t.epoch + 1)) 2 (q ∷ g)
    greys_is =
        coloured_cons t.cycle t.epoch (set t.stamp q (t.epoch + 1)) 2 q g
        (code_at_painted t.cycle t.epoch t.stamp q (t.epoch + 1) stamp_q ∙ stamp_code_grey t.cycle t.epoch)
        (paint 2 g alone.3 h.greys)

    blacks_is : Coloured t.cycle t.epoch (set t.stamp q (t.epoch + 1)) 3 b
    blacks_is = paint 3 b alone.4 h.blacks

    stamped_is : (k : ℕ) → k < t.slots → get_or (set t.stamp q (t.epoch + 1)) k 0 ≤ t.epoch + 1
    stamped_is = stamped_painted t.stamp t.slots (t.epoch + 1) q (t.epoch + 1) stamp_q (omega arith) h.stamped

    shut_is : t.cycle ≡ false → length ((w₁ ++ w₂) ++ (q ∷ g)) ≡ 0
    shut_is e = simp length-append (omega (arith, simp length-append at (h.shut e)))

    back_is : get_or t.prev t.grey 0 ≡ last_of q w₂
    back_is =
        let nx : ℕ → ℕ = λ x. get_or t.next x 0 in
        let pv : ℕ → ℕ = λ x. get_or t.prev x 0 in
        let r : Ringed nx pv (g ++ (b ++ (f ++ (w₁ ++ q ∷ w₂)))) =
        rw (append_assoc g b (f ++ (w₁ ++ q ∷ w₂))) at (rotate nx pv (f ++ (w₁ ++ q ∷ w₂)) (g ++ b) (subst (Ringed nx pv) (sym (append_assoc f (w₁ ++ q ∷ w₂) (g ++ b))) h.ringed)) in
        let long : 0 < length (g ++ (b ++ (f ++ (w₁ ++ q ∷ w₂)))) = simp length-append (omega arith) in
        let re : g ++ (b ++ (f ++ (w₁ ++ q ∷ w₂))) ≡ (g ++ (b ++ (f ++ w₁))) ++ q ∷ w₂ = simp append_assoc in
        back_of nx pv t.grey (g ++ (b ++ (f ++ (w₁ ++ q ∷ w₂)))) long h.grey_at r ∙ (ap lastD re ∙ lastD_append (g ++ (b ++ (f ++ w₁))) q w₂)

-- ---- q is the last white slot

shade_near : (t : Tables) (q : ℕ) (f w₁ g b : List ℕ) (h : Holds t (was q f w₁ [] g b)) → Holds (shaded_near t q) (is q f w₁ [] g b)
unfolding Starts
shade_near t q f w₁ g b h =
    let re : ring_of (was q f w₁ [] g b) ≡ ring_of (is q f w₁ [] g b) = simp (append_assoc, append-nil) in
    record {
      ringed = rw (sym re) h.ringed;
      full = λ k. same_count q f w₁ [] g b k ∙ h.full k;
      sized = same_length q f w₁ [] g b ∙ h.sized;
      head_at = rw (sym re) h.head_at;
      grey_at = refl;
      black_at = simp (append-nil) (simp append_assoc at h.black_at);
      frees = frees_is q f w₁ [] g b t h;
      whites = whites_is q f w₁ [] g b t h;
      greys = greys_is q f w₁ [] g b t h;
      blacks = blacks_is q f w₁ [] g b t h;
      stamped = stamped_is q f w₁ [] g b t h;
      epoch_fits = h.epoch_fits;
      next_long = h.next_long;
      prev_long = h.prev_long;
      stamp_long = simp length-set h.stamp_long;
      shut = shut_is q f w₁ [] g b t h;
    }

-- ---- another white slot

shade_far : (t : Tables) (q : ℕ) (f w₁ w₂ g b : List ℕ) (h : Holds t (was q f w₁ w₂ g b)) → 0 < length w₂ → Holds (shaded_far t q (lastD w₂)) (is q f w₁ w₂ g b)
unfolding Starts
shade_far t q f w₁ w₂ g b h some =
    let nx : ℕ → ℕ = λ x. get_or t.next x 0 in
    let pv : ℕ → ℕ = λ x. get_or t.prev x 0 in
    let re = was_order q f w₁ w₂ g b in
    let r : Ringed nx pv ((f ++ w₁) ++ (q ∷ (w₂ ++ (g ++ b)))) = subst (Ringed nx pv) re h.ringed in
    let one : (k : ℕ) → count k ((f ++ w₁) ++ (q ∷ (w₂ ++ (g ++ b)))) ≤ 1 = λ k. subst (λ z. count k z ≤ 1) re (once t (was q f w₁ w₂ g b) h k) in
    let low : (k : ℕ) → 0 < count k ((f ++ w₁) ++ (q ∷ (w₂ ++ (g ++ b)))) → k < t.slots = λ k i. inside t (was q f w₁ w₂ g b) h k (subst (λ z. 0 < count k z) (sym re) i) in
    let lone = alone q f w₁ w₂ g b t h in
    let ring_of_q : Ringed nx pv (q ∷ (w₂ ++ ((g ++ b) ++ (f ++ w₁)))) = rw (append_assoc w₂ (g ++ b) (f ++ w₁)) at (rotate nx pv (f ++ w₁) (q ∷ (w₂ ++ (g ++ b))) r) in
    let ln : Starts (nx q) w₂ = starts_front (nx q) w₂ ((g ++ b) ++ (f ++ w₁)) some (behind nx pv q (w₂ ++ ((g ++ b) ++ (f ++ w₁))) (omega (arith, length-append w₂ ((g ++ b) ++ (f ++ w₁)))) ring_of_q) in
    record {
      ringed = subst (Ringed (λ x. get_or (nx2 t.next t.prev q (lastD w₂)) x 0) (λ x. get_or (pv2 t.next t.prev q (lastD w₂)) x 0)) (is_order q f w₁ w₂ g b)
          (carry t.next t.prev (f ++ w₁) q w₂ (g ++ b) some r one (λ k i. omega (arith, low k i, h.next_long)) (λ k i. omega (arith, low k i, h.prev_long)));
      full = λ k. same_count q f w₁ w₂ g b k ∙ h.full k;
      sized = same_length q f w₁ w₂ g b ∙ h.sized;
      head_at = subst (Starts (cond (eqb t.head q) (nx q) t.head)) (is_order q f w₁ w₂ g b)
          (starts_shift t.head q (nx q) (f ++ w₁) w₂ (w₂ ++ (g ++ b)) (q ∷ (g ++ b)) (subst (Starts t.head) re h.head_at) (omega (arith, count_append q f w₁, lone)) some ln);
      grey_at = refl;
      black_at = subst (Starts (cond (eqb t.black q) (nx q) t.black)) (simp append_assoc)
          (starts_shift t.black q (nx q) (b ++ (f ++ w₁)) w₂ (w₂ ++ g) (q ∷ g) (subst (Starts t.black) (simp append_assoc) h.black_at) (omega (arith, count_append q b (f ++ w₁), count_append q f w₁, lone)) some ln);
      frees = frees_is q f w₁ w₂ g b t h;
      whites = whites_is q f w₁ w₂ g b t h;
      greys = greys_is q f w₁ w₂ g b t h;
      blacks = blacks_is q f w₁ w₂ g b t h;
      stamped = stamped_is q f w₁ w₂ g b t h;
      epoch_fits = h.epoch_fits;
      next_long = simp length-set h.next_long;
      prev_long = simp length-set h.prev_long;
      stamp_long = simp length-set h.stamp_long;
      shut = shut_is q f w₁ w₂ g b t h;
    }

-- ---- the call

-- The arcs that `shade-slot` names, once the white arc is split at q.
shaded_is : (q : ℕ) (f w₁ w₂ g b : List ℕ) → count q w₁ ≡ 0 → shade_slot q (was q f w₁ w₂ g b) ≡ is q f w₁ w₂ g b
shaded_is q f w₁ w₂ g b z₁ =
    let here : has q (w₁ ++ q ∷ w₂) ≡ true = count_has q (w₁ ++ q ∷ w₂) (omega (arith, count_append q w₁ (q ∷ w₂), hit_same q)) in
    cond-true (has q (w₁ ++ q ∷ w₂)) (record { free = f; white = without q (w₁ ++ q ∷ w₂); grey = q ∷ g; black = b }) (was q f w₁ w₂ g b) here
    ∙ ap (λ (w : List ℕ). record { free = f; white = w; grey = q ∷ g; black = b }) (without_at q w₁ w₂ z₁)

last_alone : (q : ℕ) (ws : List ℕ) → count q ws ≡ 0 → last_of q ws ≡ q → ws ≡ []
unfolding last_of
last_alone q [] z e = refl
last_alone q (w ∷ ws) z e = absurd (omega (arith, z, subst (λ k. 0 < count k (w ∷ ws)) e (lastOf_in w ws)))

last_other : (q : ℕ) (ws : List ℕ) → (last_of q ws ≡ q → ⊥) → (0 < length ws) × (lastD ws ≡ last_of q ws)
unfolding last_of lastD
last_other q [] ne = absurd (ne refl)
last_other q (w ∷ ws) ne = (omega arith, refl)

module _ (t : Tables) (a : Arcs) (h : Holds t a) (q : ℕ) (white : has q a.white ≡ true) where
  white_in : q < t.slots
  white_in = inside t a h q (omega (arith, tally t a h q, has_count q a.white white))

  cut : (w₁ : List ℕ) × (w₂ : List ℕ) × (a.white ≡ w₁ ++ q ∷ w₂)
  cut = split_at q a.white (has_count q a.white white)

  same : a ≡ was q a.free cut.0 cut.1 a.grey a.black
  same = λ i. record { free = a.free; white = cut.2 i; grey = a.grey; black = a.black }

  h_was : Holds t (was q a.free cut.0 cut.1 a.grey a.black)
  h_was = subst (Holds t) same h

  to_is : shade_slot q a ≡ is q a.free cut.0 cut.1 a.grey a.black
  to_is =
      let lone = alone q a.free cut.0 cut.1 a.grey a.black t h_was in
      ap (shade_slot q) same ∙ shaded_is q a.free cut.0 cut.1 a.grey a.black lone.1

  near_held : get_or t.prev t.grey 0 ≡ q → Holds (shaded_near t q) (shade_slot q a)
  near_held e =
      let lone = alone q a.free cut.0 cut.1 a.grey a.black t h_was in
      let none : cut.1 ≡ [] = last_alone q cut.1 lone.2 (sym (back_is q a.free cut.0 cut.1 a.grey a.black t h_was) ∙ e) in
      subst (Holds (shaded_near t q)) (sym to_is)
      (subst (λ z. Holds (shaded_near t q) (is q a.free cut.0 z a.grey a.black)) (sym none)
      (shade_near t q a.free cut.0 a.grey a.black (subst (λ z. Holds t (was q a.free cut.0 z a.grey a.black)) none h_was)))

  far_held : (get_or t.prev t.grey 0 ≡ q → ⊥) → Holds (shaded_far t q (get_or t.prev t.grey 0)) (shade_slot q a)
  far_held ne =
      let back = back_is q a.free cut.0 cut.1 a.grey a.black t h_was in
      let o = last_other q cut.1 (λ e. ne (back ∙ e)) in
      subst (Holds (shaded_far t q (get_or t.prev t.grey 0))) (sym to_is)
      (subst (λ z. Holds (shaded_far t q z) (is q a.free cut.0 cut.1 a.grey a.black)) (o.1 ∙ sym back)
      (shade_far t q a.free cut.0 cut.1 a.grey a.black h_was o.0))

-- Any other number leaves the arcs.
pub shade_not : (q : ℕ) (a : Arcs) → has q a.white ≡ false → a ≡ shade_slot q a
shade_not q a z = sym (cond-false (has q a.white) (record { free = a.free; white = without q a.white; grey = q ∷ a.grey; black = a.black }) a z)

pub white_slot : (t : Tables) → Fine t → (q : ℕ) → has q (arcs t).white ≡ true → q < t.slots
white_slot t s q white = white_in t (arcs t) (held t s) q white

pub shade_done_near : (t : Tables) → Fine t → (q : ℕ) → has q (arcs t).white ≡ true → get_or t.prev t.grey 0 ≡ q → Fine (shaded_near t q) × (arcs (shaded_near t q) ≡ shade_slot q (arcs t))
shade_done_near t s q white e =
    let r = near_held t (arcs t) (held t s) q white e in
    (sound_from (shaded_near t q) (shade_slot q (arcs t)) r, settled (shaded_near t q) (shade_slot q (arcs t)) r)

-- The tables after the writes, with the head and the start of the black arc as the code has them.
abbrev pub carried : Tables → ℕ → ℕ → ℕ → ℕ → Tables
carried t q z hd bk = record { next = nx2 t.next t.prev q z; prev = pv2 t.next t.prev q z; stamp = set t.stamp q (t.epoch + 1); slots = t.slots; head = hd; grey = q; black = bk; epoch = t.epoch; cycle = t.cycle }

pub shade_done_far : (t : Tables) → Fine t → (q hd bk : ℕ) → has q (arcs t).white ≡ true → (get_or t.prev t.grey 0 ≡ q → ⊥) → hd ≡ cond (eqb t.head q) (get_or t.next q 0) t.head → bk ≡ cond (eqb t.black q) (get_or t.next q 0) t.black → Fine (carried t q (get_or t.prev t.grey 0) hd bk) × (arcs (carried t q (get_or t.prev t.grey 0) hd bk) ≡ shade_slot q (arcs t))
shade_done_far t s q hd bk white ne eh eb =
    let z = get_or t.prev t.grey 0 in
    let r = far_held t (arcs t) (held t s) q white ne in
    let r' : Holds (carried t q z hd bk) (shade_slot q (arcs t)) =
    subst (λ y. Holds (carried t q z hd y) (shade_slot q (arcs t))) (sym eb)
    (subst (λ x. Holds (carried t q z x (cond (eqb t.black q) (get_or t.next q 0) t.black)) (shade_slot q (arcs t))) (sym eh) r) in
    (sound_from (carried t q z hd bk) (shade_slot q (arcs t)) r', settled (carried t q z hd bk) (shade_slot q (arcs t)) r')
