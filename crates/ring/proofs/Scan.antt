-- What `scan` does to the tables, and that the arcs follow.
use Rattle.std.proofs.Common.{◌≡◌, ℕ, ◌+◌, ◌<◌, Bool, true, false, eqb, not, ◌⊎◌, List, [], ◌∷◌, ◌++◌, length, get_or, set, is_some, Some, None, sym, refl, ap, ◌∙◌, subst, inl, inr, ⊎_elim, append_assoc, arith}
use Rattle.std.proofs.lemmas.List.{append-nil, length-append, length-set, nil_from_length}
use Rattle.std.proofs.lemmas.Bool.{eqb-true, eqb-false}
use Rattle.std.specs.Bool.{then_some}
use Rattle.ring.specs.Arcs.{Arcs, ring_of, scan_from}
use Rattle.ring.specs.Calls.{left_by, moved_slot, scanned_slot, scanned_arcs, is_none}
use Rattle.ring.specs.Sound.{Tables, count, Ringed, Starts, code_at, Coloured, arcs, Holds}
use Rattle.ring.specs.View.{Fine}
use Rattle.ring.proofs.Chain.{hit_same, count_append, rotate, last_of, split_push}
use Rattle.ring.proofs.Held.{stamp_code_black, coloured_cons, coloured_left, coloured_right, coloured_head, coloured_painted, code_at_painted, settled, sound_from, held}
use Rattle.ring.proofs.Carry.{lastD, lastD_append, lastD_in, back_of}
use Rattle.ring.proofs.Steps.{once, inside, tally, stamped_painted, Off, off_coloured, off_append}

abbrev pub scanned_at : Tables → ℕ → Tables
scanned_at t x = record { next = t.next; prev = t.prev; stamp = set t.stamp x t.epoch; slots = t.slots; head = t.head; grey = t.grey; black = x; epoch = t.epoch; cycle = t.cycle }

snoc : (xs : List ℕ) → (xs ≡ []) ⊎ ((l : List ℕ) × (z : ℕ) × (xs ≡ l ++ z ∷ []))
snoc [] = inl refl
snoc (x ∷ xs) =
    inr (⊎_elim (λ e. ([], x, ap (λ z. x ∷ z) e)) (λ s. (x ∷ s.0, s.1, ap (λ z. x ∷ z) s.2)) (snoc xs))

-- The last of a list that is not empty is its last one.
scan_push : (g : List ℕ) (x : ℕ) (a : Arcs) → scan_from (g ++ x ∷ []) a ≡ Some (x, record { free = a.free; white = a.white; grey = g; black = x ∷ a.black })
scan_push [] x a = refl
scan_push (y ∷ g) x a = ap (λ (p : List ℕ × ℕ). Some (p.1, record { free = a.free; white = a.white; grey = p.0; black = p.1 ∷ a.black })) (split_push y g x)

scan_lists : (t : Tables) (x : ℕ) (f w g b : List ℕ) → Holds t (record { free = f; white = w; grey = g ++ x ∷ []; black = b }) → Holds (scanned_at t x) (record { free = f; white = w; grey = g; black = x ∷ b })
unfolding Starts
scan_lists t x f w g b h =
    let a : Arcs = record { free = f; white = w; grey = g ++ x ∷ []; black = b } in
    let a' : Arcs = record { free = f; white = w; grey = g; black = x ∷ b } in
    let re : ring_of a ≡ ring_of a' = simp append_assoc in
    let sum = tally t a h x in
    let part = count_append x g (x ∷ []) in
    let lone : (count x f ≡ 0) × (count x w ≡ 0) × (count x g ≡ 0) × (count x b ≡ 0) = omega (arith, once t a h x, sum, part, hit_same x) in
    let below : x < t.slots = inside t a h x (omega (arith, sum, part, hit_same x)) in
    let long : x < length t.stamp = omega (arith, h.stamp_long) in
    record {
      ringed = rw (sym re) h.ringed;
      full = λ k. ap (count k) (sym re) ∙ h.full k;
      sized = ap length (sym re) ∙ h.sized;
      head_at = rw (sym re) h.head_at;
      grey_at = simp append_assoc at h.grey_at;
      black_at = refl;
      frees = coloured_painted t.cycle t.epoch t.stamp 0 x t.epoch f lone.0 h.frees;
      whites = coloured_painted t.cycle t.epoch t.stamp 1 x t.epoch w lone.1 h.whites;
      greys = coloured_painted t.cycle t.epoch t.stamp 2 x t.epoch g lone.2 (coloured_left t.cycle t.epoch t.stamp 2 g (x ∷ []) h.greys);
      blacks = coloured_cons t.cycle t.epoch (set t.stamp x t.epoch) 3 x b
          (code_at_painted t.cycle t.epoch t.stamp x t.epoch long ∙ stamp_code_black t.cycle t.epoch)
          (coloured_painted t.cycle t.epoch t.stamp 3 x t.epoch b lone.3 h.blacks);
      stamped = stamped_painted t.stamp t.slots (t.epoch + 1) x t.epoch long (omega arith) h.stamped;
      epoch_fits = h.epoch_fits;
      next_long = h.next_long;
      prev_long = h.prev_long;
      stamp_long = simp length-set h.stamp_long;
      shut = λ e. simp length-append (omega (arith, simp length-append at (h.shut e)));
    }

module _ (t : Tables) (a : Arcs) (h : Holds t a) where
  -- The slot before the black arc.
  last_is : 0 < t.slots → get_or t.prev t.black 0 ≡ lastD (a.black ++ (a.free ++ (a.white ++ a.grey)))
  last_is n =
      let nx : ℕ → ℕ = λ x. get_or t.next x 0 in
      let pv : ℕ → ℕ = λ x. get_or t.prev x 0 in
      let re : ring_of a ≡ (a.free ++ (a.white ++ a.grey)) ++ a.black = simp append_assoc in
      let r = rotate nx pv (a.free ++ (a.white ++ a.grey)) a.black (subst (Ringed nx pv) re h.ringed) in
      back_of nx pv t.black (a.black ++ (a.free ++ (a.white ++ a.grey))) (simp length-append (omega (arith, simp length-append at h.sized))) h.black_at r

  last_grey : 0 < t.slots → (g : List ℕ) (z : ℕ) → a.grey ≡ g ++ z ∷ [] → get_or t.prev t.black 0 ≡ z
  unfolding last_of
  last_grey n g z e =
      let re : a.black ++ (a.free ++ (a.white ++ (g ++ z ∷ []))) ≡ (a.black ++ (a.free ++ (a.white ++ g))) ++ z ∷ [] = simp append_assoc in
      last_is n ∙ (ap (λ v. lastD (a.black ++ (a.free ++ (a.white ++ v)))) e ∙ (ap lastD re ∙ lastD_append (a.black ++ (a.free ++ (a.white ++ g))) z []))

  grey_own : 0 < t.slots → code_at t.cycle t.epoch t.stamp (get_or t.prev t.black 0) ≡ 2 → (g : List ℕ) × (a.grey ≡ g ++ get_or t.prev t.black 0 ∷ [])
  grey_own n own =
      ⊎_elim
      (λ (e : a.grey ≡ []).
      let off : Off t.cycle t.epoch t.stamp 2 (a.black ++ (a.free ++ a.white)) =
      off_append t.cycle t.epoch t.stamp 2 a.black (a.free ++ a.white)
      (off_coloured t.cycle t.epoch t.stamp 3 2 a.black (λ d. omega arith) h.blacks)
      (off_append t.cycle t.epoch t.stamp 2 a.free a.white
      (off_coloured t.cycle t.epoch t.stamp 0 2 a.free (λ d. omega arith) h.frees)
      (off_coloured t.cycle t.epoch t.stamp 1 2 a.white (λ d. omega arith) h.whites)) in
      let re : a.black ++ (a.free ++ (a.white ++ a.grey)) ≡ a.black ++ (a.free ++ a.white) = rw e (simp append-nil) in
      let la : get_or t.prev t.black 0 ≡ lastD (a.black ++ (a.free ++ a.white)) = last_is n ∙ ap lastD re in
      let some : 0 < length (a.black ++ (a.free ++ a.white)) = simp length-append (omega (arith, simp length-append at h.sized, ap length e)) in
      absurd (off (get_or t.prev t.black 0) (subst (λ k. 0 < count k (a.black ++ (a.free ++ a.white))) (sym la) (lastD_in (a.black ++ (a.free ++ a.white)) some)) own))
      (λ s. (s.0, s.2 ∙ ap (λ k. s.0 ++ k ∷ []) (sym (last_grey n s.0 s.1 s.2))))
      (snoc a.grey)

  grey_none : (t.slots ≡ 0) ⊎ ((0 < t.slots) × (code_at t.cycle t.epoch t.stamp (get_or t.prev t.black 0) ≡ 2 → ⊥)) → a.grey ≡ []
  grey_none o =
      ⊎_elim
      (λ z. nil_from_length a.grey (omega (arith, simp length-append at h.sized)))
      (λ n. ⊎_elim (λ e. e)
      (λ s. absurd (n.1 (ap (code_at t.cycle t.epoch t.stamp) (last_grey n.0 s.0 s.1 s.2) ∙
      coloured_head t.cycle t.epoch t.stamp 2 s.1 [] (coloured_right t.cycle t.epoch t.stamp 2 s.0 (s.1 ∷ []) (subst (Coloured t.cycle t.epoch t.stamp 2) s.2 h.greys)))))
      (snoc a.grey))
      o

-- A slot is scanned unless no slot is grey.
pub scanned_some : (a : Arcs) → is_some (scanned_slot a) ≡ not (is_none a.grey)
scanned_some a = go a.grey
  where
    go : (xs : List ℕ) → is_some (moved_slot (scan_from xs a)) ≡ not (is_none xs)
    go [] = refl
    go (x ∷ xs) = refl

scan_none : (a : Arcs) → a.grey ≡ [] → (None ≡ scanned_slot a) × (a ≡ scanned_arcs a)
scan_none a e =
    let same : a ≡ record { free = a.free; white = a.white; grey = []; black = a.black } = λ i. record { free = a.free; white = a.white; grey = e i; black = a.black } in
    (sym (ap scanned_slot same), same ∙ sym (ap scanned_arcs same))

-- The grey arc ends with the slot that is scanned.
last_is_scanned : (a : Arcs) (x : ℕ) → Some x ≡ scanned_slot a → (g : List ℕ) × (a.grey ≡ g ++ x ∷ [])
last_is_scanned a x e =
    ⊎_elim
    (λ n. absurd (let f = (scan_none a n).0 in let k : ◌≡◌ {A = ℕ} 0 1 = cc in omega arith))
    (λ s.
    let f = ap moved_slot (ap (λ z. scan_from z a) s.2 ∙ scan_push s.0 s.1 a) in
    let k : s.1 ≡ x = cc in
    (s.0, s.2 ∙ ap (λ (z : ℕ). s.0 ++ z ∷ []) k))
    (snoc a.grey)

scan_held : (t : Tables) (a : Arcs) → Holds t a → (x : ℕ) → Some x ≡ scanned_slot a → Holds (scanned_at t x) (scanned_arcs a)
scan_held t a h x e =
    let r = last_is_scanned a x e in
    let split : Arcs = record { free = a.free; white = a.white; grey = r.0 ++ x ∷ []; black = a.black } in
    let same : a ≡ split = λ i. record { free = a.free; white = a.white; grey = r.1 i; black = a.black } in
    subst (Holds (scanned_at t x)) (sym (ap scanned_arcs same ∙ ap (left_by split) (scan_push r.0 x split))) (scan_lists t x a.free a.white r.0 a.black (subst (Holds t) same h))

module _ (t : Tables) (s : Fine t) where
  pub last_grey_some : 0 < t.slots → code_at t.cycle t.epoch t.stamp (get_or t.prev t.black 0) ≡ 2 → Some (get_or t.prev t.black 0) ≡ scanned_slot (arcs t)
  last_grey_some n own =
      let a = arcs t in
      let r = grey_own t a (held t s) n own in
      sym (ap moved_slot (ap (λ z. scan_from z a) r.1 ∙ scan_push r.0 (get_or t.prev t.black 0) a))

  pub last_grey_none : (t.slots ≡ 0) ⊎ ((0 < t.slots) × (code_at t.cycle t.epoch t.stamp (get_or t.prev t.black 0) ≡ 2 → ⊥)) → None ≡ scanned_slot (arcs t)
  last_grey_none o = (scan_none (arcs t) (grey_none t (arcs t) (held t s) o)).0

  pub last_grey_by : 0 < t.slots → (b : Bool) → b ≡ eqb (code_at t.cycle t.epoch t.stamp (get_or t.prev t.black 0)) 2 → then_some b (get_or t.prev t.black 0) ≡ scanned_slot (arcs t)
  last_grey_by n true e = last_grey_some n (eqb-true _ _ (sym e))
  last_grey_by n false e = last_grey_none (inr (n, eqb-false _ _ (sym e)))

  pub last_grey_in : (x : ℕ) → Some x ≡ scanned_slot (arcs t) → x < t.slots
  last_grey_in x e =
      let a = arcs t in
      let r = last_is_scanned a x e in
      inside t a (held t s) x (omega (arith, tally t a (held t s) x, ap (count x) r.1, count_append x r.0 (x ∷ []), hit_same x))

  pub scan_done : (x : ℕ) → Some x ≡ scanned_slot (arcs t) → Fine (scanned_at t x) × (arcs (scanned_at t x) ≡ scanned_arcs (arcs t))
  scan_done x e =
      let h = scan_held t (arcs t) (held t s) x e in
      (sound_from (scanned_at t x) (scanned_arcs (arcs t)) h, settled (scanned_at t x) (scanned_arcs (arcs t)) h)

pub scan_not : (a : Arcs) → None ≡ scanned_slot a → a ≡ scanned_arcs a
scan_not a e =
    ⊎_elim (λ n. (scan_none a n).1)
    (λ s.
    let f = ap moved_slot (ap (λ z. scan_from z a) s.2 ∙ scan_push s.0 s.1 a) in
    absurd (let k : ◌≡◌ {A = ℕ} 0 1 = cc in omega arith))
    (snoc a.grey)
