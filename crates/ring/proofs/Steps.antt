-- What the arcs say of single slots, and what `take` does to the tables.
use Rattle.std.proofs.Common.{◌≡◌, ℕ, ◌+◌, ◌<◌, ◌≤◌, Bool, true, false, eqb, ◌⊎◌, List, [], ◌∷◌, ◌++◌, length, get_or, set, Some, None, sym, refl, ap, ◌∙◌, subst, inl, inr, ⊎_elim, append_assoc, arith}
use Rattle.std.proofs.lemmas.List.{length-append, length-set, get_or-set_same, get_or-set_other, nil_from_length}
use Rattle.std.proofs.lemmas.Bool.{eqb-true, eqb-false, cases_eq, cases_lt, lt-ltb, le-ltb}
use Rattle.std.specs.Bool.{then_some}
use Rattle.ring.specs.Arcs.{Arcs, ring_of, take_from}
use Rattle.ring.specs.Calls.{moved_slot, taken_slot, taken_arcs, first_of}
use Rattle.ring.specs.Sound.{Tables, count, Ringed, Starts, code_at, Coloured, arcs, Holds}
use Rattle.ring.specs.View.{Fine}
use Rattle.ring.proofs.Chain.{hit_same, count_append, rotate, starts_next}
use Rattle.ring.proofs.Held.{stamp_code_black, coloured_nil, coloured_cons, coloured_head, coloured_tail, coloured_append, coloured_painted, code_at_painted, settled, sound_from, held}
use Rattle.ring.proofs.Carry.{starts_in}

-- ---- what the arcs say of single slots

module _ (t : Tables) (a : Arcs) (h : Holds t a) where
  pub once : (x : ℕ) → count x (ring_of a) ≤ 1
  once x =
      ⊎_elim
      (λ l. omega (arith, rw (lt-ltb x t.slots l) at (h.full x)))
      (λ l. omega (arith, rw (le-ltb x t.slots l) at (h.full x)))
      (cases_lt x t.slots)

  pub inside : (x : ℕ) → 0 < count x (ring_of a) → x < t.slots
  inside x i =
      ⊎_elim
      (λ l. l)
      (λ l. absurd (omega (arith, rw (le-ltb x t.slots l) at (h.full x))))
      (cases_lt x t.slots)

  pub there : (x : ℕ) → x < t.slots → count x (ring_of a) ≡ 1
  there x l = rw (lt-ltb x t.slots l) at (h.full x)

  pub tally : (x : ℕ) → count x (ring_of a) ≡ count x a.free + (count x a.white + (count x a.grey + count x a.black))
  tally x = count_append x a.free _ ∙ ap (λ k. count x a.free + k) (count_append x a.white _ ∙ ap (λ k. count x a.white + k) (count_append x a.grey a.black))

-- The first of a ring has the colour of the first arc: that arc begins with it.
module _ (o : Bool) (e : ℕ) (s : List ℕ) where
  pub begins_own : (k x : ℕ) (xs ys : List ℕ) → Starts x (xs ++ ys) → 0 < length (xs ++ ys) → ((y : ℕ) → 0 < count y ys → code_at o e s y ≡ k → ⊥) → code_at o e s x ≡ k → (r : List ℕ) × (xs ≡ x ∷ r)
  unfolding Starts
  begins_own k x [] ys l n other own = absurd (other x (starts_in x ys n l) own)
  begins_own k x (y ∷ xs) ys l n other own = (xs, ap (λ z. z ∷ xs) (sym l))

  pub begins_none : (k x : ℕ) (xs ys : List ℕ) → Starts x (xs ++ ys) → Coloured o e s k xs → (code_at o e s x ≡ k → ⊥) → xs ≡ []
  unfolding Starts
  begins_none k x [] ys l r ne = refl
  begins_none k x (y ∷ xs) ys l r ne = absurd (ne (ap (code_at o e s) l ∙ coloured_head o e s k y xs r))

-- No slot of a list has a colour.
abbrev pub Off : Bool → ℕ → List ℕ → ℕ → List ℕ → Type 0
Off o e s k xs = (y : ℕ) → 0 < count y xs → code_at o e s y ≡ k → ⊥

module _ (o : Bool) (e : ℕ) (s : List ℕ) where
  pub off_coloured : (j k : ℕ) (xs : List ℕ) → (j ≡ k → ⊥) → Coloured o e s j xs → Off o e s k xs
  unfolding Coloured
  off_coloured j k xs ne h y i d = ne (sym (h y i) ∙ d)

  pub off_append : (k : ℕ) (xs ys : List ℕ) → Off o e s k xs → Off o e s k ys → Off o e s k (xs ++ ys)
  off_append k xs ys h r y i d =
      ⊎_elim (λ l. h y l d) (λ l. r y (omega (arith, count_append y xs ys)) d) (cases_lt 0 (count y xs))

-- A write of a stamp that is not too large.
pub stamped_painted : (s : List ℕ) (n m x v : ℕ) → x < length s → v ≤ m → ((k : ℕ) → k < n → get_or s k 0 ≤ m) → (k : ℕ) → k < n → get_or (set s x v) k 0 ≤ m
stamped_painted s n m x v long le h k l =
    ⊎_elim
    (λ e. omega (arith, ap (λ j. get_or (set s x v) j 0) e ∙ get_or-set_same s x v 0 long))
    (λ ne. omega (arith, get_or-set_other s x k v 0 ne, h k l))
    (cases_eq k x)

-- ---- take

abbrev pub took : Tables → ℕ → Tables
took t x = record { next = t.next; prev = t.prev; stamp = set t.stamp x t.epoch; slots = t.slots; head = get_or t.next x 0; grey = t.grey; black = t.black; epoch = t.epoch; cycle = t.cycle }

take_lists : (t : Tables) (x : ℕ) (f w g b : List ℕ) → Holds t (record { free = x ∷ f; white = w; grey = g; black = b }) → Holds (took t x) (record { free = f; white = w; grey = g; black = b ++ x ∷ [] })
unfolding Ringed Starts
take_lists t x f w g b h =
    let a : Arcs = record { free = x ∷ f; white = w; grey = g; black = b } in
    let a' : Arcs = record { free = f; white = w; grey = g; black = b ++ x ∷ [] } in
    let re : (f ++ (w ++ (g ++ b))) ++ x ∷ [] ≡ ring_of a' = simp append_assoc in
    let some : 0 < count x (ring_of a) = omega (arith, hit_same x) in
    let below : x < t.slots = inside t a h x some in
    let long : x < length t.stamp = omega (arith, h.stamp_long) in
    let alone : count x (f ++ (w ++ (g ++ b))) ≡ 0 = omega (arith, once t a h x, hit_same x) in
    let parts = count_append x f (w ++ (g ++ b)) in
    let parts_w = count_append x w (g ++ b) in
    let parts_g = count_append x g b in
    record {
      ringed = rw (sym re) (rotate (λ k. get_or t.next k 0) (λ k. get_or t.prev k 0) (x ∷ []) (f ++ (w ++ (g ++ b))) h.ringed);
      full = λ k. ap (count k) (sym re) ∙ (count_append k (f ++ (w ++ (g ++ b))) (x ∷ []) ∙ (omega arith ∙ h.full k));
      sized = ap length (sym re) ∙ (length-append (f ++ (w ++ (g ++ b))) (x ∷ []) ∙ omega (arith, h.sized));
      head_at = rw (sym re) (starts_next (λ k. get_or t.next k 0) (λ k. get_or t.prev k 0) x (f ++ (w ++ (g ++ b))) h.ringed);
      grey_at = rw (append_assoc b (x ∷ []) (f ++ w)) h.grey_at;
      black_at = rw (append_assoc b (x ∷ []) (f ++ (w ++ g))) h.black_at;
      frees = coloured_painted t.cycle t.epoch t.stamp 0 x t.epoch f (omega arith) (coloured_tail t.cycle t.epoch t.stamp 0 x f h.frees);
      whites = coloured_painted t.cycle t.epoch t.stamp 1 x t.epoch w (omega arith) h.whites;
      greys = coloured_painted t.cycle t.epoch t.stamp 2 x t.epoch g (omega arith) h.greys;
      blacks = coloured_append t.cycle t.epoch (set t.stamp x t.epoch) 3 b (x ∷ [])
          (coloured_painted t.cycle t.epoch t.stamp 3 x t.epoch b (omega arith) h.blacks)
          (coloured_cons t.cycle t.epoch (set t.stamp x t.epoch) 3 x [] (code_at_painted t.cycle t.epoch t.stamp x t.epoch long ∙ stamp_code_black t.cycle t.epoch) (coloured_nil t.cycle t.epoch (set t.stamp x t.epoch) 3));
      stamped = stamped_painted t.stamp t.slots (t.epoch + 1) x t.epoch long (omega arith) h.stamped;
      epoch_fits = h.epoch_fits;
      next_long = h.next_long;
      prev_long = h.prev_long;
      stamp_long = rw length-set h.stamp_long;
      shut = h.shut;
    }

-- A list whose first slot is known.
first_is : (x : ℕ) (xs : List ℕ) → Some x ≡ first_of xs → (r : List ℕ) × (xs ≡ x ∷ r)
first_is x [] e = absurd (let k : ◌≡◌ {A = ℕ} 0 1 = cc in omega arith)
first_is x (y ∷ xs) e = (xs, ap (λ (z : ℕ). z ∷ xs) (let k : y ≡ x = cc in k))

-- The slot that is taken is the first free one.
pub taken_first : (a : Arcs) → taken_slot a ≡ first_of a.free
taken_first a = go a.free
  where
    go : (xs : List ℕ) → moved_slot (take_from xs a) ≡ first_of xs
    go [] = refl
    go (x ∷ xs) = refl

first_none : (xs : List ℕ) → None ≡ first_of xs → xs ≡ []
first_none [] e = refl
first_none (x ∷ xs) e = absurd (let k : ◌≡◌ {A = ℕ} 0 1 = cc in omega arith)

module _ (t : Tables) (a : Arcs) (h : Holds t a) where
  free_first : 0 < t.slots → code_at t.cycle t.epoch t.stamp t.head ≡ 0 → Some t.head ≡ first_of a.free
  free_first n own =
      let off : Off t.cycle t.epoch t.stamp 0 (a.white ++ (a.grey ++ a.black)) =
      off_append t.cycle t.epoch t.stamp 0 a.white (a.grey ++ a.black)
      (off_coloured t.cycle t.epoch t.stamp 1 0 a.white (λ d. omega arith) h.whites)
      (off_append t.cycle t.epoch t.stamp 0 a.grey a.black
      (off_coloured t.cycle t.epoch t.stamp 2 0 a.grey (λ d. omega arith) h.greys)
      (off_coloured t.cycle t.epoch t.stamp 3 0 a.black (λ d. omega arith) h.blacks)) in
      let r = begins_own t.cycle t.epoch t.stamp 0 t.head a.free (a.white ++ (a.grey ++ a.black)) h.head_at (omega (arith, h.sized)) off own in
      sym (ap first_of r.1)

  free_none : (t.slots ≡ 0) ⊎ (code_at t.cycle t.epoch t.stamp t.head ≡ 0 → ⊥) → a.free ≡ []
  free_none (inl z) = nil_from_length a.free (omega (arith, h.sized, length-append a.free (a.white ++ (a.grey ++ a.black))))
  free_none (inr ne) = begins_none t.cycle t.epoch t.stamp 0 t.head a.free (a.white ++ (a.grey ++ a.black)) h.head_at h.frees ne

  free_in : (x : ℕ) → Some x ≡ first_of a.free → x < t.slots
  free_in x e =
      let r = first_is x a.free e in
      inside t a h x (omega (arith, tally t a h x, ap (count x) r.1, hit_same x))

  take_held : (x : ℕ) → Some x ≡ first_of a.free → Holds (took t x) (taken_arcs a)
  take_held x e =
      let r = first_is x a.free e in
      let same : a ≡ record { free = x ∷ r.0; white = a.white; grey = a.grey; black = a.black } = λ i. record { free = r.1 i; white = a.white; grey = a.grey; black = a.black } in
      subst (λ z. Holds (took t x) (taken_arcs z)) (sym same) (take_lists t x r.0 a.white a.grey a.black (subst (Holds t) same h))

take_none : (a : Arcs) → a.free ≡ [] → a ≡ taken_arcs a
take_none a e =
    let same : a ≡ record { free = []; white = a.white; grey = a.grey; black = a.black } = λ i. record { free = e i; white = a.white; grey = a.grey; black = a.black } in
    same ∙ sym (ap taken_arcs same)

module _ (t : Tables) (s : Fine t) where
  -- What the colour of the first slot says.
  pub head_by : 0 < t.slots → (b : Bool) → b ≡ eqb (code_at t.cycle t.epoch t.stamp t.head) 0 → then_some b t.head ≡ first_of (arcs t).free
  head_by n true e = free_first t (arcs t) (held t s) n (eqb-true _ _ (sym e))
  head_by n false e = sym (ap first_of (free_none t (arcs t) (held t s) (inr (eqb-false _ _ (sym e)))))

  pub head_none : t.slots ≡ 0 → first_of (arcs t).free ≡ None
  head_none z = ap first_of (free_none t (arcs t) (held t s) (inl z))

  pub first_free_in : (x : ℕ) → Some x ≡ taken_slot (arcs t) → x < t.slots
  first_free_in x e = free_in t (arcs t) (held t s) x (e ∙ taken_first (arcs t))

  pub take_done : (x : ℕ) → Some x ≡ taken_slot (arcs t) → Fine (took t x) × (arcs (took t x) ≡ taken_arcs (arcs t))
  take_done x e =
      let h = take_held t (arcs t) (held t s) x (e ∙ taken_first (arcs t)) in
      (sound_from (took t x) (taken_arcs (arcs t)) h, settled (took t x) (taken_arcs (arcs t)) h)

pub take_not : (a : Arcs) → None ≡ taken_slot a → a ≡ taken_arcs a
take_not a e = take_none a (first_none a.free (e ∙ taken_first a))
