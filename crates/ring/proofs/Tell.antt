-- The lengths of the arcs, by a walk.
use Rattle.std.proofs.Common.{◌≡◌, ℕ, zero, suc, ◌+◌, ◌<◌, ◌≤◌, Bool, true, false, cond, eqb, List, [], ◌∷◌, ◌++◌, length, get_or, filter, sym, refl, ap, ◌∙◌, add-one, arith}
use Rattle.std.proofs.lemmas.List.{length-append}
use Rattle.std.proofs.lemmas.List.Elements.{filter-append}
use Rattle.ring.specs.declared.arcs.Colour.{Colour}
use Rattle.ring.specs.declared.arcs.Colour.TheVariants.{Free, White, Grey, Black}
use Rattle.ring.specs.declared.arcs.Lengths.{Lengths}
use Rattle.ring.specs.Calls.{lengths_of}
use Rattle.ring.specs.Count.{one_more}
use Rattle.ring.specs.Sound.{Tables, stamp_colour, code, stamp_code, walk, code_at, arc, arcs}
use Rattle.ring.specs.View.{Fine}
use Rattle.ring.proofs.Bounds.{head_in, links_in}
use Rattle.ring.proofs.Chain.{one_most}
use Rattle.ring.proofs.Held.{held}

unfoldable pub step : List ℕ → ℕ → ℕ → ℕ
step n zero h = h
step n (suc k) h = step n k (get_or n h 0)

step_more : (n : List ℕ) (k h : ℕ) → step n (suc k) h ≡ get_or n (step n k h) 0
unfolding step
step_more n zero h = refl
step_more n (suc k) h = step_more n k (get_or n h 0)

walk_more : (n : List ℕ) (k h : ℕ) → walk n (suc k) h ≡ walk n k h ++ step n k h ∷ []
unfolding walk step
walk_more n zero h = refl
walk_more n (suc k) h = ap (λ z. h ∷ z) (walk_more n k (get_or n h 0))

-- The slots of a colour among the first of the walk.
unfoldable pub seen : Tables → ℕ → ℕ → ℕ
seen t i k = length (filter (λ x. eqb (code_at t.cycle t.epoch t.stamp x) k) (walk t.next i t.head))

seen_none : (t : Tables) (k : ℕ) → seen t 0 k ≡ 0
unfolding seen walk
seen_none t k = refl

seen_more : (t : Tables) (i k : ℕ) → seen t (i + 1) k ≡ seen t i k + cond (eqb (code_at t.cycle t.epoch t.stamp (step t.next i t.head)) k) 1 0
unfolding seen
seen_more t i k =
    let keep : List ℕ → List ℕ = λ xs. filter (λ x. eqb (code_at t.cycle t.epoch t.stamp x) k) xs in
    let w = walk t.next i t.head in
    let x = step t.next i t.head in
    rw (add-one i, walk_more t.next i t.head, filter-append (λ y. eqb (code_at t.cycle t.epoch t.stamp y) k) w (x ∷ []), length-append (keep w) (keep (x ∷ []))) (ap (λ z. length (keep w) + z) (go (eqb (code_at t.cycle t.epoch t.stamp x) k) x))
  where
    go : (b : Bool) (x : ℕ) → length (cond b (x ∷ []) []) ≡ cond b 1 0
    go true x = refl
    go false x = refl

seen_le : (t : Tables) (i k : ℕ) → seen t i k ≤ i
seen_le t zero k = omega (arith, seen_none t k)
seen_le t (suc i) k = let e : seen t (suc i) k ≡ seen t (i + 1) k = rw (add-one i) in let b = one_most (eqb (code_at t.cycle t.epoch t.stamp (step t.next i t.head)) k) in omega (arith, seen_le t i k, seen_more t i k)

-- One more slot of a colour, by the colour's number.
abbrev one_if : Colour → ℕ → ℕ
one_if c k = cond (eqb (code c) k) 1 0

counts : (c : Colour) (l : Lengths) → ((one_more c l).free ≡ l.free + one_if c 0) × ((one_more c l).white ≡ l.white + one_if c 1) × ((one_more c l).grey ≡ l.grey + one_if c 2) × ((one_more c l).black ≡ l.black + one_if c 3)
unfolding code
counts Free l = (refl, omega arith, omega arith, omega arith)
counts White l = (omega arith, refl, omega arith, omega arith)
counts Grey l = (omega arith, omega arith, refl, omega arith)
counts Black l = (omega arith, omega arith, omega arith, refl)

-- The loop's invariant: x is the slot met after i steps, and l has the lengths among the slots before it.
pub record Told (t : Tables) (i x : ℕ) (l : Lengths) : Type 0 where
  pub at : x ≡ step t.next i t.head
  pub low : (t.slots ≡ 0 → ⊥) → x < t.slots
  pub free_is : l.free ≡ seen t i 0
  pub white_is : l.white ≡ seen t i 1
  pub grey_is : l.grey ≡ seen t i 2
  pub black_is : l.black ≡ seen t i 3

pub told_none : (t : Tables) → Fine t → Told t 0 t.head (record { free = 0; white = 0; grey = 0; black = 0 })
unfolding step
told_none t s = record { at = refl; low = head_in t s; free_is = sym (seen_none t 0); white_is = sym (seen_none t 1); grey_is = sym (seen_none t 2); black_is = sym (seen_none t 3) }

pub told_more : (t : Tables) → Fine t → (i x : ℕ) (l l' : Lengths) (c : Colour) → Told t i x l → i < t.slots → c ≡ stamp_colour t.cycle t.epoch (get_or t.stamp x 0) → l' ≡ one_more c l → Told t (i + 1) (get_or t.next x 0) l'
unfolding code_at stamp_code
told_more t s i x l l' c told lt e e' =
    let hit : (k : ℕ) → one_if c k ≡ cond (eqb (code_at t.cycle t.epoch t.stamp (step t.next i t.head)) k) 1 0 = λ k. ap (λ z. one_if z k) e ∙ ap (λ z. cond (eqb (code_at t.cycle t.epoch t.stamp z) k) 1 0) told.at in
    let n = counts c l in
    record {
      at = ap (λ z. get_or t.next z 0) told.at ∙ (sym (step_more t.next i t.head) ∙ ap (λ z. step t.next z t.head) (sym (add-one i)));
      low = λ n. (links_in t s x (told.low n)).0;
      free_is = ap (λ z. z.free) e' ∙ omega (arith, told.free_is, n.0, hit 0, seen_more t i 0);
      white_is = ap (λ z. z.white) e' ∙ omega (arith, told.white_is, n.1, hit 1, seen_more t i 1);
      grey_is = ap (λ z. z.grey) e' ∙ omega (arith, told.grey_is, n.2, hit 2, seen_more t i 2);
      black_is = ap (λ z. z.black) e' ∙ omega (arith, told.black_is, n.3, hit 3, seen_more t i 3);
    }

pub told_le : (t : Tables) (i x : ℕ) (l : Lengths) → Told t i x l → (l.free ≤ i) × (l.white ≤ i) × (l.grey ≤ i) × (l.black ≤ i)
told_le t i x l told = (omega (arith, told.free_is, seen_le t i 0), omega (arith, told.white_is, seen_le t i 1), omega (arith, told.grey_is, seen_le t i 2), omega (arith, told.black_is, seen_le t i 3))

pub told_all : (t : Tables) (i x : ℕ) (l : Lengths) → Told t i x l → i ≡ t.slots → l ≡ lengths_of (arcs t)
unfolding seen arcs arc
told_all t i x l told e =
    let f = told.free_is ∙ ap (λ z. seen t z 0) e in
    let w = told.white_is ∙ ap (λ z. seen t z 1) e in
    let g = told.grey_is ∙ ap (λ z. seen t z 2) e in
    let b = told.black_is ∙ ap (λ z. seen t z 3) e in
    λ j. record { free = f j; white = w j; grey = g j; black = b j }

-- The four lengths add up to the number of slots.
pub told_sum : (t : Tables) → Fine t → (l : Lengths) → l ≡ lengths_of (arcs t) → l.free + l.white + l.grey + l.black ≡ t.slots
told_sum t s l e =
    omega (arith, ap (λ z. z.free) e, ap (λ z. z.white) e, ap (λ z. z.grey) e, ap (λ z. z.black) e, simp length-append at (held t s).sized)
