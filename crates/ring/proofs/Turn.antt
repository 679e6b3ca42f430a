-- The opening and the closing of a cycle, and the renewal of the stamps.
use Rattle.std.proofs.Common.{◌≡◌, ℕ, ◌+◌, ◌^◌, ◌<◌, ◌≤◌, Bool, true, false, cond, not, ◌&&◌, eqb, ◌⊎◌, List, [], ◌∷◌, ◌++◌, length, get_or, sym, refl, ap, ◌∙◌, subst, ⊎_elim, append_assoc, arith}
use Rattle.std.proofs.lemmas.List.{append-nil, length-append, nil_from_length}
use Rattle.std.proofs.lemmas.Bool.{cases_eq, cases_lt, eq-eqb, ne_eqb, both_ways, true≢false, and_from, and_left, and_right, cond-true, cond-false}
use Rattle.ring.specs.declared.arcs.Colour.TheVariants.{Free, White}
use Rattle.ring.specs.Arcs.{Arcs, open_arcs, close_arcs}
use Rattle.ring.specs.Calls.{is_none, may_close, closed_arcs, still_open}
use Rattle.ring.specs.Sound.{Tables, stamp_colour, code, stamp_code, count, code_at, Coloured, arcs, Holds}
use Rattle.ring.specs.View.{Fine}
use Rattle.ring.proofs.Chain.{count_append}
use Rattle.ring.proofs.Held.{stamp_code_3, stamp_code_2, stamp_code_1, stamp_code_0, coloured_nil, settled, sound_from, held}
use Rattle.ring.proofs.Steps.{inside, tally}

-- ---- what a colour says of its stamp

from_0 : (o : Bool) (e s : ℕ) → stamp_code o e s ≡ 0 → (s ≡ e → ⊥) × (s ≡ e + 1 → ⊥)
from_0 o e s h = (λ d. omega (arith, h, stamp_code_3 o e s d), λ d. omega (arith, h, stamp_code_2 o e s d))

from_1 : (o : Bool) (e s : ℕ) → stamp_code o e s ≡ 1 → (s ≡ e → ⊥) × (s ≡ e + 1 → ⊥)
from_1 o e s h = (λ d. omega (arith, h, stamp_code_3 o e s d), λ d. omega (arith, h, stamp_code_2 o e s d))

low_code : (b : Bool) → code (cond b White Free) ≤ 1
unfolding code
low_code true = omega arith
low_code false = omega arith

low_stamp_code : (o : Bool) (e s : ℕ) → (s ≡ e → ⊥) → (s ≡ e + 1 → ⊥) → stamp_code o e s ≤ 1
unfolding stamp_code stamp_colour code
low_stamp_code true e s n m = rw (ne_eqb s e n, ne_eqb s (e + 1) m) (low_code (eqb (s + 2) e))
low_stamp_code false e s n m = rw (ne_eqb s e n, ne_eqb s (e + 1) m) (omega arith)

from_3 : (o : Bool) (e s : ℕ) → stamp_code o e s ≡ 3 → s ≡ e
from_3 o e s h =
    ⊎_elim (λ d. d)
    (λ n. absurd (⊎_elim (λ d. omega (arith, h, stamp_code_2 o e s d)) (λ m. omega (arith, h, low_stamp_code o e s n m)) (cases_eq s (e + 1))))
    (cases_eq s e)

-- ---- the opening

abbrev pub opens : Tables → Tables
opens t = record { next = t.next; prev = t.prev; stamp = t.stamp; slots = t.slots; head = t.head; grey = t.head; black = t.head; epoch = t.epoch + 2; cycle = true }

pub shut_arcs : (t : Tables) (a : Arcs) → Holds t a → t.cycle ≡ false → (a.white ≡ []) × (a.grey ≡ [])
shut_arcs t a h e =
    let z : length a.white + length a.grey ≡ 0 = sym (length-append a.white a.grey) ∙ h.shut e in
    (nil_from_length a.white (omega arith), nil_from_length a.grey (omega arith))

open_lists : (t : Tables) (f b : List ℕ) → t.epoch + 3 < 2 ^ 32 → Holds t (record { free = f; white = []; grey = []; black = b }) → Holds (opens t) (record { free = f; white = b; grey = []; black = [] })
unfolding Coloured code_at
open_lists t f b room h =
    let a : Arcs = record { free = f; white = []; grey = []; black = b } in
    let re : f ++ b ≡ f ++ (b ++ []) = ap (λ z. f ++ z) (sym (append-nil b)) in
    record {
      ringed = rw (sym re) h.ringed;
      full = λ x. ap (count x) (sym re) ∙ h.full x;
      sized = ap length (sym re) ∙ h.sized;
      head_at = rw (sym re) h.head_at;
      grey_at = h.head_at;
      black_at = rw (sym re) h.head_at;
      frees = λ x i.
          let l : x < t.slots = inside t a h x (omega (arith, count_append x f b)) in
          let o = from_0 t.cycle t.epoch (get_or t.stamp x 0) (h.frees x i) in
          sym (stamp_code_0 true (t.epoch + 2) (get_or t.stamp x 0) (λ d. omega (arith, h.stamped x l)) (λ d. omega (arith, h.stamped x l)) (λ y d. o.0 (omega arith)));
      whites = λ x i. sym (stamp_code_1 true (t.epoch + 2) (get_or t.stamp x 0) refl (omega (arith, from_3 t.cycle t.epoch (get_or t.stamp x 0) (h.blacks x i))));
      greys = coloured_nil true (t.epoch + 2) t.stamp 2;
      blacks = coloured_nil true (t.epoch + 2) t.stamp 3;
      stamped = λ x l. omega (arith, h.stamped x l);
      epoch_fits = omega arith;
      next_long = h.next_long;
      prev_long = h.prev_long;
      stamp_long = h.stamp_long;
      shut = λ e. absurd (true≢false e);
    }

pub open_done : (t : Tables) → Fine t → t.cycle ≡ false → t.epoch + 3 < 2 ^ 32 → Fine (opens t) × (arcs (opens t) ≡ open_arcs (arcs t))
open_done t s e room =
    let a = arcs t in
    let n = shut_arcs t a (held t s) e in
    let same : a ≡ record { free = a.free; white = []; grey = []; black = a.black } = λ i. record { free = a.free; white = n.0 i; grey = n.1 i; black = a.black } in
    let h : Holds (opens t) (open_arcs a) = open_lists t a.free a.black room (subst (Holds t) same (held t s)) in
    (sound_from (opens t) (open_arcs a) h, settled (opens t) (open_arcs a) h)

-- ---- stamps anew

abbrev pub renewed : Tables → List ℕ → Tables
renewed t st = record { next = t.next; prev = t.prev; stamp = st; slots = t.slots; head = t.head; grey = t.grey; black = t.black; epoch = 2; cycle = t.cycle }

renew_held : (t : Tables) (st : List ℕ) (a : Arcs) → Holds t a → t.cycle ≡ false → t.slots ≤ length st → ((k : ℕ) → k < t.slots → get_or st k 0 ≡ cond (eqb (get_or t.stamp k 0) t.epoch) 2 0) → Holds (renewed t st) a
unfolding Coloured code_at
renew_held t st a h e long hs =
    let n = shut_arcs t a h e in
    let low : (k : ℕ) → k < t.slots → (get_or t.stamp k 0 ≡ t.epoch → ⊥) → get_or st k 0 ≡ 0 = λ k l ne. hs k l ∙ rw (ne_eqb (get_or t.stamp k 0) t.epoch ne) in
    let high : (k : ℕ) → k < t.slots → get_or t.stamp k 0 ≡ t.epoch → get_or st k 0 ≡ 2 = λ k l d. hs k l ∙ rw (eq-eqb (get_or t.stamp k 0) t.epoch d) in
    record {
      ringed = h.ringed;
      full = h.full;
      sized = h.sized;
      head_at = h.head_at;
      grey_at = h.grey_at;
      black_at = h.black_at;
      frees = λ x i.
          let l : x < t.slots = inside t a h x (omega (arith, tally t a h x)) in
          let z = low x l (from_0 t.cycle t.epoch (get_or t.stamp x 0) (h.frees x i)).0 in
          sym (stamp_code_0 t.cycle 2 (get_or st x 0) (λ d. omega arith) (λ d. omega arith) (λ y d. both_ways t.cycle e y));
      whites = λ x i. absurd (omega (arith, ap (count x) n.0));
      greys = λ x i. absurd (omega (arith, ap (count x) n.1));
      blacks = λ x i.
          let l : x < t.slots = inside t a h x (omega (arith, tally t a h x)) in
          sym (stamp_code_3 t.cycle 2 (get_or st x 0) (high x l (from_3 t.cycle t.epoch (get_or t.stamp x 0) (h.blacks x i))));
      stamped = λ x l. ⊎_elim (λ d. omega (arith, high x l d)) (λ ne. omega (arith, low x l ne)) (cases_eq (get_or t.stamp x 0) t.epoch);
      epoch_fits = omega arith;
      next_long = h.next_long;
      prev_long = h.prev_long;
      stamp_long = long;
      shut = h.shut;
    }

pub renew_done : (t : Tables) (st : List ℕ) → Fine t → t.cycle ≡ false → t.slots ≤ length st → ((k : ℕ) → k < t.slots → get_or st k 0 ≡ cond (eqb (get_or t.stamp k 0) t.epoch) 2 0) → Fine (renewed t st) × (arcs (renewed t st) ≡ arcs t)
renew_done t st s e long hs =
    let h = renew_held t st (arcs t) (held t s) e long hs in
    (sound_from (renewed t st) (arcs t) h, settled (renewed t st) (arcs t) h)

-- ---- the closing

abbrev pub closes : Tables → Tables
closes t = record { next = t.next; prev = t.prev; stamp = t.stamp; slots = t.slots; head = t.head; grey = t.grey; black = t.black; epoch = t.epoch; cycle = false }

close_lists : (t : Tables) (f w b : List ℕ) → Holds t (record { free = f; white = w; grey = []; black = b }) → Holds (closes t) (record { free = f ++ w; white = []; grey = []; black = b })
unfolding Coloured code_at
close_lists t f w b h =
    let re : f ++ (w ++ b) ≡ (f ++ w) ++ b = sym (append_assoc f w b) in
    record {
      ringed = rw (sym re) h.ringed;
      full = λ x. ap (count x) (sym re) ∙ h.full x;
      sized = ap length (sym re) ∙ h.sized;
      head_at = rw (sym re) h.head_at;
      grey_at = rw (append-nil (f ++ w)) h.grey_at;
      black_at = simp (append_assoc, append-nil) (simp append-nil at h.black_at);
      frees = λ x i.
          let o : (get_or t.stamp x 0 ≡ t.epoch → ⊥) × (get_or t.stamp x 0 ≡ t.epoch + 1 → ⊥) =
          ⊎_elim (λ l. from_0 t.cycle t.epoch (get_or t.stamp x 0) (h.frees x l)) (λ l. from_1 t.cycle t.epoch (get_or t.stamp x 0) (h.whites x (omega (arith, count_append x f w)))) (cases_lt 0 (count x f)) in
          sym (stamp_code_0 false t.epoch (get_or t.stamp x 0) o.0 o.1 (λ y d. both_ways false refl y));
      whites = coloured_nil false t.epoch t.stamp 1;
      greys = coloured_nil false t.epoch t.stamp 2;
      blacks = λ x i. sym (stamp_code_3 false t.epoch (get_or t.stamp x 0) (from_3 t.cycle t.epoch (get_or t.stamp x 0) (h.blacks x i)));
      stamped = h.stamped;
      epoch_fits = h.epoch_fits;
      next_long = h.next_long;
      prev_long = h.prev_long;
      stamp_long = h.stamp_long;
      shut = λ e. refl;
    }

none_from : (xs : List ℕ) → is_none xs ≡ true → xs ≡ []
none_from [] e = refl
none_from (x ∷ xs) e = absurd (both_ways false refl e)

pub close_done : (t : Tables) → Fine t → t.cycle ≡ true → is_none (arcs t).grey ≡ true → Fine (closes t) × (true ≡ may_close t.cycle (arcs t)) × (arcs (closes t) ≡ closed_arcs t.cycle (arcs t)) × (false ≡ still_open t.cycle (arcs t))
close_done t s o z =
    let a = arcs t in
    let e = none_from a.grey z in
    let same : a ≡ record { free = a.free; white = a.white; grey = []; black = a.black } = λ i. record { free = a.free; white = a.white; grey = e i; black = a.black } in
    let h : Holds (closes t) (close_arcs a) = subst (λ v. Holds (closes t) (close_arcs v)) (sym same) (close_lists t a.free a.white a.black (subst (Holds t) same (held t s))) in
    let d : may_close t.cycle a ≡ true = and_from t.cycle (is_none a.grey) o z in (
      sound_from (closes t) (close_arcs a) h,
      sym d,
      settled (closes t) (close_arcs a) h ∙ sym (cond-true (may_close t.cycle a) (close_arcs a) a d),
      sym (and_right t.cycle (not (is_none a.grey)) (ap not z)),
    )

-- A cycle that may not close stays as it is.
pub close_not : (o : Bool) (a : Arcs) → (o ≡ false) ⊎ (is_none a.grey ≡ false) → (false ≡ may_close o a) × (a ≡ closed_arcs o a) × (o ≡ still_open o a)
close_not o a w =
    let d : may_close o a ≡ false = ⊎_elim (λ e. and_left o (is_none a.grey) e) (λ e. and_right o (is_none a.grey) e) w in
    (sym d, sym (cond-false (may_close o a) (close_arcs a) a d), ⊎_elim (λ e. e ∙ sym (and_left o (not (is_none a.grey)) e)) (λ e. stays o (not (is_none a.grey)) (ap not e)) w)
  where
    stays : (o b : Bool) → b ≡ true → o ≡ (o && b)
    stays true b e = sym e
    stays false b e = refl
