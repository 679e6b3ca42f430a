-- What no call alters, step by step.
use Rattle.std.proofs.Common.{◌≡◌, ℕ, ◌<◌, ◌≤◌, List, ◌++◌, length, take, drop, set, sym, refl, ap, ◌∙◌, arith, length-set, length-append, length-drop}
use Rattle.std.proofs.lemmas.List.{drop-set-lt, length-take-le}
use Rattle.std.proofs.lemmas.Slice.{drop-append-drop}
use Rattle.ring.specs.View.{slots_of}
use Rattle.heap.specs.declared.heap.Heap.{Heap}
use Rattle.heap.specs.View.{Frame}
use Rattle.heap.specs.Rows.{Rest}
use Rattle.heap.proofs.Leaving.{beyond_refl, beyond_then}

-- a table that is not written, and one written below n
pub rest_refl : {X : Type 0} (n : ℕ) (xs : List X) → Rest n xs xs
rest_refl n xs = record { rest = refl {a = drop n xs}; size = refl {a = length xs} }

pub rest_set : {X : Type 0} (n : ℕ) (xs : List X) (i : ℕ) (x : X) → i < n → Rest n xs (set xs i x)
rest_set n xs i x low = record { rest = drop-set-lt n xs i x low; size = length-set xs i x }

pub rest_trans : {X : Type 0} (m n : ℕ) (xs ys zs : List X) → n ≡ m → Rest m xs ys → Rest n ys zs → Rest m xs zs
rest_trans m n xs ys zs e a b = record { rest = ap (λ k. drop k zs) (sym e) ∙ b.rest ∙ ap (λ k. drop k ys) e ∙ a.rest; size = b.size ∙ a.size }

-- one of which the first k places were lent and given back
pub rest_cut : {X : Type 0} (k n : ℕ) (xs ys : List X) → k ≤ n → k ≤ length xs → length ys ≡ length (take k xs) → Rest n xs (ys ++ drop k xs)
rest_cut k n xs ys low long same =
    let size : length ys ≡ k = same ∙ length-take-le k xs long in
    record { rest = drop-append-drop k xs ys n low size; size = omega (arith, size, length-append ys (drop k xs), length-drop k xs, long) }

-- nothing done, and one call after another
pub frame_refl : {X B : Type 0} (h : Heap X B) → Frame h h
frame_refl h = record {
  same_limits = refl {a = h.limits};
  same_status = refl {a = h.status};
  same_barrier = refl {a = h.barrier};
  registers_rest = rest_refl _ _;
  nursery_rest = rest_refl _ _;
  slots_rest = rest_refl _ _;
  forward_rest = rest_refl _ _;
  notes_rest = rest_refl _ _;
  same_slots = refl {a = slots_of h.area.ring};
  ring_rest = beyond_refl h.area.ring;
}

pub frame_trans : {X B : Type 0} (a b c : Heap X B) → Frame a b → Frame b c → Frame a c
frame_trans a b c f g = record {
  same_limits = g.same_limits ∙ f.same_limits;
  same_status = g.same_status ∙ f.same_status;
  same_barrier = g.same_barrier ∙ f.same_barrier;
  registers_rest = rest_trans _ _ _ _ _ (ap (λ l. l.registers) f.same_limits) f.registers_rest g.registers_rest;
  nursery_rest = rest_trans _ _ _ _ _ (ap (λ l. l.places) f.same_limits) f.nursery_rest g.nursery_rest;
  slots_rest = rest_trans _ _ _ _ _ (ap (λ l. l.slots) f.same_limits) f.slots_rest g.slots_rest;
  forward_rest = rest_trans _ _ _ _ _ (ap (λ l. l.places) f.same_limits) f.forward_rest g.forward_rest;
  notes_rest = rest_trans _ _ _ _ _ (ap (λ l. l.slots) f.same_limits) f.notes_rest g.notes_rest;
  same_slots = g.same_slots ∙ f.same_slots;
  ring_rest = beyond_then a.area.ring b.area.ring c.area.ring f.same_slots f.ring_rest g.ring_rest;
}
