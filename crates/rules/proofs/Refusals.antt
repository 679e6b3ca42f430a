-- Which refusals a call on an open store can answer: a few that depend on its arguments and on the state of the nursery,
-- 23 by a make for want of a slot, 24 by a write for want of a note, and no other.
use Rattle.std.proofs.Common.{◌≡◌, ℕ, ◌%◌, ◌<◌, Bool, true, false, cond, not, ◌&&◌, eqb, ltb, leb, List, [], ◌∷◌, length, ℤ, pos, Some, None, Option, sym, refl, subst, arith}
use Rattle.ring.specs.Arcs.{has}
use Rattle.words.specs.Words.{place_of, is_number, word_number}
use Rattle.words.specs.declared.place.Place.{Place}
use Rattle.words.specs.declared.place.Place.TheVariants.{Young, Old}
use Rattle.rules.specs.Rules.{Barrier, Sizes, Store, Call, load, empty, copy, make, read, write, fill, plain, same, look, tell, step, full, Answer, refused, done, gave, in_range, index, all_in, unless, reg, in_store, place_in, with_place, do_write, do_look, counts, run_call, needs_note}
use Rattle.std.proofs.lemmas.Bool.{ltb-true, ltb-false, not-false, both_ways}

-- a slot that a word leads to is below S
pub in_store_below : (z : Sizes) (n : ℕ) (o : Option Place) (q : ℕ) → in_store z n o ≡ Some (Old q) → q < z.slots
in_store_below z n None q e = let k : ◌≡◌ {A = ℕ} 0 1 = cc in absurd (omega arith)
in_store_below z n (Some (Young p)) q e = go (ltb p n) e
  where
    go : (t : Bool) → cond t (Some (Young p)) None ≡ Some (Old q) → q < z.slots
    go true e = let k : ◌≡◌ {A = ℕ} 0 1 = cc in absurd (omega arith)
    go false e = let k : ◌≡◌ {A = ℕ} 0 1 = cc in absurd (omega arith)
in_store_below z n (Some (Old t)) q e = go (ltb t z.slots) refl e
  where
    go : (u : Bool) → ltb t z.slots ≡ u → cond u (Some (Old t)) None ≡ Some (Old q) → q < z.slots
    go true l e = let k : t ≡ q = cc in omega (arith, ltb-true t z.slots l)
    go false l e = let k : ◌≡◌ {A = ℕ} 0 1 = cc in absurd (omega arith)

-- the refusals other than 23 and 24
abbrev pub earlier : List ℕ
earlier = 3 ∷ (4 ∷ (5 ∷ (6 ∷ (21 ∷ (22 ∷ [])))))

-- m is none of them, and is ruled out where it is 23 or 24
module _ (z : Sizes) (b : Barrier) (s : Store) (m : ℕ) (other : has m earlier ≡ false)
    (room : m ≡ 23 → length s.nursery < z.places → length s.nursery < length s.arcs.free)
    (noting : m ≡ 24 → (q w : ℕ) → q < z.slots → (needs_note s q w && leb z.slots (length s.notes)) ≡ false) where
  done_not : (vs : List ℤ) → done vs ≡ refused m → ⊥
  done_not vs e = let k : ◌≡◌ {A = ℕ} 0 1 = cc in omega arith

  gave_not : (ps : List ℤ) → gave ps ≡ refused m → ⊥
  gave_not ps e = let k : ◌≡◌ {A = ℕ} 0 1 = cc in omega arith

  unless_not : (u : Bool) (n : ℕ) (sa : Store × Answer) → (n ≡ m → u ≡ false → ⊥) → (u ≡ true → sa.1 ≡ refused m → ⊥) → (unless s u n sa).1 ≡ refused m → ⊥
  unless_not true n sa f g e = g refl e
  unless_not false n sa f g e = f (let h : refused n ≡ refused m = e in let k : n ≡ m = cc in k) refl

  not_earlier : (n : ℕ) → has n earlier ≡ true → n ≡ m → ⊥
  not_earlier n h e = both_ways (has m earlier) other (subst (λ x. has x earlier ≡ true) e h)

  place_not : (o : Option Place) (go : Place → Store × Answer) → ((p : Place) → o ≡ Some p → (go p).1 ≡ refused m → ⊥) → (with_place s o go).1 ≡ refused m → ⊥
  place_not None go f e = let h : refused 21 ≡ refused m = e in not_earlier 21 refl (let k : 21 ≡ m = cc in k)
  place_not (Some p) go f e = f p refl e

  cond_not : (u : Bool) (x y : Answer) → (x ≡ refused m → ⊥) → (y ≡ refused m → ⊥) → cond u x y ≡ refused m → ⊥
  cond_not true x y f g e = f e
  cond_not false x y f g e = g e

  look_not : (w : ℕ) → do_look w ≡ refused m → ⊥
  look_not w = cond_not (eqb w 0) (counts (0 ∷ [])) (cond (eqb (w % 4) 1) (done (pos 1 ∷ (word_number w ∷ []))) (counts (2 ∷ []))) (done_not _) (cond_not (eqb (w % 4) 1) (done (pos 1 ∷ (word_number w ∷ []))) (counts (2 ∷ [])) (done_not _) (done_not _))

  -- tests that refuse by an earlier number
  by_test : (u : Bool) (n : ℕ) (sa : Store × Answer) → has n earlier ≡ true → (u ≡ true → sa.1 ≡ refused m → ⊥) → (unless s u n sa).1 ≡ refused m → ⊥
  by_test u n sa l g = unless_not u n sa (λ e _. not_earlier n l e) g

  pub not_refused : (c : Call) → (run_call z b s c).1 ≡ refused m → ⊥
  not_refused (load r v) = by_test (in_range r z.registers) 3 _ refl (λ _. by_test (is_number v) 4 _ refl (λ _. done_not []))
  not_refused (empty r) = by_test (in_range r z.registers) 3 _ refl (λ _. done_not [])
  not_refused (copy d t) = by_test (in_range d z.registers && in_range t z.registers) 3 _ refl (λ _. done_not [])
  not_refused (make d p rs) =
      by_test (in_range d z.registers && all_in rs z.registers) 3 _ refl (λ _.
      by_test (eqb (length rs) z.links) 6 _ refl (λ _.
      by_test (ltb (length s.nursery) z.places) 22 _ refl (λ l.
      unless_not (ltb (length s.nursery) (length s.arcs.free)) 23 _ (no_slot (ltb-true (length s.nursery) z.places l)) (λ _. done_not _))))
    where
      no_slot : length s.nursery < z.places → 23 ≡ m → ltb (length s.nursery) (length s.arcs.free) ≡ false → ⊥
      no_slot l e f = omega (arith, room (sym e) l, ltb-false (length s.nursery) (length s.arcs.free) f)
  not_refused (read d t k) =
      by_test (in_range d z.registers && in_range t z.registers) 3 _ refl (λ _.
      by_test (in_range k z.links) 5 _ refl (λ _.
      place_not (place_in z (length s.nursery) (reg s t)) _ (λ p _. done_not [])))
  not_refused (write d k t) =
      by_test (in_range d z.registers && in_range t z.registers) 3 _ refl (λ _.
      by_test (in_range k z.links) 5 _ refl (λ _.
      place_not (place_in z (length s.nursery) (reg s d)) _ at))
    where
      no_note : ℕ → Bool
      no_note q = needs_note s q (reg s t) && leb z.slots (length s.notes)

      at : (p : Place) → place_in z (length s.nursery) (reg s d) ≡ Some p → (do_write z b s (index k) (reg s t) p).1 ≡ refused m → ⊥
      at (Young p) e = done_not []
      at (Old q) e = unless_not (not (no_note q)) 24 _ (λ f g. both_ways (no_note q) (noting (sym f) q (reg s t) (in_store_below z (length s.nursery) (place_of (reg s d)) q e)) (not-false (no_note q) g)) (λ _. done_not [])
  not_refused (fill d p) = by_test (in_range d z.registers) 3 _ refl (λ _. place_not (place_in z (length s.nursery) (reg s d)) _ (λ p _. done_not []))
  not_refused (plain d) = by_test (in_range d z.registers) 3 _ refl (λ _. place_not (place_in z (length s.nursery) (reg s d)) _ (λ p _. gave_not _))
  not_refused (same d t) = by_test (in_range d z.registers && in_range t z.registers) 3 _ refl (λ _. done_not _)
  not_refused (look r) = by_test (in_range r z.registers) 3 _ refl (λ _. look_not (reg s r))
  not_refused tell = done_not _
  not_refused step = done_not _
  not_refused full = done_not _

-- an open store never says that it is closed
pub never_20 : (z : Sizes) (b : Barrier) (s : Store) (c : Call) → (run_call z b s c).1 ≡ refused 20 → ⊥
never_20 z b s = not_refused z b s 20 refl (λ e. absurd (omega arith)) (λ e. absurd (omega arith))
