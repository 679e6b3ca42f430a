-- A step and a full collection of the rules from their parts, and a write from its tests.
use Rattle.std.proofs.Common.{◌≡◌, ℕ, true, length, get_or, ℤ, Option, sym, ap, ◌∙◌}
use Rattle.words.specs.declared.place.Place.{Place}
use Rattle.rules.specs.Rules.{Barrier, Sizes, Store, in_range, index, reg, place_in, with_place, write, run_call, do_write}

-- a write with all arguments in range
pub write_run : (z : Sizes) (b : Barrier) (s : Store) (d k t : ℤ) (j : ℕ) (o : Option Place) → in_range d z.registers ≡ true → in_range t z.registers ≡ true → in_range k z.links ≡ true → j ≡ index d → place_in z (length s.nursery) (get_or s.registers j 0) ≡ o → run_call z b s (write d k t) ≡ with_place s o (do_write z b s (index k) (reg s t))
write_run z b s d k t j o h i l e f =
    rw (h, i, l) (ap (λ q. with_place s q (do_write z b s (index k) (reg s t))) (ap (λ m. place_in z (length s.nursery) (get_or s.registers m 0)) (sym e) ∙ f))

-- what is written, by the numbers that the code has
pub written_is : (z : Sizes) (b : Barrier) (s : Store) (k t : ℤ) (n i w : ℕ) (at : Place) → n ≡ index k → i ≡ index t → w ≡ get_or s.registers i 0 → do_write z b s (index k) (reg s t) at ≡ do_write z b s n w at
written_is z b s k t n i w at hn hi hw =
    ap (λ m. do_write z b s m (reg s t) at) (sym hn) ∙ ap (λ v. do_write z b s n v at) (ap (λ m. get_or s.registers m 0) (sym hi) ∙ sym hw)
