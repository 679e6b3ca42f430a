-- That tables hold arcs has one proof at most.
use Rattle.std.proofs.Common.{ℕ, List, [], ◌∷◌, ◌++◌}
use mathlib.Core.HLevel.{Unit-prop}
use native.Mathlib.Nat.{ℕ_set}
use native.Mathlib.Bridge.{le_prop}
use Rattle.ring.specs.Arcs.{Arcs}
use Rattle.ring.specs.Sound.{Tables, Chained, Ringed, Starts, Coloured, Holds}

chained_prop : (n p : ℕ → ℕ) (x : ℕ) (ys : List ℕ) → IsProp (Chained n p x ys)
unfolding Chained
chained_prop n p x [] u v = Unit-prop u v
chained_prop n p x (y ∷ ys) u v = λ i. (ℕ_set (n x) y u.0 v.0 i, ℕ_set (p y) x u.1 v.1 i, chained_prop n p y ys u.2 v.2 i)

ringed_prop : (n p : ℕ → ℕ) (xs : List ℕ) → IsProp (Ringed n p xs)
unfolding Ringed
ringed_prop n p [] = Unit-prop
ringed_prop n p (x ∷ xs) = chained_prop n p x (xs ++ x ∷ [])

starts_prop : (x : ℕ) (xs : List ℕ) → IsProp (Starts x xs)
unfolding Starts
starts_prop x [] = Unit-prop
starts_prop x (y ∷ ys) = ℕ_set x y

pub holds_prop : (t : Tables) (a : Arcs) → IsProp (Holds t a)
unfolding Coloured
holds_prop t a u v = λ i. record {
  ringed = ringed_prop _ _ _ u.ringed v.ringed i;
  full = λ x. ℕ_set _ _ (u.full x) (v.full x) i;
  sized = ℕ_set _ _ u.sized v.sized i;
  head_at = starts_prop _ _ u.head_at v.head_at i;
  grey_at = starts_prop _ _ u.grey_at v.grey_at i;
  black_at = starts_prop _ _ u.black_at v.black_at i;
  frees = λ x l. ℕ_set _ _ (u.frees x l) (v.frees x l) i;
  whites = λ x l. ℕ_set _ _ (u.whites x l) (v.whites x l) i;
  greys = λ x l. ℕ_set _ _ (u.greys x l) (v.greys x l) i;
  blacks = λ x l. ℕ_set _ _ (u.blacks x l) (v.blacks x l) i;
  stamped = λ x l. le_prop (u.stamped x l) (v.stamped x l) i;
  epoch_fits = le_prop u.epoch_fits v.epoch_fits i;
  next_long = le_prop u.next_long v.next_long i;
  prev_long = le_prop u.prev_long v.prev_long i;
  stamp_long = le_prop u.stamp_long v.stamp_long i;
  shut = λ l. ℕ_set _ _ (u.shut l) (v.shut l) i;
}
