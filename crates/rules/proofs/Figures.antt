-- The figures for planning: one division gives the steps of a cycle.
use Rattle.std.proofs.Common.{◌≡◌, ℕ, zero, suc, ◌+◌, ◌-◌, ◌*◌, ◌/◌, ◌%◌, ◌<◌, min, refl, ap, arith}
use native.Mathlib.Nat.{add-mul-div_left, div-eq_of_lt}

-- rounding up by the remainder, and by adding what one step lacks of k
pub div_ceil_is_divide_up : (n k : ℕ) → 0 < k → n / k + min 1 (n % k) ≡ (n + (k - 1)) / k
div_ceil_is_divide_up n k l = go (n % k) refl
  where
    go : (r : ℕ) → n % k ≡ r → n / k + min 1 r ≡ (n + (k - 1)) / k
    go zero e = omega (arith, ap (λ x. x / k) shifted, add-mul-div_left (k - 1) (n / k) l, div-eq_of_lt below)
      where
        below : k - 1 < k
        below = omega arith

        shifted : n + (k - 1) ≡ (k - 1) + k * (n / k)
        shifted = omega arith
    go (suc r) e = omega (arith, ap (λ x. x / k) shifted, add-mul-div_left r (n / k + 1) l, div-eq_of_lt below)
      where
        below : r < k
        below = omega arith

        shifted : n + (k - 1) ≡ r + k * (n / k + 1)
        shifted = omega arith
