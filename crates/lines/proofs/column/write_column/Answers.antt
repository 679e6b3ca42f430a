use Rattle.std.proofs.Common.{◌≡◌, ℕ, ◌-◌, ◌≤◌, true, false, List, ◌++◌, length, take, set, replicate, ℤ, pos, nat_abs, Some, decimal, sym, ap, ◌∙◌, arith, w64}
use lib.Signed.{lt_z}
use Rattle.std.proofs.lemmas.Int.{to_z-of_z}
use Rattle.lines.specs.Columns.{fits_column, written}
use Rattle.lines.proofs.Columns.{digits_room, negative_row, positive_row}
use Rattle.lines.proofs.column.write_column.Goals as goal

-- the calls are made with z, a number's bits read again, which is the number v
module _ (v z : ℤ) (same : z ≡ v) (fits : true ≡ fits_column z) (n : ℕ) (size : n ≡ nat_abs z) where
  room : length (decimal n) ≤ 10
  room = omega (arith, (digits_room z (sym fits)).0, ap (λ m. length (decimal m)) size)

  sign_room : lt_z z (pos 0) ≡ true → length (decimal n) ≤ 9
  sign_room below = omega (arith, (digits_room z (sym fits)).1 below, ap (λ m. length (decimal m)) size)

  module _ (row : List ℕ) (put : row ≡ take (10 - length (decimal n)) (replicate 10 32) ++ decimal n) where
    digits : row ≡ take (10 - length (decimal (nat_abs z))) (replicate 10 32) ++ decimal (nat_abs z)
    digits = put ∙ ap (λ m. take (10 - length (decimal m)) (replicate 10 32) ++ decimal m) size

    below_0 : (first : ℕ) → first ≡ 10 - length (decimal n) → lt_z z (pos 0) ≡ true → Some (set row (first - 1) 45) ≡ written v
    below_0 first at below =
        ap (λ k. Some (set row (k - 1) 45)) (at ∙ ap (λ m. 10 - length (decimal m)) size) ∙ negative_row z row (sym fits) below digits ∙ ap written same

    from_0 : lt_z z (pos 0) ≡ false → Some row ≡ written v
    from_0 above = positive_row z row (sym fits) above digits ∙ ap written same

pub write_digits-first-requires : goal.write_digits-first-requires
write_digits-first-requires c = room c.args.v _ (to_z-of_z w64 c.args.v c.ranges.v) c.if-not-is_in_range.ensures c.unsigned_abs.result c.unsigned_abs.ensures.value

pub overflow_sub-row : goal.overflow_sub-row
overflow_sub-row c =
    let short = sign_room c.args.v _ (to_z-of_z w64 c.args.v c.ranges.v) c.if-not-is_in_range.ensures c.unsigned_abs.result c.unsigned_abs.ensures.value c.if-v-lt0.true in
    omega (arith, short, c.write_digits-first.ensures.first)

pub returns-then-v-lt0 : goal.returns-then-v-lt0
returns-then-v-lt0 c =
    below_0 c.args.v _ (to_z-of_z w64 c.args.v c.ranges.v) c.if-not-is_in_range.ensures c.unsigned_abs.result c.unsigned_abs.ensures.value
    c.write_digits-first.new.row c.write_digits-first.ensures.after c.write_digits-first.result c.write_digits-first.ensures.first c.if-v-lt0.true

pub returns-else-v-lt0 : goal.returns-else-v-lt0
returns-else-v-lt0 c =
    from_0 c.args.v _ (to_z-of_z w64 c.args.v c.ranges.v) c.if-not-is_in_range.ensures c.unsigned_abs.result c.unsigned_abs.ensures.value
    c.write_digits-first.new.row c.write_digits-first.ensures.after c.if-v-lt0.false
