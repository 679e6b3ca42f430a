-- Digits that are read one by one, and what they write.
use Rattle.std.proofs.Common.{◌≡◌, ℕ, ◌+◌, ◌-◌, ◌*◌, ◌^◌, ◌<◌, ◌≤◌, true, eqb, leb, List, [], ◌∷◌, length, get_or, Some, None, decimal, sym, refl, ap, ◌∙◌, ⊎_elim, arith}
use native.Mathlib.Nat.{pow-le-pow_right}
use Rattle.std.specs.Str.Parse.{AllDigits, digits_value, digits_value_after}
use Rattle.std.specs.Int.{IsInRange}
use Rattle.std.specs.Char.{digit_value}
use Rattle.std.proofs.lemmas.Fmt.{decimal_is_IsNumeral, decimal-digits_value, decimal_digit, first_decimal, decimal_nonempty}
use Rattle.std.proofs.lemmas.Int.Digits.{digits_value-lt}
use Rattle.std.proofs.lemmas.Str.Parse.{IsNumeralModel, tells_digits, numerals_by_value}
use Rattle.std.proofs.lemmas.Bool.{leb-true, le-leb, and_parts, and_from, eqb-false, ne_eqb, cond-true, cond-false, lt-ltb, le-ltb, cases_lt, cases_Bool}
use Rattle.lines.specs.Columns.{is_digit, digits_after, natural}

digit_yes : (b : ℕ) → 48 ≤ b → b ≤ 57 → is_digit b ≡ true
digit_yes b low high = and_from (leb 48 b) (leb b 57) (le-leb 48 b low) (le-leb b 57 high)

pub digit_range : (b : ℕ) → is_digit b ≡ true → IsInRange 48 57 b
digit_range b e = let p = and_parts (leb 48 b) (leb b 57) e in (leb-true 48 b p.0, leb-true b 57 p.1)

-- std's words for the same
digit_back : (b : ℕ) → IsInRange 48 57 b → digit_value b ≡ b - 48
digit_back b (low, high) = cond-false _ _ _ (le-ltb b 48 low) ∙ cond-true _ _ _ (lt-ltb b 58 (omega arith))

own : IsNumeralModel (AllDigits 10) (digits_value 10)
own = numerals_by_value (AllDigits 10) tells_digits

from_digits : (n : ℕ) (ds : List ℕ) → AllDigits 10 ds → digits_after n ds ≡ Some (digits_value_after 10 n ds)
from_digits n [] d = refl
from_digits n (b ∷ bs) d =
    let p = tells_digits.parts b bs d in
    cond-true _ _ _ (digit_yes b p.0.0 p.0.1) ∙ from_digits (n * 10 + (b - 48)) bs p.1 ∙ ap (λ x. Some (digits_value_after 10 (n * 10 + x) bs)) (sym (digit_back b p.0))

to_digits : (n : ℕ) (ds : List ℕ) (v : ℕ) → digits_after n ds ≡ Some v → AllDigits 10 ds × (v ≡ digits_value_after 10 n ds)
to_digits n [] v e = (tt, cc)
to_digits n (b ∷ bs) v e = ⊎_elim
    (λ yes'.
    let in' = digit_range b yes' in
    let r = to_digits (n * 10 + (b - 48)) bs v (sym (cond-true _ _ _ yes') ∙ e) in
    (tells_digits.more b bs in' r.0, r.1 ∙ ap (λ x. digits_value_after 10 (n * 10 + x) bs) (sym (digit_back b in'))))
    (λ no'. let clash : None ≡ Some v = sym (cond-false _ _ _ no') ∙ e in let z : ◌≡◌ {A = ℕ} 0 1 = cc in absurd (omega arith))
    (cases_Bool (is_digit b))

-- digits with no zero in front of another digit
abbrev Plain : List ℕ → Type 0
Plain ds = (0 < length ds) × (get_or ds 0 0 ≡ 48 → length ds ≡ 1)

natural_plain : (ds : List ℕ) → Plain ds → natural ds ≡ digits_after 0 ds
natural_plain [] (some, first) = absurd (omega arith)
natural_plain (b ∷ []) (some, first) = refl
natural_plain (b ∷ c ∷ bs) (some, first) = cond-false _ _ _ (ne_eqb b 48 (λ e. omega (arith, first e)))

plain_natural : (ds : List ℕ) (n : ℕ) → natural ds ≡ Some n → Plain ds × (digits_after 0 ds ≡ Some n)
plain_natural [] n e = let z : ◌≡◌ {A = ℕ} 0 1 = cc in absurd (omega arith)
plain_natural (b ∷ []) n e = ((omega arith, λ _. refl), e)
plain_natural (b ∷ c ∷ bs) n e = ⊎_elim
    (λ yes'. let clash : None ≡ Some n = sym (cond-true _ _ _ yes') ∙ e in let z : ◌≡◌ {A = ℕ} 0 1 = cc in absurd (omega arith))
    (λ no'. ((omega arith, λ is. absurd (eqb-false b 48 no' is)), sym (cond-false _ _ _ no') ∙ e))
    (cases_Bool (eqb b 48))

-- a number as it is written is read back
pub natural_decimal : (n : ℕ) → n < 2 ^ 64 → natural (decimal n) ≡ Some n
natural_decimal n h =
    let r = decimal_is_IsNumeral n h in
    let first : get_or (decimal n) 0 0 ≡ 48 → length (decimal n) ≡ 1 = λ e. ⊎_elim
    (λ some. absurd (omega (arith, first_decimal n some h)))
    (λ none. ap length (decimal_digit n (omega arith)))
    (cases_lt 0 n) in
    natural_plain (decimal n) (decimal_nonempty n h, first) ∙ from_digits 0 (decimal n) r.0.1 ∙ ap Some r.1

-- what is read is what is written of the number
pub decimal_natural : (ds : List ℕ) (n k : ℕ) → natural ds ≡ Some n → length ds ≤ k → k ≤ 10 → (decimal n ≡ ds) × (n < 10 ^ k)
decimal_natural ds n k e short ten =
    let p = plain_natural ds n e in
    let d = to_digits 0 ds n p.1 in
    let low : digits_value 10 ds < 10 ^ length ds = digits_value-lt 10 ds d.0 in
    let high : 10 ^ length ds ≤ 10 ^ k = pow-le-pow_right {n = 10} (omega arith) short in
    let top : 10 ^ k ≤ 10 ^ 10 = pow-le-pow_right {n = 10} (omega arith) ten in
    (ap decimal d.1 ∙ decimal-digits_value own ds d.0 p.0.0 p.0.1 (omega arith), omega (arith, d.1))
