-- What a column reads is what is written, and nothing else.
use Rattle.std.proofs.Common.{◌≡◌, ℕ, zero, suc, ◌+◌, ◌-◌, ◌/◌, ◌%◌, ◌^◌, ◌<◌, ◌≤◌, true, false, eqb, List, [], ◌∷◌, ◌++◌, length, get_or, take, drop, set, replicate, ℤ, pos, negsuc, nat_abs, Some, None, decimal, Option, sym, refl, ap, ◌∙◌, subst, ⊎_elim, append_assoc, one-add, arith}
use lib.Signed.{lt_z}
use Rattle.std.specs.Fmt.{signed_decimal}
use Rattle.std.proofs.lemmas.Fmt.{decimal_nonempty, decimal_digit, decimal_step, length-decimal-le, first_decimal}
use Rattle.std.proofs.lemmas.List.{length-append, length-replicate, length_push, replicate_more, set_at, set_split, drop_at, take-replicate, drop-set, length-drop}
use Rattle.std.proofs.lemmas.Bool.{leb-true, le-leb, eqb-true, eq-eqb, ne_eqb, cond-true, cond-false, ltb-true, cases_lt, cases_Bool, both_ways}
use Rattle.lines.specs.declared.column.Column.{Column}
use Rattle.lines.specs.declared.column.Column.TheVariants.{Blank, Number, NoNumber}
use Rattle.lines.specs.Columns.{blanks, natural, positive, negative, justified, column, fits_column, row_of, written, ColumnLaws}
use Rattle.lines.proofs.Digits.{natural_decimal, decimal_natural}

-- the blanks at the front, and the rest
padded : (row : List ℕ) → row ≡ replicate (blanks row) 32 ++ drop (blanks row) row
padded [] = refl
padded (b ∷ bs) = ⊎_elim
    (λ yes'.
    let k : blanks (b ∷ bs) ≡ suc (blanks bs) = cond-true _ _ _ yes' ∙ one-add (blanks bs) in
    subst (λ n. b ∷ bs ≡ replicate n 32 ++ drop n (b ∷ bs)) (sym k)
    (ap (λ r. b ∷ r) (padded bs) ∙ ap (λ x. x ∷ (replicate (blanks bs) 32 ++ drop (blanks bs) bs)) (eqb-true b 32 yes')))
    (λ no'.
    let k : blanks (b ∷ bs) ≡ 0 = cond-false _ _ _ no' in
    subst (λ n. b ∷ bs ≡ replicate n 32 ++ drop n (b ∷ bs)) (sym k) refl)
    (cases_Bool (eqb b 32))

-- blanks before a text that begins otherwise
blanks_before : (k : ℕ) (b : ℕ) (bs : List ℕ) → (b ≡ 32 → ⊥) → blanks (replicate k 32 ++ (b ∷ bs)) ≡ k
blanks_before zero b bs other = cond-false _ _ _ (ne_eqb b 32 other)
blanks_before (suc k) b bs other = ap (λ n. 1 + n) (blanks_before k b bs other) ∙ one-add k

-- a text that is a number is the one written for it
number_text : (text : List ℕ) (v : ℤ) → length text ≤ 10 → justified text ≡ Number v → (fits_column v ≡ true) × (text ≡ signed_decimal v)
number_text [] v short e = let z : ◌≡◌ {A = ℕ} 0 1 = cc in absurd (omega arith)
number_text (b ∷ bs) v short e = ⊎_elim
    (λ yes'. below (natural bs) refl (eqb-true b 45 yes') (sym (cond-true _ _ _ yes') ∙ e))
    (λ no'. above (natural (b ∷ bs)) refl (sym (cond-false _ _ _ no') ∙ e))
    (cases_Bool (eqb b 45))
  where
    below : (o : Option ℕ) → natural bs ≡ o → b ≡ 45 → negative o ≡ Number v → (fits_column v ≡ true) × (b ∷ bs ≡ signed_decimal v)
    below None is minus k = let z : ◌≡◌ {A = ℕ} 0 1 = cc in absurd (omega arith)
    below (Some zero) is minus k = let z : ◌≡◌ {A = ℕ} 0 1 = cc in absurd (omega arith)
    below (Some (suc n)) is minus k =
        let at : negsuc n ≡ v = cc in
        let d = decimal_natural bs (suc n) 9 is (omega arith) (omega arith) in
        subst (λ x. (fits_column x ≡ true) × (b ∷ bs ≡ signed_decimal x)) at (le-leb (n + 1) 999999999 (omega (arith, d.1)), cc d.0)

    above : (o : Option ℕ) → natural (b ∷ bs) ≡ o → positive o ≡ Number v → (fits_column v ≡ true) × (b ∷ bs ≡ signed_decimal v)
    above None is k = let z : ◌≡◌ {A = ℕ} 0 1 = cc in absurd (omega arith)
    above (Some n) is k =
        let at : pos n ≡ v = cc in
        let d = decimal_natural (b ∷ bs) n 10 is short (omega arith) in
        subst (λ x. (fits_column x ≡ true) × (b ∷ bs ≡ signed_decimal x)) at (le-leb n 9999999999 (omega (arith, d.1)), sym d.0)

-- a text that is blank is empty
blank_text : (text : List ℕ) → justified text ≡ Blank → text ≡ []
blank_text [] e = refl
blank_text (b ∷ bs) e = ⊎_elim
    (λ yes'. below (natural bs) (sym (cond-true _ _ _ yes') ∙ e))
    (λ no'. above (natural (b ∷ bs)) (sym (cond-false _ _ _ no') ∙ e))
    (cases_Bool (eqb b 45))
  where
    below : (o : Option ℕ) → negative o ≡ Blank → b ∷ bs ≡ []
    below None k = let z : ◌≡◌ {A = ℕ} 0 1 = cc in absurd (omega arith)
    below (Some zero) k = let z : ◌≡◌ {A = ℕ} 0 1 = cc in absurd (omega arith)
    below (Some (suc n)) k = let z : ◌≡◌ {A = ℕ} 0 1 = cc in absurd (omega arith)

    above : (o : Option ℕ) → positive o ≡ Blank → b ∷ bs ≡ []
    above None k = let z : ◌≡◌ {A = ℕ} 0 1 = cc in absurd (omega arith)
    above (Some n) k = let z : ◌≡◌ {A = ℕ} 0 1 = cc in absurd (omega arith)

-- the first byte of a number without a sign is a digit
decimal_first : (n : ℕ) → n < 2 ^ 64 → 48 ≤ get_or (decimal n) 0 0
decimal_first n h = ⊎_elim
    (λ some. omega (arith, first_decimal n some h))
    (λ none. let e : get_or (decimal n) 0 0 ≡ 48 + n = ap (λ ds. get_or ds 0 0) (decimal_digit n (omega arith)) in omega arith)
    (cases_lt 0 n)

justified_plain : (ds : List ℕ) → 0 < length ds → 48 ≤ get_or ds 0 0 → justified ds ≡ positive (natural ds)
justified_plain [] some first = absurd (omega arith)
justified_plain (b ∷ bs) some first = cond-false _ _ _ (ne_eqb b 45 (λ e. omega arith))

-- the text of a number that fits is read as that number
pub text_number : (v : ℤ) → fits_column v ≡ true → justified (signed_decimal v) ≡ Number v
text_number (pos n) fits =
    let h : n < 2 ^ 64 = omega (arith, leb-true n 9999999999 fits) in
    justified_plain (decimal n) (decimal_nonempty n h) (decimal_first n h) ∙ ap positive (natural_decimal n h)
text_number (negsuc n) fits = ap negative (natural_decimal (suc n) (omega (arith, leb-true (n + 1) 999999999 fits)))

pub length_signed : (v : ℤ) → fits_column v ≡ true → length (signed_decimal v) ≤ 10
length_signed (pos n) fits = let h = leb-true n 9999999999 fits in length-decimal-le 10 n (omega arith) (omega arith) (omega arith)
length_signed (negsuc n) fits =
    let h = leb-true (n + 1) 999999999 fits in
    omega (arith, length-decimal-le 9 (suc n) (omega arith) (omega arith) (omega arith))

pub length_row : (v : ℤ) → fits_column v ≡ true → length (row_of v) ≡ 10
unfolding row_of
length_row v fits = length-append (replicate (10 - length (signed_decimal v)) 32) (signed_decimal v) ∙ omega (arith, length-replicate {A = ℕ} (10 - length (signed_decimal v)) 32, length_signed v fits)

-- the text of a row
signed_first : (v : ℤ) → fits_column v ≡ true → (0 < length (signed_decimal v)) × (get_or (signed_decimal v) 0 0 ≡ 32 → ⊥)
signed_first (pos n) fits =
    let h : n < 2 ^ 64 = omega (arith, leb-true n 9999999999 fits) in
    (decimal_nonempty n h, λ e. omega (arith, decimal_first n h))
signed_first (negsuc n) fits = (omega arith, λ e. omega arith)

row_text : (k : ℕ) (text : List ℕ) → 0 < length text → (get_or text 0 0 ≡ 32 → ⊥) → drop (blanks (replicate k 32 ++ text)) (replicate k 32 ++ text) ≡ text
row_text k [] some first = absurd (omega arith)
row_text k (b ∷ bs) some first =
    ap (λ n. drop n (replicate k 32 ++ (b ∷ bs))) (blanks_before k b bs first) ∙ drop_at (replicate k 32) (b ∷ bs) k (length-replicate k 32)

pub column_row : (v : ℤ) → fits_column v ≡ true → column (row_of v) ≡ Number v
unfolding column row_of
column_row v fits =
    let t = signed_first v fits in
    cond-true _ _ _ (eq-eqb (length (row_of v)) 10 (length_row v fits)) ∙ ap justified (row_text (10 - length (signed_decimal v)) (signed_decimal v) t.0 t.1) ∙ text_number v fits

-- a row that is read as something has ten bytes, and its text is read as that
ten_bytes : (row : List ℕ) (x : Column) → (NoNumber ≡ x → ⊥) → column row ≡ x → (length row ≡ 10) × (justified (drop (blanks row) row) ≡ x)
unfolding column
ten_bytes row x some e = ⊎_elim
    (λ yes'. (eqb-true (length row) 10 yes', sym (cond-true _ _ _ yes') ∙ e))
    (λ no'. absurd (some (sym (cond-false _ _ _ no') ∙ e)))
    (cases_Bool (eqb (length row) 10))

-- a row of ten bytes with that text
row_from_text : (row text : List ℕ) → length row ≡ 10 → drop (blanks row) row ≡ text → row ≡ replicate (10 - length text) 32 ++ text
row_from_text row text ten e =
    let whole : row ≡ replicate (blanks row) 32 ++ text = padded row ∙ ap (λ t. replicate (blanks row) 32 ++ t) e in
    let long : length row ≡ length (replicate {A = ℕ} (blanks row) 32) + length text = ap length whole ∙ length-append (replicate (blanks row) 32) text in
    let k : blanks row ≡ 10 - length text = omega (arith, length-replicate {A = ℕ} (blanks row) 32) in
    subst (λ n. row ≡ replicate n 32 ++ text) k whole

row_read : (row : List ℕ) (v : ℤ) → column row ≡ Number v → (fits_column v ≡ true) × (row ≡ row_of v)
unfolding row_of
row_read row v e =
    let p = ten_bytes row (Number v) (λ k. let z : ◌≡◌ {A = ℕ} 0 1 = cc in omega arith) e in
    let n = number_text (drop (blanks row) row) v (omega (arith, length-drop (blanks row) row)) p.1 in
    (n.0, row_from_text row (signed_decimal v) p.0 n.1)

blank_read : (row : List ℕ) → column row ≡ Blank → row ≡ replicate 10 32
blank_read row e =
    let p = ten_bytes row Blank (λ k. let z : ◌≡◌ {A = ℕ} 0 1 = cc in omega arith) e in
    row_from_text row [] p.0 (blank_text (drop (blanks row) row) p.1)

column_blank : column (replicate 10 32) ≡ Blank
unfolding column
column_blank = refl

pub column_laws : ColumnLaws
column_laws = record {
  number = λ row v. (row_read row v, λ p. ap column p.1 ∙ column_row v p.0);
  blank = λ row. (blank_read row, λ e. ap column e ∙ column_blank);
}

-- one digit more at the left
module _ (row ds : List ℕ) (at rest : ℕ) (within : at ≤ length row) (room : length (decimal rest) ≤ at) (small : rest < 2 ^ 64) (so_far : decimal rest ++ drop at row ≡ ds) where
  before : 1 ≤ at
  before = omega (arith, decimal_nonempty rest small)

  digit_put : (d : ℕ) → drop (at - 1) (set row (at - 1) d) ≡ d ∷ drop at row
  digit_put d = drop-set row (at - 1) d (omega (arith, before)) ∙ ap (λ k. d ∷ drop k row) (omega (arith, before))

  pub digits_left : 10 ≤ rest → (decimal (rest / 10) ++ drop (at - 1) (set row (at - 1) (48 + rest % 10)) ≡ ds) × (length (decimal (rest / 10)) ≤ at - 1)
  digits_left more =
      let d : ℕ = 48 + rest % 10 in
      let one = decimal_step rest more small in
      let long : length (decimal rest) ≡ length (decimal (rest / 10)) + 1 = ap length one ∙ length_push (decimal (rest / 10)) d in (
        ap (λ l. decimal (rest / 10) ++ l) (digit_put d) ∙ sym (append_assoc (decimal (rest / 10)) (d ∷ []) (drop at row)) ∙ ap (λ l. l ++ drop at row) (sym one) ∙ so_far,
        omega arith,
      )

  pub digits_end : rest < 10 → (set row (at - 1) (48 + rest) ≡ take (at - 1) row ++ ds) × (at - 1 ≡ length row - length ds)
  digits_end last =
      let d : ℕ = 48 + rest in
      let all : d ∷ drop at row ≡ ds = ap (λ l. l ++ drop at row) (sym (decimal_digit rest last)) ∙ so_far in
      let i : suc (at - 1) ≡ at = omega (arith, before) in (
        set_split row (at - 1) d (omega (arith, before)) ∙ ap (λ k. take (at - 1) row ++ (d ∷ drop k row)) i ∙ ap (λ l. take (at - 1) row ++ l) all,
        omega (arith, before, ap length all, length-drop at row),
      )

-- the minus goes before the digits
minus_put : (k : ℕ) (ds : List ℕ) → set (replicate (k + 1) 32 ++ ds) k 45 ≡ replicate k 32 ++ (45 ∷ ds)
minus_put k ds =
    ap (λ l. set l k 45) (ap (λ l. l ++ ds) (sym (replicate_more k 32)) ∙ append_assoc (replicate k 32) (32 ∷ []) ds) ∙ set_at (replicate k 32) 32 ds 45 k (length-replicate k 32)

digits_row : (n : ℕ) (row : List ℕ) → row ≡ take (10 - length (decimal n)) (replicate 10 32) ++ decimal n → row ≡ replicate (10 - length (decimal n)) 32 ++ decimal n
digits_row n row e = e ∙ ap (λ l. l ++ decimal n) (take-replicate (10 - length (decimal n)) 10 32 (omega arith))

-- the digits of a number that fits: at most ten, and at most nine behind a minus
pub digits_room : (v : ℤ) → fits_column v ≡ true → (length (decimal (nat_abs v)) ≤ 10) × (lt_z v (pos 0) ≡ true → length (decimal (nat_abs v)) ≤ 9)
digits_room (pos n) fits = (length_signed (pos n) fits, λ e. absurd (omega (arith, ltb-true n 0 e)))
digits_room (negsuc n) fits = let h = length_signed (negsuc n) fits in (omega arith, λ e. omega arith)

pub negative_row : (v : ℤ) (row : List ℕ) → fits_column v ≡ true → lt_z v (pos 0) ≡ true → row ≡ take (10 - length (decimal (nat_abs v))) (replicate 10 32) ++ decimal (nat_abs v) → Some (set row (10 - length (decimal (nat_abs v)) - 1) 45) ≡ written v
unfolding row_of
negative_row (pos n) row fits below e = absurd (omega (arith, ltb-true n 0 below))
negative_row (negsuc n) row fits below e =
    let ds : List ℕ = decimal (suc n) in
    let short : suc (length ds) ≤ 10 = length_signed (negsuc n) fits in
    let k : ℕ = 10 - suc (length ds) in
    let more : 10 - length ds ≡ k + 1 = omega arith in
    let at : 10 - length ds - 1 ≡ k = omega arith in
    let whole : row ≡ replicate (k + 1) 32 ++ ds = digits_row (suc n) row e ∙ ap (λ m. replicate m 32 ++ ds) more in
    ap Some (ap (λ m. set row m 45) at ∙ ap (λ l. set l k 45) whole ∙ minus_put k ds) ∙ sym (cond-true _ _ _ fits)

pub positive_row : (v : ℤ) (row : List ℕ) → fits_column v ≡ true → lt_z v (pos 0) ≡ false → row ≡ take (10 - length (decimal (nat_abs v))) (replicate 10 32) ++ decimal (nat_abs v) → Some row ≡ written v
unfolding row_of
positive_row (pos n) row fits above e = ap Some (digits_row n row e) ∙ sym (cond-true _ _ _ fits)
positive_row (negsuc n) row fits above e = absurd (both_ways true above refl)
