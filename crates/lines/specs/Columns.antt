-- A column of ten bytes: a base-ten number right-justified, or ten blanks.
use Rattle.std.specs.Prelude.{◌≡◌, ℕ, zero, suc, ◌+◌, ◌-◌, ◌*◌, Bool, true, cond, ◌&&◌, ◌↔◌, List, [], ◌∷◌, ◌++◌, length, drop, replicate, ℤ, pos, negsuc, Some, None, Option, ◌==◌, nat_eq, nat_le}
use Rattle.std.specs.Fmt.{signed_decimal}
use Rattle.std.specs.List.{prefix_len}
use Rattle.lines.specs.declared.column.Column.{Column}
use Rattle.lines.specs.declared.column.Column.TheVariants.{Blank, Number, NoNumber}

-- how many blanks (byte 32) stand at the front
abbrev pub blanks : List ℕ → ℕ
blanks bs = prefix_len (λ b. nat_eq b 32) bs

-- a byte is a digit, 0 to 9
abbrev pub is_digit : ℕ → Bool
is_digit b = nat_le 48 b && nat_le b 57

-- the number that digits write after those of n, if every byte is a digit
abbrev pub digits_after : ℕ → List ℕ → Option ℕ
digits_after n [] = Some n
digits_after n (b ∷ bs) = cond (is_digit b) (digits_after (n * 10 + (b - 48)) bs) None

-- a number without a sign: one digit at least, and no zero in front of another digit
abbrev pub natural : List ℕ → Option ℕ
natural [] = None
natural (b ∷ []) = digits_after 0 (b ∷ [])
natural (b ∷ c ∷ bs) = cond (b == 48) None (digits_after 0 (b ∷ c ∷ bs))

-- the same as a column
abbrev pub positive : Option ℕ → Column
positive (Some n) = Number (pos n)
positive None = NoNumber

-- behind a minus; 0 has none
abbrev pub negative : Option ℕ → Column
negative (Some zero) = NoNumber
negative (Some (suc n)) = Number (negsuc n)
negative None = NoNumber

-- what stands after the blanks: nothing, or a number with a minus (byte 45) in front if it is below 0
abbrev pub justified : List ℕ → Column
justified [] = Blank
justified (b ∷ bs) = cond (b == 45) (negative (natural bs)) (positive (natural (b ∷ bs)))

-- a row of ten bytes as a column; a row of another length is no number
unfoldable pub column : List ℕ → Column
column row = cond (length row == 10) (justified (drop (blanks row) row)) NoNumber

-- the numbers that a column can hold: −999,999,999 to 9,999,999,999
abbrev pub fits_column : ℤ → Bool
fits_column (pos n) = nat_le n 9999999999
fits_column (negsuc n) = nat_le (n + 1) 999999999

-- the ten bytes of a number: its digits behind blanks
unfoldable pub row_of : ℤ → List ℕ
row_of v = replicate (10 - length (signed_decimal v)) 32 ++ signed_decimal v

-- the row of a number, if it has one
abbrev pub written : ℤ → Option (List ℕ)
written v = cond (fits_column v) (Some (row_of v)) None

-- what reading and writing have to do with each other
pub record ColumnLaws : Type 0 where
  -- a row is read as the number v exactly when v fits a column and the row is the one written for v
  pub number : (row : List ℕ) (v : ℤ) → (column row ≡ Number v) ↔ ((fits_column v ≡ true) × (row ≡ row_of v))
  -- a row is blank exactly when it is ten blanks
  pub blank : (row : List ℕ) → (column row ≡ Blank) ↔ (row ≡ replicate 10 32)
