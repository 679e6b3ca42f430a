-- Doses: which numbers build one, and what a row means.
use Rattle.std.specs.Prelude.{ℕ, zero, suc, ◌%◌, cond, List, [], ◌∷◌, codes, ℤ, pos, negsuc, Ok, Err, Result, nat_le}
use Rattle.kinds.specs.declared.dose.Dose.{Dose}
use Rattle.kinds.specs.declared.dose.Mark.{Mark}
use Rattle.kinds.specs.declared.dose.Mark.TheVariants.{Dose as Dosed, Flush}
use Rattle.kinds.specs.declared.fault.StoreFault.{StoreFault}
use Rattle.kinds.specs.declared.fault.StoreFault.TheVariants.{BadDose}

-- the marks by their numbers
abbrev pub mark_number : Mark → ℕ
mark_number Dosed = 0
mark_number Flush = 1

-- the mark of a number; any other number than 0 and 1 has none
abbrev pub mark_of : ℤ → Result Mark StoreFault
mark_of (pos zero) = Ok Dosed
mark_of (pos (suc zero)) = Ok Flush
mark_of (pos (suc (suc m))) = Err BadDose
mark_of (negsuc m) = Err BadDose

-- what is printed for a mark
abbrev pub mark_name : Mark → List ℕ
mark_name Dosed = codes "dose"
mark_name Flush = codes "flush"

-- a row's weight in milligrams: its field modulo 10,000,000
abbrev pub dose_weight : Dose → ℕ
dose_weight d = d.milligrams % 10000000

-- the plain part: component, weight and mark
abbrev pub dose_plain : Dose → List ℤ
dose_plain d = pos d.component ∷ (pos (dose_weight d) ∷ (pos (mark_number d.mark) ∷ []))

-- building: a weight of 0 to 9,999,999 and a mark of 0 or 1; the link is nothing
abbrev pub with_mark : ℕ → ℕ → ℤ → Result Dose StoreFault
with_mark c w (pos zero) = Ok (record { next = 0; component = c; milligrams = w; mark = Dosed })
with_mark c w (pos (suc zero)) = Ok (record { next = 0; component = c; milligrams = w; mark = Flush })
with_mark c w (pos (suc (suc m))) = Err BadDose
with_mark c w (negsuc m) = Err BadDose

abbrev pub built : ℕ → ℤ → ℤ → Result Dose StoreFault
built c (pos w) m = cond (nat_le w 9999999) (with_mark c w m) (Err BadDose)
built c (negsuc w) m = Err BadDose
