-- Worked cases about words; the table of all worked cases takes them over.
use Rattle.std.specs.Prelude.{◌≡◌, pos, negsuc, Some, None}
use Rattle.words.specs.declared.word.Word.TheVariants.{Number, Nursery, Slot}
use Rattle.words.specs.Words.{meaning, encoded}

pub record WordCases : Type 0 where
  pub zero_is : encoded (Number (pos 0)) ≡ Some 1
  pub minus_one : encoded (Number (negsuc 0)) ≡ Some 4294967293
  pub greatest : encoded (Number (pos 536870911)) ≡ Some 2147483645
  pub least : encoded (Number (negsuc 536870911)) ≡ Some 2147483649
  pub first_place : encoded (Nursery 0) ≡ Some 2
  pub slot_three : encoded (Slot 3) ≡ Some 15
  pub four : meaning 4 ≡ None
