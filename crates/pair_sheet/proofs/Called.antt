-- The calls of a sheet: refusals of the store as rows, and numbers that are passed on.
use Rattle.std.proofs.Common.{◌≡◌, ℕ, ℤ, Err, refl, ap, ◌∙◌, w64, SFits, to_z, of_z}
use Rattle.std.proofs.lemmas.Int.{to_z-of_z}
use Rattle.words.specs.declared.fault.WordFault.TheVariants.{NumberOutOfRange}
use Rattle.rules.specs.Rules.{write, refused}
use Rattle.kinds.specs.Faults.{store_refusal}
use Rattle.kinds.specs.declared.fault.StoreFault.{StoreFault}
use Rattle.kinds.specs.declared.fault.StoreFault.TheVariants.{SizeOutOfRange, TableShort, NoSuchRegister, Word, NoSuchLink, WrongLinkCount, BadDose, Closed, NoRecord, NurseryFull, NoRoom, NotesFull, EndlessChain}
use Rattle.answering.specs.declared.fault.SheetFault.TheVariants.{Store}
use Rattle.answering.specs.Runs.{row_of_result}
use Rattle.answering.specs.Sheets.{reply_of, row_of_reply}

-- the row of a refusal: only 4 is one of the word layer
pub refusal_row : (e : StoreFault) (n : ℕ) → row_of_result n (Err (Store e)) ≡ row_of_reply n (reply_of (refused (store_refusal e)))
refusal_row SizeOutOfRange n = refl
refusal_row TableShort n = refl
refusal_row NoSuchRegister n = refl
refusal_row (Word NumberOutOfRange) n = refl
refusal_row NoSuchLink n = refl
refusal_row WrongLinkCount n = refl
refusal_row BadDose n = refl
refusal_row Closed n = refl
refusal_row NoRecord n = refl
refusal_row NurseryFull n = refl
refusal_row NoRoom n = refl
refusal_row NotesFull n = refl
refusal_row EndlessChain n = refl

-- a write whose numbers were passed on as 64-bit ones
pub write_passed : (s k t : ℤ) → SFits w64 s → SFits w64 k → SFits w64 t → write (to_z w64 (of_z w64 s)) (to_z w64 (of_z w64 k)) (to_z w64 (of_z w64 t)) ≡ write s k t
write_passed s k t fs fk ft = ap (λ x. write x (to_z w64 (of_z w64 k)) (to_z w64 (of_z w64 t))) (to_z-of_z w64 s fs) ∙ ap (λ x. write s x (to_z w64 (of_z w64 t))) (to_z-of_z w64 k fk) ∙ ap (write s k) (to_z-of_z w64 t ft)
