-- The refusals of the sheet: number, layer, column and words; and why a program ends, in words.
use Rattle.std.specs.Prelude.{ℕ, List, Some, None, Option, codes}
use Rattle.kinds.specs.Faults.{store_refusal, store_refusal_text}
use Rattle.kinds.specs.declared.fault.StoreFault.{StoreFault}
use Rattle.kinds.specs.declared.fault.StoreFault.TheVariants.{SizeOutOfRange, TableShort, NoSuchRegister, Word, NoSuchLink, WrongLinkCount, BadDose, Closed, NoRecord, NurseryFull, NoRoom, NotesFull, EndlessChain}
use Rattle.answering.specs.declared.fault.SheetFault.{SheetFault}
use Rattle.answering.specs.declared.fault.SheetFault.TheVariants.{Format, OutOfTurn, Store}
use Rattle.answering.specs.declared.program.ProgramFault.{ProgramFault}
use Rattle.answering.specs.declared.program.ProgramFault.TheVariants.{Stream, Row}
use Rattle.lines.specs.Answers.{row_fault_text}
use Rattle.lines.specs.Requests.{format_refusal, format_column, format_text}

-- the number: a refusal of the store keeps its own
abbrev pub sheet_refusal : SheetFault → ℕ
sheet_refusal (Format e) = format_refusal e
sheet_refusal OutOfTurn = 34
sheet_refusal (Store e) = store_refusal e

-- the layer of a refusal of the store: 3 where the word layer refused, else 2
abbrev pub store_layer : StoreFault → ℕ
store_layer SizeOutOfRange = 2
store_layer TableShort = 2
store_layer NoSuchRegister = 2
store_layer (Word e) = 3
store_layer NoSuchLink = 2
store_layer WrongLinkCount = 2
store_layer BadDose = 2
store_layer Closed = 2
store_layer NoRecord = 2
store_layer NurseryFull = 2
store_layer NoRoom = 2
store_layer NotesFull = 2
store_layer EndlessChain = 2

-- the layer: 1 the sheet, 2 the store, 3 the words
abbrev pub sheet_layer : SheetFault → ℕ
sheet_layer (Format e) = 1
sheet_layer OutOfTurn = 1
sheet_layer (Store e) = store_layer e

-- the first offending field, 1 to 3, or 0
abbrev pub sheet_column : SheetFault → ℕ
sheet_column (Format e) = format_column e
sheet_column OutOfTurn = 0
sheet_column (Store e) = 0

-- the refusal in words, those of the lines or of the store where it carries one of theirs
abbrev pub sheet_text : SheetFault → List ℕ
sheet_text (Format e) = format_text e
sheet_text OutOfTurn = codes "a call before an accepted open, or an open after one"
sheet_text (Store e) = store_refusal_text e

-- why a program ends, in words; what a stream's error says is the system's
abbrev pub program_text : ProgramFault → Option (List ℕ)
program_text (Stream e) = None
program_text (Row e) = Some (row_fault_text e)
