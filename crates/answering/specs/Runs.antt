-- Typed results of a line, as replies and as the five numbers of an answer.
use Rattle.std.specs.Prelude.{◌≡◌, ℕ, Bool, true, false, List, [], ◌∷◌, ◌++◌, ℤ, pos, Ok, Err, Result, Some, None, Option}
use Rattle.rules.specs.Rules.{Barrier, snapshot, update}
use Rattle.lines.specs.declared.answer.RowFault.{RowFault}
use Rattle.lines.specs.declared.answer.RowFault.TheVariants.{NoMemory}
use Rattle.lines.specs.Answers.{row_bytes}
use Rattle.lines.specs.Lines.{lines}
use Rattle.answering.specs.declared.fault.SheetFault.{SheetFault}
use Rattle.answering.specs.declared.run.Opening.{Opening}
use Rattle.answering.specs.declared.session.Session.{Session}
use Rattle.answering.specs.declared.sheet.OpenedWith.{OpenedWith}
use Rattle.answering.specs.declared.sheet.OpenedWith.TheVariants.{Snapshot, Update}
use Rattle.answering.specs.declared.values.Values.{Values}
use Rattle.answering.specs.Faults.{sheet_refusal, sheet_layer, sheet_column}
use Rattle.answering.specs.Sheets.{SheetRules, SheetState, waiting, Reply, declined, Order, state_opened, reply_opened, opening, calling, sizes_asked, row_of_reply, next_line, written_for}

-- 0 and four values, or the refusal with line n
abbrev pub row_of_result : ℕ → Result Values SheetFault → List ℤ
row_of_result n (Ok values) = pos 0 ∷ values.numbers
row_of_result n (Err e) = pos (sheet_refusal e) ∷ (pos n ∷ (pos (sheet_layer e) ∷ (pos (sheet_column e) ∷ (pos 0 ∷ []))))

-- the answers of the barrier that a store is opened with
abbrev pub barrier_of : OpenedWith → Barrier
barrier_of Snapshot = snapshot
barrier_of Update = update

-- an order to open a store
abbrev pub asks_open : Order → Bool
asks_open (opening b z) = true
asks_open (calling c) = false

-- a command that opens a store with a barrier, or one that asks for calls
abbrev pub Opens : Option OpenedWith → (ℤ → ℤ → ℤ → Order) → Type 0
Opens (Some w) order = (s y k : ℤ) → order s y k ≡ opening (barrier_of w) (sizes_asked s y k)
Opens None order = (s y k : ℤ) → asks_open (order s y k) ≡ false

-- what an open leaves and is told
abbrev pub state_after_opening : SheetRules → Opening → SheetState
state_after_opening rules o = state_opened (barrier_of o.barrier) (rules.opened o.sizes)

abbrev pub reply_to_opening : SheetRules → Opening → Reply
reply_to_opening rules o = reply_opened (rules.opened o.sizes)

-- the same for a line that asks for an open or is refused
abbrev pub state_after_asked : SheetRules → Result Opening SheetFault → SheetState
state_after_asked rules (Ok o) = state_after_opening rules o
state_after_asked rules (Err e) = waiting

abbrev pub reply_to_asked : SheetRules → Result Opening SheetFault → Reply
reply_to_asked rules (Ok o) = reply_to_opening rules o
reply_to_asked rules (Err e) = declined (sheet_refusal e) (sheet_layer e) (sheet_column e)

-- what is written for line n with this reply, and then for the lines after it, which find this state
abbrev pub written_after : SheetRules → Reply → SheetState → ℕ → List (List ℕ) → List ℕ
written_after rules reply s n rest = row_bytes (row_of_reply n reply) ++ written_for rules s (next_line n) rest

-- a line before an accepted open was answered, with this result: all is written if it started the run, and else what is
-- written and what the lines that are left give are all, and these lines are as they were
abbrev pub Answered : SheetRules → Result Bool RowFault → List ℕ → Session → Session → Type 0
Answered rules (Ok true) all old new = new.out.items ≡ all
Answered rules (Ok false) all old new = (new.out.items ++ written_for rules waiting new.number (lines new.rest.now) ≡ all) × (new.rest.now ≡ old.rest.now)
Answered rules (Err e) all old new = e ≡ NoMemory
