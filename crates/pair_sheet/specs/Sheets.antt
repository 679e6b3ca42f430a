-- The sheet of pairs: what each command asks for, and what is written for an input.
use Rattle.std.specs.Prelude.{ℕ, List, [], ◌∷◌, ℤ}
use Rattle.rules.specs.Rules.{load, empty, copy, make, read, write, same, look, step, full, tell, snapshot, update}
use Rattle.lines.specs.Commands.{commands}
use Rattle.lines.specs.declared.command.Command.{Command}
use Rattle.lines.specs.declared.command.Command.TheVariants.{OpenSnapshot, OpenUpdate, Load, Empty, Copy, Make, Read, Write, Same, Look, Step, Full, Tell}
use Rattle.answering.specs.Sheets.{Order, opening, calling, SheetRules, SheetState, rules_by, sizes_asked, state_after_line as state_by_line, sheet_output as output_by}
use Rattle.pair_sheet.specs.Pairs.{pairs_opened}

-- what a command with its three numbers asks for; a number that it does not use is passed over
abbrev pub order : Command → ℤ → ℤ → ℤ → Order
order OpenSnapshot a b c = opening snapshot (sizes_asked a b c)
order OpenUpdate a b c = opening update (sizes_asked a b c)
order Load a b c = calling (load a b)
order Empty a b c = calling (empty a)
order Copy a b c = calling (copy a b)
order Make a b c = calling (make a [] (b ∷ (c ∷ [])))
order Read a b c = calling (read a b c)
order Write a b c = calling (write a b c)
order Same a b c = calling (same a b)
order Look a b c = calling (look a)
order Step a b c = calling step
order Full a b c = calling full
order Tell a b c = calling tell

abbrev pub rules : SheetRules
rules = rules_by commands order pairs_opened

-- the state after a line
abbrev pub state_after_line : SheetState → List ℕ → SheetState
state_after_line s line = state_by_line rules s line

-- what is written for an input
abbrev pub sheet_output : List ℕ → List ℕ
sheet_output input = output_by rules input
