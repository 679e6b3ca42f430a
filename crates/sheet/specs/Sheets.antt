-- The sheet of registers: what each command asks for, and what is written for an input.
use Rattle.std.specs.Prelude.{ℕ, List, ℤ}
use Rattle.rules.specs.Rules.{load, empty, copy, same, look, snapshot, update}
use Rattle.registers.specs.declared.sizes.Sizes.{Sizes}
use Rattle.registers.specs.State.{State, opened}
use Rattle.answering.specs.Sheets.{Order, opening, calling, SheetRules, rules_by, register_count, sizes_asked, sheet_output as output_by}
use Rattle.sheet.specs.Commands.{commands}
use Rattle.sheet.specs.declared.command.Command.{Command}
use Rattle.sheet.specs.declared.command.Command.TheVariants.{OpenSnapshot, OpenUpdate, Load, Empty, Copy, Same, Look}

-- what a command with its three numbers asks for; a number that it does not use is passed over
abbrev pub order : Command → ℤ → ℤ → ℤ → Order
order OpenSnapshot a b c = opening snapshot (sizes_asked a b c)
order OpenUpdate a b c = opening update (sizes_asked a b c)
order Load a b c = calling (load a b)
order Empty a b c = calling (empty a)
order Copy a b c = calling (copy a b)
order Same a b c = calling (same a b)
order Look a b c = calling (look a)

-- what a store opened with sizes holds, over as many registers as the sheet supplies
abbrev pub registers_opened : Sizes → State
registers_opened z = opened z register_count

abbrev pub rules : SheetRules
rules = rules_by commands order registers_opened

-- what is written for an input
abbrev pub sheet_output : List ℕ → List ℕ
sheet_output input = output_by rules input
