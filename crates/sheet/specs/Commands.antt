-- The commands of a sheet of registers: their texts and how many fields each uses.
use Rattle.std.specs.Prelude.{ℕ, List, [], ◌∷◌, codes}
use Rattle.lines.specs.CommandSets.{Commands}
use Rattle.sheet.specs.declared.command.Command.{Command}
use Rattle.sheet.specs.declared.command.Command.TheVariants.{OpenSnapshot, OpenUpdate, Load, Empty, Copy, Same, Look}

-- the text of each command in six columns
abbrev pub command_table : List (List ℕ × Command)
command_table =
    (codes "opens ", OpenSnapshot)
    ∷ (codes "openu ", OpenUpdate)
    ∷ (codes "load  ", Load)
    ∷ (codes "empty ", Empty)
    ∷ (codes "copy  ", Copy)
    ∷ (codes "same  ", Same)
    ∷ (codes "look  ", Look)
    ∷ []

-- how many of the three fields a command uses; they are the first ones
abbrev pub field_count : Command → ℕ
field_count OpenSnapshot = 3
field_count OpenUpdate = 3
field_count Load = 2
field_count Empty = 1
field_count Copy = 2
field_count Same = 2
field_count Look = 1

abbrev pub commands : Commands Command
commands = record { table = command_table; field_count = field_count }
