-- The commands of a sheet: their texts and how many fields each uses.
use Rattle.std.specs.Prelude.{ℕ, List, [], ◌∷◌, codes}
use Rattle.lines.specs.declared.command.Command.{Command}
use Rattle.lines.specs.declared.command.Command.TheVariants.{OpenSnapshot, OpenUpdate, Load, Empty, Copy, Make, Read, Write, Same, Look, Step, Full, Tell}
use Rattle.lines.specs.CommandSets.{Commands}

-- the text of each command in six columns
abbrev pub command_table : List (List ℕ × Command)
command_table =
    (codes "opens ", OpenSnapshot)
    ∷ (codes "openu ", OpenUpdate)
    ∷ (codes "load  ", Load)
    ∷ (codes "empty ", Empty)
    ∷ (codes "copy  ", Copy)
    ∷ (codes "make  ", Make)
    ∷ (codes "read  ", Read)
    ∷ (codes "write ", Write)
    ∷ (codes "same  ", Same)
    ∷ (codes "look  ", Look)
    ∷ (codes "step  ", Step)
    ∷ (codes "full  ", Full)
    ∷ (codes "tell  ", Tell)
    ∷ []

-- how many of the three fields a command uses; they are the first ones
abbrev pub field_count : Command → ℕ
field_count OpenSnapshot = 3
field_count OpenUpdate = 3
field_count Load = 2
field_count Empty = 1
field_count Copy = 2
field_count Make = 3
field_count Read = 3
field_count Write = 3
field_count Same = 2
field_count Look = 1
field_count Step = 0
field_count Full = 0
field_count Tell = 0

abbrev pub commands : Commands Command
commands = record { table = command_table; field_count = field_count }
