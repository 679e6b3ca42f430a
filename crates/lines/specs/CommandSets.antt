-- Sets of commands: the text of each command and how many fields it uses.
use Rattle.std.specs.Prelude.{ℕ, Bool, ◌&&◌, List, length, Option, ◌==◌}
use Rattle.std.specs.List.{find, list_all}
use Rattle.std.specs.Option.{option_map}
use Rattle.std.specs.Str.{bytes_eq}
use Rattle.lines.specs.Lines.{printable}

-- the text of each command, and how many of the three fields a command uses; they are the first ones
pub record Commands (C : Type 0) : Type 0 where
  pub table : List (List ℕ × C)
  pub field_count : C → ℕ

-- the command of the first row with this text
abbrev pub command_in : {C : Type 0} → List (List ℕ × C) → List ℕ → Option C
command_in rows name = option_map (λ row. row.1) (find (λ row. bytes_eq name row.0) rows)

-- the command with this text
unfoldable pub command_named : {C : Type 0} → Commands C → List ℕ → Option C
command_named set name = command_in set.table name

-- a text of a command has six printable bytes
abbrev pub is_text : List ℕ → Bool
is_text text = length text == 6 && printable text

abbrev pub are_texts : {C : Type 0} → List (List ℕ × C) → Bool
are_texts rows = list_all (λ row. is_text row.0) rows
