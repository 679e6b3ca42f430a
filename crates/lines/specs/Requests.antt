-- What a line asks for, or why it is refused.
use Rattle.std.specs.Prelude.{◌≡◌, ℕ, true, cond, ◌↔◌, List, ◌++◌, take, replicate, ℤ, pos, Some, None, Ok, Err, MatchBool, Option, Result, codes, nat_le}
use Rattle.std.specs.Fmt.{decimal}
use Rattle.std.specs.List.{between}
use Rattle.lines.specs.declared.column.Column.{Column}
use Rattle.lines.specs.declared.column.Column.TheVariants.{Blank, Number, NoNumber}
use Rattle.lines.specs.declared.request.FormatFault.{FormatFault}
use Rattle.lines.specs.declared.request.FormatFault.TheVariants.{NotALine, UnknownCommand, BadField}
use Rattle.lines.specs.declared.request.Request.{Request}
use Rattle.lines.specs.Columns.{column, fits_column, row_of}
use Rattle.lines.specs.CommandSets.{Commands, command_named}
use Rattle.lines.specs.Lines.{good_line}

-- the refusal of a fault, by its number
abbrev pub format_refusal : FormatFault → ℕ
format_refusal NotALine = 31
format_refusal UnknownCommand = 32
format_refusal (BadField k) = 33

-- the field that offends, from 1; 0 where none does
abbrev pub format_column : FormatFault → ℕ
format_column NotALine = 0
format_column UnknownCommand = 0
format_column (BadField k) = k

-- a fault in words
abbrev pub format_text : FormatFault → List ℕ
format_text NotALine = codes "the line is not 36 bytes of 32 to 126"
format_text UnknownCommand = codes "the command is unknown"
format_text (BadField k) = codes "field " ++ decimal k ++ codes " is no number, or not used and not blank"

-- field k is used: it must be a number
abbrev pub used_field : ℕ → Column → Result ℤ FormatFault
used_field k (Number v) = Ok v
used_field k Blank = Err (BadField k)
used_field k NoNumber = Err (BadField k)

-- field k is not used: it must be blank, and stands for 0
abbrev pub unused_field : ℕ → Column → Result ℤ FormatFault
unused_field k Blank = Ok (pos 0)
unused_field k (Number v) = Err (BadField k)
unused_field k NoNumber = Err (BadField k)

-- field k of a command that uses the first n fields
abbrev pub field_read : ℕ → ℕ → Column → Result ℤ FormatFault
field_read n k field = cond (nat_le k n) (used_field k field) (unused_field k field)

-- a command and its three fields; the first fault counts
abbrev pub with_fields : {C : Type 0} → C → Result ℤ FormatFault → Result ℤ FormatFault → Result ℤ FormatFault → Result (Request C) FormatFault
with_fields command (Err fault) second third = Err fault
with_fields command (Ok x) (Err fault) third = Err fault
with_fields command (Ok x) (Ok y) (Err fault) = Err fault
with_fields command (Ok x) (Ok y) (Ok z) = Ok (record { command = command; a = x; b = y; c = z })

-- a line of 36 bytes whose command is known or unknown: six columns, then three times ten
abbrev pub with_command : {C : Type 0} → Commands C → Option C → List ℕ → Result (Request C) FormatFault
with_command set None line = Err UnknownCommand
with_command set (Some command) line =
    with_fields command
    (field_read (set.field_count command) 1 (column (between 6 16 line)))
    (field_read (set.field_count command) 2 (column (between 16 26 line)))
    (field_read (set.field_count command) 3 (column (between 26 36 line)))

-- a line is tested for its bytes, then for its command, then for its fields
unfoldable pub parsed : {C : Type 0} → Commands C → List ℕ → Result (Request C) FormatFault
parsed set line = cond (good_line line) (with_command set (command_named set (take 6 line)) line) (Err NotALine)

-- field k of a command that uses the first n fields holds v: a used one has the row of v, an unused one is blank and v is 0
abbrev pub FieldHolds : ℕ → ℕ → ℤ → List ℕ → Type 0
FieldHolds n k v row = MatchBool (nat_le k n) ((fits_column v ≡ true) × (row ≡ row_of v)) ((v ≡ pos 0) × (row ≡ replicate 10 32))

-- a line spells a request: the text of the command, then the rows of the three fields
pub record Spells {C : Type 0} (set : Commands C) (q : Request C) (line : List ℕ) : Type 0 where
  pub text : List ℕ
  pub first : List ℕ
  pub second : List ℕ
  pub third : List ℕ
  pub whole : line ≡ text ++ (first ++ (second ++ third))
  pub named : command_named set text ≡ Some q.command
  pub a : FieldHolds (set.field_count q.command) 1 q.a first
  pub b : FieldHolds (set.field_count q.command) 2 q.b second
  pub c : FieldHolds (set.field_count q.command) 3 q.c third

-- a line is taken as a request exactly when it spells it
abbrev pub TakenAsSpelled : {C : Type 0} → Commands C → Type 0
TakenAsSpelled set = (line : List ℕ) (q : Request _) → (parsed set line ≡ Ok q) ↔ Spells set q line
