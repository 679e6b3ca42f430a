-- A line, test by test.
use Rattle.std.proofs.Common.{◌≡◌, ℕ, true, false, List, take, ℤ, Some, Ok, Err, Option, Result, sym, ap, ◌∙◌}
use Rattle.std.specs.List.{between}
use Rattle.std.proofs.lemmas.Bool.{cond-true, cond-false}
use Rattle.lines.specs.declared.request.FormatFault.{FormatFault}
use Rattle.lines.specs.declared.request.FormatFault.TheVariants.{NotALine}
use Rattle.lines.specs.Columns.{column}
use Rattle.lines.specs.CommandSets.{Commands, command_named}
use Rattle.lines.specs.Lines.{good_line}
use Rattle.lines.specs.Requests.{field_read, with_fields, with_command, parsed}

-- a line that is not good, and a good one
pub parsed_bad : {C : Type 0} (set : Commands C) (line : List ℕ) → good_line line ≡ false → parsed set line ≡ Err NotALine
unfolding parsed
parsed_bad set line bad = cond-false _ _ _ bad

pub parsed_good : {C : Type 0} (set : Commands C) (line : List ℕ) (o : Option C) → good_line line ≡ true → command_named set (take 6 line) ≡ o → parsed set line ≡ with_command set o line
unfolding parsed
parsed_good set line o good named = cond-true _ _ _ good ∙ ap (λ o. with_command set o line) named

-- a good line with a command: the three fields in order
module _ {C : Type 0} (set : Commands C) (line : List ℕ) (command : C) (used : ℕ) (good : good_line line ≡ true) (named : command_named set (take 6 line) ≡ Some command) (count : used ≡ set.field_count command) where
  fields : parsed set line ≡ with_fields command (field_read used 1 (column (between 6 16 line))) (field_read used 2 (column (between 16 26 line))) (field_read used 3 (column (between 26 36 line)))
  fields = parsed_good set line (Some command) good named ∙ ap (λ n. with_fields command (field_read n 1 (column (between 6 16 line))) (field_read n 2 (column (between 16 26 line))) (field_read n 3 (column (between 26 36 line)))) (sym count)

  pub two_good : (x y : ℤ) → field_read used 1 (column (between 6 16 line)) ≡ Ok x → field_read used 2 (column (between 16 26 line)) ≡ Ok y → (r : Result ℤ FormatFault) → field_read used 3 (column (between 26 36 line)) ≡ r → parsed set line ≡ with_fields command (Ok x) (Ok y) r
  two_good x y p q r e = fields ∙ ap (λ r. with_fields command r (field_read used 2 (column (between 16 26 line))) (field_read used 3 (column (between 26 36 line)))) p ∙ ap (λ r. with_fields command (Ok x) r (field_read used 3 (column (between 26 36 line)))) q ∙ ap (with_fields command (Ok x) (Ok y)) e
