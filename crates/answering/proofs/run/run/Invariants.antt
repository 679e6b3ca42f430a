use Rattle.std.proofs.Common.{◌≡◌, ◌++◌, length, vec_items}
use Rattle.lines.specs.Lines.{lines}
use Rattle.answering.specs.Sheets.{waiting, written_for, sheet_output}
use Rattle.answering.proofs.run.run.Given as goal

-- what is written, and what is still to be written for the lines that are left, are all that is to be written
abbrev pub invariant-loop-text : goal.invariant-loop-text
invariant-loop-text g l =
    let rules = g.T.Sheet.rules in
    vec_items l.session.out ++ written_for rules waiting l.session.number (lines l.session.rest.now) ≡ sheet_output rules l.input

abbrev pub decreases-loop-text : goal.decreases-loop-text
decreases-loop-text g l = length l.session.rest.now
