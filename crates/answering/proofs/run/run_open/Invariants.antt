use Rattle.std.proofs.Common.{◌≡◌, ◌++◌, length, vec_items}
use Rattle.lines.specs.Lines.{lines}
use Rattle.answering.specs.Sheets.{running, written_for}
use Rattle.answering.proofs.run.run_open.Given as goal

-- what is written, and what is still to be written for the lines that are left, are all that is to be written
abbrev pub invariant-loop-text : goal.invariant-loop-text
invariant-loop-text g l =
    let rules = g.T.Sheet.rules in
    let b = g.S.SheetStore.barrier in
    vec_items l.session.out ++ written_for rules (running b (g.S.SheetStore.held l.store)) l.session.number (lines l.session.rest.now) ≡ vec_items l.initial.session.out ++ written_for rules (running b (g.S.SheetStore.held l.initial.store)) l.initial.session.number (lines l.initial.session.rest.now)

abbrev pub decreases-loop-text : goal.decreases-loop-text
decreases-loop-text g l = length l.session.rest.now
