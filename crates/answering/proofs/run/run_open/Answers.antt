use Rattle.std.proofs.Common.{vec_items, sym, ap, ◌∙◌}
use Rattle.lines.specs.Lines.{lines}
use Rattle.answering.specs.Runs.{row_of_result}
use Rattle.answering.specs.Sheets.{running}
use Rattle.answering.proofs.Runs.{written_last, written_step, written_taken}
use Rattle.answering.proofs.run.run_open.Goals as goal

pub loop-text-preserved : goal.loop-text-preserved
loop-text-preserved g c =
    let rules = g.T.Sheet.rules in
    let state = running g.S.SheetStore.barrier (g.S.SheetStore.held c.loop-text.store) in
    let text = c.in-Some.text.now in
    let s = c.loop-text.session in
    let m = c.next_line.new.self in
    let t = c.answer.new.self in
    written_step rules (vec_items m.out) (vec_items t.out) (row_of_result m.number c.answer_line.result) state (running g.S.SheetStore.barrier (g.S.SheetStore.held c.answer_line.new.store)) m.number t.number text (lines m.rest.now) (lines t.rest.now) c.in_ok-answer.ensures.written (c.answer_line.ensures.reply m.number) c.answer_line.ensures.state c.in_ok-answer.ensures.number (ap lines c.answer.ensures.rest)
    ∙ written_taken rules (vec_items s.out) (vec_items m.out) state s.number m.number text (lines m.rest.now) (lines s.rest.now) c.next_line.ensures.out c.next_line.ensures.number c.in-Some.ensures.line
    ∙ c.loop-text.invariant

pub returns : goal.returns
returns g c =
    let rules = g.T.Sheet.rules in
    let s = c.loop-text.session in
    c.next_line.ensures.out ∙ sym (written_last rules (vec_items s.out) (running g.S.SheetStore.barrier (g.S.SheetStore.held c.loop-text.store)) s.number (lines s.rest.now) c.in_default.ensures.line) ∙ c.loop-text.invariant
