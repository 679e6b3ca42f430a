use Rattle.std.proofs.Common.{vec_items, sym, ap, ◌∙◌}
use Rattle.lines.specs.Lines.{lines}
use Rattle.answering.specs.Runs.{row_of_result}
use Rattle.answering.proofs.Runs.{refused_open, accepted_open}
use Rattle.answering.proofs.run.run_new.Goals as goal

pub returns-else-started : goal.returns-else-started
returns-else-started g c =
    let rules = g.T.Sheet.rules in
    let s = c.args.session.now in
    let t = c.answer.new.self in rw c.if-started.false (
      refused_open rules g.S.SheetStore.barrier (g.S.SheetStore.held c.args.store.now) s.number t.number (lines s.rest.now) (lines t.rest.now) (vec_items s.out) (vec_items t.out) (row_of_result s.number c.answer_open-told.result) c.in_ok-answer.ensures.written (c.answer_open-told.ensures.reply s.number) c.in_ok-answer.ensures.number (ap lines c.answer.ensures.rest)
          (sym c.answer_open-told.ensures.accepted ∙ sym c.is_ok-started.ensures.value ∙ c.if-started.false),
      c.answer.ensures.rest,
    )

pub returns-in_ok-run_open : goal.returns-in_ok-run_open
returns-in_ok-run_open g c =
    let rules = g.T.Sheet.rules in
    let s = c.args.session.now in
    let t = c.answer.new.self in
    rw c.if-started.true (accepted_open rules g.S.SheetStore.barrier (g.S.SheetStore.held c.args.store.now) s.number t.number (lines s.rest.now) (lines t.rest.now) (vec_items s.out) (vec_items t.out) (row_of_result s.number c.answer_open-told.result) c.in_ok-answer.ensures.written (c.answer_open-told.ensures.reply s.number) c.in_ok-answer.ensures.number (ap lines c.answer.ensures.rest)
    (vec_items c.run_open.new.session.out) (sym c.answer_open-told.ensures.accepted ∙ sym c.is_ok-started.ensures.value ∙ c.if-started.true) c.in_ok-run_open.ensures)
