use Rattle.std.proofs.Common.{◌∷◌, ◌++◌, Err, vec_items, ap}
use Rattle.lines.specs.Lines.{lines}
use Rattle.answering.specs.Runs.{row_of_result, state_after_opening, reply_to_opening, written_after}
use Rattle.answering.specs.Sheets.{waiting, row_of_reply, written_for}
use Rattle.answering.proofs.Runs.{written_line, written_step, answered_same}
use Rattle.answering.proofs.run.answer_waiting.Goals as goal

pub returns-in-Ok : goal.returns-in-Ok
returns-in-Ok g c =
    let rules = g.T.Sheet.rules in
    let s = c.args.session.now in
    let text = c.args.text.now in
    let rest = lines s.rest.now in
    let o = c.in-Ok.opening in
    answered_same rules c.run_opening.result (vec_items s.out ++ written_after rules (reply_to_opening rules o) (state_after_opening rules o) s.number rest) (vec_items s.out ++ written_for rules waiting s.number (text ∷ rest)) s c.run_opening.new.session
    (ap (λ l. vec_items s.out ++ l) (written_line rules waiting (state_after_opening rules o) (reply_to_opening rules o) s.number text rest c.in-Ok.ensures.state c.in-Ok.ensures.reply)) c.run_opening.ensures

pub returns-in_ok-answer-in-Err : goal.returns-in_ok-answer-in-Err
returns-in_ok-answer-in-Err g c =
    let rules = g.T.Sheet.rules in
    let s = c.args.session.now in
    let t = c.answer.new.self in
    let told = c.in-Err.ensures in (
      written_step rules (vec_items s.out) (vec_items t.out) (row_of_result s.number (Err c.in-Err.e)) waiting waiting s.number t.number c.args.text.now (lines s.rest.now) (lines t.rest.now) c.in_ok-answer-in-Err.ensures.written (ap (row_of_reply s.number) told.reply) told.state c.in_ok-answer-in-Err.ensures.number (ap lines c.answer.ensures.rest),
      c.answer.ensures.rest,
    )
