use Rattle.std.proofs.Common.{◌∷◌, ◌++◌, length, vec_items, sym, ap, ◌∙◌, arith}
use Rattle.lines.specs.Lines.{lines}
use Rattle.answering.specs.Sheets.{waiting, written_for}
use Rattle.answering.proofs.Runs.{written_last, written_taken, answered_on, answered_all}
use Rattle.answering.proofs.run.run.Goals as goal

pub loop-text-smaller : goal.loop-text-smaller
loop-text-smaller g c =
    let rules = g.T.Sheet.rules in
    let m = c.next_line.new.self in
    let all = vec_items m.out ++ written_for rules waiting m.number (c.in-Some.text.now ∷ lines m.rest.now) in
    let same = answered_on rules all c.in_ok-answer_waiting.field-0 m c.answer_waiting.new.session c.if-branch.false c.in_ok-answer_waiting.ensures in
    omega (arith, c.in-Some.ensures.shorter, ap length same.1)

pub loop-text-preserved : goal.loop-text-preserved
loop-text-preserved g c =
    let rules = g.T.Sheet.rules in
    let text = c.in-Some.text.now in
    let s = c.loop-text.session in
    let m = c.next_line.new.self in
    let all = vec_items m.out ++ written_for rules waiting m.number (text ∷ lines m.rest.now) in
    (answered_on rules all c.in_ok-answer_waiting.field-0 m c.answer_waiting.new.session c.if-branch.false c.in_ok-answer_waiting.ensures).0 ∙ written_taken rules (vec_items s.out) (vec_items m.out) waiting s.number m.number text (lines m.rest.now) (lines s.rest.now) c.next_line.ensures.out c.next_line.ensures.number c.in-Some.ensures.line ∙ c.loop-text.invariant

pub returns-then-branch : goal.returns-then-branch
returns-then-branch g c =
    let rules = g.T.Sheet.rules in
    let text = c.in-Some.text.now in
    let s = c.loop-text.session in
    let m = c.next_line.new.self in
    let all = vec_items m.out ++ written_for rules waiting m.number (text ∷ lines m.rest.now) in
    c.finish.ensures ∙ answered_all rules all c.in_ok-answer_waiting.field-0 m c.answer_waiting.new.session c.if-branch.true c.in_ok-answer_waiting.ensures ∙ written_taken rules (vec_items s.out) (vec_items m.out) waiting s.number m.number text (lines m.rest.now) (lines s.rest.now) c.next_line.ensures.out c.next_line.ensures.number c.in-Some.ensures.line ∙ c.loop-text.invariant

pub returns : goal.returns
returns g c =
    let rules = g.T.Sheet.rules in
    let s = c.loop-text.session in
    c.finish-2.ensures ∙ c.next_line.ensures.out ∙ sym (written_last rules (vec_items s.out) waiting s.number (lines s.rest.now) c.in_default.ensures.line) ∙ c.loop-text.invariant
