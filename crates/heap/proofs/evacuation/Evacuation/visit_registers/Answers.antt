use Rattle.std.proofs.Common.{suc, get_or, set, sym, refl, ap, ◌∙◌, length-set}
use Rattle.rules.specs.Rules.{visit_registers}
use Rattle.heap.specs.Emptying.{emptying}
use Rattle.heap.proofs.Visits.{stage_then, turned, with_register, word_visited}
use Rattle.heap.proofs.evacuation.Evacuation.visit_registers.Goals as goal

pub loop-word-preserved : goal.loop-word-preserved
loop-word-preserved g c =
    let i = c.loop-word.word-index in
    let rs = c.loop-word.registers in
    let v = c.visit.result in
    let was = c.args.self.now in
    let e = c.loop-word.self in
    let f = c.visit.new.self in
    let invariant = c.loop-word.invariant in
    record {
      stage = stage_then was e f invariant.stage c.visit.ensures.stage;
      long = length-set rs i v ∙ invariant.long;
      rest = λ ns.
          let at = emptying g.T.Kind rs ns e in
          let next = emptying g.T.Kind (set rs i v) ns f in
          turned (visit_registers c.args.rescan) _ i (emptying g.T.Kind c.args.registers.now ns was) at next c.loop-word-test.true (invariant.rest ns)
          (λ m. ap (visit_registers c.args.rescan (suc i) m)
          (sym (word_visited c.args.rescan (with_register i) (get_or rs i 0) (get_or rs i 0) v at (emptying g.T.Kind rs ns f) next refl (c.visit.ensures.state rs ns) (c.visit.ensures.word rs ns) refl)));
    }
