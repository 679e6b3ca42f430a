use Rattle.std.proofs.Common.{◌≡◌, ℕ, ◌-◌, List, length}
use Rattle.rules.specs.Rules.{visit_registers}
use Rattle.heap.specs.Emptying.{emptying, Stage}
use Rattle.heap.proofs.evacuation.Evacuation.visit_registers.Given as goal

abbrev pub invariant-loop-word : goal.invariant-loop-word
invariant-loop-word g l =
    let n = length l.initial.registers in record {
      stage : Stage l.initial.self l.self;
      long : length l.registers ≡ n;
      rest : (ns : List ℕ) → visit_registers l.rescan l.word-index (n - l.word-index) (emptying g.T.Kind l.registers ns l.self) ≡ visit_registers l.rescan 0 n (emptying g.T.Kind l.initial.registers ns l.initial.self);
    }
