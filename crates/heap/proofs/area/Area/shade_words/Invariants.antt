use Rattle.std.proofs.Common.{take}
use Rattle.ring.specs.View.{arcs_of, is_open_of, Leaves}
use Rattle.rules.specs.Rules.{shade_all}
use Rattle.heap.proofs.area.Area.shade_words.Given as goal

abbrev pub invariant-loop-w : goal.invariant-loop-w
invariant-loop-w l =
    let was = l.initial.self.ring in
    Leaves was l.self.ring (shade_all (take l.w-index l.words) (arcs_of was)) (is_open_of was)
