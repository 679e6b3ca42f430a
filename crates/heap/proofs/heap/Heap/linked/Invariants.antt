use Rattle.std.proofs.Common.{◌≡◌, length, take, drop}
use Rattle.rules.specs.Rules.{all_in, links_from}
use Rattle.heap.specs.View.{contents}
use Rattle.heap.proofs.heap.Heap.linked.Given as goal

abbrev pub invariant-loop-k : goal.invariant-loop-k
invariant-loop-k g l =
    (all_in (drop l.k l.links) l.self.limits.registers ≡ all_in l.links l.self.limits.registers)
    × (length l.links ≡ g.T.Kind.count → take l.k (g.T.Kind.links l.made) ≡ take l.k (links_from (contents g.T.Kind l.self) l.links))
    × (g.T.Kind.plain l.made ≡ g.T.Kind.plain l.initial.made)
