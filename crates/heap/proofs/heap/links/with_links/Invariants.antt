use Rattle.std.proofs.Common.{◌≡◌, take}
use Rattle.heap.proofs.heap.links.with_links.Given as goal

abbrev pub invariant-loop-k : goal.invariant-loop-k
invariant-loop-k g l =
    (take l.k (g.T.Kind.links l.made) ≡ take l.k (take g.T.Kind.count l.fn.links))
    × (g.T.Kind.plain l.made ≡ g.T.Kind.plain l.initial.made)
