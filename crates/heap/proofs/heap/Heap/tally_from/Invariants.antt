use Rattle.std.proofs.Common.{◌≡◌, ◌+◌, ◌-◌, ◌*◌, ◌≤◌}
use Rattle.rules.specs.Chains.{all_places, follow, tally_answer}
use Rattle.heap.specs.Tallies.{follow_words, tally_with}
use Rattle.heap.specs.View.{view}
use Rattle.heap.proofs.heap.Heap.tally_from.Given as goal

abbrev pub invariant-loop : goal.invariant-loop
invariant-loop g l =
    let s = view g.T.Kind l.self in
    (tally_with s.store l.tally.flushes l.tally.weight (follow_words s.sizes s.store ((l.most + 1) - l.counter) l.w) ≡ tally_answer s.store (follow s.sizes s.store (all_places s.sizes s.store) l.first))
    × (l.tally.flushes ≤ l.counter)
    × (l.tally.weight ≤ l.counter * 9999999)
