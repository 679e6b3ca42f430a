use Rattle.std.proofs.Common.{◌+◌, ◌≤◌, length, take, vec_items, vec_len, vec_capacity}
use Rattle.heap.specs.View.{view, Frame}
use Rattle.store.specs.Promised.{Ran}
use Rattle.store.proofs.store.Store.make_calls.Given as goal

abbrev pub invariant-loop-call : goal.invariant-loop-call
invariant-loop-call g l =
    Ran g.T.Kind g.B.Barrier.answers (view g.T.Kind l.initial.self.heap) (take l.call-index l.calls) (vec_items l.initial.answers) (vec_items l.answers) l.self.heap
    × Frame l.initial.self.heap l.self.heap
    × (vec_len l.answers + length l.calls ≤ vec_capacity l.answers + l.call-index)
