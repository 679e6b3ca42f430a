-- What a store over lent tables holds when it is opened.
use Rattle.std.specs.Prelude.{ℕ, cond, map, take, ◌==◌}
use Rattle.rules.specs.Rules.{Sizes, new_store}
use Rattle.kinds.specs.declared.kind.Kind.{Ghosts}
use Rattle.registers.specs.State.{State, sizes_of, closed_at}
use Rattle.registers.specs.declared.sizes.Sizes.{Sizes as Asked}
use Rattle.heap.specs.declared.heap.tables.Tables.{Tables}
use Rattle.heap.specs.Meaning.{meaning_of}
use Rattle.heap.specs.Opening.{why_of}

-- a new store over the first records of the old area, which may be any; why it is closed, if it is
abbrev pub state_over : {X : Type 0} → Ghosts X → ℕ → Sizes → Tables X → State
state_over g why z t = record { why = why; sizes = z; store = new_store z (map (meaning_of g) (take z.slots t.slots.now)) }

-- an open one
abbrev pub open_at : {X : Type 0} → Ghosts X → Sizes → Tables X → State
open_at g z t = state_over g 0 z t

-- a closed one, with no sizes
abbrev pub closed_state : {X : Type 0} → Ghosts X → ℕ → State
closed_state g why = closed_at g.count why

-- opening over lent tables
abbrev pub opened : {X : Type 0} → Ghosts X → Asked → Tables X → State
opened g z t = cond (why_of z t == 0) (open_at g (sizes_of g.count z) t) (closed_state g (why_of z t))
