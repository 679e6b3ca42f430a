-- The store of a sheet: pairs over the tables that the sheet lends.
use Rattle.std.specs.Prelude.{ℕ, Bool, cond, ◌&&◌, [], ◌∷◌, replicate, ◌==◌, nat_le}
use Rattle.words.specs.Words.{nothing}
use Rattle.rules.specs.Rules.{Record, new_store}
use Rattle.kinds.specs.declared.pair.Pair.{Pair}
use Rattle.kinds.specs.declared.kind.Kind.{Ghosts}
use Rattle.kinds.specs.contracts.pair.PairKind.TheImpl.{ghosts}
use Rattle.heap.specs.declared.heap.Heap.{Heap}
use Rattle.registers.specs.declared.sizes.Sizes.{Sizes}
use Rattle.registers.specs.Opening.{natural, sizes_in_range}
use Rattle.registers.specs.State.{State, sizes_of, no_sizes}
use Rattle.heap.specs.View.{view}
use Rattle.answering.specs.Sheets.{register_count}

-- what a heap of pairs holds
abbrev pub pairs : Ghosts Pair
pairs = ghosts

abbrev pub held : {B : Type 0} → Heap Pair B → State
held h = view pairs h

-- 64 nursery places and 256 slots are lent beside the registers
abbrev pub place_count : ℕ
place_count = 64

abbrev pub slot_count : ℕ
slot_count = 256

-- no more slots, places and registers than are lent
abbrev pub within_lent : Sizes → Bool
within_lent z =
    nat_le (natural z.slots) slot_count && (nat_le (natural z.places) place_count && nat_le (natural z.registers) register_count)

-- what an open is told: 0, 1 for a size out of range, 2 for more than is lent
abbrev pub why_pairs : Sizes → ℕ
why_pairs z = cond (sizes_in_range z) (cond (within_lent z) 0 2) 1

-- a pair of nothing
abbrev pub empty_pair : Record
empty_pair = record { links = nothing ∷ (nothing ∷ []); plain = [] }

-- an open gives a new store whose slots are pairs of nothing, or a closed one without sizes
abbrev pub new_pairs : Sizes → State
new_pairs z = record { why = 0; sizes = sizes_of 2 z; store = new_store (sizes_of 2 z) (replicate (natural z.slots) empty_pair) }

abbrev pub closed_pairs : ℕ → State
closed_pairs why = record { why = why; sizes = no_sizes 2; store = new_store (no_sizes 2) [] }

abbrev pub pairs_opened : Sizes → State
pairs_opened z = cond (why_pairs z == 0) (new_pairs z) (closed_pairs (why_pairs z))
