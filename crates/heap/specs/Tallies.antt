-- What tally answers: the number of flushes along a chain and the sum of their weights.
use Rattle.std.specs.Prelude.{◌≡◌, ℕ, zero, suc, ◌+◌, true, cond, ◌⊎◌, List, [], ◌∷◌, ℤ, Some, None, Ok, Err, Option, Result}
use Rattle.words.specs.declared.place.Place.{Place}
use Rattle.rules.specs.Rules.{Sizes, Store, Answer, refused, counts, in_range, reg}
use Rattle.rules.specs.Chains.{Chain, is_flush, weight_in, flushes, flush_weight, tally_of, parts_at, leads, then_on, run_tally}
use Rattle.kinds.specs.Faults.{store_refusal}
use Rattle.kinds.specs.declared.fault.StoreFault.{StoreFault}
use Rattle.heap.specs.declared.tally.Tally.{Tally}
use Rattle.registers.specs.State.{State, is_open}

abbrev pub told_tally : Result Tally StoreFault → Answer
told_tally (Ok t) = counts (t.flushes ∷ (t.weight ∷ []))
told_tally (Err e) = refused (store_refusal e)

-- the answer of a store that may be closed
abbrev pub answer_tally : State → ℤ → Answer
answer_tally s r = cond (is_open s) (run_tally s.sizes s.store r) (refused 20)

-- the chain of register r
abbrev pub ChainOf : State → ℤ → List Place → Type 0
ChainOf s r ps = Chain s.sizes s.store (reg s.store r) ps

-- an answer goes by the chain where the store is open and has the register: it is what the chain's records add up to if the
-- chain ends, and 25 if it has no end
abbrev pub ByChain : State → ℤ → Answer → Type 0
ByChain s r a =
    s.why ≡ 0
    → in_range r s.sizes.registers ≡ true
    → ((ps : List Place) × ChainOf s r ps × (a ≡ tally_of (parts_at s.store ps))) ⊎ ((a ≡ refused 25) × ((ps : List Place) → ChainOf s r ps → ⊥))

-- what one record adds, by its plain part
abbrev pub flush_count : List ℤ → ℕ
flush_count part = cond (is_flush part) 1 0

abbrev pub flush_share : List ℤ → ℕ
flush_share part = cond (is_flush part) (weight_in part) 0

-- a chain followed by k more words
abbrev pub follow_words : Sizes → Store → ℕ → ℕ → Option (List Place)
follow_words z s zero w = None
follow_words z s (suc k) w = then_on (follow_words z s k) s (leads z s w)

-- the answer where n flushes of the weight g were counted before the rest of the chain
abbrev pub tally_with : Store → ℕ → ℕ → Option (List Place) → Answer
tally_with s n g None = refused 25
tally_with s n g (Some ps) = counts ((n + flushes (parts_at s ps)) ∷ ((g + flush_weight (parts_at s ps)) ∷ []))
