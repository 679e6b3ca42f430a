-- Figures for planning: the steps of a cycle and the slots that a store needs.
use Rattle.std.specs.Prelude.{ℕ, ◌^◌, cond, Some, None, Option, ◌==◌, nat_lt}
use Rattle.rules.specs.Promise.{cycle_steps, slots_for}

-- the steps that a cycle may take with n records reachable when it opens and k scans a step; without scans there are none
abbrev pub cycle_steps_of : ℕ → ℕ → Option ℕ
cycle_steps_of n k = cond (k == 0) None (Some (cycle_steps n k))

-- the least number of slots for L reachable records, Y nursery places and K scans a step, if it has 64 bits
abbrev pub slots_needed : ℕ → ℕ → ℕ → Option ℕ
slots_needed L Y K = cond (K == 0) None (cond (nat_lt (slots_for L Y K) (2 ^ 64)) (Some (slots_for L Y K)) None)
