-- Opening a store: which tables are long enough, and why a store is closed.
use Rattle.std.specs.Prelude.{ℕ, Bool, ◌&&◌, length, Result, nat_le}
use Rattle.kinds.specs.declared.fault.StoreFault.{StoreFault}
use Rattle.registers.specs.Opening.{natural, limits_with, why_with}
use Rattle.registers.specs.declared.sizes.Sizes.{Sizes}
use Rattle.registers.specs.declared.sizes.Limits.{Limits}
use Rattle.heap.specs.declared.heap.tables.Tables.{Tables}

-- each table has as many places as s slots, y nursery places and r registers ask for
abbrev pub tables_long : {X : Type 0} → ℕ → ℕ → ℕ → Tables X → Bool
tables_long s y r t =
    nat_le y (length t.nursery.now)
    && (nat_le s (length t.slots.now)
    && (nat_le r (length t.registers.now)
    && (nat_le y (length t.forward.now)
    && (nat_le s (length t.notes.now)
    && (nat_le s (length t.next.now)
    && (nat_le s (length t.previous.now)
    && nat_le s (length t.stamp.now)))))))

-- the tables are long enough for the sizes that are asked for
abbrev pub long_for : {X : Type 0} → Sizes → Tables X → Bool
long_for z t = tables_long (natural z.slots) (natural z.places) (natural z.registers) t

-- the sizes, if each is in its range and the tables are long enough
abbrev pub limits_over : {X : Type 0} → Sizes → Tables X → Result Limits StoreFault
limits_over z t = limits_with z (long_for z t)

-- what `why` answers: 0 open, 1 a size out of range, 2 a short table; the sizes are tested first
abbrev pub why_of : {X : Type 0} → Sizes → Tables X → ℕ
why_of z t = why_with z (long_for z t)
