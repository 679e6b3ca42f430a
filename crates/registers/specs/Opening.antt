-- Opening a store: which sizes are in range, which tables are long enough, and why a store is closed.
use Rattle.std.specs.Prelude.{ℕ, Bool, false, cond, ◌&&◌, ℤ, pos, negsuc, Ok, Err, Result, nat_le}
use Rattle.kinds.specs.declared.fault.StoreFault.{StoreFault}
use Rattle.kinds.specs.declared.fault.StoreFault.TheVariants.{SizeOutOfRange, TableShort}
use Rattle.registers.specs.declared.sizes.Sizes.{Sizes}
use Rattle.registers.specs.declared.sizes.Limits.{Limits}

-- a whole number from 1 to n, and the number that it is
abbrev pub from_one_to : ℕ → ℤ → Bool
from_one_to n (pos v) = nat_le 1 v && nat_le v n
from_one_to n (negsuc v) = false

abbrev pub natural : ℤ → ℕ
natural (pos v) = v
natural (negsuc v) = 0

-- that number, or the refusal of a size out of range
abbrev pub size_of : ℕ → ℤ → Result ℕ StoreFault
size_of n v = cond (from_one_to n v) (Ok (natural v)) (Err SizeOutOfRange)

-- S 1 to 16,384, Y 1 to 1,024, R 1 to 64, K 1 to 16,384
abbrev pub sizes_in_range : Sizes → Bool
sizes_in_range z =
    from_one_to 16384 z.slots && (from_one_to 1024 z.places && (from_one_to 64 z.registers && from_one_to 16384 z.scans))

-- the sizes as natural numbers, if each is in its range
abbrev pub limits_asked : Sizes → Limits
limits_asked z = record { slots = natural z.slots; places = natural z.places; registers = natural z.registers; scans = natural z.scans }

abbrev pub limits_of : Sizes → Result Limits StoreFault
limits_of z = cond (sizes_in_range z) (Ok (limits_asked z)) (Err SizeOutOfRange)

-- the register table has a place for each register
abbrev pub tables_long : Sizes → ℕ → Bool
tables_long z table = nat_le (natural z.registers) table

-- the sizes, if tables are long enough for them, which is tested last
abbrev pub limits_with : Sizes → Bool → Result Limits StoreFault
limits_with z long = cond (sizes_in_range z) (cond long (Ok (limits_asked z)) (Err TableShort)) (Err SizeOutOfRange)

abbrev pub limits_over : Sizes → ℕ → Result Limits StoreFault
limits_over z table = limits_with z (tables_long z table)

-- what `why` answers: 0 open, 1 a size out of range, 2 a short table; the sizes are tested first
abbrev pub why_with : Sizes → Bool → ℕ
why_with z long = cond (sizes_in_range z) (cond long 0 2) 1

abbrev pub why_of : Sizes → ℕ → ℕ
why_of z table = why_with z (tables_long z table)
