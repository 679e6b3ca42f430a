-- Scanning, as a change of the store.
use Rattle.std.specs.Prelude.{ℕ, ◌+◌, Bool, cond, is_some}
use Rattle.std.specs.Option.{unwrap_or}
use Rattle.rules.specs.Rules.{Store, with_arcs, open_cycle, scan_one, scan_upto, scan_and_close, scans_made, freed_after}

-- whether a slot is grey, so that one is scanned
abbrev pub scans_one : Store → Bool
scans_one s = is_some (scan_one s.slots s.arcs)

-- the store after one scan; without a grey slot it stays as it is
abbrev pub scanned_one : Store → Store
scanned_one s = with_arcs (unwrap_or (scan_one s.slots s.arcs) s.arcs) s

-- the store after at most k scans
abbrev pub scanned_upto : ℕ → Store → Store
scanned_upto k s = with_arcs (scan_upto s.slots k s.arcs).0 s

-- the store in which slots are scanned: a cycle is opened unless one is open
abbrev pub with_open_cycle : Store → Store
with_open_cycle s = cond s.cycle s (open_cycle s)

-- the store once a cycle that is open is finished, of n slots: the store then, how many scans that made, and how many slots it freed
abbrev pub finished : ℕ → Store → Store
finished n s = cond s.cycle (scan_and_close n s) s

abbrev pub scans_finishing : ℕ → Store → ℕ
scans_finishing n s = cond s.cycle (scans_made n s) 0

abbrev pub freed_finishing : ℕ → Store → ℕ
freed_finishing n s = cond s.cycle (freed_after n s) 0

-- the store once another cycle was opened and finished after it, and what both did together
abbrev pub collected_all : ℕ → Store → Store
collected_all n s = scan_and_close n (open_cycle (finished n s))

abbrev pub scans_of_all : ℕ → Store → ℕ
scans_of_all n s = scans_finishing n s + scans_made n (open_cycle (finished n s))

abbrev pub freed_of_all : ℕ → Store → ℕ
freed_of_all n s = freed_finishing n s + freed_after n (open_cycle (finished n s))
