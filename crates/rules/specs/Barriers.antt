-- A barrier as a table of its answers, and the test whether it is lawful.
use Rattle.std.specs.Prelude.{Bool, true, false, cond, ◌&&◌, ◌||◌}
use Rattle.rules.specs.declared.barrier.BarrierTable.{BarrierTable}
use Rattle.rules.specs.Rules.{Barrier}

-- the barrier that answers as the table says
abbrev pub barrier_of : BarrierTable → Barrier
barrier_of t = record {
  rescans = t.rescans;
  names_old = λ m. cond m t.old_marked t.old_unmarked;
  names_new = λ m. cond m t.new_marked t.new_unmarked;
}

-- it names the overwritten word for both targets, or it rescans and names the new word for a marked one
abbrev pub lawful_test : Barrier → Bool
lawful_test b = (b.names_old false && b.names_old true) || (b.rescans && b.names_new true)
