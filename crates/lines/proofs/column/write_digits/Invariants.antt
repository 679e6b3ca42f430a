use Rattle.std.proofs.Common.{◌≡◌, ◌≤◌, ◌++◌, length, take, drop, decimal}
use Rattle.lines.proofs.column.write_digits.Given as goal

-- the digits still to come and those in place are those of n; the columns before are untouched, and there is room
abbrev pub invariant-loop-at : goal.invariant-loop-at
invariant-loop-at l =
    (decimal l.rest ++ drop l.at l.row ≡ decimal l.n)
    × (take l.at l.row ≡ take l.at l.initial.row)
    × (length (decimal l.rest) ≤ l.at)
    × (l.at ≤ length l.row)
    × (l.rest ≤ l.n)
