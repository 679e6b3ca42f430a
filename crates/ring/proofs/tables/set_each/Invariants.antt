use Rattle.std.proofs.Common.{◌≡◌, ℕ, ◌<◌, ◌≤◌, get_or}
use Rattle.ring.proofs.tables.set_each.Given as goal

abbrev pub invariant-loop-i : goal.invariant-loop-i
invariant-loop-i g l = record {
  done : (k : ℕ) → k < l.i → goal.F-post g l.f k (get_or l.initial.x-items k 0) (get_or l.x-items k 0);
  left : (k : ℕ) → l.i ≤ k → get_or l.x-items k 0 ≡ get_or l.initial.x-items k 0;
}
