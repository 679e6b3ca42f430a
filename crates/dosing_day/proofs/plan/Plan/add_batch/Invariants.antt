use Rattle.std.proofs.Common.{◌≡◌, ◌++◌, map, take}
use Rattle.kinds.specs.Doses.{dose_plain}
use Rattle.dosing_day.specs.Plan.{batch}
use Rattle.dosing_day.proofs.plan.Plan.add_batch.Given as goal

abbrev pub invariant-loop-portion : goal.invariant-loop-portion
invariant-loop-portion l = l.self ≡ l.initial.self ++ batch l.valve (map dose_plain (take l.portion-index l.portions))
