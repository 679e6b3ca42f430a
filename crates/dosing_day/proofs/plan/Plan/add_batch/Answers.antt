use Rattle.std.proofs.Common.{w64, to_z, of_z}
use Rattle.std.proofs.lemmas.Int.{to_z-of_z}
use Rattle.dosing_day.proofs.Plans.{batch_more, batch_all}
use Rattle.dosing_day.proofs.plan.Plan.add_batch.Goals as goal

pub loop-portion-preserved : goal.loop-portion-preserved
loop-portion-preserved c =
    batch_more (to_z w64 (of_z w64 c.args.valve)) c.args.portions.now c.loop-portion.portion-index _ _ _ _ c.loop-portion-test.true c.loop-portion.invariant c.in_ok-add_portion.ensures

pub returns : goal.returns
returns c =
    batch_all c.args.valve (to_z w64 (of_z w64 c.args.valve)) c.args.portions.now c.loop-portion.portion-index _ _ (to_z-of_z w64 c.args.valve c.ranges.valve) c.loop-portion-test.false c.loop-portion.invariant
