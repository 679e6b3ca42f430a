-- What a step answers: copied, scanned, freed, and 1 if a cycle is open, else 0.
use Rattle.std.specs.Prelude.{[], ◌∷◌, Ok, Err, Result}
use Rattle.rules.specs.Rules.{Answer, refused, counts, flag}
use Rattle.kinds.specs.Faults.{store_refusal}
use Rattle.kinds.specs.declared.fault.StoreFault.{StoreFault}
use Rattle.heap.specs.declared.stepped.Stepped.{Stepped}

abbrev pub told_step : Result Stepped StoreFault → Answer
told_step (Ok r) = counts (r.copied ∷ (r.scanned ∷ (r.freed ∷ (flag r.cycle_open ∷ []))))
told_step (Err e) = refused (store_refusal e)
