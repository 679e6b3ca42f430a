-- What is printed of a call, of its answer, and of why a day ends early.
use Rattle.std.specs.Prelude.{ℕ, List, ◌++◌, codes, ℤ, Some, None, Ok, Err, Option, Result}
use Rattle.std.specs.Fmt.{decimal, signed_decimal}
use Rattle.ring.specs.Printed.{lengths_text}
use Rattle.kinds.specs.Doses.{mark_name, dose_weight}
use Rattle.kinds.specs.Faults.{store_refusal, store_refusal_text}
use Rattle.kinds.specs.declared.dose.Dose.{Dose}
use Rattle.kinds.specs.declared.fault.StoreFault.{StoreFault}
use Rattle.heap.specs.Printed.{stepped_text}
use Rattle.store.specs.declared.call.Answer.{Answer}
use Rattle.store.specs.declared.call.Answer.TheVariants.{Done, Count, Given, Flag, Held, Arcs, Collected}
use Rattle.store.specs.declared.call.Call.{Call}
use Rattle.store.specs.declared.call.Call.TheVariants.{Load, Empty, Copy, Make, Read, Write, Fill, Plain, Same, Look, Tell, Step, Full}
use Rattle.dosing_day.specs.declared.fault.DayFault.{DayFault}
use Rattle.dosing_day.specs.declared.fault.DayFault.TheVariants.{Store, Memory, Unanswered, Stream}

-- a valve by its register
abbrev pub valve_text : ℤ → List ℕ
valve_text r = codes "valve " ++ signed_decimal r

-- what was asked; the day makes no other calls than the named ones
abbrev pub asked_text : Call Dose → List ℕ
asked_text (Make d template links) = valve_text d ++ codes ", " ++ mark_name template.mark ++ codes " of " ++ decimal (dose_weight template) ++ codes " mg"
asked_text (Empty r) = valve_text r ++ codes ", batch dropped"
asked_text (Copy d s) = valve_text d ++ (codes ", as valve " ++ signed_decimal s)
asked_text (Write s k t) = valve_text s ++ codes ", link " ++ signed_decimal k ++ codes " to valve " ++ signed_decimal t
asked_text Tell = codes "slots"
asked_text Step = codes "step"
asked_text Full = codes "full"
asked_text (Load r v) = codes "another call"
asked_text (Read d s k) = codes "another call"
asked_text (Fill s template) = codes "another call"
asked_text (Plain s one) = codes "another call"
asked_text (Same a b) = codes "another call"
asked_text (Look r) = codes "another call"

-- a refusal by its number
abbrev pub refused_text : StoreFault → List ℕ
refused_text e = codes "refused with " ++ decimal (store_refusal e)

-- what was answered
abbrev pub told_text : Result (Answer Dose) StoreFault → List ℕ
told_text (Ok (Count n)) = decimal n ++ codes " in the nursery"
told_text (Ok (Collected stepped)) = stepped_text stepped
told_text (Ok (Arcs lengths)) = lengths_text lengths
told_text (Ok Done) = codes "done"
told_text (Ok (Given one)) = codes "done"
told_text (Ok (Flag t)) = codes "done"
told_text (Ok (Held seen)) = codes "done"
told_text (Err e) = refused_text e

-- why a day ends early, in words; what an error of the stream or of the allocator says is the system's
abbrev pub day_fault_text : DayFault → Option (List ℕ)
day_fault_text (Store e) = Some (store_refusal_text e)
day_fault_text (Memory e) = None
day_fault_text Unanswered = Some (codes "no memory for the answers")
day_fault_text (Stream e) = None
