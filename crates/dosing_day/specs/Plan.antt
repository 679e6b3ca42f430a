-- The day's calls, as the rules have them.
use Rattle.std.specs.Prelude.{ℕ, List, [], ◌∷◌, ◌++◌, map, ℤ, pos}
use Rattle.rules.specs.Rules.{Call, empty, copy, make, write, tell, step, full}
use Rattle.kinds.specs.contracts.dose.DoseKind.TheImpl.{ghosts}
use Rattle.kinds.specs.declared.dose.Dose.{Dose}
use Rattle.store.specs.Calls.{call_of}
use Rattle.store.specs.declared.call.Call.{Call as Asked}

-- what calls mean
abbrev pub meant : List (Asked Dose) → List Call
meant calls = map (call_of ghosts) calls

-- portions added to the chain of a valve, by their plain parts: each is linked to what the valve's register holds
abbrev pub batch : ℤ → List (List ℤ) → List Call
batch valve [] = []
batch valve (p ∷ ps) = make valve p (valve ∷ []) ∷ batch valve ps

-- a dose and a flush, by component and milligrams; component 7 is the rinse
abbrev pub dose : ℕ → ℕ → List ℤ
dose c w = pos c ∷ (pos w ∷ (pos 0 ∷ []))

abbrev pub flush : ℕ → List ℤ
flush w = pos 7 ∷ (pos w ∷ (pos 1 ∷ []))

abbrev pub morning_calls : List Call
morning_calls = batch (pos 0) (flush 2000 ∷ (dose 11 15000 ∷ (dose 12 7500 ∷ (flush 2500 ∷ [])))) ++ (step ∷ [])

abbrev pub noon_calls : List Call
noon_calls = batch (pos 1) (flush 1800 ∷ (dose 11 9000 ∷ (flush 2200 ∷ []))) ++ (step ∷ (empty (pos 0) ∷ []))

abbrev pub evening_calls : List Call
evening_calls =
    batch (pos 0) (dose 13 4000 ∷ (flush 3000 ∷ []))
    ++ (copy (pos 2) (pos 1)
    ∷ (make (pos 2) (flush 500) (pos 2 ∷ [])
    ∷ (make (pos 3) (flush 100) (pos 3 ∷ [])
    ∷ (write (pos 3) (pos 0) (pos 3) ∷ []))))

abbrev pub closing_calls : List Call
closing_calls = tell ∷ (full ∷ (tell ∷ []))

abbrev pub day_calls : List Call
day_calls = morning_calls ++ (noon_calls ++ (evening_calls ++ closing_calls))
