-- The typed results of the calls, as the answers that the rules define: each case by its number and values.
use Rattle.std.specs.Prelude.{ℕ, Bool, true, cond, List, [], ◌∷◌, ℤ, pos, Some, None, Ok, Err, Option, Result}
use Rattle.words.specs.Words.{is_number}
use Rattle.words.specs.declared.word.Word.{Word}
use Rattle.words.specs.declared.word.Word.TheVariants.{Nothing as no_word, Number as a_number, Nursery as young_word, Slot as old_word}
use Rattle.rules.specs.Rules.{Answer, refused, done, counts, flag, in_range, index}
use Rattle.kinds.specs.declared.fault.StoreFault.TheVariants.{NoSuchRegister, Closed}
use Rattle.kinds.specs.declared.fault.StoreFault.{StoreFault}
use Rattle.registers.specs.declared.seen.Seen.{Seen}
use Rattle.registers.specs.declared.seen.Seen.TheVariants.{Nothing, Number, Record}
use Rattle.kinds.specs.Faults.{store_refusal}

-- a call that answers nothing but that it is done
abbrev pub told_done : {U : Type 0} → Result U StoreFault → Answer
told_done (Ok u) = done []
told_done (Err e) = refused (store_refusal e)

-- a call that answers 1 or 0
abbrev pub told_flag : Result Bool StoreFault → Answer
told_flag (Ok t) = counts (flag t ∷ [])
told_flag (Err e) = refused (store_refusal e)

-- look: 0 for nothing, 1 and the number, 2 for a record
abbrev pub seen_values : Seen → List ℤ
seen_values Nothing = pos 0 ∷ []
seen_values (Number v) = pos 1 ∷ (v ∷ [])
seen_values Record = pos 2 ∷ []

-- what a word's meaning is to a caller: of a record only that it is one
abbrev pub seen_as : Word → Seen
seen_as no_word = Nothing
seen_as (a_number v) = Number v
seen_as (young_word p) = Record
seen_as (old_word q) = Record

-- a number that is seen is in the word range
abbrev pub seen_in_range : Seen → Bool
seen_in_range Nothing = true
seen_in_range (Number v) = is_number v
seen_in_range Record = true

abbrev pub told_seen : Result Seen StoreFault → Answer
told_seen (Ok s) = done (seen_values s)
told_seen (Err e) = refused (store_refusal e)

-- why: 0, or the refusal of the opening
abbrev pub told_why : {U : Type 0} → Result U StoreFault → ℕ
told_why (Ok u) = 0
told_why (Err e) = store_refusal e

-- a closed store refuses
abbrev pub ready_at : {U : Type 0} → Result U StoreFault → Result U StoreFault
ready_at (Ok u) = Ok u
ready_at (Err e) = Err Closed

-- the index that a number is, if it is below n
abbrev pub index_in : ℕ → ℤ → Option ℕ
index_in n v = cond (in_range v n) (Some (index v)) None

-- the index of a register, of n
abbrev pub register_at : ℕ → ℤ → Result ℕ StoreFault
register_at n r = cond (in_range r n) (Ok (index r)) (Err NoSuchRegister)

-- then, or the first refusal
abbrev pub and_then : {U V : Type 0} → Result U StoreFault → Result V StoreFault → Result V StoreFault
and_then (Ok u) x = x
and_then (Err e) x = Err e

-- the index of a register of an open store, of n
abbrev pub open_register : {U : Type 0} → Result U StoreFault → ℕ → ℤ → Result ℕ StoreFault
open_register status n r = and_then (ready_at status) (register_at n r)
