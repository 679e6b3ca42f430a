-- Calls as values and their typed answers, as the rules have them: each case by its number and values.
use Rattle.std.specs.Prelude.{◌≡◌, ℕ, Bool, List, [], ◌∷◌, replicate, IfOk, Ok, Err, vec_items, Result}
use Rattle.rules.specs.Rules.{Barrier, load, empty, copy, make, read, write, fill, plain, same, look, tell, step, full, refused, done, gave, counts, flag}
use Rattle.rules.specs.Rules as rules
use Rattle.kinds.specs.Faults.{store_refusal}
use Rattle.kinds.specs.declared.fault.StoreFault.{StoreFault}
use Rattle.kinds.specs.declared.kind.Kind.{Ghosts}
use Rattle.registers.specs.Answers.{seen_values}
use Rattle.registers.specs.State.{State, after, answer}
use Rattle.registers.specs.declared.seen.Seen.{Seen}
use Rattle.heap.specs.declared.stepped.Stepped.{Stepped}
use Rattle.ring.specs.declared.arcs.Lengths.{Lengths}
use Rattle.store.specs.declared.call.Call.{Call}
use Rattle.store.specs.declared.call.Call.TheVariants.{Load, Empty, Copy, Make, Read, Write, Fill, Plain, Same, Look, Tell, Step, Full}
use Rattle.store.specs.declared.call.Answer.{Answer}
use Rattle.store.specs.declared.call.Answer.TheVariants.{Done, Count, Given, Flag, Held, Arcs, Collected}

-- the call of the rules; a template stands for its plain part
abbrev pub call_of : {X : Type 0} → Ghosts X → Call X → rules.Call
call_of g (Load r v) = load r v
call_of g (Empty r) = empty r
call_of g (Copy d s) = copy d s
call_of g (Make d x ls) = make d (g.plain x) (vec_items ls)
call_of g (Read d s k) = read d s k
call_of g (Write s k t) = write s k t
call_of g (Fill s x) = fill s (g.plain x)
call_of g (Plain s x) = plain s
call_of g (Same a b) = same a b
call_of g (Look r) = look r
call_of g Tell = tell
call_of g Step = step
call_of g Full = full

-- the answer of the rules
abbrev pub answered : {X : Type 0} → Ghosts X → Answer X → rules.Answer
answered g Done = done []
answered g (Count n) = counts (n ∷ [])
answered g (Given x) = gave (g.plain x)
answered g (Flag t) = counts (flag t ∷ [])
answered g (Held s) = done (seen_values s)
answered g (Arcs l) = counts (l.free ∷ (l.white ∷ (l.grey ∷ (l.black ∷ []))))
answered g (Collected r) = counts (r.copied ∷ (r.scanned ∷ (r.freed ∷ (flag r.cycle_open ∷ []))))

-- what a call gives back: an answer or a refusal
abbrev pub Outcome : Type 0 → Type 0
Outcome X = Result (Answer X) StoreFault

abbrev pub told_call : {X : Type 0} → Ghosts X → Outcome X → rules.Answer
told_call g (Ok a) = answered g a
told_call g (Err e) = refused (store_refusal e)

-- a record that was given, with nothing in its links
abbrev pub GivenBare : {X : Type 0} → Ghosts X → Answer X → Type 0
GivenBare {X} g a = (y : X) × (a ≡ Given y) × (g.links y ≡ replicate g.count 0)

-- the case of an accepted call's answer
abbrev pub Suits : {X : Type 0} → Ghosts X → Call X → Answer X → Type 0
Suits g (Load r v) a = a ≡ Done
Suits g (Empty r) a = a ≡ Done
Suits g (Copy d s) a = a ≡ Done
Suits g (Make d x ls) a = (n : ℕ) × (a ≡ Count n)
Suits g (Plain s x) a = GivenBare g a
Suits g (Read d s k) a = a ≡ Done
Suits g (Write s k t) a = a ≡ Done
Suits g (Fill s x) a = a ≡ Done
Suits g (Same c d) a = (t : Bool) × (a ≡ Flag t)
Suits g (Look r) a = (s : Seen) × (a ≡ Held s)
Suits g Tell a = (l : Lengths) × (a ≡ Arcs l)
Suits g Step a = (r : Stepped) × (a ≡ Collected r)
Suits g Full a = (r : Stepped) × (a ≡ Collected r)

-- r is what the store in state s answers to the call c under barrier b
pub record Answers {X : Type 0} (g : Ghosts X) (b : Barrier) (s : State) (c : Call X) (r : Outcome X) : Type 0 where
  pub told : told_call g r ≡ answer b s (call_of g c)
  pub case : IfOk r (Suits g c)

-- a list of calls: each has its answer, in the state that the calls before it left
abbrev pub AllAnswered : {X : Type 0} → Ghosts X → Barrier → State → List (Call X) → List (Outcome X) → Type 0
AllAnswered g b s [] [] = Unit {0}
AllAnswered g b s [] (r ∷ rs) = ⊥
AllAnswered g b s (c ∷ cs) [] = ⊥
AllAnswered g b s (c ∷ cs) (r ∷ rs) = Answers g b s c r × AllAnswered g b (after b s (call_of g c)) cs rs

-- the state after a list of calls
abbrev pub after_all : {X : Type 0} → Ghosts X → Barrier → State → List (Call X) → State
after_all g b s [] = s
after_all g b s (c ∷ cs) = after_all g b (after b s (call_of g c)) cs
