-- A list of calls, made one after the other.
use Rattle.std.proofs.Common.{◌≡◌, ℕ, zero, suc, List, [], ◌∷◌, ◌++◌, map, get_or, sym, refl, ap, ◌∙◌, subst, append_assoc, append-nil, arith}
use Rattle.rules.specs.Rules.{Barrier, Sizes, Store, refused, done, run_call}
use Rattle.rules.specs.Rules as rules
use Rattle.rules.specs.Book.{book_call}
use Rattle.rules.specs.History.{History, history_call, history_run}
use Rattle.rules.specs.Promise.{Agrees, NeverLacksRoom}
use Rattle.kinds.specs.declared.kind.Kind.{Ghosts}
use Rattle.heap.specs.declared.heap.Heap.{Heap}
use Rattle.registers.specs.State.{State, after}
use Rattle.heap.specs.View.{view}
use Rattle.store.specs.declared.call.Call.{Call}
use Rattle.store.specs.Calls.{Outcome, call_of, told_call, Answers, AllAnswered, after_all}
use Rattle.store.specs.Promised.{Ran, book_answers}

module _ {X : Type 0} (g : Ghosts X) (b : Barrier) where
  -- one call more
  pub after_push : (s : State) (cs : List (Call X)) (c : Call X) → after_all g b s (cs ++ (c ∷ [])) ≡ after b (after_all g b s cs) (call_of g c)
  after_push s [] c = refl
  after_push s (d ∷ cs) c = after_push (after b s (call_of g d)) cs c

  pub answered_push : (s : State) (cs : List (Call X)) (rs : List (Outcome X)) (c : Call X) (r : Outcome X) → AllAnswered g b s cs rs → Answers g b (after_all g b s cs) c r → AllAnswered g b s (cs ++ (c ∷ [])) (rs ++ (r ∷ []))
  answered_push s [] [] c r a last = (last, tt)
  answered_push s [] (q ∷ rs) c r a last = absurd a
  answered_push s (d ∷ cs) [] c r a last = absurd a
  answered_push s (d ∷ cs) (q ∷ rs) c r a last = (a.0, answered_push (after b s (call_of g d)) cs rs c r a.1 last)

  -- nothing made yet, and one call more
  pub ran_none : {B : Type 0} (h : Heap X B) (was : List (Outcome X)) → Ran g b (view g h) [] was was h
  ran_none h was = record { answers = []; added = sym (append-nil was); answered = tt; state = refl }

  pub ran_push : {B : Type 0} (s : State) (cs : List (Call X)) (was is more : List (Outcome X)) (h k : Heap X B) (c : Call X) (r : Outcome X) → Ran g b s cs was is h → view g k ≡ after b (view g h) (call_of g c) → Answers g b (view g h) c r → more ≡ is ++ (r ∷ []) → Ran g b s (cs ++ (c ∷ [])) was more k
  ran_push s cs was is more h k c r ran next last e = record {
    answers = ran.answers ++ (r ∷ []);
    added = e ∙ ap (λ xs. xs ++ (r ∷ [])) ran.added ∙ append_assoc was ran.answers (r ∷ []);
    answered = answered_push s cs ran.answers c r ran.answered (subst (λ x. Answers g b x c r) ran.state last);
    state = next ∙ ap (λ x. after b x (call_of g c)) ran.state ∙ sym (after_push s cs c);
  }

-- a state of an open store
abbrev pub open_state : Sizes → Store → State
open_state z x = record { why = 0; sizes = z; store = x }

module _ {X : Type 0} (g : Ghosts X) (z : Sizes) (b : Barrier) where
  -- an open store goes by the rules
  pub runs_by_rules : (j : History) (cs : List (Call X)) → after_all g b (open_state z j.store) cs ≡ open_state z (history_run z b j (map (call_of g) cs)).store
  runs_by_rules j [] = refl
  runs_by_rules j (c ∷ cs) = runs_by_rules (history_call z b j (call_of g c)) cs

  -- and answers as the book does
  pub answers_by_book : (j : History) → ((before : List rules.Call) (c : rules.Call) → Agrees z b (history_run z b j before) c) → (cs : List (Call X)) (rs : List (Outcome X)) → AllAnswered g b (open_state z j.store) cs rs → map (told_call g) rs ≡ book_answers z b j (map (call_of g) cs)
  answers_by_book j agree [] [] a = refl
  answers_by_book j agree [] (r ∷ rs) a = absurd a
  answers_by_book j agree (c ∷ cs) [] a = absurd a
  answers_by_book j agree (c ∷ cs) (r ∷ rs) a =
      ap (λ x. x ∷ map (told_call g) rs) (a.0.told ∙ agree [] (call_of g c))
      ∙ ap (λ xs. (book_call z j.book (call_of g c) (run_call z b j.store (call_of g c)).1).1 ∷ xs)
      (answers_by_book (history_call z b j (call_of g c)) (λ before d. agree (call_of g c ∷ before) d) cs rs a.1)

  -- no answer is a refusal for want of a slot where no call of the rules is refused so
  pub never_23 : (j : History) (cs : List (Call X)) (rs : List (Outcome X)) → AllAnswered g b (open_state z j.store) cs rs → NeverLacksRoom z b j (map (call_of g) cs) → (i : ℕ) → get_or (map (told_call g) rs) i (done []) ≡ refused 23 → ⊥
  never_23 j [] [] a n i e = let k : ◌≡◌ {A = ℕ} 0 1 = cc in omega arith
  never_23 j [] (r ∷ rs) a n i e = absurd a
  never_23 j (c ∷ cs) [] a n i e = absurd a
  never_23 j (c ∷ cs) (r ∷ rs) a n zero e = n.0 (sym a.0.told ∙ e)
  never_23 j (c ∷ cs) (r ∷ rs) a n (suc i) e = never_23 (history_call z b j (call_of g c)) cs rs a.1 n.1 i e
