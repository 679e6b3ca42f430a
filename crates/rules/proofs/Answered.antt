-- The refusals that an open store can answer are exactly those of the list: each comes in a small run, and no other in any.
use Rattle.std.proofs.Common.{◌≡◌, ℕ, Bool, true, false, ◌||◌, eqb, ◌↔◌, List, [], ◌∷◌, pos, sym, refl, ◌∙◌, subst, inl, arith}
use Rattle.ring.specs.Arcs.{has}
use Rattle.rules.specs.Rules.{no_record, Sizes, Call, load, make, read, look, step, refused, run_call, snapshot}
use Rattle.rules.specs.History.{History, new_history}
use Rattle.rules.specs.Promise.{InRange}
use Rattle.rules.specs.Statements.{after, may_refuse, Answered}
use Rattle.std.proofs.lemmas.Bool.{eqb-true, true≢false}
use Rattle.ring.proofs.Chain.{count_hasnt}
use Rattle.rules.proofs.Counting.{hasnt_count}
use Rattle.rules.proofs.Invariant.{Inv}
use Rattle.rules.proofs.Runs.{run_sound, new_sound}
use Rattle.rules.proofs.Refusals.{earlier, not_refused}
use Rattle.rules.proofs.NoteRoom.{notes_room}

-- the smallest store of pairs
abbrev smallest : Sizes
smallest = record { slots = 1; places = 1; registers = 1; scans = 1; links = 2 }

smallest_in_range : InRange smallest
smallest_in_range = record { slots = (omega arith, omega arith); places = (omega arith, omega arith); registers = (omega arith, omega arith); scans = (omega arith, omega arith); links = omega arith }

by_run : (n : ℕ) (calls : List Call) (c : Call) → (run_call smallest snapshot (after snapshot smallest (no_record ∷ []) calls).store c).1 ≡ refused n → Answered n
by_run n calls c e = record { barrier = snapshot; lawful = inl (λ m. refl); sizes = smallest; in_range = smallest_in_range; slots = no_record ∷ []; size = refl; calls = calls; call = c; answer = e }

abbrev make_one : Call
make_one = make (pos 0) [] (pos 0 ∷ (pos 0 ∷ []))

-- what holds of the first of a list and of what else is in it
or_rest : (P : ℕ → Type 0) (n x : ℕ) (xs : List ℕ) → P x → (has n xs ≡ true → P n) → has n (x ∷ xs) ≡ true → P n
or_rest P n x xs first rest h = go (eqb x n) refl h
  where
    go : (t : Bool) → eqb x n ≡ t → (t || has n xs) ≡ true → P n
    go true e h = subst P (eqb-true x n e) first
    go false e h = rest h

pub answered : (n : ℕ) → may_refuse n ≡ true → Answered n
answered n =
    or_rest Answered n 3 (4 ∷ (5 ∷ (6 ∷ (21 ∷ (22 ∷ (23 ∷ [])))))) (by_run 3 [] (look (pos 1)) refl)
    (or_rest Answered n 4 (5 ∷ (6 ∷ (21 ∷ (22 ∷ (23 ∷ []))))) (by_run 4 [] (load (pos 0) (pos 536870912)) refl)
    (or_rest Answered n 5 (6 ∷ (21 ∷ (22 ∷ (23 ∷ [])))) (by_run 5 [] (read (pos 0) (pos 0) (pos 2)) refl)
    (or_rest Answered n 6 (21 ∷ (22 ∷ (23 ∷ []))) (by_run 6 [] (make (pos 0) [] []) refl)
    (or_rest Answered n 21 (22 ∷ (23 ∷ [])) (by_run 21 [] (read (pos 0) (pos 0) (pos 0)) refl)
    (or_rest Answered n 22 (23 ∷ []) (by_run 22 (make_one ∷ []) make_one refl)
    (or_rest Answered n 23 [] (by_run 23 (make_one ∷ (step ∷ [])) make_one refl) (λ e. absurd (true≢false (sym e)))))))))

pub not_answered : (n : ℕ) → may_refuse n ≡ false → Answered n → ⊥
not_answered n e a = not_refused a.sizes a.barrier j.store n (count_hasnt n earlier (omega (arith, hasnt_count n (3 ∷ (4 ∷ (5 ∷ (6 ∷ (21 ∷ (22 ∷ (23 ∷ []))))))) e))) (λ f. absurd (not_23 f)) (λ _. notes_room a.sizes j inv) a.call a.answer
  where
    j : History
    j = after a.barrier a.sizes a.slots a.calls

    inv : Inv a.sizes j
    inv = (run_sound a.sizes a.barrier a.lawful a.calls (new_history a.sizes a.slots) (new_sound a.sizes a.barrier a.lawful a.slots a.size)).inv

    not_23 : n ≡ 23 → ⊥
    not_23 f = true≢false (subst (λ m. may_refuse m ≡ false) f e)

pub refusals_exact : (n : ℕ) (r : Bool) → r ≡ may_refuse n → (r ≡ true) ↔ Answered n
refusals_exact n r e = (λ f. answered n (sym e ∙ f), λ a. e ∙ go (may_refuse n) refl a)
  where
    go : (t : Bool) → may_refuse n ≡ t → Answered n → t ≡ true
    go true f a = refl
    go false f a = absurd (not_answered n f a)
