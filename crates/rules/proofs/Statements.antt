-- The statements that contracts name, proved.
use Rattle.std.proofs.Common.{◌≡◌, ℕ, ◌^◌, ◌<◌, ◌≤◌, Bool, true, false, cond, ◌&&◌, ◌||◌, eqb, ltb, ◌↔◌, ◌∷◌, length, Some, None, Option, sym, refl, ap, ◌∙◌, subst, inl, inr, arith}
use Rattle.rules.specs.Rules.{Barrier, Lawful}
use Rattle.rules.specs.Book.{Reachable}
use Rattle.rules.specs.History.{History, history_run, new_history}
use Rattle.rules.specs.Promise.{cycle_steps, steps_in, slots_for}
use Rattle.rules.specs.Statements.{KeepsPromise, NothingInUseIsTakenBack, ReachableRecordsAreCounted, NotesNeverRunOut, ClosesWithin, RoomSuffices}
use Rattle.rules.specs.Planning.{cycle_steps_of, slots_needed}
use Rattle.rules.specs.Barriers.{lawful_test}
use Rattle.std.proofs.lemmas.Bool.{true≢false}
use Rattle.rules.proofs.Invariant.{Inv, placed}
use Rattle.rules.proofs.Runs.{run_sound, new_sound}
use Rattle.rules.proofs.NoteRoom.{never_24}
use Rattle.rules.proofs.ReachableCount.{counted, counted_once}
use Rattle.rules.proofs.MainPromise.{promise}

pub nothing_in_use_is_taken_back : NothingInUseIsTakenBack
nothing_in_use_is_taken_back b lawful z range slots l calls = promise z range b lawful slots l calls

pub reachable_records_are_counted : ReachableRecordsAreCounted
reachable_records_are_counted b lawful z range slots l calls = let (n, c) = counted j.book below in (n, c, λ m d. counted_once j.book n m c d)
  where
    j : History
    j = history_run z b (new_history z slots) calls

    inv : Inv z j
    inv = (run_sound z b lawful calls (new_history z slots) (new_sound z b lawful slots l)).inv

    below : (r : ℕ) → Reachable j.book r → r < length j.book.records
    below r y = let (p, h) = placed z j inv y in inv.owners.below p r h

pub notes_never_run_out : NotesNeverRunOut
notes_never_run_out b lawful z range slots l calls = never_24 z b lawful slots l calls

-- figures for planning
pub closes_within : (n k : ℕ) (r : Option ℕ) → r ≡ cycle_steps_of n k → (t : ℕ) → r ≡ Some t → ClosesWithin n k t
closes_within n k r e t f b lawful z range slots l calls scans c cs opens count enough =
    (promise z range b lawful slots l calls).closes_in_time c cs opens n count (subst (λ m. m ≤ steps_in (c ∷ cs)) (sym is_t) enough)
  where
    go : (u : Bool) → cond u None (Some (cycle_steps n k)) ≡ Some t → cycle_steps n k ≡ t
    go true g = let m : ◌≡◌ {A = ℕ} 0 1 = cc in absurd (omega arith)
    go false g = cc

    is_t : cycle_steps n z.scans ≡ t
    is_t = ap (cycle_steps n) scans ∙ go (eqb k 0) (sym e ∙ f)

pub room_suffices : (L Y K : ℕ) (r : Option ℕ) → r ≡ slots_needed L Y K → (s : ℕ) → r ≡ Some s → RoomSuffices L Y K s
room_suffices L Y K r e s f b lawful z range slots l calls places scans enough live =
    (promise z range b lawful slots l calls).room L live (subst (λ m. m ≤ z.slots) (sym is_s) enough)
  where
    go : (t u : Bool) → cond t None (cond u (Some (slots_for L Y K)) None) ≡ Some s → slots_for L Y K ≡ s
    go true u g = let m : ◌≡◌ {A = ℕ} 0 1 = cc in absurd (omega arith)
    go false true g = cc
    go false false g = let m : ◌≡◌ {A = ℕ} 0 1 = cc in absurd (omega arith)

    is_s : slots_for L z.places z.scans ≡ s
    is_s = ap (λ y. slots_for L y z.scans) places ∙ ap (slots_for L Y) scans ∙ go (eqb K 0) (ltb (slots_for L Y K) (2 ^ 64)) (sym e ∙ f)

-- the test of a barrier
pub lawful_by_test : (b : Barrier) → lawful_test b ≡ true → Lawful b
lawful_by_test b e = go (b.names_old false) refl (b.names_old true) refl b.rescans refl (b.names_new true) refl e
  where
    by_mark : b.names_old false ≡ true → b.names_old true ≡ true → (m : Bool) → b.names_old m ≡ true
    by_mark f g false = f
    by_mark f g true = g

    go : (u : Bool) → b.names_old false ≡ u → (v : Bool) → b.names_old true ≡ v → (s : Bool) → b.rescans ≡ s → (n : Bool) → b.names_new true ≡ n → ((u && v) || (s && n)) ≡ true → Lawful b
    go true f true g s h n k e = inl (by_mark f g)
    go true f false g true h true k e = inr (h, k)
    go true f false g true h false k e = absurd (true≢false (sym e))
    go true f false g false h n k e = absurd (true≢false (sym e))
    go false f v g true h true k e = inr (h, k)
    go false f v g true h false k e = absurd (true≢false (sym e))
    go false f v g false h n k e = absurd (true≢false (sym e))

pub test_by_lawful : (b : Barrier) → Lawful b → lawful_test b ≡ true
test_by_lawful b (inl l) = rw (l false, l true) refl
test_by_lawful b (inr l) = rw (l.0, l.1) (go (b.names_old false && b.names_old true))
  where
    go : (u : Bool) → (u || true) ≡ true
    go true = refl
    go false = refl

pub test_is_law : (b : Barrier) (r : Bool) → r ≡ lawful_test b → (r ≡ true) ↔ Lawful b
test_is_law b r e = (λ f. lawful_by_test b (sym e ∙ f), λ l. e ∙ test_by_lawful b l)

pub test_keeps_promise : (b : Barrier) (r : Bool) → r ≡ lawful_test b → r ≡ true → KeepsPromise b
test_keeps_promise b r e f = nothing_in_use_is_taken_back b (lawful_by_test b (sym e ∙ f))
