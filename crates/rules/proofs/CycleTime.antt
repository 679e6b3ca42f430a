-- A cycle closes in time.
use Rattle.std.proofs.Common.{◌≡◌, ℕ, suc, ◌+◌, ◌≤◌, false, cond, ◌⊎◌, List, [], ◌∷◌, sym, refl, ap, subst, inl, inr, arith}
use Rattle.rules.specs.Rules.{Barrier, Lawful, Sizes, Call, load, empty, copy, make, read, write, fill, plain, same, look, tell, step, full}
use Rattle.rules.specs.Book.{Book}
use Rattle.rules.specs.History.{History, collects, history_call}
use Rattle.rules.specs.Promise.{by_step, by_full, ClosedBy, at_once, later, Counted, ClosesInTime, cycle_steps, steps_in}
use Rattle.rules.proofs.Calls.{call_effect}
use Rattle.rules.proofs.OpenCycle.{Open}
use Rattle.rules.proofs.OpenEffects.{effect_open}
use Rattle.rules.proofs.Steps.{AllGood, ScanClosed, step_open, step_shut}
use Rattle.rules.proofs.Runs.{Sound, call_sound, full_closed₀}
use Rattle.rules.proofs.ScanCount.{Paced, PacedIf, paced_bound, effect_paced, step_paced, first_paced, cycle_steps_bound}

-- a call collects or is a step or a full collection
pub which : (c : Call) → (collects c ≡ false) ⊎ ((c ≡ step) ⊎ (c ≡ full))
which (load r v) = inl refl
which (empty r) = inl refl
which (copy d t) = inl refl
which (make d p rs) = inl refl
which (read d t k) = inl refl
which (write d k t) = inl refl
which (fill d p) = inl refl
which (plain d) = inl refl
which (same d t) = inl refl
which (look r) = inl refl
which tell = inl refl
which step = inr (inl refl)
which full = inr (inr refl)

module _ (z : Sizes) (b : Barrier) (lawful : Lawful b) (some_scans : 1 ≤ z.scans) (b₀ : Book) (n : ℕ) (counted : Counted b₀ n) where
  -- after m steps, still open
  closes : (cs : List Call) (m : ℕ) (j : History) → Sound z b lawful j → Open b lawful b₀ j → Paced z b₀ m j → cycle_steps n z.scans ≤ m + steps_in cs → ClosedBy z b j cs
  closes [] m j s o p l = absurd (omega (arith, cycle_steps_bound n z.scans m some_scans (omega arith), paced_bound z b lawful b₀ m j s.inv o p n counted))
  closes (c ∷ cs) m j s o p l = go (which c) (λ m' o' p' l'. closes cs m' (history_call z b j c) (call_sound z b lawful j s c) o' p' l')
    where
      after_step : (s' : ScanClosed (PacedIf z b₀ (suc m)) z.scans z b lawful b₀ (history_call z b j step)) → ((m' : ℕ) → Open b lawful b₀ (history_call z b j step) → Paced z b₀ m' (history_call z b j step) → cycle_steps n z.scans ≤ m' + steps_in cs → ClosedBy z b (history_call z b j step) cs) → cycle_steps n z.scans ≤ m + suc (steps_in cs) → ClosedBy z b (history_call z b j step) cs
      after_step s' f l = by s'.phase
        where
          by : Open b lawful b₀ (history_call z b j step) ⊎ (((history_call z b j step).store.cycle ≡ false) × AllGood b₀ (history_call z b j step)) → ClosedBy z b (history_call z b j step) cs
          by (inl o') = f (suc m) o' (s'.extra o'.cycle) (omega arith)
          by (inr e) = at_once e.0

      at : (c : Call) → c ≡ step → ((m' : ℕ) → Open b lawful b₀ (history_call z b j c) → Paced z b₀ m' (history_call z b j c) → cycle_steps n z.scans ≤ m' + steps_in cs → ClosedBy z b (history_call z b j c) cs) → cycle_steps n z.scans ≤ m + steps_in (c ∷ cs) → ClosedBy z b j (c ∷ cs)
      at c e = subst (λ c. ((m' : ℕ) → Open b lawful b₀ (history_call z b j c) → Paced z b₀ m' (history_call z b j c) → cycle_steps n z.scans ≤ m' + steps_in cs → ClosedBy z b (history_call z b j c) cs) → cycle_steps n z.scans ≤ m + steps_in (c ∷ cs) → ClosedBy z b j (c ∷ cs)) (sym e) (λ f l. later (after_step (step_open (PacedIf z b₀ (suc m)) z b lawful b₀ j (step_paced z b lawful b₀ m j s.inv p) s.inv o) f l))

      go : (collects c ≡ false) ⊎ ((c ≡ step) ⊎ (c ≡ full)) → ((m' : ℕ) → Open b lawful b₀ (history_call z b j c) → Paced z b₀ m' (history_call z b j c) → cycle_steps n z.scans ≤ m' + steps_in cs → ClosedBy z b (history_call z b j c) cs) → ClosedBy z b j (c ∷ cs)
      go (inl e) f =
          let mv = (call_effect z b j s.inv c e).0 in
          let same : steps_in (c ∷ cs) ≡ steps_in cs = ap (λ t. cond t (suc (steps_in cs)) (steps_in cs)) e in
          later (f m (effect_open z b lawful b₀ j (history_call z b j c) mv s.inv o) (effect_paced z b b₀ m j (history_call z b j c) mv p) (omega arith))
      go (inr (inl e)) f = at c e f l
      go (inr (inr e)) f = later (at_once (subst (λ c. (history_call z b j c).store.cycle ≡ false) (sym e) ((full_closed₀ z b lawful j s).ended (omega arith))))

pub all_in_time : (z : Sizes) (b : Barrier) (lawful : Lawful b) → 1 ≤ z.scans → (j : History) → Sound z b lawful j → (c : Call) (cs : List Call) → ClosesInTime z b j c cs
all_in_time z b lawful l j s c cs (by_step e) n counted h =
    let s' = step_shut (PacedIf z j.book 1) z b lawful j (first_paced z b lawful j) s.inv e in
    go s' s'.phase
  where
    go : ScanClosed (PacedIf z j.book 1) z.scans z b lawful j.book (history_call z b j step) → Open b lawful j.book (history_call z b j step) ⊎ (((history_call z b j step).store.cycle ≡ false) × AllGood j.book (history_call z b j step)) → ClosedBy z b (history_call z b j step) cs
    go s' (inl o) = closes z b lawful l j.book n counted cs 1 (history_call z b j step) (call_sound z b lawful j s step) o (s'.extra o.cycle) (omega arith)
    go s' (inr f) = at_once f.0
all_in_time z b lawful l j s c cs (by_full) n counted h = at_once ((full_closed₀ z b lawful j s).ended (omega arith))
