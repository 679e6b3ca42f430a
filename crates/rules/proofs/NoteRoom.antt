-- There is always room for one more note: refusal 24 is never answered.
use Rattle.std.proofs.Common.{◌≡◌, ℕ, ◌<◌, ◌≤◌, Bool, true, false, not, ◌&&◌, ltb, leb, ◌⊎◌, List, ◌∷◌, length, refl, subst, inl, inr, arith}
use Rattle.words.specs.Words.{place_of}
use Rattle.ring.specs.Arcs.{has, upto}
use Rattle.rules.specs.Rules.{Record, Barrier, Lawful, Sizes, Call, refused, is_young, needs_note, run_call}
use Rattle.rules.specs.History.{History, history_run, new_history}
use Rattle.std.proofs.lemmas.Bool.{cases_eq, lt-leb, lt-ltb}
use Rattle.ring.specs.Sound.{count}
use Rattle.ring.proofs.Fresh.{count_upto, length_upto}
use Rattle.rules.proofs.Counting.{one_if, count_self, count_other, hasnt_count, length_by_counts}
use Rattle.rules.proofs.Invariant.{Inv}
use Rattle.rules.proofs.Runs.{run_sound, new_sound}
use Rattle.rules.proofs.Refusals.{not_refused}

module _ (z : Sizes) (j : History) (inv : Inv z j) where
  -- a slot that is not noted yet leaves fewer notes than slots
  notes_few : (q : ℕ) → q < z.slots → has q j.store.notes ≡ false → length j.store.notes < z.slots
  notes_few q l n = omega (arith, length_by_counts (q ∷ j.store.notes) (upto 0 z.slots) once, length_upto 0 z.slots)
    where
      once : (s : ℕ) → count s (q ∷ j.store.notes) ≤ count s (upto 0 z.slots)
      once s = rw (count_upto s z.slots) (by (cases_eq q s))
        where
          here : count q (q ∷ j.store.notes) ≤ one_if (ltb q z.slots)
          here = rw (lt-ltb q z.slots l) (omega (arith, count_self q j.store.notes, hasnt_count q j.store.notes n))

          by : (q ≡ s) ⊎ (q ≡ s → ⊥) → count s (q ∷ j.store.notes) ≤ one_if (ltb s z.slots)
          by (inl e) = subst (λ x. count x (q ∷ j.store.notes) ≤ one_if (ltb x z.slots)) e here
          by (inr e) = omega (arith, count_other s q j.store.notes e, inv.noted_once s)

  pub notes_room : (q w : ℕ) → q < z.slots → (needs_note j.store q w && leb z.slots (length j.store.notes)) ≡ false
  notes_room q w l = go (is_young (place_of w)) (has q j.store.notes) refl
    where
      go : (t u : Bool) → has q j.store.notes ≡ u → ((t && not u) && leb z.slots (length j.store.notes)) ≡ false
      go false u e = refl
      go true true e = refl
      go true false e = lt-leb z.slots (length j.store.notes) (notes_few q l e)

pub never_24 : (z : Sizes) (b : Barrier) → Lawful b → (slots : List Record) → length slots ≡ z.slots → (before : List Call) (c : Call) → (run_call z b (history_run z b (new_history z slots) before).store c).1 ≡ refused 24 → ⊥
never_24 z b lawful slots l before c =
    let j = history_run z b (new_history z slots) before in
    let s = run_sound z b lawful before (new_history z slots) (new_sound z b lawful slots l) in
    not_refused z b j.store 24 refl (λ e. absurd (omega arith)) (λ _. notes_room z j s.inv) c
