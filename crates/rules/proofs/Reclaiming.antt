-- A record out of reach when a cycle opens has no place once that cycle has closed.
use Rattle.std.proofs.Common.{◌≡◌, ℕ, ◌≤◌, Bool, true, false, ◌⊎◌, List, [], ◌∷◌, length, get_or, Some, None, Option, sym, refl, ap, ◌∙◌, subst, inl, inr, arith}
use Rattle.words.specs.declared.place.Place.{Place}
use Rattle.words.specs.declared.place.Place.TheVariants.{Young, Old}
use Rattle.rules.specs.Rules.{Barrier, Lawful, Sizes, Call, load, empty, copy, make, read, write, fill, plain, same, look, tell, step, full, visit_all}
use Rattle.rules.specs.Book.{Book}
use Rattle.rules.specs.History.{History, Holds, owners_after_copying, owners_after_freeing, history_call, history_run}
use Rattle.rules.specs.Promise.{OpensCycle, by_step, by_full, ClosedBy, at_once, later, Reclaimed}
use Rattle.std.proofs.lemmas.Bool.{true≢false}
use Rattle.std.proofs.lemmas.List.{length-append, length-set}
use Rattle.rules.proofs.Effects.{Effect, stay, puts, makes, writes_young, writes_old, fills}
use Rattle.rules.proofs.Calls.{call_effect}
use Rattle.rules.proofs.EffectsKeep.{holds_push}
use Rattle.rules.proofs.OpenCycle.{Good, good_reach, Open}
use Rattle.rules.proofs.OpenEffects.{effect_open}
use Rattle.rules.proofs.Steps.{AllGood, ScanClosed, Emptier, shut_emptier, open_emptier, step_open₀, step_shut₀, NoExtra}
use Rattle.rules.proofs.Full.{owners_after_freeing_older}
use Rattle.rules.proofs.Runs.{Sound, call_sound, full_good}

-- a record that has a place had one before, or is new
pub record Older (j j' : History) : Type 0 where
  pub longer : length j.book.records ≤ length j'.book.records
  pub had : (p : Place) (r : ℕ) → Holds j' p r → ((p₀ : Place) × Holds j p₀ r) ⊎ (length j.book.records ≤ r)

effect_older : (z : Sizes) (b : Barrier) (j j' : History) → Effect z b j j' → Older j j'
effect_older z b j j' (stay) = record { longer = omega arith; had = λ p r h. inl (p, h) }
effect_older z b j j' (puts i w x s o) = record { longer = omega arith; had = λ p r h. inl (p, h) }
effect_older z b j j' (makes i x y ready f g) = record { longer = simp length-append (omega arith); had = λ p r h. go p r (holds_push j.nursery_owners j.slot_owners (length j.book.records) p r h) }
  where
    go : (p : Place) (r : ℕ) → Holds j p r ⊎ ((p ≡ Young (length j.nursery_owners)) × (r ≡ length j.book.records)) → ((p₀ : Place) × Holds j p₀ r) ⊎ (length j.book.records ≤ r)
    go p r (inl h) = inl (p, h)
    go p r (inr h) = inr (omega (arith, h.1))
effect_older z b j j' (writes_young p r k w x h y s o) = record { longer = simp length-set (omega arith); had = λ p r h. inl (p, h) }
effect_older z b j j' (writes_old q r k w x h y s o) = record { longer = simp length-set (omega arith); had = λ p r h. inl (p, h) }
effect_older z b j j' (fills p r pl h) = record { longer = simp length-set (omega arith); had = λ p r h. inl (p, h) }

module _ (z : Sizes) (b : Barrier) (lawful : Lawful b) (j : History) (sound : Sound z b lawful j) where
  any_emptier : (os' : List (Option ℕ)) × Emptier z b j os'
  any_emptier = go j.store.cycle refl
    where
      go : (t : Bool) → j.store.cycle ≡ t → (os' : List (Option ℕ)) × Emptier z b j os'
      go true e = let (b₀, o) = sound.running e in let (os', m, _) = open_emptier z b lawful b₀ j sound.inv o in (os', m)
      go false e = shut_emptier z b j sound.inv e

  collect_older : (F : List ℕ) (j' : History) → j'.book ≡ j.book → j'.nursery_owners ≡ [] → j'.slot_owners ≡ owners_after_freeing F (owners_after_copying j.nursery_owners (visit_all z b j.store).forward j.slot_owners) → Older j j'
  collect_older F j' e f g = record { longer = subst (λ k. length j.book.records ≤ length k.records) (sym e) (omega arith); had = λ p r h. inl (had p r h) }
    where
      had : (p : Place) (r : ℕ) → Holds j' p r → (p₀ : Place) × Holds j p₀ r
      had (Young p) r h = absurd (omega (arith, h.0, ap length f))
      had (Old q) r h = any_emptier.1.older q r (owners_after_freeing_older F any_emptier.0 q r (subst (λ os. get_or (owners_after_freeing F os) q None ≡ Some r) any_emptier.1.owners (subst (λ os. get_or os q None ≡ Some r) g h)))

  pub call_older : (c : Call) → Older j (history_call z b j c)
  call_older (load r v) = effect_older z b j _ (call_effect z b j sound.inv (load r v) refl).0
  call_older (empty r) = effect_older z b j _ (call_effect z b j sound.inv (empty r) refl).0
  call_older (copy d t) = effect_older z b j _ (call_effect z b j sound.inv (copy d t) refl).0
  call_older (make d p rs) = effect_older z b j _ (call_effect z b j sound.inv (make d p rs) refl).0
  call_older (read d t k) = effect_older z b j _ (call_effect z b j sound.inv (read d t k) refl).0
  call_older (write d k t) = effect_older z b j _ (call_effect z b j sound.inv (write d k t) refl).0
  call_older (fill d p) = effect_older z b j _ (call_effect z b j sound.inv (fill d p) refl).0
  call_older (plain d) = effect_older z b j _ (call_effect z b j sound.inv (plain d) refl).0
  call_older (same d t) = effect_older z b j _ (call_effect z b j sound.inv (same d t) refl).0
  call_older (look r) = effect_older z b j _ (call_effect z b j sound.inv (look r) refl).0
  call_older tell = effect_older z b j _ (call_effect z b j sound.inv tell refl).0
  call_older step = collect_older (history_call z b j step).store.arcs.free (history_call z b j step) refl refl refl
  call_older full = collect_older (history_call z b j full).store.arcs.free (history_call z b j full) refl refl refl

  -- from the opening on: the cycle is open, or only good records are left
  abbrev pub Since : Book → History → Type 0
  Since b₀ j' = Open b lawful b₀ j' ⊎ AllGood b₀ j'

  good_call : (b₀ : Book) → AllGood b₀ j → (c : Call) → AllGood b₀ (history_call z b j c)
  good_call b₀ g c = record { longer = omega (arith, g.longer, (call_older c).longer); good = λ p r h. go r ((call_older c).had p r h) }
    where
      go : (r : ℕ) → ((p₀ : Place) × Holds j p₀ r) ⊎ (length j.book.records ≤ r) → Good b₀ r
      go r (inl h) = g.good h.0 r h.1
      go r (inr l) = inr (omega (arith, g.longer))

  swept_since : (P : History → Type 0) (k : ℕ) (b₀ : Book) (j' : History) → ScanClosed P k z b lawful b₀ j' → Since b₀ j'
  swept_since P k b₀ j' s = go s.phase
    where
      go : Open b lawful b₀ j' ⊎ ((j'.store.cycle ≡ false) × AllGood b₀ j') → Since b₀ j'
      go (inl o) = inl o
      go (inr f) = inr f.1

  open_call : (b₀ : Book) → Open b lawful b₀ j → (c : Call) → Since b₀ (history_call z b j c)
  open_call b₀ o (load r v) = inl (effect_open z b lawful b₀ j _ (call_effect z b j sound.inv (load r v) refl).0 sound.inv o)
  open_call b₀ o (empty r) = inl (effect_open z b lawful b₀ j _ (call_effect z b j sound.inv (empty r) refl).0 sound.inv o)
  open_call b₀ o (copy d t) = inl (effect_open z b lawful b₀ j _ (call_effect z b j sound.inv (copy d t) refl).0 sound.inv o)
  open_call b₀ o (make d p rs) = inl (effect_open z b lawful b₀ j _ (call_effect z b j sound.inv (make d p rs) refl).0 sound.inv o)
  open_call b₀ o (read d t k) = inl (effect_open z b lawful b₀ j _ (call_effect z b j sound.inv (read d t k) refl).0 sound.inv o)
  open_call b₀ o (write d k t) = inl (effect_open z b lawful b₀ j _ (call_effect z b j sound.inv (write d k t) refl).0 sound.inv o)
  open_call b₀ o (fill d p) = inl (effect_open z b lawful b₀ j _ (call_effect z b j sound.inv (fill d p) refl).0 sound.inv o)
  open_call b₀ o (plain d) = inl (effect_open z b lawful b₀ j _ (call_effect z b j sound.inv (plain d) refl).0 sound.inv o)
  open_call b₀ o (same d t) = inl (effect_open z b lawful b₀ j _ (call_effect z b j sound.inv (same d t) refl).0 sound.inv o)
  open_call b₀ o (look r) = inl (effect_open z b lawful b₀ j _ (call_effect z b j sound.inv (look r) refl).0 sound.inv o)
  open_call b₀ o tell = inl (effect_open z b lawful b₀ j _ (call_effect z b j sound.inv tell refl).0 sound.inv o)
  open_call b₀ o step = swept_since NoExtra z.scans b₀ (history_call z b j step) (step_open₀ z b lawful b₀ j sound.inv o)
  open_call b₀ o full = inr (record { longer = o.book.longer; good = λ p r h. go r ((full_good z b lawful j sound).good p r h) })
    where
      go : (r : ℕ) → Good j.book r → Good b₀ r
      go r (inl y) = good_reach o.book y
      go r (inr l) = inr (omega (arith, o.book.longer))

  pub since_call : (b₀ : Book) → Since b₀ j → (c : Call) → Since b₀ (history_call z b j c)
  since_call b₀ (inl o) c = open_call b₀ o c
  since_call b₀ (inr g) c = inr (good_call b₀ g c)

  pub opens_since : (c : Call) → OpensCycle j c → Since j.book (history_call z b j c)
  opens_since c (by_step e) = swept_since NoExtra z.scans j.book (history_call z b j step) (step_shut₀ z b lawful j sound.inv e)
  opens_since c (by_full) = inr (full_good z b lawful j sound)

good_run : (z : Sizes) (b : Barrier) (lawful : Lawful b) (b₀ : Book) (cs : List Call) (j : History) → Sound z b lawful j → AllGood b₀ j → AllGood b₀ (history_run z b j cs)
good_run z b lawful b₀ [] j s g = g
good_run z b lawful b₀ (c ∷ cs) j s g = good_run z b lawful b₀ cs (history_call z b j c) (call_sound z b lawful j s c) (good_call z b lawful j s b₀ g c)

closed_run : (z : Sizes) (b : Barrier) (lawful : Lawful b) (b₀ : Book) {j : History} {cs : List Call} → Sound z b lawful j → Open b lawful b₀ j ⊎ AllGood b₀ j → ClosedBy z b j cs → AllGood b₀ (history_run z b j cs)
closed_run z b lawful b₀ {j} {cs} s (inl o) (at_once e) = absurd (true≢false (sym o.cycle ∙ e))
closed_run z b lawful b₀ {j} {cs} s (inr g) (at_once e) = good_run z b lawful b₀ cs j s g
closed_run z b lawful b₀ {j} s since (later {c = c} rest) = closed_run z b lawful b₀ (call_sound z b lawful j s c) (since_call z b lawful j s b₀ since c) rest

pub all_reclaimed : (z : Sizes) (b : Barrier) (lawful : Lawful b) (j : History) → Sound z b lawful j → (c : Call) (cs : List Call) → Reclaimed z b j c cs
all_reclaimed z b lawful j s c cs opens r l unreachable closed p h = go ((closed_run z b lawful j.book (call_sound z b lawful j s c) (opens_since z b lawful j s c opens) closed).good p r h)
  where
    go : Good j.book r → ⊥
    go (inl y) = unreachable y
    go (inr m) = omega arith
