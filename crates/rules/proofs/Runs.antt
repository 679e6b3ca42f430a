-- Every list of calls: the invariant, the answers, and what a cycle frees.
use Rattle.std.proofs.Common.{◌≡◌, ℕ, Bool, true, false, ◌⊎◌, List, [], ◌∷◌, length, sym, refl, ◌∙◌, inl, inr, arith}
use Rattle.words.specs.declared.place.Place.{Place}
use Rattle.words.specs.declared.place.Place.TheVariants.{Young, Old}
use Rattle.rules.specs.Rules.{Record, Barrier, Lawful, Sizes, Call, load, empty, copy, make, read, write, fill, plain, same, look, tell, step, full}
use Rattle.rules.specs.Book.{Book}
use Rattle.rules.specs.History.{History, history_call, history_run, new_history}
use Rattle.rules.specs.Promise.{Faithful, Agrees, FullFinishes}
use Rattle.std.proofs.lemmas.Bool.{true≢false}
use Rattle.rules.proofs.Invariant.{Inv, new_inv, faithful}
use Rattle.rules.proofs.Effects.{fill_history, Effect, stay, puts, makes, writes_young, writes_old, fills}
use Rattle.rules.proofs.Calls.{call_effect}
use Rattle.rules.proofs.EffectsKeep.{effect_inv}
use Rattle.rules.proofs.OpenCycle.{Open}
use Rattle.rules.proofs.OpenEffects.{effect_open}
use Rattle.rules.proofs.Steps.{AllGood, ScanClosed, step_open₀, step_shut₀, NoExtra}
use Rattle.rules.proofs.Full.{FullWants, full_open, full_shut, first_finished}

pub record Sound (z : Sizes) (b : Barrier) (lawful : Lawful b) (j : History) : Type 0 where
  pub inv : Inv z j
  pub running : j.store.cycle ≡ true → (b₀ : Book) × Open b lawful b₀ j

pub effect_cycle : (z : Sizes) (b : Barrier) (j j' : History) → Effect z b j j' → j'.store.cycle ≡ j.store.cycle
effect_cycle z b j j' (stay) = refl
effect_cycle z b j j' (puts i w x s o) = refl
effect_cycle z b j j' (makes i x y r f g) = refl
effect_cycle z b j j' (writes_young p r k w x h y s o) = refl
effect_cycle z b j j' (writes_old q r k w x h y s o) = refl
effect_cycle z b j j' (fills p r pl h) = go p
  where
    go : (p : Place) → (fill_history j p r pl).store.cycle ≡ j.store.cycle
    go (Young p) = refl
    go (Old q) = refl

-- by the cycle: what a collection leaves
module _ (z : Sizes) (b : Barrier) (lawful : Lawful b) (j : History) (sound : Sound z b lawful j) where
  scan_closed_sound : (P : History → Type 0) (k : ℕ) (b₀ : Book) (j' : History) → ScanClosed P k z b lawful b₀ j' → Sound z b lawful j'
  scan_closed_sound P k b₀ j' s = record { inv = s.inv; running = λ e. go e s.phase }
    where
      go : j'.store.cycle ≡ true → Open b lawful b₀ j' ⊎ ((j'.store.cycle ≡ false) × AllGood b₀ j') → (b₀ : Book) × Open b lawful b₀ j'
      go e (inl o) = (b₀, o)
      go e (inr f) = absurd (true≢false (sym e ∙ f.0))

  step_sound : Sound z b lawful (history_call z b j step)
  step_sound = go j.store.cycle refl
    where
      go : (t : Bool) → j.store.cycle ≡ t → Sound z b lawful (history_call z b j step)
      go true e = let (b₀, o) = sound.running e in scan_closed_sound NoExtra z.scans b₀ (history_call z b j step) (step_open₀ z b lawful b₀ j sound.inv o)
      go false e = scan_closed_sound NoExtra z.scans j.book (history_call z b j step) (step_shut₀ z b lawful j sound.inv e)

  pub full_closed : (P : History → Type 0) → FullWants P z b lawful j.book → ScanClosed P z.slots z b lawful j.book (history_call z b j full)
  full_closed P wants = go j.store.cycle refl
    where
      go : (t : Bool) → j.store.cycle ≡ t → ScanClosed P z.slots z b lawful j.book (history_call z b j full)
      go true e = let (b₀, o) = sound.running e in full_open P z b lawful b₀ j wants sound.inv o
      go false e = full_shut P z b lawful j wants sound.inv e

  pub full_closed₀ : ScanClosed NoExtra z.slots z b lawful j.book (history_call z b j full)
  full_closed₀ = full_closed NoExtra (record { from = λ j e i b o. record { if_open = λ a s l. tt; if_closed = λ a s l. tt } })

  pub full_finishes : FullFinishes z b j.store
  full_finishes = record { first = λ e. let (b₀, o) = sound.running e in first_finished z b lawful b₀ j sound.inv o; second = full_closed₀.ended (omega arith) }

  pub full_good : AllGood j.book (history_call z b j full)
  full_good = go full_closed₀.phase
    where
      go : Open b lawful j.book (history_call z b j full) ⊎ (((history_call z b j full).store.cycle ≡ false) × AllGood j.book (history_call z b j full)) → AllGood j.book (history_call z b j full)
      go (inl o) = absurd (true≢false (sym o.cycle ∙ full_closed₀.ended (omega arith)))
      go (inr f) = f.1

  effect_sound : (j' : History) → Effect z b j j' → Sound z b lawful j'
  effect_sound j' m = record { inv = effect_inv z b j j' m sound.inv; running = λ e. let (b₀, o) = sound.running (sym (effect_cycle z b j j' m) ∙ e) in (b₀, effect_open z b lawful b₀ j j' m sound.inv o) }

  pub call_sound : (c : Call) → Sound z b lawful (history_call z b j c)
  call_sound (load r v) = effect_sound _ (call_effect z b j sound.inv (load r v) refl).0
  call_sound (empty r) = effect_sound _ (call_effect z b j sound.inv (empty r) refl).0
  call_sound (copy d t) = effect_sound _ (call_effect z b j sound.inv (copy d t) refl).0
  call_sound (make d p rs) = effect_sound _ (call_effect z b j sound.inv (make d p rs) refl).0
  call_sound (read d t k) = effect_sound _ (call_effect z b j sound.inv (read d t k) refl).0
  call_sound (write d k t) = effect_sound _ (call_effect z b j sound.inv (write d k t) refl).0
  call_sound (fill d p) = effect_sound _ (call_effect z b j sound.inv (fill d p) refl).0
  call_sound (plain d) = effect_sound _ (call_effect z b j sound.inv (plain d) refl).0
  call_sound (same d t) = effect_sound _ (call_effect z b j sound.inv (same d t) refl).0
  call_sound (look r) = effect_sound _ (call_effect z b j sound.inv (look r) refl).0
  call_sound tell = effect_sound _ (call_effect z b j sound.inv tell refl).0
  call_sound step = step_sound
  call_sound full = record { inv = full_closed₀.inv; running = λ e. absurd (true≢false (sym e ∙ full_closed₀.ended (omega arith))) }

  pub call_agrees : (c : Call) → Agrees z b j c
  call_agrees (load r v) = (call_effect z b j sound.inv (load r v) refl).1
  call_agrees (empty r) = (call_effect z b j sound.inv (empty r) refl).1
  call_agrees (copy d t) = (call_effect z b j sound.inv (copy d t) refl).1
  call_agrees (make d p rs) = (call_effect z b j sound.inv (make d p rs) refl).1
  call_agrees (read d t k) = (call_effect z b j sound.inv (read d t k) refl).1
  call_agrees (write d k t) = (call_effect z b j sound.inv (write d k t) refl).1
  call_agrees (fill d p) = (call_effect z b j sound.inv (fill d p) refl).1
  call_agrees (plain d) = (call_effect z b j sound.inv (plain d) refl).1
  call_agrees (same d t) = (call_effect z b j sound.inv (same d t) refl).1
  call_agrees (look r) = (call_effect z b j sound.inv (look r) refl).1
  call_agrees tell = refl
  call_agrees step = refl
  call_agrees full = refl

-- every run
pub run_sound : (z : Sizes) (b : Barrier) (lawful : Lawful b) (cs : List Call) (j : History) → Sound z b lawful j → Sound z b lawful (history_run z b j cs)
run_sound z b lawful [] j s = s
run_sound z b lawful (c ∷ cs) j s = run_sound z b lawful cs (history_call z b j c) (call_sound z b lawful j s c)

pub new_sound : (z : Sizes) (b : Barrier) (lawful : Lawful b) (slots : List Record) → length slots ≡ z.slots → Sound z b lawful (new_history z slots)
new_sound z b lawful slots l = record { inv = new_inv z slots l; running = λ e. absurd (true≢false (sym e)) }

pub all_faithful : (z : Sizes) (b : Barrier) → Lawful b → (slots : List Record) → length slots ≡ z.slots → (cs : List Call) → Faithful z (history_run z b (new_history z slots) cs)
all_faithful z b lawful slots l cs = faithful z (history_run z b (new_history z slots) cs) (run_sound z b lawful cs (new_history z slots) (new_sound z b lawful slots l)).inv

pub all_agree : (z : Sizes) (b : Barrier) → Lawful b → (slots : List Record) → length slots ≡ z.slots → (cs : List Call) (c : Call) → Agrees z b (history_run z b (new_history z slots) cs) c
all_agree z b lawful slots l cs c = call_agrees z b lawful (history_run z b (new_history z slots) cs) (run_sound z b lawful cs (new_history z slots) (new_sound z b lawful slots l)) c
