-- With slots for L reachable records and for those out of reach that a cycle has not taken back yet, no make is refused
-- for want of a slot.
use Rattle.std.proofs.Common.{◌≡◌, ℕ, suc, ◌+◌, ◌-◌, ◌*◌, ◌<◌, ◌≤◌, Bool, true, false, ◌⊎◌, List, [], ◌++◌, length, get_or, Some, None, Option, sym, refl, ap, ◌∙◌, subst, inl, inr, mul-le-mul_right, arith}
use Rattle.words.specs.declared.place.Place.{Place}
use Rattle.words.specs.declared.place.Place.TheVariants.{Young, Old}
use Rattle.ring.specs.Arcs.{Arcs, has, marked, open_arcs}
use Rattle.rules.specs.Rules.{Record, Barrier, Lawful, Sizes, Call, step, full, refused, run_call, visit_all, link_at}
use Rattle.rules.specs.Book.{Book, Reachable}
use Rattle.rules.specs.History.{History, collects, history_call, new_history}
use Rattle.rules.specs.Promise.{Counted, cycle_steps, LiveAtMost, stop, more, room_for, NeverLacksRoom}
use Rattle.std.proofs.lemmas.Bool.{cases_lt, true≢false}
use Rattle.std.proofs.lemmas.List.{length-append}
use Rattle.ring.specs.Sound.{count}
use Rattle.ring.proofs.Chain.{count_append}
use Rattle.ring.proofs.Fresh.{length_upto}
use Rattle.rules.proofs.Invariant.{Inv, placed}
use Rattle.rules.proofs.Effects.{fill_history, Effect, stay, puts, makes, writes_young, writes_old, fills}
use Rattle.rules.proofs.Calls.{call_effect}
use Rattle.rules.proofs.Shading.{shaded_all, shaded_write}
use Rattle.rules.proofs.EmptyNursery.{after_copying}
use Rattle.rules.proofs.OpenCycle.{Open}
use Rattle.rules.proofs.OpenEffects.{effect_open}
use Rattle.rules.proofs.Scanning.{arcs_history, Scanned}
use Rattle.rules.proofs.Closing.{opened, closed}
use Rattle.rules.proofs.Steps.{AllGood, ScanClosed, Wants, StepWants, ShutWants, Emptier, step_open, step_shut}
use Rattle.rules.proofs.Full.{FullWants}
use Rattle.rules.proofs.Runs.{Sound, call_sound, new_sound, full_closed, effect_cycle}
use Rattle.rules.proofs.Refusals.{not_refused}
use Rattle.rules.proofs.ScanCount.{Paced, PacedIf, paced_bound, reach_bound, effect_paced, step_paced, first_paced, cycle_steps_bound, after_black, after_old, after_few}
use Rattle.rules.proofs.CycleTime.{which}
use Rattle.rules.proofs.ReachableCount.{counted}

module _ (z : Sizes) (b : Barrier) (lawful : Lawful b) (some_scans : 1 ≤ z.scans) (L : ℕ) where
  -- all steps that a cycle may take but the last
  abbrev t : ℕ
  t = cycle_steps L z.scans - 1

  abbrev free : History → ℕ
  free j = length j.store.arcs.free

  -- the slots that are not free, with no cycle open and m steps after an opening
  abbrev RoomShut : History → Type 0
  RoomShut j = z.slots ≤ free j + (L + t * z.places)

  abbrev RoomAt : ℕ → History → Type 0
  RoomAt m j = z.slots ≤ free j + (L + (t * z.places + m * z.places))

  -- an open cycle, with its book at the opening, its steps so far and the number of records reachable at the opening
  record RoomOpen (j : History) : Type 0 where
    b₀ : Book
    m : ℕ
    running : Open b lawful b₀ j
    paced : Paced z b₀ m j
    n : ℕ
    count : Counted b₀ n
    few : n ≤ L
    room : RoomAt m j

  -- enough slots are free, whether or not a cycle is open
  record Roomy (j : History) : Type 0 where
    shut : j.store.cycle ≡ false → RoomShut j
    running : j.store.cycle ≡ true → RoomOpen j

  some_steps : 1 ≤ cycle_steps L z.scans
  some_steps = omega arith

  -- a cycle still open has had fewer steps than it may
  early : (m n : ℕ) → m * z.scans < n → n ≤ L → m ≤ t
  early m n l f = go (cases_lt m (cycle_steps L z.scans))
    where
      go : (m < cycle_steps L z.scans) ⊎ (cycle_steps L z.scans ≤ m) → m ≤ t
      go (inl k) = omega arith
      go (inr k) = absurd (omega (arith, cycle_steps_bound L z.scans m some_scans k))

  -- so a nursery that is not full has room
  enough : room_for L z ≤ z.slots → (j : History) → Inv z j → Roomy j → z.places ≤ free j
  enough big j inv r = go j.store.cycle refl
    where
      spare : L + (t * z.places + t * z.places) + z.places ≤ z.slots
      spare = let e : 2 * cycle_steps L z.scans - 1 ≡ 2 * t + 1 = omega (arith, some_steps) in omega (arith, subst (λ k. L + k * z.places ≤ z.slots) e big)

      go : (u : Bool) → j.store.cycle ≡ u → z.places ≤ free j
      go false e = omega (arith, r.shut e, spare)
      go true e = let o = r.running e in let le : o.m ≤ t = early o.m o.n (paced_bound z b lawful o.b₀ o.m j inv o.running o.paced o.n o.count) o.few in omega (arith, o.room, spare, mul-le-mul_right z.places le)

  -- effects take no slot
  effect_free : (j j' : History) → Effect z b j j' → j'.store.arcs.free ≡ j.store.arcs.free
  effect_free j j' (stay) = refl
  effect_free j j' (puts i w x s o) = refl
  effect_free j j' (makes i x y r f g) = refl
  effect_free j j' (writes_young p r k w x h y s o) = refl
  effect_free j j' (writes_old q r k w x h y s o) = (shaded_write b j.store.cycle (marked j.store.arcs q) (link_at j.store.slots q k) w j.store.arcs).free
  effect_free j j' (fills p r pl h) = go p
    where
      go : (p : Place) → (fill_history j p r pl).store.arcs.free ≡ j.store.arcs.free
      go (Young p) = refl
      go (Old q) = refl

  move_roomy : (j j' : History) → Effect z b j j' → Inv z j → Roomy j → Roomy j'
  move_roomy j j' mv inv r = record { shut = λ e. omega (arith, r.shut (sym (effect_cycle z b j j' mv) ∙ e), ap length (effect_free j j' mv)); running = λ e. go (r.running (sym (effect_cycle z b j j' mv) ∙ e)) }
    where
      go : RoomOpen j → RoomOpen j'
      go o = record { b₀ = o.b₀; m = o.m; running = effect_open z b lawful o.b₀ j j' mv inv o.running; paced = effect_paced z b o.b₀ o.m j j' mv o.paced; n = o.n; count = o.count; few = o.few; room = omega (arith, o.room, ap length (effect_free j j' mv)) }

  -- what a step leaves
  abbrev After : Book → ℕ → History → Type 0
  After b₀ m j = (j.store.cycle ≡ false → RoomShut j) × (j.store.cycle ≡ true → Paced z b₀ m j × RoomAt m j)

  -- at a close the black slots are those scanned and those copied since the opening
  close_room : (b₀ : Book) (k : ℕ) (j : History) (a' : Arcs) → Scanned k z b lawful b₀ j a' → a'.grey ≡ [] → (xs ys : List ℕ) → a'.black ≡ xs ++ ys → ((q : ℕ) → has q xs ≡ true → (r : ℕ) → get_or j.slot_owners q None ≡ Some r → r < length b₀.records) → (n : ℕ) → Counted b₀ n → n ≤ L → length ys ≤ t * z.places → RoomShut (closed (arcs_history j a'))
  close_room b₀ k j a' s e xs ys black olds n c few l =
      omega (arith, s.inv.ring.size, ap length e, ap length black, length-append xs ys, length-append a'.free a'.white, reach_bound z b₀ (arcs_history j a') s.inv s.still.marks xs (λ q. omega (arith, ap (count q) black, count_append q xs ys)) olds n c)

  step_wants : (j : History) → Inv z j → (o : RoomOpen j) → StepWants (After o.b₀ (suc o.m)) z b lawful o.b₀ j
  step_wants j inv o = record { from = wants }
    where
      wants : (os' : List (Option ℕ)) (e : Emptier z b j os') → Open b lawful o.b₀ (after_copying (visit_all z b j.store) j.book os') → Wants (After o.b₀ (suc o.m)) z.scans z b lawful o.b₀ (after_copying (visit_all z b j.store) j.book os')
      wants os' e o' = record {
        if_open = λ a' s l. (λ y. absurd (true≢false (sym s.still.cycle ∙ y)), λ y. (paced_wants.if_open a' s l y, omega (arith, o.room, e.free, e.few, ap length s.free)));
        if_closed = λ a' s l. (λ _. ended a' s l, λ y. absurd (true≢false (sym y)));
      }
        where
          paced_wants : Wants (PacedIf z o.b₀ (suc o.m)) z.scans z b lawful o.b₀ (after_copying (visit_all z b j.store) j.book os')
          paced_wants = (step_paced z b lawful o.b₀ o.m j inv o.paced).from os' e o'

          ended : (a' : Arcs) → Scanned z.scans z b lawful o.b₀ (after_copying (visit_all z b j.store) j.book os') a' → a'.grey ≡ [] → RoomShut (closed (arcs_history (after_copying (visit_all z b j.store) j.book os') a'))
          ended a' s l =
              let le : o.m ≤ t = early o.m o.n (paced_bound z b lawful o.b₀ o.m j inv o.running o.paced o.n o.count) o.few in
              let f = s.front in
              close_room o.b₀ z.scans (after_copying (visit_all z b j.store) j.book os') a' s l (f.new ++ o.paced.scanned) (o.paced.copied ++ (visit_all z b j.store).copied) (after_black z b lawful o.b₀ o.m j inv o.paced os' e o' z.scans a' f) (after_old z b lawful o.b₀ o.m j inv o.paced os' e o' z.scans a' f) o.n o.count o.few (omega (arith, after_few z b lawful o.b₀ o.m j inv o.paced os' e o' z.scans a' f, mul-le-mul_right z.places le))

  -- black after the opening: what was scanned
  opened_black : (j : History) → (opened j).store.arcs.black ≡ []
  opened_black j = (shaded_all j.store.registers (open_arcs j.store.arcs)).black

  opened_free : (j : History) → (opened j).store.arcs.free ≡ j.store.arcs.free
  opened_free j = (shaded_all j.store.registers (open_arcs j.store.arcs)).free

  opened_ends : (bk : Book) (k : ℕ) (j : History) → j.book ≡ bk → Open b lawful bk (opened j) → (n : ℕ) → Counted bk n → n ≤ L → (a' : Arcs) → Scanned k z b lawful bk (opened j) a' → a'.grey ≡ [] → RoomShut (closed (arcs_history (opened j) a'))
  opened_ends bk k j e o n c few a' s l = close_room bk k (opened j) a' s l s.front.new [] (s.front.black ∙ ap (λ xs. s.front.new ++ xs) (opened_black j)) (λ q h r i. o.marks.unscanned q r i (s.front.from q h)) n c few (omega arith)

  first_wants : (j : History) → RoomShut j → (n : ℕ) → Counted j.book n → n ≤ L → ShutWants (After j.book 1) z b lawful j z.scans
  first_wants j room n c few = record { from = wants }
    where
      wants : (os' : List (Option ℕ)) (e : Emptier z b j os') → Open b lawful j.book (opened (after_copying (visit_all z b j.store) j.book os')) → Wants (After j.book 1) z.scans z b lawful j.book (opened (after_copying (visit_all z b j.store) j.book os'))
      wants os' e o' = record {
        if_open = λ a' s l. (λ y. absurd (true≢false y), λ y. (((first_paced z b lawful j).from os' e o').if_open a' s l y, omega (arith, room, e.free, e.few, ap length s.free, ap length (opened_free (after_copying (visit_all z b j.store) j.book os')))));
        if_closed = λ a' s l. (λ _. opened_ends j.book z.scans (after_copying (visit_all z b j.store) j.book os') refl o' n c few a' s l, λ y. absurd (true≢false (sym y)));
      }

  full_wants : (bk : Book) (n : ℕ) → Counted bk n → n ≤ L → FullWants (λ j. j.store.cycle ≡ false → RoomShut j) z b lawful bk
  full_wants bk n c few = record { from = λ j e inv bare o. record { if_open = λ a' s l y. absurd (true≢false y); if_closed = λ a' s l _. opened_ends bk z.slots j e o n c few a' s l } }

  reach_below : (j : History) → Inv z j → (r : ℕ) → Reachable j.book r → r < length j.book.records
  reach_below j inv r y = let (p, h) = placed z j inv y in inv.owners.below p r h

  step_roomy : (j : History) → Sound z b lawful j → Roomy j → ((n : ℕ) → Counted j.book n → n ≤ L) → Roomy (history_call z b j step)
  step_roomy j s r few = go j.store.cycle refl
    where
      build : (b₀ : Book) (m n : ℕ) → Counted b₀ n → n ≤ L → ScanClosed (After b₀ m) z.scans z b lawful b₀ (history_call z b j step) → Roomy (history_call z b j step)
      build b₀ m n c l s' = record { shut = s'.extra.0; running = λ y. at y s'.phase }
        where
          at : (history_call z b j step).store.cycle ≡ true → Open b lawful b₀ (history_call z b j step) ⊎ (((history_call z b j step).store.cycle ≡ false) × AllGood b₀ (history_call z b j step)) → RoomOpen (history_call z b j step)
          at y (inl o) = record { b₀ = b₀; m = m; running = o; paced = (s'.extra.1 y).0; n = n; count = c; few = l; room = (s'.extra.1 y).1 }
          at y (inr f) = absurd (true≢false (sym y ∙ f.0))

      go : (u : Bool) → j.store.cycle ≡ u → Roomy (history_call z b j step)
      go true e = let o = r.running e in build o.b₀ (suc o.m) o.n o.count o.few (step_open (After o.b₀ (suc o.m)) z b lawful o.b₀ j (step_wants j s.inv o) s.inv o.running)
      go false e = let (n, c) = counted j.book (reach_below j s.inv) in build j.book 1 n c (few n c) (step_shut (After j.book 1) z b lawful j (first_wants j (r.shut e) n c (few n c)) s.inv e)

  full_roomy : (j : History) → Sound z b lawful j → ((n : ℕ) → Counted j.book n → n ≤ L) → Roomy (history_call z b j full)
  full_roomy j s few =
      let (n, c) = counted j.book (reach_below j s.inv) in
      let s' = full_closed z b lawful j s (λ j. j.store.cycle ≡ false → RoomShut j) (full_wants j.book n c (few n c)) in
      record { shut = s'.extra; running = λ y. absurd (true≢false (sym y ∙ s'.ended (omega arith))) }

  call_roomy : (j : History) → Sound z b lawful j → Roomy j → (c : Call) → ((n : ℕ) → Counted (history_call z b j c).book n → n ≤ L) → Roomy (history_call z b j c)
  call_roomy j s r c few = go (which c) few
    where
      go : (collects c ≡ false) ⊎ ((c ≡ step) ⊎ (c ≡ full)) → ((n : ℕ) → Counted (history_call z b j c).book n → n ≤ L) → Roomy (history_call z b j c)
      go (inl e) f = move_roomy j (history_call z b j c) (call_effect z b j s.inv c e).0 s.inv r
      go (inr (inl e)) f = subst (λ c. ((n : ℕ) → Counted (history_call z b j c).book n → n ≤ L) → Roomy (history_call z b j c)) (sym e) (step_roomy j s r) f
      go (inr (inr e)) f = subst (λ c. ((n : ℕ) → Counted (history_call z b j c).book n → n ≤ L) → Roomy (history_call z b j c)) (sym e) (full_roomy j s) f

  new_roomy : (slots : List Record) → Roomy (new_history z slots)
  new_roomy slots = record { shut = λ _. omega (arith, length_upto 0 z.slots); running = λ y. absurd (true≢false (sym y)) }

  not_23 : (j : History) → (length j.store.nursery < z.places → length j.store.nursery < free j) → (c : Call) → (run_call z b j.store c).1 ≡ refused 23 → ⊥
  not_23 j room c = not_refused z b j.store 23 refl (λ _. room) (λ e. absurd (omega arith)) c

  never : room_for L z ≤ z.slots → {j : History} {cs : List Call} → Sound z b lawful j → Roomy j → LiveAtMost z b L j cs → NeverLacksRoom z b j cs
  never big s r (stop) = tt
  never big {j} s r (more {c = c} few w) = (not_23 j (λ l. omega (arith, enough big j s.inv r)) c, never big (call_sound z b lawful j s c) (call_roomy j s r c few) w)

pub all_room : (z : Sizes) (b : Barrier) (lawful : Lawful b) → 1 ≤ z.scans → (slots : List Record) → length slots ≡ z.slots → (cs : List Call) (L : ℕ) → LiveAtMost z b L (new_history z slots) cs → room_for L z ≤ z.slots → NeverLacksRoom z b (new_history z slots) cs
all_room z b lawful l slots e cs L w big = never z b lawful l L big (new_sound z b lawful slots e) (new_roomy z b lawful l L slots) w
