-- A step and a full collection, put together.
use Rattle.std.proofs.Common.{◌≡◌, ℕ, ◌+◌, ◌<◌, ◌≤◌, Bool, true, false, cond, ◌⊎◌, List, [], ◌∷◌, ◌++◌, length, get_or, Some, None, Option, sym, refl, ap, ◌∙◌, subst, inl, inr, arith}
use Rattle.words.specs.declared.place.Place.{Place}
use Rattle.words.specs.declared.place.Place.TheVariants.{Young, Old}
use Rattle.ring.specs.Arcs.{Arcs, has, close_arcs}
use Rattle.rules.specs.Rules.{Barrier, Lawful, Sizes, Store, Evacuation, step, with_arcs, with_cycle, open_cycle, scan_upto, is_empty, scan_and_close, rescanning, begin_evacuation, visit_all, nursery_emptied}
use Rattle.rules.specs.Book.{Book}
use Rattle.rules.specs.History.{History, Holds, owners_after_copying, owners_after_freeing, history_call}
use Rattle.std.proofs.lemmas.Bool.{true≢false, and_left, and_from}
use Rattle.std.proofs.lemmas.List.{ext_get_or, append-nil, length-append}
use Rattle.rules.proofs.Invariant.{Inv}
use Rattle.rules.proofs.Evacuating.{some_is, some_within}
use Rattle.rules.proofs.Visiting.{Carried}
use Rattle.rules.proofs.EmptyNursery.{Ground, ground_copy, ground_register, ground_link, after_copying, Emptied, emptied, done_inv, done_owners}
use Rattle.rules.proofs.OpenCycle.{Good, Open}
use Rattle.rules.proofs.OpenEvacuating.{carried, start, OpenMid, open_emptied, open_after}
use Rattle.rules.proofs.Scanning.{arcs_history, Front, Scanned, scans}
use Rattle.rules.proofs.Closing.{RegsClear, opened, opened_inv, opened_clear, opened_open, owners_after_freeing_at, owners_after_freeing_size, closed, closed_inv, ready_to_close, closed_good}

-- each record that has a place is good
pub record AllGood (b₀ : Book) (j : History) : Type 0 where
  pub longer : length b₀.records ≤ length j.book.records
  pub good : (p : Place) (r : ℕ) → Holds j p r → Good b₀ r

-- nursery and notes are empty
pub record Bare (j : History) : Type 0 where
  pub nursery_owners : j.nursery_owners ≡ []
  pub nursery : j.store.nursery ≡ []
  pub notes : j.store.notes ≡ []

-- scanning at most k slots, and closing if no slot is grey
abbrev pub scan_close : ℕ → History → History
scan_close k j = record {
  store = scan_and_close k j.store;
  book = j.book;
  nursery_owners = j.nursery_owners;
  slot_owners = owners_after_freeing (scan_and_close k j.store).arcs.free j.slot_owners;
}

pub owners_after_freeing_same : (free : List ℕ) (os : List (Option ℕ)) → ((q : ℕ) → has q free ≡ true → get_or os q None ≡ None) → owners_after_freeing free os ≡ os
owners_after_freeing_same free os none-there = ext_get_or None (owners_after_freeing free os) os (owners_after_freeing_size free os) (λ q _. owners_after_freeing_at free os q ∙ go q (has q free) refl)
  where
    go : (q : ℕ) (t : Bool) → has q free ≡ t → cond t None (get_or os q None) ≡ get_or os q None
    go q true e = sym (none-there q e)
    go q false e = refl

-- after scanning, and closing if no slot is grey: the cycle is open as it was, or closed with only good records left
pub record ScanClosed (P : History → Type 0) (k : ℕ) (z : Sizes) (b : Barrier) (lawful : Lawful b) (b₀ : Book) (j' : History) : Type 0 where
  pub inv : Inv z j'
  pub bare : Bare j'
  pub phase : Open b lawful b₀ j' ⊎ ((j'.store.cycle ≡ false) × AllGood b₀ j')
  pub ended : z.slots ≤ k → j'.store.cycle ≡ false
  pub extra : P j'

-- P is what else is wanted of it, from the arcs that scanning leaves
pub record Wants (P : History → Type 0) (k : ℕ) (z : Sizes) (b : Barrier) (lawful : Lawful b) (b₀ : Book) (j : History) : Type 0 where
  pub if_open : (a' : Arcs) → Scanned k z b lawful b₀ j a' → 0 < length a'.grey → P (arcs_history j a')
  pub if_closed : (a' : Arcs) → Scanned k z b lawful b₀ j a' → a'.grey ≡ [] → P (closed (arcs_history j a'))

pub scan_closed : (P : History → Type 0) (k : ℕ) (z : Sizes) (b : Barrier) (lawful : Lawful b) (b₀ : Book) (j : History) → Wants P k z b lawful b₀ j → Inv z j → Open b lawful b₀ j → Bare j → (b.rescans ≡ true → RegsClear j) → ScanClosed P k z b lawful b₀ (scan_close k j)
scan_closed P k z b lawful b₀ j wants inv o bare clear = go a'.grey refl
  where
    a' : Arcs
    a' = (scan_upto j.store.slots k j.store.arcs).0

    sc : Scanned k z b lawful b₀ j a'
    sc = scans k z b lawful b₀ j inv o

    j₁ : History
    j₁ = arcs_history j a'

    clear₁ : b.rescans ≡ true → RegsClear j₁
    clear₁ y m t e = omega (arith, clear y m t e, sc.white t)

    swept : Bool → History
    swept t = record {
      store = cond t (with_cycle false (with_arcs (close_arcs a') j₁.store)) j₁.store;
      book = j.book;
      nursery_owners = j.nursery_owners;
      slot_owners = owners_after_freeing (cond t (with_cycle false (with_arcs (close_arcs a') j₁.store)) j₁.store).arcs.free j.slot_owners;
    }

    too_many : {x : ℕ} {xs : List ℕ} → z.slots ≤ k → a'.grey ≡ x ∷ xs → Front k j.store.arcs a' → ⊥
    too_many {x} {xs} l e f = many f.made
      where
        many : (a'.grey ≡ []) ⊎ (length f.new ≡ k) → ⊥
        many (inl g) = omega (arith, ap length e, ap length g)
        many (inr g) = omega (arith, ap length e, sc.inv.ring.size, ap length f.black, length-append f.new j.store.arcs.black)

    not_yet : {x : ℕ} {xs : List ℕ} → a'.grey ≡ x ∷ xs → ScanClosed P k z b lawful b₀ (swept false)
    not_yet e = subst (λ os. ScanClosed P k z b lawful b₀ (record { store = j₁.store; book = j.book; nursery_owners = j.nursery_owners; slot_owners = os })) (sym (owners_after_freeing_same a'.free j.slot_owners sc.inv.owners.free_none)) (record { inv = sc.inv; bare = record { nursery_owners = bare.nursery_owners; nursery = bare.nursery; notes = bare.notes }; phase = inl sc.still; ended = λ l. absurd (too_many l e sc.front); extra = wants.if_open a' sc (omega (arith, ap length e)) })

    now : a'.grey ≡ [] → ScanClosed P k z b lawful b₀ (swept true)
    now e =
        let (c, d) = ready_to_close z b lawful b₀ j₁ sc.inv sc.still e clear₁ in
        record {
          inv = closed_inv z j₁ sc.inv bare.nursery bare.notes e c d;
          bare = record { nursery_owners = bare.nursery_owners; nursery = bare.nursery; notes = bare.notes };
          phase = inr (refl, record { longer = o.book.longer; good = closed_good z b lawful b₀ j₁ sc.inv sc.still bare.nursery bare.notes e c d });
          ended = λ _. refl;
          extra = wants.if_closed a' sc e;
        }

    go : (f : List ℕ) → a'.grey ≡ f → ScanClosed P k z b lawful b₀ (swept (is_empty f))
    go [] e = now e
    go (x ∷ xs) e = not_yet e

-- what emptying the nursery leaves, whatever else was kept
pub record Emptier (z : Sizes) (b : Barrier) (j : History) (os' : List (Option ℕ)) : Type 0 where
  pub owners : owners_after_copying j.nursery_owners (visit_all z b j.store).forward j.slot_owners ≡ os'
  pub inv : Inv z (after_copying (visit_all z b j.store) j.book os')
  pub cycle : (visit_all z b j.store).store.cycle ≡ j.store.cycle
  pub clear : rescanning b j.store ≡ true → RegsClear (after_copying (visit_all z b j.store) j.book os')
  pub older : (q r : ℕ) → get_or os' q None ≡ Some r → (p : Place) × Holds j p r
  pub more : (q r : ℕ) → get_or j.slot_owners q None ≡ Some r → get_or os' q None ≡ Some r
  pub black : (visit_all z b j.store).store.arcs.black ≡ j.store.arcs.black ++ (visit_all z b j.store).copied
  pub free : length (visit_all z b j.store).store.arcs.free + length (visit_all z b j.store).copied ≡ length j.store.arcs.free
  pub few : length (visit_all z b j.store).copied ≤ z.places

module _ (z : Sizes) (b : Barrier) (j : History) (inv : Inv z j) (E : ℕ → Evacuation → List (Option ℕ) → Type 0) (carried : Carried z j.nursery_owners j.book E (rescanning b j.store)) (start : E 0 (begin_evacuation j.store) j.slot_owners) (ground : (i : ℕ) (c : Evacuation) (os : List (Option ℕ)) → E i c os → Ground j.store j.slot_owners c os) where
  pub emptier : (e : Emptied z b j inv E carried start ground (visit_all z b j.store)) → Emptier z b j e.os'
  emptier e = record {
    owners = done_owners z b j inv E carried start ground (visit_all z b j.store) e;
    inv = done_inv z b j inv E carried start ground (visit_all z b j.store) e;
    cycle = g.cycle;
    clear = λ y k t h. (e.fine k).unwhite y t h;
    older = λ q r h. go q r h (g.from q);
    more = λ q r h. e.more (Old q) r h;
    black = g.black;
    free = g.free;
    few = omega (arith, e.mid.counted, inv.nursery_size, inv.nursery_cap);
  }
    where
      c : Evacuation
      c = visit_all z b j.store

      g : Ground j.store j.slot_owners (visit_all z b j.store) e.os'
      g = ground (length (visit_all z b j.store).copied) (visit_all z b j.store) e.os' e.mid.extra

      go : (q r : ℕ) → get_or e.os' q None ≡ Some r → (get_or e.os' q None ≡ get_or j.slot_owners q None) ⊎ ((p : ℕ) × (get_or (visit_all z b j.store).forward p None ≡ Some q)) → (p : Place) × Holds j p r
      go q r h (inl f) = (Old q, sym f ∙ h)
      go q r h (inr f) = (Young f.0, (omega (arith, e.mid.forward_size, some_within (visit_all z b j.store).forward f.0 q f.1), some_is (e.mid.forwarded f.0 q f.1) h))

-- with no cycle open
module _ (z : Sizes) (b : Barrier) (j : History) (inv : Inv z j) (shut : j.store.cycle ≡ false) where
  abbrev Shut : ℕ → Evacuation → List (Option ℕ) → Type 0
  Shut i c os = Ground j.store j.slot_owners c os

  no_rescan : rescanning b j.store ≡ false
  no_rescan = and_left j.store.cycle b.rescans shut

  shut_carried : Carried z j.nursery_owners j.book Shut (rescanning b j.store)
  shut_carried = record {
    on_copy = λ front i c os mid p q qs e l u. ground_copy j.store j.slot_owners c os mid.extra p q qs (get_or j.nursery_owners p 0) e (omega (arith, mid.forward_size)) u;
    on_register = λ front i c os mid k w s. ground_register j.store j.slot_owners (rescanning b j.store) (λ _. no_rescan) c os mid.extra k w;
    on_link = λ front i c os mid again q r k w y h s came. ground_link j.store j.slot_owners again (λ _. quiet again (λ e. (y e).0)) c os mid.extra q k w;
    on_done = λ i c os mid l f. mid.extra;
  }
    where
      quiet : (again : Bool) → (again ≡ true → rescanning b j.store ≡ true) → again ≡ false
      quiet false y = refl
      quiet true y = absurd (true≢false (sym (y refl) ∙ no_rescan))

  shut_start : Shut 0 (begin_evacuation j.store) j.slot_owners
  shut_start = record { cycle = refl; quiet = inv.quiet; from = λ q. inl refl; black = sym (append-nil j.store.arcs.black); free = omega arith }

  pub shut_emptier : (os' : List (Option ℕ)) × Emptier z b j os'
  shut_emptier =
      let e = emptied z b j inv Shut shut_carried shut_start (λ i c os g. g) in
      (e.os', emptier z b j inv Shut shut_carried shut_start (λ i c os g. g) e)

-- with a cycle open
pub open_emptier : (z : Sizes) (b : Barrier) (lawful : Lawful b) (b₀ : Book) (j : History) (inv : Inv z j) (o : Open b lawful b₀ j) → (os' : List (Option ℕ)) × Emptier z b j os' × Open b lawful b₀ (after_copying (visit_all z b j.store) j.book os')
open_emptier z b lawful b₀ j inv o =
    let e = open_emptied z b lawful b₀ j inv o in
    (e.os', emptier z b j inv (OpenMid b lawful b₀ j) (carried z b lawful b₀ j inv o) (start z b lawful b₀ j inv o) (λ i c os x. x.ground) e, open_after z b lawful b₀ j inv o (visit_all z b j.store) e)

-- a step
abbrev pub stepped : Sizes → Barrier → History → Bool → List (Option ℕ) → History
stepped z b j t os =
    let s : Store = (nursery_emptied (visit_all z b j.store)).store in
    record {
      store = scan_and_close z.scans (cond t s (open_cycle s));
      book = j.book;
      nursery_owners = [];
      slot_owners = owners_after_freeing (scan_and_close z.scans (cond t s (open_cycle s))).arcs.free os;
    }

bare_after : (c : Evacuation) (bk : Book) (os : List (Option ℕ)) → Bare (after_copying c bk os)
bare_after c bk os = record { nursery_owners = refl; nursery = refl; notes = refl }

-- P of the step from what emptying left
pub record StepWants (P : History → Type 0) (z : Sizes) (b : Barrier) (lawful : Lawful b) (b₀ : Book) (j : History) : Type 0 where
  pub from : (os' : List (Option ℕ)) → Emptier z b j os' → (o' : Open b lawful b₀ (after_copying (visit_all z b j.store) j.book os')) → Wants P z.scans z b lawful b₀ (after_copying (visit_all z b j.store) j.book os')

pub record ShutWants (P : History → Type 0) (z : Sizes) (b : Barrier) (lawful : Lawful b) (j : History) (k : ℕ) : Type 0 where
  pub from : (os' : List (Option ℕ)) → Emptier z b j os' → Open b lawful j.book (opened (after_copying (visit_all z b j.store) j.book os')) → Wants P k z b lawful j.book (opened (after_copying (visit_all z b j.store) j.book os'))

pub step_open : (P : History → Type 0) (z : Sizes) (b : Barrier) (lawful : Lawful b) (b₀ : Book) (j : History) → StepWants P z b lawful b₀ j → Inv z j → Open b lawful b₀ j → ScanClosed P z.scans z b lawful b₀ (history_call z b j step)
step_open P z b lawful b₀ j wants inv o =
    let (os', e, o') = open_emptier z b lawful b₀ j inv o in
    let base : ScanClosed P z.scans z b lawful b₀ (stepped z b j true os') = scan_closed P z.scans z b lawful b₀ (after_copying (visit_all z b j.store) j.book os') (wants.from os' e o') e.inv o' (bare_after (visit_all z b j.store) j.book os') (λ y. e.clear (and_from j.store.cycle b.rescans o.cycle y)) in
    subst (λ os. ScanClosed P z.scans z b lawful b₀ (stepped z b j j.store.cycle os)) (sym e.owners) (subst (λ t. ScanClosed P z.scans z b lawful b₀ (stepped z b j t os')) (sym o.cycle) base)

pub step_shut : (P : History → Type 0) (z : Sizes) (b : Barrier) (lawful : Lawful b) (j : History) → ShutWants P z b lawful j z.scans → Inv z j → j.store.cycle ≡ false → ScanClosed P z.scans z b lawful j.book (history_call z b j step)
step_shut P z b lawful j wants inv shut =
    let (os', e) = shut_emptier z b j inv shut in
    let j₁ = after_copying (visit_all z b j.store) j.book os' in
    let o = opened_open z b lawful j₁ e.inv refl (e.cycle ∙ shut) in
    let base : ScanClosed P z.scans z b lawful j.book (stepped z b j false os') = scan_closed P z.scans z b lawful j.book (opened j₁) (wants.from os' e o) (opened_inv z b lawful j₁ e.inv refl (e.cycle ∙ shut)) o (record { nursery_owners = refl; nursery = refl; notes = refl }) (λ y. opened_clear z b lawful j₁ e.inv refl (e.cycle ∙ shut)) in
    subst (λ os. ScanClosed P z.scans z b lawful j.book (stepped z b j j.store.cycle os)) (sym e.owners) (subst (λ t. ScanClosed P z.scans z b lawful j.book (stepped z b j t os')) (sym shut) base)

-- nothing else wanted
abbrev pub NoExtra : History → Type 0
NoExtra j = Unit {0}

pub step_open₀ : (z : Sizes) (b : Barrier) (lawful : Lawful b) (b₀ : Book) (j : History) → Inv z j → Open b lawful b₀ j → ScanClosed NoExtra z.scans z b lawful b₀ (history_call z b j step)
step_open₀ z b lawful b₀ j inv o = step_open NoExtra z b lawful b₀ j (record { from = λ os' e o'. record { if_open = λ a s l. tt; if_closed = λ a s l. tt } }) inv o

pub step_shut₀ : (z : Sizes) (b : Barrier) (lawful : Lawful b) (j : History) → Inv z j → j.store.cycle ≡ false → ScanClosed NoExtra z.scans z b lawful j.book (history_call z b j step)
step_shut₀ z b lawful j inv e = step_shut NoExtra z b lawful j (record { from = λ os' e o'. record { if_open = λ a s l. tt; if_closed = λ a s l. tt } }) inv e
