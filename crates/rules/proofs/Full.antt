-- A full collection; and who has a place after a collection had one before.
use Rattle.std.proofs.Common.{◌≡◌, ℕ, ◌<◌, Bool, true, false, cond, List, [], length, get_or, Some, None, Option, sym, refl, ap, ◌∙◌, subst, arith}
use Rattle.ring.specs.Arcs.{has}
use Rattle.rules.specs.Rules.{Barrier, Lawful, Sizes, Store, full, open_cycle, scan_and_close, visit_all, nursery_emptied, empty_nursery}
use Rattle.rules.specs.Book.{Book}
use Rattle.rules.specs.History.{History, owners_after_freeing, history_call}
use Rattle.std.proofs.lemmas.Bool.{true≢false, and_from}
use Rattle.std.proofs.lemmas.List.{ext_get_or}
use Rattle.rules.proofs.Invariant.{Inv}
use Rattle.rules.proofs.Evacuating.{none_some}
use Rattle.rules.proofs.EmptyNursery.{after_copying}
use Rattle.rules.proofs.OpenCycle.{Open}
use Rattle.rules.proofs.Closing.{opened, opened_inv, opened_clear, opened_open, owners_after_freeing_at, owners_after_freeing_size}
use Rattle.rules.proofs.Steps.{Bare, scan_close, NoExtra, Wants, ScanClosed, scan_closed, shut_emptier, open_emptier, Emptier}

-- taking the owners of free slots away twice
settle_twice : (F G : List ℕ) (os : List (Option ℕ)) (S : ℕ) → length os ≡ S → ((q : ℕ) → q < S → get_or (owners_after_freeing G (owners_after_freeing F os)) q None ≡ None → has q G ≡ true) → owners_after_freeing G (owners_after_freeing F os) ≡ owners_after_freeing G os
settle_twice F G os S l free = ext_get_or None (owners_after_freeing G (owners_after_freeing F os)) (owners_after_freeing G os) (owners_after_freeing_size G (owners_after_freeing F os) ∙ owners_after_freeing_size F os ∙ sym (owners_after_freeing_size G os)) (λ q b. at q (subst (λ n. q < n) (owners_after_freeing_size G (owners_after_freeing F os) ∙ owners_after_freeing_size F os ∙ l) b))
  where
    at : (q : ℕ) → q < S → get_or (owners_after_freeing G (owners_after_freeing F os)) q None ≡ get_or (owners_after_freeing G os) q None
    at q b = owners_after_freeing_at G (owners_after_freeing F os) q ∙ ap (cond (has q G) None) (owners_after_freeing_at F os q) ∙ go (has q G) refl (has q F) refl ∙ sym (owners_after_freeing_at G os q)
      where
        go : (t : Bool) → has q G ≡ t → (u : Bool) → has q F ≡ u → cond t None (cond u None (get_or os q None)) ≡ cond t None (get_or os q None)
        go true e u f = refl
        go false e false f = refl
        go false e true f = absurd (true≢false (sym (free q b (owners_after_freeing_at G (owners_after_freeing F os) q ∙ ap (λ t. cond t None (get_or (owners_after_freeing F os) q None)) e ∙ owners_after_freeing_at F os q ∙ ap (λ t. cond t None (get_or os q None)) f)) ∙ e))

abbrev pub fulled : Sizes → Barrier → History → Bool → List (Option ℕ) → History
fulled z b j t os =
    let s : Store = (nursery_emptied (visit_all z b j.store)).store in
    let s₃ : Store = open_cycle (cond t (scan_and_close z.slots s) s) in
    record {
      store = scan_and_close z.slots s₃;
      book = j.book;
      nursery_owners = [];
      slot_owners = owners_after_freeing (scan_and_close z.slots s₃).arcs.free os;
    }

-- P of the second cycle: from any history with empty nursery and notes, this book and no open cycle
pub record FullWants (P : History → Type 0) (z : Sizes) (b : Barrier) (lawful : Lawful b) (bk : Book) : Type 0 where
  pub from : (j : History) → j.book ≡ bk → Inv z j → Bare j → Open b lawful bk (opened j) → Wants P z.slots z b lawful bk (opened j)

-- from empty nursery and notes with no open cycle
open_scan_close : (P : History → Type 0) (z : Sizes) (b : Barrier) (lawful : Lawful b) (j : History) → FullWants P z b lawful j.book → Inv z j → Bare j → j.store.cycle ≡ false → ScanClosed P z.slots z b lawful j.book (scan_close z.slots (opened j))
open_scan_close P z b lawful j wants inv bare shut = let o = opened_open z b lawful j inv bare.nursery_owners shut in scan_closed P z.slots z b lawful j.book (opened j) (wants.from j refl inv bare o) (opened_inv z b lawful j inv bare.nursery_owners shut) o (record { nursery_owners = bare.nursery_owners; nursery = bare.nursery; notes = bare.notes }) (λ y. opened_clear z b lawful j inv bare.nursery_owners shut)

pub full_shut : (P : History → Type 0) (z : Sizes) (b : Barrier) (lawful : Lawful b) (j : History) → FullWants P z b lawful j.book → Inv z j → j.store.cycle ≡ false → ScanClosed P z.slots z b lawful j.book (history_call z b j full)
full_shut P z b lawful j wants inv shut =
    let (os', e) = shut_emptier z b j inv shut in
    let base : ScanClosed P z.slots z b lawful j.book (fulled z b j false os') = open_scan_close P z b lawful (after_copying (visit_all z b j.store) j.book os') wants e.inv (record { nursery_owners = refl; nursery = refl; notes = refl }) (e.cycle ∙ shut) in
    subst (λ os. ScanClosed P z.slots z b lawful j.book (fulled z b j j.store.cycle os)) (sym e.owners) (subst (λ t. ScanClosed P z.slots z b lawful j.book (fulled z b j t os')) (sym shut) base)

-- an open cycle finished, after the nursery was emptied
first_closed : (z : Sizes) (b : Barrier) (lawful : Lawful b) (b₀ : Book) (j : History) → Open b lawful b₀ j → (os' : List (Option ℕ)) → Emptier z b j os' → Open b lawful b₀ (after_copying (visit_all z b j.store) j.book os') → ScanClosed NoExtra z.slots z b lawful b₀ (scan_close z.slots (after_copying (visit_all z b j.store) j.book os'))
first_closed z b lawful b₀ j o os' e o' = scan_closed NoExtra z.slots z b lawful b₀ (after_copying (visit_all z b j.store) j.book os') (record { if_open = λ a s l. tt; if_closed = λ a s l. tt }) e.inv o' (record { nursery_owners = refl; nursery = refl; notes = refl }) (λ y. e.clear (and_from j.store.cycle b.rescans o.cycle y))

pub first_finished : (z : Sizes) (b : Barrier) (lawful : Lawful b) (b₀ : Book) (j : History) → Inv z j → Open b lawful b₀ j → (scan_and_close z.slots (empty_nursery z b j.store).store).cycle ≡ false
first_finished z b lawful b₀ j inv o = let (os', e, o') = open_emptier z b lawful b₀ j inv o in (first_closed z b lawful b₀ j o os' e o').ended (omega arith)

pub full_open : (P : History → Type 0) (z : Sizes) (b : Barrier) (lawful : Lawful b) (b₀ : Book) (j : History) → FullWants P z b lawful j.book → Inv z j → Open b lawful b₀ j → ScanClosed P z.slots z b lawful j.book (history_call z b j full)
full_open P z b lawful b₀ j wants inv o =
    let (os', e, o') = open_emptier z b lawful b₀ j inv o in
    let j₁ = after_copying (visit_all z b j.store) j.book os' in
    let first : ScanClosed NoExtra z.slots z b lawful b₀ (scan_close z.slots j₁) = first_closed z b lawful b₀ j o os' e o' in
    let second : ScanClosed P z.slots z b lawful j.book (scan_close z.slots (opened (scan_close z.slots j₁))) = open_scan_close P z b lawful (scan_close z.slots j₁) wants first.inv first.bare (first.ended (omega arith)) in
    let once : (scan_close z.slots (opened (scan_close z.slots j₁))).slot_owners ≡ (fulled z b j true os').slot_owners = settle_twice (scan_close z.slots j₁).store.arcs.free (fulled z b j true os').store.arcs.free os' z.slots e.inv.owners.size second.inv.owners.none_free in
    let base : ScanClosed P z.slots z b lawful j.book (fulled z b j true os') = subst (λ os. ScanClosed P z.slots z b lawful j.book (record { store = (fulled z b j true os').store; book = j.book; nursery_owners = []; slot_owners = os })) once second in
    subst (λ os. ScanClosed P z.slots z b lawful j.book (fulled z b j j.store.cycle os)) (sym e.owners) (subst (λ t. ScanClosed P z.slots z b lawful j.book (fulled z b j t os')) (sym o.cycle) base)

-- taking the owners of free slots away gives no slot an owner
pub owners_after_freeing_older : (F : List ℕ) (os : List (Option ℕ)) (q r : ℕ) → get_or (owners_after_freeing F os) q None ≡ Some r → get_or os q None ≡ Some r
owners_after_freeing_older F os q r h = go (has q F) (sym (owners_after_freeing_at F os q) ∙ h)
  where
    go : (t : Bool) → cond t None (get_or os q None) ≡ Some r → get_or os q None ≡ Some r
    go true e = absurd (none_some refl e)
    go false e = e
