-- Scanning, while a cycle is open.
use Rattle.std.proofs.Common.{◌≡◌, ℕ, zero, suc, ◌+◌, ◌<◌, ◌≤◌, true, eqb, ◌⊎◌, List, [], ◌∷◌, ◌++◌, length, get_or, Some, None, Option, sym, refl, ap, ◌∙◌, subst, inl, inr, arith}
use Rattle.words.specs.Words.{place_of}
use Rattle.words.specs.declared.place.Place.TheVariants.{Old}
use Rattle.ring.specs.Arcs.{Arcs, has, split_last, scan_from}
use Rattle.rules.specs.Rules.{no_record, Barrier, Lawful, Sizes, with_arcs, shade_all, link_at, scan_taken, scan_next, scan_upto}
use Rattle.rules.specs.Book.{ref, Book}
use Rattle.rules.specs.History.{History, Holds}
use Rattle.rules.specs.Promise.{StandsFor}
use Rattle.std.proofs.lemmas.Bool.{cases_eq, true≢false}
use Rattle.std.proofs.lemmas.List.{length-append, append_assoc}
use Rattle.ring.specs.Sound.{count}
use Rattle.ring.proofs.Chain.{has_count}
use Rattle.rules.proofs.Counting.{one_if, count_split_last, length_split_last, count_self, count_other}
use Rattle.rules.proofs.Invariant.{Ring, Inv, place_from}
use Rattle.rules.proofs.Shading.{Shaded, shaded_all, shaded_ring, shade_all_white, ring_once}
use Rattle.rules.proofs.Evacuating.{has_push_cases, some_is}
use Rattle.rules.proofs.Copying.{ring_below}
use Rattle.rules.proofs.OpenCycle.{NonWhite, NotBlack, link_of, Marks, SnapshotKeeps, NoBlackToWhite, BarrierKeeps, Open, marks_all, good_word, nonwhite_shaded}

abbrev pub arcs_history : History → Arcs → History
arcs_history j a = record { store = with_arcs a j.store; book = j.book; nursery_owners = j.nursery_owners; slot_owners = j.slot_owners }

pub arcs_inv : (z : Sizes) (j : History) → Inv z j → (a : Arcs) → j.store.cycle ≡ true → Ring z.slots a → a.free ≡ j.store.arcs.free → Inv z (arcs_history j a)
arcs_inv z j inv a cycle ring free = record {
  regs_size = inv.regs_size;
  book_regs_size = inv.book_regs_size;
  nursery_size = inv.nursery_size;
  nursery_cap = inv.nursery_cap;
  slots_size = inv.slots_size;
  ring = ring;
  quiet = λ e. absurd (true≢false (sym cycle ∙ e));
  room = rw free inv.room;
  owners = rw free inv.owners;
  fields = inv.fields;
  regs = inv.regs;
  noted = inv.noted;
  noted_once = inv.noted_once;
}

-- a slot that is on the ring and not free has an owner
pub owner_of : (z : Sizes) (j : History) → Inv z j → (q : ℕ) → 0 < count q j.store.arcs.white + (count q j.store.arcs.grey + count q j.store.arcs.black) → (r : ℕ) × (get_or j.slot_owners q None ≡ Some r)
owner_of z j inv q l = go (get_or j.slot_owners q None) refl
  where
    go : (o : Option ℕ) → get_or j.slot_owners q None ≡ o → (r : ℕ) × (get_or j.slot_owners q None ≡ Some r)
    go (Some r) e = (r, e)
    go None e = absurd (omega (arith, ring_once inv.ring q, has_count q j.store.arcs.free (inv.owners.none_free q (ring_below inv.ring q (omega arith)) e)))

-- the last grey slot becomes black
abbrev pub blackened : Arcs → ℕ → List ℕ → Arcs
blackened a x xs = record { free = a.free; white = a.white; grey = (split_last x xs).0; black = (split_last x xs).1 ∷ a.black }

module _ (z : Sizes) (b : Barrier) (lawful : Lawful b) (b₀ : Book) (j : History) (inv : Inv z j) (o : Open b lawful b₀ j) (x : ℕ) (xs : List ℕ) (grey : j.store.arcs.grey ≡ x ∷ xs) where
  abbrev a : Arcs
  a = j.store.arcs

  abbrev g : ℕ
  g = (split_last x xs).1

  abbrev a₁ : Arcs
  a₁ = blackened a x xs

  abbrev ws : List ℕ
  ws = (get_or j.store.slots g no_record).links

  abbrev a₂ : Arcs
  a₂ = shade_all ws a₁

  grey_count : (q : ℕ) → count q a₁.grey + one_if (eqb q g) ≡ count q a.grey
  grey_count q = count_split_last q x xs ∙ ap (count q) (sym grey)

  ring₁ : Ring z.slots a₁
  ring₁ = record { size = omega (arith, inv.ring.size, ap length grey, length_split_last x xs); each = λ q. omega (arith, inv.ring.each q, grey_count q) }

  shades : Shaded a₁ a₂
  shades = shaded_all ws a₁

  ring₂ : Ring z.slots a₂
  ring₂ = shaded_ring shades ring₁

  pub scan_grey : 0 < count g a.grey
  scan_grey = omega (arith, grey_count g, count_self g [])

  g_owner : (r : ℕ) × (get_or j.slot_owners g None ≡ Some r)
  g_owner = owner_of z j inv g (omega (arith, scan_grey))

  white_once : (q : ℕ) → count q a₁.white ≤ 1
  white_once q = omega (arith, ring_once inv.ring q)

  scan_marks : Marks b₀ j.nursery_owners j.slot_owners a₂
  scan_marks = marks_all ws a₁ (λ k. good_word b₀ j.nursery_owners j.slot_owners (link_at j.store.slots g k) (link_of j.book g_owner.0 k) ((inv.fields (Old g) g_owner.0 g_owner.1).links k) (λ t e. o.book.links g_owner.0 k t (o.marks.marked g g_owner.0 g_owner.1 (omega (arith, scan_grey))) e)) marks₁
    where
      marks₁ : Marks b₀ j.nursery_owners j.slot_owners a₁
      marks₁ = record { marked = λ q r h l. o.marks.marked q r h (omega (arith, grey_count q)); unscanned = λ q r h l. o.marks.unscanned q r h (omega (arith, grey_count q)); nursery_new = o.marks.nursery_new }

  -- what g's word stands for is not white any more
  link_white : (k t : ℕ) → link_of j.book g_owner.0 k ≡ ref t → NonWhite j.slot_owners a₂ t
  link_white k t e q h = at ((inv.fields (Old g) g_owner.0 g_owner.1).links k)
    where
      at : StandsFor j (link_at j.store.slots g k) (link_of j.book g_owner.0 k) → count q a₂.white ≡ 0
      at s =
          let (p, f, i) = place_from (Holds j) (link_at j.store.slots g k) t (subst (λ v. StandsFor j (link_at j.store.slots g k) v) e s) in
          shade_all_white ws k q a₁ (f ∙ ap Some (inv.owners.unique p (Old q) t i h)) (white_once q)

  scan_snap : SnapshotKeeps b₀ j.book j.slot_owners a → SnapshotKeeps b₀ j.book j.slot_owners a₂
  scan_snap n = record { kept = n.kept; held = λ i t e. nonwhite_shaded j.slot_owners {a = a₁} {a' = a₂} t shades (n.held i t e); linked = λ r k t y e. go r k t (cases_eq r g_owner.0) (n.linked r k t y e) }
    where
      go : (r k t : ℕ) → (r ≡ g_owner.0) ⊎ (r ≡ g_owner.0 → ⊥) → NonWhite j.slot_owners a t ⊎ (NotBlack j.slot_owners a r × (link_of j.book r k ≡ ref t)) → NonWhite j.slot_owners a₂ t ⊎ (NotBlack j.slot_owners a₂ r × (link_of j.book r k ≡ ref t))
      go r k t e (inl f) = inl (nonwhite_shaded j.slot_owners {a = a₁} {a' = a₂} t shades f)
      go r k t (inl e) (inr f) = inl (link_white k t (ap (λ n. link_of j.book n k) (sym e) ∙ f.1))
      go r k t (inr e) (inr f) = inr (black, f.1)
        where
          black : NotBlack j.slot_owners a₂ r
          black q h = ap (count q) shades.black ∙ count_other q g a.black (λ i. e (some_is h (subst (λ n. get_or j.slot_owners n None ≡ Some g_owner.0) i g_owner.1))) ∙ f.0 q h

  scan_none : NoBlackToWhite j.slot_owners j.store.slots a → NoBlackToWhite j.slot_owners j.store.slots a₂
  scan_none n = record { black = λ q k t l e. go q k t (subst (λ f. 0 < count q f) shades.black l) e (cases_eq g q) }
    where
      go : (q k t : ℕ) → 0 < count q (g ∷ a.black) → place_of (link_at j.store.slots q k) ≡ Some (Old t) → (g ≡ q) ⊎ (g ≡ q → ⊥) → count t a₂.white ≡ 0
      go q k t l e (inl f) = shade_all_white ws k t a₁ (ap (λ n. place_of (link_at j.store.slots n k)) f ∙ e) (white_once t)
      go q k t l e (inr f) = omega (arith, n.black q k t (omega (arith, count_other q g a.black f)) e, shades.white t)

  scan_kind : (l : Lawful b) → BarrierKeeps b l b₀ j → BarrierKeeps b l b₀ (arcs_history j a₂)
  scan_kind (inl l) n = scan_snap n
  scan_kind (inr l) n = scan_none n

  pub scan_inv : Inv z (arcs_history j a₂)
  scan_inv = arcs_inv z j inv a₂ o.cycle ring₂ shades.free

  pub scan_open : Open b lawful b₀ (arcs_history j a₂)
  scan_open = record { cycle = o.cycle; bounded = o.bounded; book = o.book; marks = scan_marks; kind = scan_kind lawful o.kind }

  pub scan_white : (q : ℕ) → count q a₂.white ≤ count q a.white
  scan_white q = shades.white q

  pub scan_free : a₂.free ≡ a.free
  scan_free = shades.free

  pub scan_black : a₂.black ≡ g ∷ a.black
  scan_black = shades.black

  pub scan_less : (q : ℕ) → count q a₂.white + count q a₂.grey ≤ count q a.white + count q a.grey
  scan_less q = omega (arith, shades.grey q, grey_count q)

-- what scanning puts in front of the black arc: slots that were white or grey
pub record Front (n : ℕ) (a a' : Arcs) : Type 0 where
  pub new : List ℕ
  pub black : a'.black ≡ new ++ a.black
  pub made : (a'.grey ≡ []) ⊎ (length new ≡ n)
  pub from : (q : ℕ) → has q new ≡ true → 0 < count q a.white + count q a.grey

-- any number of scans
pub record Scanned (n : ℕ) (z : Sizes) (b : Barrier) (lawful : Lawful b) (b₀ : Book) (j : History) (a' : Arcs) : Type 0 where
  pub inv : Inv z (arcs_history j a')
  pub still : Open b lawful b₀ (arcs_history j a')
  pub white : (q : ℕ) → count q a'.white ≤ count q j.store.arcs.white
  pub free : a'.free ≡ j.store.arcs.free
  pub front : Front n j.store.arcs a'

front_none : (n : ℕ) (a : Arcs) → (a.grey ≡ []) ⊎ (0 ≡ n) → Front n a a
front_none n a m = record { new = []; black = refl; made = m; from = λ q h. absurd (true≢false (sym h)) }

front_more : (n g : ℕ) (a a₁ a₂ : Arcs) → a₁.black ≡ g ∷ a.black → 0 < count g a.grey → ((q : ℕ) → count q a₁.white + count q a₁.grey ≤ count q a.white + count q a.grey) → Front n a₁ a₂ → Front (suc n) a a₂
front_more n g a a₁ a₂ e l less f = record { new = f.new ++ (g ∷ []); black = f.black ∙ ap (λ xs. f.new ++ xs) e ∙ sym (append_assoc f.new (g ∷ []) a.black); made = made f.made; from = λ q h. from q (has_push_cases q g f.new h) }
  where
    made : (a₂.grey ≡ []) ⊎ (length f.new ≡ n) → (a₂.grey ≡ []) ⊎ (length (f.new ++ (g ∷ [])) ≡ suc n)
    made (inl k) = inl k
    made (inr k) = inr (simp length-append (omega arith))

    from : (q : ℕ) → (has q f.new ≡ true) ⊎ (q ≡ g) → 0 < count q a.white + count q a.grey
    from q (inl k) = omega (arith, f.from q k, less q)
    from q (inr k) = subst (λ n. 0 < count n a.white + count n a.grey) (sym k) (omega arith)

pub scans : (n : ℕ) (z : Sizes) (b : Barrier) (lawful : Lawful b) (b₀ : Book) (j : History) → Inv z j → Open b lawful b₀ j → Scanned n z b lawful b₀ j (scan_upto j.store.slots n j.store.arcs).0
scans zero z b lawful b₀ j inv o = record { inv = inv; still = o; white = λ q. omega arith; free = refl; front = front_none 0 j.store.arcs (inr refl) }
scans (suc n) z b lawful b₀ j inv o = go j.store.arcs.grey refl (scans n z b lawful b₀)
  where
    go : (f : List ℕ) → j.store.arcs.grey ≡ f → ((j : History) → Inv z j → Open b lawful b₀ j → Scanned n z b lawful b₀ j (scan_upto j.store.slots n j.store.arcs).0) → Scanned (suc n) z b lawful b₀ j (scan_next (scan_taken j.store.slots (scan_from f j.store.arcs)) (scan_upto j.store.slots n) j.store.arcs).0
    go [] e more = record { inv = inv; still = o; white = λ q. omega arith; free = refl; front = front_none (suc n) j.store.arcs (inl e) }
    go (x ∷ xs) e more =
        let j₁ = arcs_history j (shade_all (get_or j.store.slots (split_last x xs).1 no_record).links (blackened j.store.arcs x xs)) in
        let s = more j₁ (scan_inv z b lawful b₀ j inv o x xs e) (scan_open z b lawful b₀ j inv o x xs e) in
        record { inv = s.inv; still = s.still; white = λ q. omega (arith, s.white q, scan_white z b lawful b₀ j inv o x xs e q); free = s.free ∙ scan_free z b lawful b₀ j inv o x xs e; front = front_more n (split_last x xs).1 j.store.arcs j₁.store.arcs (scan_upto j.store.slots n j₁.store.arcs).0 (scan_black z b lawful b₀ j inv o x xs e) (scan_grey z b lawful b₀ j inv o x xs e) (scan_less z b lawful b₀ j inv o x xs e) s.front }
