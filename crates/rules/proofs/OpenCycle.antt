-- What holds while a cycle is open, with b₀ the book at its opening; every effect keeps it.
use Rattle.std.proofs.Common.{◌≡◌, ℕ, suc, ◌+◌, ◌<◌, ◌≤◌, Bool, true, false, cond, eqb, ◌⊎◌, List, [], ◌∷◌, ◌++◌, length, get_or, set, Some, None, Option, sym, refl, ap, ◌∙◌, subst, inl, inr, arith}
use Rattle.words.specs.Words.{place_of}
use Rattle.words.specs.declared.place.Place.{Place}
use Rattle.words.specs.declared.place.Place.TheVariants.{Young, Old}
use Rattle.ring.specs.Arcs.{Arcs, has, without}
use Rattle.rules.specs.Rules.{Record, Barrier, Lawful, shade, shade_if, shade_all, shade_place, link_at}
use Rattle.rules.specs.Book.{BookWord, nil, num, ref, BookRecord, no_book_record, Book, book_record, Reachable, held, linked}
use Rattle.rules.specs.History.{History, HoldsIn}
use Rattle.rules.specs.Promise.{StandsForIn}
use Rattle.std.proofs.lemmas.Bool.{cases_lt, cases_order, eqb-true}
use Rattle.std.proofs.lemmas.List.{length-append, length-set, get_or_append_left, get_or_at, get_or_past}
use Rattle.ring.specs.Sound.{count}
use Rattle.rules.proofs.Counting.{one_if}
use Rattle.rules.proofs.Standing.{getD_set_cases, place_of_number}
use Rattle.rules.proofs.Invariant.{place_from}
use Rattle.rules.proofs.Effects.{Source, make_history, link_book, Ready}
use Rattle.rules.proofs.Shading.{Shaded, shaded, shade_white}
use Rattle.rules.proofs.Evacuating.{none_some, some_is}

-- a record is good if it was reachable at the opening or was made since; only these can be reached before the close
abbrev pub Good : Book → ℕ → Type 0
Good b₀ r = Reachable b₀ r ⊎ (length b₀.records ≤ r)

-- record t is in no white slot; record r is in no black slot
abbrev pub NonWhite : List (Option ℕ) → Arcs → ℕ → Type 0
NonWhite os a t = (q : ℕ) → get_or os q None ≡ Some t → count q a.white ≡ 0

abbrev pub NotBlack : List (Option ℕ) → Arcs → ℕ → Type 0
NotBlack os a r = (q : ℕ) → get_or os q None ≡ Some r → count q a.black ≡ 0

-- link k of record r in the book
abbrev pub link_of : Book → ℕ → ℕ → BookWord
link_of b r k = get_or (get_or b.records r no_book_record).links k nil

-- in the book, registers and links of good records hold good records
pub record ClosedUnder (b₀ b : Book) : Type 0 where
  pub longer : length b₀.records ≤ length b.records
  pub regs : (i t : ℕ) → get_or b.registers i nil ≡ ref t → Good b₀ t
  pub links : (r k t : ℕ) → Good b₀ r → link_of b r k ≡ ref t → Good b₀ t

pub good_reach : {b₀ b : Book} {r : ℕ} → ClosedUnder b₀ b → Reachable b r → Good b₀ r
good_reach {b₀} {b} {r} c (held i e) = c.regs i r e
good_reach {b₀} {b} {r} c (linked {r = s} k way e) = c.links s k r (good_reach c way) e

-- marked slots hold good records, white and grey slots records from before the opening, the nursery only new ones
pub record Marks (b₀ : Book) (ns : List ℕ) (os : List (Option ℕ)) (a : Arcs) : Type 0 where
  pub marked : (q r : ℕ) → get_or os q None ≡ Some r → 0 < count q a.grey + count q a.black → Good b₀ r
  pub unscanned : (q r : ℕ) → get_or os q None ≡ Some r → 0 < count q a.white + count q a.grey → r < length b₀.records
  pub nursery_new : (p r : ℕ) → HoldsIn ns os (Young p) r → length b₀.records ≤ r

-- a barrier that names the overwritten word: what a register held at the opening is not white, and for each link at the
-- opening its target is not white, or its record is not black and still has that link
pub record SnapshotKeeps (b₀ b : Book) (os : List (Option ℕ)) (a : Arcs) : Type 0 where
  pub kept : (r : ℕ) → Reachable b₀ r → (q : ℕ) × (get_or os q None ≡ Some r)
  pub held : (i t : ℕ) → get_or b₀.registers i nil ≡ ref t → NonWhite os a t
  pub linked : (r k t : ℕ) → Reachable b₀ r → link_of b₀ r k ≡ ref t → NonWhite os a t ⊎ (NotBlack os a r × (link_of b r k ≡ ref t))

-- a barrier that rescans and names the new word: no black slot leads to a white one
pub record NoBlackToWhite (os : List (Option ℕ)) (slots : List Record) (a : Arcs) : Type 0 where
  pub black : (q k t : ℕ) → 0 < count q a.black → place_of (link_at slots q k) ≡ Some (Old t) → count t a.white ≡ 0

-- by which part of the law the barrier is lawful
abbrev pub BarrierKeeps : (b : Barrier) → Lawful b → Book → History → Type 0
BarrierKeeps b (inl l) b₀ j = SnapshotKeeps b₀ j.book j.slot_owners j.store.arcs
BarrierKeeps b (inr l) b₀ j = NoBlackToWhite j.slot_owners j.store.slots j.store.arcs

-- a cycle is open since the book was b₀
pub record Open (b : Barrier) (lawful : Lawful b) (b₀ : Book) (j : History) : Type 0 where
  pub cycle : j.store.cycle ≡ true
  pub bounded : (r : ℕ) → Reachable b₀ r → r < length b₀.records
  pub book : ClosedUnder b₀ j.book
  pub marks : Marks b₀ j.nursery_owners j.slot_owners j.store.arcs
  pub kind : BarrierKeeps b lawful b₀ j

-- shading
pub nonwhite_shaded : (os : List (Option ℕ)) {a a' : Arcs} (t : ℕ) → Shaded a a' → NonWhite os a t → NonWhite os a' t
nonwhite_shaded os t s n q h = omega (arith, s.white q, n q h)

pub notblack_shaded : (os : List (Option ℕ)) {a a' : Arcs} (r : ℕ) → Shaded a a' → NotBlack os a r → NotBlack os a' r
notblack_shaded os r s n q h = ap (count q) s.black ∙ n q h

pub snap_shaded : {b₀ b : Book} {os : List (Option ℕ)} {a a' : Arcs} → Shaded a a' → SnapshotKeeps b₀ b os a → SnapshotKeeps b₀ b os a'
snap_shaded {b₀} {b} {os} {a} {a'} s n = record { kept = n.kept; held = λ i t e. nonwhite_shaded os t s (n.held i t e); linked = λ r k t w e. go r k t (n.linked r k t w e) }
  where
    go : (r k t : ℕ) → NonWhite os a t ⊎ (NotBlack os a r × (link_of b r k ≡ ref t)) → NonWhite os a' t ⊎ (NotBlack os a' r × (link_of b r k ≡ ref t))
    go r k t (inl x) = inl (nonwhite_shaded os t s x)
    go r k t (inr x) = inr (notblack_shaded os r s x.0, x.1)

-- which slots a shade may mark: the one that the word leads to
pub shade_marks : (w : ℕ) (a : Arcs) (q : ℕ) → 0 < count q (shade w a).grey → (0 < count q a.grey) ⊎ (place_of w ≡ Some (Old q))
shade_marks w a q h = go (place_of w) refl h
  where
    at_slot : (s : ℕ) → place_of w ≡ Some (Old s) → (t : Bool) → 0 < count q (cond t (record { free = a.free; white = without s a.white; grey = s ∷ a.grey; black = a.black }) a).grey → (0 < count q a.grey) ⊎ (place_of w ≡ Some (Old q))
    at_slot s e false h = inl h
    at_slot s e true h = by (eqb q s) refl h
      where
        by : (t : Bool) → eqb q s ≡ t → 0 < one_if t + count q a.grey → (0 < count q a.grey) ⊎ (place_of w ≡ Some (Old q))
        by true f h = inr (e ∙ ap (λ x. Some (Old x)) (sym (eqb-true q s f)))
        by false f h = inl (omega arith)

    go : (o : Option Place) → place_of w ≡ o → 0 < count q (shade_place o a).grey → (0 < count q a.grey) ⊎ (place_of w ≡ Some (Old q))
    go None e h = inl h
    go (Some (Young p)) e h = inl h
    go (Some (Old s)) e h = at_slot s e (has s a.white) h

-- shading a word that stands for something good keeps the marks
pub marks_shade : {b₀ : Book} {ns : List ℕ} {os : List (Option ℕ)} {a : Arcs} (w : ℕ) → ((q r : ℕ) → place_of w ≡ Some (Old q) → get_or os q None ≡ Some r → Good b₀ r) → Marks b₀ ns os a → Marks b₀ ns os (shade w a)
marks_shade {b₀} {ns} {os} {a} w good m = record {
  marked = λ q r h l. by q r h l (shaded w a);
  unscanned = λ q r h l. m.unscanned q r h (omega (arith, (shaded w a).grey q));
  nursery_new = m.nursery_new;
}
  where
    by : (q r : ℕ) → get_or os q None ≡ Some r → 0 < count q (shade w a).grey + count q (shade w a).black → Shaded a (shade w a) → Good b₀ r
    by q r h l s = go (cases_lt 0 (count q (shade w a).grey))
      where
        grey : (0 < count q a.grey) ⊎ (place_of w ≡ Some (Old q)) → Good b₀ r
        grey (inl k) = m.marked q r h (omega arith)
        grey (inr e) = good q r e h

        go : (0 < count q (shade w a).grey) ⊎ (count q (shade w a).grey ≤ 0) → Good b₀ r
        go (inl k) = grey (shade_marks w a q k)
        go (inr k) = m.marked q r h (omega (arith, ap (count q) s.black))

pub marks_if : {b₀ : Book} {ns : List ℕ} {os : List (Option ℕ)} {a : Arcs} (t : Bool) (w : ℕ) → (t ≡ true → (q r : ℕ) → place_of w ≡ Some (Old q) → get_or os q None ≡ Some r → Good b₀ r) → Marks b₀ ns os a → Marks b₀ ns os (shade_if t w a)
marks_if true w good m = marks_shade w (good refl) m
marks_if false w good m = m

pub marks_all : {b₀ : Book} {ns : List ℕ} {os : List (Option ℕ)} (ws : List ℕ) (a : Arcs) → ((k q r : ℕ) → place_of (get_or ws k 0) ≡ Some (Old q) → get_or os q None ≡ Some r → Good b₀ r) → Marks b₀ ns os a → Marks b₀ ns os (shade_all ws a)
marks_all [] a good m = m
marks_all (w ∷ ws) a good m = marks_all ws (shade w a) (λ k. good (suc k)) (marks_shade w (good 0) m)

-- a word that stands for something good leads to something good
pub good_word : (b₀ : Book) (ns : List ℕ) (os : List (Option ℕ)) (w : ℕ) (x : BookWord) → StandsForIn (HoldsIn ns os) w x → ((t : ℕ) → x ≡ ref t → Good b₀ t) → (q r : ℕ) → place_of w ≡ Some (Old q) → get_or os q None ≡ Some r → Good b₀ r
good_word b₀ ns os w nil s g q r e h = absurd (none_some (ap place_of s) e)
good_word b₀ ns os w (num v) s g q r e h = absurd (none_some (ap place_of s.0 ∙ place_of_number v) e)
good_word b₀ ns os w (ref t) s g q r e h =
    let (p, f, k) = place_from (HoldsIn ns os) w t s in
    let same : p ≡ Old q = some_is f e in
    subst (Good b₀) (some_is (subst (λ P. HoldsIn ns os P t) same k) h) (g t refl)

-- once shaded, what a word stands for is not white
pub shaded_word : (ns : List ℕ) (os : List (Option ℕ)) (a : Arcs) (w t : ℕ) → ((p p' : Place) (r : ℕ) → HoldsIn ns os p r → HoldsIn ns os p' r → p ≡ p') → ((q : ℕ) → count q a.white ≤ 1) → StandsForIn (HoldsIn ns os) w (ref t) → NonWhite os (shade w a) t
shaded_word ns os a w t unique once s q h =
    let (p, f, k) = place_from (HoldsIn ns os) w t s in
    let same : p ≡ Old q = unique p (Old q) t k h in
    shade_white w q a (f ∙ ap Some same) (once q)

-- the book's part, by effects
module _ (b₀ : Book) (j : History) (c : ClosedUnder b₀ j.book) where
  source_good : (x : BookWord) → Source j x → (t : ℕ) → x ≡ ref t → Good b₀ t
  source_good x o t e = good_reach c (o t e)

  pub closed_under_puts : (i : ℕ) (x : BookWord) → Source j x → ClosedUnder b₀ (record { registers = set j.book.registers i x; records = j.book.records })
  closed_under_puts i x o = record { longer = c.longer; regs = λ m t e. go m t e (getD_set_cases j.book.registers i m x nil); links = c.links }
    where
      go : (m t : ℕ) → get_or (set j.book.registers i x) m nil ≡ ref t → (get_or (set j.book.registers i x) m nil ≡ get_or j.book.registers m nil) ⊎ ((m ≡ i) × (get_or (set j.book.registers i x) m nil ≡ x)) → Good b₀ t
      go m t e (inl f) = c.regs m t (sym f ∙ e)
      go m t e (inr f) = source_good x o t (sym f.1 ∙ e)

  pub closed_under_record : (r : ℕ) (y : BookRecord) → ((k t : ℕ) → Good b₀ r → get_or y.links k nil ≡ ref t → Good b₀ t) → ClosedUnder b₀ (record { registers = j.book.registers; records = set j.book.records r y })
  closed_under_record r y good = record { longer = simp length-set c.longer; regs = c.regs; links = λ s k t g e. go s k t g e (getD_set_cases j.book.records r s y no_book_record) }
    where
      go : (s k t : ℕ) → Good b₀ s → get_or (get_or (set j.book.records r y) s no_book_record).links k nil ≡ ref t → (get_or (set j.book.records r y) s no_book_record ≡ get_or j.book.records s no_book_record) ⊎ ((s ≡ r) × (get_or (set j.book.records r y) s no_book_record ≡ y)) → Good b₀ t
      go s k t g e (inl f) = c.links s k t g (sym (ap (λ x. get_or x.links k nil) f) ∙ e)
      go s k t g e (inr f) = good k t (subst (Good b₀) f.0 g) (sym (ap (λ x. get_or x.links k nil) f.1) ∙ e)

  pub closed_under_links : (r k : ℕ) (x : BookWord) → Source j x → ClosedUnder b₀ (link_book j.book r k x)
  closed_under_links r k x o = closed_under_record r (record { links = set (book_record j.book r).links k x; plain = (book_record j.book r).plain }) (λ m t g e. go m t g e (getD_set_cases (book_record j.book r).links k m x nil))
    where
      go : (m t : ℕ) → Good b₀ r → get_or (set (book_record j.book r).links k x) m nil ≡ ref t → (get_or (set (book_record j.book r).links k x) m nil ≡ link_of j.book r m) ⊎ ((m ≡ k) × (get_or (set (book_record j.book r).links k x) m nil ≡ x)) → Good b₀ t
      go m t g e (inl f) = c.links r m t g (sym f ∙ e)
      go m t g e (inr f) = source_good x o t (sym f.1 ∙ e)

  pub closed_under_makes : (i n : ℕ) (x : Record) (y : BookRecord) → Ready j n x y → ClosedUnder b₀ (make_history j i x y).book
  closed_under_makes i n x y ready = record { longer = simp length-append (omega (arith, c.longer)); regs = λ m t e. at_reg m t e (getD_set_cases j.book.registers i m (ref (length j.book.records)) nil); links = λ r k t g e. at_rec r k t g e (cases_order r (length j.book.records)) }
    where
      at_reg : (m t : ℕ) → get_or (set j.book.registers i (ref (length j.book.records))) m nil ≡ ref t → (get_or (set j.book.registers i (ref (length j.book.records))) m nil ≡ get_or j.book.registers m nil) ⊎ ((m ≡ i) × (get_or (set j.book.registers i (ref (length j.book.records))) m nil ≡ ref (length j.book.records))) → Good b₀ t
      at_reg m t e (inl f) = c.regs m t (sym f ∙ e)
      at_reg m t e (inr f) = let g : ref (length j.book.records) ≡ ref t = sym f.1 ∙ e in let h : length j.book.records ≡ t = cc in inr (omega (arith, c.longer))

      at_rec : (r k t : ℕ) → Good b₀ r → get_or (get_or (j.book.records ++ (y ∷ [])) r no_book_record).links k nil ≡ ref t → (r ≡ length j.book.records) ⊎ ((r < length j.book.records) ⊎ (length j.book.records < r)) → Good b₀ t
      at_rec r k t g e (inl f) = source_good (get_or y.links k nil) (ready.sources k) t (sym (ap (λ v. get_or v.links k nil) (get_or_at j.book.records y [] no_book_record r (sym f))) ∙ e)
      at_rec r k t g e (inr (inl f)) = c.links r k t g (sym (ap (λ v. get_or v.links k nil) (get_or_append_left j.book.records (y ∷ []) no_book_record r f)) ∙ e)
      at_rec r k t g e (inr (inr f)) = let h : nil ≡ ref t = sym (ap (λ v. get_or v.links k nil) (get_or_past (j.book.records ++ (y ∷ [])) r no_book_record (simp length-append (omega arith)))) ∙ e in let z : ◌≡◌ {A = ℕ} 0 1 = cc in absurd (omega arith)
