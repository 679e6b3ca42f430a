-- Each call that collects nothing has one of the six effects, and its answer is the book's.
use Rattle.std.proofs.Common.{◌≡◌, ℕ, zero, suc, ◌+◌, ◌*◌, ◌%◌, Bool, true, false, cond, not, ◌&&◌, eqb, ltb, leb, ◌⊎◌, List, [], ◌∷◌, length, get_or, set, ℤ, pos, negsuc, Some, None, Option, sym, refl, ap, ◌∙◌, subst, inl, inr, arith}
use Rattle.words.specs.Words.{nothing, number_word, is_number, place_of}
use Rattle.words.specs.declared.place.Place.{Place}
use Rattle.words.specs.declared.place.Place.TheVariants.{Young, Old}
use Rattle.rules.specs.Rules.{Record, Barrier, Sizes, Store, Call, load, empty, copy, make, read, write, fill, plain, same, look, tell, step, full, Answer, refused, done, gave, in_range, index, all_in, unless, reg, record_at, place_in, with_place, ok, do_write, do_look, counts, flag, needs_note, write_old, links_from, run_call}
use Rattle.rules.specs.Book.{BookWord, nil, num, ref, BookRecord, Book, book_record, book_register, put_book_record, book_unless, with_ref, unless_no_room, refused_for_room, word_eqb, look_answer, book_links, count_of, book_entry, unless_closed, book_call, held, linked}
use Rattle.rules.specs.History.{History, Holds, collects, nursery_after, history_call}
use Rattle.rules.specs.Promise.{StandsFor, Agrees}
use Rattle.std.proofs.lemmas.Bool.{eqb-true, eq-eqb, ne_eqb, cases_eq, ltb-true, true≢false}
use Rattle.rules.proofs.Standing.{place_of_number, number_back, word_of, word_back, same_numbers}
use Rattle.rules.proofs.Invariant.{Inv, place_from, held_in}
use Rattle.rules.proofs.Refusals.{never_20}
use Rattle.rules.proofs.Effects.{Source, make_history, Effect, stay, puts, makes, writes_young, writes_old, fills}

module _ (z : Sizes) (b : Barrier) (j : History) (inv : Inv z j) where
  abbrev Result : Store × Answer → Book × Answer → Type 0
  Result sa ba = Effect z b j (record { store = sa.0; book = ba.0; nursery_owners = j.nursery_owners; slot_owners = j.slot_owners }) × (sa.1 ≡ ba.1)

  unless_both : (t : Bool) (n : ℕ) (sa : Store × Answer) (ba : Book × Answer) → (t ≡ true → Result sa ba) → Result (unless j.store t n sa) (book_unless j.book t n ba)
  unless_both true n sa ba f = f refl
  unless_both false n sa ba f = (stay, refl)

  reg_source : (i : ℕ) → Source j (get_or j.book.registers i nil)
  reg_source i t e = held i e

  -- where a register's word leads
  abbrev at_word : ℕ → Option Place
  at_word w = place_in z (length j.store.nursery) w

  at_record : (w r : ℕ) → StandsFor j w (ref r) → (p : Place) × (at_word w ≡ Some p) × Holds j p r
  at_record w r h = let (p, e, k) = place_from (Holds j) w r h in (p, rw e (held_in z j inv p r k), k)

  place_both : (w : ℕ) (x : BookWord) → StandsFor j w x → (go : Place → Store × Answer) (bgo : ℕ → Book × Answer) → ((p : Place) (r : ℕ) → x ≡ ref r → Holds j p r → Result (go p) (bgo r)) → Result (with_place j.store (at_word w) go) (with_ref j.book x bgo)
  place_both w nil h go bgo f = rw h (stay, refl)
  place_both w (num v) h go bgo f = rw (h.0, place_of_number v) (stay, refl)
  place_both w (ref r) h go bgo f = let (p, e, k) = at_record w r h in rw e (f p r refl k)

  -- a number or nothing leads nowhere
  no_source : (x : BookWord) → ((t : ℕ) → x ≡ ref t → ⊥) → Source j x
  no_source x f t e = absurd (f t e)

  num_no : (v : ℤ) (t : ℕ) → num v ≡ ref t → ⊥
  num_no v t e = let k : ◌≡◌ {A = ℕ} 0 1 = cc in omega arith

  nil_no : (t : ℕ) → nil ≡ ref t → ⊥
  nil_no t e = let k : ◌≡◌ {A = ℕ} 0 1 = cc in omega arith

  link_source : (i r k : ℕ) → get_or j.book.registers i nil ≡ ref r → Source j (get_or (book_record j.book r).links k nil)
  link_source i r k e t h = linked k (held i e) h

  -- a word that leads nowhere stands for no record
  leads_nowhere : (w v r : ℕ) → w ≡ v → place_of w ≡ None → StandsFor j v (ref r) → ⊥
  leads_nowhere w v r e n h = let (p, f, _) = place_from (Holds j) v r h in let g : place_of w ≡ Some p = ap place_of e ∙ f in let z : ◌≡◌ {A = ℕ} 0 1 = cc in omega arith

  not_number : (a : ℤ) → number_word a ≡ 0 → ⊥
  not_number (pos n) e = omega arith
  not_number (negsuc n) e = omega arith

  functional : (p : Place) (r t : ℕ) → Holds j p r → Holds j p t → r ≡ t
  functional (Young n) r t a c = sym a.1 ∙ c.1
  functional (Old q) r t a c = cc

  same_refs : (w v r t : ℕ) (p p' : Place) → place_of w ≡ Some p → place_of v ≡ Some p' → Holds j p r → Holds j p' t → eqb w v ≡ eqb r t
  same_refs w v r t p p' e e' a a' = go (cases_eq r t)
    where
      go : (r ≡ t) ⊎ (r ≡ t → ⊥) → eqb w v ≡ eqb r t
      go (inl k) =
          let u : p ≡ p' = inv.owners.unique p p' r a (rw (← k) at a') in
          eq-eqb w v (word_back w p e ∙ ap word_of u ∙ sym (word_back v p' e')) ∙ sym (eq-eqb r t k)
      go (inr n) = ne_eqb w v (λ k. n (functional p r t a (let f : Some p' ≡ Some p = sym e' ∙ sym (ap place_of k) ∙ e in let g : p' ≡ p = cc in rw g at a'))) ∙ sym (ne_eqb r t n)

  -- words are equal where what they stand for is
  same_words : (w v : ℕ) (x y : BookWord) → StandsFor j w x → StandsFor j v y → eqb w v ≡ word_eqb x y
  same_words w v nil nil h k = rw (h, k) refl
  same_words w v nil (num a) h k = rw h (ne_eqb 0 v (λ e. not_number a (sym k.0 ∙ sym e)))
  same_words w v nil (ref r) h k = rw h (ne_eqb 0 v (λ e. leads_nowhere 0 v r e refl k))
  same_words w v (num a) nil h k = rw k (ne_eqb w 0 (λ e. not_number a (sym h.0 ∙ e)))
  same_words w v (num a) (num c) h k = rw (h.0, k.0) (same_numbers a c h.1 k.1)
  same_words w v (num a) (ref r) h k = ne_eqb w v (λ e. leads_nowhere w v r e (ap place_of h.0 ∙ place_of_number a) k)
  same_words w v (ref r) nil h k = rw k (ne_eqb w 0 (λ e. leads_nowhere 0 w r (sym e) refl h))
  same_words w v (ref r) (num a) h k = ne_eqb w v (λ e. leads_nowhere v w r (sym e) (ap place_of k.0 ∙ place_of_number a) h)
  same_words w v (ref r) (ref t) h k = let (p, e, a) = place_from (Holds j) w r h in let (p', e', a') = place_from (Holds j) v t k in same_refs w v r t p p' e e' a a'

  look_both : (w : ℕ) (x : BookWord) → StandsFor j w x → do_look w ≡ look_answer x
  look_both w nil h = rw h refl
  look_both w (num v) h = rw h.0 (go v h.1)
    where
      go : (v : ℤ) → is_number v ≡ true → do_look (number_word v) ≡ look_answer (num v)
      go (pos n) e = rw (ne_eqb (4 * n + 1) 0 (omega arith), eq-eqb ((4 * n + 1) % 4) 1 (omega arith), number_back (pos n) e) refl
      go (negsuc n) e = rw (ne_eqb (number_word (negsuc n)) 0 (omega arith), eq-eqb (number_word (negsuc n) % 4) 1 (omega arith), number_back (negsuc n) e) refl
  look_both w (ref r) h = go at_w.0 (word_back w at_w.0 at_w.1)
    where
      at_w : (p : Place) × (place_of w ≡ Some p) × Holds j p r
      at_w = place_from (Holds j) w r h

      go : (p : Place) → w ≡ word_of p → do_look w ≡ counts (2 ∷ [])
      go (Young p) e = rw (ne_eqb w 0 (omega arith), ne_eqb (w % 4) 1 (omega arith)) refl
      go (Old q) e = rw (ne_eqb w 0 (omega arith), ne_eqb (w % 4) 1 (omega arith)) refl

  abbrev Both : Call → Type 0
  Both c = Result (run_call z b j.store c) (book_entry z j.book c (run_call z b j.store c).1)

  load_effect : (r v : ℤ) → Both (load r v)
  load_effect r v = unless_both (in_range r z.registers) 3 _ _ (λ _. unless_both (is_number v) 4 _ _ (λ e. (puts (index r) (number_word v) (num v) (refl, e) (no_source (num v) (num_no v)), refl)))

  empty_effect : (r : ℤ) → Both (empty r)
  empty_effect r = unless_both (in_range r z.registers) 3 _ _ (λ _. (puts (index r) nothing nil refl (no_source nil nil_no), refl))

  copy_effect : (d t : ℤ) → Both (copy d t)
  copy_effect d t = unless_both (in_range d z.registers && in_range t z.registers) 3 _ _ (λ _. (puts (index d) (reg j.store t) (book_register j.book t) (inv.regs (index t)) (reg_source (index t)), refl))

  read_effect : (d t k : ℤ) → Both (read d t k)
  read_effect d t k =
      unless_both (in_range d z.registers && in_range t z.registers) 3 _ _ (λ _.
      unless_both (in_range k z.links) 5 _ _ (λ _.
      place_both (reg j.store t) (book_register j.book t) (inv.regs (index t)) _ _ (λ p r e h.
      (puts (index d) (get_or (record_at j.store p).links (index k) 0) (get_or (book_record j.book r).links (index k) nil) ((inv.fields p r h).links (index k)) (link_source (index t) r (index k) e), refl))))

  fill_effect : (d : ℤ) (pl : List ℤ) → Both (fill d pl)
  fill_effect d pl =
      unless_both (in_range d z.registers) 3 _ _ (λ _.
      place_both (reg j.store d) (book_register j.book d) (inv.regs (index d)) _ _ (λ p r e h. (fills p r pl h, refl)))

  plain_effect : (d : ℤ) → Both (plain d)
  plain_effect d =
      unless_both (in_range d z.registers) 3 _ _ (λ _.
      place_both (reg j.store d) (book_register j.book d) (inv.regs (index d)) _ _ (λ p r e h. (stay, ap gave (inv.fields p r h).plain)))

  same_effect : (d t : ℤ) → Both (same d t)
  same_effect d t = unless_both (in_range d z.registers && in_range t z.registers) 3 _ _ (λ _. (stay, ap (λ u. counts (flag u ∷ [])) (same_words _ _ _ _ (inv.regs (index d)) (inv.regs (index t)))))

  look_effect : (r : ℤ) → Both (look r)
  look_effect r = unless_both (in_range r z.registers) 3 _ _ (λ _. (stay, look_both _ _ (inv.regs (index r))))

  -- the same where the book takes something from the answer
  unless_answer : (t : Bool) (n : ℕ) (sa : Store × Answer) (ba : Answer → Book × Answer) → Result sa (ba sa.1) → Result (unless j.store t n sa) (book_unless j.book t n (ba (unless j.store t n sa).1))
  unless_answer true n sa ba f = f
  unless_answer false n sa ba f = (stay, refl)

  place_answer : (w : ℕ) (x : BookWord) → StandsFor j w x → (go : Place → Store × Answer) (bgo : Answer → ℕ → Book × Answer) → ((p : Place) (r : ℕ) → x ≡ ref r → Holds j p r → Result (go p) (bgo (go p).1 r)) → Result (with_place j.store (at_word w) go) (with_ref j.book x (bgo (with_place j.store (at_word w) go).1))
  place_answer w nil h go bgo f = rw h (stay, refl)
  place_answer w (num v) h go bgo f = rw (h.0, place_of_number v) (stay, refl)
  place_answer w (ref r) h go bgo f = let (p, e, k) = at_record w r h in rw e (f p r refl k)

  write_effect : (d k t : ℤ) → Both (write d k t)
  write_effect d k t =
      unless_answer (in_range d z.registers && in_range t z.registers) 3 (unless j.store (in_range k z.links) 5 placed) (λ a. book_unless j.book (in_range k z.links) 5 (with_ref j.book (book_register j.book d) (λ r. wrote r a)))
      (unless_answer (in_range k z.links) 5 placed (λ a. with_ref j.book (book_register j.book d) (λ r. wrote r a))
      (place_answer (reg j.store d) (book_register j.book d) (inv.regs (index d)) (do_write z b j.store (index k) (reg j.store t)) (λ a r. wrote r a) at_place))
    where
      wrote : ℕ → Answer → Book × Answer
      wrote r a = unless_no_room j.book (refused_for_room a) (put_book_record j.book r (record { links = set (book_record j.book r).links (index k) (book_register j.book t); plain = (book_record j.book r).plain }), done [])

      placed : Store × Answer
      placed = with_place j.store (at_word (reg j.store d)) (do_write z b j.store (index k) (reg j.store t))

      into_old : (q r : ℕ) → book_register j.book d ≡ ref r → Holds j (Old q) r → (full : Bool) → Result (unless j.store full 24 (ok (write_old b j.store q (index k) (reg j.store t)))) (wrote r (unless j.store full 24 (ok (write_old b j.store q (index k) (reg j.store t)))).1)
      into_old q r e h true = (writes_old q r (index k) (reg j.store t) (book_register j.book t) h (held (index d) e) (inv.regs (index t)) (reg_source (index t)), refl)
      into_old q r e h false = (stay, refl)

      at_place : (p : Place) (r : ℕ) → book_register j.book d ≡ ref r → Holds j p r → Result (do_write z b j.store (index k) (reg j.store t) p) (wrote r (do_write z b j.store (index k) (reg j.store t) p).1)
      at_place (Young p) r e h = (writes_young p r (index k) (reg j.store t) (book_register j.book t) h (held (index d) e) (inv.regs (index t)) (reg_source (index t)), refl)
      at_place (Old q) r e h = into_old q r e h (not (needs_note j.store q (reg j.store t) && leb z.slots (length j.store.notes)))

  -- the links of a new record
  links_both : (rs : List ℤ) (k : ℕ) → StandsFor j (get_or (links_from j.store rs) k 0) (get_or (book_links j.book rs) k nil)
  links_both [] k = refl
  links_both (r ∷ rs) zero = inv.regs (index r)
  links_both (r ∷ rs) (suc k) = links_both rs k

  links_source : (rs : List ℤ) (k : ℕ) → Source j (get_or (book_links j.book rs) k nil)
  links_source [] k = no_source nil nil_no
  links_source (r ∷ rs) zero = reg_source (index r)
  links_source (r ∷ rs) (suc k) = links_source rs k

  links_size : (rs : List ℤ) → length (links_from j.store rs) ≡ length rs
  links_size [] = refl
  links_size (r ∷ rs) = ap suc (links_size rs)

  book_links_size : (rs : List ℤ) → length (book_links j.book rs) ≡ length rs
  book_links_size [] = refl
  book_links_size (r ∷ rs) = ap suc (book_links_size rs)

  abbrev Done : Call → Type 0
  Done c = Effect z b j (history_call z b j c) × Agrees z b j c

  -- the same for the entry that the book makes beside an open store
  abbrev Entered : Call → Book × Answer → Type 0
  Entered c ba = Effect z b j (record { store = (run_call z b j.store c).0; book = ba.0; nursery_owners = nursery_after c (run_call z b j.store c).1 j; slot_owners = j.slot_owners }) × ((run_call z b j.store c).1 ≡ ba.1)

  is_open : (a : Answer) (ba : Book × Answer) → (a ≡ refused 20 → ⊥) → unless_closed j.book a ba ≡ ba
  is_open (done vs) ba f = refl
  is_open (gave ps) ba f = refl
  is_open (refused n) ba f = go (eqb n 20) refl
    where
      go : (t : Bool) → eqb n 20 ≡ t → cond t (j.book, refused 20) ba ≡ ba
      go true e = absurd (f (ap refused (eqb-true n 20 e)))
      go false e = refl

  entered : (c : Call) → Entered c (book_entry z j.book c (run_call z b j.store c).1) → Entered c (book_call z j.book c (run_call z b j.store c).1)
  entered c = subst (Entered c) (sym (is_open (run_call z b j.store c).1 (book_entry z j.book c (run_call z b j.store c).1) (never_20 z b j.store c)))

  make_effect : (d : ℤ) (pl : List ℤ) (rs : List ℤ) → Entered (make d pl rs) (book_entry z j.book (make d pl rs) (run_call z b j.store (make d pl rs)).1)
  make_effect d pl rs = go (in_range d z.registers && all_in rs z.registers) (eqb (length rs) z.links) refl (ltb (length j.store.nursery) z.places) refl (ltb (length j.store.nursery) (length j.store.arcs.free)) refl
    where
      fresh : Record
      fresh = record { links = links_from j.store rs; plain = pl }

      bfresh : BookRecord
      bfresh = record { links = book_links j.book rs; plain = pl }

      run : Bool → Bool → Bool → Bool → Store × Answer
      run t₁ t₂ t₃ t₄ = unless j.store t₁ 3 (unless j.store t₂ 6 (unless j.store t₃ 22 (unless j.store t₄ 23 ((make_history j (index d) fresh bfresh).store, counts (suc (length j.store.nursery) ∷ [])))))

      book : Bool → Bool → Answer → Book × Answer
      book t₁ t₂ a = book_unless j.book t₁ 3 (book_unless j.book t₂ 6 (unless_no_room j.book (refused_for_room a) ((make_history j (index d) fresh bfresh).book, counts (count_of a ∷ []))))

      go : (t₁ t₂ : Bool) → eqb (length rs) z.links ≡ t₂ → (t₃ : Bool) → ltb (length j.store.nursery) z.places ≡ t₃ → (t₄ : Bool) → ltb (length j.store.nursery) (length j.store.arcs.free) ≡ t₄ → Effect z b j (record { store = (run t₁ t₂ t₃ t₄).0; book = (book t₁ t₂ (run t₁ t₂ t₃ t₄).1).0; nursery_owners = nursery_after (make d pl rs) (run t₁ t₂ t₃ t₄).1 j; slot_owners = j.slot_owners }) × ((run t₁ t₂ t₃ t₄).1 ≡ (book t₁ t₂ (run t₁ t₂ t₃ t₄).1).1)
      go false t₂ e₂ t₃ e₃ t₄ e₄ = (stay, refl)
      go true false e₂ t₃ e₃ t₄ e₄ = (stay, refl)
      go true true e₂ false e₃ t₄ e₄ = (stay, refl)
      go true true e₂ true e₃ false e₄ = (stay, refl)
      go true true e₂ true e₃ true e₄ =
          (makes (index d) fresh bfresh (record { size = links_size rs ∙ eqb-true (length rs) z.links e₂; book_size = book_links_size rs ∙ eqb-true (length rs) z.links e₂; plain = refl; links = links_both rs; sources = links_source rs }) (ltb-true (length j.store.nursery) z.places e₃) (ltb-true (length j.store.nursery) (length j.store.arcs.free) e₄), refl)

  pub call_effect : (c : Call) → collects c ≡ false → Done c
  call_effect (load r v) e = entered (load r v) (load_effect r v)
  call_effect (empty r) e = entered (empty r) (empty_effect r)
  call_effect (copy d t) e = entered (copy d t) (copy_effect d t)
  call_effect (make d p rs) e = entered (make d p rs) (make_effect d p rs)
  call_effect (read d t k) e = entered (read d t k) (read_effect d t k)
  call_effect (write d k t) e = entered (write d k t) (write_effect d k t)
  call_effect (fill d p) e = entered (fill d p) (fill_effect d p)
  call_effect (plain d) e = entered (plain d) (plain_effect d)
  call_effect (same d t) e = entered (same d t) (same_effect d t)
  call_effect (look r) e = entered (look r) (look_effect r)
  call_effect tell e = (stay, refl)
  call_effect step e = absurd (true≢false e)
  call_effect full e = absurd (true≢false e)
