-- Where words lead, and how standing for a book word carries over.
use Rattle.std.proofs.Common.{◌≡◌, ℕ, zero, suc, ◌+◌, ◌-◌, ◌*◌, ◌/◌, ◌%◌, ◌^◌, ◌<◌, Bool, true, false, cond, eqb, ◌⊎◌, List, [], ◌∷◌, length, get_or, set, ℤ, pos, negsuc, Some, None, Option, sym, refl, ap, ◌∙◌, inl, inr, arith}
use Rattle.words.specs.Words.{nothing, number_word, is_number, word_number, nursery_word, slot_word, place_of}
use Rattle.words.specs.declared.place.Place.{Place}
use Rattle.words.specs.declared.place.Place.TheVariants.{Young, Old}
use Rattle.rules.specs.Rules.{Record, no_record, with_link, link_at, set_link}
use Rattle.rules.specs.Book.{BookWord, nil, num, ref, int_eqb}
use Rattle.rules.specs.Promise.{LeadsTo, StandsForIn}
use Rattle.std.proofs.lemmas.Bool.{cases_eq, eqb-true, eq-eqb, ne_eqb, ltb-true, lt-ltb, le-ltb}

-- two lists that correspond at each place still do when both are set at the same place
pub set_both : {X Y : Type 0} (R : X → Y → Type 0) (xs : List X) (ys : List Y) (d : X) (e : Y) → length xs ≡ length ys → ((k : ℕ) → R (get_or xs k d) (get_or ys k e)) → (i : ℕ) (v : X) (w : Y) → R v w → (k : ℕ) → R (get_or (set xs i v) k d) (get_or (set ys i w) k e)
set_both R [] [] d e l h i v w r k = h k
set_both R [] (y ∷ ys) d e l h i v w r k = absurd (omega arith)
set_both R (x ∷ xs) [] d e l h i v w r k = absurd (omega arith)
set_both R (x ∷ xs) (y ∷ ys) d e l h zero v w r zero = r
set_both R (x ∷ xs) (y ∷ ys) d e l h zero v w r (suc k) = h (suc k)
set_both R (x ∷ xs) (y ∷ ys) d e l h (suc i) v w r zero = h zero
set_both R (x ∷ xs) (y ∷ ys) d e l h (suc i) v w r (suc k) = set_both R xs ys d e (omega arith) (λ m. h (suc m)) i v w r k

-- a list set on one side only, to what stands beside it already
pub set_left : {X Y : Type 0} (R : X → Y → Type 0) (xs : List X) (ys : List Y) (d : X) (e : Y) → ((k : ℕ) → R (get_or xs k d) (get_or ys k e)) → (i : ℕ) (v : X) → R v (get_or ys i e) → (k : ℕ) → R (get_or (set xs i v) k d) (get_or ys k e)
set_left R [] ys d e h i v r k = h k
set_left R (x ∷ xs) [] d e h zero v r zero = r
set_left R (x ∷ xs) [] d e h zero v r (suc k) = h (suc k)
set_left R (x ∷ xs) [] d e h (suc i) v r zero = h zero
set_left R (x ∷ xs) [] d e h (suc i) v r (suc k) = set_left R xs [] d e (λ m. h (suc m)) i v r k
set_left R (x ∷ xs) (y ∷ ys) d e h zero v r zero = r
set_left R (x ∷ xs) (y ∷ ys) d e h zero v r (suc k) = h (suc k)
set_left R (x ∷ xs) (y ∷ ys) d e h (suc i) v r zero = h zero
set_left R (x ∷ xs) (y ∷ ys) d e h (suc i) v r (suc k) = set_left R xs ys d e (λ m. h (suc m)) i v r k

-- what stands in a list after a set
pub getD_set_cases : {X : Type 0} (xs : List X) (i n : ℕ) (v d : X) → (get_or (set xs i v) n d ≡ get_or xs n d) ⊎ ((n ≡ i) × (get_or (set xs i v) n d ≡ v))
getD_set_cases [] i n v d = inl refl
getD_set_cases (x ∷ xs) zero zero v d = inr (refl, refl)
getD_set_cases (x ∷ xs) zero (suc n) v d = inl refl
getD_set_cases (x ∷ xs) (suc i) zero v d = inl refl
getD_set_cases (x ∷ xs) (suc i) (suc n) v d = go (getD_set_cases xs i n v d)
  where
    go : (get_or (set xs i v) n d ≡ get_or xs n d) ⊎ ((n ≡ i) × (get_or (set xs i v) n d ≡ v)) → (get_or (set xs i v) n d ≡ get_or xs n d) ⊎ ((suc n ≡ suc i) × (get_or (set xs i v) n d ≡ v))
    go (inl e) = inl e
    go (inr e) = inr (ap suc e.0, e.1)

pub link_at_cases : (slots : List Record) (q k w s m : ℕ) → (link_at (set_link slots q k w) s m ≡ link_at slots s m) ⊎ ((s ≡ q) × (m ≡ k) × (link_at (set_link slots q k w) s m ≡ w))
link_at_cases slots q k w s m = go (getD_set_cases slots q s (with_link (get_or slots q no_record) k w) no_record)
  where
    inner : (s ≡ q) → (x : Record) → x ≡ with_link (get_or slots q no_record) k w → (get_or x.links m 0 ≡ link_at slots s m) ⊎ ((s ≡ q) × (m ≡ k) × (get_or x.links m 0 ≡ w))
    inner e x f = rw (f, e) (at_link (getD_set_cases (get_or slots q no_record).links k m w 0))
      where
        at_link : (get_or (set (get_or slots q no_record).links k w) m 0 ≡ link_at slots q m) ⊎ ((m ≡ k) × (get_or (set (get_or slots q no_record).links k w) m 0 ≡ w)) → (get_or (set (get_or slots q no_record).links k w) m 0 ≡ link_at slots q m) ⊎ ((q ≡ q) × (m ≡ k) × (get_or (set (get_or slots q no_record).links k w) m 0 ≡ w))
        at_link (inl g) = inl g
        at_link (inr g) = inr (refl, g.0, g.1)

    go : (get_or (set_link slots q k w) s no_record ≡ get_or slots s no_record) ⊎ ((s ≡ q) × (get_or (set_link slots q k w) s no_record ≡ with_link (get_or slots q no_record) k w)) → (link_at (set_link slots q k w) s m ≡ link_at slots s m) ⊎ ((s ≡ q) × (m ≡ k) × (link_at (set_link slots q k w) s m ≡ w))
    go (inl e) = inl (ap (λ x. get_or x.links m 0) e)
    go (inr e) = inner e.0 (get_or (set_link slots q k w) s no_record) e.1

-- standing carries over to more places
pub stands_more : (H K : Place → ℕ → Type 0) → ((p : Place) (r : ℕ) → H p r → K p r) → (w : ℕ) (x : BookWord) → StandsForIn H w x → StandsForIn K w x
stands_more H K f w nil h = h
stands_more H K f w (num v) h = h
stands_more H K f w (ref r) h = go (place_of w) h
  where
    go : (p : Option Place) → LeadsTo H p r → LeadsTo K p r
    go None h = h
    go (Some p) h = f p r h

-- a number's word leads nowhere
number_rest : (v : ℤ) → number_word v % 4 ≡ 1
number_rest (pos n) = omega arith
number_rest (negsuc n) = omega arith

pub place_of_number : (v : ℤ) → place_of (number_word v) ≡ None
place_of_number v = rw (ne_eqb (number_word v % 4) 2 (omega (arith, number_rest v)), ne_eqb (number_word v % 4) 3 (omega (arith, number_rest v)))

pub number_back : (v : ℤ) → is_number v ≡ true → word_number (number_word v) ≡ v
number_back (pos n) h =
    let l : n < 2 ^ 29 = ltb-true n (2 ^ 29) h in
    rw (lt-ltb ((4 * n + 1) / 4) (2 ^ 29) (omega arith)) (ap pos (omega arith))
number_back (negsuc n) h =
    let l : n < 2 ^ 29 = ltb-true n (2 ^ 29) h in
    rw (le-ltb ((4 * (2 ^ 30 - (n + 1)) + 1) / 4) (2 ^ 29) (omega arith)) (ap negsuc (omega arith))

-- numbers in range are equal where their words are
pub same_numbers : (v w : ℤ) → is_number v ≡ true → is_number w ≡ true → eqb (number_word v) (number_word w) ≡ int_eqb v w
same_numbers (pos m) (pos n) h k = go (cases_eq m n)
  where
    go : (m ≡ n) ⊎ (m ≡ n → ⊥) → eqb (4 * m + 1) (4 * n + 1) ≡ eqb m n
    go (inl e) = eq-eqb (4 * m + 1) (4 * n + 1) (omega arith) ∙ sym (eq-eqb m n e)
    go (inr e) = ne_eqb (4 * m + 1) (4 * n + 1) (λ f. e (omega arith)) ∙ sym (ne_eqb m n e)
same_numbers (pos m) (negsuc n) h k =
    ne_eqb (4 * m + 1) (4 * (2 ^ 30 - (n + 1)) + 1) (λ e. omega (arith, ltb-true m (2 ^ 29) h, ltb-true n (2 ^ 29) k))
same_numbers (negsuc m) (pos n) h k =
    ne_eqb (4 * (2 ^ 30 - (m + 1)) + 1) (4 * n + 1) (λ e. omega (arith, ltb-true m (2 ^ 29) h, ltb-true n (2 ^ 29) k))
same_numbers (negsuc m) (negsuc n) h k = go (cases_eq m n)
  where
    go : (m ≡ n) ⊎ (m ≡ n → ⊥) → eqb (number_word (negsuc m)) (number_word (negsuc n)) ≡ eqb m n
    go (inl e) = eq-eqb (number_word (negsuc m)) (number_word (negsuc n)) (omega arith) ∙ sym (eq-eqb m n e)
    go (inr e) =
        ne_eqb (number_word (negsuc m)) (number_word (negsuc n)) (λ f. e (omega (arith, ltb-true m (2 ^ 29) h, ltb-true n (2 ^ 29) k))) ∙ sym (ne_eqb m n e)

-- the word of a place
abbrev pub word_of : Place → ℕ
word_of (Young p) = nursery_word p
word_of (Old q) = slot_word q

pub word_back : (w : ℕ) (p : Place) → place_of w ≡ Some p → w ≡ word_of p
word_back w p e = go (eqb (w % 4) 2) refl (eqb (w % 4) 3) refl e
  where
    young_is : (p : Place) → w % 4 ≡ 2 → Some (Young (w / 4)) ≡ Some p → w ≡ word_of p
    young_is (Young n) h e = let k : w / 4 ≡ n = cc in omega arith
    young_is (Old n) h e = let k : ◌≡◌ {A = ℕ} 0 1 = cc in absurd (omega arith)

    old_is : (p : Place) → w % 4 ≡ 3 → Some (Old (w / 4)) ≡ Some p → w ≡ word_of p
    old_is (Old n) h e = let k : w / 4 ≡ n = cc in omega arith
    old_is (Young n) h e = let k : ◌≡◌ {A = ℕ} 0 1 = cc in absurd (omega arith)

    go : (t : Bool) → eqb (w % 4) 2 ≡ t → (u : Bool) → eqb (w % 4) 3 ≡ u → cond t (Some (Young (w / 4))) (cond u (Some (Old (w / 4))) None) ≡ Some p → w ≡ word_of p
    go true h u k e = young_is p (eqb-true (w % 4) 2 h) e
    go false h true k e = old_is p (eqb-true (w % 4) 3 k) e
    go false h false k e = let n : ◌≡◌ {A = ℕ} 0 1 = cc in absurd (omega arith)

-- a place's word leads to the place
pub place_of_nursery : (p : ℕ) → place_of (nursery_word p) ≡ Some (Young p)
place_of_nursery p = rw (eq-eqb ((4 * p + 2) % 4) 2 (omega arith)) (ap (λ n. Some (Young n)) (omega arith))

pub place_of_slot : (q : ℕ) → place_of (slot_word q) ≡ Some (Old q)
place_of_slot q = rw (ne_eqb ((4 * q + 3) % 4) 2 (omega arith), eq-eqb ((4 * q + 3) % 4) 3 (omega arith)) (ap (λ n. Some (Old n)) (omega arith))

pub stands_place : (H : Place → ℕ → Type 0) (w : ℕ) (p : Place) (r : ℕ) → place_of w ≡ Some p → H p r → StandsForIn H w (ref r)
stands_place H w p r e h = rw e h
