-- The chain of a register in the store is that of the book.
use Rattle.std.proofs.Common.{◌≡◌, ℕ, List, [], ◌∷◌, length, get_or, ℤ, Some, None, refl, ap, ◌∙◌, subst, arith}
use Rattle.words.specs.Words.{place_of}
use Rattle.words.specs.declared.place.Place.{Place}
use Rattle.rules.specs.Rules.{Sizes, in_store}
use Rattle.rules.specs.Book.{BookWord, nil, num, ref, book_record}
use Rattle.rules.specs.History.{History, Holds, history_run, new_history}
use Rattle.rules.specs.Promise.{StandsFor}
use Rattle.rules.specs.Chains.{leads, first_link, Chain, ends, goes, BookChain, ends_nil, ends_num, goes_on, parts_at, book_parts, SameChains, TallyIsTheBooks}
use Rattle.rules.proofs.Standing.{place_of_number}
use Rattle.rules.proofs.Invariant.{Inv, place_from, held_in}
use Rattle.rules.proofs.Runs.{run_sound, new_sound}

module _ (z : Sizes) (j : History) (inv : Inv z j) where
  -- a word that stands for a record leads to its place
  led : (w r : ℕ) → StandsFor j w (ref r) → (p : Place) × (leads z j.store w ≡ Some p) × Holds j p r
  led w r h =
      let (p, e, holds) = place_from (Holds j) w r h in
      (p, ap (in_store z (length j.store.nursery)) e ∙ held_in z j inv p r holds, holds)

  -- a word that stands for nothing or a number leads nowhere
  nowhere : (w : ℕ) → place_of w ≡ None → leads z j.store w ≡ None
  nowhere w e = ap (in_store z (length j.store.nursery)) e

  nil_nowhere : (w : ℕ) → StandsFor j w nil → leads z j.store w ≡ None
  nil_nowhere w h = nowhere w (ap place_of h)

  num_nowhere : (w : ℕ) (v : ℤ) → StandsFor j w (num v) → leads z j.store w ≡ None
  num_nowhere w v h = nowhere w (ap place_of h.0 ∙ place_of_number v)

  SameParts : List Place → List ℕ → Type 0
  SameParts ps rs = parts_at j.store ps ≡ book_parts j.book rs

  same_more : (p : Place) (r : ℕ) (ps : List Place) (rs : List ℕ) → Holds j p r → SameParts ps rs → SameParts (p ∷ ps) (r ∷ rs)
  unfolding SameParts
  same_more p r ps rs h e =
      ap (λ x. x ∷ parts_at j.store ps) (inv.fields p r h).plain ∙ ap (λ xs. (book_record j.book r).plain ∷ xs) e

  to_book : (w : ℕ) (x : BookWord) (ps : List Place) → StandsFor j w x → Chain z j.store w ps → (rs : List ℕ) × BookChain j.book x rs × SameParts ps rs
  unfolding SameParts
  to_book w nil [] h (ends e) = ([], ends_nil, refl)
  to_book w (num v) [] h (ends e) = ([], ends_num, refl)
  to_book w (ref r) [] h (ends e) = let (p, f, holds) = led w r h in absurd (let k : ◌≡◌ {A = ℕ} 0 1 = cc in omega arith)
  to_book w nil (p ∷ ps) h (goes e c) = let f = nil_nowhere w h in absurd (let k : ◌≡◌ {A = ℕ} 0 1 = cc in omega arith)
  to_book w (num v) (p ∷ ps) h (goes e c) = let f = num_nowhere w v h in absurd (let k : ◌≡◌ {A = ℕ} 0 1 = cc in omega arith)
  to_book w (ref r) (p ∷ ps) h (goes e c) =
      let (p', f, holds') = led w r h in
      let same : p' ≡ p = cc in
      let holds : Holds j p r = subst (λ y. Holds j y r) same holds' in
      let (rs, chain, parts) = to_book (first_link j.store p) (get_or (book_record j.book r).links 0 nil) ps ((inv.fields p r holds).links 0) c in
      (r ∷ rs, goes_on chain, same_more p r ps rs holds parts)

  to_store : (w : ℕ) (x : BookWord) (rs : List ℕ) → StandsFor j w x → BookChain j.book x rs → (ps : List Place) × Chain z j.store w ps × SameParts ps rs
  unfolding SameParts
  to_store w nil [] h ends_nil = ([], ends (nil_nowhere w h), refl)
  to_store w (num v) [] h ends_num = ([], ends (num_nowhere w v h), refl)
  to_store w nil (t ∷ rs) h c = elim c [ ]
  to_store w (num v) (t ∷ rs) h c = elim c [ ]
  to_store w (ref r) [] h c = elim c [ ]
  to_store w (ref r) (t ∷ rs) h (goes_on c) =
      let (p, f, holds) = led w r h in
      let (ps, chain, parts) = to_store (first_link j.store p) (get_or (book_record j.book r).links 0 nil) rs ((inv.fields p r holds).links 0) c in
      (p ∷ ps, goes f chain, same_more p r ps rs holds parts)

  pub same_chains : SameChains z j
  unfolding SameParts
  same_chains = record {
    to_book = λ i ps low c. to_book (get_or j.store.registers i 0) (get_or j.book.registers i nil) ps (inv.regs i) c;
    to_store = λ i rs low c. to_store (get_or j.store.registers i 0) (get_or j.book.registers i nil) rs (inv.regs i) c;
  }

pub tally_is_the_books : TallyIsTheBooks
tally_is_the_books b lawful z range slots l calls =
    same_chains z (history_run z b (new_history z slots) calls) (run_sound z b lawful calls (new_history z slots) (new_sound z b lawful slots l)).inv
