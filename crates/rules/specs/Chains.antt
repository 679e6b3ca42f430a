-- Chains of records along link 0, in the store and in the book, and what tally answers.
use Rattle.std.specs.Prelude.{◌≡◌, ℕ, zero, suc, ◌+◌, ◌<◌, Bool, cond, ◌↔◌, List, [], ◌∷◌, map, length, ℤ, pos, negsuc, Some, None, Option, ◌==◌, slice_index, slice_index_or}
use Rattle.words.specs.declared.place.Place.{Place}
use Rattle.rules.specs.Rules.{Sizes, Store, Answer, refused, counts, in_range, reg, place_in, record_at}
use Rattle.rules.specs.Book.{BookWord, nil, num, ref, Book, book_record}
use Rattle.rules.specs.History.{History}
use Rattle.rules.specs.Statements.{OfEveryRun, after}

-- where a word leads, and the word in link 0 of the record at a place
abbrev pub leads : Sizes → Store → ℕ → Option Place
leads z s w = place_in z (length s.nursery) w

abbrev pub first_link : Store → Place → ℕ
first_link s p = slice_index (record_at s p).links 0

-- the chain from a word in a store: the places of its records, up to the first word that is no record
pub data Chain (z : Sizes) (s : Store) : ℕ → List Place → Type 0 where
  ends : {w : ℕ} → leads z s w ≡ None → Chain z s w []
  goes : {w : ℕ} {p : Place} {ps : List Place} → leads z s w ≡ Some p → Chain z s (first_link s p) ps → Chain z s w (p ∷ ps)

-- the chain from a word in the book: its records
pub data BookChain (b : Book) : BookWord → List ℕ → Type 0 where
  ends_nil : BookChain b nil []
  ends_num : {v : ℤ} → BookChain b (num v) []
  goes_on : {r : ℕ} {rs : List ℕ} → BookChain b (slice_index_or (book_record b r).links 0 nil) rs → BookChain b (ref r) (r ∷ rs)

-- a dose's plain part is component, weight and mark; a mark of 1 is a flush
abbrev pub natural_part : ℤ → ℕ
natural_part (pos n) = n
natural_part (negsuc n) = 0

abbrev pub is_flush : List ℤ → Bool
is_flush plain = natural_part (slice_index_or plain 2 (pos 0)) == 1

abbrev pub weight_in : List ℤ → ℕ
weight_in plain = natural_part (slice_index_or plain 1 (pos 0))

-- the number of flushes among plain parts, and the sum of their weights
abbrev pub flushes : List (List ℤ) → ℕ
flushes [] = 0
flushes (x ∷ xs) = cond (is_flush x) 1 0 + flushes xs

abbrev pub flush_weight : List (List ℤ) → ℕ
flush_weight [] = 0
flush_weight (x ∷ xs) = cond (is_flush x) (weight_in x) 0 + flush_weight xs

abbrev pub tally_of : List (List ℤ) → Answer
tally_of parts = counts (flushes parts ∷ (flush_weight parts ∷ []))

-- the plain parts of a chain, in the store and in the book
abbrev pub parts_at : Store → List Place → List (List ℤ)
parts_at s ps = map (λ p. (record_at s p).plain) ps

abbrev pub book_parts : Book → List ℕ → List (List ℤ)
book_parts b rs = map (λ r. (book_record b r).plain) rs

-- a chain followed for at most n records; none if it has not ended by then
abbrev pub onto_chain : Place → Option (List Place) → Option (List Place)
onto_chain p None = None
onto_chain p (Some ps) = Some (p ∷ ps)

abbrev pub stops : Option Place → Option (List Place)
stops None = Some []
stops (Some p) = None

abbrev pub then_on : (ℕ → Option (List Place)) → Store → Option Place → Option (List Place)
then_on go s None = Some []
then_on go s (Some p) = onto_chain p (go (first_link s p))

abbrev pub follow : Sizes → Store → ℕ → ℕ → Option (List Place)
follow z s zero w = stops (leads z s w)
follow z s (suc n) w = then_on (follow z s n) s (leads z s w)

-- a chain that ends has no more records than there are places
abbrev pub all_places : Sizes → Store → ℕ
all_places z s = length s.nursery + z.slots

-- tally of a register: refused where the chain never ends
abbrev pub tally_answer : Store → Option (List Place) → Answer
tally_answer s None = refused 25
tally_answer s (Some ps) = tally_of (parts_at s ps)

abbrev pub run_tally : Sizes → Store → ℤ → Answer
run_tally z s r = cond (in_range r z.registers) (tally_answer s (follow z s (all_places z s) (reg s r))) (refused 3)

-- the chain is followed to its end exactly where it has one
abbrev pub FollowedToTheEnd : Type 0
FollowedToTheEnd = (z : Sizes) (s : Store) (w : ℕ) (ps : List Place) → (follow z s (all_places z s) w ≡ Some ps) ↔ Chain z s w ps

-- after every run the chain of a register in the store is that of the book: one ends where the other does, with the
-- same plain parts
pub record SameChains (z : Sizes) (j : History) : Type 0 where
  pub to_book : (i : ℕ) (ps : List Place) → i < z.registers → Chain z j.store (slice_index j.store.registers i) ps → (rs : List ℕ) × BookChain j.book (slice_index_or j.book.registers i nil) rs × (parts_at j.store ps ≡ book_parts j.book rs)
  pub to_store : (i : ℕ) (rs : List ℕ) → i < z.registers → BookChain j.book (slice_index_or j.book.registers i nil) rs → (ps : List Place) × Chain z j.store (slice_index j.store.registers i) ps × (parts_at j.store ps ≡ book_parts j.book rs)

abbrev pub TallyIsTheBooks : Type 0
TallyIsTheBooks = OfEveryRun (λ b z slots calls. SameChains z (after b z slots calls))
