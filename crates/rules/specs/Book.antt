-- The record book: an account of the same calls that takes nothing back. Records are numbered from 0 as they are made.
-- It takes a call's arguments and, from the store, only the count that make answers and the refusals 20 and 22 to 24.
use Rattle.std.specs.Prelude.{◌≡◌, ℕ, Bool, true, false, cond, ◌&&◌, List, [], ◌∷◌, ◌++◌, length, get_or, replicate, ℤ, pos, negsuc, Some, None, Option, ◌==◌, slice_index_or, slice_set}
use Rattle.words.specs.Words.{is_number}
use Rattle.rules.specs.Rules.{Sizes, Call, load, empty, copy, make, read, write, fill, plain, same, look, tell, step, full, Answer, refused, done, gave, in_range, index, all_in, flag, counts}

-- a word of the book: nothing, a number or a record
pub data BookWord : Type 0 where
  nil : BookWord
  num : ℤ → BookWord
  ref : ℕ → BookWord

-- a record's fields, and what a record that was never made reads as
pub record BookRecord : Type 0 where
  pub links : List BookWord
  pub plain : List ℤ

abbrev pub no_book_record : BookRecord
no_book_record = record { links = []; plain = [] }

-- the words in the registers, and all records ever made
pub record Book : Type 0 where
  pub registers : List BookWord
  pub records : List BookRecord

-- a new book has no record, and nothing in its n registers
abbrev pub new_book : ℕ → Book
new_book n = record { registers = replicate n nil; records = [] }

-- a record is reachable if a register holds it or a reachable record links to it
pub data Reachable (b : Book) : ℕ → Type 0 where
  held : {r : ℕ} (i : ℕ) → slice_index_or b.registers i nil ≡ ref r → Reachable b r
  linked : {r t : ℕ} (k : ℕ) → Reachable b r → slice_index_or (get_or b.records r no_book_record).links k nil ≡ ref t → Reachable b t

-- the word in a register, and a word put there
abbrev pub book_register : Book → ℤ → BookWord
book_register b r = slice_index_or b.registers (index r) nil

abbrev pub put_book_register : Book → ℤ → BookWord → Book
put_book_register b r w = record { registers = slice_set b.registers (index r) w; records = b.records }

-- a record by its number, and its fields replaced
abbrev pub book_record : Book → ℕ → BookRecord
book_record b r = slice_index_or b.records r no_book_record

abbrev pub put_book_record : Book → ℕ → BookRecord → Book
put_book_record b r x = record { registers = b.registers; records = slice_set b.records r x }

-- unless a test holds, the call is refused and leaves the book as it is
abbrev pub book_unless : Book → Bool → ℕ → Book × Answer → Book × Answer
book_unless b ok refusal rest = cond ok rest (b, refused refusal)

-- a refusal for want of room, which the book takes from the store
abbrev pub refused_for_room : Answer → Option ℕ
refused_for_room (refused n) = cond (n == 22) (Some 22) (cond (n == 23) (Some 23) (cond (n == 24) (Some 24) None))
refused_for_room (done vs) = None
refused_for_room (gave ps) = None

-- the count that the store answered to a make, which the book takes from the store
abbrev pub count_of : Answer → ℕ
count_of (refused n) = 0
count_of (done []) = 0
count_of (done (pos n ∷ vs)) = n
count_of (done (negsuc n ∷ vs)) = 0
count_of (gave ps) = 0

-- with such a refusal the call is refused, and leaves the book as it is
abbrev pub unless_no_room : Book → Option ℕ → Book × Answer → Book × Answer
unless_no_room b None rest = rest
unless_no_room b (Some n) rest = (b, refused n)

-- a register that holds no record is refused
abbrev pub with_ref : Book → BookWord → (ℕ → Book × Answer) → Book × Answer
with_ref b nil go = (b, refused 21)
with_ref b (num v) go = (b, refused 21)
with_ref b (ref r) go = go r

-- whether two whole numbers, or two words, are the same
abbrev pub int_eqb : ℤ → ℤ → Bool
int_eqb (pos m) (pos n) = m == n
int_eqb (pos m) (negsuc n) = false
int_eqb (negsuc m) (pos n) = false
int_eqb (negsuc m) (negsuc n) = m == n

abbrev pub word_eqb : BookWord → BookWord → Bool
word_eqb nil nil = true
word_eqb nil (num v) = false
word_eqb nil (ref r) = false
word_eqb (num v) nil = false
word_eqb (num v) (num w) = int_eqb v w
word_eqb (num v) (ref r) = false
word_eqb (ref r) nil = false
word_eqb (ref r) (num v) = false
word_eqb (ref r) (ref t) = r == t

-- look at a word: 0 for nothing, 1 and the number, or 2 for a record
abbrev pub look_answer : BookWord → Answer
look_answer nil = counts (0 ∷ [])
look_answer (num v) = done (pos 1 ∷ (v ∷ []))
look_answer (ref r) = counts (2 ∷ [])

-- the words in the registers of a list
abbrev pub book_links : Book → List ℤ → List BookWord
book_links b [] = []
book_links b (r ∷ rs) = book_register b r ∷ book_links b rs

-- the book after a call on an open store, and its answer; a is what the store answered, of which the book takes the
-- count of a make and a refusal for want of room; tell, step and full leave the book as it is, and their answers are
-- the store's own
abbrev pub book_entry : Sizes → Book → Call → Answer → Book × Answer
book_entry z b (load r v) a =
    book_unless b (in_range r z.registers) 3 (book_unless b (is_number v) 4 (put_book_register b r (num v), done []))
book_entry z b (empty r) a = book_unless b (in_range r z.registers) 3 (put_book_register b r nil, done [])
book_entry z b (copy d t) a =
    book_unless b (in_range d z.registers && in_range t z.registers) 3 (put_book_register b d (book_register b t), done [])
book_entry z b (make d p rs) a =
    book_unless b (in_range d z.registers && all_in rs z.registers) 3
    (book_unless b (length rs == z.links) 6
    (unless_no_room b (refused_for_room a)
    (put_book_register (record { registers = b.registers; records = b.records ++ (record { links = book_links b rs; plain = p } ∷ []) }) d (ref (length b.records)), counts (count_of a ∷ []))))
book_entry z b (read d t k) a =
    book_unless b (in_range d z.registers && in_range t z.registers) 3
    (book_unless b (in_range k z.links) 5
    (with_ref b (book_register b t) (λ r. (put_book_register b d (slice_index_or (book_record b r).links (index k) nil), done []))))
book_entry z b (write d k t) a =
    book_unless b (in_range d z.registers && in_range t z.registers) 3
    (book_unless b (in_range k z.links) 5
    (with_ref b (book_register b d) (λ r. unless_no_room b (refused_for_room a) (put_book_record b r (record { links = slice_set (book_record b r).links (index k) (book_register b t); plain = (book_record b r).plain }), done []))))
book_entry z b (fill d p) a =
    book_unless b (in_range d z.registers) 3
    (with_ref b (book_register b d) (λ r. (put_book_record b r (record { links = (book_record b r).links; plain = p }), done [])))
book_entry z b (plain d) a =
    book_unless b (in_range d z.registers) 3 (with_ref b (book_register b d) (λ r. (b, gave (book_record b r).plain)))
book_entry z b (same d t) a =
    book_unless b (in_range d z.registers && in_range t z.registers) 3
    (b, counts (flag (word_eqb (book_register b d) (book_register b t)) ∷ []))
book_entry z b (look r) a = book_unless b (in_range r z.registers) 3 (b, look_answer (book_register b r))
book_entry z b tell a = (b, a)
book_entry z b step a = (b, a)
book_entry z b full a = (b, a)

-- a closed store refuses every call with 20, which the book takes before anything else
abbrev pub unless_closed : Book → Answer → Book × Answer → Book × Answer
unless_closed b (refused n) rest = cond (n == 20) (b, refused 20) rest
unless_closed b (done vs) rest = rest
unless_closed b (gave ps) rest = rest

-- the book after a call, and its answer; a is what the store answered
abbrev pub book_call : Sizes → Book → Call → Answer → Book × Answer
book_call z b c a = unless_closed b a (book_entry z b c a)
