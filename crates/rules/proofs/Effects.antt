-- What a call that collects nothing does to store and book: one of six effects.
use Rattle.std.proofs.Common.{◌≡◌, ℕ, ◌<◌, List, [], ◌∷◌, ◌++◌, length, get_or, set, ℤ}
use Rattle.words.specs.Words.{nursery_word}
use Rattle.words.specs.declared.place.Place.{Place}
use Rattle.words.specs.declared.place.Place.TheVariants.{Young, Old}
use Rattle.rules.specs.Rules.{Record, Barrier, Sizes, with_registers, with_nursery, record_at, put_record, with_link, with_plain, write_old}
use Rattle.rules.specs.Book.{BookWord, nil, ref, BookRecord, Book, book_record, put_book_record, Reachable}
use Rattle.rules.specs.History.{History, Holds}
use Rattle.rules.specs.Promise.{StandsFor}

-- what a book word leads to is within reach
abbrev pub Source : History → BookWord → Type 0
Source j x = (t : ℕ) → x ≡ ref t → Reachable j.book t

abbrev pub put_history : History → ℕ → ℕ → BookWord → History
put_history j i w x = record {
  store = with_registers (set j.store.registers i w) j.store;
  book = record { registers = set j.book.registers i x; records = j.book.records };
  nursery_owners = j.nursery_owners;
  slot_owners = j.slot_owners;
}

-- a record made at the lowest unused nursery place, and put into register i
abbrev pub make_history : History → ℕ → Record → BookRecord → History
make_history j i x y = record {
  store = with_registers (set j.store.registers i (nursery_word (length j.store.nursery))) (with_nursery (j.store.nursery ++ (x ∷ [])) j.store);
  book = record { registers = set j.book.registers i (ref (length j.book.records)); records = j.book.records ++ (y ∷ []) };
  nursery_owners = j.nursery_owners ++ (length j.book.records ∷ []);
  slot_owners = j.slot_owners;
}

-- link k of record r replaced: in the book, with a nursery record in the store, and with a slot in the store
abbrev pub link_book : Book → ℕ → ℕ → BookWord → Book
link_book b r k x = put_book_record b r (record { links = set (book_record b r).links k x; plain = (book_record b r).plain })

abbrev pub link_young : History → ℕ → ℕ → ℕ → ℕ → BookWord → History
link_young j p r k w x = record {
  store = put_record j.store (Young p) (with_link (record_at j.store (Young p)) k w);
  book = link_book j.book r k x;
  nursery_owners = j.nursery_owners;
  slot_owners = j.slot_owners;
}

abbrev pub link_old : Barrier → History → ℕ → ℕ → ℕ → ℕ → BookWord → History
link_old b j q r k w x = record {
  store = write_old b j.store q k w;
  book = link_book j.book r k x;
  nursery_owners = j.nursery_owners;
  slot_owners = j.slot_owners;
}

-- the plain part of record r replaced, in store and book
abbrev pub fill_history : History → Place → ℕ → List ℤ → History
fill_history j p r pl = record {
  store = put_record j.store p (with_plain (record_at j.store p) pl);
  book = put_book_record j.book r (record { links = (book_record j.book r).links; plain = pl });
  nursery_owners = j.nursery_owners;
  slot_owners = j.slot_owners;
}

-- the links of a record to be made
pub record Ready (j : History) (n : ℕ) (x : Record) (y : BookRecord) : Type 0 where
  pub size : length x.links ≡ n
  pub book_size : length y.links ≡ n
  pub plain : x.plain ≡ y.plain
  pub links : (k : ℕ) → StandsFor j (get_or x.links k 0) (get_or y.links k nil)
  pub sources : (k : ℕ) → Source j (get_or y.links k nil)

-- nothing, a register set, a record made, a link of a nursery record or of a slot replaced, a plain part replaced
pub data Effect (z : Sizes) (b : Barrier) (j : History) : History → Type 0 where
  stay : Effect z b j j
  puts : (i w : ℕ) (x : BookWord) → StandsFor j w x → Source j x → Effect z b j (put_history j i w x)
  makes : (i : ℕ) (x : Record) (y : BookRecord) → Ready j z.links x y → length j.store.nursery < z.places → length j.store.nursery < length j.store.arcs.free → Effect z b j (make_history j i x y)
  writes_young : (p r k w : ℕ) (x : BookWord) → Holds j (Young p) r → Reachable j.book r → StandsFor j w x → Source j x → Effect z b j (link_young j p r k w x)
  writes_old : (q r k w : ℕ) (x : BookWord) → Holds j (Old q) r → Reachable j.book r → StandsFor j w x → Source j x → Effect z b j (link_old b j q r k w x)
  fills : (p : Place) (r : ℕ) (pl : List ℤ) → Holds j p r → Effect z b j (fill_history j p r pl)
