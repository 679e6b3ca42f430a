-- What a 32-bit number means in a register or in a link of a record.
use Rattle.std.specs.Prelude.{ℕ, ◌+◌, ◌-◌, ◌*◌, ◌/◌, ◌%◌, ◌^◌, Bool, cond, ℤ, pos, negsuc, Some, None, Ok, Err, Option, Result, ◌==◌, nat_lt}
use Rattle.words.specs.declared.fault.WordFault.{WordFault}
use Rattle.words.specs.declared.fault.WordFault.TheVariants.{NumberOutOfRange}
use Rattle.words.specs.declared.place.Place.{Place}
use Rattle.words.specs.declared.place.Place.TheVariants.{Young, Old}
use Rattle.words.specs.declared.word.Word.{Word}
use Rattle.words.specs.declared.word.Word.TheVariants.{Nothing, Number, Nursery, Slot}

-- nothing
abbrev pub nothing : ℕ
nothing = 0

-- a number's word: 4 × (v mod 2^30) + 1
abbrev pub number_word : ℤ → ℕ
number_word (pos n) = 4 * n + 1
number_word (negsuc n) = 4 * (2 ^ 30 - (n + 1)) + 1

-- the numbers that have a word: −2^29 to 2^29 − 1
abbrev pub is_number : ℤ → Bool
is_number (pos n) = nat_lt n (2 ^ 29)
is_number (negsuc n) = nat_lt n (2 ^ 29)

-- the number that a word w with w mod 4 = 1 means
abbrev pub word_number : ℕ → ℤ
word_number w = cond (nat_lt (w / 4) (2 ^ 29)) (pos (w / 4)) (negsuc (2 ^ 30 - 1 - w / 4))

-- nursery place p, old slot q
abbrev pub nursery_word : ℕ → ℕ
nursery_word p = 4 * p + 2

abbrev pub slot_word : ℕ → ℕ
slot_word q = 4 * q + 3

-- where a word leads: to a record's place, or to no record
abbrev pub place_of : ℕ → Option Place
place_of w = cond (w % 4 == 2) (Some (Young (w / 4))) (cond (w % 4 == 3) (Some (Old (w / 4))) None)

-- what a 32-bit number means, if it is a word; other multiples of 4 than 0 are no words
abbrev pub meaning : ℕ → Option Word
meaning w =
    cond (w % 4 == 1) (Some (Number (word_number w)))
    (cond (w % 4 == 2) (Some (Nursery (w / 4)))
    (cond (w % 4 == 3) (Some (Slot (w / 4)))
    (cond (w == 0) (Some Nothing) None)))

-- the word of a number, or the refusal
abbrev pub number_word_of : ℤ → Result ℕ WordFault
number_word_of v = cond (is_number v) (Ok (number_word v)) (Err NumberOutOfRange)

-- a place or a slot has a word only while the word has 32 bits
abbrev pub below_2^30 : ℕ → ℕ → Option ℕ
below_2^30 n w = cond (nat_lt n (2 ^ 30)) (Some w) None

abbrev pub nursery_word_of : ℕ → Option ℕ
nursery_word_of p = below_2^30 p (nursery_word p)

abbrev pub slot_word_of : ℕ → Option ℕ
slot_word_of q = below_2^30 q (slot_word q)

-- the word of a meaning, if there is one
abbrev pub encoded : Word → Option ℕ
encoded Nothing = Some nothing
encoded (Number v) = cond (is_number v) (Some (number_word v)) None
encoded (Nursery p) = nursery_word_of p
encoded (Slot q) = slot_word_of q

-- the place of a record, if the meaning is one
abbrev pub place_meant : Word → Option Place
place_meant Nothing = None
place_meant (Number v) = None
place_meant (Nursery p) = Some (Young p)
place_meant (Slot q) = Some (Old q)
