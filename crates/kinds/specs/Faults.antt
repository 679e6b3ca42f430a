-- The refusals of the store, by their numbers and in words; a refusal of the word layer keeps its number and its words.
use Rattle.std.specs.Prelude.{ℕ, List, codes}
use Rattle.words.specs.Refusals.{word_refusal, word_refusal_text}
use Rattle.kinds.specs.declared.fault.StoreFault.{StoreFault}
use Rattle.kinds.specs.declared.fault.StoreFault.TheVariants.{SizeOutOfRange, TableShort, NoSuchRegister, Word, NoSuchLink, WrongLinkCount, BadDose, Closed, NoRecord, NurseryFull, NoRoom, NotesFull, EndlessChain}

abbrev pub store_refusal : StoreFault → ℕ
store_refusal SizeOutOfRange = 1
store_refusal TableShort = 2
store_refusal NoSuchRegister = 3
store_refusal (Word e) = word_refusal e
store_refusal NoSuchLink = 5
store_refusal WrongLinkCount = 6
store_refusal BadDose = 7
store_refusal Closed = 20
store_refusal NoRecord = 21
store_refusal NurseryFull = 22
store_refusal NoRoom = 23
store_refusal NotesFull = 24
store_refusal EndlessChain = 25

abbrev pub store_refusal_text : StoreFault → List ℕ
store_refusal_text SizeOutOfRange = codes "a size is out of range"
store_refusal_text TableShort = codes "a table is shorter than its size"
store_refusal_text NoSuchRegister = codes "there is no such register"
store_refusal_text (Word e) = word_refusal_text e
store_refusal_text NoSuchLink = codes "there is no such link"
store_refusal_text WrongLinkCount = codes "a record has another number of links"
store_refusal_text BadDose = codes "the weight or the mark of a dose is out of range"
store_refusal_text Closed = codes "the store is closed"
store_refusal_text NoRecord = codes "the register holds no record"
store_refusal_text NurseryFull = codes "the nursery is full"
store_refusal_text NoRoom = codes "too few slots are free"
store_refusal_text NotesFull = codes "there is no room for a note"
store_refusal_text EndlessChain = codes "the chain of records never ends"
