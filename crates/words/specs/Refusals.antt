-- The refusals of the word layer, by their numbers and in words.
use Rattle.std.specs.Prelude.{ℕ, List, codes}
use Rattle.words.specs.declared.fault.WordFault.{WordFault}
use Rattle.words.specs.declared.fault.WordFault.TheVariants.{NumberOutOfRange}

abbrev pub word_refusal : WordFault → ℕ
word_refusal NumberOutOfRange = 4

abbrev pub word_refusal_text : WordFault → List ℕ
word_refusal_text NumberOutOfRange = codes "the number is outside -536870912 to 536870911"
