-- The laws of words: a relation that says which number means what, and what follows from it.
use Rattle.std.specs.Prelude.{◌≡◌, ℕ, ◌+◌, ◌*◌, ◌^◌, ◌<◌, true, ◌↔◌, pos, Some, unsigned_abs}
use Rattle.std.specs.Int.{int_rem_euclid}
use Rattle.words.specs.declared.word.Word.{Word}
use Rattle.words.specs.declared.word.Word.TheVariants.{Nothing, Number, Nursery, Slot}
use Rattle.words.specs.Words.{is_number, meaning, encoded}

-- w means m: 0 is nothing, 4 × (v mod 2^30) + 1 the number v, 4p + 2 nursery place p, 4q + 3 slot q
abbrev pub Means : ℕ → Word → Type 0
Means w Nothing = w ≡ 0
Means w (Number v) = (is_number v ≡ true) × (w ≡ 4 * unsigned_abs (int_rem_euclid v (pos (2 ^ 30))) + 1)
Means w (Nursery p) = w ≡ 4 * p + 2
Means w (Slot q) = w ≡ 4 * q + 3

-- a 32-bit number is taken apart into exactly what it means
abbrev pub AsStated : Type 0
AsStated = (w : ℕ) (m : Word) → w < 2 ^ 32 → Means w m ↔ (meaning w ≡ Some m)

-- every 32-bit number has at most one meaning
abbrev pub OneMeaning : Type 0
OneMeaning = (w : ℕ) (m n : Word) → w < 2 ^ 32 → Means w m → Means w n → m ≡ n

-- what is made is taken apart to the same
abbrev pub ReadBack : Type 0
ReadBack = (m : Word) (w : ℕ) → encoded m ≡ Some w → meaning w ≡ Some m

-- and what is taken apart is made again
abbrev pub WrittenBack : Type 0
WrittenBack = (m : Word) (w : ℕ) → w < 2 ^ 32 → meaning w ≡ Some m → encoded m ≡ Some w

-- different meanings have different words
abbrev pub WordsDiffer : Type 0
WordsDiffer = (m n : Word) (w : ℕ) → encoded m ≡ Some w → encoded n ≡ Some w → m ≡ n
