-- The lines of an input, and which lines are good.
use Rattle.std.specs.Prelude.{◌≡◌, ℕ, ◌+◌, ◌<◌, min, Bool, cond, not, ◌&&◌, List, [], ◌∷◌, ◌++◌, length, drop, Some, None, Option, ◌==◌, nat_le}
use Rattle.std.specs.List.{list_all, prefix_len, AllByRecursion}

-- a byte in front of the first line
abbrev pub onto_first : ℕ → List (List ℕ) → List (List ℕ)
onto_first b [] = (b ∷ []) ∷ []
onto_first b (line ∷ rest) = (b ∷ line) ∷ rest

-- an input falls into lines at byte 10; what follows the last one is a line only if it is not empty
unfoldable pub lines : List ℕ → List (List ℕ)
lines [] = []
lines (b ∷ bs) = cond (b == 10) ([] ∷ lines bs) (onto_first b (lines bs))

-- where the line ends that begins at `from`: at the first byte 10 from there on, else at the end of the input
unfoldable pub line_end : List ℕ → ℕ → ℕ
line_end input from = min (length input) (from + prefix_len (λ b. not (b == 10)) (drop from input))

-- a byte of a line: any but 10
abbrev pub InLine : ℕ → Type 0
InLine b = b ≡ 10 → ⊥

-- the first line of an input and what is left for the lines after it, or nothing where there is no line
abbrev pub FirstLine : List ℕ → Option (List ℕ × List ℕ) → Type 0
FirstLine input None = lines input ≡ []
FirstLine input (Some parts) = (lines input ≡ parts.0 ∷ lines parts.1) × (length parts.1 < length input)

-- what lines are, by what they are made of
pub record LineLaws : Type 0 where
  -- an empty input has none
  pub none : lines [] ≡ []
  -- bytes other than 10 up to a byte 10 are the first line
  pub ended : (line rest : List ℕ) → AllByRecursion InLine line → lines (line ++ (10 ∷ rest)) ≡ line ∷ lines rest
  -- and so are such bytes up to the end of the input, if there are any
  pub unended : (line : List ℕ) → AllByRecursion InLine line → 0 < length line → lines line ≡ line ∷ []

-- bytes 32 to 126
abbrev pub printable : List ℕ → Bool
printable bs = list_all (λ b. nat_le 32 b && nat_le b 126) bs

-- a good line has 36 bytes, each 32 to 126
abbrev pub good_line : List ℕ → Bool
good_line line = length line == 36 && printable line
