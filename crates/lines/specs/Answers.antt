-- An answer line: five numbers in ten columns each, and a newline.
use Rattle.std.specs.Prelude.{ℕ, Bool, true, ◌&&◌, List, [], ◌∷◌, ◌++◌, ℤ, codes}
use Rattle.std.specs.List.{flat_map}
use Rattle.lines.specs.declared.answer.RowFault.{RowFault}
use Rattle.lines.specs.declared.answer.RowFault.TheVariants.{WontFit, NoMemory}
use Rattle.lines.specs.Columns.{fits_column, row_of}

-- the bytes of an answer line: the columns of its numbers one after the other, and a newline (byte 10)
unfoldable pub row_bytes : List ℤ → List ℕ
row_bytes values = flat_map row_of values ++ (10 ∷ [])

-- each number fits its column
abbrev pub all_fit : List ℤ → Bool
all_fit [] = true
all_fit (v ∷ vs) = fits_column v && all_fit vs

-- why an answer line is not written, in words
abbrev pub row_fault_text : RowFault → List ℕ
row_fault_text WontFit = codes "a number does not fit its column"
row_fault_text NoMemory = codes "no memory for the answers"
