-- Parts of tables, and the rows of the forwarding and of the note table.
use Rattle.std.specs.Prelude.{◌≡◌, ℕ, suc, List, [], ◌∷◌, map, length, take, drop, Some, None, Option}
use Rattle.heap.specs.declared.rows.Forward.{Forward}
use Rattle.heap.specs.declared.rows.Note.{Note}

-- the first n of a table, each by its meaning
abbrev pub front : {X Y : Type 0} → (X → Y) → ℕ → List X → List Y
front f n xs = map f (take n xs)

-- a table is as long as it was and holds what it held from place n on
pub record Rest {X : Type 0} (n : ℕ) (was is : List X) : Type 0 where
  pub rest : drop n is ≡ drop n was
  pub size : length is ≡ length was

-- how many records were not copied yet
abbrev pub unmoved : List (Option ℕ) → ℕ
unmoved [] = 0
unmoved (None ∷ fs) = suc (unmoved fs)
unmoved (Some q ∷ fs) = unmoved fs

abbrev pub no_forward : Forward
no_forward = record { target = None; copied = 0 }

abbrev pub no_note : Note
no_note = record { slot = 0; index = 0 }
