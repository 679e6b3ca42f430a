-- The ring as its four arcs, read forward: free, white, grey, black, then free again.
use Rattle.std.specs.Prelude.{◌≡◌, ℕ, zero, suc, ◌+◌, ◌%◌, ◌<◌, Bool, false, cond, ◌||◌, List, [], ◌∷◌, ◌++◌, length, Some, None, Option, ◌==◌, slice_index}

-- the slots of each arc, in the order of the ring
pub record Arcs : Type 0 where
  pub free : List ℕ
  pub white : List ℕ
  pub grey : List ℕ
  pub black : List ℕ

-- whether a slot stands in a list
abbrev pub has : ℕ → List ℕ → Bool
has q [] = false
has q (x ∷ xs) = x == q || has q xs

-- the list without the first occurrence of a slot
abbrev pub without : ℕ → List ℕ → List ℕ
without q [] = []
without q (x ∷ xs) = cond (x == q) xs (x ∷ without q xs)

-- those before the last one, and the last one
abbrev pub split_last : ℕ → List ℕ → List ℕ × ℕ
split_last x [] = ([], x)
split_last x (y ∷ ys) = (x ∷ (split_last y ys).0, (split_last y ys).1)

-- the whole ring, from the first free slot on
abbrev pub ring_of : Arcs → List ℕ
ring_of a = a.free ++ (a.white ++ (a.grey ++ a.black))

-- a slot is marked when it is grey or black
abbrev pub marked : Arcs → ℕ → Bool
marked a q = has q a.grey || has q a.black

-- taking: the first free slot becomes the last black one
abbrev pub take_from : List ℕ → Arcs → Option (ℕ × Arcs)
take_from [] a = None
take_from (q ∷ qs) a = Some (q, record { free = qs; white = a.white; grey = a.grey; black = a.black ++ (q ∷ []) })

abbrev pub take_slot : Arcs → Option (ℕ × Arcs)
take_slot a = take_from a.free a

-- shading: a white slot leaves its spot and becomes the first grey one; any other number is passed over
abbrev pub shade_slot : ℕ → Arcs → Arcs
shade_slot q a =
    cond (has q a.white) (record { free = a.free; white = without q a.white; grey = q ∷ a.grey; black = a.black }) a

-- scanning: the last grey slot becomes the first black one
abbrev pub scan_from : List ℕ → Arcs → Option (ℕ × Arcs)
scan_from [] a = None
scan_from (x ∷ xs) a =
    Some ((split_last x xs).1, record { free = a.free; white = a.white; grey = (split_last x xs).0; black = (split_last x xs).1 ∷ a.black })

abbrev pub scan_slot : Arcs → Option (ℕ × Arcs)
scan_slot a = scan_from a.grey a

-- opening a cycle: the black arc becomes the white arc, order kept
abbrev pub open_arcs : Arcs → Arcs
open_arcs a = record { free = a.free; white = a.black; grey = []; black = [] }

-- closing it: the white arc joins the end of the free arc, order kept
abbrev pub close_arcs : Arcs → Arcs
close_arcs a = record { free = a.free ++ a.white; white = []; grey = a.grey; black = a.black }

-- the numbers i, i + 1, .. , n of them
abbrev pub upto : ℕ → ℕ → List ℕ
upto i zero = []
upto i (suc n) = i ∷ upto (suc i) n

-- a new ring: slots 0 to n − 1 free in ascending order
abbrev pub new_arcs : ℕ → Arcs
new_arcs n = record { free = upto 0 n; white = []; grey = []; black = [] }

-- linked both ways: next meets each slot of the list in its order and returns, and previous undoes next
pub record Linked (next prev : List ℕ) (slots : ℕ) (ring : List ℕ) : Type 0 where
  pub size : length ring ≡ slots
  pub within : (i : ℕ) → i < slots → slice_index ring i < slots
  pub once : (i j : ℕ) → i < slots → j < slots → slice_index ring i ≡ slice_index ring j → i ≡ j
  pub forward : (i : ℕ) → i < slots → slice_index next (slice_index ring i) ≡ slice_index ring ((i + 1) % slots)
  pub back : (q : ℕ) → q < slots → slice_index prev (slice_index next q) ≡ q
