-- The tables of a ring, the arcs that are read off them, and what always holds of them.
use Rattle.std.specs.Prelude.{◌≡◌, ℕ, zero, suc, ◌+◌, ◌^◌, ◌<◌, ◌≤◌, Bool, false, cond, ◌&&◌, List, [], ◌∷◌, ◌++◌, length, filter, ◌==◌, nat_eq, nat_lt, slice_index}
use Rattle.ring.specs.declared.arcs.Colour.{Colour}
use Rattle.ring.specs.declared.arcs.Colour.TheVariants.{Free, White, Grey, Black}
use Rattle.ring.specs.Arcs.{Arcs, ring_of}

-- The tables and the numbers of a ring: `head` is the first slot of the ring, `grey` and `black` are the slots
-- at which the grey and the black arc begin, and `cycle` says whether a cycle is open.
pub record Tables : Type 0 where
  pub next : List ℕ
  pub prev : List ℕ
  pub stamp : List ℕ
  pub slots : ℕ
  pub head : ℕ
  pub grey : ℕ
  pub black : ℕ
  pub epoch : ℕ
  pub cycle : Bool

-- The colour that a stamp s means in the epoch e: e is black, e + 1 grey, e − 2 white while a cycle is open (o),
-- and any other stamp free.
unfoldable pub stamp_colour : Bool → ℕ → ℕ → Colour
stamp_colour o e s = cond (s == e) Black (cond (s == e + 1) Grey (cond (o && s + 2 == e) White Free))

-- The colours numbered along the ring.
unfoldable pub code : Colour → ℕ
code Free = 0
code White = 1
code Grey = 2
code Black = 3

unfoldable pub stamp_code : Bool → ℕ → ℕ → ℕ
stamp_code o e s = code (stamp_colour o e s)

-- The number of a slot's colour.
unfoldable pub code_at : Bool → ℕ → List ℕ → ℕ → ℕ
code_at o e s x = stamp_code o e (slice_index s x)

-- The slots met from h on along the links, so many of them.
unfoldable pub walk : List ℕ → ℕ → ℕ → List ℕ
walk n zero h = []
walk n (suc k) h = h ∷ walk n k (slice_index n h)

-- The slots of a colour, in the order of the links.
unfoldable pub arc : Tables → ℕ → List ℕ
arc t k = filter (λ x. nat_eq (code_at t.cycle t.epoch t.stamp x) k) (walk t.next t.slots t.head)

-- The arcs of tables.
unfoldable pub arcs : Tables → Arcs
arcs t = record { free = arc t 0; white = arc t 1; grey = arc t 2; black = arc t 3 }

-- How often a number stands in a list.
abbrev pub hit : ℕ → ℕ → ℕ
hit x y = cond (x == y) 1 0

abbrev pub count : ℕ → List ℕ → ℕ
count x [] = 0
count x (y ∷ ys) = hit x y + count x ys

-- From x on, the links n lead through the list, and the links p back.
unfoldable pub Chained : (ℕ → ℕ) → (ℕ → ℕ) → ℕ → List ℕ → Type 0
Chained n p x [] = Unit {0}
Chained n p x (y ∷ ys) = (n x ≡ y) × (p y ≡ x) × Chained n p y ys

-- The links lead around the list.
unfoldable pub Ringed : (ℕ → ℕ) → (ℕ → ℕ) → List ℕ → Type 0
Ringed n p [] = Unit {0}
Ringed n p (x ∷ xs) = Chained n p x (xs ++ x ∷ [])

-- x is the first of a list, if it has one.
unfoldable pub Starts : ℕ → List ℕ → Type 0
Starts x [] = Unit {0}
Starts x (y ∷ ys) = x ≡ y

-- Each slot of a list has the colour numbered k.
unfoldable pub Coloured : Bool → ℕ → List ℕ → ℕ → List ℕ → Type 0
Coloured o e s k xs = (x : ℕ) → 0 < count x xs → code_at o e s x ≡ k

-- Tables t hold the arcs a: the links lead around the ring of the arcs, each slot below the number of slots stands in
-- it once, the starts of the arcs are where the arcs say (an empty arc starts where the next one does), the stamps have
-- the colours of the arcs and leave room for a grey one, no table is short, and white and grey are empty unless a
-- cycle is open.
pub record Holds (t : Tables) (a : Arcs) : Type 0 where
  pub ringed : Ringed (λ x. slice_index t.next x) (λ x. slice_index t.prev x) (ring_of a)
  pub full : (x : ℕ) → count x (ring_of a) ≡ cond (nat_lt x t.slots) 1 0
  pub sized : length (ring_of a) ≡ t.slots
  pub head_at : Starts t.head (ring_of a)
  pub grey_at : Starts t.grey (a.grey ++ (a.black ++ (a.free ++ a.white)))
  pub black_at : Starts t.black (a.black ++ (a.free ++ (a.white ++ a.grey)))
  pub frees : Coloured t.cycle t.epoch t.stamp 0 a.free
  pub whites : Coloured t.cycle t.epoch t.stamp 1 a.white
  pub greys : Coloured t.cycle t.epoch t.stamp 2 a.grey
  pub blacks : Coloured t.cycle t.epoch t.stamp 3 a.black
  pub stamped : (x : ℕ) → x < t.slots → slice_index t.stamp x ≤ t.epoch + 1
  pub epoch_fits : t.epoch + 1 < 2 ^ 32
  pub next_long : t.slots ≤ length t.next
  pub prev_long : t.slots ≤ length t.prev
  pub stamp_long : t.slots ≤ length t.stamp
  pub shut : t.cycle ≡ false → length (a.white ++ a.grey) ≡ 0
