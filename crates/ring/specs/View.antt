-- A ring as its callers see it: its arcs, what always holds of it, and what a call leaves as it was.
use Rattle.std.specs.Prelude.{◌≡◌, ℕ, ◌≤◌, Bool, List, length, drop}
use Rattle.ring.specs.Arcs.{Arcs, ring_of, new_arcs, Linked}
use Rattle.ring.specs.Sound.{Tables, arcs, Holds}

-- The arcs of a ring, read off its tables.
unfoldable pub arcs_of : Tables → Arcs
arcs_of r = arcs r

-- How many slots a ring has.
abbrev pub slots_of : Tables → ℕ
slots_of r = r.slots

-- Whether a cycle is open.
abbrev pub is_open_of : Tables → Bool
is_open_of r = r.cycle

-- The tables of a ring hold its arcs.
unfoldable pub TablesHold : Tables → Type 0
TablesHold r = Holds r (arcs r)

-- What always holds of a ring.
abbrev pub Fine : Tables → Type 0
Fine r = ∥ TablesHold r ∥₁

-- The tables are linked both ways in the order free, white, grey, black.
abbrev pub LinkedRing : Tables → Type 0
LinkedRing r = Linked r.next r.prev r.slots (ring_of (arcs_of r))

-- A table is as long as it was and holds what it held from place n on.
pub record Kept (n : ℕ) (was is : List ℕ) : Type 0 where
  pub rest : drop n is ≡ drop n was
  pub long : length is ≡ length was

-- The tables keep what stands beyond the slots.
pub record Beyond (was is : Tables) : Type 0 where
  pub next_kept : Kept was.slots was.next is.next
  pub previous_kept : Kept was.slots was.prev is.prev
  pub stamp_kept : Kept was.slots was.stamp is.stamp

-- What a call leaves: the arcs a, a cycle open or not as o says, as many slots as before, linked in the order of the
-- arcs, and the tables beyond the slots as they were.
pub record Leaves (was is : Tables) (a : Arcs) (o : Bool) : Type 0 where
  pub arcs_are : arcs_of is ≡ a
  pub open_is : is_open_of is ≡ o
  pub slots_kept : slots_of is ≡ slots_of was
  pub linked : LinkedRing is
  pub beyond : Beyond was is

-- Each table has a place for each of n slots.
abbrev pub Long : ℕ → List ℕ → List ℕ → List ℕ → Type 0
Long n next previous stamp = (n ≤ length next) × (n ≤ length previous) × (n ≤ length stamp)

-- A new ring in tables that are long enough: n slots, all free in ascending order, and the tables beyond as they were.
pub record Begun (n : ℕ) (next previous stamp : List ℕ) (is : Tables) : Type 0 where
  pub slots_are : slots_of is ≡ n
  pub arcs_are : arcs_of is ≡ new_arcs n
  pub next_kept : Kept n next is.next
  pub previous_kept : Kept n previous is.prev
  pub stamp_kept : Kept n stamp is.stamp

-- A ring without slots, whose tables are untouched.
pub record Refused (next previous stamp : List ℕ) (is : Tables) : Type 0 where
  pub no_slots : slots_of is ≡ 0
  pub no_arcs : arcs_of is ≡ new_arcs 0
  pub next_same : is.next ≡ next
  pub previous_same : is.prev ≡ previous
  pub stamp_same : is.stamp ≡ stamp
