-- What the calls of a ring answer and which arcs they leave, by the arcs that they find.
use Rattle.std.specs.Prelude.{ℕ, Bool, true, false, cond, not, ◌&&◌, List, [], ◌∷◌, length, Some, None, Option, ◌==◌}
use Rattle.ring.specs.declared.arcs.Colour.{Colour}
use Rattle.ring.specs.declared.arcs.Colour.TheVariants.{Free, White, Grey, Black}
use Rattle.ring.specs.declared.arcs.Lengths.{Lengths}
use Rattle.ring.specs.Arcs.{Arcs, has, ring_of, take_slot, scan_slot, open_arcs, close_arcs}

-- the slot that a step moves, if it moves one
abbrev pub moved_slot : Option (ℕ × Arcs) → Option ℕ
moved_slot None = None
moved_slot (Some p) = Some p.0

-- the arcs that a step leaves: those before it where it moves no slot
abbrev pub left_by : Arcs → Option (ℕ × Arcs) → Arcs
left_by a None = a
left_by a (Some p) = p.1

-- taking: which slot, and the arcs after it
abbrev pub taken_slot : Arcs → Option ℕ
taken_slot a = moved_slot (take_slot a)

abbrev pub taken_arcs : Arcs → Arcs
taken_arcs a = left_by a (take_slot a)

-- scanning: which slot, and the arcs after it
abbrev pub scanned_slot : Arcs → Option ℕ
scanned_slot a = moved_slot (scan_slot a)

abbrev pub scanned_arcs : Arcs → Arcs
scanned_arcs a = left_by a (scan_slot a)

-- whether a list has no slot
abbrev pub is_none : List ℕ → Bool
is_none [] = true
is_none (x ∷ xs) = false

-- the first slot of a list
abbrev pub first_of : List ℕ → Option ℕ
first_of [] = None
first_of (x ∷ xs) = Some x

-- opening a cycle: nothing changes while one is open
abbrev pub opened_arcs : Bool → Arcs → Arcs
opened_arcs o a = cond o a (open_arcs a)

-- a cycle may close once it is open and no slot is grey
abbrev pub may_close : Bool → Arcs → Bool
may_close o a = o && is_none a.grey

-- closing a cycle: nothing changes unless it may close
abbrev pub closed_arcs : Bool → Arcs → Arcs
closed_arcs o a = cond (may_close o a) (close_arcs a) a

-- whether a cycle is open after the closing
abbrev pub still_open : Bool → Arcs → Bool
still_open o a = o && not (is_none a.grey)

-- a slot's colour: that of the arc in which it stands; any other number has none
abbrev pub colour_in : ℕ → Arcs → Option Colour
colour_in q a =
    cond (has q a.free) (Some Free)
    (cond (has q a.white) (Some White)
    (cond (has q a.grey) (Some Grey)
    (cond (has q a.black) (Some Black) None)))

-- the first slot of a list, or h where it has none
abbrev pub first_or : ℕ → List ℕ → ℕ
first_or h [] = h
first_or h (x ∷ xs) = x

-- the slot after q in a list, or h where q is the last one
abbrev pub next_in : ℕ → ℕ → List ℕ → Option ℕ
next_in h q [] = None
next_in h q (x ∷ xs) = cond (x == q) (Some (first_or h xs)) (next_in h q xs)

-- the slot after q along the ring; after the last one comes the first
abbrev pub next_around : ℕ → Arcs → Option ℕ
next_around q a = next_in (first_or 0 (ring_of a)) q (ring_of a)

-- how long each arc is
abbrev pub lengths_of : Arcs → Lengths
lengths_of a =
    record { free = length a.free; white = length a.white; grey = length a.grey; black = length a.black }
