-- Opening over the tables that the sheet lends.
use Rattle.std.proofs.Common.{◌≡◌, ℕ, zero, suc, ◌≤◌, Bool, true, false, cond, ◌&&◌, eqb, leb, ◌∷◌, length, map, take, replicate, sym, refl, ap, ◌∙◌, arith}
use Rattle.std.proofs.lemmas.List.{take-replicate}
use Rattle.std.proofs.lemmas.Bool.{cond-false}
use Rattle.std.proofs.lemmas.Bool.Decides.{nat_tests}
use Rattle.rules.specs.Rules.{new_store}
use Rattle.registers.specs.declared.sizes.Sizes.{Sizes}
use Rattle.heap.specs.Meaning.{meaning_of}
use Rattle.heap.specs.State.{opened}
use Rattle.heap.specs.declared.heap.tables.Tables.{Tables}
use Rattle.kinds.specs.declared.pair.Pair.{Pair}
use Rattle.registers.specs.Opening.{natural, sizes_in_range}
use Rattle.registers.specs.State.{State, sizes_of}
use Rattle.answering.specs.Sheets.{register_count}
use Rattle.pair_sheet.specs.Pairs.{pairs, place_count, slot_count, within_lent, why_pairs, empty_pair, closed_pairs, pairs_opened}

-- what the store tests of the eight tables, one after the other
abbrev long : Sizes → Bool
long z =
    leb (natural z.places) place_count
    && (leb (natural z.slots) slot_count
    && (leb (natural z.registers) register_count
    && (leb (natural z.places) place_count
    && (leb (natural z.slots) slot_count
    && (leb (natural z.slots) slot_count
    && (leb (natural z.slots) slot_count
    && leb (natural z.slots) slot_count))))))

abbrev why_lent : Sizes → ℕ
why_lent z = cond (sizes_in_range z) (cond (long z) 0 2) 1

abbrev open_lent : Sizes → State
open_lent z = record { why = 0; sizes = sizes_of 2 z; store = new_store (sizes_of 2 z) (map (meaning_of pairs) (take (natural z.slots) (replicate slot_count (record { head = 0; tail = 0 })))) }

-- a store opened over the lent tables
abbrev lent_opened : Sizes → State
lent_opened z = cond (eqb (why_lent z) 0) (open_lent z) (closed_pairs (why_lent z))

long_is : (z : Sizes) → long z ≡ within_lent z
long_is z = go (leb (natural z.slots) slot_count) (leb (natural z.places) place_count) (leb (natural z.registers) register_count)
  where
    go : (s y r : Bool) → (y && (s && (r && (y && (s && (s && (s && s))))))) ≡ (s && (y && r))
    go true true true = refl
    go true true false = refl
    go true false r = refl
    go false true r = refl
    go false false r = refl

why_is : (z : Sizes) → why_lent z ≡ why_pairs z
why_is z = ap (λ t. cond (sizes_in_range z) (cond t 0 2) 1) (long_is z)

map_replicate : {A B : Type 0} (f : A → B) (n : ℕ) (a : A) → map f (replicate n a) ≡ replicate n (f a)
map_replicate f zero a = refl
map_replicate f (suc n) a = ap (λ l. f a ∷ l) (map_replicate f n a)

slots_are : (n : ℕ) → n ≤ slot_count → map (meaning_of pairs) (take n (replicate slot_count (record { head = 0; tail = 0 }))) ≡ replicate n empty_pair
slots_are n low = ap (map (meaning_of pairs)) (take-replicate n slot_count (record { head = 0; tail = 0 }) low) ∙ map_replicate (meaning_of pairs) n (record { head = 0; tail = 0 })

-- it is the store that a sheet's open gives
lent_is : (z : Sizes) → lent_opened z ≡ pairs_opened z
lent_is z = ap (λ w. cond (eqb w 0) (open_lent z) (closed_pairs w)) (why_is z) ∙ go (within_lent z) refl
  where
    go : (t : Bool) → within_lent z ≡ t → cond (eqb (why_pairs z) 0) (open_lent z) (closed_pairs (why_pairs z)) ≡ pairs_opened z
    go true h =
        let low : natural z.slots ≤ slot_count = grind (arith, nat_tests) in
        ap (λ slots. cond (eqb (why_pairs z) 0) (record { why = 0; sizes = sizes_of 2 z; store = new_store (sizes_of 2 z) slots }) (closed_pairs (why_pairs z))) (slots_are (natural z.slots) low)
    go false h = cond-false _ _ _ closed ∙ sym (cond-false _ _ _ closed)
      where
        told : (u : Bool) → eqb (cond u 2 1) 0 ≡ false
        told true = refl
        told false = refl

        closed : eqb (why_pairs z) 0 ≡ false
        closed = ap (λ t. eqb (cond (sizes_in_range z) (cond t 0 2) 1) 0) h ∙ told (sizes_in_range z)

-- a store opened over tables with as many places, and pairs of nothing as slots, is the store that a sheet's open gives
pub opened_is : (z : Sizes) (t : Tables Pair) → length t.nursery.now ≡ place_count → t.slots.now ≡ replicate slot_count (record { head = 0; tail = 0 }) → length t.registers.now ≡ register_count → length t.forward.now ≡ place_count → length t.notes.now ≡ slot_count → length t.next.now ≡ slot_count → length t.previous.now ≡ slot_count → length t.stamp.now ≡ slot_count → opened pairs z t ≡ pairs_opened z
opened_is z t nursery slots registers forward notes next previous stamp =
    rw nursery (rw slots (rw registers (rw forward (rw notes (rw next (rw previous (rw stamp (lent_is z))))))))
