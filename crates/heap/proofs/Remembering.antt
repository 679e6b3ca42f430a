-- The remembered set in its rows: row i has the slot noted as the i-th, and that slot's row says i.
use Rattle.std.proofs.Common.{◌≡◌, ℕ, ◌+◌, ◌<◌, ◌≤◌, true, false, eqb, ltb, ◌≢◌, List, [], ◌∷◌, ◌++◌, map, length, get_or, take, set, Decides, sym, refl, ap, ◌∙◌, subst, ⊎_elim, arith, length-set, below_more}
use Rattle.std.specs.List.{HoldsAt}
use Rattle.std.proofs.lemmas.List.{get_or-map, get_or-set_same, get_or-set_other, map-set, set-get_or, take-map}
use Rattle.std.proofs.lemmas.Bool.{cases_eq, both_ways}
use Rattle.std.proofs.lemmas.Bool.Decides.{Decides-by_or, Decides-eqb, Decides-ltb, same_from_decides}
use Rattle.ring.specs.Arcs.{has}
use Rattle.heap.specs.declared.rows.Note.{Note}
use Rattle.heap.specs.Rows.{Rest, front, no_note}
use Rattle.heap.proofs.Framing.{rest_set, rest_trans}
use Rattle.heap.proofs.Fronts.{front_at, front_push, length_front}

abbrev slot_in : List Note → ℕ → ℕ
slot_in ns i = (get_or ns i no_note).slot

abbrev index_in : List Note → ℕ → ℕ
index_in ns q = (get_or ns q no_note).index

-- the slots noted in n rows
abbrev noted : ℕ → List Note → List ℕ
noted n ns = front (λ m. m.slot) n ns

-- what a heap's rows keep
abbrev Rows : ℕ → ℕ → List Note → Type 0
Rows slots n ns = (i : ℕ) → i < n → (slot_in ns i < slots) × (index_in ns (slot_in ns i) ≡ i)

-- a slot is noted where some row has it
noted_by : (q n : ℕ) (ns : List Note) → Decides (has q (noted n ns)) ((k : ℕ) × (k < length (noted n ns)) × HoldsAt (λ x. x ≡ q) (noted n ns) k)
noted_by q n ns = Decides-by_or (λ x. eqb x q) (λ x. x ≡ q) (has q) (λ x. Decides-eqb x q) refl (λ x xs. refl) (noted n ns)

noted_at : (q n : ℕ) (ns : List Note) (k : ℕ) → n ≤ length ns → k < n → slot_in ns k ≡ q → has q (noted n ns) ≡ true
noted_at q n ns k long low is = (noted_by q n ns).1 (k, omega (arith, length_front (λ (m : Note). m.slot) n ns long), λ d. front_at (λ (m : Note). m.slot) n ns k no_note d low long ∙ is)

-- and its own row says which
noted_index : (q slots n : ℕ) (ns : List Note) → Rows slots n ns → n ≤ length ns → has q (noted n ns) ≡ true → (index_in ns q < n) × (slot_in ns (index_in ns q) ≡ q)
noted_index q slots n ns rows long h =
    let (k, low, is) = (noted_by q n ns).0 h in
    let within : k < n = omega (arith, low, length_front (λ (m : Note). m.slot) n ns long) in
    let at : slot_in ns k ≡ q = sym (front_at (λ (m : Note). m.slot) n ns k no_note 0 within long) ∙ is 0 in
    let index : index_in ns q ≡ k = sym (ap (index_in ns) at) ∙ (rows k within).1 in
    (omega (arith, index, within), ap (slot_in ns) index ∙ at)

-- the test by a slot's own row
pub noted_then : (q slots n : ℕ) (ns : List Note) → Rows slots n ns → n ≤ length ns → index_in ns q < n → eqb (slot_in ns (index_in ns q)) q ≡ has q (noted n ns)
noted_then q slots n ns rows long low =
    same_from_decides (eqb (slot_in ns (index_in ns q)) q) (has q (noted n ns))
    (Decides-eqb (slot_in ns (index_in ns q)) q)
    (λ h. (noted_index q slots n ns rows long h).1, λ is. noted_at q n ns (index_in ns q) long low is)

pub noted_else : (q slots n : ℕ) (ns : List Note) → Rows slots n ns → n ≤ length ns → n ≤ index_in ns q → ltb (index_in ns q) n ≡ has q (noted n ns)
noted_else q slots n ns rows long high =
    same_from_decides (ltb (index_in ns q) n) (has q (noted n ns))
    (Decides-ltb (index_in ns q) n)
    (λ h. (noted_index q slots n ns rows long h).0, λ low. absurd (omega arith))

-- the rows after q was noted in row n
abbrev pub row_slot : List Note → ℕ → ℕ → List Note
row_slot ns n q = set ns n (record { slot = q; index = index_in ns n })

abbrev pub row_index : List Note → ℕ → ℕ → List Note
row_index ns q n = set ns q (record { slot = slot_in ns q; index = n })

abbrev pub row_noted : List Note → ℕ → ℕ → List Note
row_noted ns n q = row_index (row_slot ns n q) q n

-- a row's slot is written and its index stays, or the other way round
slots_kept : (ns : List Note) (q n i : ℕ) → q < length ns → slot_in (row_index ns q n) i ≡ slot_in ns i
slots_kept ns q n i low =
    ⊎_elim
    (λ e. subst (λ j. slot_in (row_index ns q n) j ≡ slot_in ns j) (sym e) (ap (λ (m : Note). m.slot) (get_or-set_same ns q _ no_note low)))
    (λ (ne : i ≢ q). ap (λ (m : Note). m.slot) (get_or-set_other ns q i _ no_note ne))
    (cases_eq i q)

indices_kept : (ns : List Note) (n q i : ℕ) → n < length ns → index_in (row_slot ns n q) i ≡ index_in ns i
indices_kept ns n q i low =
    ⊎_elim
    (λ e. subst (λ j. index_in (row_slot ns n q) j ≡ index_in ns j) (sym e) (ap (λ (m : Note). m.index) (get_or-set_same ns n _ no_note low)))
    (λ (ne : i ≢ n). ap (λ (m : Note). m.index) (get_or-set_other ns n i _ no_note ne))
    (cases_eq i n)

pub rows_noted : (slots n q : ℕ) (ns : List Note) → Rows slots n ns → n < length ns → q < length ns → q < slots → has q (noted n ns) ≡ false → Rows slots (n + 1) (row_noted ns n q)
rows_noted slots n q ns rows room low within fresh = below_more _ n earlier last
  where
    wide : q < length (row_slot ns n q)
    wide = omega (arith, length-set ns n (record { slot = q; index = index_in ns n }))

    here : slot_in (row_noted ns n q) n ≡ q
    here = slots_kept (row_slot ns n q) q n n wide ∙ ap (λ (m : Note). m.slot) (get_or-set_same ns n _ no_note room)

    last : (slot_in (row_noted ns n q) n < slots) × (index_in (row_noted ns n q) (slot_in (row_noted ns n q) n) ≡ n)
    last = (
      omega (arith, here, within),
      ap (index_in (row_noted ns n q)) here ∙ ap (λ (m : Note). m.index) (get_or-set_same (row_slot ns n q) q _ no_note wide),
    )

    earlier : (i : ℕ) → i < n → (slot_in (row_noted ns n q) i < slots) × (index_in (row_noted ns n q) (slot_in (row_noted ns n q) i) ≡ i)
    earlier i h =
        let ne : i ≢ n = omega arith in
        let same : slot_in (row_noted ns n q) i ≡ slot_in ns i = slots_kept (row_slot ns n q) q n i wide ∙ ap (λ (m : Note). m.slot) (get_or-set_other ns n i _ no_note ne) in
        let other : slot_in ns i ≢ q = λ e. both_ways (has q (noted n ns)) fresh (noted_at q n ns i (omega arith) h e) in (
          omega (arith, same, (rows i h).0),
          ap (index_in (row_noted ns n q)) same
              ∙ ap (λ (m : Note). m.index) (get_or-set_other (row_slot ns n q) q (slot_in ns i) _ no_note other)
              ∙ indices_kept ns n q (slot_in ns i) room
              ∙ (rows i h).1,
        )

pub noted_more : (n q : ℕ) (ns : List Note) → n < length ns → q < length ns → noted (n + 1) (row_noted ns n q) ≡ noted n ns ++ (q ∷ [])
noted_more n q ns room low =
    let f : Note → ℕ = λ m. m.slot in
    let ms = row_slot ns n q in
    let wide : q < length ms = omega (arith, length-set ns n (record { slot = q; index = index_in ns n })) in
    let same : map f (row_index ms q n) ≡ map f ms =
    map-set f ms q (record { slot = slot_in ms q; index = n })
    ∙ ap (set (map f ms) q) (sym (get_or-map f ms q no_note 0 wide))
    ∙ set-get_or (map f ms) q 0 in
    sym (take-map f (n + 1) (row_index ms q n)) ∙ ap (take (n + 1)) same ∙ take-map f (n + 1) ms
    ∙ front_push f n ns (record { slot = q; index = index_in ns n }) room

-- the rows beyond the slots are as they were
pub rows_rest : (slots n q : ℕ) (ns : List Note) → n < slots → q < slots → Rest slots ns (row_noted ns n q)
rows_rest slots n q ns room within =
    rest_trans slots slots ns (row_slot ns n q) (row_noted ns n q) (refl {a = slots})
    (rest_set slots ns n (record { slot = q; index = index_in ns n }) room)
    (rest_set slots (row_slot ns n q) q (record { slot = slot_in (row_slot ns n q) q; index = n }) within)
