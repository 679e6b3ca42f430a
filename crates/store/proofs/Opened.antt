-- A store that was opened: its sizes are in range, and the promise holds of its calls.
use Rattle.std.proofs.Common.{◌≡◌, ℕ, ◌≤◌, Bool, true, false, cond, ◌&&◌, eqb, leb, ◌⊎◌, List, [], map, length, take, ℤ, pos, negsuc, sym, refl, ap, ◌∙◌, subst, arith, length-take}
use Rattle.std.proofs.lemmas.List.{length-map}
use Rattle.std.proofs.lemmas.Bool.{and_parts, true≢false}
use Rattle.std.proofs.lemmas.Bool.Decides.{nat_tests}
use Rattle.ring.specs.View.{Fine, Kept, slots_of}
use Rattle.ring.proofs.Facts.{fine_linked}
use Rattle.rules.specs.Rules.{Record, Barrier, Lawful, Sizes}
use Rattle.rules.specs.Rules as rules
use Rattle.rules.specs.History.{History, history_run, new_history}
use Rattle.rules.specs.Promise.{InRange, Promise, Faithful}
use Rattle.rules.proofs.Statements.{nothing_in_use_is_taken_back}
use Rattle.kinds.specs.declared.kind.Kind.{Ghosts}
use Rattle.heap.specs.declared.heap.Heap.{Heap}
use Rattle.heap.specs.declared.heap.tables.Tables.{Tables}
use Rattle.registers.specs.declared.sizes.Sizes.{Sizes as Asked}
use Rattle.heap.specs.Meaning.{meaning_of}
use Rattle.registers.specs.Opening.{from_one_to, natural, sizes_in_range}
use Rattle.heap.specs.Opening.{tables_long, why_of}
use Rattle.registers.specs.State.{sizes_of}
use Rattle.heap.specs.State.{open_at, closed_state, opened}
use Rattle.heap.specs.View.{contents, view, Frame}
use Rattle.heap.specs.Rows.{Rest}
use Rattle.heap.specs.Lent.{Lent}
use Rattle.store.specs.declared.call.Call.{Call}
use Rattle.store.specs.Calls.{Outcome, call_of, told_call, AllAnswered, after_all}
use Rattle.store.specs.Promised.{Promised, Ran, RunOf, Untouched, slots_lent}
use Rattle.store.proofs.Running.{open_state, runs_by_rules, answers_by_book, never_23}

-- what an accepted opening tells
opened_tells : {X : Type 0} (z : Asked) (t : Tables X) → why_of z t ≡ 0 → (sizes_in_range z ≡ true) × (tables_long (natural z.slots) (natural z.places) (natural z.registers) t ≡ true)
opened_tells z t e = go (sizes_in_range z) refl (tables_long (natural z.slots) (natural z.places) (natural z.registers) t) refl e
  where
    go : (u : Bool) → sizes_in_range z ≡ u → (v : Bool) → tables_long (natural z.slots) (natural z.places) (natural z.registers) t ≡ v → ◌≡◌ {A = ℕ} (cond u (cond v 0 2) 1) 0 → (sizes_in_range z ≡ true) × (tables_long (natural z.slots) (natural z.places) (natural z.registers) t ≡ true)
    go true f true h k = (f, h)
    go true f false h k = absurd (omega arith)
    go false f v h k = absurd (omega arith)

-- a size in its range
size_tells : (n : ℕ) (v : ℤ) → from_one_to n v ≡ true → (1 ≤ natural v) × (natural v ≤ n)
size_tells n (pos v) e = let (a, c) = and_parts (leb 1 v) (leb v n) e in (grind (arith, nat_tests), grind (arith, nat_tests))
size_tells n (negsuc v) e = absurd (true≢false (sym e))

pub sizes_tell : (n : ℕ) (z : Asked) → n ≤ 8 → sizes_in_range z ≡ true → InRange (sizes_of n z)
sizes_tell n z few e =
    let (s, e₁) = and_parts (from_one_to 16384 z.slots) (from_one_to 1024 z.places && (from_one_to 64 z.registers && from_one_to 16384 z.scans)) e in
    let (y, e₂) = and_parts (from_one_to 1024 z.places) (from_one_to 64 z.registers && from_one_to 16384 z.scans) e₁ in
    let (r, k) = and_parts (from_one_to 64 z.registers) (from_one_to 16384 z.scans) e₂ in
    record {
      slots = size_tells 16384 z.slots s;
      places = size_tells 1024 z.places y;
      registers = size_tells 64 z.registers r;
      scans = size_tells 16384 z.scans k;
      links = few;
    }

-- the state of an accepted opening
opened_is : {X : Type 0} (g : Ghosts X) (z : Asked) (t : Tables X) → why_of z t ≡ 0 → opened g z t ≡ open_state (sizes_of g.count z) (new_history (sizes_of g.count z) (slots_lent g z t)).store
opened_is g z t e = ap (λ n. cond (eqb n 0) (open_at g (sizes_of g.count z) t) (closed_state g n)) e

slots_counted : {X : Type 0} (g : Ghosts X) (z : Asked) (t : Tables X) → tables_long (natural z.slots) (natural z.places) (natural z.registers) t ≡ true → length (slots_lent g z t) ≡ natural z.slots
slots_counted g z t e =
    let n = natural z.slots in
    let rest = leb (natural z.registers) (length t.registers.now) && (leb (natural z.places) (length t.forward.now) && (leb n (length t.notes.now) && (leb n (length t.next.now) && (leb n (length t.previous.now) && leb n (length t.stamp.now))))) in
    let (a, e₁) = and_parts (leb (natural z.places) (length t.nursery.now)) (leb n (length t.slots.now) && rest) e in
    let (c, e₂) = and_parts (leb n (length t.slots.now)) rest e₁ in
    let long : n ≤ length t.slots.now = grind (arith, nat_tests) in
    length-map (take n t.slots.now) (meaning_of g) ∙ omega (arith, length-take n t.slots.now, long)

-- the promise of a run
pub run_promised : {X B : Type 0} (g : Ghosts X) (b : Barrier) (z : Asked) (t : Tables X) (h : Heap X B) (cs : List (Call X)) (rs : List (Outcome X)) → g.count ≤ 8 → Lawful b → Fine h.area.ring → AllAnswered g b (opened g z t) cs rs → view g h ≡ after_all g b (opened g z t) cs → why_of z t ≡ 0 → Promised g b (sizes_of g.count z) (slots_lent g z t) (map (call_of g) cs) (map (told_call g) rs) h
run_promised g b z t h cs rs few lawful fine answered state e =
    record {
      by_the_book = answers_by_book g s b j (λ before c. (kept before).agrees c) cs rs answered';
      by_the_rules = left;
      linked = fine_linked h.area.ring fine;
      in_use = subst (λ x. Faithful s (record { store = x; book = end.book; nursery_owners = end.nursery_owners; slot_owners = end.slot_owners })) (sym left) (kept calls).faithful;
      room = λ L live big. never_23 g s b j cs rs answered' ((kept calls).room L live big);
      fronts = λ before rest _. kept before;
    }
  where
    s : Sizes
    s = sizes_of g.count z

    slots : List Record
    slots = slots_lent g z t

    j : History
    j = new_history s slots

    calls : List rules.Call
    calls = map (call_of g) cs

    end : History
    end = history_run s b j calls

    tells_all : (sizes_in_range z ≡ true) × (tables_long (natural z.slots) (natural z.places) (natural z.registers) t ≡ true)
    tells_all = opened_tells z t e

    kept : (before : List rules.Call) → Promise s b slots before
    kept before = nothing_in_use_is_taken_back b lawful s (sizes_tell g.count z few tells_all.0) slots (slots_counted g z t tells_all.1) before

    start : opened g z t ≡ open_state s j.store
    start = opened_is g z t e

    answered' : AllAnswered g b (open_state s j.store) cs rs
    answered' = subst (λ x. AllAnswered g b x cs rs) start answered

    left : contents g h ≡ end.store
    left = ap (λ x. x.store) (state ∙ ap (λ x. after_all g b x cs) start ∙ runs_by_rules g s b j cs)

-- what was lent and no call alters
pub untouched_by : {X B : Type 0} (t : Tables X) (h k : Heap X B) → slots_of h.area.ring ≡ h.limits.slots → Lent t h → Frame h k → Untouched t k
untouched_by t h k size l f = record {
  nursery_rest = rested (ap (λ x. x.places) f.same_limits) l.nursery_same f.nursery_rest;
  slots_rest = rested (ap (λ x. x.slots) f.same_limits) l.slots_same f.slots_rest;
  registers_rest = rest_on (ap (λ x. x.registers) f.same_limits) l.registers_rest f.registers_rest;
  forward_rest = rested (ap (λ x. x.places) f.same_limits) l.forward_same f.forward_rest;
  notes_rest = rested (ap (λ x. x.slots) f.same_limits) l.notes_same f.notes_rest;
  next_rest = ring_on (ap (λ x. x.slots) f.same_limits) size l.next_rest f.ring_rest.next_kept;
  previous_rest = ring_on (ap (λ x. x.slots) f.same_limits) size l.previous_rest f.ring_rest.previous_kept;
  stamp_rest = ring_on (ap (λ x. x.slots) f.same_limits) size l.stamp_rest f.ring_rest.stamp_kept;
}
  where
    rested : {Y : Type 0} {m n : ℕ} {xs ys zs : List Y} → m ≡ n → ys ≡ xs → Rest n ys zs → Rest m xs zs
    rested {Y} {m} {n} {xs} {ys} {zs} e e₁ r = subst (λ i. Rest i xs zs) (sym e) (subst (λ ws. Rest n ws zs) e₁ r)

    rest_on : {Y : Type 0} {m n : ℕ} {xs ys zs : List Y} → m ≡ n → Rest n xs ys → Rest n ys zs → Rest m xs zs
    rest_on {Y} {m} {n} {xs} {ys} {zs} e a r = subst (λ i. Rest i xs zs) (sym e) (record { rest = r.rest ∙ a.rest; size = r.size ∙ a.size })

    ring_on : {m n q : ℕ} {xs ys zs : List ℕ} → m ≡ n → q ≡ n → Rest n xs ys → Kept q ys zs → Rest m xs zs
    ring_on {m} {n} {q} {xs} {ys} {zs} e e₁ a r = rest_on e a (subst (λ i. Rest i ys zs) e₁ (record { rest = r.rest; size = r.long }))

-- a run of which the calls were made: h₀ is the heap when it was opened, h the heap at the end
pub run_of : {X B : Type 0} (g : Ghosts X) (b : Barrier) (z : Asked) (t : Tables X) (h₀ h : Heap X B) (made calls : List (Call X)) (M : Type 0) (was reserved is : List (Outcome X)) → g.count ≤ 8 → Lawful b → Fine h.area.ring → slots_of h₀.area.ring ≡ h₀.limits.slots → view g h₀ ≡ opened g z t → Lent t h₀ → Frame h₀ h → reserved ≡ was → Ran g b (view g h₀) made reserved is h → (made ≡ calls) ⊎ (made ≡ []) → (M → made ≡ calls) → RunOf g b z t calls M was is h
run_of g b z t h₀ h made calls M was reserved is few lawful fine size begun lent frame same ran either with-memory =
    record {
      made = made;
      all_or_none = either;
      all_with_memory = with-memory;
      ran = ran';
      promised = run_promised g b z t h made ran'.answers few lawful fine ran'.answered ran'.state;
      untouched = untouched_by t h₀ h size lent frame;
    }
  where
    ran' : Ran g b (opened g z t) made was is h
    ran' = subst (λ s. Ran g b s made was is h) begun (subst (λ xs. Ran g b (view g h₀) made xs is h) same ran)
