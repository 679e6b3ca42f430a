-- The basic tracing algorithm leaves white exactly what is out of reach; so after a full collection the slots hold the rest.
use Rattle.std.proofs.Common.{◌≡◌, ℕ, zero, suc, ◌+◌, ◌<◌, ◌≤◌, Bool, true, false, cond, eqb, ltb, ◌⊎◌, List, [], ◌∷◌, length, get_or, Some, None, sym, refl, ap, ◌∙◌, subst, inl, inr, arith}
use Rattle.words.specs.declared.place.Place.{Place}
use Rattle.words.specs.declared.place.Place.TheVariants.{Young, Old}
use Rattle.ring.specs.Arcs.{Arcs, has, without, shade_slot, upto}
use Rattle.rules.specs.Rules.{Barrier, Lawful, Sizes, full}
use Rattle.rules.specs.Book.{BookWord, nil, num, ref, no_book_record, Book, book_record, Reachable, held, linked}
use Rattle.rules.specs.Tracing.{TraceState, trace_word, trace_all, trace_start, Traced, started, went_on}
use Rattle.rules.specs.History.{History, Holds, history_call}
use Rattle.rules.specs.Promise.{ExactAfterFull}
use Rattle.std.proofs.lemmas.Bool.{cases_eq, cases_lt, eqb-true, lt-ltb}
use Rattle.std.proofs.lemmas.List.{get_or_past}
use Rattle.ring.specs.Sound.{count}
use Rattle.ring.proofs.Chain.{has_count, count_hasnt, one_most}
use Rattle.ring.proofs.Fresh.{count_upto}
use Rattle.rules.proofs.Counting.{one_if, hasnt_count, count_other, count_without}
use Rattle.rules.proofs.Invariant.{Inv, placed}
use Rattle.rules.proofs.Shading.{Shaded, shaded_refl, shaded_trans, shaded_slot, shade_slot_white}
use Rattle.rules.proofs.OpenCycle.{Good, link_of}
use Rattle.rules.proofs.Runs.{Sound, full_closed₀, full_good}

abbrev arcs_of : TraceState → Arcs
arcs_of t = record { free = []; white = t.white; grey = t.grey; black = t.black }

word_is : (r : ℕ) (t : TraceState) → arcs_of (trace_word (ref r) t) ≡ shade_slot r (arcs_of t)
word_is r t = go (has r t.white)
  where
    go : (u : Bool) → arcs_of (cond u (record { white = without r t.white; grey = r ∷ t.grey; black = t.black }) t) ≡ cond u (record { free = []; white = without r t.white; grey = r ∷ t.grey; black = t.black }) (arcs_of t)
    go true = refl
    go false = refl

word_shaded : (w : BookWord) (t : TraceState) → Shaded (arcs_of t) (arcs_of (trace_word w t))
word_shaded nil t = shaded_refl (arcs_of t)
word_shaded (num v) t = shaded_refl (arcs_of t)
word_shaded (ref r) t = subst (λ a. Shaded (arcs_of t) a) (sym (word_is r t)) (shaded_slot r (arcs_of t))

all_shaded : (ws : List BookWord) (t : TraceState) → Shaded (arcs_of t) (arcs_of (trace_all ws t))
all_shaded [] t = shaded_refl (arcs_of t)
all_shaded (w ∷ ws) t = shaded_trans (word_shaded w t) (all_shaded ws (trace_word w t))

pub trace_black : (ws : List BookWord) (t : TraceState) → (trace_all ws t).black ≡ t.black
trace_black ws t = (all_shaded ws t).black

word_marks : (w : BookWord) (t : TraceState) (q : ℕ) → 0 < count q (trace_word w t).grey → (0 < count q t.grey) ⊎ (w ≡ ref q)
word_marks nil t q h = inl h
word_marks (num v) t q h = inl h
word_marks (ref r) t q h = go (has r t.white) h
  where
    at : (u : Bool) → eqb q r ≡ u → 0 < one_if u + count q t.grey → (0 < count q t.grey) ⊎ (ref r ≡ ref q)
    at true e h = inr (ap ref (sym (eqb-true q r e)))
    at false e h = inl (omega arith)

    go : (u : Bool) → 0 < count q (cond u (record { white = without r t.white; grey = r ∷ t.grey; black = t.black }) t).grey → (0 < count q t.grey) ⊎ (ref r ≡ ref q)
    go true h = at (eqb q r) refl h
    go false h = inl h

all_marks : (ws : List BookWord) (t : TraceState) (q : ℕ) → 0 < count q (trace_all ws t).grey → (0 < count q t.grey) ⊎ ((k : ℕ) × (get_or ws k nil ≡ ref q))
all_marks [] t q h = inl h
all_marks (w ∷ ws) t q h = go (all_marks ws (trace_word w t) q h)
  where
    first : (0 < count q t.grey) ⊎ (w ≡ ref q) → (0 < count q t.grey) ⊎ ((k : ℕ) × (get_or (w ∷ ws) k nil ≡ ref q))
    first (inl l) = inl l
    first (inr e) = inr (0, e)

    go : (0 < count q (trace_word w t).grey) ⊎ ((k : ℕ) × (get_or ws k nil ≡ ref q)) → (0 < count q t.grey) ⊎ ((k : ℕ) × (get_or (w ∷ ws) k nil ≡ ref q))
    go (inl l) = first (word_marks w t q l)
    go (inr e) = inr (suc e.0, e.1)

word_white : (w : BookWord) (t : TraceState) (q : ℕ) → w ≡ ref q → count q t.white ≤ 1 → count q (trace_word w t).white ≡ 0
word_white w t q e l = subst (λ v. count q (trace_word v t).white ≡ 0) (sym e) (subst (λ a. count q a.white ≡ 0) (sym (word_is q t)) (shade_slot_white q (arcs_of t) l))

all_white : (ws : List BookWord) (k : ℕ) (t : TraceState) (q : ℕ) → get_or ws k nil ≡ ref q → count q t.white ≤ 1 → count q (trace_all ws t).white ≡ 0
all_white [] k t q e l = let z : ◌≡◌ {A = ℕ} 0 1 = cc in absurd (omega arith)
all_white (w ∷ ws) zero t q e l = omega (arith, (all_shaded ws (trace_word w t)).white q, word_white w t q e l)
all_white (w ∷ ws) (suc k) t q e l = all_white ws k (trace_word w t) q e (omega (arith, (word_shaded w t).white q))

pub record TraceOk (b : Book) (t : TraceState) : Type 0 where
  pub once : (q : ℕ) → count q t.white + (count q t.grey + count q t.black) ≡ one_if (ltb q (length b.records))
  pub reached : (q : ℕ) → 0 < count q t.grey + count q t.black → Reachable b q
  pub regs : (i q : ℕ) → get_or b.registers i nil ≡ ref q → count q t.white ≡ 0
  pub links : (g k q : ℕ) → 0 < count g t.black → link_of b g k ≡ ref q → count q t.white ≡ 0

pub traced_ok : {b : Book} {t : TraceState} → Traced b t → TraceOk b t
traced_ok {b} (started) = record {
  once = λ q. omega (arith, s.grey q, white₀ q, ap (count q) s.black);
  reached = λ q h. go q (all_marks b.registers t₀ q (omega (arith, ap (count q) s.black)));
  regs = λ i q e. all_white b.registers i t₀ q e (omega (arith, white₀ q, one_most (ltb q (length b.records))));
  links = λ g k q h e. absurd (omega (arith, ap (count g) s.black));
}
  where
    t₀ : TraceState
    t₀ = record { white = upto 0 (length b.records); grey = []; black = [] }

    s : Shaded (arcs_of t₀) (arcs_of (trace_start b))
    s = all_shaded b.registers t₀

    white₀ : (q : ℕ) → count q (upto 0 (length b.records)) ≡ one_if (ltb q (length b.records))
    white₀ q = count_upto q (length b.records)

    go : (q : ℕ) → (0 < 0) ⊎ ((k : ℕ) × (get_or b.registers k nil ≡ ref q)) → Reachable b q
    go q (inl l) = absurd (omega arith)
    go q (inr e) = held e.0 e.1
traced_ok {b} (went_on {t = t} g e way) = step_ok (traced_ok way)
  where
    t₁ : TraceState
    t₁ = record { white = t.white; grey = without g t.grey; black = g ∷ t.black }

    ws : List BookWord
    ws = (book_record b g).links

    s : Shaded (arcs_of t₁) (arcs_of (trace_all ws t₁))
    s = all_shaded ws t₁

    step_ok : TraceOk b t → TraceOk b (trace_all ws t₁)
    step_ok o = record {
      once = λ q. omega (arith, o.once q, s.grey q, ap (count q) s.black, count_without g q t.grey e);
      reached = λ q h. at q (cases_lt 0 (count q (trace_all ws t₁).grey)) h;
      regs = λ i q f. omega (arith, o.regs i q f, s.white q);
      links = λ h k q l f. black h k q f (subst (λ xs. 0 < count h xs) s.black l) (cases_eq g h);
    }
      where
        g_reached : Reachable b g
        g_reached = o.reached g (omega (arith, has_count g t.grey e))

        grey : (q : ℕ) → (0 < count q t₁.grey) ⊎ ((k : ℕ) × (get_or ws k nil ≡ ref q)) → Reachable b q
        grey q (inl l) = o.reached q (omega (arith, count_without g q t.grey e))
        grey q (inr f) = linked f.0 g_reached f.1

        at : (q : ℕ) → (0 < count q (trace_all ws t₁).grey) ⊎ (count q (trace_all ws t₁).grey ≤ 0) → 0 < count q (trace_all ws t₁).grey + count q (trace_all ws t₁).black → Reachable b q
        at q (inl l) h = grey q (all_marks ws t₁ q l)
        at q (inr l) h = o.reached q (omega (arith, ap (count q) s.black, count_without g q t.grey e))

        black : (h k q : ℕ) → link_of b h k ≡ ref q → 0 < count h (g ∷ t.black) → (g ≡ h) ⊎ (g ≡ h → ⊥) → count q (trace_all ws t₁).white ≡ 0
        black h k q f l (inl i) = all_white ws k t₁ q (ap (λ n. link_of b n k) i ∙ f) (omega (arith, o.once q, one_most (ltb q (length b.records))))
        black h k q f l (inr i) = omega (arith, o.links h k q (omega (arith, count_other h g t.black i)) f, s.white q)

pub done_white : (b : Book) (t : TraceState) → TraceOk b t → t.grey ≡ [] → {r : ℕ} → Reachable b r → count r t.white ≡ 0
done_white b t o e {r} (held i f) = o.regs i r f
done_white b t o e {r} (linked {r = g} k y f) = go (cases_lt g (length b.records)) (done_white b t o e y)
  where
    go : (g < length b.records) ⊎ (length b.records ≤ g) → count g t.white ≡ 0 → count r t.white ≡ 0
    go (inl l) w = o.links g k r (omega (arith, o.once g, ap one_if (lt-ltb g (length b.records) l), ap (count g) e)) f
    go (inr l) w = let h : nil ≡ ref r = sym (ap (λ v. get_or v.links k nil) (get_or_past b.records g no_book_record l)) ∙ f in let n : ◌≡◌ {A = ℕ} 0 1 = cc in absurd (omega arith)

pub all_exact : (z : Sizes) (b : Barrier) (lawful : Lawful b) (j : History) → Sound z b lawful j → ExactAfterFull (history_call z b j full)
all_exact z b lawful j s t way e r = (there, back)
  where
    o : TraceOk j.book t
    o = traced_ok way

    inv' : Inv z (history_call z b j full)
    inv' = (full_closed₀ z b lawful j s).inv

    there : (r < length j.book.records) × (has r t.white ≡ false) → (q : ℕ) × (get_or (history_call z b j full).slot_owners q None ≡ Some r)
    there h = go (placed z (history_call z b j full) inv' reached)
      where
        reached : Reachable j.book r
        reached = o.reached r (omega (arith, o.once r, hasnt_count r t.white h.1, ap one_if (lt-ltb r (length j.book.records) h.0)))

        at : (p : Place) → Holds (history_call z b j full) p r → (q : ℕ) × (get_or (history_call z b j full).slot_owners q None ≡ Some r)
        at (Young p) k = absurd (omega (arith, k.0))
        at (Old q) k = (q, k)

        go : (p : Place) × Holds (history_call z b j full) p r → (q : ℕ) × (get_or (history_call z b j full).slot_owners q None ≡ Some r)
        go w = at w.0 w.1

    back : (q : ℕ) × (get_or (history_call z b j full).slot_owners q None ≡ Some r) → (r < length j.book.records) × (has r t.white ≡ false)
    back w = (below, go ((full_good z b lawful j s).good (Old w.0) r w.1))
      where
        below : r < length j.book.records
        below = inv'.owners.below (Old w.0) r w.1

        go : Good j.book r → has r t.white ≡ false
        go (inl y) = count_hasnt r t.white (done_white j.book t o e y)
        go (inr l) = absurd (omega (arith, below))
