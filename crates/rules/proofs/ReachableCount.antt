-- The reachable records can be counted, and there is only one count.
use Rattle.std.proofs.Common.{◌≡◌, ℕ, suc, ◌<◌, ◌≤◌, eqb, ltb, ◌⊎◌, List, [], ◌∷◌, length, get_or, sym, refl, ap, ◌∙◌, subst, inl, inr, arith}
use Rattle.rules.specs.Book.{Book, Reachable}
use Rattle.rules.specs.Tracing.{TraceState, trace_start, Traced, started, TraceSteps}
use Rattle.rules.specs.Promise.{Distinct, Counted}
use Rattle.std.proofs.lemmas.Bool.{cases_eq, cases_lt, lt-ltb}
use Rattle.ring.specs.Sound.{count}
use Rattle.ring.proofs.Chain.{count_at, count_has, has_count, one_most}
use Rattle.ring.proofs.Around.{same_place}
use Rattle.rules.proofs.Counting.{one_if, count_other, length_by_counts}
use Rattle.rules.proofs.Tracing.{TraceOk, traced_ok, done_white}
use Rattle.rules.proofs.TracingEnds.{tracing_ends}

-- where a number stands in a list that has it
index_of : (xs : List ℕ) (q : ℕ) → 0 < count q xs → (i : ℕ) × (i < length xs) × (get_or xs i 0 ≡ q)
index_of [] q h = absurd (omega arith)
index_of (x ∷ xs) q h = go (cases_eq x q) (index_of xs q)
  where
    go : (x ≡ q) ⊎ (x ≡ q → ⊥) → (0 < count q xs → (i : ℕ) × (i < length xs) × (get_or xs i 0 ≡ q)) → (i : ℕ) × (i < suc (length xs)) × (get_or (x ∷ xs) i 0 ≡ q)
    go (inl e) f = (0, omega arith, e)
    go (inr n) f = let (i, l, e) = f (omega (arith, count_other q x xs n)) in (suc i, omega arith, e)

distinct_once : (xs : List ℕ) → Distinct xs → (q : ℕ) → count q xs ≤ 1
distinct_once [] d q = omega arith
distinct_once (x ∷ xs) d q = go (cases_eq x q) (cases_lt 0 (count q xs)) (distinct_once xs (λ i k l m e. omega (arith, d (suc i) (suc k) (omega arith) (omega arith) e)) q)
  where
    go : (x ≡ q) ⊎ (x ≡ q → ⊥) → (0 < count q xs) ⊎ (count q xs ≤ 0) → count q xs ≤ 1 → count q (x ∷ xs) ≤ 1
    go (inl e) (inl h) l = let (i, m, f) = index_of xs q h in absurd (omega (arith, d 0 (suc i) (omega arith) (omega arith) (e ∙ sym f)))
    go (inl e) (inr h) l = omega (arith, one_most (eqb q x))
    go (inr n) h l = omega (arith, count_other q x xs n)

-- any two counts are the same
counted_least : (b : Book) (n m : ℕ) → Counted b n → Counted b m → n ≤ m
counted_least b n m c d = omega (arith, c.size, d.size, length_by_counts c.records d.records (λ q. go q (cases_lt 0 (count q c.records))))
  where
    go : (q : ℕ) → (0 < count q c.records) ⊎ (count q c.records ≤ 0) → count q c.records ≤ count q d.records
    go q (inl h) =
        let (i, l, e) = index_of c.records q h in
        omega (arith, distinct_once c.records c.distinct q, has_count q d.records (d.all q (subst (Reachable b) e (c.reachable i (omega (arith, c.size))))))
    go q (inr h) = omega arith

pub counted_once : (b : Book) (n m : ℕ) → Counted b n → Counted b m → m ≡ n
counted_once b n m c d = omega (arith, counted_least b n m c d, counted_least b m n d c)

pub counted : (b : Book) → ((r : ℕ) → Reachable b r → r < length b.records) → (n : ℕ) × Counted b n
counted b bounded = go ((tracing_ends b).ends (trace_start b) started)
  where
    go : (n : ℕ) × (t : TraceState) × TraceSteps b (trace_start b) n t × Traced b t × (t.grey ≡ []) → (n : ℕ) × Counted b n
    go (_, t, _, way, e) = (
      length t.black,
      record {
        records = t.black;
        size = refl;
        distinct = λ i k l m e. same_place t.black i k (λ q. omega (arith, o.once q, one_most (ltb q (length b.records)))) l m e;
        reachable = λ i l. o.reached (get_or t.black i 0) (omega (arith, count_at t.black i l));
        all = λ r y. count_has r t.black (omega (arith, o.once r, ap one_if (lt-ltb r (length b.records) (bounded r y)), done_white b t o e y, ap (count r) e));
      },
    )
      where
        o : TraceOk b t
        o = traced_ok way
