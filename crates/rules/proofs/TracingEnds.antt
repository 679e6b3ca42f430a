-- The basic tracing algorithm ends, whatever grey record is taken next, and leaves white what is out of reach.
use Rattle.std.proofs.Common.{◌≡◌, ℕ, zero, suc, ◌+◌, ◌<◌, ◌≤◌, true, ◌⊎◌, List, [], ◌∷◌, length, refl, ap, inl, inr, arith}
use Rattle.ring.specs.Arcs.{has, without, upto}
use Rattle.rules.specs.Book.{Book, book_record, Reachable}
use Rattle.rules.specs.Tracing.{TraceState, trace_step, Traced, went_on, TraceSteps, no_more, one_more, TracingEnds, TracingExact}
use Rattle.std.proofs.lemmas.Bool.{cases_lt, lt-ltb}
use Rattle.ring.specs.Sound.{count}
use Rattle.ring.proofs.Chain.{count_has, has_count}
use Rattle.ring.proofs.Fresh.{count_upto, length_upto}
use Rattle.rules.proofs.Counting.{one_if, length_by_counts, has_self}
use Rattle.rules.proofs.Tracing.{TraceOk, traced_ok, done_white, trace_black}

-- no more records are black than there are
black_fits : (b : Book) (t : TraceState) → TraceOk b t → length t.black ≤ length b.records
black_fits b t o = omega (arith, length_upto 0 (length b.records), length_by_counts t.black (upto 0 (length b.records)) (λ q. omega (arith, o.once q, count_upto q (length b.records))))

-- each step makes one more record black
step_black : (b : Book) (g : ℕ) (t : TraceState) → length (trace_step b g t).black ≡ suc (length t.black)
step_black b g t = ap length (trace_black (book_record b g).links (record { white = t.white; grey = without g t.grey; black = g ∷ t.black }))

steps_black : {b : Book} {t u : TraceState} {n : ℕ} → TraceSteps b t n u → length u.black ≡ n + length t.black
steps_black (no_more) = omega arith
steps_black {b = b} (one_more {t = t} g e rest) = omega (arith, steps_black rest, step_black b g t)

steps_traced : {b : Book} {t u : TraceState} {n : ℕ} → Traced b t → TraceSteps b t n u → Traced b u
steps_traced way (no_more) = way
steps_traced way (one_more g e rest) = steps_traced (went_on g e way) rest

-- a grey record is there to be taken, or none is left
some_grey : (xs : List ℕ) → (xs ≡ []) ⊎ ((g : ℕ) × (has g xs ≡ true))
some_grey [] = inl refl
some_grey (g ∷ gs) = inr (g, has_self g gs)

-- from every state of a trace some steps lead to one with no grey record
pub trace_on : (fuel : ℕ) (b : Book) (t : TraceState) → Traced b t → length b.records < fuel + length t.black → (n : ℕ) × (u : TraceState) × TraceSteps b t n u × Traced b u × (u.grey ≡ [])
trace_on zero b t way l = absurd (omega (arith, black_fits b t (traced_ok way)))
trace_on (suc fuel) b t way l = go (some_grey t.grey) (trace_on fuel b)
  where
    go : (t.grey ≡ []) ⊎ ((g : ℕ) × (has g t.grey ≡ true)) → ((t : TraceState) → Traced b t → length b.records < fuel + length t.black → (n : ℕ) × (u : TraceState) × TraceSteps b t n u × Traced b u × (u.grey ≡ [])) → (n : ℕ) × (u : TraceState) × TraceSteps b t n u × Traced b u × (u.grey ≡ [])
    go (inl e) more = (0, t, no_more, way, e)
    go (inr h) more =
        let (n, u, s, w, e) = more (trace_step b h.0 t) (went_on h.0 h.1 way) (omega (arith, step_black b h.0 t)) in
        (suc n, u, one_more h.0 h.1 s, w, e)

pub tracing_ends : (b : Book) → TracingEnds b
tracing_ends b = record {
  bounded = λ t way n u steps. omega (arith, steps_black steps, black_fits b u (traced_ok (steps_traced way steps)));
  goes_on = λ t way. some_grey t.grey;
  ends = λ t way. trace_on (suc (length b.records)) b t way (omega arith);
}

pub tracing_exact : (b : Book) → TracingExact b
tracing_exact b t way e r l = (there, back)
  where
    o : TraceOk b t
    o = traced_ok way

    there : has r t.white ≡ true → Reachable b r → ⊥
    there h y = omega (arith, has_count r t.white h, done_white b t o e y)

    back : (Reachable b r → ⊥) → has r t.white ≡ true
    back no_way = go (cases_lt 0 (count r t.black))
      where
        go : (0 < count r t.black) ⊎ (count r t.black ≤ 0) → has r t.white ≡ true
        go (inl h) = absurd (no_way (o.reached r (omega arith)))
        go (inr h) = count_has r t.white (omega (arith, o.once r, ap one_if (lt-ltb r (length b.records) l), ap (count r) e))
