-- The basic tracing algorithm over the record book: what it leaves white is out of reach.
use Rattle.std.specs.Prelude.{◌≡◌, ℕ, suc, ◌<◌, ◌≤◌, true, cond, ◌⊎◌, ◌↔◌, List, [], ◌∷◌, length}
use Rattle.ring.specs.Arcs.{has, without, upto}
use Rattle.rules.specs.Book.{BookWord, nil, num, ref, Book, book_record, Reachable}

-- the state of a trace: records not met yet, records met whose own words are still to be followed, records done
pub record TraceState : Type 0 where
  pub white : List ℕ
  pub grey : List ℕ
  pub black : List ℕ

-- a word is followed: a white record that it leads to becomes grey
abbrev pub trace_word : BookWord → TraceState → TraceState
trace_word nil t = t
trace_word (num v) t = t
trace_word (ref r) t = cond (has r t.white) (record { white = without r t.white; grey = r ∷ t.grey; black = t.black }) t

abbrev pub trace_all : List BookWord → TraceState → TraceState
trace_all [] t = t
trace_all (w ∷ ws) t = trace_all ws (trace_word w t)

-- at the start all records are white, and the registers' words are followed
abbrev pub trace_start : Book → TraceState
trace_start b = trace_all b.registers (record { white = upto 0 (length b.records); grey = []; black = [] })

-- one step: the grey record g becomes black, and its own words are followed
abbrev pub trace_step : Book → ℕ → TraceState → TraceState
trace_step b g t = trace_all (book_record b g).links (record { white = t.white; grey = without g t.grey; black = g ∷ t.black })

-- the states that a trace can come to; any grey record may be the next one
pub data Traced (b : Book) : TraceState → Type 0 where
  started : Traced b (trace_start b)
  went_on : {t : TraceState} (g : ℕ) → has g t.grey ≡ true → Traced b t → Traced b (trace_step b g t)

-- a number of further steps from one state to another, whatever grey record is taken at each
pub data TraceSteps (b : Book) : TraceState → ℕ → TraceState → Type 0 where
  no_more : {t : TraceState} → TraceSteps b t 0 t
  one_more : {t u : TraceState} {n : ℕ} (g : ℕ) → has g t.grey ≡ true → TraceSteps b (trace_step b g t) n u → TraceSteps b t (suc n) u

-- tracing ends: from no state can there be more further steps than records, whatever grey record is taken at each;
-- a state with no grey record is the only one without a next step; and every state leads to one with no grey record
pub record TracingEnds (b : Book) : Type 0 where
  pub bounded : (t : TraceState) → Traced b t → (n : ℕ) (u : TraceState) → TraceSteps b t n u → n ≤ length b.records
  pub goes_on : (t : TraceState) → Traced b t → (t.grey ≡ []) ⊎ ((g : ℕ) × (has g t.grey ≡ true))
  pub ends : (t : TraceState) → Traced b t → (n : ℕ) × (u : TraceState) × TraceSteps b t n u × Traced b u × (u.grey ≡ [])

-- tracing is exact: with no grey record left, the white records are those out of reach
abbrev pub TracingExact : Book → Type 0
TracingExact b = (t : TraceState) → Traced b t → t.grey ≡ [] → (r : ℕ) → r < length b.records → (has r t.white ≡ true) ↔ (Reachable b r → ⊥)
