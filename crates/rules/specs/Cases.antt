-- The table of worked cases: each follows from the rules by computation.
use Rattle.std.specs.Prelude.{◌≡◌, ℕ, suc, ◌-◌, cond, List, [], ◌∷◌, ◌++◌, length, replicate, ℤ, pos, ◌==◌}
use Rattle.words.specs.Cases.{WordCases}
use Rattle.rules.specs.Rules.{no_record, Barrier, Sizes, Store, Call, load, empty, make, tell, step, Answer, refused, done, gave, counts, run_call, new_store, snapshot}
use Rattle.rules.specs.Promise.{slots_for}

-- the answers to a list of calls, in their order
abbrev pub answers : Sizes → Barrier → Store → List Call → List Answer
answers z b s [] = []
answers z b s (c ∷ cs) = (run_call z b s c).1 ∷ answers z b (run_call z b s c).0 cs

-- a store of pairs: eight registers, two links a record
abbrev pub pair_sizes : ℕ → ℕ → ℕ → Sizes
pair_sizes s y k = record { slots = s; places = y; registers = 8; scans = k; links = 2 }

-- the answers of a store of pairs opened new, under a barrier
abbrev pub pair_answers : Barrier → ℕ → ℕ → ℕ → List Call → List Answer
pair_answers b s y k cs = answers (pair_sizes s y k) b (new_store (pair_sizes s y k) (replicate s no_record)) cs

-- make of a pair in register d, from the words in registers h and t
abbrev pub make_pair : ℕ → ℕ → ℕ → Call
make_pair d h t = make (pos d) [] (pos h ∷ (pos t ∷ []))

-- a call's five figures on a sheet: 0 and the values, filled up with 0, or the refusal, the line, the layer (3 for words,
-- 2 for the store), column 0 and 0
abbrev pub figures : ℕ → Answer → List ℤ
figures line (done vs) = pos 0 ∷ (vs ++ replicate (4 - length vs) (pos 0))
figures line (refused n) = pos n ∷ (pos line ∷ (pos (cond (n == 4) 3 2) ∷ (pos 0 ∷ (pos 0 ∷ []))))
figures line (gave ps) = pos 0 ∷ (ps ++ replicate (4 - length ps) (pos 0))

abbrev pub figures_from : ℕ → List Answer → List (List ℤ)
figures_from line [] = []
figures_from line (a ∷ more) = figures line a ∷ figures_from (suc line) more

abbrev pub five : ℕ → ℕ → ℕ → ℕ → ℕ → List ℤ
five a b c d e = pos a ∷ (pos b ∷ (pos c ∷ (pos d ∷ (pos e ∷ []))))

-- after a line that opens a store of four slots, two nursery places and one scan a step under snapshot: a number is
-- loaded, pairs are made, the nursery is full at the third, and three steps follow
abbrev pub sheet_calls : List Call
sheet_calls = load (pos 0) (pos 7) ∷ (make_pair 0 0 1 ∷ (make_pair 1 0 0 ∷ (make_pair 2 0 0 ∷ (step ∷ (empty (pos 1) ∷ (step ∷ (step ∷ (tell ∷ []))))))))

-- make, step, make
abbrev pub make_step_make : List Call
make_step_make = make_pair 0 0 0 ∷ (step ∷ (make_pair 0 0 0 ∷ []))

pub record WorkedCases : Type 0 where
  pub words : WordCases
  -- the slots for ten, nine and no reachable records, with four nursery places and three scans a step
  pub ten_records : slots_for 10 4 3 ≡ 38
  pub nine_records : slots_for 9 4 3 ≡ 29
  pub no_records : slots_for 0 4 3 ≡ 4
  -- with one slot, one nursery place and one scan a step the second make is refused with 23, with two slots it is not
  pub one_slot : (b : Barrier) → pair_answers b 1 1 1 make_step_make ≡ counts (1 ∷ []) ∷ (counts (1 ∷ (1 ∷ (0 ∷ (0 ∷ [])))) ∷ (refused 23 ∷ []))
  pub two_slots : (b : Barrier) → pair_answers b 2 1 1 make_step_make ≡ counts (1 ∷ []) ∷ (counts (1 ∷ (1 ∷ (0 ∷ (0 ∷ [])))) ∷ (counts (1 ∷ []) ∷ []))
  -- the ten lines of the sheet; the opening answers no number
  pub sheet : figures_from 1 (done [] ∷ pair_answers snapshot 4 2 1 sheet_calls) ≡
      five 0 0 0 0 0 ∷ (
      five 0 0 0 0 0 ∷ (
      five 0 1 0 0 0 ∷ (
      five 0 2 0 0 0 ∷ (
      five 22 5 2 0 0 ∷ (
      five 0 2 1 0 1 ∷ (
      five 0 0 0 0 0 ∷ (
      five 0 0 1 0 0 ∷ (
      five 0 0 1 1 0 ∷ (
      five 0 3 0 0 1 ∷ [])))))))))
