-- What is written for the lines of an input, one line at a time.
use Rattle.std.proofs.Common.{◌≡◌, ℕ, ◌<◌, Bool, true, false, eqb, List, [], ◌∷◌, ◌++◌, length, get_or, ℤ, pos, Ok, Result, sym, refl, ap, ◌∙◌, subst, append_assoc, append-nil, arith, lit<, w64, SFits, to_z, of_z}
use Rattle.std.proofs.lemmas.Int.{to_z-of_z}
use Rattle.std.proofs.lemmas.Bool.{cond-true, cond-false}
use Rattle.rules.specs.Rules.{Barrier}
use Rattle.registers.specs.declared.sizes.Sizes.{Sizes}
use Rattle.registers.specs.State.{State}
use Rattle.lines.specs.declared.answer.RowFault.{RowFault}
use Rattle.lines.specs.Answers.{row_bytes}
use Rattle.lines.specs.Lines.{lines}
use Rattle.answering.specs.Sheets.{SheetRules, SheetState, waiting, running, Reply, opening, state_opened, reply_opened, state_after_line, reply_to_request, reply_to_line, row_of_reply, next_line, written_for}
use Rattle.answering.specs.declared.session.Session.{Session}
use Rattle.answering.specs.Runs.{Answered, written_after}

-- four values that were passed on one by one
pub four_values : (v : List ℤ) → length v ≡ 4 → ((i : ℕ) → i < 4 → SFits w64 (get_or v i (pos 0))) → to_z w64 (of_z w64 (get_or v 0 (pos 0))) ∷ (to_z w64 (of_z w64 (get_or v 1 (pos 0))) ∷ (to_z w64 (of_z w64 (get_or v 2 (pos 0))) ∷ (to_z w64 (of_z w64 (get_or v 3 (pos 0))) ∷ []))) ≡ v
four_values [] four fits = absurd (omega arith)
four_values (a ∷ []) four fits = absurd (omega arith)
four_values (a ∷ (b ∷ [])) four fits = absurd (omega arith)
four_values (a ∷ (b ∷ (c ∷ []))) four fits = absurd (omega arith)
four_values (a ∷ (b ∷ (c ∷ (d ∷ [])))) four fits = rw (to_z-of_z w64 a (fits 0 (lit< tt)), to_z-of_z w64 b (fits 1 (lit< tt)), to_z-of_z w64 c (fits 2 (lit< tt)), to_z-of_z w64 d (fits 3 (lit< tt)))
four_values (a ∷ (b ∷ (c ∷ (d ∷ (e ∷ es))))) four fits = absurd (omega arith)

-- no lines, and one line before others
written_none : (rules : SheetRules) (s : SheetState) (n : ℕ) → written_for rules s n [] ≡ []
unfolding written_for
written_none rules s n = refl

written_more : (rules : SheetRules) (s : SheetState) (n : ℕ) (text : List ℕ) (rest : List (List ℕ)) → written_for rules s n (text ∷ rest) ≡ written_after rules (reply_to_line rules s text) (state_after_line rules s text) n rest
unfolding written_for
written_more rules s n text rest = refl

-- the reply to a line that asks for an open
pub opening_reply : (rules : SheetRules) (text : List ℕ) (b : Barrier) (z : Sizes) → rules.asked text ≡ Ok (opening b z) → reply_opened (rules.opened z) ≡ reply_to_line rules waiting text
opening_reply rules text b z asked = sym (ap (reply_to_request rules waiting) asked)

module _ (rules : SheetRules) where
  -- past the last line
  pub written_last : (front : List ℕ) (s : SheetState) (n : ℕ) (ls : List (List ℕ)) → ls ≡ [] → front ++ written_for rules s n ls ≡ front
  written_last front s n ls none = ap (λ ls. front ++ written_for rules s n ls) none ∙ ap (λ l. front ++ l) (written_none rules s n) ∙ append-nil front

  -- a line with its reply and the state after it
  pub written_line : (s t : SheetState) (reply : Reply) (n : ℕ) (text : List ℕ) (rest : List (List ℕ)) → t ≡ state_after_line rules s text → reply ≡ reply_to_line rules s text → written_after rules reply t n rest ≡ written_for rules s n (text ∷ rest)
  written_line s t reply n text rest after answered =
      ap (λ u. written_after rules reply u n rest) after ∙ ap (λ r. written_after rules r (state_after_line rules s text) n rest) answered ∙ sym (written_more rules s n text rest)

  -- an answer line behind `front`, and what is written after it
  pub written_behind : (front out : List ℕ) (row : List ℤ) (reply : Reply) (s : SheetState) (n k : ℕ) (rest ls : List (List ℕ)) → out ≡ front ++ row_bytes row → row ≡ row_of_reply n reply → k ≡ next_line n → ls ≡ rest → out ++ written_for rules s k ls ≡ front ++ written_after rules reply s n rest
  written_behind front out row reply s n k rest ls pushed answered counted left =
      ap (λ k. out ++ written_for rules s k ls) counted ∙ ap (λ ls. out ++ written_for rules s (next_line n) ls) left ∙ ap (λ l. l ++ written_for rules s (next_line n) rest) (pushed ∙ ap (λ r. front ++ row_bytes r) answered) ∙ append_assoc front (row_bytes (row_of_reply n reply)) (written_for rules s (next_line n) rest)

  -- one line of a run
  pub written_step : (front out : List ℕ) (row : List ℤ) (s t : SheetState) (n k : ℕ) (text : List ℕ) (rest ls : List (List ℕ)) → out ≡ front ++ row_bytes row → row ≡ row_of_reply n (reply_to_line rules s text) → t ≡ state_after_line rules s text → k ≡ next_line n → ls ≡ rest → out ++ written_for rules t k ls ≡ front ++ written_for rules s n (text ∷ rest)
  written_step front out row s t n k text rest ls pushed answered after counted left =
      written_behind front out row (reply_to_line rules s text) t n k rest ls pushed answered counted left ∙ ap (λ l. front ++ l) (written_line s t (reply_to_line rules s text) n text rest after refl)

  -- a line that is taken from those that are left
  pub written_taken : (front out : List ℕ) (s : SheetState) (n k : ℕ) (text : List ℕ) (rest ls : List (List ℕ)) → out ≡ front → k ≡ n → ls ≡ text ∷ rest → out ++ written_for rules s k (text ∷ rest) ≡ front ++ written_for rules s n ls
  written_taken front out s n k text rest ls same counted taken =
      ap (λ l. l ++ written_for rules s k (text ∷ rest)) same ∙ ap (λ k. front ++ written_for rules s k (text ∷ rest)) counted ∙ ap (λ ls. front ++ written_for rules s n ls) (sym taken)

  -- an open that the store refused, or accepted
  module _ (b : Barrier) (v : State) (n k : ℕ) (rest ls : List (List ℕ)) (front out : List ℕ) (row : List ℤ) (pushed : out ≡ front ++ row_bytes row) (answered : row ≡ row_of_reply n (reply_opened v)) (counted : k ≡ next_line n) (left : ls ≡ rest) where
    behind : (s : SheetState) → state_opened b v ≡ s → out ++ written_for rules s k ls ≡ front ++ written_after rules (reply_opened v) (state_opened b v) n rest
    behind s found =
        written_behind front out row (reply_opened v) s n k rest ls pushed answered counted left ∙ ap (λ t. front ++ written_after rules (reply_opened v) t n rest) (sym found)

    pub refused_open : eqb v.why 0 ≡ false → out ++ written_for rules waiting k ls ≡ front ++ written_after rules (reply_opened v) (state_opened b v) n rest
    refused_open no' = behind waiting (cond-false _ _ _ no')

    pub accepted_open : (last : List ℕ) → eqb v.why 0 ≡ true → last ≡ out ++ written_for rules (running b v) k ls → last ≡ front ++ written_after rules (reply_opened v) (state_opened b v) n rest
    accepted_open last yes' ran = ran ∙ behind (running b v) (cond-true _ _ _ yes')

-- the same of what is equal
pub answered_same : (rules : SheetRules) (r : Result Bool RowFault) (a b : List ℕ) (old new : Session) → a ≡ b → Answered rules r a old new → Answered rules r b old new
answered_same rules r a b old new same told = subst (λ all. Answered rules r all old new) same told

-- what was answered by whether it started the run
pub answered_on : (rules : SheetRules) (all : List ℕ) (started : Bool) (old new : Session) → started ≡ false → Answered rules (Ok started) all old new → (new.out.items ++ written_for rules waiting new.number (lines new.rest.now) ≡ all) × (new.rest.now ≡ old.rest.now)
answered_on rules all started old new no' told = subst (λ t. Answered rules (Ok t) all old new) no' told

pub answered_all : (rules : SheetRules) (all : List ℕ) (started : Bool) (old new : Session) → started ≡ true → Answered rules (Ok started) all old new → new.out.items ≡ all
answered_all rules all started old new yes' told = subst (λ t. Answered rules (Ok t) all old new) yes' told
