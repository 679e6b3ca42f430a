-- A whole sheet: what each line does and what is written for it.
use Rattle.std.specs.Prelude.{ℕ, ◌+◌, min, cond, List, [], ◌∷◌, ◌++◌, take, replicate, ℤ, pos, Ok, Err, Result, ◌==◌}
use Rattle.rules.specs.Rules.{Barrier, Call, Answer, refused, done, gave}
use Rattle.registers.specs.declared.sizes.Sizes.{Sizes}
use Rattle.registers.specs.State.{State, after, answer}
use Rattle.lines.specs.declared.request.FormatFault.{FormatFault}
use Rattle.lines.specs.declared.request.Request.{Request}
use Rattle.lines.specs.Answers.{row_bytes}
use Rattle.lines.specs.CommandSets.{Commands}
use Rattle.lines.specs.Lines.{lines}
use Rattle.lines.specs.Requests.{format_refusal, format_column, parsed}

-- before an open is accepted, and with the open store and its barrier
pub data SheetState : Type 0 where
  waiting : SheetState
  running : Barrier → State → SheetState

-- what a line gets: the values of an accepted call, or a refusal with its number, layer and column
pub data Reply : Type 0 where
  accepted : List ℤ → Reply
  declined : ℕ → ℕ → ℕ → Reply

-- what a line asks for: to open a store with sizes, or a call
pub data Order : Type 0 where
  opening : Barrier → Sizes → Order
  calling : Call → Order

-- a sheet: what a line asks for, and what a store holds that was opened with sizes
pub record SheetRules : Type 0 where
  pub asked : List ℕ → Result Order FormatFault
  pub opened : Sizes → State

-- the store of a sheet has 8 registers, and 8 are supplied
abbrev pub register_count : ℕ
register_count = 8

-- S, Y and K as the line gives them
abbrev pub sizes_asked : ℤ → ℤ → ℤ → Sizes
sizes_asked s y k = record { slots = s; places = y; registers = pos register_count; scans = k }

-- the order of a request, by that of each command with its three numbers
abbrev pub order_of : {C : Type 0} → (C → ℤ → ℤ → ℤ → Order) → Request C → Order
order_of order q = order q.command q.a q.b q.c

abbrev pub order_read : {C : Type 0} → (C → ℤ → ℤ → ℤ → Order) → Result (Request C) FormatFault → Result Order FormatFault
order_read order (Ok q) = Ok (order_of order q)
order_read order (Err e) = Err e

-- a sheet by its commands
abbrev pub rules_by : {C : Type 0} → Commands C → (C → ℤ → ℤ → ℤ → Order) → (Sizes → State) → SheetRules
rules_by set order opened = record { asked = λ line. order_read order (parsed set line); opened = opened }

-- the store's answer as a reply: 4 is a refusal of the word layer, any other of the store
abbrev pub reply_of : Answer → Reply
reply_of (refused n) = declined n (cond (n == 4) 3 2) 0
reply_of (done values) = accepted values
reply_of (gave part) = accepted []

-- an open that the store accepts starts the run; after a refused one another may follow
abbrev pub state_opened : Barrier → State → SheetState
state_opened b s = cond (s.why == 0) (running b s) waiting

abbrev pub reply_opened : State → Reply
reply_opened s = cond (s.why == 0) (accepted []) (reply_of (refused s.why))

-- an order before and after an accepted open
abbrev pub state_after_order : SheetRules → SheetState → Order → SheetState
state_after_order rules waiting (opening b z) = state_opened b (rules.opened z)
state_after_order rules waiting (calling c) = waiting
state_after_order rules (running b s) (opening b' z) = running b s
state_after_order rules (running b s) (calling c) = running b (after b s c)

abbrev pub reply_to_order : SheetRules → SheetState → Order → Reply
reply_to_order rules waiting (opening b z) = reply_opened (rules.opened z)
reply_to_order rules waiting (calling c) = declined 34 1 0
reply_to_order rules (running b s) (opening b' z) = declined 34 1 0
reply_to_order rules (running b s) (calling c) = reply_of (answer b s c)

-- a line: one that is not in the format changes nothing
abbrev pub state_after_request : SheetRules → SheetState → Result Order FormatFault → SheetState
state_after_request rules s (Ok o) = state_after_order rules s o
state_after_request rules s (Err e) = s

abbrev pub reply_to_request : SheetRules → SheetState → Result Order FormatFault → Reply
reply_to_request rules s (Ok o) = reply_to_order rules s o
reply_to_request rules s (Err e) = declined (format_refusal e) 1 (format_column e)

abbrev pub state_after_line : SheetRules → SheetState → List ℕ → SheetState
state_after_line rules s line = state_after_request rules s (rules.asked line)

abbrev pub reply_to_line : SheetRules → SheetState → List ℕ → Reply
reply_to_line rules s line = reply_to_request rules s (rules.asked line)

-- 0 and the values of a call, padded with 0 to five numbers
abbrev pub padded : List ℤ → List ℤ
padded values = take 5 (pos 0 ∷ (values ++ replicate 4 (pos 0)))

-- the five numbers of a reply to line n: 0 and the values padded with 0, or the refusal, the line, layer, column and 0
abbrev pub row_of_reply : ℕ → Reply → List ℤ
row_of_reply n (accepted values) = padded values
row_of_reply n (declined number layer column) = pos number ∷ (pos n ∷ (pos layer ∷ (pos column ∷ (pos 0 ∷ []))))

-- lines are counted up to 999,999,999, which stands for every later line too
abbrev pub next_line : ℕ → ℕ
next_line n = min (n + 1) 999999999

-- what is written for lines, the first of which is line n
unfoldable pub written_for : SheetRules → SheetState → ℕ → List (List ℕ) → List ℕ
written_for rules s n [] = []
written_for rules s n (line ∷ rest) =
    row_bytes (row_of_reply n (reply_to_line rules s line)) ++ written_for rules (state_after_line rules s line) (next_line n) rest

-- what is written for an input
abbrev pub sheet_output : SheetRules → List ℕ → List ℕ
sheet_output rules input = written_for rules waiting 1 (lines input)
