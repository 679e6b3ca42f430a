-- What a sheet is promised: each answer is that of the record book, and the main promise holds of its calls.
use Rattle.std.specs.Prelude.{◌≡◌, ℕ, cond, List, [], ◌∷◌, ◌++◌, replicate, Ok, Err, Result, ◌==◌}
use Rattle.rules.specs.Rules.{Record, Barrier, Sizes, Call, Answer, run_call}
use Rattle.rules.specs.Book.{book_call}
use Rattle.rules.specs.History.{History, history_run, new_history}
use Rattle.rules.specs.Promise.{Promise}
use Rattle.registers.specs.State.{sizes_of}
use Rattle.lines.specs.declared.command.Command.{Command}
use Rattle.lines.specs.declared.request.FormatFault.{FormatFault}
use Rattle.lines.specs.declared.request.Request.{Request}
use Rattle.lines.specs.Answers.{row_bytes}
use Rattle.lines.specs.Commands.{commands}
use Rattle.lines.specs.Lines.{lines}
use Rattle.pair_sheet.specs.Pairs.{empty_pair, why_pairs, pairs_opened}
use Rattle.lines.specs.Requests.{format_refusal, format_column, parsed}
use Rattle.answering.specs.Sheets.{SheetState, waiting, running, Reply, declined, Order, opening, calling, order_of, reply_of, reply_opened, row_of_reply, next_line}
use Rattle.pair_sheet.specs.Sheets.{order, state_after_line, sheet_output}

-- what the lines so far have done: no open was accepted, or one with a barrier and sizes, and these calls were made since
pub data Log : Type 0 where
  unopened : Log
  since : Barrier → Sizes → List Call → Log

abbrev pub log_after_order : Log → Order → Log
log_after_order unopened (opening b z) = cond (why_pairs z == 0) (since b (sizes_of 2 z) []) unopened
log_after_order unopened (calling c) = unopened
log_after_order (since b z calls) (opening b' z') = since b z calls
log_after_order (since b z calls) (calling c) = since b z (calls ++ (c ∷ []))

-- a line that is not in the format does nothing
abbrev pub log_after_request : Log → Result (Request Command) FormatFault → Log
log_after_request l (Ok q) = log_after_order l (order_of order q)
log_after_request l (Err e) = l

abbrev pub log_after_line : Log → List ℕ → Log
log_after_line l line = log_after_request l (parsed commands line)

-- the log of lines, and the sheet's state after lines
abbrev pub log_after : Log → List (List ℕ) → Log
log_after l [] = l
log_after l (line ∷ rest) = log_after (log_after_line l line) rest

abbrev pub state_after : SheetState → List (List ℕ) → SheetState
state_after s [] = s
state_after s (line ∷ rest) = state_after (state_after_line s line) rest

-- the slots of the new store: pairs of nothing
abbrev pub new_slots : Sizes → List Record
new_slots z = replicate z.slots empty_pair

-- store and book after the calls of a log
abbrev pub history_of : Barrier → Sizes → List Call → History
history_of b z calls = history_run z b (new_history z (new_slots z)) calls

-- the state of a sheet with this log: its store is the one that the calls leave
abbrev pub state_of : Log → SheetState
state_of unopened = waiting
state_of (since b z calls) = running b (record { why = 0; sizes = z; store = (history_of b z calls).store })

-- what the book answers to a call; from the store it takes the count of a make and a refusal for want of room, and the
-- answers of step, full and tell are the store's own
abbrev pub book_answer : Barrier → Sizes → List Call → Call → Answer
book_answer b z calls c = let j : History = history_of b z calls in (book_call z j.book c (run_call z b j.store c).1).1

-- what a line gets if the book answers the calls
abbrev pub book_reply_to_order : Log → Order → Reply
book_reply_to_order unopened (opening b z) = reply_opened (pairs_opened z)
book_reply_to_order unopened (calling c) = declined 34 1 0
book_reply_to_order (since b z calls) (opening b' z') = declined 34 1 0
book_reply_to_order (since b z calls) (calling c) = reply_of (book_answer b z calls c)

abbrev pub book_reply_to_request : Log → Result (Request Command) FormatFault → Reply
book_reply_to_request l (Ok q) = book_reply_to_order l (order_of order q)
book_reply_to_request l (Err e) = declined (format_refusal e) 1 (format_column e)

abbrev pub book_reply_to_line : Log → List ℕ → Reply
book_reply_to_line l line = book_reply_to_request l (parsed commands line)

-- what is then written for lines, the first of which is line n
unfoldable pub written_by_book : Log → ℕ → List (List ℕ) → List ℕ
written_by_book l n [] = []
written_by_book l n (line ∷ rest) =
    row_bytes (row_of_reply n (book_reply_to_line l line)) ++ written_by_book (log_after_line l line) (next_line n) rest

-- the main promise of the calls of a log
abbrev pub Promised : Log → Type 0
Promised unopened = Unit {0}
Promised (since b z calls) = Promise z b (new_slots z) calls

-- of an input: what is written is what the book answers; after the first lines of it, however many, the sheet's store is
-- the one that their calls leave, and the main promise holds of these calls
pub record SheetPromise (input : List ℕ) : Type 0 where
  pub by_book : sheet_output input ≡ written_by_book unopened 1 (lines input)
  pub store : (first rest : List (List ℕ)) → lines input ≡ first ++ rest → state_after waiting first ≡ state_of (log_after unopened first)
  pub promise : (first rest : List (List ℕ)) → lines input ≡ first ++ rest → Promised (log_after unopened first)
