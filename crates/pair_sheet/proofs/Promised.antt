-- A sheet's lines keep the main promise: the log of the lines stands beside the sheet's state.
use Rattle.std.proofs.Common.{◌≡◌, ℕ, Bool, true, false, cond, eqb, List, [], ◌∷◌, ◌++◌, ℤ, Ok, Err, Result, sym, refl, ap, ◌∙◌, inl, inr, arith}
use Rattle.std.proofs.lemmas.List.{length-replicate}
use Rattle.std.proofs.lemmas.Bool.{cond-false, true≢false}
use Rattle.rules.specs.Rules.{Barrier, Lawful, Sizes, Call}
use Rattle.rules.specs.History.{History, history_call, history_run, new_history}
use Rattle.rules.specs.Promise.{InRange}
use Rattle.rules.proofs.Statements.{nothing_in_use_is_taken_back}
use Rattle.registers.specs.declared.sizes.Sizes.{Sizes as Asked}
use Rattle.registers.specs.Opening.{sizes_in_range}
use Rattle.registers.specs.State.{sizes_of}
use Rattle.store.proofs.Opened.{sizes_tell}
use Rattle.lines.specs.declared.command.Command.{Command}
use Rattle.lines.specs.declared.command.Command.TheVariants.{OpenSnapshot, OpenUpdate, Load, Empty, Copy, Make, Read, Write, Same, Look, Step, Full, Tell}
use Rattle.lines.specs.declared.request.FormatFault.{FormatFault}
use Rattle.lines.specs.declared.request.Request.{Request}
use Rattle.lines.specs.Answers.{row_bytes}
use Rattle.lines.specs.Commands.{commands}
use Rattle.lines.specs.Lines.{lines}
use Rattle.pair_sheet.specs.Pairs.{empty_pair, within_lent, why_pairs, new_pairs, closed_pairs}
use Rattle.lines.specs.Requests.{parsed}
use Rattle.answering.specs.Sheets.{running, Order, opening, calling, order_of, order_read, reply_of, state_opened, state_after_order, state_after_request, reply_to_order, reply_to_request, row_of_reply, next_line, written_for}
use Rattle.pair_sheet.specs.Sheets.{order, rules, state_after_line}
use Rattle.pair_sheet.specs.Promised.{Log, unopened, since, log_after_order, log_after_request, log_after_line, log_after, state_after, new_slots, state_of, book_reply_to_order, book_reply_to_request, book_reply_to_line, written_by_book, Promised, SheetPromise}

-- the barrier is lawful, and the sizes are in range
abbrev Ready : Log → Type 0
Ready unopened = Unit {0}
Ready (since b z calls) = Lawful b × InRange z

-- an open asks for a lawful barrier
abbrev AsksLawful : Order → Type 0
AsksLawful (opening b z) = Lawful b
AsksLawful (calling c) = Unit {0}

asks_lawful : (w : Command) (x y z : ℤ) → AsksLawful (order w x y z)
asks_lawful OpenSnapshot x y z = inl (λ m. refl)
asks_lawful OpenUpdate x y z = inr (refl, refl)
asks_lawful Load x y z = tt
asks_lawful Empty x y z = tt
asks_lawful Copy x y z = tt
asks_lawful Make x y z = tt
asks_lawful Read x y z = tt
asks_lawful Write x y z = tt
asks_lawful Same x y z = tt
asks_lawful Look x y z = tt
asks_lawful Step x y z = tt
asks_lawful Full x y z = tt
asks_lawful Tell x y z = tt

accepted_in_range : (z : Asked) → eqb (why_pairs z) 0 ≡ true → sizes_in_range z ≡ true
accepted_in_range z h = go (sizes_in_range z) refl
  where
    go : (t : Bool) → sizes_in_range z ≡ t → sizes_in_range z ≡ true
    go true e = e
    go false e = absurd (true≢false (sym (sym (ap (λ t. eqb (cond t (cond (within_lent z) 0 2) 1) 0) e) ∙ h)))

-- one more call
history_more : (z : Sizes) (b : Barrier) (j : History) (calls : List Call) (c : Call) → history_run z b j (calls ++ (c ∷ [])) ≡ history_call z b (history_run z b j calls) c
history_more z b j [] c = refl
history_more z b j (d ∷ calls) c = history_more z b (history_call z b j d) calls c

-- an order leaves the log ready, and the state that of the log
ready_after_order : (l : Log) (o : Order) → AsksLawful o → Ready l → Ready (log_after_order l o)
ready_after_order unopened (opening b z) lawful ready = go (eqb (why_pairs z) 0) refl
  where
    go : (t : Bool) → eqb (why_pairs z) 0 ≡ t → Ready (cond t (since b (sizes_of 2 z) []) unopened)
    go true h = (lawful, sizes_tell 2 z (omega arith) (accepted_in_range z h))
    go false h = tt
ready_after_order unopened (calling c) lawful ready = tt
ready_after_order (since b z calls) (opening b' z') lawful ready = ready
ready_after_order (since b z calls) (calling c) lawful ready = ready

state_by_order : (l : Log) (o : Order) → state_after_order rules (state_of l) o ≡ state_of (log_after_order l o)
state_by_order unopened (opening b z) = go (eqb (why_pairs z) 0) refl
  where
    go : (t : Bool) → eqb (why_pairs z) 0 ≡ t → state_opened b (cond t (new_pairs z) (closed_pairs (why_pairs z))) ≡ state_of (cond t (since b (sizes_of 2 z) []) unopened)
    go true h = refl
    go false h = cond-false _ _ _ h
state_by_order unopened (calling c) = refl
state_by_order (since b z calls) (opening b' z') = refl
state_by_order (since b z calls) (calling c) = ap (λ (j : History). running b (record { why = 0; sizes = z; store = j.store })) (sym (history_more z b (new_history z (new_slots z)) calls c))

-- the main promise of a log that is ready
promised : (l : Log) → Ready l → Promised l
promised unopened ready = tt
promised (since b z calls) (lawful, range) = nothing_in_use_is_taken_back b lawful z range (new_slots z) (length-replicate z.slots empty_pair) calls

-- the book answers an order as the store does
reply_by_order : (l : Log) → Ready l → (o : Order) → reply_to_order rules (state_of l) o ≡ book_reply_to_order l o
reply_by_order unopened ready (opening b z) = refl
reply_by_order unopened ready (calling c) = refl
reply_by_order (since b z calls) ready (opening b' z') = refl
reply_by_order (since b z calls) ready (calling c) = ap reply_of ((promised (since b z calls) ready).agrees c)

-- and so for a line
module _ (l : Log) (ready : Ready l) where
  ready_after_request : (r : Result (Request Command) FormatFault) → Ready (log_after_request l r)
  ready_after_request (Ok q) = ready_after_order l (order_of order q) (asks_lawful q.command q.a q.b q.c) ready
  ready_after_request (Err e) = ready

  state_by_request : (r : Result (Request Command) FormatFault) → state_after_request rules (state_of l) (order_read order r) ≡ state_of (log_after_request l r)
  state_by_request (Ok q) = state_by_order l (order_of order q)
  state_by_request (Err e) = refl

  reply_by_request : (r : Result (Request Command) FormatFault) → reply_to_request rules (state_of l) (order_read order r) ≡ book_reply_to_request l r
  reply_by_request (Ok q) = reply_by_order l ready (order_of order q)
  reply_by_request (Err e) = refl

-- and for lines
ready_after : (l : Log) → Ready l → (ls : List (List ℕ)) → Ready (log_after l ls)
ready_after l ready [] = ready
ready_after l ready (line ∷ rest) = ready_after (log_after_line l line) (ready_after_request l ready (parsed commands line)) rest

state_by_log : (l : Log) → Ready l → (ls : List (List ℕ)) → state_after (state_of l) ls ≡ state_of (log_after l ls)
state_by_log l ready [] = refl
state_by_log l ready (line ∷ rest) =
    ap (λ s. state_after s rest) (state_by_request l ready (parsed commands line)) ∙ state_by_log (log_after_line l line) (ready_after_request l ready (parsed commands line)) rest

written_by_log : (l : Log) → Ready l → (n : ℕ) (ls : List (List ℕ)) → written_for rules (state_of l) n ls ≡ written_by_book l n ls
unfolding written_for written_by_book
written_by_log l ready n [] = refl
written_by_log l ready n (line ∷ rest) =
    ap (λ r. row_bytes (row_of_reply n r) ++ written_for rules (state_after_line (state_of l) line) (next_line n) rest) (reply_by_request l ready (parsed commands line))
    ∙ ap (λ s. row_bytes (row_of_reply n (book_reply_to_line l line)) ++ written_for rules s (next_line n) rest) (state_by_request l ready (parsed commands line))
    ∙ ap (λ bs. row_bytes (row_of_reply n (book_reply_to_line l line)) ++ bs) (written_by_log (log_after_line l line) (ready_after_request l ready (parsed commands line)) (next_line n) rest)

pub sheet_promise : (input : List ℕ) → SheetPromise input
sheet_promise input = record {
  by_book = written_by_log unopened tt 1 (lines input);
  store = λ first rest e. state_by_log unopened tt first;
  promise = λ first rest e. promised (log_after unopened first) (ready_after unopened tt first);
}
