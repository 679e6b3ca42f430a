-- What a store holds, open or closed, and what each call leaves and answers.
use Rattle.std.specs.Prelude.{ℕ, Bool, cond, [], ◌==◌}
use Rattle.rules.specs.Rules.{Barrier, Sizes, Store, Call, Answer, refused, run_call, new_store}
use Rattle.registers.specs.declared.sizes.Sizes.{Sizes as Asked}
use Rattle.registers.specs.declared.sizes.Limits.{Limits}
use Rattle.registers.specs.Opening.{limits_asked, why_of}

-- why it is closed (0: it is open), its sizes and its contents
pub record State : Type 0 where
  pub why : ℕ
  pub sizes : Sizes
  pub store : Store

abbrev pub is_open : State → Bool
is_open s = s.why == 0

-- with other contents
abbrev pub with_store : State → Store → State
with_store s x = record { why = s.why; sizes = s.sizes; store = x }

-- after a call: an open store goes by the rules, a closed one stays as it is
abbrev pub after : Barrier → State → Call → State
after b s c = with_store s (cond (is_open s) (run_call s.sizes b s.store c).0 s.store)

-- the answer: a closed store refuses with 20
abbrev pub answer : Barrier → State → Call → Answer
answer b s c = cond (is_open s) (run_call s.sizes b s.store c).1 (refused 20)

-- the sizes that are asked for, or none, where a record of the kind has n links
abbrev pub sizes_in : ℕ → Limits → Sizes
sizes_in n l = record { slots = l.slots; places = l.places; registers = l.registers; scans = l.scans; links = n }

abbrev pub sizes_of : ℕ → Asked → Sizes
sizes_of n z = sizes_in n (limits_asked z)

abbrev pub no_sizes : ℕ → Sizes
no_sizes n = record { slots = 0; places = 0; registers = 0; scans = 0; links = n }

-- a closed store, with no sizes
abbrev pub closed_at : ℕ → ℕ → State
closed_at n why = record { why = why; sizes = no_sizes n; store = new_store (no_sizes n) [] }

-- a record of the kind that a store of registers alone is opened for has two links
abbrev pub link_count : ℕ
link_count = 2

-- opening over a register table of so many places: a new store, or a closed one
abbrev pub opened : Asked → ℕ → State
opened z table =
    cond (why_of z table == 0)
    (record { why = 0; sizes = sizes_of link_count z; store = new_store (sizes_of link_count z) [] })
    (closed_at link_count (why_of z table))
