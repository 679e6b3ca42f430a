-- The main promise.
use Rattle.std.proofs.Common.{◌≡◌, List, length}
use Rattle.rules.specs.Rules.{Record, Barrier, Lawful, Sizes, Call}
use Rattle.rules.specs.History.{history_run, new_history}
use Rattle.rules.specs.Promise.{InRange, Promise}
use Rattle.rules.proofs.Runs.{run_sound, new_sound, all_faithful, all_agree, full_finishes}
use Rattle.rules.proofs.Reclaiming.{all_reclaimed}
use Rattle.rules.proofs.CycleTime.{all_in_time}
use Rattle.rules.proofs.Tracing.{all_exact}
use Rattle.rules.proofs.Room.{all_room}

pub promise : (z : Sizes) → InRange z → (b : Barrier) → Lawful b → (slots : List Record) → length slots ≡ z.slots → (before : List Call) → Promise z b slots before
promise z range b lawful slots l before =
    let j = history_run z b (new_history z slots) before in
    let s = run_sound z b lawful before (new_history z slots) (new_sound z b lawful slots l) in
    record {
      faithful = all_faithful z b lawful slots l before;
      agrees = all_agree z b lawful slots l before;
      reclaimed = all_reclaimed z b lawful j s;
      closes_in_time = all_in_time z b lawful range.scans.0 j s;
      full_finishes = full_finishes z b lawful j s;
      exact_after_full = all_exact z b lawful j s;
      room = λ L w big. all_room z b lawful range.scans.0 slots l before L w big;
    }
