-- The fields of a ring as its tables and numbers.
use Rattle.ring.specs.declared.ring.Ring.TheInside.{Inside}
use Rattle.ring.specs.Sound.{Tables}

abbrev pub tables : Inside → Tables
tables r =
    record {
      next = r.next.now;
      prev = r.previous.now;
      stamp = r.stamp.now;
      slots = r.slots;
      head = r.head;
      grey = r.grey;
      black = r.black;
      epoch = r.epoch;
      cycle = r.cycle_open;
    }
