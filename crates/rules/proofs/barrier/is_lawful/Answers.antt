-- The test is the law, and by the law the main promise holds.
use Rattle.rules.specs.Barriers.{barrier_of}
use Rattle.rules.proofs.Statements.{nothing_in_use_is_taken_back, test_is_law, test_keeps_promise}
use Rattle.rules.proofs.TracingEnds.{tracing_ends, tracing_exact}
use Rattle.rules.proofs.barrier.is_lawful.Goals as goal

pub returns : goal.returns
returns c = record {
  value = c.names_enough.ensures;
  law = test_is_law (barrier_of c.args.b) c.names_enough.result c.names_enough.ensures;
  safe = test_keeps_promise (barrier_of c.args.b) c.names_enough.result c.names_enough.ensures;
  promise = nothing_in_use_is_taken_back;
  tracing_ends = tracing_ends;
  tracing_is_exact = tracing_exact;
}
