use Rattle.rules.proofs.BookChains.{tally_is_the_books}
use Rattle.rules.proofs.Following.{followed_to_the_end}
use Rattle.std.proofs.Common.{ap, ◌∙◌, w64}
use Rattle.std.proofs.lemmas.Int.{to_z-of_z}
use Rattle.heap.specs.Tallies.{answer_tally, told_tally}
use Rattle.heap.specs.View.{view}
use Rattle.heap.proofs.Tallying.{by_chain}
use Rattle.store.proofs.store.Store.tally.Goals as goal

pub returns-clause-chain : goal.returns-clause-chain
returns-clause-chain g c =
    let s = view g.T.Kind c.args.self.now.heap in
    by_chain s c.args.r (told_tally c.tally.result) (c.tally.ensures.told ∙ ap (answer_tally s) (to_z-of_z w64 c.args.r c.ranges.r))

pub returns-clause-followed : goal.returns-clause-followed
returns-clause-followed g c = followed_to_the_end

pub returns-clause-book : goal.returns-clause-book
returns-clause-book g c = tally_is_the_books
