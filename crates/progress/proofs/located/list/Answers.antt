use Rattle.progress.proofs.Places.{among_push, among_last}
use Rattle.progress.proofs.located.list.Goals as goal

pub returns-then-fresh-clause-still : goal.returns-then-fresh-clause-still
returns-then-fresh-clause-still c = λ l a. rw c.push_reserved.ensures.items (among_push c.args.listed.now.items c.args.location l a)

pub returns-then-fresh-clause-fresh : goal.returns-then-fresh-clause-fresh
returns-then-fresh-clause-fresh c = λ _. rw c.push_reserved.ensures.items (among_last c.args.listed.now.items c.args.location)
