use Rattle.schema.proofs.ReadOn.{complete, epochs-along, not-schema}
use Rattle.schema.proofs.reading.read_schema.Goals as goal

pub returns-else-branch-clause-refused : goal.returns-else-branch-clause-refused
returns-else-branch-clause-refused c = λ s right is.
    let same = c.in-Ok.ensures.made s right is in
    let read = complete c.in-Ok.read.0 c.in-Ok.ensures.right (epochs-along c.in-Ok.read.0 s same right.epochs) in
    let (written, wrote, apart) = c.in_ok-is_written.ensures.other read c.if-branch.false in
    not-schema c.in-Ok.read.0 s c.args.text.now written read right is same wrote apart
