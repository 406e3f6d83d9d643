use Rattle.std.proofs.Common.{ℕ, List, inr}
use Rattle.collector.specs.Watching.{handed, inner_of}
use Rattle.tables.proofs.TextFiles.{all-known, fault-known, follows, some-known}
use Rattle.tables.proofs.file.fault_of_file.Goals as goal

pub returns-in-NoMemory : goal.returns-in-NoMemory
returns-in-NoMemory g c = λ table texts start done filled consumed ends refused. let k = some-known start in (k.0, k.1, tt)

pub returns-in-Ok : goal.returns-in-Ok
returns-in-Ok g c = λ table texts start done filled consumed ends refused.
    let text : List ℕ = handed c.read_out.new.source in
    let whole = c.in-Ok.ensures.whole done filled in
    let known = all-known start (g.R.Read.remaining (inner_of c.read_out.new.source)) text (c.read_out.ensures.consumed start consumed) (c.in-Ok.ensures.ended ends) in (
      text,
      known,
      inr (whole.strict, rw c.in-Fault.is at (refused whole.tail text (follows c.args.last done c.args.blocks.now (handed c.args.source.now) whole.tail filled whole.none) whole.all)),
    )

pub returns-in-Err : goal.returns-in-Err
returns-in-Err g c = λ table texts start done filled consumed ends refused.
    let text : List ℕ = handed c.read_out.new.source in
    let (file, known, is) = fault-known start (g.R.Read.remaining (inner_of c.read_out.new.source)) text c.in-Err.fault (c.read_out.ensures.consumed start consumed) (c.in-Err.ensures.refused done filled) in
    c.fault_of_block.ensures table start texts file known is
