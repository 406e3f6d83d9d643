use Rattle.std.proofs.Common.{◌++◌, ℕ, List, false, true, subst}
use Rattle.std.proofs.lemmas.List.{append_assoc}
use Rattle.collector.specs.Watching.{handed, inner_of}
use Rattle.csv_blocks.specs.Blocks.{IsFilled, block_of}
use Rattle.csv_cells.specs.Texts.{texts_of}
use Rattle.csv_cells.proofs.Rows.{grown-twice}
use Rattle.schema.specs.Text.{names_of}
use Rattle.schema.specs.declared.tables.Epochs.{Epochs}
use Rattle.tables.specs.Tables.{AreRefused}
use Rattle.tables.proofs.TextFiles.{all-known, fault-known, file-gone, some-known, whole-next}
use Rattle.tables.proofs.file.encode_file.Goals as goal

pub returns-in_default-clause-refused : goal.returns-in_default-clause-refused
returns-in_default-clause-refused g c = let k = some-known (g.R.Read.remaining c.args.file) in (k.0, k.1, tt)

pub returns-in-Err-clause-refused : goal.returns-in-Err-clause-refused
returns-in-Err-clause-refused g c =
    let inv = c.loop-block.invariant in
    let start = g.R.Read.remaining c.args.file in
    let (file, known, is) = fault-known start (g.R.Read.remaining (inner_of c.fill.new.source)) (handed c.fill.new.source) c.in-Err.fault
    (c.fill.ensures.consumed start inv.consumed) (c.in-Err.ensures.refused inv.done inv.is_at) in
    c.fault_of_block.ensures c.args.table.now start (texts_of c.loop-block.dictionary) file known is

pub returns-in-Err-encode_block-clause-refused : goal.returns-in-Err-encode_block-clause-refused
returns-in-Err-encode_block-clause-refused g c =
    let inv = c.loop-block.invariant in
    let start = g.R.Read.remaining c.args.file in
    let table = c.args.table.now in
    let done : List ℕ = inv.done ++ block_of c.loop-block.blocks in
    let block : List ℕ = block_of c.fill.new.self in
    let texts = texts_of c.encode_block.new.dictionary in
    c.fault_of_file.ensures table texts start done (c.in-Ok-fill.ensures.filled inv.done inv.is_at) (c.fill.ensures.consumed start inv.consumed) (λ on. (c.in-Ok-fill.ensures.ended on).1)
    (λ tail file follows is. subst (λ (e : Epochs). AreRefused (names_of table) table.columns.items e file texts c.in-Err-encode_block.refusal.fault) inv.epochs
    (c.in-Err-encode_block.ensures.refused done block inv.lines tail file inv.whole c.block.ensures inv.gone c.in-Ok-fill.last follows is))

pub returns-then-last-clause-encoded : goal.returns-then-last-clause-encoded
returns-then-last-clause-encoded g c =
    let inv = c.loop-block.invariant in
    let start = g.R.Read.remaining c.args.file in
    let new = c.fill.new.self in
    let text : List ℕ = handed c.fill.new.source in
    let done : List ℕ = inv.done ++ block_of c.loop-block.blocks in
    let last : IsFilled true done new text = rw c.if-last.true at (c.in-Ok-fill.ensures.filled inv.done inv.is_at) in
    let (more, gone, took) = c.in-Ok-encode_block.ensures.encoded done (block_of new) inv.lines inv.whole c.block.ensures inv.gone in (
      text,
      inv.lines ++ more,
      all-known start (g.R.Read.remaining (inner_of c.fill.new.source)) text (c.fill.ensures.consumed start inv.consumed) ((c.in-Ok-fill.ensures.ended c.if-last.true).1),
      file-gone c.args.table.now _ c.args.shared.now text done (inv.lines ++ more) (texts_of c.encode_block.new.dictionary) new c.in-Ok-encode_block.latest inv.epochs inv.named inv.joined last gone,
      λ first taken h. subst (λ (t : List ℕ). g.O.LineSink.took first c.encode_block.new.out t) (append_assoc taken inv.lines more) (took first (taken ++ inv.lines) (inv.took first taken h)),
    )

pub loop-block-preserved : goal.loop-block-preserved
loop-block-preserved g c =
    let inv = c.loop-block.invariant in
    let new = c.fill.new.self in
    let text : List ℕ = handed c.fill.new.source in
    let done : List ℕ = inv.done ++ block_of c.loop-block.blocks in
    let next : IsFilled false done new text = rw c.if-last.false at (c.in-Ok-fill.ensures.filled inv.done inv.is_at) in
    let (more, gone, took) = c.in-Ok-encode_block.ensures.encoded done (block_of new) inv.lines inv.whole c.block.ensures inv.gone in
    record {
      epochs = inv.epochs;
      named = inv.named;
      joined = inv.joined;
      done = done;
      is_at = next.is_at;
      whole = whole-next done new text next;
      lines = inv.lines ++ more;
      gone = gone;
      took = λ first taken h. subst (λ (t : List ℕ). g.O.LineSink.took first c.encode_block.new.out t) (append_assoc taken inv.lines more) (took first (taken ++ inv.lines) (inv.took first taken h));
      stays = λ first h. c.encode_block.ensures.stays first (inv.stays first h);
      grown = grown-twice _ _ _ inv.grown c.in-Ok-encode_block.ensures.grows;
      consumed = c.fill.ensures.consumed (g.R.Read.remaining c.args.file) inv.consumed;
    }
