use Rattle.std.proofs.Common.{◌≡◌, ◌∙◌, ◌++◌, ◌<◌, ℕ, take, length, ap, arith, inl, lit≤}
use Rattle.std.proofs.lemmas.List.{append-nil}
use Rattle.std.proofs.lemmas.Result.{err_from_is_err_and}
use Rattle.std.proofs.KnownBytes.{Consumes-trans}
use Rattle.collector.specs.Watching.{handed}
use Rattle.csv_blocks.specs.Blocks.{block_of}
use Rattle.csv_blocks.proofs.Holding.{next-block, some-block}
use Rattle.csv_blocks.proofs.blocks.Blocks.fill.Goals as goal

pub returns-in_err-drop_block-clause-refused : goal.returns-in_err-drop_block-clause-refused
returns-in_err-drop_block-clause-refused g c =
    let p = err_from_is_err_and c.from_residual.result c.from_residual.ensures.1 in
    λ done at. rw (p.1, p.2) (inl (c.in_err-drop_block.ensures.stuck done (handed c.args.source.now) at))

pub returns-in_default-clause-refused : goal.returns-in_default-clause-refused
returns-in_default-clause-refused g c = λ done at. inl (λ tail. tt)

pub returns-then-count-eq0-clause-filled : goal.returns-then-count-eq0-clause-filled
returns-then-count-eq0-clause-filled g c =
    let same : handed c.pull.new.self ≡ handed c.pieces.source =
    c.in-Ok.ensures.handed ∙ (ap (λ (n : ℕ). handed c.pieces.source ++ take n c.pull.new.piece) c.if-count-eq0.true ∙ append-nil (handed c.pieces.source)) in
    λ done at. rw same (c.in_ok-finish.ensures.last (done ++ block_of c.args.self.now) (handed c.pieces.source) (c.pieces.invariant.is_at done at))

pub returns-in_err-take-clause-refused : goal.returns-in_err-take-clause-refused
returns-in_err-take-clause-refused g c =
    let p = err_from_is_err_and c.from_residual-in_err-take.result c.from_residual-in_err-take.ensures.1 in
    λ done at.
    rw (p.1, p.2)
    (inl (rw c.in-Ok.ensures.handed (c.in_err-take.ensures.stuck (done ++ block_of c.args.self.now) (handed c.pieces.source) (c.pieces.invariant.is_at done at))))

pub returns-then-len-gt-BLOCK-clause-filled : goal.returns-then-len-gt-BLOCK-clause-filled
returns-then-len-gt-BLOCK-clause-filled g c =
    let new = c.take.new.self in
    let many : 65536 < length new.block.items = omega (arith, new.block.ok.0, c.len.ensures, c.if-len-gt-BLOCK.true) in
    λ done at.
    next-block (done ++ block_of c.args.self.now) (handed c.pull.new.self) new
    (rw c.in-Ok.ensures.handed (c.in_ok-take.ensures.taken (done ++ block_of c.args.self.now) (handed c.pieces.source) (c.pieces.invariant.is_at done at)))
    (some-block new 65536 many (lit≤ tt))

pub pieces-preserved : goal.pieces-preserved
pieces-preserved g c = record {
  is_at = λ done at.
      rw c.in-Ok.ensures.handed (c.in_ok-take.ensures.taken (done ++ block_of c.args.self.now) (handed c.pieces.source) (c.pieces.invariant.is_at done at));
  consumed = λ start before.
      rw c.in-Ok.ensures.handed (Consumes-trans _ _ _ (handed c.pieces.source) (take c.in-Ok.count c.pull.new.piece) (c.pieces.invariant.consumed start before) c.in-Ok.ensures.bytes.0);
}
