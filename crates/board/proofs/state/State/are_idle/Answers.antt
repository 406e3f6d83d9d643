use Rattle.std.proofs.Common.{◌≡◌, ◌<◌, ◌∙◌, List, length, ap, sym, subst, arith}
use Rattle.board.specs.WorkerShown.{WorkerShown, IsIdle, worker_in, sides_of}
use Rattle.board.specs.Shown.{Shown, Side, side_at, side_in}
use Rattle.board.proofs.MailboxRoom.{side_read, sides_at, sides_length}
use Rattle.board.proofs.state.State.are_idle.Goals as goal

pub returns-then-not-is_idle : goal.returns-then-not-is_idle
returns-then-not-is_idle c all =
    let ds : List WorkerShown = c.deref-worker-items.result.now in
    let same : sides_of ds ≡ c.args.self.now.sides = ap sides_of c.deref-worker-items.ensures.value ∙ ap (λ (x : Shown). x.sides) c.self.view_is in
    let there : c.loop-worker.worker-index < length c.args.self.now.sides = (let a = sides_length ds in let b = ap length same in omega (arith, a, b, c.loop-worker-test.true)) in
    let read : side_at c.args.self.now c.loop-worker.worker-index ≡ c.worker-item.result.side =
    ap (λ (xs : List Side). side_in xs c.loop-worker.worker-index) (sym same) ∙ side_read ds c.loop-worker.worker-index c.worker-item.result c.loop-worker-test.true c.worker-item.is in
    c.if-not-is_idle.ensures (subst IsIdle read (all c.loop-worker.worker-index there))

pub returns : goal.returns
returns c k l =
    let ds : List WorkerShown = c.deref-worker-items.result.now in
    let same : sides_of ds ≡ c.args.self.now.sides = ap sides_of c.deref-worker-items.ensures.value ∙ ap (λ (x : Shown). x.sides) c.self.view_is in
    let there : k < c.loop-worker.worker-index = (let a = sides_length ds in let b = ap length same in omega (arith, a, b, l, c.loop-worker-test.false)) in
    let read : (worker_in ds k).side ≡ side_at c.args.self.now k = sym (sides_at ds k) ∙ ap (λ (xs : List Side). side_in xs k) same in
    subst IsIdle read (c.loop-worker.invariant k there)
