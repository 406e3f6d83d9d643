use Rattle.std.proofs.Common.{◌≡◌, ◌∙◌, ℕ, true, List, ap, slice_set}
use Rattle.tokens.specs.declared.rule.Place.TheVariants.{Lost}
use Rattle.board.specs.WorkerShown.{WorkerShown, sides_of}
use Rattle.board.specs.Shown.{Shown, Side, side_at, side_in}
use Rattle.board.proofs.Handing.{worker_there}
use Rattle.board.proofs.MailboxRoom.{sides_change}
use Rattle.board.proofs.state.State.abandon.Goals as goal

pub returns-clause-state : goal.returns-clause-state
returns-clause-state c =
    let s : Shown = c.args.self.now in
    let ds : List WorkerShown = c.self.inside.workers.items in
    let k : ℕ = c.args.worker in
    let same : sides_of ds ≡ s.sides = ap (λ (x : Shown). x.sides) c.self.view_is in
    let all : sides_of (slice_set ds k c.abandon.new.self) ≡ slice_set s.sides k (record (side_at s k) { place = Lost c.args.stub.job }) =
    sides_change ds k c.abandon.new.self c.index_mut.result.now (λ (x : Side). record x { place = Lost c.args.stub.job }) (worker_there s ds same k c.requires.there) c.index_mut.ensures.value c.abandon.ensures.side
    ∙ (λ i. slice_set (same i) k (record (side_in (same i) k) { place = Lost c.args.stub.job })) in
    λ i. record { graph = (c.self.view_is i).graph; inputs = (c.self.view_is i).inputs; sides = all i; emitted = (c.self.view_is i).emitted; stopped = true }
