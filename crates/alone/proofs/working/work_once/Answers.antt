use Rattle.std.proofs.Common.{◌∙◌, ap, length, subst, sym}
use Rattle.machine.specs.Step.{Step}
use Rattle.board.specs.declared.claimed.Claimed.TheVariants as Claimed
use Rattle.board.specs.Promises.{IsDrained}
use Rattle.board.specs.Shown.{Shown}
use Rattle.driver.proofs.Tallying.{stays_claim, stays_committed, stays_step, stays_then}
use Rattle.alone.specs.Rests.{IsAtRest, IsFree}
use Rattle.alone.proofs.Free.{committed_free, gathers_free, spoiled_free}
use Rattle.alone.proofs.Less.{claims_stopped, gathers_lead}
use Rattle.driver.proofs.Sums.{raises_receives}
use Rattle.alone.proofs.Resting.{at_rest, drained_passed_over, drained_rests, idle_drained_then, idle_passed_over, not_done}
use Rattle.alone.proofs.Stepping.{ends_move, still_move}
use Rattle.alone.proofs.working.work_once.Goals as goal

pub returns-in-Ok-clause-event : goal.returns-in-Ok-clause-event
returns-in-Ok-clause-event g c =
    let claims = c.in-Work.ensures.claims in
    let ends = c.in-Ok.ensures.ends in
    let p = c.in-Work.work.0 in
    (claims.0, c.claim.new.board.shown, p, ends.1.0, claims.1, claims.2.0, ends.1.1)

pub returns-in-Err-clause-stopped : goal.returns-in-Err-clause-stopped
returns-in-Err-clause-stopped g c = λ halted.
    let claims = c.in-Work.ensures.claims in
    let p = c.in-Work.work.0 in
    claims_stopped c.args.board.now.shown claims.0 c.claim.new.board.shown c.process.new.board.shown c.args.worker p.worker p p.job.happening c.law_run.ensures claims.1 claims.2.0 c.in-Err.ensures.ends.1

pub returns-in-Err-clause-passed : goal.returns-in-Err-clause-passed
returns-in-Err-clause-passed g c = λ done one. absurd (not_done c.in-Err.fault c.from.result c.from.ensures done)

pub returns-in-Err-clause-rests : goal.returns-in-Err-clause-rests
returns-in-Err-clause-rests g c = λ done one. absurd (not_done c.in-Err.fault c.from.result c.from.ensures done)

pub returns-in-Idle-clause-passed : goal.returns-in-Idle-clause-passed
returns-in-Idle-clause-passed g c = λ done one.
    let claims = c.in-Idle.ensures.claims in
    let m = claims.2 in
    let r = (gathers_lead c.args.worker c.args.board.now.shown claims.0 c.law_run.ensures claims.1).reached in
    idle_passed_over claims.0 c.claim.new.board.shown c.args.worker r m.0 m.1 one m.2 m.3 m.5

pub returns-in-Idle-clause-rests : goal.returns-in-Idle-clause-rests
returns-in-Idle-clause-rests g c = λ done one.
    let claims = c.in-Idle.ensures.claims in
    let m = claims.2 in
    subst (λ (x : Shown). IsAtRest x) (sym m.5) (at_rest claims.0 c.args.worker m.1 (sym (ap (λ (x : Shown). length x.sides) m.5) ∙ one) m.2 m.3)

pub returns-in-Drained-clause-passed : goal.returns-in-Drained-clause-passed
returns-in-Drained-clause-passed g c = λ done one.
    let claims = c.in-Drained.ensures.claims in
    let m = claims.2 in
    let r = (gathers_lead c.args.worker c.args.board.now.shown claims.0 c.law_run.ensures claims.1).reached in
    drained_passed_over claims.0 c.claim.new.board.shown c.args.worker r m.0 m.1 one m.2 m.3

pub returns-in-Drained-clause-rests : goal.returns-in-Drained-clause-rests
returns-in-Drained-clause-rests g c = λ done one.
    let claims = c.in-Drained.ensures.claims in
    let m = claims.2 in
    subst (λ (x : Shown). IsAtRest x) (sym m.3) (drained_rests claims.0 c.args.worker m.1 (sym (ap (λ (x : Shown). length x.sides) m.3) ∙ one) m.2)

pub returns-in-Err-clause-free : goal.returns-in-Err-clause-free
returns-in-Err-clause-free g c = λ free. spoiled_free c.in-Err.fault c.from.result c.process.new.board.shown c.args.worker c.from.ensures

pub returns-in-Idle-clause-free : goal.returns-in-Idle-clause-free
returns-in-Idle-clause-free g c = λ free.
    let m = c.in-Idle.ensures.claims.2 in
    subst (λ (x : Shown). IsFree x c.args.worker) (sym m.5) (m.1, m.2)

pub returns-in-Drained-clause-free : goal.returns-in-Drained-clause-free
returns-in-Drained-clause-free g c = λ free.
    let m = c.in-Drained.ensures.claims.2 in
    subst (λ (x : Shown). IsFree x c.args.worker) (sym m.3) (m.1, (m.2.idle c.args.worker m.1).place)

pub returns-in-Busy-clause-free : goal.returns-in-Busy-clause-free
returns-in-Busy-clause-free g c = λ free.
    let claims = c.in-Busy.ensures.claims in
    let there = gathers_free c.args.worker c.args.board.now.shown claims.0 c.law_run.ensures claims.1 free in
    claims.2.1 there.0 there.1

pub returns-in-Ok-clause-free : goal.returns-in-Ok-clause-free
returns-in-Ok-clause-free g c =
    let claims = c.in-Work.ensures.claims in
    let ends = c.in-Ok.ensures.ends in
    let p = c.in-Work.work.0 in
    committed_free c.args.board.now.shown claims.0 c.claim.new.board.shown c.process.new.board.shown c.args.worker p ends.1.0 c.law_run.ensures claims.1 claims.2.0 ends.1.1

pub returns-in-Ok-clause-counts : goal.returns-in-Ok-clause-counts
returns-in-Ok-clause-counts g c =
    let p = c.in-Work.work.0 in
    stays_then c.args.board.now.shown c.claim.new.board.shown c.process.new.board.shown c.args.tally.now c.args.tally.now c.count.new.self
    (stays_claim c.args.board.now.shown c.claim.new.board.shown c.args.worker (Claimed.Work c.in-Work.work) c.in-Work.ensures.claims c.args.tally.now)
    (stays_committed c.claim.new.board.shown c.process.new.board.shown c.args.tally.now p c.in-Ok.sent c.in-Ok.ensures.tells c.count.new.self c.count.ensures)

pub returns-in-Ok-clause-received : goal.returns-in-Ok-clause-received
returns-in-Ok-clause-received g c = raises_receives c.args.tally.now c.in-Ok.sent c.count.new.self c.count.ensures

pub returns-in-Err-clause-counts : goal.returns-in-Err-clause-counts
returns-in-Err-clause-counts g c =
    let p = c.in-Work.work.0 in
    stays_then c.args.board.now.shown c.claim.new.board.shown c.process.new.board.shown c.args.tally.now c.args.tally.now c.args.tally.now
    (stays_claim c.args.board.now.shown c.claim.new.board.shown c.args.worker (Claimed.Work c.in-Work.work) c.in-Work.ensures.claims c.args.tally.now)
    (stays_step c.claim.new.board.shown c.process.new.board.shown (Step.abandon p.worker p.job.happening) tt c.in-Err.ensures.ends.1 c.args.tally.now)

pub returns-in-Idle-clause-counts : goal.returns-in-Idle-clause-counts
returns-in-Idle-clause-counts g c =
    stays_claim c.args.board.now.shown c.claim.new.board.shown c.args.worker Claimed.Idle c.in-Idle.ensures.claims c.args.tally.now

pub returns-in-Drained-clause-counts : goal.returns-in-Drained-clause-counts
returns-in-Drained-clause-counts g c =
    stays_claim c.args.board.now.shown c.claim.new.board.shown c.args.worker Claimed.Drained c.in-Drained.ensures.claims c.args.tally.now

pub returns-in-Stopped-clause-counts : goal.returns-in-Stopped-clause-counts
returns-in-Stopped-clause-counts g c =
    stays_claim c.args.board.now.shown c.claim.new.board.shown c.args.worker Claimed.Stopped c.in-Stopped.ensures.claims c.args.tally.now

pub returns-in-Busy-clause-counts : goal.returns-in-Busy-clause-counts
returns-in-Busy-clause-counts g c =
    stays_claim c.args.board.now.shown c.claim.new.board.shown c.args.worker Claimed.Busy c.in-Busy.ensures.claims c.args.tally.now

pub returns-in-Err-clause-runs : goal.returns-in-Err-clause-runs
returns-in-Err-clause-runs g c = λ done. absurd (not_done c.in-Err.fault c.from.result c.from.ensures done)

pub returns-in-Idle-clause-runs : goal.returns-in-Idle-clause-runs
returns-in-Idle-clause-runs g c = λ done. let m = c.in-Idle.ensures.claims.2 in ap (λ (x : Shown). x.stopped) m.5 ∙ m.0

pub returns-in-Drained-clause-runs : goal.returns-in-Drained-clause-runs
returns-in-Drained-clause-runs g c = λ done. let m = c.in-Drained.ensures.claims.2 in ap (λ (x : Shown). x.stopped) m.3 ∙ m.0

pub returns-in-Err-clause-drained : goal.returns-in-Err-clause-drained
returns-in-Err-clause-drained g c = λ done one shut. absurd (not_done c.in-Err.fault c.from.result c.from.ensures done)

pub returns-in-Idle-clause-drained : goal.returns-in-Idle-clause-drained
returns-in-Idle-clause-drained g c = λ done one shut.
    let claims = c.in-Idle.ensures.claims in
    let m = claims.2 in
    let r = (gathers_lead c.args.worker c.args.board.now.shown claims.0 c.law_run.ensures claims.1).reached in
    idle_drained_then claims.0 c.claim.new.board.shown c.args.worker r m.0 m.1 one m.2 m.3 m.5 c.law_inputs.ensures shut

pub returns-in-Drained-clause-drained : goal.returns-in-Drained-clause-drained
returns-in-Drained-clause-drained g c = λ done one shut. let m = c.in-Drained.ensures.claims.2 in subst IsDrained (sym m.3) m.2

pub returns-in-Ok-clause-moves : goal.returns-in-Ok-clause-moves
returns-in-Ok-clause-moves g c =
    let claims = c.in-Work.ensures.claims in
    let ends = c.in-Ok.ensures.ends in
    let p = c.in-Work.work.0 in
    ends_move c.args.board.now.shown claims.0 c.claim.new.board.shown c.process.new.board.shown c.args.worker p (Step.commit p.worker p.job.happening ends.1.0) claims.1 claims.2.0 tt ends.1.1

pub returns-in-Err-clause-moves : goal.returns-in-Err-clause-moves
returns-in-Err-clause-moves g c =
    let claims = c.in-Work.ensures.claims in
    let p = c.in-Work.work.0 in
    ends_move c.args.board.now.shown claims.0 c.claim.new.board.shown c.process.new.board.shown c.args.worker p (Step.abandon p.worker p.job.happening) claims.1 claims.2.0 tt c.in-Err.ensures.ends.1

pub returns-in-Idle-clause-moves : goal.returns-in-Idle-clause-moves
returns-in-Idle-clause-moves g c = let claims = c.in-Idle.ensures.claims in still_move c.args.board.now.shown claims.0 c.claim.new.board.shown c.args.worker claims.1 claims.2.5

pub returns-in-Drained-clause-moves : goal.returns-in-Drained-clause-moves
returns-in-Drained-clause-moves g c = let claims = c.in-Drained.ensures.claims in still_move c.args.board.now.shown claims.0 c.claim.new.board.shown c.args.worker claims.1 claims.2.3

pub returns-in-Stopped-clause-moves : goal.returns-in-Stopped-clause-moves
returns-in-Stopped-clause-moves g c = let claims = c.in-Stopped.ensures.claims in still_move c.args.board.now.shown claims.0 c.claim.new.board.shown c.args.worker claims.1 claims.2.1

pub returns-in-Busy-clause-moves : goal.returns-in-Busy-clause-moves
returns-in-Busy-clause-moves g c = let claims = c.in-Busy.ensures.claims in still_move c.args.board.now.shown claims.0 c.claim.new.board.shown c.args.worker claims.1 claims.2.2
