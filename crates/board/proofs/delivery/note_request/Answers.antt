use Rattle.std.proofs.Common.{◌≡◌, ◌∙◌, ◌++◌, ◌∷◌, [], List, Option, ap, arith}
use Rattle.semantics.specs.Time.{Time}
use Rattle.semantics.specs.Could.{Pointstamp, at_vertex}
use Rattle.machine.specs.Active.{request_pointstamp}
use Rattle.machine.specs.World.{Request}
use Rattle.events.specs.Happenings.{requests_of}
use Rattle.board.proofs.Noted.{times_more}
use Rattle.board.proofs.delivery.note_request.Goals as goal
use Rattle.board.specs.WorkerShown.{requests_count}

pub returns-in-Some-clause-added : goal.returns-in-Some-clause-added
returns-in-Some-clause-added c q =
    let ps : List Pointstamp = c.args.added.now.items in
    let r : Request = c.in-Some.request in
    let is : c.new.result ≡ request_pointstamp r = c.new.ensures ∙ ap (λ (t : Time). at_vertex c.request.inside.vertex.0 t) c.copied.ensures ∙ ap request_pointstamp c.request.view_is in
    let items : c.push_reserved.new.self.items ≡ ps ++ (request_pointstamp r ∷ []) = c.push_reserved.ensures.items ∙ ap (λ (p : Pointstamp). ps ++ (p ∷ [])) is in
    let more = times_more ps c.push_reserved.new.self.items (request_pointstamp r) q items in
    let asked = ap (λ (a : Option Request). requests_count q (requests_of a)) c.in-Some.is in
    omega arith
