use Rattle.std.proofs.Common.{List, Option, ap, sym, map, ◌∙◌}
use Rattle.semantics.specs.Multiset.{Record}
use Rattle.exchange.specs.Parts.{parcels}
use Rattle.exchange.specs.Homes.{home_of}
use Rattle.vertices.specs.Outs.{records_of}
use Rattle.events.specs.Letters.{letter_of, letters_over}
use Rattle.events.specs.Wired.{network_of}
use Rattle.events.proofs.SentParcels.{no_letters}
use Rattle.events.proofs.sending.parcels_over.Goals as goal

pub returns-in_default : goal.returns-in_default
returns-in_default c =
    let net = network_of c.args.wiring.now in
    ap (λ ps. map (letter_of c.args.route.now.edge.0 c.args.time.now) ps) c.new.ensures.items
    ∙ sym (ap (λ (b : Option (List Record)). letters_over net c.args.sender c.args.route.now.edge.0 c.args.time.now (records_of b)) c.in_default.is ∙ no_letters net c.args.sender c.args.route.now.edge.0 c.args.time.now)

pub returns-then-is_worth_comparing : goal.returns-then-is_worth_comparing
returns-then-is_worth_comparing c =
    let workers = c.args.wiring.now.workers in
    let batch = c.in_ok-shared.ensures ∙ sym (ap records_of c.in-Some.is) in
    let cut =
    c.in_ok-again.ensures.each
    ∙ ap (λ n. parcels (home_of c.args.route.now.routing n c.args.sender) c.in_ok-shared.shared n) c.workers-workers.ensures.value
    ∙ ap (λ records. parcels (home_of c.args.route.now.routing workers c.args.sender) records workers) batch
    ∙ ap (λ home. parcels home (records_of c.args.batch.now) workers) (λ i x. c.requires.route.goes workers c.args.sender x i)
    in
    ap (λ ps. map (letter_of c.args.route.now.edge.0 c.args.time.now) ps) cut

pub returns : goal.returns
returns c =
    let workers = c.args.wiring.now.workers in
    let batch = c.in_ok-shared.ensures ∙ sym (ap records_of c.in-Some.is) in
    let cut =
    c.in_ok-parcels.ensures.each
    ∙ ap (λ n. parcels (home_of c.args.route.now.routing n c.args.sender) c.in_ok-shared.shared n) c.workers-workers.ensures.value
    ∙ ap (λ records. parcels (home_of c.args.route.now.routing workers c.args.sender) records workers) batch
    ∙ ap (λ home. parcels home (records_of c.args.batch.now) workers) (λ i x. c.requires.route.goes workers c.args.sender x i)
    in
    ap (λ ps. map (letter_of c.args.route.now.edge.0 c.args.time.now) ps) cut
