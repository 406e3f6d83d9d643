use Rattle.std.proofs.Common.{◌≡◌, [], ◌∷◌, sym, ap, subst, ◌∙◌, length, List, ℕ, ◌<◌, rules}
use Rattle.std.specs.Prelude.{slice_index_or}
use Rattle.rows.specs.FlatRows.{arity_of}
use Rattle.rows.specs.Counts.{runs}
use Rattle.rows.proofs.Weighing.{some_records}
use Rattle.semantics.specs.Multiset.{Record}
use Rattle.exchange.specs.Homes.{home_of}
use Rattle.exchange.specs.Parts.{parcels}
use Rattle.exchange.proofs.Gathering.{all_to_one, all_expanded, all_gathered, parcels_sum, spread_different}
use Rattle.exchange.proofs.splitting.split.Goals as goal

pub returns-in-Some-clause-each : goal.returns-in-Some-clause-each
returns-in-Some-clause-each c =
    let home = home_of c.args.routing.now c.args.workers c.args.sender in
    let one : c.push.new.self.items ≡ record { worker = c.in-Some.worker; batch = c.args.batch } ∷ [] = search rules in
    let each : (k : ℕ) → k < length c.args.batch → home (slice_index_or c.args.batch k []) ≡ c.in-Some.worker =
    subst (λ (b : List Record). (k : ℕ) → k < length b → home (slice_index_or b k []) ≡ c.in-Some.worker) c.in-Some.ensures.all (all_expanded (λ r. home r ≡ c.in-Some.worker) (runs c.args.batch) c.in-Some.ensures.each) in
    one ∙ sym (all_to_one home c.in-Some.worker c.args.workers c.args.batch c.in-Some.ensures.there (some_records c.args.batch c.in-Some.ensures.some) each)

pub returns-in-Some-clause-sum : goal.returns-in-Some-clause-sum
returns-in-Some-clause-sum c = parcels_sum c.args.routing.now c.args.workers c.args.sender c.args.batch c.push.new.self.items c.requires.sender (returns-in-Some-clause-each c)

pub gather-requires-clause-different : goal.gather-requires-clause-different
gather-requires-clause-different c = spread_different (home_of c.args.routing.now c.args.workers c.args.sender) (arity_of c.args.batch) (runs c.args.batch) c.args.workers c.in_ok-parts.parts.items c.common_home.ensures.runs c.in_ok-parts.ensures

pub returns-clause-each : goal.returns-clause-each
returns-clause-each c =
    c.in_ok-parcels-2.ensures ∙ all_gathered (home_of c.args.routing.now c.args.workers c.args.sender) (arity_of c.args.batch) (runs c.args.batch) c.args.workers c.in_ok-parts.parts.items c.in_ok-parts.ensures
    ∙ ap (λ b. parcels (home_of c.args.routing.now c.args.workers c.args.sender) b c.args.workers) c.common_home.ensures.all

pub returns-clause-sum : goal.returns-clause-sum
returns-clause-sum c = parcels_sum c.args.routing.now c.args.workers c.args.sender c.args.batch c.in_ok-parcels-2.parcels.items c.requires.sender (returns-clause-each c)
