use Rattle.std.proofs.Common.{◌≡◌, ◌∙◌, IfErr, IfOk, ap, subst, sym}
use Rattle.machine.specs.World.{Event}
use Rattle.events.specs.Happenings.{happening_of}
use Rattle.events.specs.Jobs.{Job}
use Rattle.events.specs.TooMany.{CountsFit, CountsOver}
use Rattle.rows.specs.declared.fault.WorkFault.TheVariants.{Count}
use Rattle.events.proofs.compute.run.Goals as goal

pub returns-in-Arrival-clause-fits : goal.returns-in-Arrival-clause-fits
returns-in-Arrival-clause-fits c =
    let same : record { wired = c.event.inside.wiring.value; happening = Event.arrival c.in-Arrival.message; before = c.event.inside.shard.value } ≡ c.args.event =
    sym (ap (λ h. record { wired = c.event.inside.wiring.value; happening = happening_of h; before = c.event.inside.shard.value }) c.in-Arrival.is) ∙ c.event.view_is in
    subst (λ (j : Job). IfOk c.arrive.result (λ o. CountsFit j)) same c.arrive.ensures.fits

pub returns-in-Arrival-clause-over : goal.returns-in-Arrival-clause-over
returns-in-Arrival-clause-over c =
    let same : record { wired = c.event.inside.wiring.value; happening = Event.arrival c.in-Arrival.message; before = c.event.inside.shard.value } ≡ c.args.event =
    sym (ap (λ h. record { wired = c.event.inside.wiring.value; happening = happening_of h; before = c.event.inside.shard.value }) c.in-Arrival.is) ∙ c.event.view_is in
    subst (λ (j : Job). IfErr c.arrive.result (λ e. e ≡ Count → CountsOver j)) same c.arrive.ensures.over

pub returns-in-Notification-clause-over : goal.returns-in-Notification-clause-over
returns-in-Notification-clause-over c =
    let same : record { wired = c.event.inside.wiring.value; happening = Event.notification c.in-Notification.request; before = c.event.inside.shard.value } ≡ c.args.event =
    sym (ap (λ h. record { wired = c.event.inside.wiring.value; happening = happening_of h; before = c.event.inside.shard.value }) c.in-Notification.is) ∙ c.event.view_is in
    subst (λ (j : Job). IfErr c.notify.result (λ e. e ≡ Count → CountsOver j)) same c.notify.ensures.over

pub returns-in-Notification-clause-fits : goal.returns-in-Notification-clause-fits
returns-in-Notification-clause-fits c =
    let same : record { wired = c.event.inside.wiring.value; happening = Event.notification c.in-Notification.request; before = c.event.inside.shard.value } ≡ c.args.event =
    sym (ap (λ h. record { wired = c.event.inside.wiring.value; happening = happening_of h; before = c.event.inside.shard.value }) c.in-Notification.is) ∙ c.event.view_is in
    subst (λ (j : Job). IfOk c.notify.result (λ o. CountsFit j)) same c.notify.ensures.fits
