use Rattle.std.proofs.Common.{◌≡◌, ◌<◌, ◌∷◌, ◌∙◌, ℕ, zero, suc, List, [], length, ap, arith, get_or, refl, rules, slice_set, subst, sym}
use Rattle.std.specs.Vec.{with_item}
use Rattle.semantics.specs.Time.{at_epoch}
use Rattle.graph.specs.Shown.{shown_graph}
use Rattle.machine.specs.Engine.{network}
use Rattle.events.specs.Cuts.{Cut, cut_letters}
use Rattle.events.specs.Letters.{AreParcels}
use Rattle.events.specs.Wired.{Wired, network_of}
use Rattle.events.specs.declared.letter.Letter.{Letter}
use Rattle.board.specs.WorkerShown.{sides_of}
use Rattle.board.specs.Shown.{InputShown, Shown, input_at, no_input}
use Rattle.board.specs.Steps.{delivered, more_at}
use Rattle.board.proofs.Ending.{many_delivered}
use Rattle.board.proofs.MailboxRoom.{as_many}
use Rattle.board.proofs.state.State.feed.Goals as goal

pub invariant_of-self-2 : goal.invariant_of-self-2
invariant_of-self-2 g c =
    c.self.invariant
    ∙ sym (as_many c.reserve_letters.new.workers.items c.self.inside.workers.items c.reserve_letters.ensures.sides)
    ∙ sym (many_delivered c.deliver.new.workers.items c.reserve_letters.new.workers.items c.into_letters.result.items c.deliver.ensures.sides)

any_default : (xs : List InputShown) (n : ℕ) (x y : InputShown) → n < length xs → get_or xs n x ≡ get_or xs n y
any_default [] n x y l = absurd (omega (arith, l))
any_default (z ∷ xs) zero x y l = refl
any_default (z ∷ xs) (suc n) x y l = any_default xs n x y (omega (arith, l))

-- the input at a place
input_here : (xs : List InputShown) (n m : ℕ) (x : InputShown) → x ≡ get_or xs n x → n ≡ m → m < length xs → x ≡ get_or xs m no_input
input_here xs n m x is e l = is ∙ ap (λ (k : ℕ). get_or xs k x) e ∙ any_default xs m x no_input l

pub returns-clause-feeds : goal.returns-clause-feeds
returns-clause-feeds g c =
    let s = c.args.self.now in
    let cut : Cut = record c.args.cut { epoch = c.open_epoch.result } in
    let number : c.input-number.result ≡ c.args.cut.input = search rules in
    let there : c.args.cut.input < length c.self.inside.inputs.items = (let l = ap (λ (x : Shown). length x.inputs) c.self.view_is in omega (arith, c.requires.there, l)) in
    let shown : (x : InputShown) → x ≡ get_or c.self.inside.inputs.items c.input-number.result x → x ≡ input_at s c.args.cut.input = λ x is. input_here c.self.inside.inputs.items c.input-number.result c.args.cut.input x is number there ∙ ap (λ (z : Shown). input_at z c.args.cut.input) c.self.view_is in
    let opened : c.open_epoch.result ≡ (input_at s c.args.cut.input).open_epoch = c.open_epoch.ensures ∙ ap (λ (x : InputShown). x.open_epoch) (shown c.index.result.now c.index.ensures) in
    let letters : c.into_letters.result.items ≡ cut_letters cut = c.into_letters.ensures.same ∙ ap cut_letters c.set_epoch.ensures in
    let same : c.letters-3.result.now ≡ c.into_letters.result.items = search rules in
    let old : InputShown = c.index_mut.result.now in
    let ok : c.feed.new.self ≡ record old { fed = more_at old.open_epoch (c.in-Ok.batch ∷ []) old.fed } = search rules in
    let is : old ≡ input_at s c.args.cut.input = shown old c.index_mut.ensures.value in
    let shared : c.in-Ok.batch ≡ c.args.cut.batch = search rules in
    let new : c.feed.new.self ≡ record (input_at s c.args.cut.input) { fed = more_at (input_at s c.args.cut.input).open_epoch (c.args.cut.batch ∷ []) (input_at s c.args.cut.input).fed } =
    ok ∙ (λ i. record (is i) { fed = more_at (is i).open_epoch (shared i ∷ []) (is i).fed }) in
    let inputs : (with_item c.self.inside.inputs c.input-number.result c.feed.new.self).items ≡ slice_set s.inputs c.args.cut.input (record (input_at s c.args.cut.input) { fed = more_at (input_at s c.args.cut.input).open_epoch (c.args.cut.batch ∷ []) (input_at s c.args.cut.input).fed }) =
    λ i. slice_set (c.self.view_is i).inputs (number i) (new i) in
    let sides : sides_of c.deliver.new.workers.items ≡ delivered s.sides c.into_letters.result.items = search rules in
    record {
      letters = c.into_letters.result.items;
      parcels = subst (λ (ls : List Letter). AreParcels (network (shown_graph s.graph) (length s.sides)) 0 c.args.cut.input (at_epoch (input_at s c.args.cut.input).open_epoch) (λ q. c.args.cut.batch) ls) (sym letters)
          (subst (λ (e : ℕ). AreParcels (network (shown_graph s.graph) (length s.sides)) 0 c.args.cut.input (at_epoch e) (λ q. c.args.cut.batch) (cut_letters cut)) opened
          (subst (λ (w : Wired). AreParcels (network_of w) 0 c.args.cut.input (at_epoch c.open_epoch.result) (λ q. c.args.cut.batch) (cut_letters cut)) c.requires.own
          (subst (λ (x : Cut). AreParcels (network_of x.wired) 0 x.input (at_epoch x.epoch) (λ q. x.batch) (cut_letters x)) c.set_epoch.ensures c.law_of_letters.ensures.parcels)));
      state = λ i. record { graph = (c.self.view_is i).graph; inputs = inputs i; sides = sides i; emitted = (c.self.view_is i).emitted; stopped = (c.self.view_is i).stopped };
      added_are = search rules;
      as_many = search rules;
    }
