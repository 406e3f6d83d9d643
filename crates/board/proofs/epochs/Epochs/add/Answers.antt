use Rattle.std.proofs.Common.{◌≡◌, ◌∙◌, ◌++◌, ◌∷◌, [], ◌<◌, List, ℤ, length, slice_set, sym, ap, arith}
use Rattle.std.proofs.lemmas.Result.{on_ok_weaker}
use Rattle.board.specs.Steps.{more_at}
use Rattle.board.proofs.EpochPlaces.{more-set, more-new}
use Rattle.board.proofs.epochs.Epochs.add.Goals as goal

pub returns-then-at-len-clause-ok : goal.returns-then-at-len-clause-ok
returns-then-at-len-clause-ok c =
    on_ok_weaker c.push.result
    (λ is.
    let there : c.args.epoch < length c.self.inside.lists.items = omega arith in
    let e : c.push.new.self ≡ c.index_mut.result.now ++ c.args.batch ∷ [] = is in
    rw e (
    ap (λ (y : List (List (List ℤ))). slice_set c.self.inside.lists.items c.args.epoch (y ++ c.args.batch ∷ [])) c.index_mut.ensures.value
    ∙ sym (more-set c.args.epoch (c.args.batch ∷ []) c.index_mut.result.now c.self.inside.lists.items there)
    ∙ ap (more_at c.args.epoch (c.args.batch ∷ [])) c.self.view_is))
    c.push.ensures.ok

pub returns-clause-ok : goal.returns-clause-ok
returns-clause-ok c =
    let full : length c.pad.new.lists.items ≡ c.args.epoch = omega arith in
    let items : c.push_reserved.new.self.items ≡ c.pad.new.lists.items ++ (c.args.batch ∷ []) ∷ [] =
    c.push_reserved.ensures.items ∙ ap (λ (x : List (List (List ℤ))). c.pad.new.lists.items ++ x ∷ []) c.one.ensures in
    items
    ∙ sym (more-new c.args.epoch (c.args.batch ∷ []) c.pad.new.lists.items full)
    ∙ c.pad.ensures.same (c.args.batch ∷ [])
    ∙ ap (more_at c.args.epoch (c.args.batch ∷ [])) (c.reserve.ensures.items ∙ c.self.view_is)
