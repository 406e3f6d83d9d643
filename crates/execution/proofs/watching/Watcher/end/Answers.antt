use Rattle.std.proofs.Common.{◌≡◌, ◌∙◌, [], ◌∷◌, cond, ap, subst, sym}
use Rattle.execution.specs.Told.{Takes, line_end}
use Rattle.execution.specs.declared.watching.Telling.{Telling}
use Rattle.execution.proofs.Tellings.{takes_nothing}
use Rattle.execution.proofs.watching.Watcher.end.Goals as goal

pub returns-in-InPlace : goal.returns-in-InPlace
returns-in-InPlace g c =
    let line : line_end c.args.self.now.telling c.args.told ≡ 10 ∷ [] = ap (λ (t : Telling). line_end t c.args.told) c.in-InPlace.is ∙ c.is_some.ensures ∙ ap (λ b. cond b (10 ∷ []) []) c.if-is_some.true in
    subst (Takes g.W.Write.contents c.args.self.now c.put.new.self) (sym line) c.put.ensures

pub returns-else-is_some : goal.returns-else-is_some
returns-else-is_some g c =
    let line : line_end c.args.self.now.telling c.args.told ≡ [] = ap (λ (t : Telling). line_end t c.args.told) c.in-InPlace.is ∙ c.is_some.ensures ∙ ap (λ b. cond b (10 ∷ []) []) c.if-is_some.false in
    subst (Takes g.W.Write.contents c.args.self.now c.args.self.now) (sym line) (takes_nothing g.W.Write.contents c.args.self.now)
