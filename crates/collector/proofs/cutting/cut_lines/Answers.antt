use Rattle.std.proofs.Common.{◌≡◌, ◌∙◌, ◌++◌, List, ℕ, ap, append_assoc, map, take-append-drop}
use Rattle.collector.specs.Parts.{together}
use Rattle.collector.proofs.PartsRead.{one_cut}
use Rattle.collector.proofs.cutting.cut_lines.Goals as goal

pub loop-part-preserved : goal.loop-part-preserved
loop-part-preserved c =
    let before = together (map (λ r. r.now) c.loop-part.parts.items) in
    let part : List ℕ = c.split_at-in-loop-part.result.0.now in
    let after : List ℕ = c.split_at-in-loop-part.result.1.now in
    let both : part ++ after ≡ c.loop-part.rest.now = (λ i. c.split_at-in-loop-part.ensures.front i ++ c.split_at-in-loop-part.ensures.back i) ∙ take-append-drop _ c.loop-part.rest.now in
    ap (λ (t : List ℕ). t ++ after) (one_cut (λ r. r.now) c.loop-part.parts.items c.push.new.self.items c.split_at-in-loop-part.result.0 c.in_ok-push.ensures.items)
    ∙ append_assoc before part after ∙ ap (λ (t : List ℕ). before ++ t) both ∙ c.loop-part.invariant

pub returns : goal.returns
returns c = one_cut (λ r. r.now) c.loop-part.parts.items c.push-2.new.self.items c.loop-part.rest c.in_ok-push-2.ensures.items ∙ c.loop-part.invariant
