use Rattle.std.proofs.Common.{rules, ◌≡◌, ◌++◌, false, true, take, ◌∙◌, sym, ap}
use Rattle.collector.specs.Mark.{end_mark}
use Rattle.collector.proofs.HeldBack.{given_more, read_behind}
use Rattle.collector.proofs.end_mark.Marked.advance.Goals as goal

pub invariant_of-self-in-Some : goal.invariant_of-self-in-Some
invariant_of-self-in-Some g c =
    let copied : c.copy_from_slice.new.self ≡ take c.args.self.now.held end_mark = c.copy_from_slice.ensures.after in
    let read = read_behind c.args.self.now.held _ c.in_ok-count.count c.copy_from_slice.new.self _ c.pull.new.piece (search rules) c.in_ok-count.ensures.bound.0 in
    record {
      few = c.mark_begun-begun.ensures.few;
      plain = λ p. absurd (let q : true ≡ false = sym c.requires.marked ∙ p in cc);
      split = given_more c.args.self.now.given.items (take c.args.self.now.held end_mark) (take c.in_ok-count.count c.pull.new.piece) _ c.split_at.result.0.now (take c.mark_begun-begun.result end_mark) _ _ _ c.args.self.now.split c.in_ok-count.ensures.handed
          (read ∙ ap (λ xs. xs ++ take c.in_ok-count.count c.pull.new.piece) copied)
          (ap (λ xs. xs ++ take c.mark_begun-begun.result end_mark) c.split_at.ensures.front ∙ c.mark_begun-begun.ensures.ends) c.add.ensures;
    }

pub invariant_of-self-in_default : goal.invariant_of-self-in_default
invariant_of-self-in_default g c =
    let copied : c.copy_from_slice.new.self ≡ take c.args.self.now.held end_mark = c.copy_from_slice.ensures.after in
    let read = read_behind c.args.self.now.held _ c.in_ok-count.count c.copy_from_slice.new.self _ c.pull.new.piece (search rules) c.in_ok-count.ensures.bound.0 in
    record {
      few = c.mark_begun-begun.ensures.few;
      plain = λ p. absurd (let q : true ≡ false = sym c.requires.marked ∙ p in cc);
      split = given_more c.args.self.now.given.items (take c.args.self.now.held end_mark) (take c.in_ok-count.count c.pull.new.piece) _ c.split_at.result.0.now (take c.mark_begun-begun.result end_mark) _ _ _ c.args.self.now.split c.in_ok-count.ensures.handed
          (read ∙ ap (λ xs. xs ++ take c.in_ok-count.count c.pull.new.piece) copied)
          (ap (λ xs. xs ++ take c.mark_begun-begun.result end_mark) c.split_at.ensures.front ∙ c.mark_begun-begun.ensures.ends) c.add.ensures;
    }
