use Rattle.std.proofs.Common.{rules, ◌≢◌, ◌≤◌, ◌-◌, ◌∙◌, ℕ, List, inl, inr, length, subst, sym}
use Rattle.std.specs.Prelude.{slice_index}
use Rattle.std.specs.Io.KnownBytes.{Appends}
use Rattle.collector.specs.Watching.{inner_of}
use Rattle.table_commands.proofs.Streamed.{more-unmarked, was-ok}
use Rattle.table_commands.proofs.input_writer.InputWriter.write_many.Goals as goal

pub returns-clause-stays : goal.returns-clause-stays
returns-clause-stays g c = λ first (name, held).
    let lines : List ℕ = c.args.self.now.lines.items in
    let written = was-ok c.put.result (sym c.is_err.ensures.value ∙ c.if-is_err.false) c.put.ensures.ok in
    let some : 2 ≤ length lines = search rules in
    let other : slice_index lines (length lines - 2) ≢ 100 = search rules in (
      name,
      elim held [
        | inl broken ↦ inl broken
        | inr quiet ↦ inr (more-unmarked _ _ _ lines quiet (subst (λ (t : List ℕ). Appends (g.W.Write.contents (inner_of c.args.self.now.out.now)) (g.W.Write.contents (inner_of c.put.new.writer)) t) c.as_slice-lines.ensures.value written) some other)
      ],
    )
