use Rattle.std.proofs.Common.{rules, ◌∙◌, [], ap, inr, refl, subst, append-nil}
use Rattle.std.proofs.KnownBytes.{Appends-nil}
use Rattle.std.specs.Io.KnownBytes.{Appends}
use Rattle.collector.specs.Watching.{inner_of}
use Rattle.table_commands.specs.Streamed.{IsUnmarked}
use Rattle.table_commands.proofs.Results.{any-err}
use Rattle.table_commands.proofs.Streamed.{none-unmarked, rest-is, unbroken}
use Rattle.table_commands.proofs.encoding.stream_input.Goals as goal

pub returns-in-Err-Tables-clause-fault : goal.returns-in-Err-Tables-clause-fault
returns-in-Err-Tables-clause-fault g c =
    let (name, held) = c.append_input-done.ensures.stays c.new-writer.result (refl, inr (none-unmarked _)) in
    let lent = name ∙ ap (λ o. o.ghost_name) c.new-writer.ensures.out in
    let quiet = unbroken _ _ _ c.if-broken.false held in
    let first : IsUnmarked (g.W.Write.contents (inner_of c.args.out.now)) (g.W.Write.contents (inner_of c.append_input-done.new.out.out.now)) =
    subst (λ o. IsUnmarked (g.W.Write.contents (inner_of o.now)) (g.W.Write.contents (inner_of c.append_input-done.new.out.out.now))) c.new-writer.ensures.out quiet in
    inr (search rules)

pub returns-in-Err-Stopped-clause-fault : goal.returns-in-Err-Stopped-clause-fault
returns-in-Err-Stopped-clause-fault g c =
    let (name, held) = c.append_input-done.ensures.stays c.new-writer.result (refl, inr (none-unmarked _)) in
    let lent = name ∙ ap (λ o. o.ghost_name) c.new-writer.ensures.out in
    let quiet = unbroken _ _ _ c.if-broken.false held in
    let first : IsUnmarked (g.W.Write.contents (inner_of c.args.out.now)) (g.W.Write.contents (inner_of c.append_input-done.new.out.out.now)) =
    subst (λ o. IsUnmarked (g.W.Write.contents (inner_of o.now)) (g.W.Write.contents (inner_of c.append_input-done.new.out.out.now))) c.new-writer.ensures.out quiet in
    inr (search rules)

pub returns-in_err-extend_from_slice-clause-fault : goal.returns-in_err-extend_from_slice-clause-fault
returns-in_err-extend_from_slice-clause-fault g c =
    let (name, held) = c.append_input-done.ensures.stays c.new-writer.result (refl, inr (none-unmarked _)) in
    let lent = name ∙ ap (λ o. o.ghost_name) c.new-writer.ensures.out in
    let quiet = unbroken _ _ _ c.if-broken.false held in
    let first : IsUnmarked (g.W.Write.contents (inner_of c.args.out.now)) (g.W.Write.contents (inner_of c.append_input-done.new.out.out.now)) =
    subst (λ o. IsUnmarked (g.W.Write.contents (inner_of o.now)) (g.W.Write.contents (inner_of c.append_input-done.new.out.out.now))) c.new-writer.ensures.out quiet in
    any-err c.from_residual.result (λ e. inr (search rules))

pub returns-clause-quiet : goal.returns-clause-quiet
returns-clause-quiet g c =
    let (name, held) = c.append_input-done.ensures.stays c.new-writer.result (refl, inr (none-unmarked _)) in
    let lent = name ∙ ap (λ o. o.ghost_name) c.new-writer.ensures.out in
    let quiet = unbroken _ _ _ c.if-broken.false held in
    let first : IsUnmarked (g.W.Write.contents (inner_of c.args.out.now)) (g.W.Write.contents (inner_of c.append_input-done.new.out.out.now)) =
    subst (λ o. IsUnmarked (g.W.Write.contents (inner_of o.now)) (g.W.Write.contents (inner_of c.append_input-done.new.out.out.now))) c.new-writer.ensures.out quiet in
    search rules

pub returns-clause-input : goal.returns-clause-input
returns-clause-input g c =
    let start = c.new-writer.result in
    let (input, is, took) = c.in-Ok.ensures.input in
    let (name, given, has, all) = took start [] (refl, [], Appends-nil _, append-nil start.lines.items) in
    let lent = name ∙ ap (λ o. o.ghost_name) c.new-writer.ensures.out in
    let written : Appends (g.W.Write.contents (inner_of c.args.out.now)) (g.W.Write.contents (inner_of c.append_input-done.new.out.out.now)) given =
    subst (λ o. Appends (g.W.Write.contents (inner_of o.now)) (g.W.Write.contents (inner_of c.append_input-done.new.out.out.now)) given) c.new-writer.ensures.out has in
    let whole = rest-is start.lines.items input given c.append_input-done.new.out.lines.items c.extend_from_slice.new.self.items c.new-writer.ensures.lines all c.in_ok-extend_from_slice.ensures.items in
    (input, given, is, search rules, whole)
