use Rattle.std.proofs.Common.{ℤ, List, Vec, ◌++◌, ap, subst, ◌∙◌, length, map, arith}
use Rattle.std.proofs.lemmas.List.{length-map}
use Rattle.std.specs.declared.alloc.Global.{Global}
use Rattle.rows.specs.FlatRows.{joined}
use Rattle.rows.proofs.Joined.{joined_append}
use Rattle.collector.specs.Parts.{Stitches}
use Rattle.collector.proofs.PartsRead.{batches_joined}
use Rattle.collector.proofs.input_records.Kept.append.Goals as goal

abbrev Batches : Type 0
Batches = Vec (List (List ℤ)) Global

abbrev records : Batches → List (List ℤ)
records v = joined v.items

pub returns : goal.returns
returns c =
    let all : List Batches = c.more.inside.epochs.items in
    let old : List Batches = c.self.inside.epochs.items in
    let some = ap length c.more.view_is in
    let both = batches_joined Batches records all c.remove-first.new.self.items old c.pop.new.self.items c.append-2.new.self.items c.remove-first.result c.in-Some.last c.append.new.self
    (omega (arith, c.requires.more, some, length-map all records)) c.remove-first.ensures.value c.remove-first.ensures.items c.in-Some.ensures.items (ap joined c.in_ok-append.ensures.items ∙ joined_append c.in-Some.last.items c.remove-first.result.items)
    (c.in_ok-append-2.ensures.items ∙ ap (λ (bs : List Batches). bs ++ c.remove-first.new.self.items) c.in_ok-push.ensures.items) in
    subst (λ (more : List (List (List ℤ))). Stitches c.args.self.now more (map records c.append-2.new.self.items)) c.more.view_is
    (subst (λ (o : List (List (List ℤ))). Stitches o (map records all) (map records c.append-2.new.self.items)) c.self.view_is both)
