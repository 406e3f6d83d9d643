use Rattle.std.proofs.Common.{◌∷◌, [], ℕ, List}
use Rattle.std.proofs.lemmas.Bool.Decides.{Decides-eqb}
use Rattle.std.proofs.lemmas.Slice.Eq.{strip_prefix_is}
use Rattle.csv_blocks.proofs.Marks.{mark-gone, no-mark}
use Rattle.csv_blocks.proofs.lines.without_mark.Goals as goal

pub returns-in-Some : goal.returns-in-Some
returns-in-Some c =
    let text : List ℕ = c.args.text.now in
    let is = rw c.in-Some.is at (strip_prefix_is Decides-eqb text (239 ∷ 187 ∷ 191 ∷ []) c.strip_prefix.result c.strip_prefix.ensures.cases) in
    mark-gone text c.in-Some.rest.now is

pub returns-in-None : goal.returns-in-None
returns-in-None c =
    let text : List ℕ = c.args.text.now in
    let is = rw c.in-None.is at (strip_prefix_is Decides-eqb text (239 ∷ 187 ∷ 191 ∷ []) c.strip_prefix.result c.strip_prefix.ensures.cases) in
    no-mark text is
