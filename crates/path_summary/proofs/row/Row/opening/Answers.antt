use Rattle.std.proofs.Common.{◌≡◌, ◌∙◌, sym, ap, subst, Some, ℕ, List, slice_index_or, slice_set}
use Rattle.std.proofs.Math.ListN.{replicate}
use Rattle.path_summary.specs.Carried.{identity}
use Rattle.path_summary.specs.Codes.{decoded, row_of}
use Rattle.path_summary.specs.Walks.{HasGot}
use Rattle.path_summary.proofs.Notes.{got_opened}
use Rattle.path_summary.proofs.row.Row.opening.Goals as goal

pub returns-clause-got : goal.returns-clause-got
returns-clause-got c =
    let w = c.args.links.now in
    let s = c.code_of.new.self in
    let home : decoded s c.in_ok-home.home ≡ Some (identity (slice_index_or w.depths c.args.vertex 0)) = c.in_ok-home.ensures.code ∙ ap Some (c.identity.ensures ∙ ap identity c.depth.ensures) in
    let is : c.put.new.self ≡ slice_set (replicate c.vertex_count.result 0) c.args.vertex c.in_ok-home.home = c.put.ensures ∙ ap (λ (xs : List ℕ). slice_set xs c.args.vertex c.in_ok-home.home) (c.in_ok-codes.ensures.items_if_clones_equal (λ y e. e)) in
    subst (λ (codes : List ℕ). HasGot w c.args.vertex 0 0 (row_of s codes)) (sym is)
    (got_opened w c.requires.loops c.args.vertex c.requires.vertex s c.vertex_count.result c.in_ok-home.home c.vertex_count.ensures home)
