use Rattle.std.proofs.Common.{◌≡◌, ◌++◌, ◌∷◌, ◌<◌, [], ℕ, List, get_or, length, map, take, arith, rules}
use Rattle.std.proofs.lemmas.List.{map-append, take_more}
use Rattle.schema.specs.declared.tables.Table.{Table}
use Rattle.table_files.proofs.Named.{no_paths, one_more_path}
use Rattle.table_files.proofs.files.paths_of.Goals as goal

pub loop-i-init : goal.loop-i-init
loop-i-init c = record { named = rw c.new-paths.ensures.items (no_paths (map (λ s. s.now) c.args.words.now)) }

pub loop-i-preserved : goal.loop-i-preserved
loop-i-preserved c =
    let tables : List Table = c.args.schema.now.inputs.items in
    let words : List (List ℕ) = map (λ s. s.now) c.args.words.now in
    let i : ℕ = c.loop-i.i in
    let table : Table = c.index.result.now in
    let lt : i < length tables = omega (arith, c.loop-i-test.true) in
    let at : get_or tables i table ≡ table = search rules in
    let items : c.push.new.self.items ≡ c.loop-i.paths.items ++ c.in-Ok.path ∷ [] = search rules in
    let pushed = one_more_path (take i tables) words (map (λ s. s.now) c.loop-i.paths.items) table c.in-Ok.path.now c.loop-i.invariant.named
    (search rules) in
    record { named = rw (take_more tables i table lt, at, items, map-append) pushed }
