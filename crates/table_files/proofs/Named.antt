-- Lists of paths, one more at their end.
use Rattle.std.proofs.Common.{◌++◌, List, [], ◌∷◌, ℕ, length, refl, ap, arith}
use Rattle.std.specs.Prelude.{Contains}
use Rattle.schema.specs.declared.tables.Table.{Table}
use Rattle.table_files.specs.Read.{AreNamed}

pub no_paths : (words : List (List ℕ)) → AreNamed [] words []
unfolding AreNamed
no_paths words = refl

pub one_more_path : (tables : List Table) (words paths : List (List ℕ)) (table : Table) (path : List ℕ)
    → AreNamed tables words paths → Contains words (table.name.items ++ 61 ∷ path) → AreNamed (tables ++ table ∷ []) words (paths ++ path ∷ [])
unfolding AreNamed
one_more_path [] words [] table path h has = (has, refl)
one_more_path [] words (p ∷ paths) table path h has = absurd (omega (arith, ap length h))
one_more_path (t ∷ tables) words [] table path h has = absurd h
one_more_path (t ∷ tables) words (p ∷ paths) table path h has = (h.0, one_more_path tables words paths table path h.1 has)
