-- How many tables a script has at most: one for each form, and a loop's body as often as it turns, where a turn counts for one at least. A closure that
-- is one recursive table counts its start, the other sides of its body's joins, and itself.
use Rattle.std.specs.Prelude.{ℕ, zero, suc, Bool, cond, ◌+◌, ◌*◌, List, [], ◌∷◌}
use Rattle.semantics.specs.Query.{Name, Loop, Rel, Let, Output, Program}
use Rattle.sql_meaning.specs.Translation.{is_linear, is_recursion}

-- the tables of a turn, of which there is one at least
abbrev pub one_at_least : ℕ → ℕ
one_at_least zero = 1
one_at_least (suc n) = suc n

-- of a loop, by its turns and by the counts of its start and of its body; a turn of a closure makes two more
abbrev pub loop_count : Loop → ℕ → ℕ → ℕ → ℕ
loop_count Loop.iterate n start body = start + n * one_at_least body
loop_count Loop.closure n start body = suc start + n * (2 + body)

module _ (recursive : Bool) where
  abbrev mutual
    -- of a relation
    pub table_count : Rel → ℕ
    table_count (Rel.named x) = 0
    table_count (Rel.select r ss) = suc (table_count r)
    table_count (Rel.filter r c) = suc (table_count r)
    table_count (Rel.concat p q) = suc (table_count p + table_count q)
    table_count (Rel.join p q ps) = suc (table_count p + table_count q)
    table_count (Rel.group r ks as') = suc (table_count r)
    table_count (Rel.distinct r) = suc (table_count r)
    table_count (Rel.except p q) = suc (table_count p + table_count q)
    table_count (Rel.intersect p q) = suc (table_count p + table_count q)
    table_count (Rel.loop l n x r b) =
        cond (is_recursion recursive l n x b) (suc (table_count r + side_count x b)) (loop_count l n (table_count r) (table_count b))

    -- of the other sides of the joins of a body that is linear in x
    pub side_count : (x : Name) → Rel → ℕ
    side_count x (Rel.named y) = 0
    side_count x (Rel.select r ss) = side_count x r
    side_count x (Rel.filter r c) = side_count x r
    side_count x (Rel.concat p q) = 0
    side_count x (Rel.join p q ps) = cond (is_linear x p) (side_count x p + table_count q) (table_count p + side_count x q)
    side_count x (Rel.group r ks as') = 0
    side_count x (Rel.distinct r) = 0
    side_count x (Rel.except p q) = 0
    side_count x (Rel.intersect p q) = 0
    side_count x (Rel.loop l n y r b) = 0

  -- of named relations
  abbrev pub lets_count : List Let → ℕ
  lets_count [] = 0
  lets_count (l ∷ ls) = table_count l.value + lets_count ls

  -- of outputs
  abbrev pub outputs_count : List Output → ℕ
  outputs_count [] = 0
  outputs_count (o ∷ os) = table_count o.value + outputs_count os

  -- of a program
  abbrev pub program_count : Program → ℕ
  program_count p = lets_count p.lets + outputs_count p.outputs
