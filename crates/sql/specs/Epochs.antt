-- What a script of all epochs has more than a script of one: the epoch, as the first column of each table.
use Rattle.std.specs.Prelude.{ℕ, ◌+◌, List, [], codes}
use Rattle.sql.specs.declared.form.Dialect.{Dialect}
use Rattle.sql.specs.declared.form.Dialect.TheVariants.{Postgres, Sqlite, Spark}
use Rattle.sql.specs.declared.form.Epochs.{Epochs}
use Rattle.sql.specs.declared.form.Epochs.TheVariants as epochs

-- between the database's name and the given tables
abbrev pub reads_text : Epochs → List ℕ
reads_text epochs.One = codes ". It reads these tables:\n"
reads_text epochs.Every = codes ". The first column of each table is the epoch. It reads these tables:\n"

-- before the columns of a given table
abbrev pub declared_epoch : Epochs → List ℕ
declared_epoch epochs.One = []
declared_epoch epochs.Every = codes "epoch BIGINT NOT NULL, "

-- before the columns of a table that is made; SQLite holds it to integers as these
abbrev pub made_epoch : Epochs → Dialect → List ℕ
made_epoch epochs.One d = []
made_epoch epochs.Every Postgres = codes "epoch, "
made_epoch epochs.Every Sqlite = codes "epoch CHECK (typeof(epoch) = 'integer'), "
made_epoch epochs.Every Spark = codes "epoch, "

-- before the columns that a query names
abbrev pub epoch_text : Epochs → List ℕ
epoch_text epochs.One = []
epoch_text epochs.Every = codes "epoch, "

-- between the second table of a join and the pairs; rows of the same epoch are joined, and it is their first column, once
abbrev pub join_word : Epochs → List ℕ
join_word epochs.One = codes " AS r ON "
join_word epochs.Every = codes " AS r USING (epoch) WHERE "

-- between the columns of a join's right side, if that is a subquery, and the pairs
abbrev pub inner_join_word : Epochs → List ℕ
inner_join_word epochs.One = codes ") ON "
inner_join_word epochs.Every = codes ") USING (epoch) WHERE "

-- by how many columns the rows of a table are sorted
abbrev pub places : Epochs → ℕ → ℕ
places epochs.One width = width
places epochs.Every width = width + 1
