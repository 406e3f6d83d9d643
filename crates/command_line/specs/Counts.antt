-- What a number of workers shows.
use Rattle.std.specs.Prelude.{ℕ}
use Rattle.command_line.specs.declared.worker_count.Workers.{Workers}

-- how many workers they are
abbrev pub count_of : Workers → ℕ
count_of workers = workers.count
