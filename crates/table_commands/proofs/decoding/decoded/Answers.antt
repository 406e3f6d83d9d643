use Rattle.table_commands.proofs.Results.{if-ok}
use Rattle.table_commands.proofs.decoding.decoded.Goals as goal

pub returns : goal.returns
returns g c = if-ok c.decoded_by.result (λ file is. (c.in_ok-schema.schema, c.in_ok-schema.ensures, is)) c.decoded_by.ensures
