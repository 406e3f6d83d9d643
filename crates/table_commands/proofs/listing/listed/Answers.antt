use Rattle.table_commands.proofs.Results.{if-ok}
use Rattle.table_commands.proofs.listing.listed.Goals as goal

pub returns : goal.returns
returns g c = if-ok c.listed_by.result (λ listing is. (c.in_ok-schema.schema, c.in_ok-schema.ensures, is.0, is.1, is.2)) c.listed_by.ensures
