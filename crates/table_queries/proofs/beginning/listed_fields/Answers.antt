use Rattle.table_queries.proofs.beginning.listed_fields.Goals as goal

pub returns : goal.returns
returns g c = record {
  schema = c.in_ok-schema.schema;
  query = c.in_ok-checked.checked.query.items;
  read = c.in_ok-schema.ensures;
  text = c.in_ok-checked.ensures.text;
  listed = c.in_ok-checked.ensures.listed;
}
