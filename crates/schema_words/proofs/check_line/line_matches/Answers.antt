use Rattle.schema_words.proofs.check_line.line_matches.Goals as goal

pub returns : goal.returns
returns c = c.matches_of.ensures
