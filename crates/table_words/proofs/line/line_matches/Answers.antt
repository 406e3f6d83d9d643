use Rattle.table_words.proofs.line.line_matches.Goals as goal

pub returns : goal.returns
returns c = c.matches_of.ensures
