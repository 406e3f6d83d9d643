use Rattle.csv_answers.proofs.Refused.{refused-answer}
use Rattle.csv_answers.proofs.decoding.law_refused_answer.Goals as goal

pub returns : goal.returns
returns c = refused-answer
