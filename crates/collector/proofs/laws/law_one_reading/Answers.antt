use Rattle.collector.proofs.OneReading.{apart, one_refusal, one_text}
use Rattle.collector.proofs.laws.law_one_reading.Goals as goal

pub returns : goal.returns
returns c = record { epochs = one_text; apart = apart; refusal = one_refusal }
