use Rattle.schedule.proofs.OneReading.{apart, one_refusal, one_text}
use Rattle.schedule.proofs.laws.law_one_reading.Goals as goal

pub returns : goal.returns
returns c = record { commands = one_text; apart = apart; refusal = one_refusal }
