use Rattle.commands.proofs.FollowedText.{part_of_text, whole_of_text}
use Rattle.commands.proofs.laws.law_followed.Goals as goal

pub returns-clause-whole : goal.returns-clause-whole
returns-clause-whole c = whole_of_text

pub returns-clause-part : goal.returns-clause-part
returns-clause-part c = part_of_text
