use Rattle.json_fields.proofs.LastValues.{text, last}
use Rattle.json_fields.proofs.laws.reads_last_values.Goals as goal

pub returns-clause-text : goal.returns-clause-text
returns-clause-text c = text

pub returns-clause-last : goal.returns-clause-last
returns-clause-last c = last
