use Rattle.line_laws.proofs.Judgements.{check_told, kept_told}
use Rattle.line_laws.proofs.laws.judgements_have_their_sentence.Goals as goal

pub returns-clause-kept : goal.returns-clause-kept
returns-clause-kept c = kept_told

pub returns-clause-check : goal.returns-clause-check
returns-clause-check c = check_told
