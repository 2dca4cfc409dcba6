use Rattle.line_laws.proofs.Refusals.{completion_told, file_told, keyed_told, keys_told, payment_told, settling_told}
use Rattle.line_laws.proofs.laws.refusals_have_their_sentence.Goals as goal

pub returns-clause-file : goal.returns-clause-file
returns-clause-file c = file_told

pub returns-clause-payment : goal.returns-clause-payment
returns-clause-payment c = payment_told

pub returns-clause-completion : goal.returns-clause-completion
returns-clause-completion c = completion_told

pub returns-clause-keys : goal.returns-clause-keys
returns-clause-keys c = keys_told

pub returns-clause-keyed : goal.returns-clause-keyed
returns-clause-keyed c = keyed_told

pub returns-clause-settling : goal.returns-clause-settling
returns-clause-settling c = settling_told
