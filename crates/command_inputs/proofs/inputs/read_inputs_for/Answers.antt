use Rattle.command_inputs.proofs.inputs.read_inputs_for.Goals as goal

pub returns-in_ok-inputs-in-Some-clause-digest : goal.returns-in_ok-inputs-in-Some-clause-digest
returns-in_ok-inputs-in-Some-clause-digest g c = rw c.in-Some.is c.in_ok-inputs-in-Some.ensures.digest

-- ---- failed reads

pub returns-in_ok-inputs-in-Some-clause-all_read : goal.returns-in_ok-inputs-in-Some-clause-all_read
returns-in_ok-inputs-in-Some-clause-all_read g c = λ none. c.in_ok-inputs-in-Some.ensures.all_read (λ file e. cc)

pub returns-in_ok-inputs-in-None-clause-all_read : goal.returns-in_ok-inputs-in-None-clause-all_read
returns-in_ok-inputs-in-None-clause-all_read g c = λ none. c.in_ok-inputs-in-None.ensures.all_read (λ file e. cc)
