use Rattle.wallet_text.proofs.EntryLaws.{script_taken, script_refused, weight_refused, change_taken, change_script, change_weight}
use Rattle.wallet_text.proofs.laws.judges_scripts.Goals as goal

pub returns-clause-taken : goal.returns-clause-taken
returns-clause-taken c = script_taken

pub returns-clause-script : goal.returns-clause-script
returns-clause-script c = script_refused

pub returns-clause-weight : goal.returns-clause-weight
returns-clause-weight c = λ index before d told.
    let law = weight_refused index before d told in
    (λ e. let r = law.0 e in (r.0, (r.1.0, r.1.1, (r.1.2, r.1.3, r.1.4))), λ r. law.1 (r.0, (r.1.0, r.1.1, r.1.2.0, r.1.2.1, r.1.2.2)))

pub returns-clause-change : goal.returns-clause-change
returns-clause-change c = λ w count d. change_taken count d w

pub returns-clause-change_script : goal.returns-clause-change_script
returns-clause-change_script c = λ told count d. change_script count d told

pub returns-clause-change_weight : goal.returns-clause-change_weight
returns-clause-change_weight c = λ told count d. change_weight count d told
