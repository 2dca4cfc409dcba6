use Rattle.request_text.proofs.RecipientLaws.{taken, address, script, range, dust, form, first_form}
use Rattle.request_text.proofs.laws.judges_recipients.Goals as goal

pub returns-clause-taken : goal.returns-clause-taken
returns-clause-taken c = taken

pub returns-clause-address : goal.returns-clause-address
returns-clause-address c = λ fault before d told. address before d told fault

pub returns-clause-script : goal.returns-clause-script
returns-clause-script c = script

pub returns-clause-range : goal.returns-clause-range
returns-clause-range c = range

pub returns-clause-dust : goal.returns-clause-dust
returns-clause-dust c = λ before d told.
    let law = dust before d told in
    (λ e. let r = law.0 e in (r.0, (r.1.0, r.1.1, r.1.2, (r.1.3, r.1.4))), λ r. law.1 (r.0, (r.1.0, r.1.1, r.1.2, r.1.3.0, r.1.3.1)))

pub returns-clause-form : goal.returns-clause-form
returns-clause-form c = form

pub returns-clause-first : goal.returns-clause-first
returns-clause-first c = first_form
