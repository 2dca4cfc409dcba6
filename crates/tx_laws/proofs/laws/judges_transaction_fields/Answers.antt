use Rattle.tx_laws.proofs.Forms.{legacy_tx_whole, tx_judged, tx_whole}
use Rattle.tx_laws.proofs.laws.judges_transaction_fields.Goals as goal

pub returns-clause-front : goal.returns-clause-front
returns-clause-front c = λ at fault fits.
    let j = tx_judged at fits in
    (j.tells fault, j.gives fault)

pub returns-clause-whole : goal.returns-clause-whole
returns-clause-whole c = λ bytes fault fits.
    let j = tx_whole (record { rest = bytes; place = 0 }) fits in
    (j.tells fault, j.gives fault)

pub returns-clause-legacy : goal.returns-clause-legacy
returns-clause-legacy c = λ bytes fault fits.
    let j = legacy_tx_whole (record { rest = bytes; place = 0 }) fits in
    (j.tells fault, j.gives fault)
