use Rattle.wallet_text.proofs.ListLaws.{only, other}
use Rattle.wallet_text.proofs.Rules.{lists_are}
use Rattle.wallet_text.proofs.WalletLaws.{repeated, later}
use Rattle.wallet_text.proofs.laws.judges_lists.Goals as goal

pub returns-clause-kept : goal.returns-clause-kept
returns-clause-kept c = λ earlier pending e.
    let kept = lists_are earlier pending e in
    record { earlier_distinct = kept.0; pending_distinct = kept.1; parents = kept.2 }

pub returns-clause-repeated : goal.returns-clause-repeated
returns-clause-repeated c = λ list earlier pending told. repeated earlier pending list told

pub returns-clause-later : goal.returns-clause-later
returns-clause-later c = λ earlier pending told e.
    let r = later earlier pending told e in
    (r.0, r.1, (r.2, r.3, r.4))

pub returns-clause-only : goal.returns-clause-only
returns-clause-only c = λ earlier pending kept. only earlier pending kept.earlier_distinct kept.pending_distinct kept.parents

pub returns-clause-other : goal.returns-clause-other
returns-clause-other c = other
