use Rattle.std.proofs.Common.{◌≡◌, Err, inr, rules}
use Rattle.keep_sqlite.proofs.tables.are_made_by_row.Goals as goal

pub returns-in_err-get-2 : goal.returns-in_err-get-2
returns-in_err-get-2 c =
    let why = c.in_err-get-2.field-0.0 in
    let is : c.from_residual-in_err-get-2.result ≡ Err why = search rules in
    let said = c.in_err-get-2.ensures in
    inr (why, is, inr (said.named, said.kind))
