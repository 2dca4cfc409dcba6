use Rattle.std.proofs.Common.{◌≡◌, ◌∙◌, length}
use Rattle.std.proofs.lemmas.Result.{err_from_is_err_and}
use Rattle.json_fields.specs.Tree.{view}
use Rattle.wallet_text.proofs.Stored.{change_stored}
use Rattle.wallet_text.proofs.reading.watched_of.Goals as goal

pub returns-in_err-change-clause-short : goal.returns-in_err-change-clause-short
returns-in_err-change-clause-short c m =
    let p = err_from_is_err_and c.from_residual-in_err-change.result c.from_residual-in_err-change.ensures.1 in
    let e : c.len.result ≡ length c.in_ok-scripts.scripts.items = c.len.ensures ∙ c.in_ok-scripts.scripts.ok.0 in
    change_stored (view c.args.value.now) _ _ c.in_ok-scripts.scripts.items c.in_ok-member_of.ensures.exact c.in_ok-scripts.ensures.gives c.in_ok-member_of-2.ensures.exact (rw e at (c.in_err-change.ensures.short (cc (p.1, p.2, m))))
