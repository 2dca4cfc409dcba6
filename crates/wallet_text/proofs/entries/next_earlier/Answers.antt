use Rattle.json_fields.specs.Tree.{view}
use Rattle.wallet_text.proofs.Stored.{earlier_entry_stored}
use Rattle.wallet_text.proofs.entries.next_earlier.Goals as goal

pub returns-in_err-tx-clause-short : goal.returns-in_err-tx-clause-short
returns-in_err-tx-clause-short c m = earlier_entry_stored _ (view c.args.value.now) _ c.in_ok-bytes.ensures.gives

pub returns-in_err-earlier-clause-short : goal.returns-in_err-earlier-clause-short
returns-in_err-earlier-clause-short c m = earlier_entry_stored _ (view c.args.value.now) _ c.in_ok-bytes.ensures.gives
