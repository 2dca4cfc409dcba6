use Rattle.fee_sharing.proofs.ShareLaws.{are_left}
use Rattle.fee_sharing.proofs.share_list.shares.Goals as goal

pub returns-clause-left : goal.returns-clause-left
returns-clause-left c = are_left c.args.borne c.args.amounts.now c.args.dusts.now _ c.requires.some c.in_default.ensures c.in_ok-amounts.ensures
