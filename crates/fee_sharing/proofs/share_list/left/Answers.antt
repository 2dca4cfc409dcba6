use Rattle.fee_sharing.proofs.ShareLaws.{none_left, some_are_left}
use Rattle.fee_sharing.proofs.share_list.left.Goals as goal

pub returns-in_default : goal.returns-in_default
returns-in_default c = none_left c.args.borne c.args.amounts.now c.in_ok-left.left.items c.in_default.ensures.cases c.in_ok-left.ensures.items

pub returns : goal.returns
returns c =
    some_are_left c.args.borne c.in-Some.first.now c.args.amounts.now c.in-Some.others.now c.in_ok-left.left.items c.push.new.self.items c.add_others.new.left.items c.saturating_sub.result c.share.result
    c.in-Some.ensures.cases.0 c.in_ok-left.ensures.items c.in_ok-push.ensures.items c.saturating_sub.ensures c.share.ensures.value c.in_ok-add_others.ensures
