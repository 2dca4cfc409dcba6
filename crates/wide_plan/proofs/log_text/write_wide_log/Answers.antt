use Rattle.wide_plan.proofs.log_text.write_wide_log.Goals as goal

pub returns : goal.returns
returns c = c.in_ok-write_text.ensures.feeds _ c.in_ok-text.ensures.items
