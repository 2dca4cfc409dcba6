use Rattle.request_text.proofs.settings.rates_of.Goals as goal

pub returns-clause-are : goal.returns-clause-are
returns-clause-are c = record {
  rate = c.in_ok-rate.ensures.most;
  long_term = c.in_ok-long_term.ensures.most;
  discard = c.in_ok-discard.ensures.most;
  change_target = c.in_ok-change_target.ensures.most;
}
