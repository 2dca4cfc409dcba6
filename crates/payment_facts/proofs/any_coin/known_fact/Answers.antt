use Rattle.payment_facts.proofs.any_coin.known_fact.Goals as goal

pub fact_at-requires-clause-facts : goal.fact_at-requires-clause-facts
fact_at-requires-clause-facts c = record {
  pending = c.in_ok-facts.ensures.pending;
  safe = c.in_ok-facts.ensures.safe;
  ancestors = c.in_ok-facts.ensures.ancestors;
  descendants = c.in_ok-facts.ensures.descendants;
}
