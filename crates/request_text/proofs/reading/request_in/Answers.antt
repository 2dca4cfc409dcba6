use Rattle.std.proofs.Common.{refl, inr}
use Rattle.json_fields.specs.Tree.{view}
use Rattle.request_text.proofs.Alone.{alone}
use Rattle.request_text.proofs.Seeds.{seed_given}
use Rattle.request_text.proofs.Stored.{recipients_stored}
use Rattle.request_text.proofs.reading.request_in.Goals as goal

pub invariant_of-result : goal.invariant_of-result
invariant_of-result c =
    let rates = c.in_ok-rates.ensures.are in
    record {
      some = c.in_ok-recipients.ensures.some;
      recipients = c.in_ok-recipients.ensures.are;
      money = c.in_ok-recipients.ensures.money;
      rate = rates.rate;
      long_term = rates.long_term;
      discard = rates.discard;
      change_target = rates.change_target;
      seed = c.in_ok-search.ensures.seed;
      tries = c.in_ok-search.ensures.tries;
      coins = c.in_ok-coins.ensures.are;
      distinct = c.in_ok-coins.ensures.distinct;
      bump = c.in_ok-terms.ensures.bump;
      alone = λ there. alone (view c.args.value.now) _ c.in_ok-whole_of.ensures.gives (c.in_ok-terms.ensures.there there) c.in_ok-coins.ensures.gives;
      locktime = c.in_ok-terms.ensures.locktime;
      psbt = c.in_ok-terms.ensures.psbt;
    }

pub returns-clause-seed : goal.returns-clause-seed
returns-clause-seed c h = seed_given (view c.args.value.now) _ c.in_ok-whole_of.ensures.gives c.in_ok-search.ensures.method h

pub returns-in_err-coins-clause-short : goal.returns-in_err-coins-clause-short
returns-in_err-coins-clause-short c m =
    inr (rw c.in_ok-whole_of.ensures.gives refl, rw c.in_ok-member_of.ensures.exact (recipients_stored _ c.in_ok-recipients.recipients.items c.in_ok-recipients.ensures.gives))
