use Rattle.std.proofs.Common.{refl, inr}
use Rattle.wallet_text.proofs.PartLaws.{watched_are, listed_are}
use Rattle.wallet_text.proofs.Stored.{watched_stored}
use Rattle.wallet_text.proofs.reading.wallet_of.Goals as goal

pub invariant_of-result : goal.invariant_of-result
invariant_of-result c =
    let watched = watched_are _ _ c.in_ok-scripts.ensures.gives in
    let lists = listed_are _ _ _ c.in_ok-earlier.ensures.gives in
    record {
      height = c.in_ok-height.ensures.height;
      hash = c.in_ok-height.ensures.hash;
      scripts = watched.0.0;
      scripts_distinct = watched.0.1;
      change = watched.1;
      earlier = lists.earlier;
      earlier_distinct = lists.earlier_distinct;
      pending = lists.pending;
      pending_distinct = lists.pending_distinct;
      parents = lists.parents;
      abandoned = lists.abandoned;
      locked = lists.locked;
    }

pub returns-in_err-earlier-clause-short : goal.returns-in_err-earlier-clause-short
returns-in_err-earlier-clause-short c m = inr (rw c.in_ok-whole_of.ensures.gives refl, rw c.in_ok-height.ensures.exact refl, watched_stored _ _ c.in_ok-scripts.ensures.gives)
