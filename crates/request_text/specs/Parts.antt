-- The members of a request in the parts in which they are read, and the whole as these parts in order.
use Rattle.std.specs.Prelude.{◌≤◌, true, false, [], codes, replicate, None, Result, Ok}
use Rattle.fund_base.specs.Parsing.{◌>>=◌}
use Rattle.serde_json.specs.Data.{Data}
use Rattle.json_fields.specs.Fields.{object_at, member_at, number_at, flag_at}
use Rattle.request_text.specs.PlainRequest.{PlainRequest}
use Rattle.request_text.specs.RequestText.{field, or_else, recipients_at, rate_at, method_at, seed_at, tries_at, take_at, coins_at, bump_at, version_at, known_in, required_in}
use Rattle.request_text.specs.declared.fault.Refusal.{Refusal}
use Rattle.request_text.specs.declared.request.Method.TheVariants.{Auto}
use Rattle.request_text.specs.declared.settings.Rates.{Rates}
use Rattle.request_text.specs.declared.settings.Search.{Search}
use Rattle.request_text.specs.declared.settings.Policy.{Policy}
use Rattle.request_text.specs.declared.settings.Terms.{Terms}

-- the rates, and the change that is aimed at
unfoldable pub rates_at : Data → Result Rates Refusal
rates_at d = do
  rate ← field (member_at (codes "rate") d) >>= rate_at (codes "rate")
  long_term ← or_else 10_000 (rate_at (codes "long_term")) (codes "long_term") d
  discard ← or_else 10_000 (rate_at (codes "discard")) (codes "discard") d
  change_target ← or_else 50_000 (λ m. field (number_at (codes "change_target") 2_100_000_000_000_000 m)) (codes "change_target") d
  Ok (record { rate = rate; long_term = long_term; discard = discard; change_target = change_target })

-- the ranges of these
pub record AreRates (r : Rates) : Type 0 where
  pub rate : r.rate ≤ 100_000_000
  pub long_term : r.long_term ≤ 100_000_000
  pub discard : r.discard ≤ 100_000_000
  pub change_target : r.change_target ≤ 2_100_000_000_000_000

-- how coins are searched for
unfoldable pub search_at : Data → Result Search Refusal
search_at d = do
  method ← or_else Auto (λ m. field (method_at m)) (codes "method") d
  seed ← or_else (replicate 32 0) (λ m. field (seed_at m)) (codes "seed") d
  tries ← or_else 100_000 tries_at (codes "tries") d
  take ← or_else true (λ m. field (take_at m)) (codes "when_unfinished") d
  Ok (record { method = method; seed = seed; tries = tries; take = take })

-- which coins may be spent, and whether those of one script are spent together
unfoldable pub policy_at : Data → Result Policy Refusal
policy_at d = do
  zero_conf ← or_else true (λ m. field (flag_at (codes "zero_conf") m)) (codes "zero_conf") d
  include_unsafe ← or_else false (λ m. field (flag_at (codes "include_unsafe") m)) (codes "include_unsafe") d
  group ← or_else false (λ m. field (flag_at (codes "group") m)) (codes "group") d
  Ok (record { zero_conf = zero_conf; include_unsafe = include_unsafe; group = group })

-- what the payment replaces, whether it may be replaced, its lock time, and the version of its PSBT
unfoldable pub terms_at : Data → Result Terms Refusal
terms_at d = do
  bump ← or_else None (λ m. field (bump_at m)) (codes "bump") d
  replaceable ← or_else true (λ m. field (flag_at (codes "replaceable") m)) (codes "replaceable") d
  locktime ← or_else 0 (λ m. field (number_at (codes "locktime") 4_294_967_295 m)) (codes "locktime") d
  psbt ← or_else 0 (λ m. field (version_at m)) (codes "psbt") d
  Ok (record { bump = bump; replaceable = replaceable; locktime = locktime; psbt = psbt })

-- The request that a value is, or the first fault.
unfoldable pub parts_at : Data → Result PlainRequest Refusal
parts_at d = do
  whole ← field (object_at (codes "root") (known_in d) (required_in d) d)
  recipients ← field (member_at (codes "recipients") d) >>= recipients_at
  rates ← rates_at d
  search ← search_at d
  policy ← policy_at d
  coins ← or_else [] coins_at (codes "coins") d
  terms ← terms_at d
  Ok (record {
    recipients = recipients;
    rate = rates.rate;
    long_term = rates.long_term;
    discard = rates.discard;
    change_target = rates.change_target;
    method = search.method;
    seed = search.seed;
    tries = search.tries;
    take = search.take;
    zero_conf = policy.zero_conf;
    include_unsafe = policy.include_unsafe;
    group = policy.group;
    coins = coins;
    bump = terms.bump;
    replaceable = terms.replaceable;
    locktime = terms.locktime;
    psbt = terms.psbt;
  })
