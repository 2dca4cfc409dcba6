-- A request as it lies in memory.
use Rattle.request_text.specs.PlainRequest.{PlainRequest}
use Rattle.request_text.specs.declared.request.Request.TheInside.{Inside}

-- the request that it is seen as
abbrev pub plain_request : Inside → PlainRequest
plain_request r = record {
  recipients = r.recipients.items;
  rate = r.rate;
  long_term = r.long_term;
  discard = r.discard;
  change_target = r.change_target;
  method = r.method;
  seed = r.seed;
  tries = r.tries;
  take = r.take;
  zero_conf = r.zero_conf;
  include_unsafe = r.include_unsafe;
  group = r.group;
  coins = r.coins.items;
  bump = r.bump;
  replaceable = r.replaceable;
  locktime = r.locktime;
  psbt = r.psbt;
}
