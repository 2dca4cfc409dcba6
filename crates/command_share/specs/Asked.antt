-- Which requests are taken whose recipients are to bear the fee.
use Rattle.std.specs.Prelude.{◌≡◌, ◌&&◌, ◌==◌, Bool, true, false, [], length, is_none, None}
use Rattle.request_text.specs.PlainRequest.{PlainRequest}
use Rattle.request_text.specs.declared.request.Method.{Method}
use Rattle.request_text.specs.declared.request.Method.TheVariants.{Weight}

-- A request for the lightest payment, which lists no coin and replaces no payment.
pub record IsForShare (r : PlainRequest) : Type 0 where
  pub method : r.method ≡ Weight
  pub coins : r.coins ≡ []
  pub bump : r.bump ≡ None

-- the same as a test
abbrev pub is_lightest : Method → Bool
is_lightest Weight = true
is_lightest _ = false

abbrev pub is_for_share : PlainRequest → Bool
is_for_share r = is_lightest r.method && (length r.coins == 0) && is_none r.bump
