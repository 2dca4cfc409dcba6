-- Which requests the wide search takes.
use Rattle.std.specs.Prelude.{◌≡◌, ◌&&◌, ◌==◌, Bool, true, false, [], length, is_none, None}
use Rattle.request_text.specs.PlainRequest.{PlainRequest}
use Rattle.request_text.specs.declared.request.Method.{Method}
use Rattle.request_text.specs.declared.request.Method.TheVariants.{Changeless}

-- A request whose coins are all to be chosen, for a payment without change that replaces none.
pub record IsForWide (r : PlainRequest) : Type 0 where
  pub method : r.method ≡ Changeless
  pub coins : r.coins ≡ []
  pub bump : r.bump ≡ None

-- the same as a test
abbrev pub is_changeless : Method → Bool
is_changeless Changeless = true
is_changeless _ = false

abbrev pub is_for_wide : PlainRequest → Bool
is_for_wide r = is_changeless r.method && (length r.coins == 0) && is_none r.bump
