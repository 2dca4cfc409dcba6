-- By which command a payment is made that flags ask for.
use Rattle.std.specs.Prelude.{ℕ, Bool, true, false, List, Option, Some, None, Result, Ok, Err, if◌then◌else◌}
use Rattle.std.specs.Option.{option_or}
use Rattle.request_text.specs.declared.request.Method.{Method}
use Rattle.request_text.specs.declared.request.Method.TheVariants as methods
use Rattle.pay_words.specs.Given.{place_of}
use Rattle.pay_words.specs.declared.fault.WordFault.{WordFault}
use Rattle.pay_words.specs.declared.fault.WordFault.TheVariants as faults
use Rattle.pay_words.specs.declared.flag.Flag.TheVariants as flags
use Rattle.pay_words.specs.declared.given.Given.{Given}
use Rattle.pay_words.specs.declared.way.Way.{Way}
use Rattle.pay_words.specs.declared.way.Way.TheVariants as ways

-- a method is the search for a payment without change
abbrev pub is_changeless : Method → Bool
is_changeless methods.Changeless = true
is_changeless _ = false

-- a method is the search for the lightest payment
abbrev pub is_weight : Method → Bool
is_weight methods.Weight = true
is_weight _ = false

-- where no coin is listed
abbrev pub unless_listed : Way → Option ℕ → Result Way WordFault
unless_listed way None = Ok way
unless_listed way (Some place) = Err (faults.ListedCoin place)

-- By the places of `--consolidate`, of `--fee-from-amount` and of the first coin that is listed. The first takes the method
-- `changeless`, the second `weight`, both without a listed coin, and never beside one another.
abbrev pub way_by : (consolidates bears coin : Option ℕ) → Method → Result Way WordFault
way_by None None coin method = Ok ways.Fund
way_by (Some place) None coin method = if is_changeless method then unless_listed ways.Wide coin else Err (faults.NotChangeless place)
way_by None (Some place) coin method = if is_weight method then unless_listed ways.Share coin else Err (faults.NotWeight place)
way_by (Some place) (Some other) coin method = Err (faults.BothWays other)

-- A payment that is replaced is one by `fund`, and beside it stands none of these.
abbrev pub alone_by : Option ℕ → Result Way WordFault
alone_by None = Ok ways.Fund
alone_by (Some place) = Err (faults.BesideBump place)

-- by the place of `--bump`, too
abbrev pub way_beside : (bump consolidates bears coin : Option ℕ) → Method → Result Way WordFault
way_beside None consolidates bears coin method = way_by consolidates bears coin method
way_beside (Some place) consolidates bears coin method = alone_by (option_or coin (option_or consolidates bears))

-- by the flags that were given, with this method
abbrev pub way_of : List Given → Method → Result Way WordFault
way_of given method = way_beside (place_of given flags.Bump) (place_of given flags.Consolidate) (place_of given flags.FeeFromAmount) (place_of given flags.Coin) method
