use Rattle.std.proofs.Common.{refl}
use Rattle.wide_search.proofs.worked.wide_worked_walks.Goals as goal

pub returns : goal.returns
returns c =
    record {
      both = refl;
      one_try = refl;
      coins = refl;
      first = refl;
      little = refl;
      over = refl;
      heavy = refl;
      twins = refl;
      late = refl;
    }
