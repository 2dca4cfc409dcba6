-- What is put into a set one after another.
use Rattle.std.proofs.Common.{◌≡◌, ◌||◌, Bool, true, false, cond, refl}

pub none_more : (b : Bool) → b ≡ (b || false)
none_more true = refl
none_more false = refl

-- one more is in it where it is that one, or was in it, or is one of those before
pub join : (b a d : Bool) → cond b true (a || d) ≡ (a || (d || b))
join true true d = refl
join true false true = refl
join true false false = refl
join false true d = refl
join false false true = refl
join false false false = refl
