-- The rules, one by one: which of them is the first that applies, by the tests before it.
use Rattle.std.specs.Prelude.{◌≡◌, ℕ, ◌+◌, Bool, true, false, List, Option, if◌then◌else◌, nat_lt, nat_le}
use Rattle.std.proofs.Common.{sym, ◌∙◌}
use Rattle.pick_problem.specs.Problem.{PlainProblem, value_of, weight_of}
use Rattle.pick_problem.specs.Later.{later_value}
use Rattle.pick_problem.proofs.Deciding.{if_false, if_true}
use Rattle.wide_search.specs.WideWalk.{Rule, IsShort, IsOver, IsHeavy, IsWasteful, IsHit, GoesOn, is_wasteful, rule}

module _ (p : PlainProblem) (best : Option (List ℕ)) (q : List ℕ) (t : ℕ) where
  abbrev short : Bool
  short = nat_lt (value_of p q + later_value p (t + 1)) p.lo

  abbrev over : Bool
  over = nat_lt p.hi (value_of p q)

  abbrev heavy : Bool
  heavy = nat_lt p.most_weight (weight_of p q)

  abbrev wasteful : Bool
  wasteful = is_wasteful p best q (t + 1)

  abbrev hit : Bool
  hit = nat_le p.lo (value_of p q)

  abbrev from_hit : Rule
  from_hit = if hit then IsHit else GoesOn

  abbrev from_wasteful : Rule
  from_wasteful = if wasteful then IsWasteful else from_hit

  abbrev from_heavy : Rule
  from_heavy = if heavy then IsHeavy else from_wasteful

  abbrev from_over : Rule
  from_over = if over then IsOver else from_heavy

  pub case_short : short ≡ true → IsShort ≡ rule p best q t
  case_short a = sym (if_true short IsShort from_over a)

  not_short : short ≡ false → rule p best q t ≡ from_over
  not_short a = if_false short IsShort from_over a

  pub case_over : short ≡ false → over ≡ true → IsOver ≡ rule p best q t
  case_over a b = sym (not_short a ∙ if_true over IsOver from_heavy b)

  not_over : short ≡ false → over ≡ false → rule p best q t ≡ from_heavy
  not_over a b = not_short a ∙ if_false over IsOver from_heavy b

  pub case_heavy : short ≡ false → over ≡ false → heavy ≡ true → IsHeavy ≡ rule p best q t
  case_heavy a b c = sym (not_over a b ∙ if_true heavy IsHeavy from_wasteful c)

  not_heavy : short ≡ false → over ≡ false → heavy ≡ false → rule p best q t ≡ from_wasteful
  not_heavy a b c = not_over a b ∙ if_false heavy IsHeavy from_wasteful c

  pub case_wasteful : short ≡ false → over ≡ false → heavy ≡ false → wasteful ≡ true → IsWasteful ≡ rule p best q t
  case_wasteful a b c d = sym (not_heavy a b c ∙ if_true wasteful IsWasteful from_hit d)

  not_wasteful : short ≡ false → over ≡ false → heavy ≡ false → wasteful ≡ false → rule p best q t ≡ from_hit
  not_wasteful a b c d = not_heavy a b c ∙ if_false wasteful IsWasteful from_hit d

  pub case_hit : short ≡ false → over ≡ false → heavy ≡ false → wasteful ≡ false → hit ≡ true → IsHit ≡ rule p best q t
  case_hit a b c d e = sym (not_wasteful a b c d ∙ if_true hit IsHit GoesOn e)

  pub case_goes : short ≡ false → over ≡ false → heavy ≡ false → wasteful ≡ false → hit ≡ false → GoesOn ≡ rule p best q t
  case_goes a b c d e = sym (not_wasteful a b c d ∙ if_false hit IsHit GoesOn e)
