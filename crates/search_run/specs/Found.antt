-- Results of steps, and which of them is taken.
use Rattle.std.specs.Prelude.{ℕ, ℤ, pos, ◌≡◌, ◌<◌, ◌<ℤ◌, ◌+ℤ◌, ◌⊎◌, ◌||◌, ◌&&◌, Bool, List, [], ◌∷◌, ◌++◌, Option, Some, None, fold, sum_by, slice_index_or, int_lt, nat_lt, if◌then◌else◌}
use Rattle.std.specs.List.{AllByRecursion}
use Rattle.std.specs.Ordering.{int_eq}
use Rattle.closing_log.specs.declared.log.Stage.{Stage}
use Rattle.pick_problem.specs.Admissible.{IsAdmissible}
use Rattle.pick_problem.specs.Problem.{cost_of}
use Rattle.pick_problem.specs.Waste.{changeless_waste}
use Rattle.pick_problem.specs.declared.item.Kind.{Kind}
use Rattle.pick_problem.specs.declared.item.Kind.TheVariants.{Changeless, Lean}
use Rattle.search_run.specs.Step.{PlainStep}

-- A result: where it was found, its places, its waste in satoshi, and how many coins it has. The waste is without that of
-- coins that each payment has, which is the same for all results that are compared.
pub record PlainFound : Type 0 where
  pub row : ℕ
  pub stage : Stage
  pub places : List ℕ
  pub waste : ℤ
  pub coins : ℕ

-- the cost of the coins, and the excess, or what making and spending the change costs
abbrev pub waste_by : Kind → PlainStep → List ℕ → ℤ
waste_by Changeless x q = changeless_waste x.problem q
waste_by Lean x q = cost_of x.problem q +ℤ pos x.ending

abbrev pub coins_at : PlainStep → List ℕ → ℕ
coins_at x q = sum_by (λ j. slice_index_or x.sizes j 0) q

-- these places as a result of a step
abbrev pub found_at : PlainStep → List ℕ → PlainFound
found_at x q = record { row = x.row; stage = x.stage; places = q; waste = waste_by x.problem.kind x q; coins = coins_at x q }

-- what a step that comes to this adds to the results: one, or none
abbrev pub found_of : PlainStep → Option (List ℕ) → List PlainFound
found_of x None = []
found_of x (Some q) = found_at x q ∷ []

-- f has less waste than g, or as much and more coins
abbrev pub Beats : PlainFound → PlainFound → Type 0
Beats f g = (f.waste <ℤ g.waste) ⊎ ((f.waste ≡ g.waste) × (g.coins < f.coins))

-- Of results in their order one is taken: that of least waste, of these that of most coins, of these the first.
pub record IsTaken (fs : List PlainFound) (f : PlainFound) : Type 0 where
  pub front : List PlainFound
  pub rest : List PlainFound
  pub parts : fs ≡ front ++ f ∷ rest
  pub before : AllByRecursion (λ g. Beats f g) front
  pub behind : AllByRecursion (λ g. Beats g f → ⊥) rest

-- the same, reckoned from the first on
abbrev pub beats : PlainFound → PlainFound → Bool
beats f g = int_lt f.waste g.waste || (int_eq f.waste g.waste && nat_lt g.coins f.coins)

abbrev pub better : Option PlainFound → PlainFound → Option PlainFound
better None f = Some f
better (Some g) f = if beats f g then Some f else Some g

abbrev pub taken : List PlainFound → Option PlainFound
taken fs = fold better None fs

-- a result of one of these steps, whose places are admissible for its problem
pub record IsResultOf (steps : List PlainStep) (f : PlainFound) : Type 0 where
  pub front : List PlainStep
  pub step : PlainStep
  pub rest : List PlainStep
  pub parts : steps ≡ front ++ step ∷ rest
  pub is : f ≡ found_at step f.places
  pub admissible : IsAdmissible step.problem f.places
