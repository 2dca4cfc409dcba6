-- What steps come to, of all that there is to find. This knows no walk, no tries and no log.
use Rattle.std.specs.Prelude.{ℕ, ◌≡◌, Bool, true, false, List, [], ◌∷◌, ◌++◌, Option, Some, None}
use Rattle.std.specs.List.{AllByRecursion}
use Rattle.pick_problem.specs.Best.{IsBest}
use Rattle.random_draw.specs.Draw.{draw_of}
use Rattle.search_run.specs.Found.{PlainFound, IsTaken, found_of}
use Rattle.search_run.specs.Step.{PlainStep, is_drawn}

-- what a step comes to: a draw to what is drawn by the seed, a search to the best of its problem
abbrev pub IsResultBy : Bool → List ℕ → PlainStep → Option (List ℕ) → Type 0
IsResultBy true seed x r = r ≡ draw_of x.problem seed
IsResultBy false seed x r = IsBest x.problem r

abbrev pub IsResult : List ℕ → PlainStep → Option (List ℕ) → Type 0
IsResult seed x r = IsResultBy (is_drawn x.stage) seed x r

-- it comes to none
abbrev pub HasNone : List ℕ → PlainStep → Type 0
HasNone seed x = IsResult seed x None

-- the results of steps, in their order
abbrev pub AreResults : List ℕ → List PlainStep → List PlainFound → Type 0
AreResults seed [] fs = fs ≡ []
AreResults seed (x ∷ xs) fs = (r : Option (List ℕ)) × IsResult seed x r × ((gs : List PlainFound) × (fs ≡ found_of x r ++ gs) × AreResults seed xs gs)

-- whole columns: none, or up to and with a last step
abbrev pub AreWhole : List PlainStep → Type 0
AreWhole [] = Unit {0}
AreWhole (x ∷ []) = x.last ≡ true
AreWhole (x ∷ y ∷ rest) = AreWhole (y ∷ rest)

-- one column: its last step is the only last one
abbrev pub IsColumn : List PlainStep → Type 0
IsColumn [] = ⊥
IsColumn (x ∷ []) = x.last ≡ true
IsColumn (x ∷ y ∷ rest) = (x.last ≡ false) × IsColumn (y ∷ rest)

-- One is taken of the results of a column, and no step of a column before it has a result.
pub record IsFirstTaken (seed : List ℕ) (steps : List PlainStep) (f : PlainFound) : Type 0 where
  pub front : List PlainStep
  pub column : List PlainStep
  pub rest : List PlainStep
  pub parts : steps ≡ front ++ (column ++ rest)
  pub whole : AreWhole front
  pub none : AllByRecursion (HasNone seed) front
  pub one : IsColumn column
  pub found : List PlainFound
  pub results : AreResults seed column found
  pub taken : IsTaken found f

-- the answer: the result that is taken of the first column that has one, or none where no step has one
abbrev pub IsAnswer : List ℕ → List PlainStep → Option PlainFound → Type 0
IsAnswer seed steps None = AllByRecursion (HasNone seed) steps
IsAnswer seed steps (Some f) = IsFirstTaken seed steps f
