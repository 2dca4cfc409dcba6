-- What steps come to by their sections, one after another.
use Rattle.std.specs.Prelude.{ℕ, ◌≡◌, ◌⊎◌, Bool, true, false, List, [], ◌∷◌, ◌++◌, Option}
use Rattle.std.specs.List.{AllZip}
use Rattle.closing_log.specs.Log.{PlainSection}
use Rattle.pick_problem.specs.Admissible.{IsFit}
use Rattle.random_draw.specs.Draw.{draw_of}
use Rattle.search_run.specs.Found.{PlainFound, found_of, taken}
use Rattle.search_run.specs.Run.{ends}
use Rattle.search_run.specs.Searched.{searches}
use Rattle.search_run.specs.Step.{PlainStep, is_drawn}

-- a draw comes to what is drawn, and takes no section; a search comes to the answer of the first section
abbrev pub ComesBy : Bool → List ℕ → PlainStep → List PlainSection → Option (List ℕ) → List PlainSection → Type 0
ComesBy true seed x sections r rest = (r ≡ draw_of x.problem seed) × (rest ≡ sections)
ComesBy false seed x sections r rest = (s : PlainSection) × (sections ≡ s ∷ rest) × (r ≡ s.answer)

abbrev pub Comes : List ℕ → PlainStep → List PlainSection → Option (List ℕ) → List PlainSection → Type 0
Comes seed x sections r rest = ComesBy (is_drawn x.stage) seed x sections r rest

-- it adds these results, at most one, and leaves these sections
abbrev pub Adds : List ℕ → PlainStep → List PlainSection → List PlainFound → List PlainSection → Type 0
Adds seed x sections more rest = (r : Option (List ℕ)) × Comes seed x sections r rest × (more ≡ found_of x r)

-- one result is taken behind the last step of the first column that has one, of those of that column
abbrev pub HasAnswer : List ℕ → List PlainStep → List PlainSection → List PlainFound → Option PlainFound → Type 0
HasAnswer seed [] sections found o = o ≡ taken found
HasAnswer seed (x ∷ xs) sections found o =
    (r : Option (List ℕ)) × (rest : List PlainSection) × Comes seed x sections r rest
    × (((ends x (found ++ found_of x r) ≡ true) × (o ≡ taken (found ++ found_of x r))) ⊎ ((ends x (found ++ found_of x r) ≡ false) × HasAnswer seed xs rest (found ++ found_of x r) o))

-- there is a section for each search, and each answer is none or admissible
abbrev pub AreFit : List PlainStep → List PlainSection → Type 0
AreFit steps sections = AllZip (λ (x : PlainStep) (s : PlainSection). IsFit x.problem s.answer) (searches steps) sections
