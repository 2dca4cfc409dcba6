-- Small runs, worked out by the definitions themselves.
use Rattle.std.specs.Prelude.{ℕ, Bool, true, false, List, [], ◌∷◌, map, Option, Some, pos, codes}
use Rattle.closing_log.specs.Log.{PlainLog, PlainSection}
use Rattle.closing_log.specs.declared.log.Stage.{Stage}
use Rattle.closing_log.specs.declared.log.Stage.TheVariants as stage
use Rattle.pick_problem.specs.declared.item.Item.{Item}
use Rattle.pick_problem.specs.declared.item.Kind.TheVariants.{Changeless, Lean}
use Rattle.pick_problem.specs.Examples.{light_pair}
use Rattle.search_run.specs.Found.{PlainFound}
use Rattle.search_run.specs.Kept.{PlainSaved}
use Rattle.search_run.specs.Run.{Stand, end_of}
use Rattle.search_run.specs.Step.{PlainStep}
use Rattle.search_run.specs.declared.ending.End.{End}

-- what is told of a finished search, without its digest
pub record ToldSection : Type 0 where
  pub row : ℕ
  pub stage : Stage
  pub letters : List ℕ
  pub answer : Option (List ℕ)

-- what a run comes to, where results are taken for want of tries, with its tries and its finished searches
pub record ToldRun : Type 0 where
  pub end : End
  pub tries : ℕ
  pub closed : List ToldSection

abbrev pub told_section : PlainSection → ToldSection
told_section s = record { row = s.row; stage = s.stage; letters = s.letters; answer = s.answer }

abbrev pub told : (take : Bool) → List ℕ → Stand → ToldRun
told take seed s = record { end = end_of take seed s; tries = s.past.tries; closed = map told_section s.past.closed }

abbrev pub section : ℕ → Stage → List ℕ → Option (List ℕ) → ToldSection
section row s letters answer = record { row = row; stage = s; letters = letters; answer = answer }

-- an item of this value, of weight 272, which costs as much now as later
abbrev pub coin : ℕ → Item
coin v = record { value = v; weight = 272; cost = pos 0 }

-- a search of the first row without change, for a payment of 100,420 from coins of 50,420 and 50,000
abbrev pub exact_pair : PlainStep
exact_pair =
    record {
      row = 1;
      stage = stage.Changeless;
      problem = record { items = coin 50_420 ∷ coin 50_000 ∷ []; lo = 100_420; hi = 101_410; most_weight = 399_834; kind = Changeless };
      ending = 0;
      sizes = 1 ∷ 1 ∷ [];
      last = true;
    }

-- the steps of a row, for a payment of 70,420 from these items: without change and the draw to 120,730 in one column, and
-- with change in the next
abbrev pub row_steps : List Item → List ℕ → ℕ → List PlainStep
row_steps items sizes row =
    record { row = row; stage = stage.Changeless; problem = record { items = items; lo = 70_420; hi = 71_410; most_weight = 399_834; kind = Changeless }; ending = 0; sizes = sizes; last = false } ∷
    record { row = row; stage = stage.Draw; problem = record { items = items; lo = 120_730; hi = 120_730; most_weight = 399_710; kind = Lean }; ending = 990; sizes = sizes; last = true } ∷
    record { row = row; stage = stage.LeanSmall; problem = record { items = items; lo = 71_411; hi = 71_411; most_weight = 399_710; kind = Lean }; ending = 990; sizes = sizes; last = true } ∷ []

abbrev pub one_coin : List PlainStep
one_coin = row_steps (coin 99_320 ∷ []) (1 ∷ []) 1

-- a row's steps without any coin
abbrev pub no_coin : ℕ → List PlainStep
no_coin row = row_steps [] [] row

-- a result with change in the first row, of one coin
abbrev pub with_change : PlainFound
with_change = record { row = 1; stage = stage.LeanSmall; places = 0 ∷ []; waste = pos 990; coins = 1 }

abbrev pub without_change : PlainFound
without_change = record { row = 1; stage = stage.Changeless; places = 0 ∷ 1 ∷ []; waste = pos 0; coins = 2 }

-- a search by weight over three items
abbrev pub light : PlainStep
light = record { row = 1; stage = stage.LeanBig; problem = light_pair; ending = 0; sizes = 1 ∷ 1 ∷ 1 ∷ []; last = true }

-- what is kept of it after three tries; with a next place of 2 it is forged
abbrev pub kept_at : ℕ → PlainSaved
kept_at next = record { tries = 3; row = 1; stage = stage.LeanBig; chosen = []; next = next; best = Some (0 ∷ 2 ∷ []) }

abbrev pub light_log : List ℕ → PlainLog
light_log digest = record { closed = []; tail = Some (record { row = 1; stage = stage.LeanBig; digest = digest; letters = codes "IIAIAS" }); ended = false }

abbrev pub light_result : List ℕ → ℕ → PlainFound
light_result places n = record { row = 1; stage = stage.LeanBig; places = places; waste = pos 0; coins = n }
