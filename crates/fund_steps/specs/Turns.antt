-- The stages of a method, in columns.
use Rattle.std.specs.Prelude.{Bool, true, false, List, [], ◌∷◌}
use Rattle.closing_log.specs.declared.log.Stage.{Stage}
use Rattle.closing_log.specs.declared.log.Stage.TheVariants as stage
use Rattle.request_text.specs.declared.request.Method.{Method}
use Rattle.request_text.specs.declared.request.Method.TheVariants.{Auto, Changeless, Weight, Draw, Manual}
use Rattle.fund_steps.specs.declared.turns.Turn.{Turn}

-- a stage that is the last one of its column, and one that isn't
abbrev pub last : Stage → Turn
last s = record { stage = s; last = true }

abbrev pub before_last : Stage → Turn
before_last s = record { stage = s; last = false }

-- The stages of each row. With `auto` the search of least weight for the change that is aimed at is made only where fees
-- are high. With `manual` there is none.
abbrev pub turns_of : Method → (high : Bool) → List Turn
turns_of Auto true = before_last stage.Changeless ∷ before_last stage.LeanBig ∷ last stage.Draw ∷ last stage.LeanSmall ∷ []
turns_of Auto false = before_last stage.Changeless ∷ last stage.Draw ∷ last stage.LeanSmall ∷ []
turns_of Changeless high = last stage.Changeless ∷ []
turns_of Weight high = last stage.LeanBig ∷ last stage.LeanSmall ∷ []
turns_of Draw high = last stage.Draw ∷ last stage.LeanSmall ∷ []
turns_of Manual high = []

-- the stages that steps have: the presets alone and the wide search have none
abbrev pub HasSteps : Stage → Type 0
HasSteps stage.Presets = ⊥
HasSteps stage.Changeless = Unit {0}
HasSteps stage.LeanBig = Unit {0}
HasSteps stage.Draw = Unit {0}
HasSteps stage.LeanSmall = Unit {0}
HasSteps stage.Wide = ⊥
