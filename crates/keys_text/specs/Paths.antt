-- The path of a key from its master key, as text spells it: BIP 32, 'The key tree', and BIP 380, 'Key Expressions'.
use Rattle.std.specs.Prelude.{ℕ, ◌≡◌, ◌<◌, ◌≤◌, ◌+◌, ◌-◌, ◌==◌, ◌⊎◌, nat_le, ◌||◌, Bool, false, List, [], ◌∷◌, ◌++◌, length, take, slice_get, Option, Some, None, option_and_then, if◌then◌else◌}
use Rattle.std.specs.Fmt.{decimal}
use Rattle.std.specs.List.{flat_map, AllZip}
use Rattle.std.specs.Option.{option_map, option_map_or}
use Rattle.fund_base.specs.Decimal.{number_of}

-- ---- what a path is

-- the mark of a hardened step: h or '
abbrev pub IsMark : ℕ → Type 0
IsMark letter = (letter ≡ 104) ⊎ (letter ≡ 39)

-- a step by its number below 2^31, or a hardened one, whose index is its number and 2^31
abbrev pub IsStepText : List ℕ → ℕ → Type 0
IsStepText text index =
    ((index < 2_147_483_648) × (text ≡ decimal index))
    ⊎ ((number : ℕ) × (mark : ℕ) × (number < 2_147_483_648) × IsMark mark × (text ≡ decimal number ++ mark ∷ []) × (index ≡ number + 2_147_483_648))

-- m for the master key, and each step behind a slash: at most 255 of them
pub record IsPathText (text path : List ℕ) : Type 0 where
  pub steps : List (List ℕ)
  pub spelling : text ≡ 109 ∷ flat_map (λ step. 47 ∷ step) steps
  pub each : AllZip IsStepText steps path
  pub few : length path ≤ 255

-- ---- how it is read

-- the last letter is the mark of a hardened step
abbrev pub is_marked : List ℕ → Bool
is_marked text = option_map_or (λ b. (b == 104) || (b == 39)) (slice_get text (length text - 1)) false

-- the number that a step's digits spell
abbrev pub step_number : List ℕ → Option ℕ
step_number digits = number_of 2_147_483_647 digits

-- the index of a step
unfoldable pub step_in : List ℕ → Option ℕ
step_in text =
    if is_marked text then option_map (λ number. number + 2_147_483_648) (step_number (take (length text - 1) text))
    else step_number text

-- The steps of a text that is cut at its slashes: these stand before, and then the letters of a step as far as it was read.
unfoldable pub steps_from : List ℕ → List ℕ → List ℕ → Option (List ℕ)
steps_from before step [] = option_map (λ index. before ++ index ∷ []) (step_in step)
steps_from before step (b ∷ bs) =
    if b == 47 then option_and_then (λ index. steps_from (before ++ index ∷ []) [] bs) (step_in step)
    else steps_from before (step ++ b ∷ []) bs

-- at most 255 steps
abbrev pub few_steps : List ℕ → Option (List ℕ)
few_steps path = if nat_le (length path) 255 then Some path else None

-- the steps behind the m
abbrev pub steps_behind : List ℕ → Option (List ℕ)
steps_behind [] = Some []
steps_behind (b ∷ steps) = if b == 47 then option_and_then few_steps (steps_from [] [] steps) else None

unfoldable pub path_in : List ℕ → Option (List ℕ)
path_in [] = None
path_in (b ∷ rest) = if b == 109 then steps_behind rest else None
