-- How many groups a row keeps, as a number.
use Rattle.std.specs.Prelude.{ℕ, Bool, true, false, not, List, [], ◌∷◌, map, filter, length, bytes_eq}
use Rattle.std.specs.List.{flat_map}
use Rattle.coin_candidates.specs.declared.candidate.Candidate.{Candidate}
use Rattle.output_groups.specs.Forming.{alone, of_script, parts_of}
use Rattle.output_groups.specs.Measures.{is_useful}
use Rattle.output_groups.specs.Pool.{keeps}
use Rattle.output_groups.specs.Part.{Part}
use Rattle.output_groups.specs.declared.rows.Row.{Row}

-- the scripts that coins pay to, each once
abbrev pub scripts_of : List Candidate → List (List ℕ)
scripts_of [] = []
scripts_of (c ∷ cs) = c.script ∷ filter (λ script. not (bytes_eq script c.script)) (scripts_of cs)

-- the groups that coins form, script by script, or each by itself
abbrev pub parts_in : Bool → List Candidate → List Part
parts_in true cs = flat_map (λ script. parts_of (of_script script cs)) (scripts_of cs)
parts_in false cs = map alone cs

-- how many of those that the useful coins form the row keeps
unfoldable pub kept_count : Bool → Row → ℕ → List Candidate → ℕ
kept_count group row rate cs = length (filter (keeps row) (parts_in group (filter (is_useful rate) cs)))
