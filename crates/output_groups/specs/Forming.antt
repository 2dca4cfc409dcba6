-- The groups that coins form.
use Rattle.std.specs.Prelude.{◌≡◌, ◌<◌, ℕ, ◌*◌, Bool, true, false, ◌&&◌, List, [], ◌∷◌, map, filter, All, take, drop, length, nat_lt, nat_le, bytes_eq}
use Rattle.std.specs.List.{range_with_len}
use Rattle.std.specs.Int.{div_ceil}
use Rattle.coin_candidates.specs.declared.candidate.Candidate.{Candidate}
use Rattle.output_groups.specs.Part.{Part}

-- the coins of one script, in their order
abbrev pub pays_to : List ℕ → Candidate → Bool
pays_to script c = bytes_eq script c.script

abbrev pub of_script : List ℕ → List Candidate → List Candidate
of_script script cs = filter (pays_to script) cs

-- the hundred at a place of a list of coins, or what the list has left there
abbrev pub hundred : List Candidate → ℕ → List Candidate
hundred cs k = take 100 (drop (100 * k) cs)

-- that hundred as a group: partial if it isn't full, where the list has a full one
abbrev pub part_at : List Candidate → ℕ → Part
part_at cs k = record {
  coins = hundred cs k;
  partial = nat_lt (length (hundred cs k)) 100 && nat_le 100 (length cs);
}

-- the coins of one script in hundreds, in their order, the last with the rest
unfoldable pub parts_of : List Candidate → List Part
parts_of cs = map (part_at cs) (range_with_len 0 (div_ceil (length cs) 100))

-- whether a group's coins pay to the script, by the first of them
abbrev pub starts_with : List ℕ → List Candidate → Bool
starts_with script [] = false
starts_with script (first ∷ rest) = pays_to script first

-- each group has a coin, and the groups of each script are its coins in hundreds
pub record IsGrouping (cs : List Candidate) (parts : List Part) : Type 0 where
  pub filled : All (λ (p : Part). 0 < length p.coins) parts
  pub each : (script : List ℕ) → filter (λ (p : Part). starts_with script p.coins) parts ≡ parts_of (of_script script cs)

-- a coin as a group by itself
abbrev pub alone : Candidate → Part
alone c = record { coins = c ∷ []; partial = false }

-- the groups that coins form, with `group` by their scripts and otherwise each by itself
abbrev pub AreParts : Bool → List Candidate → List Part → Type 0
AreParts true cs parts = IsGrouping cs parts
AreParts false cs parts = parts ≡ map alone cs
