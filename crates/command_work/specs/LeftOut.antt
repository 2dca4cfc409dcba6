-- A request file that says no more than it has to.
use Rattle.std.specs.Prelude.{ℕ, ◌≡◌, List, [], ◌∷◌, codes, All, None}
use Rattle.serde_json.specs.Data.{Data}
use Rattle.serde_json.specs.Find.{get}

-- the members that such a file leaves out: all but the recipients, the rate and the seed
abbrev pub names_left_out : List (List ℕ)
names_left_out =
    codes "long_term" ∷ codes "discard" ∷ codes "change_target" ∷ codes "method" ∷ codes "tries" ∷ codes "when_unfinished" ∷ codes "zero_conf"
    ∷ codes "include_unsafe" ∷ codes "group" ∷ codes "coins" ∷ codes "bump" ∷ codes "replaceable" ∷ codes "locktime" ∷ codes "psbt" ∷ []

abbrev pub LeavesRestOut : Data → Type 0
LeavesRestOut d = All (λ name. get name d ≡ None) names_left_out
