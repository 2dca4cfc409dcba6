-- What a request asks for, by its words.
use Rattle.std.specs.Prelude.{◌≡◌, ◌⊎◌, List, length, codes, Some, None}
use Rattle.fund_base.specs.declared.outpoint.OutPoint.{OutPoint}
use Rattle.json_fields.specs.Fields.{coin_at}
use Rattle.json_fields.specs.Rules.{AreRead}
use Rattle.serde_json.specs.Data.{Data, array, string}
use Rattle.serde_json.specs.Find.{get}
use Rattle.serde_json.specs.View.{items_of}

-- the method is left out, or is one that draws at random
abbrev pub IsDrawing : Data → Type 0
IsDrawing d =
    (get (codes "method") d ≡ None)
    ⊎ ((get (codes "method") d ≡ Some (string (codes "auto"))) ⊎ (get (codes "method") d ≡ Some (string (codes "draw"))))

-- the entries of a list are these coins, one for each
abbrev pub AreCoins : Data → List OutPoint → Type 0
AreCoins d coins = (ds : List Data) × (d ≡ array (items_of ds)) × (length coins ≡ length ds) × AreRead (λ _. coin_at (codes "coins")) ds coins
