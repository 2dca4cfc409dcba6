-- What a view of a transaction tells of its inputs and outputs, item by item.
use Rattle.std.specs.Prelude.{ℕ, zero, suc, ◌≡◌, List, [], ◌∷◌, map, MatchResult, Result, Ok, Err}
use Rattle.std.specs.Int.{w64}
use Rattle.fund_base.specs.Cursor.{At, compact_at, number_at}
use Rattle.fund_base.specs.Parsing.{◌>>=◌, string_at}
use Rattle.fund_base.specs.declared.outpoint.OutPoint.{OutPoint}
use Rattle.tx_codec.specs.Reading.{cut, input_at, inputs_at, outputs_at}
use Rattle.tx_codec.specs.Transaction.{Transaction}
use Rattle.tx_codec.specs.declared.fault.TxFault.{TxFault}
use Rattle.tx_codec.specs.declared.tx.TxIn.{TxIn}
use Rattle.tx_codec.specs.declared.tx.TxOut.{TxOut}

-- the item that was read, and those behind it; none where none was
abbrev pub with_left : {X E : Type 0} → (At → List X) → Result (X × At) E → List X
with_left rest (Ok read) = read.0 ∷ rest read.1
with_left rest (Err fault) = []

-- So many items at most, one behind the other, up to the first that is none.
unfoldable pub items_left : {X E : Type 0} → (At → Result (X × At) E) → ℕ → At → List X
items_left item zero at = []
items_left item (suc n) at = with_left (λ next. items_left item n next) (item at)

-- how many items follow: 0 where no number stands there
abbrev pub CountsTo : At → ℕ → At → Type 0
CountsTo old count new = MatchResult (compact_at old) (λ n. (count ≡ n.0) × (new ≡ n.1)) (λ fault. count ≡ 0)

-- the outpoint that the input here spends
unfoldable pub point_at : At → Result (OutPoint × At) TxFault
point_at at = do
  input ← input_at at
  Ok (input.0.prev, input.1)

-- the script that the output here pays to
unfoldable pub script_at : At → Result (List ℕ × At) TxFault
script_at at = do
  value ← cut (number_at w64 at)
  cut (string_at value.1)

-- the outpoints that a transaction spends, input by input
abbrev pub points_of : Transaction → List OutPoint
points_of t = map (λ (i : TxIn). i.prev) t.inputs

-- the scripts that it pays to, output by output
abbrev pub scripts_of : Transaction → List (List ℕ)
scripts_of t = map (λ (o : TxOut). o.script) t.outputs

-- The inputs and the outputs of a transaction stand there, the inputs without their witnesses.
pub record HasBody (t : Transaction) (at : At) : Type 0 where
  pub inputs : List TxIn
  pub between : At
  pub end : At
  pub points : map (λ (i : TxIn). i.prev) inputs ≡ points_of t
  pub inputs_is : inputs_at at ≡ Ok (inputs, between)
  pub outputs_is : outputs_at between ≡ Ok (t.outputs, end)
