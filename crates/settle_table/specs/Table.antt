-- A settled payment as a table of lines.
use Rattle.std.specs.Prelude.{ℕ, List, ◌++◌, codes}
use Rattle.std.specs.Fmt.{decimal}
use Rattle.std.specs.List.{flat_map}
use Rattle.command_end.specs.Coin.{coin_text, shown_hash}
use Rattle.settle_check.specs.declared.judging.Settled.{Settled}
use Rattle.settle_table.specs.declared.inputs.WeighedInput.{WeighedInput}

-- the line of the txid
unfoldable pub txid_line : List ℕ → List ℕ
txid_line txid = codes "txid    " ++ (shown_hash txid ++ codes "\n")

-- the line of an input: what it weighs, what it was declared to weigh, and the output that it spends
unfoldable pub weighs_line : WeighedInput → List ℕ
weighs_line i = codes "weighs  " ++ (decimal i.weight ++ (codes " of " ++ (decimal i.declared ++ (codes " WU declared  " ++ (coin_text i.coin ++ codes "\n")))))

-- the line of what the inputs weigh less than was declared
unfoldable pub spare_line : ℕ → List ℕ
spare_line spare = codes "spare   " ++ (decimal spare ++ codes " WU\n")

-- The whole: the txid, a line for each input, the line of the fee, and what is left over.
unfoldable pub table_text : Settled → List WeighedInput → (fee_line : List ℕ) → List ℕ
table_text s inputs fee_line = txid_line s.txid ++ (flat_map weighs_line inputs ++ (fee_line ++ spare_line s.spare))
