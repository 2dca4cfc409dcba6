-- What is said of a PSBT whose inputs aren't all final.
use Rattle.std.specs.Prelude.{ℕ, List, ◌++◌, codes}
use Rattle.std.specs.Fmt.{decimal}

-- an input that isn't signed
unfoldable pub unsigned_text : ℕ → List ℕ
unsigned_text index = codes "input " ++ (decimal index ++ codes " isn't signed: the PSBT has neither its final script nor its final witness. Let the signer sign it and make it final.")

-- an input whose final witness is none
unfoldable pub unfinished_text : ℕ → List ℕ
unfinished_text index =
    codes "input " ++ (decimal index ++ codes " has a final witness that is none: its bytes aren't a number of items and each behind its length. Let the signer make the PSBT once more.")
