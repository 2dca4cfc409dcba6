-- What signed transaction a file holds, in hex or as a PSBT whose inputs are all final.
use Rattle.std.specs.Prelude.{ℕ, ◌≡◌, List, codes, nat_eq, Ok, if◌then◌else◌}
use Rattle.std.specs.List.{starts_with}
use Rattle.psbt_codec.specs.Psbt.{magic}
use Rattle.signed_psbt.specs.Signed.{IsSignedPsbt, IsSignedText}
use Rattle.tx_codec.specs.Transaction.{Transaction}
use Rattle.command_settle.specs.Files.{line_of, signed_of}
use Rattle.settle_table.specs.declared.forms.Form.{Form}
use Rattle.settle_table.specs.declared.forms.Form.TheVariants.{Hex, Base64, Binary}

-- The base64 of each PSBT begins so: with the five bytes with which it begins, up to a part of the last (BIP 174; RFC 4648,
-- section 4). No hex does.
abbrev pub text_start : List ℕ
text_start = codes "cHNidP"

-- the form of a file: that of a PSBT where it begins as each of them does, and otherwise hex
abbrev pub form_of : List ℕ → Form
form_of file = if starts_with nat_eq file magic then Binary else if starts_with nat_eq file text_start then Base64 else Hex

-- The file in this form holds this signed transaction. In hex it is the one that the command `settle` reads (BIP 144). In a PSBT
-- it is the one that its final scripts and witnesses make (BIP 174, 'Transaction Extractor'), whose base64 may have a line feed
-- behind it.
abbrev pub HoldsAs : Form → List ℕ → Transaction → Type 0
HoldsAs Hex file t = signed_of file ≡ Ok t
HoldsAs Base64 file t = IsSignedText (line_of file) t
HoldsAs Binary file t = IsSignedPsbt file t

-- the file holds it in its own form
abbrev pub Holds : List ℕ → Transaction → Type 0
Holds file t = HoldsAs (form_of file) file t
