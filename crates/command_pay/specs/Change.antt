-- Whether change comes back to a script that is watched.
use Rattle.std.specs.Prelude.{ℕ, Bool, List, bytes_eq}
use Rattle.std.specs.List.{list_any}
use Rattle.wallet_text.specs.PlainWallet.{PlainWallet}
use Rattle.wallet_text.specs.declared.wallet.Watch.{Watch}

-- the script is one of these
abbrev pub is_among : List ℕ → List Watch → Bool
is_among script scripts = list_any (λ (w : Watch). bytes_eq w.script script) scripts

-- the wallet watches the script to which it has change paid
abbrev pub is_change_listed : PlainWallet → Bool
is_change_listed wallet = is_among wallet.change.script wallet.scripts
