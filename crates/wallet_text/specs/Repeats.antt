-- Why earlier transactions are those of no wallet.
use Rattle.std.specs.Prelude.{ℕ, ◌≡◌, List, codes}
use Rattle.json_fields.specs.Repeats.{IsFirstRepeat}
use Rattle.wallet_text.specs.WalletText.{earlier_txids, told_index}
use Rattle.wallet_text.specs.declared.fault.WalletFault.{WalletFault}
use Rattle.wallet_text.specs.declared.fault.WalletFault.TheVariants as told
use Rattle.wallet_text.specs.PlainWallet.{Earlier}

-- the first of the earlier transactions whose txid stood before it, as a fault tells its place
pub record IsEarlierRepeat (earlier : List Earlier) (list : List ℕ) (index : ℕ) : Type 0 where
  pub name : list ≡ codes "earlier"
  pub place : ℕ
  pub place_is : index ≡ told_index place
  pub first : IsFirstRepeat (earlier_txids earlier) place

-- A txid stands twice, and the fault tells where; or memory ran out. There is no other fault.
abbrev pub IsRepeat : List Earlier → WalletFault → Type 0
IsRepeat earlier (told.Repeat list index) = IsEarlierRepeat earlier list index
IsRepeat earlier told.Memory = Unit {0}
IsRepeat earlier _ = ⊥
