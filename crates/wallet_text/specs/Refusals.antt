-- When an entry of `scripts` and the whole lists are refused, and with which index.
use Rattle.std.specs.Prelude.{ℕ, ◌≡◌, ◌⊎◌, ◌↔◌, List, [], codes, Result, Err}
use Rattle.json_fields.specs.Repeats.{IsFirstRepeat}
use Rattle.serde_json.specs.Data.{Data}
use Rattle.tx_codec.specs.Transaction.{Transaction}
use Rattle.wallet_text.specs.PlainWallet.{Earlier}
use Rattle.wallet_text.specs.ScriptEntries.{IsEntry}
use Rattle.wallet_text.specs.WalletRules.{AreDistinct, AreDistinctEarlier, IsFirstLater, ParentsComeFirst}
use Rattle.wallet_text.specs.WalletText.{change_at, earlier_txids, lists_at, script_in, told_index, txids_of}
use Rattle.wallet_text.specs.declared.fault.Refusal.{Refusal}
use Rattle.wallet_text.specs.declared.wallet.Watch.{Watch}

-- An entry of `scripts` is refused with this fault, which has its index, exactly where it is an object of a script and a
-- weight of which this holds, by the scripts before it.
abbrev pub IsRefusedWhere : (ℕ → Refusal) → (List (List ℕ) → Watch → Type 0) → Type 0
IsRefusedWhere fault holds =
    (index : ℕ) (before : List (List ℕ)) (d : Data) (told : ℕ) → (script_in index before d ≡ Err (fault told)) ↔ ((told ≡ told_index index) × ((w : Watch) × IsEntry d w × holds before w))

-- `change` comes to this exactly where an entry of `scripts` does that none stands before.
abbrev pub IsOfChange : Result Watch Refusal → Type 0
IsOfChange result = (count : ℕ) (d : Data) → (change_at count d ≡ result) ↔ (script_in count [] d ≡ result)

-- The rules over whole lists are kept: no txid stands twice in either, and each parent before its children.
pub record KeepRules (earlier : List Earlier) (pending : List Transaction) : Type 0 where
  pub earlier_distinct : AreDistinctEarlier earlier
  pub pending_distinct : AreDistinct pending
  pub parents : ParentsComeFirst pending

-- the first place of the list of this name whose txid stands before it in the list: of `pending`, where `earlier` has none
abbrev pub IsRepeatIn : List ℕ → List Earlier → List Transaction → ℕ → Type 0
IsRepeatIn list earlier pending place =
    ((list ≡ codes "earlier") × IsFirstRepeat (earlier_txids earlier) place)
    ⊎ ((list ≡ codes "pending") × AreDistinctEarlier earlier × IsFirstRepeat (txids_of pending) place)

-- where no txid stands twice, the first place of `pending` whose transaction comes before a parent of its own
abbrev pub IsLaterIn : List Earlier → List Transaction → ℕ → Type 0
IsLaterIn earlier pending place = AreDistinctEarlier earlier × AreDistinct pending × IsFirstLater pending place

-- Lists that are refused with this fault have a place, whose index it has, of which this holds.
abbrev pub AreRefusedAt : (ℕ → Refusal) → (List Earlier → List Transaction → ℕ → Type 0) → Type 0
AreRefusedAt fault holds =
    (earlier : List Earlier) (pending : List Transaction) (told : ℕ) → lists_at earlier pending ≡ Err (fault told) → (place : ℕ) × (told ≡ told_index place) × holds earlier pending place
