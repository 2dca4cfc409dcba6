-- The members of a wallet file in the parts in which they are read, and the whole as these parts in order.
use Rattle.std.specs.Prelude.{ℕ, List, [], length, codes, Result, Ok}
use Rattle.serde_json.specs.Data.{Data}
use Rattle.serde_json.specs.Find.{get}
use Rattle.fund_base.specs.Parsing.{◌>>=◌}
use Rattle.fund_base.specs.declared.outpoint.OutPoint.{OutPoint}
use Rattle.json_fields.specs.Fields.{object_at, member_at, optional, number_at, hash_at}
use Rattle.json_fields.specs.declared.fault.FieldFault.{FieldFault}
use Rattle.tx_codec.specs.Transaction.{Transaction}
use Rattle.wallet_text.specs.PlainWallet.{Earlier, PlainWallet}
use Rattle.wallet_text.specs.WalletText.{field, known_names, required_names, scripts_at, change_at, earlier_list_at, pending_list_at, abandoned_list_at, locked_list_at, lists_at}
use Rattle.wallet_text.specs.declared.fault.Refusal.{Refusal}
use Rattle.wallet_text.specs.declared.wallet.Watch.{Watch}

-- the height and the hash
unfoldable pub head_at : Data → Result (ℕ × List ℕ) FieldFault
head_at d = do
  g ← member_at (codes "height") d
  height ← number_at (codes "height") 100000000 g
  h ← member_at (codes "hash") d
  hash ← hash_at (codes "hash") h
  Ok (height, hash)

-- the scripts, and the change entry
unfoldable pub watched_at : Data → Result (List Watch × Watch) Refusal
watched_at d = do
  s ← field (member_at (codes "scripts") d)
  scripts ← scripts_at s
  c ← field (member_at (codes "change") d)
  change ← change_at (length scripts) c
  Ok (scripts, change)

-- the lists that may be left out
pub record PlainLists : Type 0 where
  pub earlier : List Earlier
  pub pending : List Transaction
  pub abandoned : List (List ℕ)
  pub locked : List OutPoint

-- these of a wallet at a height, with the rules over whole lists
unfoldable pub listed_at : ℕ → Data → Result PlainLists Refusal
listed_at height d = do
  earlier ← optional [] (earlier_list_at height) (get (codes "earlier") d)
  pending ← optional [] pending_list_at (get (codes "pending") d)
  abandoned ← field (optional [] abandoned_list_at (get (codes "abandoned") d))
  locked ← field (optional [] locked_list_at (get (codes "locked") d))
  lists ← lists_at earlier pending
  Ok (record { earlier = earlier; pending = pending; abandoned = abandoned; locked = locked })

-- The wallet that a JSON value is, or the first fault.
unfoldable pub parts_at : Data → Result PlainWallet Refusal
parts_at d = do
  object ← field (object_at (codes "root") known_names required_names d)
  head ← field (head_at d)
  watched ← watched_at d
  lists ← listed_at head.0 d
  Ok (record { height = head.0; hash = head.1; scripts = watched.0; change = watched.1; earlier = lists.earlier; pending = lists.pending; abandoned = lists.abandoned; locked = lists.locked })
