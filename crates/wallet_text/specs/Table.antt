-- What each member of a wallet file says by itself, and what is wrong with it.
use Rattle.std.specs.Prelude.{ℕ, List, [], ◌∷◌, length, codes, Option}
use Rattle.std.specs.Result.{result_err}
use Rattle.json_fields.specs.Fields.{number_at, hash_at}
use Rattle.json_fields.specs.Rules.{wrong, said}
use Rattle.serde_json.specs.Data.{Data}
use Rattle.serde_json.specs.Find.{get}
use Rattle.tx_codec.specs.Transaction.{Transaction}
use Rattle.wallet_text.specs.PlainWallet.{Earlier, PlainWallet}
use Rattle.wallet_text.specs.WalletText.{field, scripts_at, change_at, earlier_list_at, pending_list_at, abandoned_list_at, locked_list_at, lists_at}
use Rattle.wallet_text.specs.declared.fault.Refusal.{Refusal}
use Rattle.wallet_text.specs.declared.wallet.Watch.{Watch}

-- what the members say that others are judged by
abbrev pub height_said : Data → ℕ
height_said d = said 0 (λ m. field (number_at (codes "height") 100_000_000 m)) (get (codes "height") d)

abbrev pub scripts_said : Data → List Watch
scripts_said d = said [] scripts_at (get (codes "scripts") d)

abbrev pub earlier_said : Data → List Earlier
earlier_said d = said [] (earlier_list_at (height_said d)) (get (codes "earlier") d)

abbrev pub pending_said : Data → List Transaction
pending_said d = said [] pending_list_at (get (codes "pending") d)

-- each member's own fault, in the order of the format's table, and after them that of the rules over whole lists
unfoldable pub member_faults : Data → List (Option Refusal)
member_faults d =
    wrong (λ m. field (number_at (codes "height") 100_000_000 m)) (get (codes "height") d)
    ∷ wrong (λ m. field (hash_at (codes "hash") m)) (get (codes "hash") d)
    ∷ wrong scripts_at (get (codes "scripts") d)
    ∷ wrong (change_at (length (scripts_said d))) (get (codes "change") d)
    ∷ wrong (earlier_list_at (height_said d)) (get (codes "earlier") d)
    ∷ wrong pending_list_at (get (codes "pending") d)
    ∷ wrong (λ m. field (abandoned_list_at m)) (get (codes "abandoned") d)
    ∷ wrong (λ m. field (locked_list_at m)) (get (codes "locked") d)
    ∷ result_err (lists_at (earlier_said d) (pending_said d))
    ∷ []

-- each field by its own member, empty where that is left out; the first four never are
unfoldable pub said_by : Data → PlainWallet
said_by d = record {
  height = height_said d;
  hash = said [] (λ m. field (hash_at (codes "hash") m)) (get (codes "hash") d);
  scripts = scripts_said d;
  change = said (record { script = []; weight = 0 }) (change_at (length (scripts_said d))) (get (codes "change") d);
  earlier = earlier_said d;
  pending = pending_said d;
  abandoned = said [] (λ m. field (abandoned_list_at m)) (get (codes "abandoned") d);
  locked = said [] (λ m. field (locked_list_at m)) (get (codes "locked") d);
}
