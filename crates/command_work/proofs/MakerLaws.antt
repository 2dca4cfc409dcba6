-- The transactions that make the coins keep the rules of a wallet.
use Rattle.std.proofs.Common.{◌≡◌, ℕ, ◌^◌, ◌<◌, ◌≤◌, List, [], ◌∷◌, length, get_or, refl, subst, arith, length-append}
use Rattle.std.specs.Prelude.{All, replicate}
use Rattle.std.specs.Int.{w32, to_le_bytes}
use Rattle.std.specs.List.{range_with_len}
use Rattle.std.proofs.lemmas.List.{length-replicate}
use Rattle.std.proofs.lemmas.List.Elements.{All-append, All-cons, All-map, All-nil, All-replicate}
use Rattle.fund_base.specs.Cursor.{IsBytes}
use Rattle.tx_codec.specs.TransactionText.{HasWitness, InputFits, IsTransaction, OutputFits}
use Rattle.tx_codec.specs.declared.tx.TxIn.{TxIn}
use Rattle.wallet_text.specs.WalletRules.{IsEarlier}
use Rattle.command_work.specs.Coins.{coin_at}
use Rattle.command_work.specs.Load.{earlier_at, earlier_of, input_of, maker_of, output_of, prev_of}
use Rattle.command_work.specs.declared.coin.Coin.{Coin}
use Rattle.command_work.proofs.CoinLaws.{value_most}
use Rattle.command_work.proofs.KindLaws.{script_bytes, script_short}

abbrev Byte : ℕ → Type 0
Byte b = b < 256

bytes_of : (a b c d : ℕ) → a < 256 → b < 256 → c < 256 → d < 256 → IsBytes (a ∷ b ∷ c ∷ d ∷ [])
bytes_of a b c d p q r s = All-cons Byte a (b ∷ c ∷ d ∷ []) p (All-cons Byte b (c ∷ d ∷ []) q (All-cons Byte c (d ∷ []) r (All-cons Byte d [] s (All-nil Byte))))

four_bytes : (i : ℕ) → IsBytes (to_le_bytes w32 i)
four_bytes i = bytes_of _ _ _ _ (omega arith) (omega arith) (omega arith) (omega arith)

prev_len : (i : ℕ) → length (prev_of i) ≡ 32
unfolding prev_of
prev_len i = let e : length (to_le_bytes w32 i) ≡ 4 = refl in omega (arith, length-append (to_le_bytes w32 i) (replicate 28 1), length-replicate {A = ℕ} 28 1)

prev_bytes : (i : ℕ) → IsBytes (prev_of i)
unfolding prev_of
prev_bytes i = All-append Byte (to_le_bytes w32 i) (replicate 28 1) (four_bytes i) (All-replicate Byte 28 1 (omega arith))

input_fits : (i : ℕ) → InputFits (input_of i)
input_fits i = record {
  txid_len = prev_len i;
  txid = prev_bytes i;
  index = omega arith;
  script = All-nil Byte;
  script_len = omega arith;
  sequence = omega arith;
  stack = All-nil (λ (item : List ℕ). All Byte item × (length item < 2 ^ 64));
  stack_len = omega arith;
}

output_fits : (c : Coin) → OutputFits (output_of c)
output_fits c = record { script = script_bytes c.kind; script_len = omega (arith, script_short c.kind) }

no_witness : (i : ℕ) (c : Coin) → HasWitness (maker_of i c) → ⊥
unfolding maker_of
no_witness i c h =
    let all : All (λ (j : TxIn). j.witness ≡ []) (input_of i ∷ []) = All-cons (λ (j : TxIn). j.witness ≡ []) (input_of i) [] refl (All-nil (λ (j : TxIn). j.witness ≡ [])) in
    h.4 (subst (λ (j : TxIn). j.witness ≡ []) h.3 (all h.0 h.1 h.2))

pub maker_is : (i : ℕ) (c : Coin) → c.value ≤ 2_100_000_000_000_000 → IsTransaction (maker_of i c)
unfolding maker_of
maker_is i c most = record {
  version = omega arith;
  locktime = omega arith;
  inputs = All-cons InputFits (input_of i) [] (input_fits i) (All-nil InputFits);
  inputs_some = omega arith;
  inputs_len = omega arith;
  outputs = All-cons OutputFits (output_of c) [] (output_fits c) (All-nil OutputFits);
  outputs_some = omega arith;
  outputs_len = omega arith;
  money = omega arith;
  segregated = ((λ is. absurd cc), (λ some. absurd (no_witness i c some)));
}

earlier_is : (number i : ℕ) → IsEarlier 200 (earlier_at number i)
earlier_is number i = record { tx = maker_is i (coin_at number i) (omega (arith, value_most number i)); height = omega arith }

pub earlier_are : (number count : ℕ) → All (IsEarlier 200) (earlier_of number count)
earlier_are number count = All-map (IsEarlier 200) (earlier_at number) (range_with_len 0 count) (λ k d lt. earlier_is number (get_or (range_with_len 0 count) k d))
