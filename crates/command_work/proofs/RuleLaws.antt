-- The wallet and the request keep their rules.
use Rattle.std.proofs.Common.{◌≡◌, ℕ, ◌<◌, ◌≤◌, List, [], ◌∷◌, length, inl, refl, arith}
use Rattle.std.specs.Prelude.{All, replicate}
use Rattle.std.proofs.lemmas.List.{length-replicate}
use Rattle.std.proofs.lemmas.List.Elements.{All-cons, All-nil, All-replicate}
use Rattle.fund_base.specs.CompactSize.{compact}
use Rattle.fund_base.specs.Cursor.{IsBytes}
use Rattle.fee_rates.specs.Fee.{fee_of}
use Rattle.fee_rates.specs.Output.{dust_of}
use Rattle.json_fields.specs.Fields.{IsHash, IsPoint}
use Rattle.request_text.specs.PlainRequest.{IsRecipient, IsRequest}
use Rattle.tx_codec.specs.TransactionText.{IsTransaction}
use Rattle.wallet_text.specs.WalletRules.{AreDistinctEarlier, IsEarlier, IsWallet}
use Rattle.wallet_text.specs.PlainWallet.{Earlier}
use Rattle.command_work.specs.Load.{paid_script, request_with, wallet_with}
use Rattle.command_work.specs.declared.kind.Kind.TheVariants.{WitnessKeyHash}
use Rattle.command_work.proofs.KindLaws.{watch_is, watches_apart, watches_are}

abbrev Byte : ℕ → Type 0
Byte b = b < 256

pub zeros : IsHash (replicate 32 0)
zeros = record { len = length-replicate {A = ℕ} 32 0; bytes = All-replicate Byte 32 0 (omega arith) }

pub wallet_is : (earlier : List Earlier) → All (IsEarlier 200) earlier → AreDistinctEarlier earlier → IsWallet (wallet_with earlier)
wallet_is earlier each distinct = record {
  height = omega arith;
  hash = zeros;
  scripts = watches_are;
  scripts_distinct = watches_apart;
  change = watch_is WitnessKeyHash;
  earlier = each;
  earlier_distinct = distinct;
  pending = All-nil IsTransaction;
  pending_distinct = λ i j d lt within. absurd (omega arith);
  parents = λ i j d le within. absurd (omega arith);
  abandoned = All-nil IsHash;
  locked = All-nil IsPoint;
}

paid_bytes : IsBytes paid_script
unfolding paid_script
paid_bytes = All-cons Byte 0 (20 ∷ replicate 20 68) (omega arith) (All-cons Byte 20 (replicate 20 68) (omega arith) (All-replicate Byte 20 68 (omega arith)))

paid_len : length paid_script ≡ 22
unfolding paid_script
paid_len = refl

paid_dust : dust_of paid_script ≡ 294
unfolding paid_script dust_of fee_of compact
paid_dust = refl

paid_is : (amount : ℕ) → 294 ≤ amount → amount ≤ 2_100_000_000_000_000 → IsRecipient (record { script = paid_script; amount = amount })
paid_is amount least most = record {
  bytes = paid_bytes;
  some = omega (arith, paid_len);
  most = omega (arith, paid_len);
  dust = omega (arith, paid_dust);
  money = most;
}

pub request_is : (amount : ℕ) → 294 ≤ amount → amount ≤ 2_100_000_000_000_000 → IsRequest (request_with amount)
request_is amount least most = record {
  some = omega arith;
  recipients = All-cons IsRecipient (record { script = paid_script; amount = amount }) [] (paid_is amount least most) (All-nil IsRecipient);
  money = omega arith;
  rate = omega arith;
  long_term = omega arith;
  discard = omega arith;
  change_target = omega arith;
  seed = zeros;
  tries = (omega arith, omega arith);
  coins = All-nil IsPoint;
  distinct = λ i j d lt within. absurd (omega arith);
  bump = tt;
  alone = λ is. absurd cc;
  locktime = omega arith;
  psbt = inl refl;
}
