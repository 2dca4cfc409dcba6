-- A replacement by fee (BIP 125): what is replaced, and what its replacement is made from.
use Rattle.std.specs.Prelude.{ℕ, pos, ◌+◌, ◌-◌, ◌&&◌, not, Bool, false, List, [], length, map, filter, min, sum_by, unwrap_or}
use Rattle.std.specs.List.{list_any}
use Rattle.fund_base.specs.Outpoints.{same_outpoint}
use Rattle.coin_candidates.specs.declared.candidate.Candidate.{Candidate}
use Rattle.tx_codec.specs.Transaction.{Transaction}
use Rattle.tx_codec.specs.Txid.{txid_of}
use Rattle.tx_codec.specs.Weight.{weight_of as text_weight}
use Rattle.fee_rates.specs.Fee.{fee_of, vsize_of}
use Rattle.fee_rates.specs.Output.{output_size_of}
use Rattle.fee_rates.specs.Terms.{base_of}
use Rattle.fee_rates.specs.declared.terms.PaymentLoad.{PaymentLoad}
use Rattle.wallet_text.specs.PlainWallet.{PlainWallet}
use Rattle.request_text.specs.PlainRequest.{PlainRequest}
use Rattle.request_text.specs.declared.request.Recipient.{Recipient}
use Rattle.coin_book.specs.History.{History}
use Rattle.known_fees.specs.Worth.{fee_in, spent_by}
use Rattle.payment_facts.specs.AnyCoin.{facts_among}
use Rattle.payment_facts.specs.LeftOut.{confirmed_without_of}
use Rattle.payment_facts.specs.Pendings.{pending_below}
use Rattle.payment_states.specs.PendingView.{PendingView, is_listed, place_in, tx_at, view_of}

-- ---- what is replaced

-- the place in the pending list of the payment that the request replaces; the end of the list where it isn't there
abbrev pub payment_place : PendingView → PlainRequest → ℕ
payment_place w r = unwrap_or (place_in w.pending (unwrap_or r.bump [])) (length w.pending)

-- the payment at a place and its Pending descendants, in list order
unfoldable pub replaced_at : PendingView → ℕ → List Transaction
replaced_at w i = map (tx_at w) (pending_below w i)

-- ---- fees

-- the fees of all of these together
abbrev pub fees_in : History → List Transaction → ℕ
fees_in h ts = sum_by (fee_in h ts) ts

-- ---- what its replacement pays

-- the rate by which a replacement pays for its own size, in satoshi per 1,000 virtual bytes (Bitcoin Core,
-- `DEFAULT_INCREMENTAL_RELAY_FEE`)
abbrev pub incremental : ℕ
incremental = 1000

-- a payment of the request's recipients from so many coins, without what these bring
abbrev pub bare_load : PlainRequest → (coins : ℕ) → PaymentLoad
bare_load r coins = record {
  paid = 0;
  outputs = min (sum_by (λ (q : Recipient). output_size_of q.script) r.recipients) 1_000_000_000;
  count = min (length r.recipients) 1_000_000_000;
  coins = coins;
  preset_effective = pos 0;
  preset_weight = 0;
  has_presets = false;
  burden = 0;
  change_size = 0;
  change_weight = 0;
  change_dust = 0;
}

-- what inputs that spend coins are declared to weigh together
abbrev pub weight_of : List Candidate → ℕ
weight_of coins = sum_by (λ (c : Candidate). c.weight) coins

-- the virtual size of a payment without change from these coins alone
unfoldable pub least_vsize : PlainRequest → List Candidate → ℕ
least_vsize r presets = vsize_of (base_of (bare_load r (length presets)) + weight_of presets)

-- What a replacement pays beside the fee of its rate, in satoshi, so that it pays the fees of all that it replaces, the
-- incremental rate for its own size, and 1 more; 0 where its rate pays for that.
abbrev pub burden_at : (fees v rate : ℕ) → ℕ
burden_at fees v rate = (fees + fee_of incremental v + 1) - fee_of rate v

-- ---- the terms

-- What a replacement is made from. The presets are the inputs of the payment that is replaced, and the candidates are what
-- may be added. The burden is in satoshi. The replaced transactions are told by their txids, in list order. The fee and the
-- virtual size are those of the payment as it stands in the wallet.
pub record PlainTerms : Type 0 where
  pub presets : List Candidate
  pub candidates : List Candidate
  pub burden : ℕ
  pub replaced : List (List ℕ)
  pub old_fee : ℕ
  pub old_vsize : ℕ

-- a coin is one of these
abbrev pub is_among : List Candidate → Candidate → Bool
is_among presets c = list_any (λ (p : Candidate). same_outpoint c.coin p.coin) presets

-- Confirmed coins that may be spent as if what is replaced had never been written down: those that are no presets, and no
-- outputs of what is replaced.
abbrev pub added_of : (presets coins : List Candidate) → (replaced : List (List ℕ)) → List Candidate
added_of presets coins replaced = filter (λ (c : Candidate). not (is_among presets c) && not (is_listed replaced c.coin.txid)) coins

-- the txids of what is replaced
abbrev pub replaced_txids : PendingView → ℕ → List (List ℕ)
replaced_txids w i = map txid_of (replaced_at w i)

-- the inputs of the payment at a place, as coins, with their prices at a rate
unfoldable pub presets_at : PlainWallet → History → (tip rate : ℕ) → ℕ → List Candidate
presets_at w h tip rate i = facts_among w h tip rate (spent_by (tx_at (view_of w h) i))

-- the terms of a replacement of the payment at a place
abbrev pub terms_at : PlainWallet → History → (tip : ℕ) → PlainRequest → ℕ → PlainTerms
terms_at w h tip r i = record {
  presets = presets_at w h tip r.rate i;
  candidates = added_of (presets_at w h tip r.rate i) (confirmed_without_of w h tip (replaced_txids (view_of w h) i)) (replaced_txids (view_of w h) i);
  burden = burden_at (fees_in h (replaced_at (view_of w h) i)) (least_vsize r (presets_at w h tip r.rate i)) r.rate;
  replaced = replaced_txids (view_of w h) i;
  old_fee = fee_in h (replaced_at (view_of w h) i) (tx_at (view_of w h) i);
  old_vsize = vsize_of (text_weight (tx_at (view_of w h) i));
}

-- those of a request
unfoldable pub terms_of : PlainWallet → History → (tip : ℕ) → PlainRequest → PlainTerms
terms_of w h tip r = terms_at w h tip r (payment_place (view_of w h) r)
