-- What a replacement pays, of the terms of a request.
use Rattle.std.proofs.Common.{◌≡◌, ℕ, ◌+◌, ◌*◌, ◌<◌, ◌≤◌, List, None, Some}
use Rattle.fee_rates.specs.Fee.{fee_of}
use Rattle.wallet_text.specs.PlainWallet.{PlainWallet}
use Rattle.wallet_text.specs.WalletRules.{IsWallet}
use Rattle.request_text.specs.PlainRequest.{PlainRequest}
use Rattle.coin_book.specs.History.{History}
use Rattle.payment_states.specs.PendingView.{view_of}
use Rattle.fee_bump.specs.Bump.{fees_in, incremental, least_vsize, payment_place, replaced_at, terms_of}
use Rattle.fee_bump.specs.Faults.{fault_of}
use Rattle.fee_bump.specs.Meant.{CanReplace}
use Rattle.fee_bump.proofs.CauseLaws.{bump_clear}
use Rattle.fee_bump.proofs.SumLaws.{rate_higher, sizes_paid}

module _ (w : PlainWallet) (h : History) (tip : ℕ) (r : PlainRequest) (txid : List ℕ) (rules : IsWallet w) (asked : r.bump ≡ Some txid) (clear : fault_of w h r ≡ None) where
  can : CanReplace w h r (payment_place (view_of w h) r)
  can = bump_clear w h r rules txid asked clear

  pub pays_fees : (size : ℕ) → least_vsize r (terms_of w h tip r).presets ≤ size
      → fees_in h (replaced_at (view_of w h) (payment_place (view_of w h) r)) + fee_of incremental size < (terms_of w h tip r).burden + fee_of r.rate size
  unfolding terms_of
  pays_fees size le =
      sizes_paid (fees_in h (replaced_at (view_of w h) (payment_place (view_of w h) r))) (least_vsize r (terms_of w h tip r).presets) size r.rate le can.increment

  pub pays_rate : (fee size : ℕ) → 0 < size → fee_of r.rate size ≤ fee → (terms_of w h tip r).old_fee * size < fee * (terms_of w h tip r).old_vsize
  unfolding terms_of
  pays_rate fee size some pays = rate_higher (terms_of w h tip r).old_fee (terms_of w h tip r).old_vsize r.rate size fee can.higher some pays
