-- Transactions of which no two have the same txid.
use Rattle.std.proofs.Common.{ℕ, ◌≡◌, ◌≢◌, ◌∙◌, ◌<◌, ◌≤◌, List, length, take, get_or, All, arith, subst, sym}
use Rattle.std.proofs.lemmas.List.{get_or-take, get_or_default, length-take-le}
use Rattle.tx_codec.specs.Transaction.{Transaction}
use Rattle.tx_codec.specs.Txid.{txid_of}
use Rattle.wallet_text.specs.WalletRules.{AreDistinct}

-- those before one have other txids
pub others_before : (ts : List Transaction) (i : ℕ) (t : Transaction) → AreDistinct ts → i < length ts → t ≡ get_or ts i t → All (λ (s : Transaction). txid_of s ≢ txid_of t) (take i ts)
others_before ts i t distinct within is = λ k d below.
    let most : i ≤ length ts = omega arith in
    let lt : k < i = omega (arith, length-take-le i ts most) in
    subst (λ (s : Transaction). txid_of s ≢ txid_of t) (sym (get_or-take i ts k d lt))
    (subst (λ (u : Transaction). txid_of (get_or ts k d) ≢ txid_of u) (sym (is ∙ get_or_default ts i t d within)) (distinct k i d lt within))
