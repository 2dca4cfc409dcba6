-- The prices of coins that are looked up, and of those beside left out payments.
use Rattle.std.proofs.Common.{◌≡◌, ◌≢◌, ◌∙◌, ℕ, Bool, true, false, ◌&&◌, List, filter, Option, Some, None, All, Contains, refl, sym, ap, subst}
use Rattle.std.specs.Prelude.{is_none, is_some, option_map}
use Rattle.std.proofs.lemmas.Bool.{true≢false}
use Rattle.std.proofs.lemmas.List.Elements.{All-map, filter_passes}
use Rattle.std.proofs.lemmas.Option.{none-some, same_Some}
use Rattle.coin_candidates.specs.declared.candidate.Candidate.{Candidate}
use Rattle.fund_base.specs.declared.outpoint.OutPoint.{OutPoint}
use Rattle.wallet_text.specs.PlainWallet.{PlainWallet}
use Rattle.coin_book.specs.AtOutpoint.{coin_under}
use Rattle.coin_book.specs.Coins.{coins_of}
use Rattle.coin_book.specs.History.{History}
use Rattle.coin_book.specs.Spends.{height_of}
use Rattle.coin_book.specs.declared.coin.Coin.{Coin}
use Rattle.payment_states.specs.Candidates.{candidate_at, candidate_of, is_candidate}
use Rattle.payment_states.specs.PendingView.{place_in}
use Rattle.payment_states.specs.Prices.{IsPriced, price_of}
use Rattle.payment_states.proofs.FitSteps.{all_kept}
use Rattle.payment_states.proofs.MakerSteps.{at_height, coin_in}
use Rattle.payment_states.proofs.Order.{all_abandoned}
use Rattle.payment_states.proofs.PricedSteps.{coin_priced, confirmed_none}
use Rattle.payment_states.proofs.TellSteps.{TellsTxid, coins_tell}
use Rattle.payment_facts.specs.AnyCoin.{facts_among, facts_at}
use Rattle.payment_facts.specs.LeftOut.{confirmed_without_of, history_without, is_confirmed_candidate, wallet_without}
use Rattle.payment_facts.proofs.AnySteps.{under}

-- ---- coins that are looked up

pub found_priced : (w : PlainWallet) (h : History) (tip rate : ℕ) (o : OutPoint) (c : Candidate) → facts_at w h tip rate o ≡ Some c → IsPriced w h rate c
unfolding facts_at
found_priced w h tip rate o c e = by (coin_under h o) refl e
  where
    by : (r : Option Coin) → coin_under h o ≡ r → option_map (candidate_of w h tip rate) r ≡ Some c → IsPriced w h rate c
    by None at is = absurd (none-some c is)
    by (Some k) at is =
        let u = under h o k at in
        subst (IsPriced w h rate) (same_Some (candidate_of w h tip rate k) c is) (coin_priced w h tip rate k (subst (Contains (coins_of h)) u.coin_is (coin_in h u.made u.there)))

pub among_priced : (w : PlainWallet) (h : History) (tip rate : ℕ) (points : List OutPoint) → All (IsPriced w h rate) (facts_among w h tip rate points)
among_priced w h tip rate points = all_abandoned (IsPriced w h rate) (facts_at w h tip rate) points (λ o there c e. found_priced w h tip rate o c e)

-- ---- confirmed coins beside left out payments

not_both : (a b : Bool) → (a && b) ≡ true → a ≡ true
not_both true b e = refl
not_both false b e = e

module _ (w : PlainWallet) (h : History) (tip rate : ℕ) (gone : List (List ℕ)) where
  abbrev less : PlainWallet
  less = wallet_without gone w

  abbrev left : History
  left = history_without gone h

  -- a confirmed coin has no price, and neither has its outpoint
  none_for : (c : Coin) → is_confirmed_candidate less left tip c ≡ true → TellsTxid left c → IsPriced w h rate (candidate_of less left tip 0 c)
  none_for c passes tells = by c.height (height_of h.confirmed c.coin.txid) refl (not_both (is_some c.height) (is_candidate less left tip c) passes) tells
    where
      high : (known : Option ℕ) (x : ℕ) → height_of h.confirmed c.coin.txid ≡ known → known ≡ Some x → height_of h.confirmed c.coin.txid ≢ None
      high known x at e none = none-some x (sym none ∙ at ∙ e)

      by : (height known : Option ℕ) → height_of h.confirmed c.coin.txid ≡ known → is_some height ≡ true → is_none known ≡ is_none height → IsPriced w h rate (candidate_at less left tip 0 c height (place_in less.pending c.coin.txid))
      by None known at some e = absurd (true≢false (sym some))
      by (Some n) None at some e = absurd (true≢false e)
      by (Some n) (Some x) at some e = sym (confirmed_none w h rate c.coin (high (Some x) x at refl))

  pub left_priced : All (IsPriced w h rate) (confirmed_without_of w h tip gone)
  unfolding confirmed_without_of
  left_priced =
      let test : Coin → Bool = is_confirmed_candidate less left tip in
      let some : All (λ (c : Coin). test c ≡ true) (filter test (coins_of left)) = filter_passes test (coins_of left) in
      let tell : All (TellsTxid left) (filter test (coins_of left)) = all_kept (TellsTxid left) test (coins_of left) (coins_tell left) in
      All-map (IsPriced w h rate) (candidate_of less left tip 0) (filter test (coins_of left)) (λ k d lt. none_for _ (some k d lt) (tell k d lt))
