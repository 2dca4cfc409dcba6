-- The transaction at a coin's outpoint is the one that made it.
use Rattle.std.proofs.Common.{◌≡◌, ◌∙◌, ◌≢◌, ◌⊎◌, inl, inr, ℕ, ◌<◌, Bool, true, false, cond, List, [], ◌∷◌, filter, get_or, Option, Some, None, refl, sym, ap, subst, arith, Contains, All, AllPairs}
use Rattle.std.specs.Prelude.{find, option_map, slice_get, is_some}
use Rattle.std.proofs.lemmas.Bool.{cases_order, true≢false}
use Rattle.std.proofs.lemmas.List.{get_or_default, length-map}
use Rattle.std.proofs.lemmas.List.Elements.{All-append, All-contains, All-contains_itself, All-head, All-map, All-tail, All-weaker}
use Rattle.std.proofs.lemmas.Option.{same_Some}
use Rattle.fund_base.proofs.OutpointLaws.{same_outpoint-Decides}
use Rattle.fund_base.specs.Outpoints.{same_outpoint}
use Rattle.coin_candidates.specs.declared.candidate.Candidate.{Candidate}
use Rattle.fund_base.specs.declared.outpoint.OutPoint.{OutPoint}
use Rattle.tx_codec.specs.Transaction.{Transaction}
use Rattle.tx_codec.specs.Txid.{txid_of}
use Rattle.tx_codec.specs.declared.tx.TxOut.{TxOut}
use Rattle.wallet_text.specs.PlainWallet.{PlainWallet}
use Rattle.wallet_text.specs.WalletRules.{IsWallet}
use Rattle.coin_book.proofs.OutputSteps.{coins_are}
use Rattle.coin_book.specs.Coins.{Made, coins_of, confirmed_made, is_open, made_by, made_in, made_of, pending_made, weight_for}
use Rattle.coin_book.specs.Faults.{fault_of}
use Rattle.coin_book.specs.History.{History}
use Rattle.coin_book.specs.declared.coin.Coin.{Coin}
use Rattle.payment_states.specs.BookOf.{IsBookOf}
use Rattle.payment_states.specs.Candidates.{candidate_at, candidate_of, candidates_of, is_candidate}
use Rattle.payment_states.specs.Makers.{HasMaker, Makes, output_of}
use Rattle.payment_states.specs.PendingView.{place_in}
use Rattle.payment_states.proofs.Below.{get_or_map}
use Rattle.payment_states.proofs.FitSteps.{all_flat, all_kept, coins_apart, some_find}
use Rattle.payment_states.proofs.Paths.{any_has}

-- ---- lists

-- what is found passes the test, and is what all are
pub found : {X : Type 0} (P : X → Type 0) (p : X → Bool) (xs : List X) (x : X) → All P xs → find p xs ≡ Some x → (p x ≡ true) × P x
found P p [] x h e = absurd cc
found {X = X} P p (y ∷ xs) x h e = by (p y) refl e (λ f. found P p xs x (All-tail P y xs h) f)
  where
    by : (b : Bool) → p y ≡ b → cond b (Some y) (find p xs) ≡ Some x → (find p xs ≡ Some x → (p x ≡ true) × P x) → (p x ≡ true) × P x
    by true is same rest = subst (λ (z : X). (p z ≡ true) × P z) (same_Some y x same) (is, All-head P y xs h)
    by false is same rest = rest same

-- of coins at different outpoints there is one at each
pub one_by_point : (cs : List Coin) (a b : Coin) → AllPairs (λ (x y : Coin). x.coin ≢ y.coin) cs → Contains cs a → Contains cs b → a.coin ≡ b.coin → a ≡ b
one_by_point cs a b apart in_a in_b same = by (cases_order in_a.0 in_b.0)
  where
    at : (x : Coin) (c : Contains cs x) → get_or cs c.0 a ≡ x
    at x c = get_or_default cs c.0 a x c.1 ∙ c.2

    point : Coin → OutPoint
    point x = x.coin

    by : (in_a.0 ≡ in_b.0) ⊎ ((in_a.0 < in_b.0) ⊎ (in_b.0 < in_a.0)) → a ≡ b
    by (inl e) = sym (at a in_a) ∙ ap (λ (k : ℕ). get_or cs k a) e ∙ at b in_b
    by (inr (inl lt)) = absurd (apart in_a.0 in_b.0 a lt in_b.1 (ap point (at a in_a) ∙ same ∙ sym (ap point (at b in_b))))
    by (inr (inr lt)) = absurd (apart in_b.0 in_a.0 a lt in_a.1 (ap point (at b in_b) ∙ sym same ∙ sym (ap point (at a in_a))))

-- ---- the transaction of a coin

abbrev pub output_at : Coin → TxOut
output_at c = record { value = c.value; script = c.script }

record IsMade (m : Made) : Type 0 where
  txid : txid_of m.maker ≡ m.coin.coin.txid
  output : slice_get m.maker.outputs m.coin.coin.index ≡ Some (output_at m.coin)

made_is : (weigh : List ℕ → Option ℕ) (height : Option ℕ) (t : Transaction) (m : Made) → Contains (made_in weigh height t) m → IsMade m
made_is weigh height t m c =
    let h = (coins_are weigh height t m).0 c in
    let p = subst (λ (x : Transaction). (txid_of x ≡ m.coin.coin.txid) × (slice_get x.outputs m.coin.coin.index ≡ Some (output_at m.coin))) h.maker
    (h.txid, h.stands ∙ (λ k. Some (record { value = h.value k; script = h.script k }))) in
    record { txid = p.0; output = p.1 }

each_made : (weigh : List ℕ → Option ℕ) (height : Option ℕ) (t : Transaction) → All IsMade (made_in weigh height t)
each_made weigh height t = All-weaker (Contains (made_in weigh height t)) IsMade (made_is weigh height t) (made_in weigh height t) (All-contains_itself (made_in weigh height t))

history_made : (h : History) → All IsMade (made_of h)
unfolding made_of
history_made h =
    All-append IsMade (confirmed_made h) (pending_made h)
    (all_flat IsMade (made_by (weight_for h.scripts)) h.confirmed (λ c _. each_made (weight_for h.scripts) (Some c.height) c.tx))
    (all_flat IsMade (made_in (weight_for h.scripts) None) (filter (is_open h.confirmed) h.pending) (λ t _. each_made (weight_for h.scripts) None t))

-- a candidate has the outpoint, the value and the script of its coin
pub record IsOf (k : Coin) (c : Candidate) : Type 0 where
  pub point : c.coin ≡ k.coin
  pub output : output_of c ≡ output_at k

pub at_height : (w : PlainWallet) (h : History) (tip rate : ℕ) (k : Coin) (height place : Option ℕ) → IsOf k (candidate_at w h tip rate k height place)
at_height w h tip rate k None place = record { point = refl; output = refl }
at_height w h tip rate k (Some height) place = record { point = refl; output = refl }

makes : (m : Made) (k : Coin) (c : Candidate) → IsMade m → m.coin ≡ k → IsOf k c → Makes m.maker c
makes m k c made own of = record {
  txid = made.txid ∙ ap (λ (x : Coin). x.coin.txid) own ∙ ap (λ (o : OutPoint). o.txid) (sym of.point);
  output =
      ap (λ (o : OutPoint). slice_get m.maker.outputs o.index) (of.point ∙ ap (λ (x : Coin). x.coin) (sym own))
      ∙ made.output
      ∙ ap (λ (x : Coin). Some (output_at x)) own
      ∙ ap (λ (o : TxOut). Some o) (sym of.output);
}

pub coin_in : (h : History) (m : Made) → Contains (made_of h) m → Contains (coins_of h) m.coin
coin_in h m c =
    let n = length-map (made_of h) (λ (x : Made). x.coin) in
    let lt = c.1 in
    (c.0, omega arith, get_or_map (λ (x : Made). x.coin) (made_of h) c.0 m.coin m lt ∙ ap (λ (x : Made). x.coin) c.2)

module _ (w : PlainWallet) (h : History) (rules : IsWallet w) (book : IsBookOf w h) (sound : fault_of h ≡ None) where
  -- the one that is found at a coin's outpoint
  pub maker_found : (m : Made) (c : Candidate) → Contains (made_of h) m → IsOf m.coin c → HasMaker h c
  maker_found m c there of = by (find test (made_of h)) refl
    where
      test : Made → Bool
      test x = same_outpoint c.coin x.coin.coin

      by : (r : Option Made) → find test (made_of h) ≡ r → HasMaker h c
      by None e = absurd (true≢false (sym (any_has test (made_of h) m there ((same_outpoint-Decides c.coin m.coin.coin).1 of.point)) ∙ sym (some_find test (made_of h)) ∙ ap (λ (x : Option Made). is_some x) e))
      by (Some f) e =
          let is = found (λ (x : Made). IsMade x × Contains (made_of h) x) test (made_of h) f (All-weaker (Contains (made_of h)) (λ (x : Made). IsMade x × Contains (made_of h) x) (λ x c. (All-contains IsMade (made_of h) x (history_made h) c, c)) (made_of h) (All-contains_itself (made_of h))) e in
          let point : c.coin ≡ f.coin.coin = (same_outpoint-Decides c.coin f.coin.coin).0 is.0 in
          let own : f.coin ≡ m.coin = one_by_point (coins_of h) f.coin m.coin (coins_apart w h rules book sound) (coin_in h f is.1.1) (coin_in h m there) (sym point ∙ of.point) in
          record { maker = f.maker; parent = ap (λ (x : Option Made). option_map (λ (y : Made). y.maker) x) e; makes = makes f m.coin c is.1.0 own of }

pub all_made : (w : PlainWallet) (h : History) (tip rate : ℕ) → IsWallet w → IsBookOf w h → fault_of h ≡ None → All (HasMaker h) (candidates_of w h tip rate)
unfolding candidates_of
all_made w h tip rate rules book sound =
    All-map (HasMaker h) (candidate_of w h tip rate) (filter (is_candidate w h tip) (coins_of h)) (all_kept (λ (k : Coin). HasMaker h (candidate_of w h tip rate k)) (is_candidate w h tip) (coins_of h)
    (All-map (λ (k : Coin). HasMaker h (candidate_of w h tip rate k)) (λ (m : Made). m.coin) (made_of h)
    (All-weaker (Contains (made_of h)) (λ (m : Made). HasMaker h (candidate_of w h tip rate m.coin)) (λ m there. maker_found w h rules book sound m (candidate_of w h tip rate m.coin) there (at_height w h tip rate m.coin m.coin.height (place_in w.pending m.coin.coin.txid))) (made_of h) (All-contains_itself (made_of h)))))
