-- What a plan asks of the terms of a replacement.
use Rattle.std.proofs.Common.{◌≡◌, ◌≢◌, ℕ, ◌+◌, ◌≤◌, ◌++◌, ◌&&◌, not, Bool, true, false, List, length, map, filter, Some, None, sym, subst, arith, All, Contains}
use Rattle.std.specs.Prelude.{nat_le, nat_lt, if◌then◌else◌}
use Rattle.std.proofs.lemmas.List.{length-append}
use Rattle.std.proofs.lemmas.List.Elements.{All-contains, All-contains_itself, All-filter, All-weaker}
use Rattle.std.proofs.lemmas.List.Kept.{AllPairs-filter}
use Rattle.std.proofs.lemmas.List.Sums.{count_by-le-length, length-filter, sum_by-le}
use Rattle.coin_candidates.specs.Candidates.{AreCandidates, IsCandidate}
use Rattle.fund_base.specs.CompactSize.{compact}
use Rattle.coin_candidates.specs.declared.candidate.Candidate.{Candidate}
use Rattle.tx_codec.specs.Transaction.{Transaction}
use Rattle.tx_codec.specs.declared.tx.TxIn.{TxIn}
use Rattle.fee_rates.proofs.CompactLaws.{compact_len_is}
use Rattle.fee_rates.proofs.FeeLaws.{fee_least, vsize_least}
use Rattle.fee_rates.specs.Fee.{fee_of}
use Rattle.fee_rates.specs.Terms.{base_of}
use Rattle.wallet_text.specs.PlainWallet.{PlainWallet}
use Rattle.wallet_text.specs.WalletRules.{IsWallet}
use Rattle.request_text.specs.PlainRequest.{PlainRequest}
use Rattle.coin_book.specs.Faults.{fault_of as book_fault}
use Rattle.coin_book.specs.History.{History}
use Rattle.payment_states.specs.BookOf.{IsBookOf}
use Rattle.payment_facts.specs.LeftOut.{confirmed_without_of}
use Rattle.payment_states.specs.Makers.{HasMaker}
use Rattle.payment_states.specs.PendingView.{is_listed, tx_at, view_of}
use Rattle.payment_facts.proofs.LeftSteps.{left_fit}
use Rattle.known_fees.specs.Worth.{fee_in, spent_by}
use Rattle.fee_bump.specs.Bump.{bare_load, burden_at, fees_in, is_among, least_vsize, payment_place, presets_at, replaced_at, replaced_txids, terms_of, weight_of}
use Rattle.fee_bump.specs.Faults.{fault_of}
use Rattle.fee_bump.specs.Meant.{CanReplace}
use Rattle.fee_bump.proofs.CauseLaws.{bump_clear}
use Rattle.fee_bump.proofs.FitLaws.{both_fit, both_made, once_apart, presets_fit}
use Rattle.fee_bump.proofs.SizeLaws.{weights_within}
use Rattle.fee_bump.proofs.TermLaws.{added_told}

-- ---- sizes

four : (a b c : Bool) → (if a then 1 else if b then 3 else if c then 5 else 9) ≤ 9
four true b c = omega arith
four false true c = omega arith
four false false true = omega arith
four false false false = omega arith

compact_most : (n : ℕ) → length (compact n) ≤ 9
compact_most n = subst (λ (m : ℕ). m ≤ 9) (sym (compact_len_is n)) (four (nat_lt n 253) (nat_lt n 65536) (nat_lt n 4294967296))

count_most : (b : Bool) → (if b then 1 else 3) ≤ 3
count_most true = omega arith
count_most false = omega arith

base_most : (r : PlainRequest) (coins : ℕ) → base_of (bare_load r coins) ≤ 5_000_000_000
base_most r coins =
    let a = count_most (nat_le coins 252) in
    let b = compact_most ((bare_load r coins).count + 1) in
    let c : (bare_load r coins).outputs ≤ 1_000_000_000 = omega arith in
    omega (arith, a, b, c)

size_most : (r : PlainRequest) (presets : List Candidate) → AreCandidates presets → least_vsize r presets ≤ 20_000_000_000
unfolding least_vsize
size_most r presets fit =
    let a = base_most r (length presets) in
    let b = weights_within presets fit in
    (vsize_least (base_of (bare_load r (length presets)) + weight_of presets)).least 20_000_000_000 (omega (arith, a, b))

-- ---- fees

fee_most : (h : History) (ts : List Transaction) (t : Transaction) → fee_in h ts t ≤ 2_100_000_000_000_000
unfolding fee_in
fee_most h ts t = omega arith

fees_most : (h : History) (ts : List Transaction) → length ts ≤ 100 → fees_in h ts ≤ 210_000_000_000_000_000
fees_most h ts few =
    let P : Transaction → Type 0 = λ t. fee_in h ts t ≤ 2_100_000_000_000_000 in
    let sum = sum_by-le (fee_in h ts) 2_100_000_000_000_000 ts (All-weaker (Contains ts) P (λ t there. fee_most h ts t) ts (All-contains_itself ts)) in
    omega (arith, sum, few)

burden_most : (fees v rate : ℕ) → fees ≤ 210_000_000_000_000_000 → v ≤ 20_000_000_000 → burden_at fees v rate ≤ 1_000_000_000_000_000_000
burden_most fees v rate a b =
    let own : fee_of 1000 v ≤ v = (fee_least 1000 v).least v (omega arith) in
    omega (arith, own, a, b)

-- ---- the terms

length_kept : (test : Candidate → Bool) (coins : List Candidate) → length (filter test coins) ≤ length coins
length_kept test coins = omega (arith, length-filter test coins, count_by-le-length test coins)

module _ (w : PlainWallet) (h : History) (tip : ℕ) (r : PlainRequest) (rules : IsWallet w) (book : IsBookOf w h) (sound : book_fault h ≡ None) where
  abbrev place : ℕ
  place = payment_place (view_of w h) r

  abbrev inputs : List TxIn
  inputs = (tx_at (view_of w h) place).inputs

  pub terms_fit : AreCandidates ((terms_of w h tip r).presets ++ (terms_of w h tip r).candidates)
  unfolding terms_of presets_at
  terms_fit = both_fit w h tip r.rate rules book sound (replaced_txids (view_of w h) place) (spent_by (tx_at (view_of w h) place)) (once_apart (map (λ (i : TxIn). i.prev) inputs))

  pub terms_made : All (HasMaker h) ((terms_of w h tip r).presets ++ (terms_of w h tip r).candidates)
  unfolding terms_of presets_at
  terms_made = both_made w h tip r.rate rules book sound (replaced_txids (view_of w h) place) (spent_by (tx_at (view_of w h) place)) (once_apart (map (λ (i : TxIn). i.prev) inputs))

  pub presets_alone_fit : AreCandidates (terms_of w h tip r).presets
  unfolding terms_of presets_at
  presets_alone_fit = presets_fit w h tip r.rate rules book sound (replaced_txids (view_of w h) place) (spent_by (tx_at (view_of w h) place)) (once_apart (map (λ (i : TxIn). i.prev) inputs))

  pub terms_together : length (terms_of w h tip r).presets + length (terms_of w h tip r).candidates ≤ 100_000
  terms_together = let fit = terms_fit in let few = fit.count in let n = length-append (terms_of w h tip r).presets (terms_of w h tip r).candidates in omega (arith, few, n)

  abbrev gone : List (List ℕ)
  gone = replaced_txids (view_of w h) place

  abbrev test : Candidate → Bool
  test c = not (is_among (presets_at w h tip r.rate place) c) && not (is_listed gone c.coin.txid)

  pub candidates_alone_fit : AreCandidates (terms_of w h tip r).candidates
  unfolding terms_of
  candidates_alone_fit =
      let coins = confirmed_without_of w h tip gone in
      let fits = left_fit w h gone tip rules book sound in
      let few = length_kept test coins in
      let most = fits.count in
      record {
        each = All-filter test IsCandidate coins fits.each;
        count = omega (arith, few, most);
        distinct = AllPairs-filter (λ (a b : Candidate). a.coin ≢ b.coin) test coins fits.distinct;
      }

  pub presets_aside : (c d : Candidate) → Contains (terms_of w h tip r).presets c → Contains (terms_of w h tip r).candidates d → c.coin ≢ d.coin
  unfolding terms_of
  presets_aside c d first second =
      All-contains (λ (p : Candidate). p.coin ≢ d.coin) (presets_at w h tip r.rate place) c ((added_told (presets_at w h tip r.rate place) (confirmed_without_of w h tip gone) gone d).0 second).1 first

  pub terms_burden : (txid : List ℕ) → r.bump ≡ Some txid → fault_of w h r ≡ None → (terms_of w h tip r).burden ≤ 1_000_000_000_000_000_000
  unfolding terms_of
  terms_burden txid asked clear =
      let can : CanReplace w h r place = bump_clear w h r rules txid asked clear in
      burden_most (fees_in h (replaced_at (view_of w h) place)) (least_vsize r (terms_of w h tip r).presets) r.rate (fees_most h (replaced_at (view_of w h) place) can.few) (size_most r (terms_of w h tip r).presets presets_alone_fit)
