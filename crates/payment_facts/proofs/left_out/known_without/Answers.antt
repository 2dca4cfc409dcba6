use Rattle.std.proofs.Common.{◌≡◌, ◌∙◌, not, Bool, List, ℕ, filter, Vec, Global, None, Result, Ok, Err, sym, ap, subst, All}
use Rattle.std.specs.Prelude.{bytes_eq}
use Rattle.std.specs.List.{filter_map, list_any}
use Rattle.std.specs.Result.{IfOk, OnOk}
use Rattle.indexmap.specs.IndexSet.{contains}
use Rattle.coin_candidates.specs.Candidates.{AreCandidates}
use Rattle.fund_base.specs.Outpoints.{same_outpoint}
use Rattle.coin_candidates.specs.declared.candidate.Candidate.{Candidate}
use Rattle.fund_base.specs.declared.outpoint.OutPoint.{OutPoint}
use Rattle.tx_codec.specs.Transaction.{Transaction}
use Rattle.tx_codec.specs.Txid.{txid_of}
use Rattle.wallet_text.specs.PlainWallet.{PlainWallet}
use Rattle.wallet_text.specs.WalletRules.{AreDistinct, IsWallet, ParentsComeFirst}
use Rattle.coin_book.specs.Asked.{AreWaiting}
use Rattle.coin_book.specs.Coins.{coins_of}
use Rattle.coin_book.specs.Faults.{fault_of}
use Rattle.coin_book.specs.declared.coin.Coin.{Coin}
use Rattle.payment_states.specs.Candidates.{is_claimed, is_locked}
use Rattle.payment_facts.specs.LeftOut.{confirmed_without_of, history_without, left_by, left_of, wallet_without}
use Rattle.payment_states.specs.Makers.{HasMaker}
use Rattle.payment_states.specs.ByPlace.{view_by}
use Rattle.payment_states.specs.PendingView.{is_listed, view_of}
use Rattle.payment_states.proofs.AskedLaws.{waiting_all}
use Rattle.payment_facts.proofs.LeftSteps.{all_are, left_fit, makers_left}
use Rattle.payment_facts.proofs.left_out.known_without.Goals as goal

-- what two clauses say of the same value
both : {X E : Type 0} (r : Result X E) (P : Type 0) (Q R : X → Type 0) → ((x : X) → P → Q x → R x) → OnOk r P → IfOk r Q → IfOk r R
both (Ok x) P Q R f p q = f x p q
both (Err e) P Q R f p q = tt

-- a test that says the same of each is the same
same_test : (p : List ℕ → Bool) (gone : List (List ℕ)) → ((t : List ℕ) → p t ≡ is_listed gone t) → p ≡ is_listed gone
same_test p gone is = λ k. λ t. is t k

left_is : (p : List ℕ → Bool) (gone : List (List ℕ)) (ts us : List Transaction) → ((t : List ℕ) → p t ≡ is_listed gone t) → ts ≡ us → filter (λ (t : Transaction). not (p (txid_of t))) ts ≡ left_of gone us
left_is p gone ts us is same = λ k. filter (λ (t : Transaction). not (is (txid_of t) k)) (same k)

pub spoken_without-requires-clause-distinct : goal.spoken_without-requires-clause-distinct
spoken_without-requires-clause-distinct c = subst AreDistinct (sym c.deref.ensures.value) c.wallet.invariant.pending_distinct

pub spoken_without-requires-clause-parents : goal.spoken_without-requires-clause-parents
spoken_without-requires-clause-parents c = subst ParentsComeFirst (sym c.deref.ensures.value) c.wallet.invariant.parents

pub spoken_without-requires-clause-waiting : goal.spoken_without-requires-clause-waiting
spoken_without-requires-clause-waiting c =
    subst (AreWaiting c.args.book.now) (sym (c.deref.ensures.value ∙ ap (λ (w : PlainWallet). w.pending) c.wallet.view_is)) (waiting_all c.args.wallet.now c.args.book.now c.requires.book)

pub returns-clause-exact : goal.returns-clause-exact
returns-clause-exact c =
    let wallet = c.args.wallet.now in
    let h = c.args.book.now in
    let gone = c.args.gone.now in
    let w = view_of (wallet_without gone wallet) (history_without gone h) in
    let pending : c.deref.result.now ≡ wallet.pending = c.deref.ensures.value ∙ ap (λ (w : PlainWallet). w.pending) c.wallet.view_is in
    let left = left_is (contains bytes_eq c.in_ok-out.out) gone c.deref.result.now wallet.pending c.in_ok-out.ensures.has pending in
    let claimed : (o : OutPoint) → contains same_outpoint c.in_ok-spoken.spoken.claimed o ≡ is_claimed w o =
    λ o. c.in_ok-spoken.ensures.claimed o
    ∙ (λ k. is_claimed (view_by h.confirmed (left k) ((c.deref-2.ensures.value ∙ ap (λ (w : PlainWallet). w.abandoned) c.wallet.view_is) k)) o) in
    let locked : (o : OutPoint) → contains same_outpoint c.in_ok-spoken.spoken.locked o ≡ is_locked wallet o =
    λ o. c.in_ok-spoken.ensures.locked o ∙ ap (λ (os : List OutPoint). list_any (λ x. same_outpoint x o) os) (c.deref-3.ensures.value ∙ ap (λ (w : PlainWallet). w.locked) c.wallet.view_is) in
    let rules : IsWallet wallet = subst IsWallet c.wallet.view_is c.wallet.invariant in
    let given : List Candidate = filter_map (λ (x : Coin). left_by h (contains bytes_eq c.in_ok-out.out) c.args.tip (contains same_outpoint c.in_ok-spoken.spoken.claimed x.coin) (contains same_outpoint c.in_ok-spoken.spoken.locked x.coin) x) (coins_of h) in
    let same : fault_of h ≡ None → given ≡ confirmed_without_of wallet h c.args.tip gone =
    λ sound.
    ap (λ (p : List ℕ → Bool). filter_map (λ (x : Coin). left_by h p c.args.tip (contains same_outpoint c.in_ok-spoken.spoken.claimed x.coin) (contains same_outpoint c.in_ok-spoken.spoken.locked x.coin) x) (coins_of h)) (same_test (contains bytes_eq c.in_ok-out.out) gone c.in_ok-out.ensures.has)
    ∙ all_are gone wallet h rules c.requires.book sound c.args.tip (contains same_outpoint c.in_ok-spoken.spoken.claimed) (contains same_outpoint c.in_ok-spoken.spoken.locked) claimed locked in
    both c.all_left.result (fault_of h ≡ None) (λ (v : Vec Candidate Global). v.items ≡ given) (λ (v : Vec Candidate Global). v.items ≡ confirmed_without_of wallet h c.args.tip gone)
    (λ v sound is. is ∙ same sound) c.all_left.ensures.sound c.all_left.ensures.left

pub returns-clause-fit : goal.returns-clause-fit
returns-clause-fit c =
    let wallet = c.args.wallet.now in
    let h = c.args.book.now in
    let gone = c.args.gone.now in
    both c.all_left.result (fault_of h ≡ None) (λ (v : Vec Candidate Global). v.items ≡ confirmed_without_of wallet h c.args.tip gone) (λ (v : Vec Candidate Global). AreCandidates v.items)
    (λ v sound is. subst AreCandidates (sym is) (left_fit wallet h gone c.args.tip (subst IsWallet c.wallet.view_is c.wallet.invariant) c.requires.book sound)) c.all_left.ensures.sound (returns-clause-exact c)

pub returns-clause-makers : goal.returns-clause-makers
returns-clause-makers c =
    let wallet = c.args.wallet.now in
    let h = c.args.book.now in
    let gone = c.args.gone.now in
    both c.all_left.result (fault_of h ≡ None) (λ (v : Vec Candidate Global). v.items ≡ confirmed_without_of wallet h c.args.tip gone) (λ (v : Vec Candidate Global). All (HasMaker h) v.items)
    (λ v sound is. subst (λ (l : List Candidate). All (HasMaker h) l) (sym is) (makers_left gone wallet h (subst IsWallet c.wallet.view_is c.wallet.invariant) c.requires.book sound c.args.tip)) c.all_left.ensures.sound (returns-clause-exact c)
