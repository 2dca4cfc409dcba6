-- The amount is the most that the listed coins of the plan pay.
use Rattle.std.proofs.Common.{◌≡◌, ◌∙◌, ℕ, List, Option, Some, None, Result, Ok, Err, String, string_bytes, refl, sym, ap, subst, inl}
use Rattle.std.specs.Prelude.{◌≢◌, Bool, true, false, IsSome, map, option_map, unwrap_or}
use Rattle.std.specs.declared.alloc.Global.{Global}
use Rattle.fund_base.specs.Parsing.{YieldsAll}
use Rattle.coin_candidates.specs.declared.candidate.Candidate.{Candidate}
use Rattle.fee_bump.specs.Bump.{terms_of}
use Rattle.fund_shelf.specs.Causes.{ShelfView}
use Rattle.fund_files.specs.FileStops.{StopsChain}
use Rattle.fund_files.specs.Joined.{IsChainOf}
use Rattle.fund_files.specs.declared.chain.Chain.{Chain}
use Rattle.fund_files.specs.declared.refusal.File.{File}
use Rattle.fund_files.specs.declared.refusal.File.TheVariants.{Blocks, Wallet}
use Rattle.fund_files.specs.declared.stop.Stop.{Stop}
use Rattle.fund_files.specs.declared.stop.Stop.TheVariants as stops
use Rattle.fund_steps.specs.Plan.{PlainPlan}
use Rattle.request_making.specs.Asked.{asked_of}
use Rattle.request_text.specs.PlainRequest.{PlainRequest}
use Rattle.request_text.specs.declared.fault.Refusal.{Refusal}
use Rattle.wallet_text.specs.declared.wallet.Watch.{Watch}
use Rattle.command_inputs.specs.Outcome.{candidates_in, plan_by, plan_of}
use Rattle.coin_maximum.specs.Maximum.{IsMaximum, plan_with}
use Rattle.pay_words.specs.Asked.{asked_in, plain_asked}
use Rattle.pay_words.specs.declared.asked.Asked.{Asked}
use Rattle.pay_words.specs.declared.asked.Names.{Names}
use Rattle.max_words.specs.Filled.{IsAmount, IsFilled, IsNotAsked, IsNotFilled, IsTried}
use Rattle.max_words.specs.Words.{IsOfWords, filled, has_others, taken_of}
use Rattle.max_words.specs.declared.fault.MaxFault.{MaxFault}
use Rattle.max_words.specs.declared.fault.MaxFault.TheVariants as faults

-- ---- the plan

module _ (k : Chain) (r : PlainRequest) (change : Watch) (coins : List Candidate) (change_is : change ≡ k.wallet.change) (coins_are : coins ≡ candidates_in k r.rate) where
  plan_same : r.bump ≡ None → plan_with r change coins ≡ plan_of k r
  plan_same bump =
      ap (λ (w : Watch). plan_with r w coins) change_is
      ∙ ap (λ (cs : List Candidate). plan_with r k.wallet.change cs) coins_are
      ∙ ap (λ (b : Option (List ℕ)). plan_by k r (option_map (λ (txid : List ℕ). terms_of k.wallet k.book k.tip.height r) b)) (sym bump)

  -- a payment that is replaced
  replaced : (txid : List ℕ) (o : Option ℕ) → r.bump ≡ Some txid → IsMaximum (plan_with r change coins) o → IsMaximum (plan_of k r) o
  replaced txid (Some n) bump most = let both : Some txid ≡ None = sym bump ∙ most.0 in absurd cc
  replaced txid None bump most = inl (subst (λ (b : Option (List ℕ)). IsSome b) (sym bump) refl)

  most_by : (b : Option (List ℕ)) (o : Option ℕ) → r.bump ≡ b → IsMaximum (plan_with r change coins) o → IsMaximum (plan_of k r) o
  most_by None o bump most = subst (λ (p : PlainPlan). IsMaximum p o) (plan_same bump) most
  most_by (Some txid) o bump most = replaced txid o bump most

  pub amount_is : (n : ℕ) (most known : Option ℕ) → known ≡ most → n ≡ unwrap_or most 2_100_000_000_000_000 → IsMaximum (plan_with r change coins) known → IsAmount (plan_of k r) n
  amount_is n most known is amount told = (most, most_by r.bump most refl (subst (λ (o : Option ℕ). IsMaximum (plan_with r change coins) o) is told), amount)

-- ---- the words

-- with a fault of the words, when there is no other recipient
pub not_asked : (drawn : List ℕ) (words : List (String Global)) (place : ℕ) (said : List (String Global)) (fault : MaxFault) → has_others words ≡ false → map string_bytes said ≡ filled words place 2_100_000_000_000_000
    → (fault ≢ faults.Memory → taken_of place (asked_in drawn said) ≡ Err fault) → IsOfWords fault → IsNotAsked drawn words place fault
not_asked drawn words place said (faults.Others it) one is tried own = absurd own
not_asked drawn words place said (faults.Words fault) one is tried own = (one, record { said = said; said_is = is; tried_is = tried (λ short. absurd cc) })
not_asked drawn words place said (faults.NotManual it) one is tried own = (one, record { said = said; said_is = is; tried_is = tried (λ short. absurd cc) })
not_asked drawn words place said (faults.NoCoins it) one is tried own = (one, record { said = said; said_is = is; tried_is = tried (λ short. absurd cc) })
not_asked drawn words place said (faults.Stopped names stop) one is tried own = absurd own
not_asked drawn words place said faults.Memory one is tried own = tt

-- what is taken has one recipient
alone : (words : List (String Global)) (place : ℕ) (r : Result Asked MaxFault) (asked : Asked) → r ≡ Ok asked → (has_others words ≡ true → r ≡ Err (faults.Others place)) → has_others words ≡ false
alone words place r asked taken others = by (has_others words) refl
  where
    by : (b : Bool) → has_others words ≡ b → has_others words ≡ false
    by true more = let both : Ok asked ≡ Err (faults.Others place) = sym taken ∙ others more in absurd cc
    by false one = one

-- what is asked, by what the words say
pub record IsAsked (drawn : List ℕ) (words : List (String Global)) (place : ℕ) (r : Result Asked MaxFault) : Type 0 where
  pub others : has_others words ≡ true → r ≡ Err (faults.Others place)
  pub asks : has_others words ≡ false → r ≢ Err faults.Memory → (said : List (String Global)) × (map string_bytes said ≡ filled words place 2_100_000_000_000_000) × YieldsAll faults.Memory plain_asked r (taken_of place (asked_in drawn said))

pub tried_so : (drawn : List ℕ) (words : List (String Global)) (place : ℕ) (asked : Asked) (r : Result Asked MaxFault) → r ≡ Ok asked → IsAsked drawn words place r → (has_others words ≡ false) × IsTried drawn words place (Ok (plain_asked asked))
tried_so drawn words place asked r taken by_words =
    let one = alone words place r asked taken by_words.others in
    let s = by_words.asks one (λ short. let both : Ok asked ≡ Err faults.Memory = sym taken ∙ short in absurd cc) in
    (one, record { said = s.0; said_is = s.1; tried_is = subst (λ (x : Result Asked MaxFault). YieldsAll faults.Memory plain_asked x (taken_of place (asked_in drawn s.0))) taken s.2 })

-- what makes the words with an amount
pub record IsFound (told : Type 0) (files : List ℕ → List ℕ) (asked : Asked) (k : Chain) (amount : ℕ) : Type 0 where
  pub held : IsChainOf told (files (string_bytes asked.names.wallet)) (files (string_bytes asked.names.blocks)) k
  pub most : (q : PlainRequest) → asked_of asked.payments.items asked.coins.items asked.settings ≡ Ok q → IsAmount (plan_of k q) amount
  pub unasked : (fault : Refusal) → asked_of asked.payments.items asked.coins.items asked.settings ≡ Err fault → amount ≡ 2_100_000_000_000_000

pub filled_so : (told : Type 0) (files : List ℕ → List ℕ) (drawn : List ℕ) (words : List (String Global)) (place amount : ℕ) (out : List (List ℕ)) (asked : Asked) (r : Result Asked MaxFault) (k : Chain)
    → r ≡ Ok asked → IsAsked drawn words place r → IsFound told files asked k amount → out ≡ filled words place amount → IsFilled told files drawn words place out
filled_so told files drawn words place amount out asked r k taken by_words found out_is =
    let tried = tried_so drawn words place asked r taken by_words in
    record {
      amount = amount;
      out_is = out_is;
      alone = tried.0;
      asked = asked;
      asks = tried.1;
      chain = k;
      held = found.held;
      most = found.most;
      unasked = found.unasked;
    }

-- ---- the files stop it

module _ (told : Type 0) (old new : ShelfView) (drawn : List ℕ) (words : List (String Global)) (place : ℕ) where
  -- no file is read before
  pub not_filled : (fault : MaxFault) → IsNotAsked drawn words place fault → IsNotFilled told old new drawn words place fault
  not_filled (faults.Others it) why = why
  not_filled (faults.Words fault) why = why
  not_filled (faults.NotManual it) why = why
  not_filled (faults.NoCoins it) why = why
  not_filled (faults.Stopped names stop) why = absurd why
  not_filled faults.Memory why = why

  pub files_stop : (asked : Asked) (stop : Stop) (fault : MaxFault) → (stop ≡ stops.Memory → fault ≡ faults.Memory) → (stop ≢ stops.Memory → fault ≡ faults.Stopped asked.names stop)
      → (has_others words ≡ false) × IsTried drawn words place (Ok (plain_asked asked)) → StopsChain told (string_bytes asked.names.wallet) (string_bytes asked.names.blocks) old new stop
      → IsNotFilled told old new drawn words place fault
  files_stop asked (stops.Read file) fault short named tried why =
      let other : stops.Read file ≢ stops.Memory = λ is. absurd cc in
      subst (λ (f : MaxFault). IsNotFilled told old new drawn words place f) (sym (named other)) (tried.0, other, (asked, refl, tried.1, why))
  files_stop asked (stops.Refused refusal) fault short named tried why =
      let other : stops.Refused refusal ≢ stops.Memory = λ is. absurd cc in
      subst (λ (f : MaxFault). IsNotFilled told old new drawn words place f) (sym (named other)) (tried.0, other, (asked, refl, tried.1, why))
  files_stop asked stops.Memory fault short named tried why = subst (λ (f : MaxFault). IsNotFilled told old new drawn words place f) (sym (short refl)) tt

-- a read that is told as none of these files' didn't fail
pub unread : {X Y R : Type 0} (names : Names) (stop : Stop) (fault : MaxFault) → (stop ≢ stops.Memory → fault ≡ faults.Stopped names stop)
    → ((ns : Names) (file : File) → ◌≡◌ {A = Result X MaxFault} (Err fault) (Err (faults.Stopped ns (stops.Read file))) → ⊥)
    → ((◌≡◌ {A = Result Y Stop} (Err stop) (Err (stops.Read Wallet)) → ⊥) → (◌≡◌ {A = Result Y Stop} (Err stop) (Err (stops.Read Blocks)) → ⊥) → R) → R
unread {X = X} {Y = Y} names stop fault named none by = by (λ e. read Wallet (same stop (stops.Read Wallet) e)) (λ e. read Blocks (same stop (stops.Read Blocks) e))
  where
    told : MaxFault → Result X MaxFault
    told f = Err f

    same : (a b : Stop) → ◌≡◌ {A = Result Y Stop} (Err a) (Err b) → a ≡ b
    same a b e = cc

    read : (file : File) → stop ≡ stops.Read file → ⊥
    read file is =
        let other : stop ≢ stops.Memory = λ short. (let both : stops.Read file ≡ stops.Memory = sym is ∙ short in absurd cc) in
        none names file (ap told (named other ∙ ap (λ (s : Stop). faults.Stopped names s) is))
