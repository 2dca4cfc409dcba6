-- Committed payments spend no coin together.
use Rattle.std.specs.Prelude.{ℕ, ◌≡◌, ◌≢◌, ◌++◌, ◌||◌, List, [], ◌∷◌, All, Bool, true, false, not, Option, Some, None, Result, Ok, Err, length, nat_le}
use Rattle.std.proofs.Common.{refl, sym, ap, ◌∙◌, subst, inl, inr, cond, get_or}
use Rattle.std.specs.List.{list_any}
use Rattle.std.proofs.lemmas.Bool.{both_ways, or_parts}
use Rattle.std.proofs.lemmas.List.Elements.{All-cons, All-nil, All-head, All-tail}
use Rattle.std.proofs.lemmas.List.Kept.{AllPairs-filter}
use Rattle.std.proofs.lemmas.List.Quantifiers.{all_pairs_push}
use Rattle.std.proofs.lemmas.Option.{none-some}
use Rattle.fund_base.proofs.OutpointLaws.{same_outpoint-Decides}
use Rattle.fund_base.specs.Outpoints.{same_outpoint}
use Rattle.coin_candidates.specs.declared.candidate.Candidate.{Candidate}
use Rattle.fund_base.specs.declared.outpoint.OutPoint.{OutPoint}
use Rattle.fund_plan.specs.Selection.{PlainFunded}
use Rattle.fund_steps.specs.Plan.{PlainPlan}
use Rattle.request_text.specs.PlainRequest.{PlainRequest}
use Rattle.desk_machine.specs.Commands.{Command, Open, Turn, Commit, Close, Release, Blocks, Pending}
use Rattle.desk_machine.specs.Does.{Does}
use Rattle.desk_machine.specs.Machine.{by_funded, by_plan, by_taken, close_step, commit_by, commit_step, committed_of, funded_of, has_txid, open_step, plan_for, release_step, stay, taken_at, turn_step, with_committed, with_jobs, without_payment}
use Rattle.desk_machine.specs.Replies.{Refusal, AllOpen, Closed, NoJob, NotCommitted, Released, TakenName}
use Rattle.desk_machine.specs.Rules.{AreApart, ShareNone}
use Rattle.desk_machine.specs.Runs.{Runs, Said}
use Rattle.desk_machine.specs.State.{Job, Payment, PlainDesk, has_job, has_point, is_reserved, job_at, points, without_job}
use Rattle.desk_machine.specs.Taken.{first_taken, is_taken}

-- ---- a coin that no payment spends

-- none of these is the outpoint
pub none_at : (coins : List OutPoint) (o : OutPoint) → has_point coins o ≡ false → All (λ (a : OutPoint). a ≢ o) coins
none_at [] o e = All-nil _
none_at (a ∷ coins) o e = by (same_outpoint a o) refl e (none_at coins o)
  where
    by : (b : Bool) → same_outpoint a o ≡ b → (b || has_point coins o) ≡ false → (has_point coins o ≡ false → All (λ (x : OutPoint). x ≢ o) coins) → All (λ (x : OutPoint). x ≢ o) (a ∷ coins)
    by true is h more = absurd cc
    by false is h more = All-cons (λ (x : OutPoint). x ≢ o) a coins (λ same. absurd (both_ways (same_outpoint a o) is ((same_outpoint-Decides a o).1 same))) (more h)

-- no payment spends it
pub none_of : (ps : List Payment) (o : OutPoint) → is_reserved ps o ≡ false → All (λ (p : Payment). All (λ (a : OutPoint). a ≢ o) p.coins) ps
none_of [] o e = All-nil _
none_of (p ∷ ps) o e = by (has_point p.coins o) refl e (none_of ps o)
  where
    by : (b : Bool) → has_point p.coins o ≡ b → (b || is_reserved ps o) ≡ false → (is_reserved ps o ≡ false → All (λ (q : Payment). All (λ (a : OutPoint). a ≢ o) q.coins) ps) → All (λ (q : Payment). All (λ (a : OutPoint). a ≢ o) q.coins) (p ∷ ps)
    by true is h more = absurd cc
    by false is h more = All-cons (λ (q : Payment). All (λ (a : OutPoint). a ≢ o) q.coins) p ps (none_at p.coins o is) (more h)

-- where no coin is taken none is reserved
pub all_free : (ps : List Payment) (now : List Candidate) (r : PlainRequest) (n : ℕ) (coins : List Candidate) → first_taken ps now r n coins ≡ None → All (λ (c : Candidate). is_taken ps now r n c ≡ false) coins
all_free ps now r n [] e = All-nil _
all_free ps now r n (c ∷ coins) e = by (is_taken ps now r n c) refl e (all_free ps now r n coins)
  where
    by : (b : Bool) → is_taken ps now r n c ≡ b → cond b (Some c) (first_taken ps now r n coins) ≡ None → (first_taken ps now r n coins ≡ None → All (λ (x : Candidate). is_taken ps now r n x ≡ false) coins) → All (λ (x : Candidate). is_taken ps now r n x ≡ false) (c ∷ coins)
    by true is h more = absurd (none-some c (sym h))
    by false is h more = All-cons (λ (x : Candidate). is_taken ps now r n x ≡ false) c coins is (more h)

-- a payment of coins that aren't reserved shares none with the others
share_none : (p : Payment) (coins : List Candidate) → All (λ (c : Candidate). All (λ (a : OutPoint). a ≢ c.coin) p.coins) coins → ShareNone p (record { txid = p.txid; coins = points coins })
share_none p coins free = λ k d lt. by coins free (get_or p.coins k d) (λ c apart. apart k d lt)
  where
    by : (cs : List Candidate) → All (λ (c : Candidate). All (λ (a : OutPoint). a ≢ c.coin) p.coins) cs → (a : OutPoint) → ((c : Candidate) → All (λ (x : OutPoint). x ≢ c.coin) p.coins → a ≢ c.coin) → All (λ (b : OutPoint). a ≢ b) (points cs)
    by [] h a at = All-nil _
    by (c ∷ cs) h a at =
        let P : Candidate → Type 0 = λ x. All (λ (y : OutPoint). y ≢ x.coin) p.coins in
        All-cons (λ (b : OutPoint). a ≢ b) c.coin (points cs) (at c (All-head P c cs h)) (by cs (All-tail P c cs h) a at)

swap : (ps : List Payment) (coins : List Candidate) → All (λ (c : Candidate). All (λ (p : Payment). All (λ (a : OutPoint). a ≢ c.coin) p.coins) ps) coins
    → All (λ (p : Payment). All (λ (c : Candidate). All (λ (a : OutPoint). a ≢ c.coin) p.coins) coins) ps
swap ps coins h = λ k d lt. λ i e less. h i e less k d lt

free_all : (ps : List Payment) (now : List Candidate) (r : PlainRequest) (n : ℕ) (coins : List Candidate) → All (λ (c : Candidate). is_taken ps now r n c ≡ false) coins
    → All (λ (c : Candidate). All (λ (p : Payment). All (λ (a : OutPoint). a ≢ c.coin) p.coins) ps) coins
free_all ps now r n coins h = λ k d lt. none_of ps (get_or coins k d).coin (or_parts (is_reserved ps (get_or coins k d).coin) _ (h k d lt)).0

-- a payment that can be spent stands apart from those that are committed
pub apart_more : (ps : List Payment) (p : Payment) (now : List Candidate) (r : PlainRequest) (n : ℕ) (coins : List Candidate) → p.coins ≡ points coins → first_taken ps now r n coins ≡ None → AreApart ps → AreApart (ps ++ p ∷ [])
apart_more ps p now r n coins is none apart =
    let free = swap ps coins (free_all ps now r n coins (all_free ps now r n coins none)) in
    all_pairs_push ShareNone ps p apart
    (λ k d lt. subst (λ (os : List OutPoint). All (λ (a : OutPoint). All (λ (b : OutPoint). a ≢ b) os) (get_or ps k d).coins) (sym is) (share_none (get_or ps k d) coins (free k d lt)))

-- ---- one call

commit_apart : (d : PlainDesk) (name : List ℕ) → AreApart d.committed → AreApart (commit_step d name).next.committed
unfolding commit_step
commit_apart d name apart = by_job (job_at d.jobs name)
  where
    by_coin : (i : Job) (f : PlainFunded) (o : Option Candidate) → taken_at d i f ≡ o → AreApart (by_taken d name i f o).next.committed
    by_coin i f (Some c) e = apart
    by_coin i f None e = apart_more d.committed (committed_of d.held i f) _ i.state.plan.request f.row f.coins refl e apart

    by_payment : (i : Job) (o : Option PlainFunded) → AreApart (by_funded d name i o).next.committed
    by_payment i None = apart
    by_payment i (Some f) = by_coin i f (taken_at d i f) refl

    by_job : (o : Option Job) → AreApart (commit_by d name o).next.committed
    by_job None = apart
    by_job (Some i) = by_payment i (funded_of i.answer)

release_apart : (d : PlainDesk) (txid : List ℕ) → AreApart d.committed → AreApart (release_step d txid).next.committed
unfolding release_step
release_apart d txid apart = by (list_any (has_txid txid) d.committed)
  where
    by : (b : Bool) → AreApart (cond b (record { reply = Released; next = with_committed d (without_payment txid d.committed) }) (stay d NotCommitted)).next.committed
    by true = AllPairs-filter ShareNone (λ (p : Payment). not (has_txid txid p)) d.committed apart
    by false = apart

close_same : (d : PlainDesk) (name : List ℕ) → (close_step d name).next.committed ≡ d.committed
unfolding close_step
close_same d name = by (has_job d.jobs name)
  where
    by : (b : Bool) → (cond b (record { reply = Closed; next = with_jobs d (without_job name d.jobs) }) (stay d NoJob)).next.committed ≡ d.committed
    by true = refl
    by false = refl

open_same : (d : PlainDesk) (name request : List ℕ) → (open_step d name request).next.committed ≡ d.committed
unfolding open_step
open_same d name request = by (has_job d.jobs name) (nat_le 64 (length d.jobs)) (plan_for d request)
  where
    by : (a b : Bool) (p : Result PlainPlan Refusal) → (cond a (stay d TakenName) (cond b (stay d AllOpen) (by_plan d name p))).next.committed ≡ d.committed
    by true b p = refl
    by false true p = refl
    by false false (Err refusal) = refl
    by false false (Ok p) = refl

turn_same : (d : PlainDesk) (name : List ℕ) (n : ℕ) → (turn_step d name n).next.committed ≡ d.committed
unfolding turn_step
turn_same d name n = refl

one_apart : (d new : PlainDesk) (s : Said) → Does d s.command s.reply new → AreApart d.committed → AreApart new.committed
one_apart d new s does apart = by s.command does
  where
    from : new.committed ≡ d.committed → AreApart new.committed
    from is = subst AreApart (sym is) apart

    by : (c : Command) → Does d c s.reply new → AreApart new.committed
    by (Open name request) (inl h) = from (ap (λ (x : PlainDesk). x.committed) h.next_is ∙ open_same d name request)
    by (Open name request) (inr h) = from (ap (λ (x : PlainDesk). x.committed) h.leaves)
    by (Turn name n) (inl h) = from (ap (λ (x : PlainDesk). x.committed) h.next_is ∙ turn_same d name n)
    by (Turn name n) (inr h) = from (ap (λ (x : PlainDesk). x.committed) h.leaves.2)
    by (Commit name) (inl h) = subst AreApart (sym (ap (λ (x : PlainDesk). x.committed) h.next_is)) (commit_apart d name apart)
    by (Commit name) (inr h) = from (ap (λ (x : PlainDesk). x.committed) h.leaves)
    by (Close name) (inl h) = from (ap (λ (x : PlainDesk). x.committed) h.next_is ∙ close_same d name)
    by (Close name) (inr h) = from (ap (λ (x : PlainDesk). x.committed) h.leaves)
    by (Release txid) (inl h) = subst AreApart (sym (ap (λ (x : PlainDesk). x.committed) h.next_is)) (release_apart d txid apart)
    by (Release txid) (inr h) = from (ap (λ (x : PlainDesk). x.committed) h.leaves)
    by (Blocks bytes) (inl h) = from (ap (λ (x : PlainDesk). x.committed) h.next_is)
    by (Blocks bytes) (inr h) = from (ap (λ (x : PlainDesk). x.committed) h.leaves.1)
    by (Pending hex) (inl h) = from (ap (λ (x : PlainDesk). x.committed) h.next_is)
    by (Pending hex) (inr h) = from (ap (λ (x : PlainDesk). x.committed) h.leaves)

pub all_apart : (d new : PlainDesk) (said : List Said) → AreApart d.committed → Runs d said new → AreApart new.committed
all_apart d new [] apart runs = subst (λ (x : PlainDesk). AreApart x.committed) (sym runs) apart
all_apart d new (s ∷ rest) apart runs = all_apart runs.0 new rest (one_apart d runs.0 s runs.1 apart) runs.2
