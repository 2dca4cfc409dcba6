-- A report of the plan's answer is accepted with a log that has an accepted section for each search up to it.
use Rattle.std.specs.Prelude.{ℕ, ◌≡◌, ◌==◌, ◌+◌, not, cond, Bool, true, false, List, [], ◌∷◌, ◌++◌, Contains, All, Option, Some, None, unwrap_or}
use Rattle.std.specs.List.{AllByRecursion, AllZip}
use Rattle.std.proofs.Common.{refl, sym, ap, subst, inl, inr, ◌∙◌, append_assoc, arith}
use Rattle.std.proofs.lemmas.Bool.{both_ways}
use Rattle.std.proofs.lemmas.Bool.Decides.{Decides-eqb}
use Rattle.std.proofs.lemmas.List.{append-nil}
use Rattle.std.proofs.lemmas.List.Elements.{All-contains, filter-append}
use Rattle.closing_log.specs.Log.{PlainLog, PlainSection}
use Rattle.closing_log.specs.declared.log.Stage.{Stage}
use Rattle.closing_log.specs.declared.mark.Mark.{Mark}
use Rattle.closing_log.specs.declared.mark.Mark.TheVariants as mark
use Rattle.fee_rates.specs.Fee.{vsize_of}
use Rattle.fund_base.proofs.Lists.{in_tail}
use Rattle.coin_candidates.specs.declared.candidate.Candidate.{Candidate}
use Rattle.fund_plan.proofs.BringLaws.{once_in}
use Rattle.fund_plan.proofs.FoundLaws.{found_pays}
use Rattle.fund_plan.proofs.PaysLaws.{pays_within}
use Rattle.fund_plan.proofs.RowLaws.{found_in, row_fair}
use Rattle.fund_plan.proofs.GivenLaws.{alone_means, ended_none, given_mark}
use Rattle.fund_plan.proofs.OutcomeLaws.{end_done}
use Rattle.fund_plan.specs.Answer.{ArePayments, IsAtHand, IsAtHandBy, IsPayment}
use Rattle.fund_plan.specs.Chosen.{funded_at, load_for, mark_of, no_row, row_of}
use Rattle.fund_plan.specs.Figures.{waste_of}
use Rattle.fund_plan.specs.Outcome.{by_end}
use Rattle.fund_plan.specs.Pays.{Pays, outputs_of, payment_of, payment_weight}
use Rattle.fund_plan.specs.Selection as plans
use Rattle.fund_plan.specs.Steps.{is_given, pool_in, steps_of}
use Rattle.fund_plan.specs.declared.outcome.Outcome.TheVariants as outcomes
use Rattle.fund_report.specs.PlainFunded.{PlainFunded}
use Rattle.fund_report.specs.declared.report.Report.TheVariants.{Funded, NoSelection}
use Rattle.fund_steps.specs.Amounts.{value_of}
use Rattle.fund_steps.proofs.WholeLaws.{given_none}
use Rattle.fund_steps.specs.Basis.{basis_of}
use Rattle.fund_steps.specs.Plan.{IsPlan, PlainPlan}
use Rattle.fund_steps.specs.Selection.{is_listed, unlisted}
use Rattle.output_groups.proofs.Members.{all_from, from_filter, head_in}
use Rattle.output_groups.proofs.PoolLaws.{pool_meets}
use Rattle.output_groups.proofs.SortLaws.{is_pool}
use Rattle.output_groups.specs.Ladder.{Meets}
use Rattle.output_groups.specs.declared.rows.Row.{Row}
use Rattle.search_run.specs.Answer.{AreResults, HasNone, IsFirstTaken}
use Rattle.search_run.specs.Found.{IsResultOf, PlainFound}
use Rattle.search_run.specs.Searched.{AreSectionsOf, IsSectionOf, searches}
use Rattle.search_run.specs.Step.{AreSteps, PlainStep, is_drawn}
use Rattle.search_run.specs.declared.ending.End.TheVariants as ends
use Rattle.tx_codec.specs.Transaction.{Transaction}
use Rattle.report_check.specs.Answer.{IsAnsweredBy, IsNamedAnswer, IsToldAnswer, NamesOutcome}
use Rattle.report_check.specs.DueSections.{AreFor, AreRightBy, AreUpTo, HasStepAt}
use Rattle.report_check.specs.Payment.{IsNamedRow, MayBeSpent}
use Rattle.report_check.specs.Proved.{AreProved, HasTries, IsEndedText, IsProvedFor}
use Rattle.report_check.specs.Verdict.{IsAccepted, IsPaid}
use Rattle.report_check.specs.Vouched.{IsOfPayment}
use Rattle.report_check.proofs.AnsweredLaws.{IsBestFor, never_none, told_first, told_none_of}
use Rattle.report_check.proofs.BackedLaws.{front_searched}
use Rattle.report_check.proofs.PaidLaws.{row_is}
use Rattle.report_check.proofs.ResultLaws.{answer_ends}
use Rattle.report_check.proofs.ToldLaws.{asked_by}

-- ---- the payment

-- a coin that is at hand for a row may be spent in it
spend_by : (p : PlainPlan) (n : ℕ) (c : Candidate) (b : Bool) → IsPlan p → IsNamedRow p n → (n == 0) ≡ b → IsAtHandBy p b n c → MayBeSpent p n c
spend_by p n c true plan named e at = inl at
spend_by p n c false plan named e (inl preset) = inl preset
spend_by p n c false plan (inl zero) e (inr (g, in_pool, in_group)) = absurd (both_ways (n == 0) e ((Decides-eqb n 0).1 zero))
spend_by p n c false plan (inr (row, at)) e (inr (g, in_pool, in_group)) =
    let r = p.request in
    let rest = unlisted r.coins p.candidates in
    let own : row_of p n ≡ row = ap (λ (o : Option Row). unwrap_or o no_row) (row_is p n row at) in
    let all = pool_meets r.group (row_of p n) r.rate r.long_term rest (pool_in p (row_of p n)) (row_fair p n) (is_pool r.group (row_of p n) r.rate r.long_term rest) in
    let met = All-contains (Meets (row_of p n)) g c (All-contains (λ (x : List Candidate). All (Meets (row_of p n)) x) (pool_in p (row_of p n)).groups g all in_pool) in_group in
    let among = All-contains (Contains rest) g c (All-contains (λ (x : List Candidate). All (Contains rest) x) (pool_in p (row_of p n)).groups g (once_in p (row_of p n) plan).held in_pool) in_group in
    inr ((from_filter (λ (d : Candidate). not (is_listed r.coins d.coin)) p.candidates c among).0, (row, at, subst (λ (x : Row). Meets x c) own met))

record At (p : PlainPlan) (f : PlainFunded) (t : Transaction) (coins : List Candidate) (n : ℕ) (change : Option ℕ) : Type 0 where
  pays : Pays p.request p.change (load_for p n) coins change t
  spendable : All (MayBeSpent p n) coins
  named : IsNamedRow p n
  weight : f.weight ≡ payment_weight (load_for p n) coins change
  fee : value_of coins ≡ outputs_of p.request change + f.fee
  waste : f.waste ≡ waste_of p.request (load_for p n) coins change

pub paid_of : (p : PlainPlan) (f : PlainFunded) (g : plans.PlainFunded) → IsPlan p → IsNamedRow p g.row → IsPayment p g → IsOfPayment p f g → IsPaid p (Funded f)
paid_of p f g plan named payment h =
    let t = h.psbt.tx in
    let within = pays_within p.request p.change (load_for p g.row) g.coins g.change (payment_of p.request p.change g) payment.pays in
    let at : At p f t g.coins g.row g.change = record {
      pays = subst (Pays p.request p.change (load_for p g.row) g.coins g.change) (sym h.transaction) payment.pays;
      spendable = all_from (MayBeSpent p g.row) g.coins (λ c there. spend_by p g.row c (g.row == 0) plan named refl (All-contains (IsAtHand p g.row) g.coins c payment.at_hand there));
      named = named;
      weight = h.weight ∙ payment.weight_is;
      fee = let sum = h.fee in omega (arith, sum, within);
      waste = h.waste ∙ payment.waste_is;
    } in
    let k : At p f t g.coins f.row f.change = subst (λ (n : ℕ). At p f t g.coins n f.change) (sym h.names.row) (subst (λ (c : Option ℕ). At p f t g.coins g.row c) (sym h.change) at) in (
      h.psbt,
      h.text,
      record {
        coins = g.coins;
        row = k.named;
        spendable = k.spendable;
        presets = payment.presets;
        pays = k.pays;
        lines = h.names.coins;
        weight = k.weight;
        vsize = h.vsize ∙ ap vsize_of (sym h.weight);
        fee = k.fee;
        waste = k.waste;
        shows = h.shows;
      },
    )

-- ---- sections of first searches

named_all : (xs : List PlainStep) (ss : List PlainSection) → AllZip IsSectionOf xs ss → AreFor xs ss
named_all [] [] h = tt
named_all [] (s ∷ ss) h = absurd h
named_all (x ∷ xs) [] h = absurd h
named_all (x ∷ xs) (s ∷ ss) h = (h.0.names, named_all xs ss h.1)

best_all : (xs : List PlainStep) (ss : List PlainSection) → AllZip IsSectionOf xs ss → AllZip IsBestFor xs ss
best_all [] [] h = tt
best_all [] (s ∷ ss) h = absurd h
best_all (x ∷ xs) [] h = absurd h
best_all (x ∷ xs) (s ∷ ss) h = (h.0.best, best_all xs ss h.1)

proved_all : (xs : List PlainStep) (ss : List PlainSection) → AllZip IsSectionOf xs ss → AllZip IsProvedFor xs ss
proved_all [] [] h = tt
proved_all [] (s ∷ ss) h = absurd h
proved_all (x ∷ xs) [] h = absurd h
proved_all (x ∷ xs) (s ∷ ss) h = (h.0.accepted, proved_all xs ss h.1)

are_proved : (steps upto rest : List PlainStep) (sections : List PlainSection) → steps ≡ upto ++ rest → AreSectionsOf upto sections → AreProved steps sections
are_proved steps upto rest sections e h = record {
  front = searches upto;
  rest = searches rest;
  parts = ap searches e ∙ filter-append (λ (x : PlainStep). not (is_drawn x.stage)) upto rest;
  each = proved_all (searches upto) sections h;
}

-- the step from which a result of a column is
taken_step : (seed : List ℕ) (xs : List PlainStep) (fs front rest : List PlainFound) (g : PlainFound) → AreResults seed xs fs → fs ≡ front ++ g ∷ rest → (x : PlainStep) × Contains xs x × (g.row ≡ x.row) × (g.stage ≡ x.stage)
taken_step seed [] fs [] rest g h e = absurd (let x = sym h ∙ e in cc)
taken_step seed [] fs (q ∷ front) rest g h e = absurd (let x = sym h ∙ e in cc)
taken_step seed (x ∷ xs) fs front rest g (None, told, (gs, parts, more)) e =
    let r = taken_step seed xs gs front rest g more (sym parts ∙ e) in (r.0, in_tail x xs r.0 r.1, r.2, r.3)
taken_step seed (x ∷ xs) fs [] rest g (Some q, told, (gs, parts, more)) e =
    (x, head_in x xs, (let y = sym parts ∙ e in cc), (let y = sym parts ∙ e in cc))
taken_step seed (x ∷ xs) fs (t ∷ front) rest g (Some q, told, (gs, parts, more)) e =
    let r = taken_step seed xs gs front rest g more (let y = sym parts ∙ e in cc) in (r.0, in_tail x xs r.0 r.1, r.2, r.3)

not_given : (b : Bool) → cond b mark.Drawn mark.Exhausted ≡ mark.Given → ⊥
not_given true e = cc
not_given false e = cc

not_partial : (b : Bool) → cond b mark.Drawn mark.Exhausted ≡ mark.Partial → ⊥
not_partial true e = cc
not_partial false e = cc

right_by : (m : Mark) (b : Bool) (steps : List PlainStep) (row : ℕ) (stage : Stage) (due : List PlainStep) (sections : List PlainSection) → m ≡ cond b mark.Drawn mark.Exhausted → AreUpTo steps row stage due → AreFor due sections → AreRightBy m steps row stage sections
right_by m true steps row stage due sections e h k = subst (λ (x : Mark). AreRightBy x steps row stage sections) (sym e) (due, h, k)
right_by m false steps row stage due sections e h k = subst (λ (x : Mark). AreRightBy x steps row stage sections) (sym e) (due, h, k)

-- ---- the answer of a search or a draw

pub found_accepted : (p : PlainPlan) (f : PlainFunded) (found : PlainFound) (bytes : List ℕ) (log : PlainLog) → IsPlan p → AreSteps (steps_of p) → (first : IsFirstTaken p.request.seed (steps_of p) found) → IsOfPayment p f (funded_at p (mark_of found.stage) found) → IsEndedText bytes log →
    AreSectionsOf (first.front ++ first.column) log.closed → HasTries (Funded f) log.closed → IsAccepted p (Funded f) bytes
found_accepted p f found bytes log plan steps first h text sections tries =
    let seed = p.request.seed in
    let g = funded_at p (mark_of found.stage) found in
    let upto = first.front ++ first.column in
    let parts : steps_of p ≡ upto ++ first.rest = first.parts ∙ sym (append_assoc first.front first.column first.rest) in
    let result : IsResultOf (steps_of p) found = answer_ends seed (steps_of p) (Some found) steps first in
    let source = found_in p found result in
    let number : source.row.number ≡ found.row = sym (ap (λ (x : PlainFound). x.row) source.is) in
    let paid : IsPaid p (Funded f) = paid_of p f g plan (inr (source.row, (source.in_ladder, number))) (found_pays p (mark_of found.stage) found plan result) h in
    let due : AreFor (searches upto) log.closed = named_all (searches upto) log.closed sections in
    let proved : AreProved (steps_of p) log.closed = are_proved (steps_of p) upto first.rest log.closed parts sections in
    let upto_first : IsFirstTaken seed upto found = record {
      front = first.front;
      column = first.column;
      rest = [];
      parts = ap (λ (xs : List PlainStep). first.front ++ xs) (sym (append-nil first.column));
      whole = first.whole;
      none = first.none;
      one = first.one;
      found = first.found;
      results = first.results;
      taken = first.taken;
    } in
    let told = told_first seed (steps_of p) upto first.rest log.closed found parts due (best_all (searches upto) log.closed sections) upto_first in
    let named : IsNamedAnswer p (Funded f) log.closed = (Some found, told, h.names) in
    let apart : f.mark ≡ mark.Given → ⊥ = λ e. not_given (is_drawn found.stage) (sym h.names.mark ∙ e) in
    let whole : f.mark ≡ mark.Partial → ⊥ = λ e. not_partial (is_drawn found.stage) (sym h.names.mark ∙ e) in
    let step = taken_step seed first.column first.found first.taken.front first.taken.rest found first.results first.taken.parts in
    let has : HasStepAt first.column f.row f.stage = (step.0, step.1, sym (h.names.row ∙ step.2), sym (h.names.stage ∙ step.3)) in
    let before : HasStepAt first.front f.row f.stage → ⊥ = λ at. never_none p f first.front (first.column ++ first.rest) log.closed steps (front_searched (steps_of p) upto first.rest log.closed parts due proved) first.parts apart at first.none named in
    let at : AreUpTo (steps_of p) f.row f.stage (searches upto) = inl (
      upto,
      record {
        front = first.front;
        column = first.column;
        rest = first.rest;
        parts = first.parts;
        whole = first.whole;
        before = before;
        one = first.one;
        has = has;
        upto_is = refl;
      },
      refl,
    ) in (
      paid,
      (
        log,
        text,
        record {
          sections = right_by f.mark (is_drawn found.stage) (steps_of p) f.row f.stage (searches upto) log.closed h.names.mark at due;
          proved = proved;
          tries = tries;
          answer = (asked_by f.mark p f log.closed whole).0 named;
        },
      ),
    )

-- ---- no answer

pub none_accepted : (p : PlainPlan) (tries : ℕ) (bytes : List ℕ) (log : PlainLog) → AreSteps (steps_of p) → AllByRecursion (HasNone p.request.seed) (steps_of p) → by_end p (ends.Ended None) ≡ outcomes.NoSelection → IsEndedText bytes log →
    AreSectionsOf (steps_of p) log.closed → HasTries (NoSelection tries) log.closed → IsAccepted p (NoSelection tries) bytes
none_accepted p tries bytes log steps none is text sections count =
    let due : AreFor (searches (steps_of p)) log.closed = named_all (searches (steps_of p)) log.closed sections in
    let best = best_all (searches (steps_of p)) log.closed sections in
    let told = told_none_of p.request.seed (steps_of p) log.closed (steps_of p) due best (λ x there. there) none in (
      log,
      text,
      record {
        sections = due;
        proved = are_proved (steps_of p) (steps_of p) [] log.closed (sym (append-nil (steps_of p))) sections;
        tries = count;
        answer = (None, told, subst (NamesOutcome (NoSelection tries)) (sym is) tt);
      },
    )

-- ---- the presets alone

pub given_accepted : (p : PlainPlan) (f : PlainFunded) (g : plans.PlainFunded) (bytes : List ℕ) (log : PlainLog) → IsPlan p → is_given p ≡ true → by_end p (ends.Ended None) ≡ outcomes.Funded g → IsOfPayment p f g → IsEndedText bytes log →
    log.closed ≡ [] → HasTries (Funded f) log.closed → IsAccepted p (Funded f) bytes
given_accepted p f g bytes log plan given is h text empty tries =
    let none : steps_of p ≡ [] = given_none (basis_of p) given in
    let payment : IsPayment p g = subst (ArePayments p) is (end_done p (ends.Ended None) plan tt).payments in
    let alone = alone_means p (outcomes.Funded g) plan is in
    let row : g.row ≡ 0 = ap (λ (x : plans.PlainFunded). x.row) alone.2 in
    let marked : f.mark ≡ mark.Given = h.names.mark ∙ given_mark p g (sym (ended_none p) ∙ is) in
    let paid : IsPaid p (Funded f) = paid_of p f g plan (inl row) payment h in
    let told : IsToldAnswer p.request.seed log.closed (steps_of p) None = subst (λ (xs : List PlainStep). IsToldAnswer p.request.seed log.closed xs None) (sym none) tt in
    let named : IsNamedAnswer p (Funded f) log.closed = (None, told, subst (NamesOutcome (Funded f)) (sym is) h.names) in (
      paid,
      (
        log,
        text,
        record {
          sections = subst (λ (m : Mark). AreRightBy m (steps_of p) f.row f.stage log.closed) (sym marked) empty;
          proved = subst (AreProved (steps_of p)) (sym empty) (record { front = []; rest = searches (steps_of p); parts = refl; each = tt });
          tries = tries;
          answer = subst (λ (m : Mark). IsAnsweredBy m p f log.closed) (sym marked) named;
        },
      ),
    )
