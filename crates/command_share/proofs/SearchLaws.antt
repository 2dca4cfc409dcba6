-- What the searches of both rows come to.
use Rattle.std.specs.Prelude.{ℕ, ◌≡◌, ◌<◌, ◌+◌, ◌-◌, false, List, [], ◌∷◌, ◌++◌, Result, Ok, Err, IfOk, IfErr}
use Rattle.std.proofs.Common.{sym, ap, subst, ◌∙◌, arith, inl, inr}
use Rattle.closing_log.specs.Log.{PlainSection}
use Rattle.coin_candidates.specs.declared.candidate.Candidate.{Candidate}
use Rattle.fee_sharing.specs.RowShares.{KeepsWorth, walk_in}
use Rattle.fund_steps.specs.declared.fault.PlanFault.{PlanFault}
use Rattle.fund_steps.specs.declared.fault.PlanFault.TheVariants as plans
use Rattle.request_text.specs.PlainRequest.{PlainRequest}
use Rattle.wallet_text.specs.declared.wallet.Watch.{Watch}
use Rattle.command_share.specs.Paying.{PlainPaying}
use Rattle.command_share.specs.Rows.{AreCrowded, AreSearches, EndsRow, IsCrowdedRow, PlainRun, after_row, beginning, by_first, first_row, searched, second_row, then_second}
use Rattle.command_share.specs.declared.rows.RowsEnd.{RowsEnd}
use Rattle.command_share.specs.declared.rows.RowsEnd.TheVariants as ends

whole : (n : ℕ) → n - 0 ≡ n
whole n = omega arith

none_plus : (n : ℕ) → 0 + n ≡ n
none_plus n = omega arith

module _ (r : PlainRequest) (w : Watch) (cs : List Candidate) where
  -- row 1 alone
  pub first_run : (run : PlainRun) → after_row r w first_row cs beginning ≡ Ok run → searched r w cs ≡ by_first r w cs run run.end
  first_run run is = ap (then_second r w cs) is

  pub first_found : (run : PlainRun) (f : PlainPaying) → after_row r w first_row cs beginning ≡ Ok run → run.end ≡ ends.Found f → EndsRow r w first_row cs beginning run run.end
      → (searched r w cs ≡ Ok run) × AreSearches r w cs run run.end
  first_found run f is e h =
      let at = subst (EndsRow r w first_row cs beginning run) e h in (
        first_run run is ∙ ap (by_first r w cs run) e,
        subst (AreSearches r w cs run) (sym e) (inl (record { first = at.0; sections_are = at.1; chosen = at.2 })),
      )

  pub first_open : (run : PlainRun) (number : ℕ) → after_row r w first_row cs beginning ≡ Ok run → run.end ≡ ends.Open number → EndsRow r w first_row cs beginning run run.end
      → (searched r w cs ≡ Ok run) × AreSearches r w cs run run.end
  first_open run number is e h =
      let at = subst (EndsRow r w first_row cs beginning run) e h in (
        first_run run is ∙ ap (by_first r w cs run) e,
        subst (AreSearches r w cs run) (sym e)
            (inl (record { number_is = at.0; open_walk = subst (λ (n : ℕ). (walk_in r w first_row cs n).done ≡ false) (whole r.tries) at.3 }), at.2),
      )

  -- both rows
  pub second_run : (first : PlainRun) → after_row r w first_row cs beginning ≡ Ok first → first.end ≡ ends.Nothing → searched r w cs ≡ after_row r w second_row cs first
  second_run first is e = first_run first is ∙ ap (by_first r w cs first) e

  means_second : (first run : PlainRun) (end : RowsEnd) → EndsRow r w first_row cs beginning first ends.Nothing → EndsRow r w second_row cs first run end → AreSearches r w cs run end
  means_second first run ends.Nothing before h =
      record { first = before.0; second = h.0; sections_are = h.2 ∙ ap (λ (l : List PlainSection). l ++ h.0 ∷ []) before.2; none = before.1; neither = h.1 }
  means_second first run (ends.Found f) before h =
      inr (record { first = before.0; second = h.0; sections_are = h.1 ∙ ap (λ (l : List PlainSection). l ++ h.0 ∷ []) before.2; none = before.1; chosen = h.2 })
  means_second first run (ends.Open number) before h =
      (inr (record { number_is = h.0; first = before.0; none = before.1; open_walk = subst (λ (n : ℕ). (walk_in r w second_row cs (r.tries - n)).done ≡ false) (before.3 ∙ none_plus before.1.search.tries) h.3 }), h.2)

  pub both_rows : (first run : PlainRun) → after_row r w first_row cs beginning ≡ Ok first → first.end ≡ ends.Nothing → EndsRow r w first_row cs beginning first first.end → after_row r w second_row cs first ≡ Ok run → EndsRow r w second_row cs first run run.end
      → (searched r w cs ≡ Ok run) × AreSearches r w cs run run.end
  both_rows first run is e h then ends_ =
      (second_run first is e ∙ then, means_second first run run.end (subst (EndsRow r w first_row cs beginning first) e h) ends_)

  pub second_means : (first seen : PlainRun) (x : Result PlainRun PlanFault) → IfOk x (λ run. after_row r w second_row cs seen ≡ Ok run) → IfOk x (λ run. EndsRow r w second_row cs seen run run.end) → seen ≡ first
      → first.end ≡ ends.Nothing → after_row r w first_row cs beginning ≡ Ok first → EndsRow r w first_row cs beginning first first.end → IfOk x (λ run. AreSearches r w cs run run.end)
  second_means first seen (Ok run) then ends_ same e is h =
      (both_rows first run is e h (subst (λ (b : PlainRun). after_row r w second_row cs b ≡ Ok run) same then) (subst (λ (b : PlainRun). EndsRow r w second_row cs b run run.end) same ends_)).1
  second_means first seen (Err fault) then ends_ same e is h = tt

  -- ---- too many groups

  pub first_crowded : (fault : PlanFault) → ((n : ℕ) → KeepsWorth r first_row cs n → 10_000 < n → after_row r w first_row cs beginning ≡ Err (plans.TooMany first_row.number n)) → IsCrowdedRow r first_row cs fault → AreCrowded r w cs fault
  first_crowded (plans.Total sum) many h = absurd h
  first_crowded (plans.NotEligible point) many h = absurd h
  first_crowded (plans.TooMany number n) many h =
      (ap (then_second r w cs) (many n h.1 h.2) ∙ ap (λ (m : ℕ). Err (plans.TooMany m n)) (sym h.0), inl h)
  first_crowded plans.Memory many h = tt

  pub second_crowded : (fault : PlanFault) (first : PlainRun) → after_row r w first_row cs beginning ≡ Ok first → first.end ≡ ends.Nothing → EndsRow r w first_row cs beginning first first.end
      → ((n : ℕ) → KeepsWorth r second_row cs n → 10_000 < n → after_row r w second_row cs first ≡ Err (plans.TooMany second_row.number n)) → IsCrowdedRow r second_row cs fault → AreCrowded r w cs fault
  second_crowded (plans.Total sum) first is e ends_ many h = absurd h
  second_crowded (plans.NotEligible point) first is e ends_ many h = absurd h
  second_crowded (plans.TooMany number n) first is e ends_ many h =
      let at = subst (EndsRow r w first_row cs beginning first) e ends_ in
      (second_run first is e ∙ (many n h.1 h.2 ∙ ap (λ (m : ℕ). Err (plans.TooMany m n)) (sym h.0)), inr (h.0, (at.0, at.1), h.1, h.2))
  second_crowded plans.Memory first is e ends_ many h = tt

  pub second_fault : (first : PlainRun) (x : Result PlainRun PlanFault) → IfErr x (IsCrowdedRow r second_row cs) → ((n : ℕ) → KeepsWorth r second_row cs n → 10_000 < n → after_row r w second_row cs first ≡ Err (plans.TooMany second_row.number n))
      → first.end ≡ ends.Nothing → after_row r w first_row cs beginning ≡ Ok first → EndsRow r w first_row cs beginning first first.end → IfErr x (AreCrowded r w cs)
  second_fault first (Ok run) h many e is ends_ = tt
  second_fault first (Err fault) h many e is ends_ = second_crowded fault first is e ends_ many h
