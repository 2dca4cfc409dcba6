use Rattle.std.proofs.Common.{◌∙◌, ap, refl, subst, sym}
use Rattle.std.specs.Prelude.{length}
use Rattle.output_groups.specs.PlainGroups.{PlainGroups, pool_in as pool_from}
use Rattle.pick_problem.specs.Problem.{Rising}
use Rattle.search_run.specs.Found.{PlainFound}
use Rattle.fund_steps.specs.Listed.{presets_in}
use Rattle.fund_steps.specs.Plan.{IsPlan, PlainPlan}
use Rattle.fund_steps.specs.Terms.{rates_of}
use Rattle.fund_plan.specs.Answer.{IsPayment, IsSelection}
use Rattle.fund_plan.specs.Chosen.{members}
use Rattle.fund_plan.specs.Steps.{pool_in}
use Rattle.fund_plan.proofs.FoundLaws.{found_pays}
use Rattle.fund_plan.proofs.OutcomeLaws.{found_selection}
use Rattle.fund_plan.proofs.FundedLaws.{change_is, change_within, chosen_is, chosen_within, coins_are, coins_within, funded_is, made, places_rise, row_roomy}
use Rattle.fund_plan.proofs.funding.PaymentMaker.funded.Goals as goal

pub load_by-requires-clause-roomy : goal.load_by-requires-clause-roomy
load_by-requires-clause-roomy c =
    row_roomy c.args.self.now c.args.found.now _ c.row-row.result (subst IsPlan c.self.view_is c.keeps_rules.ensures) c.requires c.found.view_is c.row-row.ensures

pub members-requires : goal.members-requires
members-requires c =
    let p = c.args.self.now in
    let f = c.args.found.now in
    let row = c.row-row.result in
    let pool = pool_in p row in
    let load = c.in_ok-load.load in
    let m = made p f _ row pool load (subst IsPlan c.self.view_is c.keeps_rules.ensures) c.requires c.found.view_is c.row-row.ensures refl c.in_ok-load.ensures.value in
    let places = c.as_slice.ensures ∙ ap (λ (x : PlainFound). x.places) c.found.view_is in
    subst (λ (g : PlainGroups). Rising (length (pool_from g row).groups) 0 c.as_slice.result.now) (sym c.in_ok-groups.ensures) (places_rise p f pool load pool.groups c.as_slice.result.now m refl places)

pub change-change-requires-clause-coins : goal.change-change-requires-clause-coins
change-change-requires-clause-coins c =
    let p = c.args.self.now in
    let f = c.args.found.now in
    let row = c.row-row.result in
    let pool = pool_in p row in
    let load = c.in_ok-load.load in
    let m = made p f _ row pool load (subst IsPlan c.self.view_is c.keeps_rules.ensures) c.requires c.found.view_is c.row-row.ensures refl c.in_ok-load.ensures.value in
    let places = c.as_slice.ensures ∙ ap (λ (x : PlainFound). x.places) c.found.view_is in
    let chosen = chosen_is p f pool load pool.groups c.as_slice.result.now c.in_ok-chosen.chosen.items m refl places (c.in_ok-chosen.ensures ∙ ap (λ (g : PlainGroups). members (pool_from g row).groups c.as_slice.result.now) c.in_ok-groups.ensures) in
    chosen_within p f pool load c.deref.result.now m (c.deref.ensures.value ∙ chosen)

pub change-change-requires-clause-most : goal.change-change-requires-clause-most
change-change-requires-clause-most c =
    let p = c.args.self.now in
    let f = c.args.found.now in
    let row = c.row-row.result in
    let pool = pool_in p row in
    let load = c.in_ok-load.load in
    let m = made p f _ row pool load (subst IsPlan c.self.view_is c.keeps_rules.ensures) c.requires c.found.view_is c.row-row.ensures refl c.in_ok-load.ensures.value in
    let places = c.as_slice.ensures ∙ ap (λ (x : PlainFound). x.places) c.found.view_is in
    let chosen = chosen_is p f pool load pool.groups c.as_slice.result.now c.in_ok-chosen.chosen.items m refl places (c.in_ok-chosen.ensures ∙ ap (λ (g : PlainGroups). members (pool_from g row).groups c.as_slice.result.now) c.in_ok-groups.ensures) in
    let rates = c.rates-rates.ensures.value ∙ ap (λ (q : PlainPlan). rates_of q.request) c.self.view_is in
    let stage = ap (λ (x : PlainFound). x.stage) c.found.view_is in
    let change = change_is p f pool load c.rates-rates.result c.deref.result.now c.found.inside.stage m rates (c.deref.ensures.value ∙ chosen) stage in
    change_within p f pool load _ c.args.mark m change

pub paid-funded-requires-clause-coins : goal.paid-funded-requires-clause-coins
paid-funded-requires-clause-coins c =
    let p = c.args.self.now in
    let f = c.args.found.now in
    let row = c.row-row.result in
    let pool = pool_in p row in
    let load = c.in_ok-load.load in
    let m = made p f _ row pool load (subst IsPlan c.self.view_is c.keeps_rules.ensures) c.requires c.found.view_is c.row-row.ensures refl c.in_ok-load.ensures.value in
    let places = c.as_slice.ensures ∙ ap (λ (x : PlainFound). x.places) c.found.view_is in
    let chosen = chosen_is p f pool load pool.groups c.as_slice.result.now c.in_ok-chosen.chosen.items m refl places (c.in_ok-chosen.ensures ∙ ap (λ (g : PlainGroups). members (pool_from g row).groups c.as_slice.result.now) c.in_ok-groups.ensures) in
    let coins = coins_are p f c.presets.result.now c.deref-2.result.now c.in_ok-coins.coins.items (c.presets.ensures.value ∙ ap presets_in c.self.view_is) (c.deref-2.ensures.value ∙ chosen) c.in_ok-coins.ensures in
    coins_within p f pool load c.in_ok-coins.coins.items m coins

pub returns-clause-value : goal.returns-clause-value
returns-clause-value c =
    let p = c.args.self.now in
    let f = c.args.found.now in
    let row = c.row-row.result in
    let pool = pool_in p row in
    let load = c.in_ok-load.load in
    let m = made p f _ row pool load (subst IsPlan c.self.view_is c.keeps_rules.ensures) c.requires c.found.view_is c.row-row.ensures refl c.in_ok-load.ensures.value in
    let places = c.as_slice.ensures ∙ ap (λ (x : PlainFound). x.places) c.found.view_is in
    let chosen = chosen_is p f pool load pool.groups c.as_slice.result.now c.in_ok-chosen.chosen.items m refl places (c.in_ok-chosen.ensures ∙ ap (λ (g : PlainGroups). members (pool_from g row).groups c.as_slice.result.now) c.in_ok-groups.ensures) in
    let rates = c.rates-rates.ensures.value ∙ ap (λ (q : PlainPlan). rates_of q.request) c.self.view_is in
    let stage = ap (λ (x : PlainFound). x.stage) c.found.view_is in
    let change = change_is p f pool load c.rates-rates.result c.deref.result.now c.found.inside.stage m rates (c.deref.ensures.value ∙ chosen) stage in
    let coins = coins_are p f c.presets.result.now c.deref-2.result.now c.in_ok-coins.coins.items (c.presets.ensures.value ∙ ap presets_in c.self.view_is) (c.deref-2.ensures.value ∙ chosen) c.in_ok-coins.ensures in
    c.paid-funded.ensures ∙ funded_is p c.args.mark f _ pool load c.in_ok-coins.coins.items c.change-change.result m c.found.view_is coins (c.change-change.ensures ∙ change)

pub returns-clause-payment : goal.returns-clause-payment
returns-clause-payment c =
    let p = c.args.self.now in
    let f = c.args.found.now in
    let row = c.row-row.result in
    let pool = pool_in p row in
    let load = c.in_ok-load.load in
    let m = made p f _ row pool load (subst IsPlan c.self.view_is c.keeps_rules.ensures) c.requires c.found.view_is c.row-row.ensures refl c.in_ok-load.ensures.value in
    let places = c.as_slice.ensures ∙ ap (λ (x : PlainFound). x.places) c.found.view_is in
    let chosen = chosen_is p f pool load pool.groups c.as_slice.result.now c.in_ok-chosen.chosen.items m refl places (c.in_ok-chosen.ensures ∙ ap (λ (g : PlainGroups). members (pool_from g row).groups c.as_slice.result.now) c.in_ok-groups.ensures) in
    let rates = c.rates-rates.ensures.value ∙ ap (λ (q : PlainPlan). rates_of q.request) c.self.view_is in
    let stage = ap (λ (x : PlainFound). x.stage) c.found.view_is in
    let change = change_is p f pool load c.rates-rates.result c.deref.result.now c.found.inside.stage m rates (c.deref.ensures.value ∙ chosen) stage in
    let coins = coins_are p f c.presets.result.now c.deref-2.result.now c.in_ok-coins.coins.items (c.presets.ensures.value ∙ ap presets_in c.self.view_is) (c.deref-2.ensures.value ∙ chosen) c.in_ok-coins.ensures in
    let value = c.paid-funded.ensures ∙ funded_is p c.args.mark f _ pool load c.in_ok-coins.coins.items c.change-change.result m c.found.view_is coins (c.change-change.ensures ∙ change) in
    subst (IsPayment p) (sym value) (found_pays p c.args.mark f m.plan m.result)

pub returns-clause-selection : goal.returns-clause-selection
returns-clause-selection c =
    let p = c.args.self.now in
    let f = c.args.found.now in
    let row = c.row-row.result in
    let pool = pool_in p row in
    let load = c.in_ok-load.load in
    let m = made p f _ row pool load (subst IsPlan c.self.view_is c.keeps_rules.ensures) c.requires c.found.view_is c.row-row.ensures refl c.in_ok-load.ensures.value in
    let places = c.as_slice.ensures ∙ ap (λ (x : PlainFound). x.places) c.found.view_is in
    let chosen = chosen_is p f pool load pool.groups c.as_slice.result.now c.in_ok-chosen.chosen.items m refl places (c.in_ok-chosen.ensures ∙ ap (λ (g : PlainGroups). members (pool_from g row).groups c.as_slice.result.now) c.in_ok-groups.ensures) in
    let rates = c.rates-rates.ensures.value ∙ ap (λ (q : PlainPlan). rates_of q.request) c.self.view_is in
    let stage = ap (λ (x : PlainFound). x.stage) c.found.view_is in
    let change = change_is p f pool load c.rates-rates.result c.deref.result.now c.found.inside.stage m rates (c.deref.ensures.value ∙ chosen) stage in
    let coins = coins_are p f c.presets.result.now c.deref-2.result.now c.in_ok-coins.coins.items (c.presets.ensures.value ∙ ap presets_in c.self.view_is) (c.deref-2.ensures.value ∙ chosen) c.in_ok-coins.ensures in
    let value = c.paid-funded.ensures ∙ funded_is p c.args.mark f _ pool load c.in_ok-coins.coins.items c.change-change.result m c.found.view_is coins (c.change-change.ensures ∙ change) in
    subst (IsSelection p.request) (sym value) (found_selection p c.args.mark f m.plan m.result)
