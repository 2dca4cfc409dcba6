-- How deep a request that is written nests, and that it has no number with a fraction.
use Rattle.std.proofs.Common.{◌≡◌, ℕ, Bool, false, ◌||◌, ◌≤◌, List, [], ◌∷◌, Option, Some, None, refl, ap, ◌∙◌, arith, map}
use Rattle.std.specs.Prelude.{String}
use Rattle.std.specs.declared.alloc.Global.{Global}
use Rattle.serde_json.specs.Data.{depth, items_depth}
use Rattle.serde_json.specs.View.{items_of}
use Rattle.serde_json.specs.Written.{has_float, items_have_float}
use Rattle.request_making.specs.Written.{coin_data, payment_data, payee_data, request_data}
use Rattle.request_making.specs.declared.payment.Payee.{Payee}
use Rattle.request_making.specs.declared.payment.Payee.TheVariants as payees
use Rattle.request_making.specs.declared.payment.Payment.{Payment}
use Rattle.request_making.specs.declared.settings.Settings.{Settings}

payee_depth : (amount : ℕ) (to : Payee) → depth (payee_data amount to) ≡ 1
payee_depth amount (payees.Address text) = refl
payee_depth amount (payees.Script script) = refl

payments_depth : (ps : List Payment) → items_depth (items_of (map payment_data ps)) ≤ 1
payments_depth [] = omega arith
payments_depth (p ∷ ps) = omega (arith, payee_depth p.amount p.to, payments_depth ps)

coins_depth : (cs : List (String Global)) → items_depth (items_of (map coin_data cs)) ≤ 0
coins_depth [] = omega arith
coins_depth (c ∷ cs) = omega (arith, coins_depth cs)

pub request_depth : (payments : List Payment) (coins : List (String Global)) (s : Settings) → depth (request_data payments coins s) ≤ 127
request_depth payments coins s = by coins s.bump
  where
    by : (cs : List (String Global)) (bump : Option (List ℕ)) → depth (request_data payments cs (record s { bump = bump })) ≤ 127
    by cs None = omega (arith, payments_depth payments, coins_depth cs)
    by [] (Some txid) = omega (arith, payments_depth payments)
    by (c ∷ cs) (Some txid) = omega (arith, payments_depth payments, coins_depth (c ∷ cs))

payee_whole : (amount : ℕ) (to : Payee) → has_float (payee_data amount to) ≡ false
payee_whole amount (payees.Address text) = refl
payee_whole amount (payees.Script script) = refl

payments_whole : (ps : List Payment) → items_have_float (items_of (map payment_data ps)) ≡ false
payments_whole [] = refl
payments_whole (p ∷ ps) = ap (λ (b : Bool). b || items_have_float (items_of (map payment_data ps))) (payee_whole p.amount p.to) ∙ payments_whole ps

coins_whole : (cs : List (String Global)) → items_have_float (items_of (map coin_data cs)) ≡ false
coins_whole [] = refl
coins_whole (c ∷ cs) = coins_whole cs

pub request_whole : (payments : List Payment) (coins : List (String Global)) (s : Settings) → has_float (request_data payments coins s) ≡ false
request_whole payments coins s = by coins s.bump
  where
    by : (cs : List (String Global)) (bump : Option (List ℕ)) → has_float (request_data payments cs (record s { bump = bump })) ≡ false
    by cs None = rw (coins_whole cs, payments_whole payments)
    by [] (Some txid) = rw (payments_whole payments)
    by (c ∷ cs) (Some txid) = rw (coins_whole cs, payments_whole payments)
