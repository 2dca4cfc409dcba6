-- A plan has few steps.
use Rattle.std.specs.Prelude.{◌≤◌, ◌*◌, Bool, true, false, List, [], ◌∷◌, length}
use Rattle.std.specs.List.{flat_map}
use Rattle.std.proofs.Common.{ap, arith}
use Rattle.std.proofs.lemmas.Bool.{cond_both}
use Rattle.std.proofs.lemmas.List.{length-append, length-map}
use Rattle.std.proofs.lemmas.List.Concat.{flat_map-cons}
use Rattle.fund_plan.specs.Steps.{steps_of}
use Rattle.fund_steps.specs.Basis.{Basis, basis_of}
use Rattle.fund_steps.specs.Plan.{PlainPlan}
use Rattle.fund_steps.specs.Searches.{PlainRow, is_given, is_high, row_in, rows_in, step_by, steps_at, steps_of as steps_by, terms_in, turns_in}
use Rattle.fund_steps.specs.Turns.{turns_of}
use Rattle.fund_steps.specs.declared.turns.Turn.{Turn}
use Rattle.output_groups.specs.Ladder.{ladder_of}
use Rattle.request_text.specs.declared.request.Method.{Method}
use Rattle.request_text.specs.declared.request.Method.TheVariants.{Auto, Changeless, Weight, Draw, Manual}
use Rattle.fund_steps.proofs.WholeLaws.{steps_whole}
use Rattle.search_run.specs.Answer.{AreWhole}

method_few : (m : Method) (high : Bool) → length (turns_of m high) ≤ 4
method_few Auto true = omega arith
method_few Auto false = omega arith
method_few Changeless high = omega arith
method_few Weight high = omega arith
method_few Draw high = omega arith
method_few Manual high = omega arith

turns_few : (b : Basis) → length (turns_in b) ≤ 4
turns_few b =
    cond_both (is_given b) [] (turns_of b.request.method (is_high b.request)) (λ (us : List Turn). length us ≤ 4)
    (λ _. omega arith)
    (λ _. method_few b.request.method (is_high b.request))

row_few : (b : Basis) (r : PlainRow) → length (steps_at b r) ≤ 4
row_few b r = let few = turns_few b in omega (arith, few, length-map (turns_in b) (step_by (terms_in b r) r))

rows_few : (b : Basis) (rs : List PlainRow) → length (flat_map (steps_at b) rs) ≤ 4 * length rs
rows_few b [] = omega arith
rows_few b (r ∷ rs) =
    let here = row_few b r in
    let later = rows_few b rs in
    omega (arith, here, later, ap length (flat_map-cons (steps_at b) r rs), length-append (steps_at b r) (flat_map (steps_at b) rs))

ladder_few : (zero_conf include_unsafe : Bool) → length (ladder_of zero_conf include_unsafe) ≤ 7
ladder_few false u = omega arith
ladder_few true false = omega arith
ladder_few true true = omega arith

basis_few : (b : Basis) → length (steps_by b) ≤ 28
unfolding steps_by
basis_few b =
    let rows = ladder_few b.request.zero_conf b.request.include_unsafe in
    omega (arith, rows_few b (rows_in b), rows, length-map (ladder_of b.request.zero_conf b.request.include_unsafe) (row_in b))

pub steps_few : (p : PlainPlan) → length (steps_of p) ≤ 1_000
steps_few p = let few = basis_few (basis_of p) in omega (arith, few)

pub all_whole : (p : PlainPlan) → AreWhole (steps_of p)
all_whole p = steps_whole (basis_of p)
