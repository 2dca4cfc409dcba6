-- The steps of a plan for `changeless`: each is a search without change, and nothing is given.
use Rattle.std.specs.Prelude.{◌≡◌, ◌&&◌, Bool, false, List, [], ◌∷◌, ◌++◌, filter, map, None, cond}
use Rattle.std.specs.List.{AllByRecursion, flat_map}
use Rattle.std.proofs.Common.{refl, sym, ap, subst, ◌∙◌}
use Rattle.std.proofs.lemmas.Bool.{cond_both}
use Rattle.std.proofs.lemmas.List.Concat.{flat_map-cons}
use Rattle.closing_log.specs.declared.log.Stage.TheVariants as stage
use Rattle.coin_candidates.specs.declared.candidate.Candidate.{Candidate}
use Rattle.fee_rates.specs.declared.terms.Terms.{Terms}
use Rattle.fund_base.specs.declared.outpoint.OutPoint.{OutPoint}
use Rattle.pick_problem.specs.declared.item.Kind.TheVariants as kind
use Rattle.request_text.specs.PlainRequest.{PlainRequest}
use Rattle.request_text.specs.declared.request.Method.{Method}
use Rattle.request_text.specs.declared.request.Method.TheVariants.{Auto, Changeless, Weight, Draw, Manual}
use Rattle.search_run.specs.Step.{PlainStep}
use Rattle.fund_steps.specs.Basis.{Basis}
use Rattle.fund_steps.specs.Listed.{burden_in, is_preset, listed_in, presets_by, presets_in}
use Rattle.fund_steps.specs.Plan.{PlainPlan, may_be_listed}
use Rattle.fund_steps.specs.Searches.{PlainRow, is_given as given_by, is_high, is_met, rows_in, step_by, steps_at, steps_of as steps_by, terms_in}
use Rattle.fund_steps.specs.Selection.{by_outpoint, in_order, is_listed}
use Rattle.fund_steps.specs.Terms.{load_of, rates_of}
use Rattle.fund_steps.specs.Turns.{turns_of}
use Rattle.fund_steps.specs.declared.turns.Turn.{Turn}
use Rattle.fund_plan.specs.Steps.{is_given}
use Rattle.wide_plan.specs.Asked.{IsForWide}

-- a search without change
pub record IsPlain (x : PlainStep) : Type 0 where
  pub stage : x.stage ≡ stage.Changeless
  pub kind : x.problem.kind ≡ kind.Changeless

both : (P : PlainStep → Type 0) (xs ys : List PlainStep) → AllByRecursion P xs → AllByRecursion P ys → AllByRecursion P (xs ++ ys)
both P [] ys f g = g
both P (x ∷ xs) ys f g = (f.0, both P xs ys f.1 g)

turns_plain : (t : Terms) (r : PlainRow) (m : Method) (high : Bool) → m ≡ Changeless → AllByRecursion IsPlain (map (step_by t r) (turns_of m high))
turns_plain t r Auto high e = absurd (let z = e in cc)
turns_plain t r Changeless high e = (record { stage = refl; kind = refl }, tt)
turns_plain t r Weight high e = absurd (let z = e in cc)
turns_plain t r Draw high e = absurd (let z = e in cc)
turns_plain t r Manual high e = absurd (let z = e in cc)

row_plain : (b : Basis) (r : PlainRow) → b.request.method ≡ Changeless → AllByRecursion IsPlain (steps_at b r)
row_plain b r e =
    cond_both (given_by b) [] (turns_of b.request.method (is_high b.request)) (λ (us : List Turn). AllByRecursion IsPlain (map (step_by (terms_in b r) r) us))
    (λ _. tt)
    (λ _. turns_plain (terms_in b r) r b.request.method (is_high b.request) e)

rows_plain : (b : Basis) (rs : List PlainRow) → b.request.method ≡ Changeless → AllByRecursion IsPlain (flat_map (steps_at b) rs)
rows_plain b [] e = tt
rows_plain b (r ∷ rs) e = subst (AllByRecursion IsPlain) (sym (flat_map-cons (steps_at b) r rs)) (both IsPlain (steps_at b r) (flat_map (steps_at b) rs) (row_plain b r e) (rows_plain b rs e))

pub steps_plain : (b : Basis) → b.request.method ≡ Changeless → AllByRecursion IsPlain (steps_by b)
unfolding steps_by
steps_plain b e = rows_plain b (rows_in b) e

-- ---- nothing is given

not_listed : (r : PlainRequest) (c : Candidate) → r.coins ≡ [] → is_preset r c ≡ false
not_listed r c e = ap (λ (l : List OutPoint). is_listed l c.coin && may_be_listed r c) e

none_listed : (r : PlainRequest) (cs : List Candidate) → r.coins ≡ [] → filter (is_preset r) cs ≡ []
none_listed r [] e = refl
none_listed r (c ∷ cs) e = ap (λ (b : Bool). cond b (c ∷ filter (is_preset r) cs) (filter (is_preset r) cs)) (not_listed r c e) ∙ none_listed r cs e

order_none : in_order [] ≡ []
unfolding by_outpoint
order_none = refl

pub no_presets : (p : PlainPlan) → p.bump ≡ None → IsForWide p.request → presets_in p ≡ []
no_presets p plain asked = ap (λ b. presets_by b (listed_in p)) plain ∙ (ap in_order (none_listed p.request p.candidates asked.coins) ∙ order_none)

given_none : (p : PlainPlan) → presets_in p ≡ [] → is_given p ≡ false
unfolding load_of
given_none p e = ap (λ (cs : List Candidate). is_met (rates_of p.request) (load_of p.request p.change cs (burden_in p))) e

pub not_given : (p : PlainPlan) → p.bump ≡ None → IsForWide p.request → is_given p ≡ false
not_given p plain asked = given_none p (no_presets p plain asked)
