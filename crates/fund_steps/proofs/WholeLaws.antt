-- The steps of a plan stand in whole columns.
use Rattle.std.specs.Prelude.{◌≡◌, Bool, true, false, List, [], ◌∷◌, ◌++◌, map, if◌then◌else◌}
use Rattle.std.specs.List.{flat_map}
use Rattle.std.proofs.Common.{refl, sym, subst, ap, ◌∙◌}
use Rattle.std.proofs.lemmas.Bool.{cond_both}
use Rattle.std.proofs.lemmas.List.Concat.{flat_map-cons}
use Rattle.fee_rates.specs.declared.terms.Terms.{Terms}
use Rattle.request_text.specs.declared.request.Method.{Method}
use Rattle.request_text.specs.declared.request.Method.TheVariants.{Auto, Changeless, Weight, Draw, Manual}
use Rattle.search_run.specs.Answer.{AreWhole}
use Rattle.search_run.specs.Step.{PlainStep}
use Rattle.fund_steps.specs.Basis.{Basis}
use Rattle.fund_steps.specs.Searches.{PlainRow, is_given, is_high, rows_in, step_by, steps_at, steps_of, terms_in, turns_in}
use Rattle.fund_steps.specs.Turns.{turns_of}
use Rattle.fund_steps.specs.declared.turns.Turn.{Turn}

pub whole-append : (xs ys : List PlainStep) → AreWhole xs → AreWhole ys → AreWhole (xs ++ ys)
whole-append [] ys hx hy = hy
whole-append (x ∷ []) [] hx hy = hx
whole-append (x ∷ []) (y ∷ ys) hx hy = hy
whole-append (x ∷ z ∷ xs) ys hx hy = whole-append (z ∷ xs) ys hx hy

turns_whole : (t : Terms) (r : PlainRow) (m : Method) (high : Bool) → AreWhole (map (step_by t r) (turns_of m high))
turns_whole t r Auto true = refl
turns_whole t r Auto false = refl
turns_whole t r Changeless high = refl
turns_whole t r Weight high = refl
turns_whole t r Draw high = refl
turns_whole t r Manual high = tt

row_whole : (b : Basis) (r : PlainRow) → AreWhole (steps_at b r)
row_whole b r =
    cond_both (is_given b) [] (turns_of b.request.method (is_high b.request)) (λ (us : List Turn). AreWhole (map (step_by (terms_in b r) r) us))
    (λ _. tt)
    (λ _. turns_whole (terms_in b r) r b.request.method (is_high b.request))

rows_whole : (b : Basis) (rs : List PlainRow) → AreWhole (flat_map (steps_at b) rs)
rows_whole b [] = tt
rows_whole b (r ∷ rs) = subst AreWhole (sym (flat_map-cons (steps_at b) r rs)) (whole-append (steps_at b r) (flat_map (steps_at b) rs) (row_whole b r) (rows_whole b rs))

pub steps_whole : (b : Basis) → AreWhole (steps_of b)
unfolding steps_of
steps_whole b = rows_whole b (rows_in b)

-- where a row has no stage there are none
no_steps : (b : Basis) (rs : List PlainRow) → turns_in b ≡ [] → flat_map (steps_at b) rs ≡ []
no_steps b [] none = refl
no_steps b (r ∷ rs) none = flat_map-cons (steps_at b) r rs ∙ ap (λ (us : List Turn). map (step_by (terms_in b r) r) us ++ flat_map (steps_at b) rs) none ∙ no_steps b rs none

pub given_none : (b : Basis) → is_given b ≡ true → steps_of b ≡ []
unfolding steps_of
given_none b given = no_steps b (rows_in b) (ap (λ (g : Bool). if g then [] else turns_of b.request.method (is_high b.request)) given)

manual_turns : (b : Basis) → b.request.method ≡ Manual → turns_in b ≡ []
manual_turns b manual =
    cond_both (is_given b) [] (turns_of b.request.method (is_high b.request)) (λ (us : List Turn). us ≡ [])
    (λ _. refl)
    (λ _. ap (λ (m : Method). turns_of m (is_high b.request)) manual)

pub manual_none : (b : Basis) → b.request.method ≡ Manual → steps_of b ≡ []
unfolding steps_of
manual_none b manual = no_steps b (rows_in b) (manual_turns b manual)
