-- Nothing is searched for with `manual`, and where the presets bring all that is needed, and nowhere else.
use Rattle.std.specs.Prelude.{◌≡◌, ◌⊎◌, Bool, true, false, List, [], ◌∷◌, ◌++◌, map, if◌then◌else◌}
use Rattle.std.specs.List.{flat_map}
use Rattle.std.proofs.Common.{refl, sym, ap, inl, inr, ◌∙◌}
use Rattle.std.proofs.lemmas.List.Concat.{flat_map-cons}
use Rattle.output_groups.specs.Ladder.{ladder_of}
use Rattle.output_groups.specs.declared.rows.Row.{Row}
use Rattle.pick_problem.proofs.Deciding.{by_test, if_false}
use Rattle.request_text.specs.declared.request.Method.{Method}
use Rattle.request_text.specs.declared.request.Method.TheVariants.{Auto, Changeless, Weight, Draw, Manual}
use Rattle.search_run.specs.Step.{PlainStep}
use Rattle.fund_steps.specs.Basis.{Basis}
use Rattle.fund_steps.specs.Searches.{PlainRow, is_given, is_high, row_in, rows_in, step_by, steps_at, steps_of, terms_in, turns_in}
use Rattle.fund_steps.specs.Turns.{turns_of}
use Rattle.fund_steps.specs.declared.turns.Turn.{Turn}

-- each ladder has a row
first_row : (z u : Bool) → (r : Row) × (rs : List Row) × (ladder_of z u ≡ r ∷ rs)
first_row true true = (_, _, refl)
first_row true false = (_, _, refl)
first_row false true = (_, _, refl)
first_row false false = (_, _, refl)

-- each method but one has a stage
some_turn : (m : Method) (high : Bool) → (m ≡ Manual) ⊎ ((u : Turn) × (us : List Turn) × (turns_of m high ≡ u ∷ us))
some_turn Auto true = inr (_, _, refl)
some_turn Auto false = inr (_, _, refl)
some_turn Changeless high = inr (_, _, refl)
some_turn Weight high = inr (_, _, refl)
some_turn Draw high = inr (_, _, refl)
some_turn Manual high = inl refl

never_none : {X : Type 0} (x : X) (xs : List X) → x ∷ xs ≡ [] → ⊥
never_none x xs e = cc e

some_steps : (b : Basis) (r : PlainRow) (rs : List PlainRow) (u : Turn) (us : List Turn) → rows_in b ≡ r ∷ rs → turns_in b ≡ u ∷ us → steps_of b ≡ [] → ⊥
unfolding steps_of
some_steps b r rs u us rows turns none =
    never_none (step_by (terms_in b r) r u) (map (step_by (terms_in b r) r) us ++ flat_map (steps_at b) rs)
    (ap (λ (ts : List Turn). map (step_by (terms_in b r) r) ts ++ flat_map (steps_at b) rs) (sym turns) ∙ sym (flat_map-cons (steps_at b) r rs) ∙ ap (flat_map (steps_at b)) (sym rows) ∙ none)

pub searched_else : (b : Basis) → steps_of b ≡ [] → (b.request.method ≡ Manual) ⊎ (is_given b ≡ true)
searched_else b none =
    by_test ((b.request.method ≡ Manual) ⊎ (is_given b ≡ true)) (is_given b)
    (λ given. inr given)
    (λ lacking.
    let row = first_row b.request.zero_conf b.request.include_unsafe in
    elim (some_turn b.request.method (is_high b.request)) [
      | inl manual ↦ inl manual
      | inr turn ↦ absurd (some_steps b (row_in b row.0) (map (row_in b) row.1) turn.0 turn.1 (ap (map (row_in b)) row.2) (if_false (is_given b) _ _ lacking ∙ turn.2) none)
    ])
