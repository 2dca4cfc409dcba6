use Rattle.std.proofs.Common.{◌≡◌, ◌∙◌, List, ℕ, true, false, sym, ap}
use Rattle.std.proofs.lemmas.Result.{err_from_is_err_and}
use Rattle.tx_codec.specs.Reading.{is_marked}
use Rattle.tx_codec.proofs.PassSteps.{marked_fails, marked_holds, marker_stands, unmarked_fails, unmarked_holds, version_fails}
use Rattle.tx_codec.proofs.passing.pass_text.Goals as goal

pub returns-in_err-u32_le-clause-gives : goal.returns-in_err-u32_le-clause-gives
returns-in_err-u32_le-clause-gives c =
    let p = err_from_is_err_and c.from_residual.result c.from_residual.ensures.1 in
    rw (p.1, p.2) (λ other. version_fails _ _ c.in_err-u32_le.ensures.0)

-- ---- where a marker stands

pub returns-in_err-take-clause-gives : goal.returns-in_err-take-clause-gives
returns-in_err-take-clause-gives c =
    let set : is_marked c.u32_le.new.self.rest ≡ true = sym (ap (λ (l : List ℕ). is_marked l) c.rest.ensures.value) ∙ sym c.is_marked.ensures ∙ c.if-is_marked.true in
    absurd (marker_stands c.u32_le.new.self c.in_err-take.field-0.0 set c.in_err-take.ensures.moves.0)

pub returns-in_err-len-clause-gives : goal.returns-in_err-len-clause-gives
returns-in_err-len-clause-gives c =
    let p = err_from_is_err_and c.from_residual-in_err-len.result c.from_residual-in_err-len.ensures.1 in
    let set : is_marked c.u32_le.new.self.rest ≡ true = sym (ap (λ (l : List ℕ). is_marked l) c.rest.ensures.value) ∙ sym c.is_marked.ensures ∙ c.if-is_marked.true in
    rw (p.1, p.2) (λ other. marked_fails _ _ _ _ _ _ c.in_ok-u32_le.ensures set c.in_ok-take.ensures.moves (c.in_err-len.ensures.gives c.in_ok-u32_le.field-0 other))

pub returns-in_ok-len-clause-gives : goal.returns-in_ok-len-clause-gives
returns-in_ok-len-clause-gives c =
    let set : is_marked c.u32_le.new.self.rest ≡ true = sym (ap (λ (l : List ℕ). is_marked l) c.rest.ensures.value) ∙ sym c.is_marked.ensures ∙ c.if-is_marked.true in
    marked_holds _ _ _ _ _ _ _ c.in_ok-u32_le.ensures set c.in_ok-take.ensures.moves (c.in_ok-len.ensures.gives c.in_ok-u32_le.field-0)

-- ---- and where none stands

pub returns-in_err-len-2-clause-gives : goal.returns-in_err-len-2-clause-gives
returns-in_err-len-2-clause-gives c =
    let p = err_from_is_err_and c.from_residual-in_err-len-2.result c.from_residual-in_err-len-2.ensures.1 in
    let unset : is_marked c.u32_le.new.self.rest ≡ false = sym (ap (λ (l : List ℕ). is_marked l) c.rest.ensures.value) ∙ sym c.is_marked.ensures ∙ c.if-is_marked.false in
    rw (p.1, p.2) (λ other. unmarked_fails _ _ _ _ c.in_ok-u32_le.ensures unset (c.in_err-len-2.ensures.gives c.in_ok-u32_le.field-0 other))

pub returns-in_ok-len-2-clause-gives : goal.returns-in_ok-len-2-clause-gives
returns-in_ok-len-2-clause-gives c =
    let unset : is_marked c.u32_le.new.self.rest ≡ false = sym (ap (λ (l : List ℕ). is_marked l) c.rest.ensures.value) ∙ sym c.is_marked.ensures ∙ c.if-is_marked.false in
    unmarked_holds _ _ _ _ _ c.in_ok-u32_le.ensures unset (c.in_ok-len-2.ensures.gives c.in_ok-u32_le.field-0)
