use Rattle.std.proofs.Common.{◌≡◌, ℕ, ◌+◌, ◌++◌, ◌∷◌, [], true, length, if◌then◌else◌, nat_lt, arith, ap, refl, ◌∙◌}
use Rattle.wide_check.specs.declared.token.WideToken.TheVariants.{Pass}
use Rattle.pick_problem.specs.Later.{behind_twins}
use Rattle.wide_check.specs.WideLetters.{letters_of}
use Rattle.wide_search.proofs.WayLaws.{pass_tokens}
use Rattle.wide_search.proofs.WayLaws.{shift_stops, lt_true}
use Rattle.wide_search.proofs.transitions.shift.Goals as goal

pub returns-then-end-count-clause-walked : goal.returns-then-end-count-clause-walked
returns-then-end-count-clause-walked c =
    let p = c.args.prepared.now in
    let j = c.args.j in
    let passed : c.pass.new.letters.items ≡ c.args.letters.now.items ++ letters_of (pass_tokens p j) =
    c.pass.ensures.letters ∙ ap (λ (u : ℕ). c.args.letters.now.items ++ letters_of (if nat_lt
    (j + 1) u then Pass ∷ [] else [])) c.run_end-end.ensures.end in
    let left : nat_lt (behind_twins p (j + 1)) (length p.items) ≡ true = lt_true (behind_twins p (j + 1))
    (length p.items) (omega arith) in
    shift_stops p j c.args.letters.now.items c.pass.new.letters.items c.args.stack.now _ passed c.requires.stack
    c.run_end-end.ensures.end refl c.run_end-end.ensures.behind left
