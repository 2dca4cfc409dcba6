use Rattle.std.proofs.Common.{◌≡◌, ℕ, ◌+◌, ◌++◌, ◌∷◌, [], true, false, length, if◌then◌else◌, nat_lt, arith, ap, refl}
use Rattle.std.proofs.Common.{◌∙◌, length-append}
use Rattle.wide_check.specs.declared.token.WideToken.TheVariants.{Pass}
use Rattle.pick_problem.specs.Later.{behind_twins}
use Rattle.wide_check.specs.WideLetters.{letters_of}
use Rattle.wide_search.proofs.WayLaws.{pass_tokens}
use Rattle.wide_search.proofs.WayLaws.{leaving_next, leaving_stops, lt_false, lt_true}
use Rattle.wide_search.proofs.transitions.leave.Goals as goal

pub returns-then-end-count-clause-walked : goal.returns-then-end-count-clause-walked
returns-then-end-count-clause-walked c =
    let p = c.args.prepared.now in
    let j = c.in-Some.j in
    let passed : c.pass.new.letters.items ≡ c.leaving.letters.items ++ letters_of (pass_tokens p j) =
    c.pass.ensures.letters ∙ ap (λ (u : ℕ). c.leaving.letters.items ++ letters_of (if nat_lt
    (j + 1) u then Pass ∷ [] else [])) c.run_end-end.ensures.end in
    let left : nat_lt (behind_twins p (j + 1)) (length p.items) ≡ true = lt_true (behind_twins p (j + 1))
    (length p.items) (omega arith) in
    leaving_stops p c.args.stack.now.places.items c.args.letters.now.items c.leaving.stack.places.items
    c.leaving.letters.items c.drop_last.new.self.places.items j c.leaving.invariant.leaving
    c.in-Some.ensures.none c.pass.new.letters.items passed
    c.drop_last.new.self _ refl c.in-Some.ensures.stack c.run_end-end.ensures.end refl c.run_end-end.ensures.behind left

pub leaving-preserved : goal.leaving-preserved
leaving-preserved c =
    let p = c.args.prepared.now in
    let j = c.in-Some.j in
    let passed : c.pass.new.letters.items ≡ c.leaving.letters.items ++ letters_of (pass_tokens p j) =
    c.pass.ensures.letters ∙ ap (λ (u : ℕ). c.leaving.letters.items ++ letters_of (if nat_lt
    (j + 1) u then Pass ∷ [] else [])) c.run_end-end.ensures.end in
    let gone : nat_lt (behind_twins p (j + 1)) (length p.items) ≡ false = lt_false (behind_twins p (j + 1))
    (length p.items) (omega arith) in
    record {
      within = omega (arith, c.in-Some.ensures.less, c.leaving.invariant.within);
      stack = c.in-Some.ensures.stack;
      room = omega (
        arith,
        simp length-append at (ap length c.put.ensures.letters),
        simp length-append at
            (ap length c.in-Some.ensures.none),
        c.pass.ensures.few,
        c.pass.ensures.room,
        c.put.ensures.room,
        c.leaving.invariant.room,
      );
      grows = omega (arith, c.put.ensures.room, c.pass.ensures.room, c.leaving.invariant.grows);
      leaving = leaving_next p c.args.stack.now.places.items c.args.letters.now.items c.leaving.stack.places.items
          c.leaving.letters.items c.drop_last.new.self.places.items j c.leaving.invariant.leaving
          c.in-Some.ensures.none c.pass.new.letters.items passed c.put.new.letters.items c.put.ensures.letters gone;
    }
