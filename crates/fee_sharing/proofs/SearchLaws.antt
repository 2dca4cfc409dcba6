-- Tries of a row's search in pieces.
use Rattle.std.specs.Prelude.{ℕ, ◌≡◌, ◌≤◌, ◌+◌, ◌-◌, ◌↔◌, IfOk, Result, true}
use Rattle.std.proofs.Common.{refl, sym, ap, ◌∙◌, arith}
use Rattle.std.proofs.lemmas.Result.{IfOk-weaker}
use Rattle.pick_problem.proofs.TryStepLaws.{after_done, after_pieces}
use Rattle.pick_problem.specs.Problem.{PlainProblem}
use Rattle.pick_problem.specs.Walk.{Walk, after_tries}
use Rattle.pick_problem.specs.declared.position.Progress.{Progress}
use Rattle.pick_problem.specs.declared.position.Progress.TheVariants.{Done}
use Rattle.walk_engine.specs.Search.{PlainSearch, after}
use Rattle.fee_sharing.specs.Searching.{HasTried}

-- one piece: room is made, and then the tries are
pub piece : (old mid new : PlainSearch) (n : ℕ) (p : Progress) → mid ≡ record old { spare = mid.spare } → new ≡ after mid n → ((p ≡ Done) ↔ (new.walk.done ≡ true)) → HasTried old new n p
piece old mid new n p room made over = record {
  problem = ap (λ (s : PlainSearch). s.problem) made ∙ ap (λ (s : PlainSearch). s.problem) room;
  before = ap (λ (s : PlainSearch). s.before) made ∙ ap (λ (s : PlainSearch). s.before) room;
  walk = ap (λ (s : PlainSearch). s.walk) made ∙ ap (λ (s : PlainSearch). after_tries s.problem s.walk n) room;
  over = over;
}

-- some of the tries are left, and the others were made
pub record IsAlong (old : PlainSearch) (tries left : ℕ) (now : PlainSearch) : Type 0 where
  pub most : left ≤ tries
  pub problem : now.problem ≡ old.problem
  pub before : now.before ≡ old.before
  pub walk : now.walk ≡ after_tries old.problem old.walk (tries - left)

pub along_none : (old : PlainSearch) (tries : ℕ) → IsAlong old tries tries old
along_none old tries = record {
  most = omega arith;
  problem = refl;
  before = refl;
  walk = ap (after_tries old.problem old.walk) (nothing tries);
}
  where
    nothing : (n : ℕ) → 0 ≡ n - n
    nothing n = omega arith

-- a further piece
pub along_more : (old now new : PlainSearch) (tries left k : ℕ) (p : Progress) → IsAlong old tries left now → k ≤ left → HasTried now new k p → IsAlong old tries (left - k) new
along_more old now new tries left k p so_far few more = record {
  most = omega (arith, so_far.most);
  problem = more.problem ∙ so_far.problem;
  before = more.before ∙ so_far.before;
  walk = more.walk ∙ ap (λ (x : PlainProblem). after_tries x now.walk k) so_far.problem ∙ ap (λ (w : Walk). after_tries old.problem w k) so_far.walk ∙ after_pieces old.problem old.walk (tries - left) k
      ∙ ap (after_tries old.problem old.walk) (together tries left k so_far.most few);
}
  where
    together : (tries left k : ℕ) → left ≤ tries → k ≤ left → (tries - left) + k ≡ tries - (left - k)
    together tries left k most few = omega arith

-- all of them
pub along_all : (old now new : PlainSearch) (tries left : ℕ) (p : Progress) → IsAlong old tries left now → HasTried now new left p → HasTried old new tries p
along_all old now new tries left p so_far more =
    let all = along_more old now new tries left left p so_far (omega arith) more in
    record {
      problem = all.problem;
      before = all.before;
      walk = all.walk ∙ ap (after_tries old.problem old.walk) (whole tries left);
      over = more.over;
    }
  where
    whole : (tries left : ℕ) → tries - (left - left) ≡ tries
    whole tries left = omega arith

-- a search that is done stays where it is
pub along_done : (old now new : PlainSearch) (tries left k : ℕ) (p : Progress) → IsAlong old tries left now → k ≤ left → HasTried now new k p → p ≡ Done → HasTried old new tries Done
along_done old now new tries left k p so_far few more is =
    let here = along_more old now new tries left k p so_far few more in
    let over : new.walk.done ≡ true = (more.over).0 is in
    let rest : after_tries old.problem new.walk (left - k) ≡ new.walk = after_done old.problem new.walk (left - k) over in
    record {
      problem = here.problem;
      before = here.before;
      walk = sym rest ∙ ap (λ (w : Walk). after_tries old.problem w (left - k)) here.walk ∙ after_pieces old.problem old.walk (tries - (left - k)) (left - k) ∙ ap (after_tries old.problem old.walk) (whole tries (left - k) here.most);
      over = (λ _. over, λ _. refl);
    }
  where
    whole : (tries left : ℕ) → left ≤ tries → (tries - left) + left ≡ tries
    whole tries left most = omega arith

-- the last piece
pub along_last : {E : Type 0} (old now new : PlainSearch) (tries left : ℕ) (r : Result Progress E) → IsAlong old tries left now → IfOk r (HasTried now new left) → IfOk r (HasTried old new tries)
along_last old now new tries left r so_far last = IfOk-weaker r (HasTried now new left) (HasTried old new tries) (λ p h. along_all old now new tries left p so_far h) last
