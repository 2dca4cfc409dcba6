-- Whether a payment of a job is given out.
use Rattle.std.specs.Prelude.{ℕ, ◌≡◌, All, List, Option, Some, None, option_map}
use Rattle.std.proofs.Common.{refl, sym, ap, ◌∙◌, subst}
use Rattle.std.proofs.lemmas.Option.{none-some, same_Some}
use Rattle.coin_candidates.specs.declared.candidate.Candidate.{Candidate}
use Rattle.fund_base.specs.declared.outpoint.OutPoint.{OutPoint}
use Rattle.fund_files.specs.declared.chain.Chain.{Chain}
use Rattle.fund_plan.specs.Answer.{IsSelection}
use Rattle.fund_plan.specs.Selection.{PlainFunded}
use Rattle.payment_states.specs.Makers.{HasMaker}
use Rattle.request_text.specs.PlainRequest.{PlainRequest}
use Rattle.wallet_text.specs.declared.wallet.Watch.{Watch}
use Rattle.desk_machine.specs.Machine.{by_funded, by_taken, funded_of, stay, taken_at}
use Rattle.desk_machine.specs.Replies.{NotFunded, Taken, plain_reply}
use Rattle.desk_machine.specs.Rules.{IsJob}
use Rattle.desk_machine.specs.State.{Job, Payment, PlainDesk, candidates_in}
use Rattle.desk_machine.specs.Taken.{first_taken}
use Rattle.desk_machine.specs.declared.reply.Reply as given
use Rattle.desk_machine.specs.declared.reply.Reply.TheVariants as givens
use Rattle.desk_machine.proofs.TakenLaws.{none_shown}
use Rattle.fund_desk.specs.Given.{IsGiven, IsNotGiven, IsWrittenOut}
use Rattle.fund_desk.specs.declared.committing.Given.{Given}
use Rattle.fund_desk.proofs.CommitLaws.{selection_is}
use Rattle.fund_desk.proofs.ShownLaws.{still_shown}

abbrev desk_in : Chain → List Payment → List Job → PlainDesk
desk_in k committed jobs = record { held = k; committed = committed; jobs = jobs }

-- the last turn came to no payment
pub not_funded : (k : Chain) (committed : List Payment) (j : Job) → None ≡ funded_of j.answer → IsNotGiven k committed j NotFunded
not_funded k committed j none = record {
  refuses = λ name jobs. ap (by_funded (desk_in k committed jobs) name j) (sym none);
  other = λ txid psbt same. absurd cc;
}

-- the outpoint of a coin, if there is one
abbrev pub point_in : Option Candidate → Option OutPoint
point_in o = option_map (λ (c : Candidate). c.coin) o

taken_by : (d : PlainDesk) (name : List ℕ) (j : Job) (f : PlainFunded) (o : OutPoint) (x : Option Candidate) → Some o ≡ point_in x → by_taken d name j f x ≡ stay d (Taken o)
taken_by d name j f o None e = absurd (none-some o (sym e))
taken_by d name j f o (Some c) e = ap (λ (p : OutPoint). stay d (Taken p)) (sym (same_Some o c.coin e))

-- a coin of it can't be spent any more
pub is_taken_one : (k : Chain) (committed : List Payment) (j : Job) (f : PlainFunded) (r : PlainRequest) (o : OutPoint) → Some f ≡ funded_of j.answer → r ≡ j.state.plan.request → Some o ≡ point_in (first_taken committed (candidates_in k) r f.row f.coins) → IsNotGiven k committed j (Taken o)
is_taken_one k committed j f r o is own shown = record {
  refuses = λ name jobs.
      let d = desk_in k committed jobs in
      ap (by_funded d name j) (sym is)
      ∙ taken_by d name j f o (taken_at d j f) (shown ∙ ap (λ (q : PlainRequest). point_in (first_taken committed (candidates_in k) q f.row f.coins)) own);
  other = λ txid psbt same. absurd cc;
}

-- a coin that is taken, as it is told
pub is_taken_told : (k : Chain) (committed : List Payment) (j : Job) (f : PlainFunded) (r : PlainRequest) (o : Option OutPoint) (reply : given.Reply) → Some f ≡ funded_of j.answer → r ≡ j.state.plan.request
    → o ≡ point_in (first_taken committed (candidates_in k) r f.row f.coins) → option_map givens.Taken o ≡ Some reply → IsNotGiven k committed j (plain_reply reply)
is_taken_told k committed j f r None reply is own shown told = absurd cc
is_taken_told k committed j f r (Some coin) reply is own shown told = subst (λ (x : given.Reply). IsNotGiven k committed j (plain_reply x)) (same_Some (givens.Taken coin) reply told) (is_taken_one k committed j f r coin is own shown)

none_in : (x : Option Candidate) → None ≡ point_in x → x ≡ None
none_in None e = refl
none_in (Some c) e = absurd (none-some c.coin e)

-- a payment of the job keeps the rules of its request's
pub selection_in : (change : Watch) (j : Job) (f : PlainFunded) (r : PlainRequest) → IsJob change j → Some f ≡ funded_of j.answer → r ≡ j.state.plan.request → IsSelection r f
selection_in change j f r own is same = subst (λ (q : PlainRequest). IsSelection q f) (sym same) (selection_is j.state.plan.request j.answer f (sym is) own.answered.fits)

-- none is taken, and it is written out
pub given_is : (k : Chain) (committed : List Payment) (j : Job) (f : PlainFunded) (r : PlainRequest) (g : Given) → All (HasMaker k.book) (candidates_in k) → Some f ≡ funded_of j.answer → r ≡ j.state.plan.request
    → None ≡ point_in (first_taken committed (candidates_in k) r f.row f.coins) → IsWrittenOut k r f g → IsGiven k committed j g
given_is k committed j f r g made is own none out =
    let q = j.state.plan.request in
    let free : first_taken committed (candidates_in k) q f.row f.coins ≡ None = ap (λ (x : PlainRequest). first_taken committed (candidates_in k) x f.row f.coins) (sym own) ∙ none_in (first_taken committed (candidates_in k) r f.row f.coins) none in
    record {
      funded = f;
      answers = sym is;
      free = free;
      out = subst (λ (x : PlainRequest). IsWrittenOut k x f g) own out;
      shows = still_shown k q k.wallet.change f committed q f.row made (none_shown committed (candidates_in k) q f.row f.coins free);
    }
