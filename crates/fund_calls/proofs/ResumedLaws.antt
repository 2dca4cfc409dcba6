-- A packed job with which a run goes on twice gives the same.
use Rattle.std.proofs.Common.{◌≡◌, ◌∙◌, ℕ, List, take, Option, Some, inl, inr, refl, sym, ap, subst}
use Rattle.closing_log.proofs.LogLaws.{one_log}
use Rattle.closing_log.specs.Log.{PlainLog}
use Rattle.closing_log.specs.LogText.{IsLogText}
use Rattle.fund_files.specs.Chain.{chain_from, history_of}
use Rattle.fund_files.specs.declared.chain.Chain.{Chain}
use Rattle.fund_outside.specs.Kept.{KeptJob, parts_in}
use Rattle.fund_payment.specs.Report.{report_of}
use Rattle.fund_plan.specs.Resumed.{restored_at}
use Rattle.fund_plan.specs.State.{PlanState, moved}
use Rattle.fund_plan.specs.declared.outcome.Outcome.TheVariants as answers
use Rattle.kept_job.specs.Continued.{HasContinued}
use Rattle.kept_job.specs.Jobs.{HasSaved, joined}
use Rattle.kept_job.specs.Saving.{IsSavedBehind}
use Rattle.packed_jobs.proofs.PackedLaws.{one_job}
use Rattle.packed_jobs.specs.Packed.{packed_if}
use Rattle.request_text.specs.PlainRequest.{PlainRequest}
use Rattle.search_keep.proofs.ToldLaws.{one_saved}
use Rattle.search_keep.specs.SavedText.{IsSavedText, PlainSaved}
use Rattle.search_run.specs.Step.{PlainStep}
use Rattle.command_end.specs.declared.status.Status.{Status}
use Rattle.command_end.specs.declared.status.Status.TheVariants as statuses
use Rattle.command_inputs.specs.Cause.{cause_of}
use Rattle.command_inputs.specs.Digest.{digest_in}
use Rattle.command_inputs.specs.Outcome as payments
use Rattle.command_inputs.specs.Outcome.{none_report, open_report, plan_of}
use Rattle.command_inputs.specs.Results as payment_ends
use Rattle.command_inputs.specs.Words.{refusal_words}
use Rattle.command_resume.proofs.EndsLaws.{gone_there}
use Rattle.command_resume.proofs.OneLaws.{by_reading}
use Rattle.command_resume.specs.Outcome as resumes
use Rattle.command_resume.specs.Outcome.{IsGone}
use Rattle.command_resume.specs.Resumed as resumed
use Rattle.command_resume.specs.Statuses as resume_ends
use Rattle.command_resume.specs.Words.{kept_words}
use Rattle.fund_top.specs.Outcome.{ComesTo, Funded, NoSelection, NotKept, Outcome, Refused, Unfinished}
use Rattle.fund_calls.proofs.CauseWords.{cause_words, refusal_told}
use Rattle.fund_calls.proofs.OnceLaws.{line_of}
use Rattle.fund_calls.proofs.SameLaws.{is_open, saved_once, unlogged}
use Rattle.fund_calls.proofs.ToldLaws.{IsToldOf, told_once}
use Rattle.fund_calls.specs.Call.{IsCall}
use Rattle.fund_calls.specs.Commands.{resume_command}
use Rattle.fund_calls.specs.Given.{PlainGiven, empty_sink, files_of, shelf_of}
use Rattle.fund_calls.specs.Names.{job_name, payment, sources}
use Rattle.fund_calls.specs.Once.{GivesTheSame}

-- ---- what the bytes and the job come to

funded_gone : (g : PlainGiven) (o : Option KeptJob) (report log : List ℕ) → resumed.IsFunded (Unit {0}) (Unit {0}) (files_of g) sources payment o report log → IsGone (files_of g) sources payment o (payments.Funded report log)
funded_gone g o report log f = record {
  wallet = f.wallet;
  blocks = f.blocks;
  asked = f.asked;
  inputs = f.inputs tt;
  plan = f.gone.rules;
  steps = f.gone.steps;
  state = f.state;
  answer = answers.Funded f.funded;
  gone = gone_there (Unit {0}) (Unit {0}) (files_of g) sources payment o (chain_from f.wallet f.blocks) f.asked f.state (answers.Funded f.funded) tt tt f.gone;
  due_is = ap (λ (x : List ℕ). payments.Funded x log) f.reports ∙ ap (λ (x : List ℕ). payments.Funded (report_of (history_of f.wallet f.blocks) f.asked f.wallet.change f.state.stand.past.tries f.funded) x) f.logs;
}

none_gone : (g : PlainGiven) (o : Option KeptJob) (report log : List ℕ) → resumed.IsNotFunded (Unit {0}) (Unit {0}) (files_of g) sources payment o report log → IsGone (files_of g) sources payment o (payments.NoSelection report log)
none_gone g o report log f = record {
  wallet = f.wallet;
  blocks = f.blocks;
  asked = f.asked;
  inputs = f.inputs tt;
  plan = f.gone.rules;
  steps = f.gone.steps;
  state = f.state;
  answer = answers.NoSelection;
  gone = gone_there (Unit {0}) (Unit {0}) (files_of g) sources payment o (chain_from f.wallet f.blocks) f.asked f.state answers.NoSelection tt tt f.gone;
  due_is = ap (λ (x : List ℕ). payments.NoSelection x log) f.reports ∙ ap (λ (x : List ℕ). payments.NoSelection (none_report f.state.stand.past.tries) x) f.logs;
}

open_gone : (g : PlainGiven) (o : Option KeptJob) (report : List ℕ) → resumed.IsUnfinished (Unit {0}) (Unit {0}) (files_of g) sources payment o report → IsGone (files_of g) sources payment o (payments.Unfinished report)
open_gone g o report f = record {
  wallet = f.wallet;
  blocks = f.blocks;
  asked = f.asked;
  inputs = f.inputs tt;
  plan = f.gone.rules;
  steps = f.gone.steps;
  state = f.state;
  answer = answers.Unfinished;
  gone = gone_there (Unit {0}) (Unit {0}) (files_of g) sources payment o (chain_from f.wallet f.blocks) f.asked f.state answers.Unfinished tt tt f.gone;
  due_is = ap (λ (x : List ℕ). payments.Unfinished x) (f.reports ∙ sym (ap (λ (x : List PlainStep). open_report f.state.stand.past.tries x) f.used_up.used_up.left));
}

resume_refused : (status : Status) (g : PlainGiven) (job printed log kept : List ℕ) (a : Status) (call : IsCall (Some resume_command) g (Some job) a printed log kept) → payment_ends.EndsRefused status (Unit {0}) (Unit {0}) sources payment (shelf_of g) empty_sink call.sink → call.shelf.files ≡ files_of g
    → IsToldOf resume_command g call.before.jobs printed log
resume_refused status g job printed log kept a call h same = record {
  due = Refused (cause_of h.0);
  comes = (resumes.Refused (cause_of h.0), h.2 tt, refl);
  print = line_of (refusal_words h.0) (cause_words (cause_of h.0)) printed call.sink (refusal_told h.0) call.unfailed call.whole call.printed_is (h.3 tt);
  logs = unlogged g log call.shelf.files same call.log_is;
}

resume_not_kept : (status : Status) (g : PlainGiven) (job printed log kept : List ℕ) (a : Status) (call : IsCall (Some resume_command) g (Some job) a printed log kept) → resume_ends.EndsNotKept status (Unit {0}) (Unit {0}) (Unit {0}) sources payment job_name (shelf_of g) empty_sink call.sink call.before
    → call.shelf.files ≡ files_of g → IsToldOf resume_command g call.before.jobs printed log
resume_not_kept status g job printed log kept a call h same = record {
  due = NotKept h.0;
  comes = (resumes.NotKept h.0, h.3 tt tt, refl);
  print = line_of (kept_words h.0) (kept_words h.0) printed call.sink refl call.unfailed call.whole call.printed_is (h.4 tt);
  logs = unlogged g log call.shelf.files same call.log_is;
}

resume_limited : (g : PlainGiven) (job printed log kept : List ℕ) (call : IsCall (Some resume_command) g (Some job) statuses.Limit printed log kept)
    → resume_ends.EndsLimited (Unit {0}) (Unit {0}) (Unit {0}) sources payment job_name (shelf_of g) empty_sink call.sink call.before → IsToldOf resume_command g call.before.jobs printed log
resume_limited g job printed log kept call (inl h) = resume_refused statuses.Limit g job printed log kept statuses.Limit call h (call.promises.stays.kept tt tt)
resume_limited g job printed log kept call (inr h) = resume_not_kept statuses.Limit g job printed log kept statuses.Limit call h (call.promises.stays.kept tt tt)

resume_told : (g : PlainGiven) (job : List ℕ) (a : Status) (printed log kept : List ℕ) (call : IsCall (Some resume_command) g (Some job) a printed log kept) → IsToldOf resume_command g call.before.jobs printed log
resume_told g job statuses.Done printed log kept call =
    let h = call.promises.memory.resumed refl in
    record {
      due = Funded h.0 h.1;
      comes = (resumes.Gone (payments.Funded h.0 h.1), funded_gone g (call.before.jobs job_name) h.0 h.1 h.2, refl);
      print = call.printed_is ∙ h.4;
      logs = call.log_is ∙ h.3;
    }
resume_told g job statuses.NoSelection printed log kept call =
    let h = call.promises.memory.none refl in
    record {
      due = NoSelection h.0 h.1;
      comes = (resumes.Gone (payments.NoSelection h.0 h.1), none_gone g (call.before.jobs job_name) h.0 h.1 h.2, refl);
      print = call.printed_is ∙ h.4;
      logs = call.log_is ∙ h.3;
    }
resume_told g job statuses.Unfinished printed log kept call =
    let h = call.promises.memory.unfinished refl in
    record {
      due = Unfinished h.0;
      comes = (resumes.Gone (payments.Unfinished h.0), open_gone g (call.before.jobs job_name) h.0 h.1, refl);
      print = call.printed_is ∙ h.3;
      logs = unlogged g log call.shelf.files h.2 call.log_is;
    }
resume_told g job statuses.Input printed log kept call = resume_refused statuses.Input g job printed log kept statuses.Input call (call.promises.ends.input refl) (call.promises.stays.kept tt tt)
resume_told g job statuses.Limit printed log kept call = resume_limited g job printed log kept call (call.promises.ends.limit refl)
resume_told g job statuses.Saved printed log kept call = resume_not_kept statuses.Saved g job printed log kept statuses.Saved call (call.promises.ends.saved refl) (call.promises.stays.kept tt tt)
resume_told g job statuses.Usage printed log kept call = absurd (let none = call.promises.usage.usage.0 refl in cc)
resume_told g job statuses.ReadFault printed log kept call = absurd (call.promises.memory.read refl)
resume_told g job statuses.WriteFault printed log kept call = absurd (call.promises.memory.written refl)
resume_told g job statuses.KeepFault printed log kept call = absurd (call.promises.memory.kept refl)
resume_told g job statuses.Memory printed log kept call = absurd (call.remembered refl)
resume_told g job statuses.CheckRefused printed log kept call = absurd (call.promises.ends.check_refused refl)
resume_told g job statuses.Settle printed log kept call = absurd (call.promises.ends.settle_refused refl)

-- ---- the job that is kept then

-- what is loaded of a job is one position, its bytes and its log
own_job : (o : Option KeptJob) (a b : KeptJob) → o ≡ Some a → o ≡ Some b → a ≡ b
own_job o a b x y = let both = sym x ∙ y in cc

one_position : (o : Option KeptJob) (a b : PlainSaved) → HasSaved o a → HasSaved o b → a ≡ b
one_position o a b h g = one_saved g.job.saved a b (subst (λ (j : KeptJob). IsSavedText j.saved a) (own_job o h.job g.job h.is g.is) h.text) g.text

-- The plan of a chain and a request went on from this job, is unfinished, and was kept as this one.
record HasLeft (g : PlainGiven) (o new : Option KeptJob) (k : Chain) (r : PlainRequest) : Type 0 where
  digest : List ℕ
  named : digest ≡ digest_in (files_of g) sources payment
  state : PlanState
  gone : HasContinued (Unit {0}) (plan_of k r) digest o r.tries state answers.Unfinished
  saved : IsSavedBehind digest state gone.saved.parts gone.bytes o new

left_once : (g : PlainGiven) (o new new' : Option KeptJob) (k : Chain) (r : PlainRequest) → HasLeft g o new k r → HasLeft g o new' k r → new ≡ new'
left_once g o new new' k r a b =
    let x = a.gone.loaded tt in
    let y = b.gone.loaded tt in
    let position : a.gone.saved ≡ b.gone.saved = one_position o a.gone.saved b.gone.saved x.due.has y.due.has in
    let bytes : a.gone.bytes ≡ b.gone.bytes = x.parts.are ∙ ap (λ (p : PlainSaved). joined (take p.parts (parts_in o))) position ∙ sym y.parts.are in
    let log : a.gone.log ≡ b.gone.log = one_log b.gone.bytes a.gone.log b.gone.log (subst (λ (z : List ℕ). IsLogText z a.gone.log) bytes x.text) y.text in
    let state : a.state ≡ b.state =
    a.gone.stands
    ∙ ap (λ (p : PlainSaved). moved (restored_at (plan_of k r) p a.gone.log) r.tries) position
    ∙ ap (λ (l : PlainLog). moved (restored_at (plan_of k r) b.gone.saved l) r.tries) log
    ∙ sym b.gone.stands in
    let by_digest : IsSavedBehind b.digest a.state a.gone.saved.parts a.gone.bytes o new = subst (λ (d : List ℕ). IsSavedBehind d a.state a.gone.saved.parts a.gone.bytes o new) (a.named ∙ sym b.named) a.saved in
    let by_state : IsSavedBehind b.digest b.state a.gone.saved.parts a.gone.bytes o new = subst (λ (s : PlanState). IsSavedBehind b.digest s a.gone.saved.parts a.gone.bytes o new) state by_digest in
    let by_parts : IsSavedBehind b.digest b.state b.gone.saved.parts a.gone.bytes o new = subst (λ (p : PlainSaved). IsSavedBehind b.digest b.state p.parts a.gone.bytes o new) position by_state in
    let by_bytes : IsSavedBehind b.digest b.state b.gone.saved.parts b.gone.bytes o new = subst (λ (z : List ℕ). IsSavedBehind b.digest b.state b.gone.saved.parts z o new) bytes by_parts in
    saved_once b.digest b.state b.gone.saved.parts b.gone.bytes o new new' by_bytes b.saved

-- the jobs of two keepers to which one packed job was given are the same
same_given : (g : PlainGiven) (job : List ℕ) (a b : Status) (printed log kept printed' log' kept' : List ℕ) (x : IsCall (Some resume_command) g (Some job) a printed log kept) (y : IsCall (Some resume_command) g (Some job) b printed' log' kept')
    → x.before.jobs job_name ≡ y.before.jobs job_name
same_given g job a b printed log kept printed' log' kept' x y =
    let p = x.given in
    let q = y.given in
    p.3 ∙ ap (λ (k : KeptJob). Some k) (one_job p.0 q.0 p.1 q.1 (sym p.2 ∙ q.2)) ∙ sym q.3

left_of : (g : PlainGiven) (job printed log kept : List ℕ) (call : IsCall (Some resume_command) g (Some job) statuses.Unfinished printed log kept) (report : List ℕ) (u : resumed.IsUnfinished (Unit {0}) (Unit {0}) (files_of g) sources payment (call.before.jobs job_name) report)
    → resumed.IsLeftOn (Unit {0}) (Unit {0}) (files_of g) sources payment job_name report call.before call.after u → HasLeft g (call.before.jobs job_name) (call.after.jobs job_name) (chain_from u.wallet u.blocks) u.asked
left_of g job printed log kept call report u left = record { digest = u.gone.digest; named = u.gone.named tt; state = u.state; gone = u.gone.gone; saved = left.saved }

open_kept : (g : PlainGiven) (job printed log kept printed' log' kept' : List ℕ) → IsCall (Some resume_command) g (Some job) statuses.Unfinished printed log kept → IsCall (Some resume_command) g (Some job) statuses.Unfinished printed' log' kept' → kept ≡ kept'
open_kept g job printed log kept printed' log' kept' x y =
    let h = x.promises.memory.unfinished refl in
    let i = y.promises.memory.unfinished refl in
    let a = left_of g job printed log kept x h.0 h.1 h.4 in
    let b = left_of g job printed' log' kept' y i.0 i.1 i.4 in
    let given = same_given g job statuses.Unfinished statuses.Unfinished printed log kept printed' log' kept' x y in
    let of_one : HasLeft g (y.before.jobs job_name) (x.after.jobs job_name) (chain_from h.1.wallet h.1.blocks) h.1.asked =
    subst (λ (o : Option KeptJob). HasLeft g o (x.after.jobs job_name) (chain_from h.1.wallet h.1.blocks) h.1.asked) given a in
    let moved_over : HasLeft g (y.before.jobs job_name) (x.after.jobs job_name) (chain_from i.1.wallet i.1.blocks) i.1.asked =
    by_reading (files_of g) sources payment h.1.wallet i.1.wallet h.1.blocks i.1.blocks h.1.asked i.1.asked (h.1.inputs tt) (i.1.inputs tt) (λ (k : Chain) (r : PlainRequest). HasLeft g (y.before.jobs job_name) (x.after.jobs job_name) k r) of_one in
    let same : x.after.jobs job_name ≡ y.after.jobs job_name = left_once g (y.before.jobs job_name) (x.after.jobs job_name) (y.after.jobs job_name) (chain_from i.1.wallet i.1.blocks) i.1.asked moved_over b in
    x.kept_is refl ∙ ap (λ (o : Option KeptJob). packed_if o) same ∙ sym (y.kept_is refl)

-- so two calls that end with one status keep the same
same_kept : (g : PlainGiven) (job : List ℕ) (a b : Status) (printed log kept printed' log' kept' : List ℕ) → a ≡ b → IsCall (Some resume_command) g (Some job) a printed log kept → IsCall (Some resume_command) g (Some job) b printed' log' kept' → kept ≡ kept'
same_kept g job a b printed log kept printed' log' kept' same x y = elim (is_open a) [
  | inl opened ↦
      open_kept g job printed log kept printed' log' kept' (subst (λ (s : Status). IsCall (Some resume_command) g (Some job) s printed log kept) opened x)
      (subst (λ (s : Status). IsCall (Some resume_command) g (Some job) s printed' log' kept') (sym same ∙ opened) y)
  | inr closed ↦ x.none_kept closed ∙ sym (y.none_kept (λ e. closed (same ∙ e)))
]

pub resumed_once : (g : PlainGiven) (job : List ℕ) → GivesTheSame (Some resume_command) g (Some job)
resumed_once g job a b printed log kept printed' log' kept' x y =
    let given = same_given g job a b printed log kept printed' log' kept' x y in
    let told = resume_told g job a printed log kept x in
    let over : (due : Outcome) → ComesTo (files_of g) y.before.jobs resume_command due → ComesTo (files_of g) x.before.jobs resume_command due = λ due comes. (comes.0, subst (λ (o : Option KeptJob). resumes.ComesTo (files_of g) sources payment o comes.0) (sym given) comes.1, comes.2) in
    let back : ComesTo (files_of g) y.before.jobs resume_command told.due = (told.comes.0, subst (λ (o : Option KeptJob). resumes.ComesTo (files_of g) sources payment o told.comes.0) given told.comes.1, told.comes.2) in
    let same : a ≡ b = x.due told.due told.comes ∙ sym (y.due told.due back) in
    told_once resume_command g (Some job) a b printed log kept printed' log' kept' x y told (resume_told g job b printed' log' kept' y) over (same_kept g job a b printed log kept printed' log' kept' same x y)
