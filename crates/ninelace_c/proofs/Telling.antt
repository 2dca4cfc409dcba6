-- What the exports promise follows from what their calls do.
use Rattle.std.proofs.Common.{◌≡◌, ◌∙◌, ℕ, List, Option, Some, None, Result, Ok, Err, inl, inr, refl, sym, subst}
use Rattle.std.specs.Prelude.{◌≢◌, IfOk, OnErr}
use Rattle.command_end.specs.StatusCode.{code_of}
use Rattle.command_end.specs.declared.status.Status.{Status}
use Rattle.command_end.specs.declared.status.Status.TheVariants as statuses
use Rattle.packed_jobs.specs.Packed.{IsPackedJob}
use Rattle.packed_jobs.specs.declared.fault.PackFault.{PackFault}
use Rattle.packed_jobs.specs.declared.fault.PackFault.TheVariants.{Truncated, LongCompact, Parts as NoParts, Trailing, Memory}
use Rattle.fund_top.specs.Words.{Command}
use Rattle.fund_calls.specs.Call.{Answers, IsCall}
use Rattle.fund_calls.specs.Given.{IsNoJob, PlainGiven}
use Rattle.fund_calls.specs.declared.answer.Answer.{Answer}
use Rattle.ninelace_c.specs.declared.sizes.NinelaceSizes.{NinelaceSizes}
use Rattle.ninelace_c.specs.Told.{Gives, IsTold, Parts, Tells, parts_in}

tells : (words : Option Command) (g : PlainGiven) (job : Option (List ℕ)) (called : Result Answer PackFault) (code : ℕ) (old new : List ℕ) (sizes : NinelaceSizes) → IfOk called (λ a. Answers words g job a) → OnErr called (called ≢ Err Memory → IsNoJob job) → IsTold called code old new sizes
    → Tells words g job code old new sizes
tells words g job (Ok a) code old new sizes call refused told = inl (record { status = a.status; parts = parts_in a; call = call }, told)
tells words g job (Err Memory) code old new sizes call refused told = inr (inl told)
tells words g job (Err (Truncated place)) code old new sizes call refused told = inr (inr (refused (λ e. absurd cc), told))
tells words g job (Err (LongCompact place)) code old new sizes call refused told = inr (inr (refused (λ e. absurd cc), told))
tells words g job (Err NoParts) code old new sizes call refused told = inr (inr (refused (λ e. absurd cc), told))
tells words g job (Err (Trailing place)) code old new sizes call refused told = inr (inr (refused (λ e. absurd cc), told))

-- the same of a call to which no job was given
never_no_job : (called : Result Answer PackFault) → OnErr called (called ≡ Err Memory) → OnErr called (called ≢ Err Memory → IsNoJob None)
never_no_job (Ok a) short = tt
never_no_job (Err fault) short = λ other. other short

pub tells_alone : (words : Option Command) (g : PlainGiven) (called : Result Answer PackFault) (code : ℕ) (old new : List ℕ) (sizes : NinelaceSizes) → IfOk called (λ a. Answers words g None a) → OnErr called (called ≡ Err Memory) → IsTold called code old new sizes
    → Tells words g None code old new sizes
tells_alone words g called code old new sizes call short told = tells words g None called code old new sizes call (never_no_job called short) told

pub tells_on : (words : Option Command) (g : PlainGiven) (job : List ℕ) (called : Result Answer PackFault) (code : ℕ) (old new : List ℕ) (sizes : NinelaceSizes) → IfOk called (λ a. Answers words g (Some job) a) → OnErr called (called ≢ Err Memory → IsPackedJob job → ⊥) → IsTold called code old new sizes
    → Tells words g (Some job) code old new sizes
tells_on words g job called code old new sizes call refused told = tells words g (Some job) called code old new sizes call refused told

-- ---- a code is that of one status alone

done_alone : (status : Status) → code_of status ≡ 0 → status ≡ statuses.Done
done_alone statuses.Done e = refl
done_alone statuses.Usage e = absurd cc
done_alone statuses.Input e = absurd cc
done_alone statuses.ReadFault e = absurd cc
done_alone statuses.WriteFault e = absurd cc
done_alone statuses.KeepFault e = absurd cc
done_alone statuses.Memory e = absurd cc
done_alone statuses.Saved e = absurd cc
done_alone statuses.Limit e = absurd cc
done_alone statuses.Unfinished e = absurd cc
done_alone statuses.NoSelection e = absurd cc
done_alone statuses.CheckRefused e = absurd cc
done_alone statuses.Settle e = absurd cc

none_alone : (status : Status) → code_of status ≡ 11 → status ≡ statuses.NoSelection
none_alone statuses.NoSelection e = refl
none_alone statuses.Done e = absurd cc
none_alone statuses.Usage e = absurd cc
none_alone statuses.Input e = absurd cc
none_alone statuses.ReadFault e = absurd cc
none_alone statuses.WriteFault e = absurd cc
none_alone statuses.KeepFault e = absurd cc
none_alone statuses.Memory e = absurd cc
none_alone statuses.Saved e = absurd cc
none_alone statuses.Limit e = absurd cc
none_alone statuses.Unfinished e = absurd cc
none_alone statuses.CheckRefused e = absurd cc
none_alone statuses.Settle e = absurd cc

open_alone : (status : Status) → code_of status ≡ 10 → status ≡ statuses.Unfinished
open_alone statuses.Unfinished e = refl
open_alone statuses.Done e = absurd cc
open_alone statuses.Usage e = absurd cc
open_alone statuses.Input e = absurd cc
open_alone statuses.ReadFault e = absurd cc
open_alone statuses.WriteFault e = absurd cc
open_alone statuses.KeepFault e = absurd cc
open_alone statuses.Memory e = absurd cc
open_alone statuses.Saved e = absurd cc
open_alone statuses.Limit e = absurd cc
open_alone statuses.NoSelection e = absurd cc
open_alone statuses.CheckRefused e = absurd cc
open_alone statuses.Settle e = absurd cc

-- ---- what a code says of the buffer

-- a code of a status, which is none of the library's own
record IsStatusCode (n : ℕ) : Type 0 where
  memory : n ≢ 7
  short : n ≢ 20
  job : n ≢ 21

-- Where the code is that of one status, parts of an answer with that status stand in the buffer.
gives : (n : ℕ) (status : Status) (P : Parts → Type 0) (words : Option Command) (g : PlainGiven) (job : Option (List ℕ)) (code : ℕ) (old new : List ℕ) (sizes : NinelaceSizes) → IsStatusCode n → ((s : Status) → code_of s ≡ n → s ≡ status)
    → ((p : Parts) → IsCall words g job status p.printed p.log p.job → P p) → Tells words g job code old new sizes → code ≡ n → Gives P old new sizes
gives n status P words g job code old new sizes own alone told (inl (it, inl given)) is =
    let same : it.status ≡ status = alone it.status (sym given.code_is ∙ is) in
    record {
      parts = it.parts;
      is = told it.parts (subst (λ (s : Status). IsCall words g job s it.parts.printed it.parts.log it.parts.job) same it.call);
      sizes_are = given.sizes_are;
      laid = given.laid;
    }
gives n status P words g job code old new sizes own alone told (inl (it, inr short)) is = absurd (own.short (sym is ∙ short.code_is))
gives n status P words g job code old new sizes own alone told (inr (inl none)) is = absurd (own.memory (sym is ∙ none.code_is))
gives n status P words g job code old new sizes own alone told (inr (inr none)) is = absurd (own.job (sym is ∙ none.1.code_is))

pub gives_done : (P : Parts → Type 0) (words : Option Command) (g : PlainGiven) (job : Option (List ℕ)) (code : ℕ) (old new : List ℕ) (sizes : NinelaceSizes) → ((p : Parts) → IsCall words g job statuses.Done p.printed p.log p.job → P p)
    → Tells words g job code old new sizes → code ≡ 0 → Gives P old new sizes
gives_done P words g job code old new sizes told h is = gives 0 statuses.Done P words g job code old new sizes (record { memory = λ e. absurd cc; short = λ e. absurd cc; job = λ e. absurd cc }) done_alone told h is

pub gives_none : (P : Parts → Type 0) (words : Option Command) (g : PlainGiven) (job : Option (List ℕ)) (code : ℕ) (old new : List ℕ) (sizes : NinelaceSizes) → ((p : Parts) → IsCall words g job statuses.NoSelection p.printed p.log p.job → P p)
    → Tells words g job code old new sizes → code ≡ 11 → Gives P old new sizes
gives_none P words g job code old new sizes told h is = gives 11 statuses.NoSelection P words g job code old new sizes (record { memory = λ e. absurd cc; short = λ e. absurd cc; job = λ e. absurd cc }) none_alone told h is

pub gives_open : (P : Parts → Type 0) (words : Option Command) (g : PlainGiven) (job : Option (List ℕ)) (code : ℕ) (old new : List ℕ) (sizes : NinelaceSizes) → ((p : Parts) → IsCall words g job statuses.Unfinished p.printed p.log p.job → P p)
    → Tells words g job code old new sizes → code ≡ 10 → Gives P old new sizes
gives_open P words g job code old new sizes told h is = gives 10 statuses.Unfinished P words g job code old new sizes (record { memory = λ e. absurd cc; short = λ e. absurd cc; job = λ e. absurd cc }) open_alone told h is
