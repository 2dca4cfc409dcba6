-- What is true of a run, by how its command ends and by what it leaves.
use Rattle.std.proofs.Common.{◌≡◌, Option, Some, None, refl, subst, sym}
use Rattle.std.specs.Prelude.{codes}
use Rattle.command_check.specs.Statuses as checks
use Rattle.command_coins.specs.Statuses as listings
use Rattle.command_desk.specs.Statuses as desks
use Rattle.command_end.specs.Lines.{GotLine, fault_line}
use Rattle.command_end.specs.declared.status.Status.{Status}
use Rattle.command_end.specs.declared.status.Status.TheVariants as statuses
use Rattle.command_inputs.specs.Jobs.{KeepsJobs}
use Rattle.command_fund.specs.Statuses as payments
use Rattle.command_inputs.specs.Results.{IsBeforeTheLog}
use Rattle.command_resume.specs.Statuses as resumes
use Rattle.command_work.specs.Statuses as loads
use Rattle.further_commands.specs.Statuses as further
use Rattle.fund_top.specs.Asked.{AsksFor}
use Rattle.fund_top.specs.Outside.{Outside}
use Rattle.fund_top.specs.Run.{EndsByStatus, GoesOn, LeavesOthers, ReadsInOrder, RefusesFirst, TellsDue, TellsUsage}
use Rattle.fund_top.specs.Statuses.{Ends, EndsDone, KeepsOthers, WhereChecking, WhereDesk, WhereFunding, WhereFurther, WhereListing, WhereResuming, WhereWorking, job_of}
use Rattle.fund_top.specs.Words.{Command, Coins, Fund, Resume, Check, Work, Desk, Further}
use Rattle.fund_top.proofs.EndsLaws.{ends_complete, ends_refused}
use Rattle.fund_top.proofs.GoesOnLaws.{ends_uninterrupted}

-- what a command that is done has done
record IsDone (v : Outside) (c : Command) : Type 0 where
  done : WhereFunding (Some c) (λ s p. payments.EndsFunded v.tells_files v.tells_output s p v.shelf v.shelf' v.sink v.sink')
  resumed : WhereResuming (Some c) (λ s p job. resumes.EndsFunded v.tells_files v.tells_output v.tells_jobs s p job v.shelf v.shelf' v.sink v.sink' v.keeper)
  listed : WhereListing (Some c) (λ s. listings.EndsListed v.tells_files v.tells_output s v.shelf v.sink v.sink')
  accepted : WhereChecking (Some c) (λ s p report. checks.EndsAccepted v.tells_files v.tells_output s p report v.shelf v.sink v.sink')
  summed : WhereWorking (Some c) (λ number count. loads.EndsSummed v.tells_output number count statuses.Done v.sink v.sink')
  replied : WhereDesk (Some c) (λ s script. desks.EndsRunning v.tells_files v.tells_output s script v.shelf v.shelf' v.sink v.sink' statuses.Done)
  further : WhereFurther (Some c) (λ x. further.Ends v.tells_files v.tells_output x v.shelf v.shelf' v.sink v.sink' statuses.Done)

is_done : (v : Outside) (c : Command) → EndsDone v.tells_files v.tells_output v.tells_jobs c v.shelf v.shelf' v.sink v.sink' v.keeper → IsDone v c
is_done v (Coins s) h = record { done = tt; resumed = tt; listed = h; accepted = tt; summed = tt; replied = tt; further = tt }
is_done v (Fund s p job) h = record { done = h; resumed = tt; listed = tt; accepted = tt; summed = tt; replied = tt; further = tt }
is_done v (Resume s p job) h = record { done = tt; resumed = h; listed = tt; accepted = tt; summed = tt; replied = tt; further = tt }
is_done v (Check s p report) h = record { done = tt; resumed = tt; listed = tt; accepted = h; summed = tt; replied = tt; further = tt }
is_done v (Work number count) h = record { done = tt; resumed = tt; listed = tt; accepted = tt; summed = h; replied = tt; further = tt }
is_done v (Desk s script) h = record { done = tt; resumed = tt; listed = tt; accepted = tt; summed = tt; replied = h; further = tt }
is_done v (Further x) h = record { done = tt; resumed = tt; listed = tt; accepted = tt; summed = tt; replied = tt; further = h }

-- a command that ends so by its status
module _ (v : Outside) (c : Command) (status : Status) (ends : Ends v.tells_files v.tells_output v.tells_jobs c v.shelf v.shelf' v.sink v.sink' v.keeper v.keeper' status) where
  abbrev EndsAt : Status → Type 0
  EndsAt x = Ends v.tells_files v.tells_output v.tells_jobs c v.shelf v.shelf' v.sink v.sink' v.keeper v.keeper' x

  by : (x : Status) → status ≡ x → EndsAt x
  by x is = subst EndsAt is ends

  is_no_usage : TellsUsage v (Some c) status
  is_no_usage = record {
    usage = (λ e. absurd (by statuses.Usage e), λ e. absurd cc);
    usage_line = λ told e. absurd (by statuses.Usage e);
    untouched = λ e. absurd (by statuses.Usage e);
    unkept = λ e. absurd (by statuses.Usage e);
  }

  ends_by_status : EndsByStatus v (Some c) status
  ends_by_status = record {
    done = λ e. (is_done v c (by statuses.Done e)).done;
    resumed = λ e. (is_done v c (by statuses.Done e)).resumed;
    none = λ e. by statuses.NoSelection e;
    unfinished = λ e. by statuses.Unfinished e;
    listed = λ e. (is_done v c (by statuses.Done e)).listed;
    accepted = λ e. (is_done v c (by statuses.Done e)).accepted;
    summed = λ e. (is_done v c (by statuses.Done e)).summed;
    replied = λ e. (is_done v c (by statuses.Done e)).replied;
    further = λ e. (is_done v c (by statuses.Done e)).further;
    input = λ e. by statuses.Input e;
    limit = λ e. by statuses.Limit e;
    saved = λ e. by statuses.Saved e;
    check_refused = λ e. by statuses.CheckRefused e;
    settle_refused = λ e. by statuses.Settle e;
    read_fault = λ e. by statuses.ReadFault e;
    write_fault = λ e. by statuses.WriteFault e;
    keep_fault = λ e. by statuses.KeepFault e;
    memory = λ e. by statuses.Memory e;
  }

-- so of the words that are this command
module _ (v : Outside) (c : Command) (o : Option Command) (is : Some c ≡ o) (status : Status) where
  module _ (ends : Ends v.tells_files v.tells_output v.tells_jobs c v.shelf v.shelf' v.sink v.sink' v.keeper v.keeper' status) where
    pub command_usage : TellsUsage v o status
    command_usage = subst (λ (x : Option Command). TellsUsage v x status) is (is_no_usage v c status ends)

    pub command_ends : EndsByStatus v o status
    command_ends = subst (λ (x : Option Command). EndsByStatus v x status) is (ends_by_status v c status ends)

    pub command_goes_on : GoesOn v o status
    command_goes_on = subst (λ (x : Option Command). GoesOn v x status) is (record { uninterrupted = λ files text jobs. ends_uninterrupted _ _ _ c v.shelf v.shelf' v.sink v.sink' v.keeper v.keeper' status ends files text jobs })

    pub command_refuses : RefusesFirst v o status
    command_refuses = subst (λ (x : Option Command). RefusesFirst v x status) is (record { refused = λ told none due refusal keeps comes. ends_refused _ _ _ c v.shelf v.shelf' v.sink v.sink' v.keeper v.keeper' status ends told none due refusal keeps comes })

    pub command_due : TellsDue v o status
    command_due = subst (λ (x : Option Command). TellsDue v x status) is (record { complete = λ told none due comes. ends_complete _ _ _ c v.shelf v.shelf' v.sink v.sink' v.keeper v.keeper' status ends told none due comes })

  pub command_stays : (v.tells_files → KeepsOthers c v.shelf.files v.shelf'.files) → (v.tells_files → IsBeforeTheLog status → v.shelf'.files ≡ v.shelf.files) → (v.tells_jobs → KeepsJobs (job_of c) status v.keeper v.keeper') → LeavesOthers v o status
  command_stays others kept jobs = subst (λ (x : Option Command). LeavesOthers v x status) is (record { others = others; kept = kept; jobs = jobs })

  pub command_reads : (v.tells_files → AsksFor c v.shelf v.shelf') → WhereWorking (Some c) (λ number count. v.shelf' ≡ v.shelf) → ReadsInOrder v o
  command_reads asked apart = subst (λ (x : Option Command). ReadsInOrder v x) is (record { asked = asked; apart = apart })

-- words that are no command, of which only the line is put
module _ (v : Outside) (o : Option Command) (is : None ≡ o) where
  pub usage_told : (v.tells_output → GotLine (fault_line (codes "usage")) v.sink v.sink') → v.shelf' ≡ v.shelf → v.keeper' ≡ v.keeper → TellsUsage v o statuses.Usage
  usage_told line same kept = record { usage = (λ e. sym is, λ e. refl); usage_line = λ told e. line told; untouched = λ e. same; unkept = λ e. kept }

  pub usage_ends : EndsByStatus v o statuses.Usage
  usage_ends = record {
    done = λ e. absurd cc;
    resumed = λ e. absurd cc;
    none = λ e. absurd cc;
    unfinished = λ e. absurd cc;
    listed = λ e. absurd cc;
    accepted = λ e. absurd cc;
    summed = λ e. absurd cc;
    replied = λ e. absurd cc;
    further = λ e. absurd cc;
    input = λ e. absurd cc;
    limit = λ e. absurd cc;
    saved = λ e. absurd cc;
    check_refused = λ e. absurd cc;
    settle_refused = λ e. absurd cc;
    read_fault = λ e. absurd cc;
    write_fault = λ e. absurd cc;
    keep_fault = λ e. absurd cc;
    memory = λ e. absurd cc;
  }

  pub usage_stays : v.shelf'.files ≡ v.shelf.files → LeavesOthers v o statuses.Usage
  usage_stays same = subst (λ (x : Option Command). LeavesOthers v x statuses.Usage) is (record { others = λ told. tt; kept = λ told before. same; jobs = λ told. tt })

  pub usage_reads : ReadsInOrder v o
  usage_reads = subst (λ (x : Option Command). ReadsInOrder v x) is (record { asked = λ told. tt; apart = tt })

  pub usage_goes_on : GoesOn v o statuses.Usage
  usage_goes_on = subst (λ (x : Option Command). GoesOn v x statuses.Usage) is (record { uninterrupted = λ files text jobs. tt })

  pub usage_refuses : RefusesFirst v o statuses.Usage
  usage_refuses = subst (λ (x : Option Command). RefusesFirst v x statuses.Usage) is (record { refused = tt })

  pub usage_due : TellsDue v o statuses.Usage
  usage_due = subst (λ (x : Option Command). TellsDue v x statuses.Usage) is (record { complete = tt })
