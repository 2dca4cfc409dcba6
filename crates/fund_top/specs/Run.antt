-- What is true of a run, by the command that its words are, its outside and its status.
-- The process ends with these numbers: Done 0, Usage 2, Input 3, ReadFault 4, WriteFault 5, KeepFault 6, Memory 7, Saved 8, Limit 9,
-- Unfinished 10, NoSelection 11, CheckRefused 12, Settle 13. There is no 1.
-- What is said of the content of files, of the output or of jobs is said where these tell it: those in memory do, real ones don't.
-- Of real ones it is said that such a report and log exist. A line that is put is whole, unless the output failed or found no memory:
-- then it has a first part of it.
-- A count rose where it is greater than before, or stands at the greatest number that it can have.
use Rattle.std.specs.Prelude.{◌≡◌, ◌≢◌, ◌↔◌, ◌⊎◌, Option, None, codes, IfSome}
use Rattle.command_end.specs.Lines.{GotLine, fault_line}
use Rattle.command_end.specs.Printed.{TellsWhole, TookAll}
use Rattle.command_end.specs.declared.status.Status.{Status}
use Rattle.command_end.specs.declared.status.Status.TheVariants as statuses
use Rattle.command_check.specs.Statuses.{EndsAccepted}
use Rattle.command_coins.specs.Statuses.{EndsListed}
use Rattle.command_desk.specs.Statuses.{EndsRunning}
use Rattle.command_inputs.specs.Jobs.{KeepsJobs}
use Rattle.command_fund.specs.Statuses.{EndsFunded}
use Rattle.command_inputs.specs.Results.{IsBeforeTheLog}
use Rattle.command_resume.specs.Statuses.{EndsFunded as EndsResumed}
use Rattle.command_work.specs.Statuses.{EndsSummed}
use Rattle.further_commands.specs.Statuses as further
use Rattle.fund_top.specs.Asked.{AsksFor}
use Rattle.fund_top.specs.Outcome.{ComesTo, IsRefusal, IsTold, Outcome}
use Rattle.fund_top.specs.Outside.{Outside}
use Rattle.fund_top.specs.Statuses.{EndsBroken, EndsInput, EndsLimited, EndsNotFunded, EndsNotKept, EndsUnfinished, EndsUnkept, EndsUnsettled, EndsUnread, EndsUnwritten, EndsWithoutMemory, GoesOnUninterrupted, KeepsOthers, NoneFailed, NoneUnkept, NoneUnread, WhereChecking, WhereDesk, WhereFunding, WhereFurther, WhereListing, WhereResuming, WhereWorking, job_of, status_of}
use Rattle.fund_top.specs.Words.{Command}

-- What is told of words that are no command.
pub record TellsUsage (v : Outside) (words : Option Command) (status : Status) : Type 0 where
  -- Usage comes exactly where the words are no command.
  pub usage : (status ≡ statuses.Usage) ↔ (words ≡ None)
  -- Its line is put, or a part of it where the output failed or found no memory.
  pub usage_line : v.tells_output → status ≡ statuses.Usage → GotLine (fault_line (codes "usage")) v.sink v.sink'
  -- No file is touched.
  pub untouched : status ≡ statuses.Usage → v.shelf' ≡ v.shelf
  -- No job is touched.
  pub unkept : status ≡ statuses.Usage → v.keeper' ≡ v.keeper

-- How the command ends, by each other status.
pub record EndsByStatus (v : Outside) (words : Option Command) (status : Status) : Type 0 where
  -- Done, with a payment: its coins may be spent, all listed ones are among them, the transaction pays each recipient exactly, in
  -- the request's order with the change last, and at least the fee of its declared weight at the rate, with the Pending payments
  -- that its coins rest on, as far as it is known what these pay. Each input of its PSBT shows the value and the script of its coin.
  -- The log is written, and the report is printed. Where the request names a payment, this one replaces it by BIP 125 and spends the
  -- coins of that one too, of which it isn't asked again whether they may be spent. An exhausted payment is the best of its row and
  -- stage, without change among the choices in the window of which no group can be left out; and of the stages that are compared
  -- with it that of least waste. No stage before these has a result. The log shows it. A drawn one is what the seed draws. A partial
  -- one is the best at hand in the open search when the tries were used up. Where nothing is searched for (given), the listed coins,
  -- or those of the replaced payment, pay alone.
  pub done : status ≡ statuses.Done → WhereFunding words (λ s p. EndsFunded v.tells_files v.tells_output s p v.shelf v.shelf' v.sink v.sink')
  -- Done, where a job was gone on with: coins, transaction, PSBT and log are as with `done`. Whatever the keeper returned, an
  -- exhausted and a drawn payment claim what they do there, since the whole log is accepted; a partial one is the best at hand where
  -- this run stood (`ClaimsOn`). Given doesn't come.
  pub resumed : status ≡ statuses.Done → WhereResuming words (λ s p job. EndsResumed v.tells_files v.tells_output v.tells_jobs s p job v.shelf v.shelf' v.sink v.sink' v.keeper)
  -- No selection: no search and no draw has a result, and the presets alone don't pay. Unless these bring all that is due, or the
  -- method is `manual`, no row has a choice of groups that meets what the method looks for. The log, which proves it of each search,
  -- is written, and the report is printed. A workload can end so too: its summary is printed. `wide` ends so where no row has coins
  -- that pay without change, `share` where neither row 1 nor row 2 reaches the amounts, which their logs prove. `sweep` ends so
  -- where it has no coin to spend, or where these leave its recipient less than is asked for; its report is printed, and it has no
  -- log. After `resume` this is so whatever the keeper returned.
  pub none : status ≡ statuses.NoSelection → IfSome words (λ c. EndsNotFunded v.tells_files v.tells_output v.tells_jobs c v.shelf v.shelf' v.sink v.sink' v.keeper)
  -- Unfinished: the request's tries are made, or as many as the job had left. A search is open. Either nothing was found, or the
  -- request says that nothing is taken then. No file is written, and where there is a job, the run is kept as that, with `fund` in
  -- place of what was kept under its name. A workload that ends so has no job: its summary is printed. `wide` ends so by the same
  -- rule, and `share` wherever its tries are used up, whatever the request says of that; both without a job. The report alone is
  -- printed.
  pub unfinished : status ≡ statuses.Unfinished → IfSome words (λ c. EndsUnfinished v.tells_files v.tells_output v.tells_jobs c v.shelf v.shelf' v.sink v.sink' v.keeper v.keeper')
  -- Done, where coins are listed: the tip, the states of the pending payments and the candidates are printed, and nothing else.
  pub listed : status ≡ statuses.Done → WhereListing words (λ s. EndsListed v.tells_files v.tells_output s v.shelf v.sink v.sink')
  -- Done, where a report is checked: it is accepted with its log, so it vouches for the plan's answer. A partial one vouches only
  -- that it pays as it says, an unfinished one only for its form. Where the request names a payment, the report's payment replaces
  -- it by BIP 125. That it is accepted and its first line are printed, and nothing else.
  pub accepted : status ≡ statuses.Done → WhereChecking words (λ s p report. EndsAccepted v.tells_files v.tells_output s p report v.shelf v.sink v.sink')
  -- Done, where a workload is summed up: the same is true of the payment from it as of one from files, and the summary of its
  -- report is printed, and nothing else.
  pub summed : status ≡ statuses.Done → WhereWorking words (λ number count. EndsSummed v.tells_output number count statuses.Done v.sink v.sink')
  -- Done, where a script is run at a desk: what is printed is the machine's reply to each of its lines, or that a line is no
  -- command, and nothing else. Replies that refuse end with Done too.
  pub replied : status ≡ statuses.Done → WhereDesk words (λ s script. EndsRunning v.tells_files v.tells_output s script v.shelf v.shelf' v.sink v.sink' statuses.Done)
  -- Done, by a command beside these. A payment of the wide search wastes the least of all choices of the first row that has one,
  -- whether or not each coin is needed, which its log proves; or it is the best so far of one, where the tries are used up. `share`
  -- takes the first of rows 1 and 2 that has a choice of coins worth the amounts. The payment spends the lightest such choice, and
  -- of the lightest one that is worth least; its log proves it. The recipients bear the fee, without change less what is left over:
  -- each the same share, the first also the satoshi that can't be parted, and each keeps at least its dust threshold. Both, and
  -- `sweep`, spend only coins that may be spent, and replace no payment. `sweep` spends all coins of the last row that are worth
  -- more than their input's fee and their price, and pays the one recipient what these bring at the rate, their prices paid, less
  -- the fee of the base. These print their report; `wide` and `share` write LOG, `sweep` writes no file. With `settle` the signed
  -- transaction is the payment of its report, each input weighs at most what was declared, and it pays the request's rate by what it
  -- truly weighs; its txid, weight, size, fee and what it weighs less than declared are printed, and nothing else.
  pub further : status ≡ statuses.Done → WhereFurther words (λ c. further.Ends v.tells_files v.tells_output c v.shelf v.shelf' v.sink v.sink' statuses.Done)
  -- Input: the first rule that is broken is told: of a file, or of the request on its chain. So it is with a payment that can't be
  -- replaced, a listed coin that isn't eligible, or a request that `wide`, `share` or `sweep` doesn't take. `share` ends so too where
  -- a recipient can't bear its share, `sweep` where the payment is too heavy, and `work` where two of its transactions have one txid.
  -- At a desk the rule is one of the wallet or the blocks.
  pub input : status ≡ statuses.Input → IfSome words (λ c. EndsInput v.tells_files v.tells_output c v.shelf v.sink v.sink')
  -- Limit: the first limit of a file is told, or the files have more than 100,000 coins, or a row of the ladder keeps more than
  -- 10,000 groups. A report, a log that is judged, a transaction, a script and a file that a line of it names are files here. Or it
  -- is a limit of the kept job: its tries are all made, or its parts are too long. A desk that has printed a reply puts no line.
  pub limit : status ≡ statuses.Limit → IfSome words (λ c. EndsLimited v.tells_files v.tells_output v.tells_jobs c v.shelf v.shelf' v.sink v.sink' v.keeper)
  -- Saved, with `resume` alone: the files are in order, and the first rule that the kept job breaks is told.
  pub saved : status ≡ statuses.Saved → IfSome words (λ c. EndsNotKept v.tells_files v.tells_output v.tells_jobs c v.shelf v.sink v.sink' v.keeper)
  -- A check that refuses, with `check` alone: the files are in order, and the first rule that the report breaks is told.
  pub check_refused : status ≡ statuses.CheckRefused → IfSome words (λ c. EndsBroken v.tells_files v.tells_output c v.shelf v.sink v.sink')
  -- A settling that refuses, with `settle` alone: the files are in order, and the first rule that is broken is told. It is one of the
  -- report, as that of a payment, or else of the signed transaction.
  pub settle_refused : status ≡ statuses.Settle → IfSome words (λ c. EndsUnsettled v.tells_files v.tells_output c v.shelf v.sink v.sink')
  -- A read fault comes only where the count of a file's failed reads rose. The line names the file; but where a desk has printed a
  -- reply, no line is put. The files before it are in order. Where it is a file that a line of a desk's script names, each line
  -- before has its reply too.
  pub read_fault : status ≡ statuses.ReadFault → IfSome words (λ c. EndsUnread v.tells_files v.tells_output c v.shelf v.shelf' v.sink v.sink')
  -- A write fault: nothing is refused, since a refusal keeps its status where the output fails. It comes only where the count of the
  -- log's failed writes rose, or that of the output's failures. If the log wasn't written, its line names it; what the file then
  -- holds isn't said, and the job is as before. If the output failed, it has a first part of what is due, maybe none or all of it;
  -- the log, where one is due, was written before, and an unfinished job was kept.
  pub write_fault : status ≡ statuses.WriteFault → IfSome words (λ c. EndsUnwritten v.tells_files v.tells_output v.tells_jobs c v.shelf v.shelf' v.sink v.sink' v.keeper v.keeper')
  -- A keep fault comes only where the count of the keeper's failures rose: with `fund` where an unfinished run was to be kept, with
  -- `resume` at any time after the files. Its line is put. Files (`kept`) and jobs (`jobs`) are as before.
  pub keep_fault : status ≡ statuses.KeepFault → IfSome words (λ c. EndsUnkept v.tells_files v.tells_output c v.shelf v.sink v.sink' v.keeper v.keeper')
  -- Memory, which may stand for each status but 2, 4, 6 and the 5 of the log: its line is put, and files and jobs are as before. Or
  -- the output found none and has a first part of what is due; the log, where one is due, was written before, and an unfinished job
  -- was kept. Or a desk stopped after replies, which stand whole and without a line.
  pub memory : status ≡ statuses.Memory → IfSome words (λ c. EndsWithoutMemory v.tells_files v.tells_output v.tells_jobs c v.shelf v.shelf' v.sink v.sink' v.keeper v.keeper')

-- A failed read, write of the log or keeper is told as that. An output that failed or found no memory is never told as success.
pub record TellsFailures (v : Outside) (status : Status) : Type 0 where
  -- A read that failed is told as a read fault.
  pub all_read : status ≢ statuses.ReadFault → v.shelf'.reads ≡ v.shelf.reads
  -- A write of the log that failed is told as a write fault.
  pub all_written : status ≢ statuses.WriteFault → v.shelf'.writes ≡ v.shelf.writes
  -- An output that failed or found no memory is never told as success: as done, no selection or unfinished. Where it failed the
  -- status is 5, 7, or that of what was refused or failed before.
  pub all_put : TellsWhole status → TookAll v.sink v.sink'
  -- A keeper that failed is told as a keep fault.
  pub unfailed : status ≢ statuses.KeepFault → v.keeper'.faults ≡ v.keeper.faults

-- What stays as it was.
pub record LeavesOthers (v : Outside) (words : Option Command) (status : Status) : Type 0 where
  -- Every file stays but the log of a payment.
  pub others : v.tells_files → IfSome words (λ c. KeepsOthers c v.shelf.files v.shelf'.files)
  -- With Usage, Input, ReadFault, KeepFault, Saved, Limit, Unfinished, CheckRefused and Settle (2, 3, 4, 6, 8, 9, 10, 12 and 13) no
  -- file changes, the log neither.
  pub kept : v.tells_files → IsBeforeTheLog status → v.shelf'.files ≡ v.shelf.files
  -- A job that the words don't name stays. The named one may change with Unfinished, WriteFault and Memory; with the last two only
  -- where the run is unfinished and its report wasn't printed whole (`write_fault`, `memory`). So with Done and NoSelection the job is
  -- as it was: it isn't deleted.
  pub jobs : v.tells_jobs → IfSome words (λ c. KeepsJobs (job_of c) status v.keeper v.keeper')

-- What is read.
pub record ReadsInOrder (v : Outside) (words : Option Command) : Type 0 where
  -- Only the files that the words name are read, and those that the lines of a desk's script name: in their order, each at its place;
  -- a name that has two places may be read at both. A job changes nothing in this. The log of a payment is never read, and after a
  -- file for which the run ends none is. What a desk's reply refuses ends nothing.
  pub asked : v.tells_files → IfSome words (λ c. AsksFor c v.shelf v.shelf')
  -- A workload is summed up without files: none is asked for or touched.
  pub apart : WhereWorking words (λ number count. v.shelf' ≡ v.shelf)

-- Going on gives the uninterrupted answer.
pub record GoesOn (v : Outside) (words : Option Command) (status : Status) : Type 0 where
  -- Let unfinished runs of the same files have left the job after n tries. Then going on ends as one run of n and the request's
  -- tries together does, byte for byte in report and log. Unfinished again, it leaves the job as after n and the request's tries, so
  -- that this holds of the next resume too. It refuses neither the files nor the job, but for one that has made all its tries, as a
  -- limit. With the statuses 4 to 7 this says nothing.
  pub uninterrupted : v.tells_files → v.tells_output → v.tells_jobs → WhereResuming words (λ s p job. GoesOnUninterrupted s p job v.shelf v.shelf' v.sink v.sink' v.keeper v.keeper' status)

-- A refusal is told whatever the output does.
pub record RefusesFirst (v : Outside) (words : Option Command) (status : Status) : Type 0 where
  -- Let the files, the kept job, or what `check`, `settle` or `desk` is given call for a refusal. Let no read of them fail, and where
  -- it is the job that is refused, let the keeper not fail. Then the status is that of the refusal or out of memory, also if the
  -- output fails.
  pub refused : IfSome words (λ c. v.tells_files → NoneUnread c v.shelf v.shelf' → (due : Outcome) → IsRefusal due → NoneUnkept v.tells_jobs due v.keeper v.keeper' → ComesTo v.shelf.files v.keeper.jobs c due → (status ≡ status_of due) ⊎ (status ≡ statuses.Memory))

-- What is due is told where nothing fails.
pub record TellsDue (v : Outside) (words : Option Command) (status : Status) : Type 0 where
  -- Where no read, nor the log's writing, the output or the keeper failed, the status is that of what files and job come to, or
  -- out of memory.
  pub complete : IfSome words (λ c. IsTold v.tells_files v.tells_jobs c → NoneFailed c v.shelf v.shelf' v.sink v.sink' v.keeper v.keeper' → (due : Outcome) → ComesTo v.shelf.files v.keeper.jobs c due → (status ≡ status_of due) ⊎ (status ≡ statuses.Memory))
