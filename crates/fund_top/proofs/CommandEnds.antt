-- The ends of each command are those of all, and the other way.
use Rattle.std.proofs.Common.{ℕ, List, Option, inl, inr}
use Rattle.fund_shelf.specs.Causes.{ShelfView, SinkView}
use Rattle.fund_outside.specs.Kept.{KeeperView}
use Rattle.command_end.specs.Names.{Sources}
use Rattle.command_end.specs.declared.status.Status.{Status}
use Rattle.command_end.specs.declared.status.Status.TheVariants as statuses
use Rattle.command_check.specs.Statuses as checks
use Rattle.command_coins.specs.Statuses as listings
use Rattle.command_desk.specs.Statuses as desks
use Rattle.command_inputs.specs.Names.{Payment}
use Rattle.command_fund.specs.Statuses as payments
use Rattle.command_resume.specs.Statuses as resumes
use Rattle.command_work.specs.Statuses as loads
use Rattle.further_commands.proofs.EndsLaws.{input_alone, input_back, never_checks, never_keeps, never_saves, never_usage, settle_alone, settle_back}
use Rattle.further_commands.specs.Command.{FurtherCommand}
use Rattle.further_commands.specs.Statuses as further
use Rattle.fund_top.specs.Statuses.{Ends}
use Rattle.fund_top.specs.Words.{Coins, Fund, Resume, Check, Work, Desk, Further}

pub listing_ends : (told_files told told_jobs : Type 0) (s : Sources) (shelf shelf' : ShelfView) (sink sink' : SinkView) (keeper keeper' : KeeperView) (status : Status) → listings.Ends told_files told s shelf shelf' sink sink' status → Ends told_files told told_jobs (Coins s) shelf shelf' sink sink' keeper keeper' status
listing_ends told_files told told_jobs s shelf shelf' sink sink' keeper keeper' statuses.Done h = h
listing_ends told_files told told_jobs s shelf shelf' sink sink' keeper keeper' statuses.NoSelection h = h
listing_ends told_files told told_jobs s shelf shelf' sink sink' keeper keeper' statuses.Unfinished h = h
listing_ends told_files told told_jobs s shelf shelf' sink sink' keeper keeper' statuses.Usage h = h
listing_ends told_files told told_jobs s shelf shelf' sink sink' keeper keeper' statuses.Input h = h
listing_ends told_files told told_jobs s shelf shelf' sink sink' keeper keeper' statuses.Limit h = h
listing_ends told_files told told_jobs s shelf shelf' sink sink' keeper keeper' statuses.ReadFault h = h
listing_ends told_files told told_jobs s shelf shelf' sink sink' keeper keeper' statuses.WriteFault h = h
listing_ends told_files told told_jobs s shelf shelf' sink sink' keeper keeper' statuses.KeepFault h = h
listing_ends told_files told told_jobs s shelf shelf' sink sink' keeper keeper' statuses.Memory h = h
listing_ends told_files told told_jobs s shelf shelf' sink sink' keeper keeper' statuses.Saved h = h
listing_ends told_files told told_jobs s shelf shelf' sink sink' keeper keeper' statuses.CheckRefused h = h
listing_ends told_files told told_jobs s shelf shelf' sink sink' keeper keeper' statuses.Settle h = h

pub payment_ends : (told_files told told_jobs : Type 0) (s : Sources) (p : Payment) (job : Option (List ℕ)) (shelf shelf' : ShelfView) (sink sink' : SinkView) (keeper keeper' : KeeperView) (status : Status) → payments.Ends told_files told told_jobs s p job shelf shelf' sink sink' keeper keeper' status → Ends told_files told told_jobs (Fund s p job) shelf shelf' sink sink' keeper keeper' status
payment_ends told_files told told_jobs s p job shelf shelf' sink sink' keeper keeper' statuses.Done h = h
payment_ends told_files told told_jobs s p job shelf shelf' sink sink' keeper keeper' statuses.NoSelection h = h
payment_ends told_files told told_jobs s p job shelf shelf' sink sink' keeper keeper' statuses.Unfinished h = h
payment_ends told_files told told_jobs s p job shelf shelf' sink sink' keeper keeper' statuses.Usage h = h
payment_ends told_files told told_jobs s p job shelf shelf' sink sink' keeper keeper' statuses.Input h = h
payment_ends told_files told told_jobs s p job shelf shelf' sink sink' keeper keeper' statuses.Limit h = h
payment_ends told_files told told_jobs s p job shelf shelf' sink sink' keeper keeper' statuses.ReadFault h = h
payment_ends told_files told told_jobs s p job shelf shelf' sink sink' keeper keeper' statuses.WriteFault h = h
payment_ends told_files told told_jobs s p job shelf shelf' sink sink' keeper keeper' statuses.KeepFault h = h
payment_ends told_files told told_jobs s p job shelf shelf' sink sink' keeper keeper' statuses.Memory h = h
payment_ends told_files told told_jobs s p job shelf shelf' sink sink' keeper keeper' statuses.Saved h = h
payment_ends told_files told told_jobs s p job shelf shelf' sink sink' keeper keeper' statuses.CheckRefused h = h
payment_ends told_files told told_jobs s p job shelf shelf' sink sink' keeper keeper' statuses.Settle h = h

pub resume_ends : (told_files told told_jobs : Type 0) (s : Sources) (p : Payment) (job : List ℕ) (shelf shelf' : ShelfView) (sink sink' : SinkView) (keeper keeper' : KeeperView) (status : Status) → resumes.Ends told_files told told_jobs s p job shelf shelf' sink sink' keeper keeper' status → Ends told_files told told_jobs (Resume s p job) shelf shelf' sink sink' keeper keeper' status
resume_ends told_files told told_jobs s p job shelf shelf' sink sink' keeper keeper' statuses.Done h = h
resume_ends told_files told told_jobs s p job shelf shelf' sink sink' keeper keeper' statuses.NoSelection h = h
resume_ends told_files told told_jobs s p job shelf shelf' sink sink' keeper keeper' statuses.Unfinished h = h
resume_ends told_files told told_jobs s p job shelf shelf' sink sink' keeper keeper' statuses.Usage h = h
resume_ends told_files told told_jobs s p job shelf shelf' sink sink' keeper keeper' statuses.Input h = h
resume_ends told_files told told_jobs s p job shelf shelf' sink sink' keeper keeper' statuses.Limit h = h
resume_ends told_files told told_jobs s p job shelf shelf' sink sink' keeper keeper' statuses.ReadFault h = h
resume_ends told_files told told_jobs s p job shelf shelf' sink sink' keeper keeper' statuses.WriteFault h = h
resume_ends told_files told told_jobs s p job shelf shelf' sink sink' keeper keeper' statuses.KeepFault h = h
resume_ends told_files told told_jobs s p job shelf shelf' sink sink' keeper keeper' statuses.Memory h = h
resume_ends told_files told told_jobs s p job shelf shelf' sink sink' keeper keeper' statuses.Saved h = h
resume_ends told_files told told_jobs s p job shelf shelf' sink sink' keeper keeper' statuses.CheckRefused h = h
resume_ends told_files told told_jobs s p job shelf shelf' sink sink' keeper keeper' statuses.Settle h = h

pub check_ends : (told_files told told_jobs : Type 0) (s : Sources) (p : Payment) (report : List ℕ) (shelf shelf' : ShelfView) (sink sink' : SinkView) (keeper keeper' : KeeperView) (status : Status) → checks.Ends told_files told s p report shelf shelf' sink sink' status → Ends told_files told told_jobs (Check s p report) shelf shelf' sink sink' keeper keeper' status
check_ends told_files told told_jobs s p report shelf shelf' sink sink' keeper keeper' statuses.Done h = h
check_ends told_files told told_jobs s p report shelf shelf' sink sink' keeper keeper' statuses.NoSelection h = h
check_ends told_files told told_jobs s p report shelf shelf' sink sink' keeper keeper' statuses.Unfinished h = h
check_ends told_files told told_jobs s p report shelf shelf' sink sink' keeper keeper' statuses.Usage h = h
check_ends told_files told told_jobs s p report shelf shelf' sink sink' keeper keeper' statuses.Input h = h
check_ends told_files told told_jobs s p report shelf shelf' sink sink' keeper keeper' statuses.Limit h = h
check_ends told_files told told_jobs s p report shelf shelf' sink sink' keeper keeper' statuses.ReadFault h = h
check_ends told_files told told_jobs s p report shelf shelf' sink sink' keeper keeper' statuses.WriteFault h = h
check_ends told_files told told_jobs s p report shelf shelf' sink sink' keeper keeper' statuses.KeepFault h = h
check_ends told_files told told_jobs s p report shelf shelf' sink sink' keeper keeper' statuses.Memory h = h
check_ends told_files told told_jobs s p report shelf shelf' sink sink' keeper keeper' statuses.Saved h = h
check_ends told_files told told_jobs s p report shelf shelf' sink sink' keeper keeper' statuses.CheckRefused h = h
check_ends told_files told told_jobs s p report shelf shelf' sink sink' keeper keeper' statuses.Settle h = h

pub load_ends : (told_files told told_jobs : Type 0) (number count : ℕ) (shelf shelf' : ShelfView) (sink sink' : SinkView) (keeper keeper' : KeeperView) (status : Status) → loads.Ends told number count sink sink' status → Ends told_files told told_jobs (Work number count) shelf shelf' sink sink' keeper keeper' status
load_ends told_files told told_jobs number count shelf shelf' sink sink' keeper keeper' statuses.Done h = h
load_ends told_files told told_jobs number count shelf shelf' sink sink' keeper keeper' statuses.NoSelection h = h
load_ends told_files told told_jobs number count shelf shelf' sink sink' keeper keeper' statuses.Unfinished h = h
load_ends told_files told told_jobs number count shelf shelf' sink sink' keeper keeper' statuses.Usage h = h
load_ends told_files told told_jobs number count shelf shelf' sink sink' keeper keeper' statuses.Input h = h
load_ends told_files told told_jobs number count shelf shelf' sink sink' keeper keeper' statuses.Limit h = h
load_ends told_files told told_jobs number count shelf shelf' sink sink' keeper keeper' statuses.ReadFault h = h
load_ends told_files told told_jobs number count shelf shelf' sink sink' keeper keeper' statuses.WriteFault h = h
load_ends told_files told told_jobs number count shelf shelf' sink sink' keeper keeper' statuses.KeepFault h = h
load_ends told_files told told_jobs number count shelf shelf' sink sink' keeper keeper' statuses.Memory h = h
load_ends told_files told told_jobs number count shelf shelf' sink sink' keeper keeper' statuses.Saved h = h
load_ends told_files told told_jobs number count shelf shelf' sink sink' keeper keeper' statuses.CheckRefused h = h
load_ends told_files told told_jobs number count shelf shelf' sink sink' keeper keeper' statuses.Settle h = h

pub desk_ends : (told_files told told_jobs : Type 0) (s : Sources) (script : List ℕ) (shelf shelf' : ShelfView) (sink sink' : SinkView) (keeper keeper' : KeeperView) (status : Status) → desks.Ends told_files told s script shelf shelf' sink sink' status → Ends told_files told told_jobs (Desk s script) shelf shelf' sink sink' keeper keeper' status
desk_ends told_files told told_jobs s script shelf shelf' sink sink' keeper keeper' statuses.Done (inl h) = absurd h
desk_ends told_files told told_jobs s script shelf shelf' sink sink' keeper keeper' statuses.Done (inr h) = h
desk_ends told_files told told_jobs s script shelf shelf' sink sink' keeper keeper' statuses.NoSelection (inl h) = absurd h
desk_ends told_files told told_jobs s script shelf shelf' sink sink' keeper keeper' statuses.NoSelection (inr h) = absurd h.runs
desk_ends told_files told told_jobs s script shelf shelf' sink sink' keeper keeper' statuses.Unfinished (inl h) = absurd h
desk_ends told_files told told_jobs s script shelf shelf' sink sink' keeper keeper' statuses.Unfinished (inr h) = absurd h.runs
desk_ends told_files told told_jobs s script shelf shelf' sink sink' keeper keeper' statuses.Usage (inl h) = absurd h
desk_ends told_files told told_jobs s script shelf shelf' sink sink' keeper keeper' statuses.Usage (inr h) = absurd h.runs
desk_ends told_files told told_jobs s script shelf shelf' sink sink' keeper keeper' statuses.Input (inl h) = h
desk_ends told_files told told_jobs s script shelf shelf' sink sink' keeper keeper' statuses.Input (inr h) = absurd h.runs
desk_ends told_files told told_jobs s script shelf shelf' sink sink' keeper keeper' statuses.Limit h = h
desk_ends told_files told told_jobs s script shelf shelf' sink sink' keeper keeper' statuses.ReadFault h = h
desk_ends told_files told told_jobs s script shelf shelf' sink sink' keeper keeper' statuses.WriteFault (inl h) = absurd h
desk_ends told_files told told_jobs s script shelf shelf' sink sink' keeper keeper' statuses.WriteFault (inr h) = h
desk_ends told_files told told_jobs s script shelf shelf' sink sink' keeper keeper' statuses.KeepFault (inl h) = absurd h
desk_ends told_files told told_jobs s script shelf shelf' sink sink' keeper keeper' statuses.KeepFault (inr h) = absurd h.runs
desk_ends told_files told told_jobs s script shelf shelf' sink sink' keeper keeper' statuses.Memory h = h
desk_ends told_files told told_jobs s script shelf shelf' sink sink' keeper keeper' statuses.Saved (inl h) = absurd h
desk_ends told_files told told_jobs s script shelf shelf' sink sink' keeper keeper' statuses.Saved (inr h) = absurd h.runs
desk_ends told_files told told_jobs s script shelf shelf' sink sink' keeper keeper' statuses.CheckRefused (inl h) = absurd h
desk_ends told_files told told_jobs s script shelf shelf' sink sink' keeper keeper' statuses.Settle (inl h) = absurd h
desk_ends told_files told told_jobs s script shelf shelf' sink sink' keeper keeper' statuses.CheckRefused (inr h) = absurd h.runs
desk_ends told_files told told_jobs s script shelf shelf' sink sink' keeper keeper' statuses.Settle (inr h) = absurd h.runs

-- ---- and the other way

pub listing_back : (told_files told told_jobs : Type 0) (s : Sources) (shelf shelf' : ShelfView) (sink sink' : SinkView) (keeper keeper' : KeeperView) (status : Status) → Ends told_files told told_jobs (Coins s) shelf shelf' sink sink' keeper keeper' status → listings.Ends told_files told s shelf shelf' sink sink' status
listing_back told_files told told_jobs s shelf shelf' sink sink' keeper keeper' statuses.Done h = h
listing_back told_files told told_jobs s shelf shelf' sink sink' keeper keeper' statuses.NoSelection h = h
listing_back told_files told told_jobs s shelf shelf' sink sink' keeper keeper' statuses.Unfinished h = h
listing_back told_files told told_jobs s shelf shelf' sink sink' keeper keeper' statuses.Usage h = h
listing_back told_files told told_jobs s shelf shelf' sink sink' keeper keeper' statuses.Input h = h
listing_back told_files told told_jobs s shelf shelf' sink sink' keeper keeper' statuses.Limit h = h
listing_back told_files told told_jobs s shelf shelf' sink sink' keeper keeper' statuses.ReadFault h = h
listing_back told_files told told_jobs s shelf shelf' sink sink' keeper keeper' statuses.WriteFault h = h
listing_back told_files told told_jobs s shelf shelf' sink sink' keeper keeper' statuses.KeepFault h = h
listing_back told_files told told_jobs s shelf shelf' sink sink' keeper keeper' statuses.Memory h = h
listing_back told_files told told_jobs s shelf shelf' sink sink' keeper keeper' statuses.Saved h = h
listing_back told_files told told_jobs s shelf shelf' sink sink' keeper keeper' statuses.CheckRefused h = h
listing_back told_files told told_jobs s shelf shelf' sink sink' keeper keeper' statuses.Settle h = h

pub payment_back : (told_files told told_jobs : Type 0) (s : Sources) (p : Payment) (job : Option (List ℕ)) (shelf shelf' : ShelfView) (sink sink' : SinkView) (keeper keeper' : KeeperView) (status : Status) → Ends told_files told told_jobs (Fund s p job) shelf shelf' sink sink' keeper keeper' status → payments.Ends told_files told told_jobs s p job shelf shelf' sink sink' keeper keeper' status
payment_back told_files told told_jobs s p job shelf shelf' sink sink' keeper keeper' statuses.Done h = h
payment_back told_files told told_jobs s p job shelf shelf' sink sink' keeper keeper' statuses.NoSelection h = h
payment_back told_files told told_jobs s p job shelf shelf' sink sink' keeper keeper' statuses.Unfinished h = h
payment_back told_files told told_jobs s p job shelf shelf' sink sink' keeper keeper' statuses.Usage h = h
payment_back told_files told told_jobs s p job shelf shelf' sink sink' keeper keeper' statuses.Input h = h
payment_back told_files told told_jobs s p job shelf shelf' sink sink' keeper keeper' statuses.Limit h = h
payment_back told_files told told_jobs s p job shelf shelf' sink sink' keeper keeper' statuses.ReadFault h = h
payment_back told_files told told_jobs s p job shelf shelf' sink sink' keeper keeper' statuses.WriteFault h = h
payment_back told_files told told_jobs s p job shelf shelf' sink sink' keeper keeper' statuses.KeepFault h = h
payment_back told_files told told_jobs s p job shelf shelf' sink sink' keeper keeper' statuses.Memory h = h
payment_back told_files told told_jobs s p job shelf shelf' sink sink' keeper keeper' statuses.Saved h = h
payment_back told_files told told_jobs s p job shelf shelf' sink sink' keeper keeper' statuses.CheckRefused h = h
payment_back told_files told told_jobs s p job shelf shelf' sink sink' keeper keeper' statuses.Settle h = h

pub resume_back : (told_files told told_jobs : Type 0) (s : Sources) (p : Payment) (job : List ℕ) (shelf shelf' : ShelfView) (sink sink' : SinkView) (keeper keeper' : KeeperView) (status : Status) → Ends told_files told told_jobs (Resume s p job) shelf shelf' sink sink' keeper keeper' status → resumes.Ends told_files told told_jobs s p job shelf shelf' sink sink' keeper keeper' status
resume_back told_files told told_jobs s p job shelf shelf' sink sink' keeper keeper' statuses.Done h = h
resume_back told_files told told_jobs s p job shelf shelf' sink sink' keeper keeper' statuses.NoSelection h = h
resume_back told_files told told_jobs s p job shelf shelf' sink sink' keeper keeper' statuses.Unfinished h = h
resume_back told_files told told_jobs s p job shelf shelf' sink sink' keeper keeper' statuses.Usage h = h
resume_back told_files told told_jobs s p job shelf shelf' sink sink' keeper keeper' statuses.Input h = h
resume_back told_files told told_jobs s p job shelf shelf' sink sink' keeper keeper' statuses.Limit h = h
resume_back told_files told told_jobs s p job shelf shelf' sink sink' keeper keeper' statuses.ReadFault h = h
resume_back told_files told told_jobs s p job shelf shelf' sink sink' keeper keeper' statuses.WriteFault h = h
resume_back told_files told told_jobs s p job shelf shelf' sink sink' keeper keeper' statuses.KeepFault h = h
resume_back told_files told told_jobs s p job shelf shelf' sink sink' keeper keeper' statuses.Memory h = h
resume_back told_files told told_jobs s p job shelf shelf' sink sink' keeper keeper' statuses.Saved h = h
resume_back told_files told told_jobs s p job shelf shelf' sink sink' keeper keeper' statuses.CheckRefused h = h
resume_back told_files told told_jobs s p job shelf shelf' sink sink' keeper keeper' statuses.Settle h = h

pub check_back : (told_files told told_jobs : Type 0) (s : Sources) (p : Payment) (report : List ℕ) (shelf shelf' : ShelfView) (sink sink' : SinkView) (keeper keeper' : KeeperView) (status : Status) → Ends told_files told told_jobs (Check s p report) shelf shelf' sink sink' keeper keeper' status → checks.Ends told_files told s p report shelf shelf' sink sink' status
check_back told_files told told_jobs s p report shelf shelf' sink sink' keeper keeper' statuses.Done h = h
check_back told_files told told_jobs s p report shelf shelf' sink sink' keeper keeper' statuses.NoSelection h = h
check_back told_files told told_jobs s p report shelf shelf' sink sink' keeper keeper' statuses.Unfinished h = h
check_back told_files told told_jobs s p report shelf shelf' sink sink' keeper keeper' statuses.Usage h = h
check_back told_files told told_jobs s p report shelf shelf' sink sink' keeper keeper' statuses.Input h = h
check_back told_files told told_jobs s p report shelf shelf' sink sink' keeper keeper' statuses.Limit h = h
check_back told_files told told_jobs s p report shelf shelf' sink sink' keeper keeper' statuses.ReadFault h = h
check_back told_files told told_jobs s p report shelf shelf' sink sink' keeper keeper' statuses.WriteFault h = h
check_back told_files told told_jobs s p report shelf shelf' sink sink' keeper keeper' statuses.KeepFault h = h
check_back told_files told told_jobs s p report shelf shelf' sink sink' keeper keeper' statuses.Memory h = h
check_back told_files told told_jobs s p report shelf shelf' sink sink' keeper keeper' statuses.Saved h = h
check_back told_files told told_jobs s p report shelf shelf' sink sink' keeper keeper' statuses.CheckRefused h = h
check_back told_files told told_jobs s p report shelf shelf' sink sink' keeper keeper' statuses.Settle h = h

pub load_back : (told_files told told_jobs : Type 0) (number count : ℕ) (shelf shelf' : ShelfView) (sink sink' : SinkView) (keeper keeper' : KeeperView) (status : Status) → Ends told_files told told_jobs (Work number count) shelf shelf' sink sink' keeper keeper' status → loads.Ends told number count sink sink' status
load_back told_files told told_jobs number count shelf shelf' sink sink' keeper keeper' statuses.Done h = h
load_back told_files told told_jobs number count shelf shelf' sink sink' keeper keeper' statuses.NoSelection h = h
load_back told_files told told_jobs number count shelf shelf' sink sink' keeper keeper' statuses.Unfinished h = h
load_back told_files told told_jobs number count shelf shelf' sink sink' keeper keeper' statuses.Usage h = h
load_back told_files told told_jobs number count shelf shelf' sink sink' keeper keeper' statuses.Input h = h
load_back told_files told told_jobs number count shelf shelf' sink sink' keeper keeper' statuses.Limit h = h
load_back told_files told told_jobs number count shelf shelf' sink sink' keeper keeper' statuses.ReadFault h = h
load_back told_files told told_jobs number count shelf shelf' sink sink' keeper keeper' statuses.WriteFault h = h
load_back told_files told told_jobs number count shelf shelf' sink sink' keeper keeper' statuses.KeepFault h = h
load_back told_files told told_jobs number count shelf shelf' sink sink' keeper keeper' statuses.Memory h = h
load_back told_files told told_jobs number count shelf shelf' sink sink' keeper keeper' statuses.Saved h = h
load_back told_files told told_jobs number count shelf shelf' sink sink' keeper keeper' statuses.CheckRefused h = h
load_back told_files told told_jobs number count shelf shelf' sink sink' keeper keeper' statuses.Settle h = h

pub desk_back : (told_files told told_jobs : Type 0) (s : Sources) (script : List ℕ) (shelf shelf' : ShelfView) (sink sink' : SinkView) (keeper keeper' : KeeperView) (status : Status) → Ends told_files told told_jobs (Desk s script) shelf shelf' sink sink' keeper keeper' status → desks.Ends told_files told s script shelf shelf' sink sink' status
desk_back told_files told told_jobs s script shelf shelf' sink sink' keeper keeper' statuses.Done h = inr h
desk_back told_files told told_jobs s script shelf shelf' sink sink' keeper keeper' statuses.NoSelection h = absurd h
desk_back told_files told told_jobs s script shelf shelf' sink sink' keeper keeper' statuses.Unfinished h = absurd h
desk_back told_files told told_jobs s script shelf shelf' sink sink' keeper keeper' statuses.Usage h = absurd h
desk_back told_files told told_jobs s script shelf shelf' sink sink' keeper keeper' statuses.Input h = inl h
desk_back told_files told told_jobs s script shelf shelf' sink sink' keeper keeper' statuses.Limit h = h
desk_back told_files told told_jobs s script shelf shelf' sink sink' keeper keeper' statuses.ReadFault h = h
desk_back told_files told told_jobs s script shelf shelf' sink sink' keeper keeper' statuses.WriteFault h = inr h
desk_back told_files told told_jobs s script shelf shelf' sink sink' keeper keeper' statuses.KeepFault h = absurd h
desk_back told_files told told_jobs s script shelf shelf' sink sink' keeper keeper' statuses.Memory h = h
desk_back told_files told told_jobs s script shelf shelf' sink sink' keeper keeper' statuses.Saved h = absurd h
desk_back told_files told told_jobs s script shelf shelf' sink sink' keeper keeper' statuses.CheckRefused h = absurd h
desk_back told_files told told_jobs s script shelf shelf' sink sink' keeper keeper' statuses.Settle h = absurd h

pub further_ends : (told_files told told_jobs : Type 0) (c : FurtherCommand) (shelf shelf' : ShelfView) (sink sink' : SinkView) (keeper keeper' : KeeperView) (status : Status) → further.Ends told_files told c shelf shelf' sink sink' status → Ends told_files told told_jobs (Further c) shelf shelf' sink sink' keeper keeper' status
further_ends told_files told told_jobs c shelf shelf' sink sink' keeper keeper' statuses.Done h = h
further_ends told_files told told_jobs c shelf shelf' sink sink' keeper keeper' statuses.NoSelection h = h
further_ends told_files told told_jobs c shelf shelf' sink sink' keeper keeper' statuses.Unfinished h = h
further_ends told_files told told_jobs c shelf shelf' sink sink' keeper keeper' statuses.Usage h = absurd (never_usage told_files told c shelf shelf' sink sink' h)
further_ends told_files told told_jobs c shelf shelf' sink sink' keeper keeper' statuses.Input h = input_alone told_files told c shelf shelf' sink sink' h
further_ends told_files told told_jobs c shelf shelf' sink sink' keeper keeper' statuses.Limit h = h
further_ends told_files told told_jobs c shelf shelf' sink sink' keeper keeper' statuses.ReadFault h = h
further_ends told_files told told_jobs c shelf shelf' sink sink' keeper keeper' statuses.WriteFault h = h
further_ends told_files told told_jobs c shelf shelf' sink sink' keeper keeper' statuses.KeepFault h = absurd (never_keeps told_files told c shelf shelf' sink sink' h)
further_ends told_files told told_jobs c shelf shelf' sink sink' keeper keeper' statuses.Memory h = h
further_ends told_files told told_jobs c shelf shelf' sink sink' keeper keeper' statuses.Saved h = absurd (never_saves told_files told c shelf shelf' sink sink' h)
further_ends told_files told told_jobs c shelf shelf' sink sink' keeper keeper' statuses.CheckRefused h = absurd (never_checks told_files told c shelf shelf' sink sink' h)
further_ends told_files told told_jobs c shelf shelf' sink sink' keeper keeper' statuses.Settle h = settle_alone told_files told c shelf shelf' sink sink' h

pub further_back : (told_files told told_jobs : Type 0) (c : FurtherCommand) (shelf shelf' : ShelfView) (sink sink' : SinkView) (keeper keeper' : KeeperView) (status : Status) → Ends told_files told told_jobs (Further c) shelf shelf' sink sink' keeper keeper' status → further.Ends told_files told c shelf shelf' sink sink' status
further_back told_files told told_jobs c shelf shelf' sink sink' keeper keeper' statuses.Done h = h
further_back told_files told told_jobs c shelf shelf' sink sink' keeper keeper' statuses.NoSelection h = h
further_back told_files told told_jobs c shelf shelf' sink sink' keeper keeper' statuses.Unfinished h = h
further_back told_files told told_jobs c shelf shelf' sink sink' keeper keeper' statuses.Usage h = absurd h
further_back told_files told told_jobs c shelf shelf' sink sink' keeper keeper' statuses.Input h = input_back told_files told c shelf shelf' sink sink' h
further_back told_files told told_jobs c shelf shelf' sink sink' keeper keeper' statuses.Limit h = h
further_back told_files told told_jobs c shelf shelf' sink sink' keeper keeper' statuses.ReadFault h = h
further_back told_files told told_jobs c shelf shelf' sink sink' keeper keeper' statuses.WriteFault h = h
further_back told_files told told_jobs c shelf shelf' sink sink' keeper keeper' statuses.KeepFault h = absurd h
further_back told_files told told_jobs c shelf shelf' sink sink' keeper keeper' statuses.Memory h = h
further_back told_files told told_jobs c shelf shelf' sink sink' keeper keeper' statuses.Saved h = absurd h
further_back told_files told told_jobs c shelf shelf' sink sink' keeper keeper' statuses.CheckRefused h = absurd h
further_back told_files told told_jobs c shelf shelf' sink sink' keeper keeper' statuses.Settle h = settle_back told_files told c shelf shelf' sink sink' h
