-- What is true of how a command ends whose files, sink and keeper are told.
use Rattle.std.proofs.Common.{◌≡◌, ℕ, List, Option, Some, None, IfSome, inl, inr, arith, refl, subst}
use Rattle.std.specs.Prelude.{◌≢◌, ◌⊎◌, ◌↔◌}
use Rattle.fund_shelf.specs.Causes.{Rose, ShelfView, SinkView}
use Rattle.fund_files.specs.FileStops as files
use Rattle.fund_files.specs.declared.refusal.File.{File}
use Rattle.fund_files.specs.declared.refusal.File.TheVariants.{Wallet, Blocks, Request}
use Rattle.fund_outside.specs.Kept.{KeeperView}
use Rattle.command_check.specs.Evidence.{evidence_name}
use Rattle.command_check.specs.Statuses as checks
use Rattle.command_coins.specs.Statuses as listings
use Rattle.command_inputs.specs.Inputs as inputs
use Rattle.command_inputs.specs.Inputs.{name_of}
use Rattle.command_fund.specs.Statuses as payments
use Rattle.command_end.specs.Names.{Sources}
use Rattle.command_inputs.specs.Names.{Payment}
use Rattle.command_end.specs.declared.status.Status.TheVariants as statuses
use Rattle.desk_machine.specs.State.{PlainDesk}
use Rattle.command_desk.specs.Script.{lines_of}
use Rattle.command_desk.specs.Course.{Course}
use Rattle.command_desk.specs.Statuses as desks
use Rattle.command_resume.specs.Statuses as resumes
use Rattle.command_work.specs.Statuses as loads
use Rattle.further_commands.proofs.SureLaws as further
use Rattle.command_end.specs.declared.status.Status.{Status}
use Rattle.fund_top.specs.Outcome.{ComesTo, IsTold, Outcome}
use Rattle.fund_top.specs.InMemory.{Accepts, Funds, FundsNot, FundsOpen, Lists, Replies, Resumes, RunsInMemory, Sums}
use Rattle.fund_top.specs.Outside.{in_memory}
use Rattle.fund_top.specs.Run.{EndsByStatus, GoesOn, TellsDue, TellsUsage}
use Rattle.fund_top.specs.Statuses.{EndsNotFunded, EndsUnfinished, EndsUnkept, EndsUnread, EndsUnwritten, IsLogUnwritten, NoneFailed, NoneUnread, WhereChecking, WhereDesk, WhereFunding, WhereListing, WhereResuming, WhereWorking, status_of}
use Rattle.fund_top.specs.Words.{Command, Coins, Fund, Resume, Check, Work, Desk, Further}

funds : (c : Option Command) (shelf shelf' : ShelfView) (sink sink' : SinkView) → WhereFunding c (λ s p. payments.EndsFunded (Unit {0}) (Unit {0}) s p shelf shelf' sink sink') → WhereFunding c (λ s p. Funds s p shelf shelf' sink sink')
funds None shelf shelf' sink sink' h = tt
funds (Some (Coins s)) shelf shelf' sink sink' h = tt
funds (Some (Fund s p job)) shelf shelf' sink sink' h = (h.0, h.1, h.2, h.3 tt, h.4 tt)
funds (Some (Resume s p job)) shelf shelf' sink sink' h = tt
funds (Some (Check s p report)) shelf shelf' sink sink' h = tt
funds (Some (Work number count)) shelf shelf' sink sink' h = tt
funds (Some (Desk s script)) shelf shelf' sink sink' h = tt
funds (Some (Further c)) shelf shelf' sink sink' h = tt

lists : (c : Option Command) (shelf : ShelfView) (sink sink' : SinkView) → WhereListing c (λ s. listings.EndsListed (Unit {0}) (Unit {0}) s shelf sink sink') → WhereListing c (λ s. Lists s shelf sink sink')
lists None shelf sink sink' h = tt
lists (Some (Coins s)) shelf sink sink' h = (h.0, h.1, h.2 tt)
lists (Some (Fund s p job)) shelf sink sink' h = tt
lists (Some (Resume s p job)) shelf sink sink' h = tt
lists (Some (Check s p report)) shelf sink sink' h = tt
lists (Some (Work number count)) shelf sink sink' h = tt
lists (Some (Desk s script)) shelf sink sink' h = tt
lists (Some (Further c)) shelf sink sink' h = tt

resumes_there : (c : Option Command) (shelf shelf' : ShelfView) (sink sink' : SinkView) (keeper : KeeperView) → WhereResuming c (λ s p job. resumes.EndsFunded (Unit {0}) (Unit {0}) (Unit {0}) s p job shelf shelf' sink sink' keeper)
    → WhereResuming c (λ s p job. Resumes s p job shelf shelf' sink sink' keeper)
resumes_there None shelf shelf' sink sink' keeper h = tt
resumes_there (Some (Coins s)) shelf shelf' sink sink' keeper h = tt
resumes_there (Some (Fund s p job)) shelf shelf' sink sink' keeper h = tt
resumes_there (Some (Resume s p job)) shelf shelf' sink sink' keeper h = (h.0, h.1, h.2, h.3 tt, h.4 tt)
resumes_there (Some (Check s p report)) shelf shelf' sink sink' keeper h = tt
resumes_there (Some (Work number count)) shelf shelf' sink sink' keeper h = tt
resumes_there (Some (Desk s script)) shelf shelf' sink sink' keeper h = tt
resumes_there (Some (Further c)) shelf shelf' sink sink' keeper h = tt

funds_not : (c : Option Command) (shelf shelf' : ShelfView) (sink sink' : SinkView) (keeper : KeeperView) → IfSome c (λ d. EndsNotFunded (Unit {0}) (Unit {0}) (Unit {0}) d shelf shelf' sink sink' keeper) → IfSome c (λ d. FundsNot d shelf shelf' sink sink' keeper)
funds_not None shelf shelf' sink sink' keeper h = tt
funds_not (Some (Coins s)) shelf shelf' sink sink' keeper h = absurd h
funds_not (Some (Fund s p job)) shelf shelf' sink sink' keeper h = (h.0, h.1, h.2, h.3 tt, h.4 tt)
funds_not (Some (Resume s p job)) shelf shelf' sink sink' keeper h = (h.0, h.1, h.2, h.3 tt, h.4 tt)
funds_not (Some (Check s p report)) shelf shelf' sink sink' keeper h = absurd h
funds_not (Some (Work number count)) shelf shelf' sink sink' keeper h = (h.0, h.1, h.2 tt)
funds_not (Some (Desk s script)) shelf shelf' sink sink' keeper h = absurd h
funds_not (Some (Further c)) shelf shelf' sink sink' keeper h = h

funds_open : (c : Option Command) (shelf shelf' : ShelfView) (sink sink' : SinkView) (keeper keeper' : KeeperView) → IfSome c (λ d. EndsUnfinished (Unit {0}) (Unit {0}) (Unit {0}) d shelf shelf' sink sink' keeper keeper') → IfSome c (λ d. FundsOpen d shelf shelf' sink sink' keeper keeper')
funds_open None shelf shelf' sink sink' keeper keeper' h = tt
funds_open (Some (Coins s)) shelf shelf' sink sink' keeper keeper' h = absurd h
funds_open (Some (Fund s p job)) shelf shelf' sink sink' keeper keeper' h = (h.0, h.1, h.2 tt, h.3 tt, h.4 tt)
funds_open (Some (Resume s p job)) shelf shelf' sink sink' keeper keeper' h = (h.0, h.1, h.2 tt, h.3 tt, h.4 tt)
funds_open (Some (Check s p report)) shelf shelf' sink sink' keeper keeper' h = absurd h
funds_open (Some (Work number count)) shelf shelf' sink sink' keeper keeper' h = (h.0, h.1, h.2 tt)
funds_open (Some (Desk s script)) shelf shelf' sink sink' keeper keeper' h = absurd h
funds_open (Some (Further c)) shelf shelf' sink sink' keeper keeper' h = h

sums : (c : Option Command) (sink sink' : SinkView) → WhereWorking c (λ number count. loads.EndsSummed (Unit {0}) number count statuses.Done sink sink') → WhereWorking c (λ number count. Sums statuses.Done number count sink sink')
sums None sink sink' h = tt
sums (Some (Coins s)) sink sink' h = tt
sums (Some (Fund s p job)) sink sink' h = tt
sums (Some (Resume s p job)) sink sink' h = tt
sums (Some (Check s p report)) sink sink' h = tt
sums (Some (Work number count)) sink sink' h = (h.0, h.1, h.2 tt)
sums (Some (Desk s script)) sink sink' h = tt
sums (Some (Further c)) sink sink' h = tt

accepts : (c : Option Command) (shelf : ShelfView) (sink sink' : SinkView) → WhereChecking c (λ s p report. checks.EndsAccepted (Unit {0}) (Unit {0}) s p report shelf sink sink') → WhereChecking c (λ s p report. Accepts s p report shelf sink sink')
accepts None shelf sink sink' h = tt
accepts (Some (Coins s)) shelf sink sink' h = tt
accepts (Some (Fund s p job)) shelf sink sink' h = tt
accepts (Some (Resume s p job)) shelf sink sink' h = tt
accepts (Some (Check s p report)) shelf sink sink' h = (h.0, h.1, h.2 tt)
accepts (Some (Work number count)) shelf sink sink' h = tt
accepts (Some (Desk s script)) shelf sink sink' h = tt
accepts (Some (Further c)) shelf sink sink' h = tt

replies : (c : Option Command) (shelf shelf' : ShelfView) (sink sink' : SinkView) → WhereDesk c (λ s script. desks.EndsRunning (Unit {0}) (Unit {0}) s script shelf shelf' sink sink' statuses.Done) → WhereDesk c (λ s script. Replies s script shelf sink sink')
replies None shelf shelf' sink sink' h = tt
replies (Some (Coins s)) shelf shelf' sink sink' h = tt
replies (Some (Fund s p job)) shelf shelf' sink sink' h = tt
replies (Some (Resume s p job)) shelf shelf' sink sink' h = tt
replies (Some (Check s p report)) shelf shelf' sink sink' h = tt
replies (Some (Work number count)) shelf shelf' sink sink' h = tt
replies (Some (Desk s script)) shelf shelf' sink sink' h = (
  h.starts.wallet,
  h.starts.blocks,
  h.runs.0,
  h.runs.1,
  h.starts.inputs tt,
  subst (λ (d : PlainDesk). Course shelf.files (lines_of (shelf.files script)) d h.runs.0 h.runs.1) h.starts.desk_is
      (subst (λ (text : List ℕ). Course shelf.files (lines_of text) h.desk h.runs.0 h.runs.1) (h.starts.text_is tt) (h.runs.2 tt)),
  h.runs.3 tt,
)
replies (Some (Further c)) shelf shelf' sink sink' h = tt

-- ---- where no count is above nothing, none rose

-- no read and no write of a shelf failed, ever
pub record IsSure (shelf : ShelfView) : Type 0 where
  pub reads : (name : List ℕ) → shelf.reads name ≡ 0
  pub writes : (name : List ℕ) → shelf.writes name ≡ 0

flat : (m n : ℕ) → m ≡ 0 → n ≡ 0 → Rose m n → ⊥
flat m n a b h = omega arith

listing_unread : (s : Sources) (shelf shelf' : ShelfView) → IsSure shelf → IsSure shelf' → (file : File) → files.IsUnread s.wallet s.blocks file shelf shelf' → ⊥
listing_unread s shelf shelf' a b Wallet h = flat (shelf.reads s.wallet) (shelf'.reads s.wallet) (a.reads s.wallet) (b.reads s.wallet) h
listing_unread s shelf shelf' a b Blocks h = flat (shelf.reads s.blocks) (shelf'.reads s.blocks) (a.reads s.blocks) (b.reads s.blocks) h
listing_unread s shelf shelf' a b Request h = h

payment_unread : (s : Sources) (p : Payment) (shelf shelf' : ShelfView) → IsSure shelf → IsSure shelf' → (file : File) → inputs.IsUnread s p file shelf shelf' → ⊥
payment_unread s p shelf shelf' a b file h = flat (shelf.reads (name_of s p file)) (shelf'.reads (name_of s p file)) (a.reads (name_of s p file)) (b.reads (name_of s p file)) h

none_unread : (c : Command) (shelf shelf' : ShelfView) → IsSure shelf → IsSure shelf' → NoneUnread c shelf shelf'
none_unread (Coins s) shelf shelf' a b = listing_unread s shelf shelf' a b
none_unread (Fund s p job) shelf shelf' a b = payment_unread s p shelf shelf' a b
none_unread (Resume s p job) shelf shelf' a b = payment_unread s p shelf shelf' a b
none_unread (Check s p report) shelf shelf' a b = record {
  payment = payment_unread s p shelf shelf' a b;
  evidence = λ file h. flat (shelf.reads (evidence_name p report file)) (shelf'.reads (evidence_name p report file)) (a.reads (evidence_name p report file)) (b.reads (evidence_name p report file)) h;
}
none_unread (Work number count) shelf shelf' a b = tt
none_unread (Desk s script) shelf shelf' a b = record {
  chain = listing_unread s shelf shelf' a b;
  the_script = λ h. flat (shelf.reads script) (shelf'.reads script) (a.reads script) (b.reads script) h;
  lines = λ line want there names h. flat (shelf.reads want.file) (shelf'.reads want.file) (a.reads want.file) (b.reads want.file) h;
}
none_unread (Further c) shelf shelf' a b = further.none_unread c shelf shelf' a.reads b.reads

none_unwritten : (c : Command) (shelf shelf' : ShelfView) → IsSure shelf → IsSure shelf' → IsLogUnwritten c shelf shelf' → ⊥
none_unwritten (Coins s) shelf shelf' a b h = h
none_unwritten (Fund s p job) shelf shelf' a b h = flat (shelf.writes p.log) (shelf'.writes p.log) (a.writes p.log) (b.writes p.log) h
none_unwritten (Resume s p job) shelf shelf' a b h = flat (shelf.writes p.log) (shelf'.writes p.log) (a.writes p.log) (b.writes p.log) h
none_unwritten (Check s p report) shelf shelf' a b h = h
none_unwritten (Work number count) shelf shelf' a b h = h
none_unwritten (Desk s script) shelf shelf' a b h = h
none_unwritten (Further c) shelf shelf' a b h = further.none_unwritten c shelf shelf' a.writes b.writes h

none_failed : (c : Command) (shelf shelf' : ShelfView) (sink sink' : SinkView) (keeper keeper' : KeeperView) → IsSure shelf → IsSure shelf' → sink.faults ≡ 0 → sink'.faults ≡ 0 → keeper.faults ≡ 0 → keeper'.faults ≡ 0 → NoneFailed c shelf shelf' sink sink' keeper keeper'
none_failed c shelf shelf' sink sink' keeper keeper' a b d e f g =
    record { reads = none_unread c shelf shelf' a b; log = none_unwritten c shelf shelf' a b; sinks = flat sink.faults sink'.faults d e; keepers = flat keeper.faults keeper'.faults f g }

told : (c : Command) → IsTold (Unit {0}) (Unit {0}) c
told (Coins s) = tt
told (Fund s p job) = tt
told (Resume s p job) = (tt, tt)
told (Check s p report) = tt
told (Work number count) = tt
told (Desk s script) = tt
told (Further c) = tt

completes : (c : Option Command) (shelf shelf' : ShelfView) (sink sink' : SinkView) (keeper keeper' : KeeperView) (status : Status) → IsSure shelf → IsSure shelf' → sink.faults ≡ 0 → sink'.faults ≡ 0 → keeper.faults ≡ 0 → keeper'.faults ≡ 0
    → IfSome c (λ d. IsTold (Unit {0}) (Unit {0}) d → NoneFailed d shelf shelf' sink sink' keeper keeper' → (due : Outcome) → ComesTo shelf.files keeper.jobs d due → (status ≡ status_of due) ⊎ (status ≡ statuses.Memory))
    → IfSome c (λ d. (due : Outcome) → ComesTo shelf.files keeper.jobs d due → (status ≡ status_of due) ⊎ (status ≡ statuses.Memory))
completes None shelf shelf' sink sink' keeper keeper' status a b d e f g h = tt
completes (Some c) shelf shelf' sink sink' keeper keeper' status a b d e f g h = h (told c) (none_failed c shelf shelf' sink sink' keeper keeper' a b d e f g)

-- ---- so no failure is told

-- of the counts of a shelf, a sink and a keeper none is above nothing
module _ (shelf shelf' : ShelfView) (sink sink' : SinkView) (keeper keeper' : KeeperView) (a : IsSure shelf) (b : IsSure shelf') (d : sink.faults ≡ 0) (e : sink'.faults ≡ 0) (f : keeper.faults ≡ 0) (g : keeper'.faults ≡ 0) where
  unread : (c : Command) → EndsUnread (Unit {0}) (Unit {0}) c shelf shelf' sink sink' → ⊥
  unread (Coins s) h = listing_unread s shelf shelf' a b h.0 h.1
  unread (Fund s p job) h = payment_unread s p shelf shelf' a b h.0 h.1
  unread (Resume s p job) h = payment_unread s p shelf shelf' a b h.0 h.1
  unread (Check s p report) (inl h) = payment_unread s p shelf shelf' a b h.0 h.1
  unread (Check s p report) (inr h) = flat (shelf.reads (evidence_name p report h.0)) (shelf'.reads (evidence_name p report h.0)) (a.reads (evidence_name p report h.0)) (b.reads (evidence_name p report h.0)) h.1
  unread (Work number count) h = h
  unread (Desk s script) (inl (inl h)) = listing_unread s shelf shelf' a b h.0 h.1
  unread (Desk s script) (inl (inr h)) = flat (shelf.reads script) (shelf'.reads script) (a.reads script) (b.reads script) h.0
  unread (Desk s script) (inr h) = flat (shelf.reads h.runs.1.file) (shelf'.reads h.runs.1.file) (a.reads h.runs.1.file) (b.reads h.runs.1.file) h.runs.3
  unread (Further c) h = further.unread c shelf shelf' sink sink' a.reads b.reads h

  unwritten : (c : Command) → EndsUnwritten (Unit {0}) (Unit {0}) (Unit {0}) c shelf shelf' sink sink' keeper keeper' → ⊥
  unwritten (Coins s) h = flat sink.faults sink'.faults d e h.1
  unwritten (Fund s p job) (report, Some log, is, inl lost) = flat (shelf.writes p.log) (shelf'.writes p.log) (a.writes p.log) (b.writes p.log) lost.0
  unwritten (Fund s p job) (report, None, is, inl lost) = lost.0
  unwritten (Fund s p job) (report, log, is, inr lost) = flat sink.faults sink'.faults d e lost.0
  unwritten (Resume s p job) (report, Some log, is, inl lost) = flat (shelf.writes p.log) (shelf'.writes p.log) (a.writes p.log) (b.writes p.log) lost.0
  unwritten (Resume s p job) (report, None, is, inl lost) = lost.0
  unwritten (Resume s p job) (report, log, is, inr lost) = flat sink.faults sink'.faults d e lost.0
  unwritten (Check s p report) h = flat sink.faults sink'.faults d e h.2
  unwritten (Work number count) h = flat sink.faults sink'.faults d e h.3
  unwritten (Desk s script) h = flat sink.faults sink'.faults d e h.runs.0
  unwritten (Further c) h = further.unwritten c shelf shelf' sink sink' a.writes b.writes d e h

  failed_keep : (c : Command) → EndsUnkept (Unit {0}) (Unit {0}) c shelf sink sink' keeper keeper' → ⊥
  failed_keep (Coins s) h = h
  failed_keep (Fund s p job) h = flat keeper.faults keeper'.faults f g h.3
  failed_keep (Resume s p job) h = flat keeper.faults keeper'.faults f g h.0
  failed_keep (Check s p report) h = h
  failed_keep (Work number count) h = h
  failed_keep (Desk s script) h = h
  failed_keep (Further c) h = h

-- no command ends with this status, and words that are none end with another
never : (P : Command → Type 0) (o : Option Command) (status fault : Status) → ((c : Command) → P c → ⊥) → ((status ≡ statuses.Usage) ↔ (o ≡ None)) → fault ≢ statuses.Usage → (status ≡ fault → IfSome o P) → status ≢ fault
never P None status fault none usage other h = λ is. other (subst (λ (x : Status). x ≡ statuses.Usage) is (usage.1 refl))
never P (Some c) status fault none usage other h = λ is. none c (h is)

pub runs_in_memory : (o : Option Command) (shelf shelf' : ShelfView) (sink sink' : SinkView) (keeper keeper' : KeeperView) (status : Status) → IsSure shelf → IsSure shelf' → sink.faults ≡ 0 → sink'.faults ≡ 0 → keeper.faults ≡ 0 → keeper'.faults ≡ 0
    → TellsUsage (in_memory shelf shelf' sink sink' keeper keeper') o status → EndsByStatus (in_memory shelf shelf' sink sink' keeper keeper') o status → GoesOn (in_memory shelf shelf' sink sink' keeper keeper') o status → TellsDue (in_memory shelf shelf' sink sink' keeper keeper') o status
    → RunsInMemory (in_memory shelf shelf' sink sink' keeper keeper') o status
runs_in_memory o shelf shelf' sink sink' keeper keeper' status a b d e f g words ends goes due = record {
  read = never (λ c. EndsUnread (Unit {0}) (Unit {0}) c shelf shelf' sink sink') o status statuses.ReadFault (unread shelf shelf' sink sink' keeper keeper' a b d e f g) words.usage (λ is. absurd cc) ends.read_fault;
  written = never (λ c. EndsUnwritten (Unit {0}) (Unit {0}) (Unit {0}) c shelf shelf' sink sink' keeper keeper') o status statuses.WriteFault (unwritten shelf shelf' sink sink' keeper keeper' a b d e f g) words.usage (λ is. absurd cc) ends.write_fault;
  kept = never (λ c. EndsUnkept (Unit {0}) (Unit {0}) c shelf sink sink' keeper keeper') o status statuses.KeepFault (failed_keep shelf shelf' sink sink' keeper keeper' a b d e f g) words.usage (λ is. absurd cc) ends.keep_fault;
  done = λ is. funds o shelf shelf' sink sink' (ends.done is);
  resumed = λ is. resumes_there o shelf shelf' sink sink' keeper (ends.resumed is);
  listed = λ is. lists o shelf sink sink' (ends.listed is);
  accepted = λ is. accepts o shelf sink sink' (ends.accepted is);
  replied = λ is. replies o shelf shelf' sink sink' (ends.replied is);
  summed = λ is. sums o sink sink' (ends.summed is);
  further = λ is. ends.further is;
  unfinished = λ is. funds_open o shelf shelf' sink sink' keeper keeper' (ends.unfinished is);
  none = λ is. funds_not o shelf shelf' sink sink' keeper (ends.none is);
  uninterrupted = goes.uninterrupted tt tt tt;
  complete = completes o shelf shelf' sink sink' keeper keeper' status a b d e f g due.complete;
}
