-- What `run` promises of the words of a command is true of its run with a request beside the files.
use Rattle.std.proofs.Common.{◌≡◌, ◌≤◌, ◌∙◌, ℕ, Bool, true, false, List, [], Option, Some, None, IfSome, inl, inr, refl, sym, ap, subst, arith}
use Rattle.std.specs.Prelude.{◌≢◌, ◌⊎◌, ◌↔◌, IfOk, Result, Ok, Err, bytes_eq}
use Rattle.std.proofs.lemmas.Bool.{false_from_ne_true}
use Rattle.fund_base.proofs.Lists.{equal_bytes}
use Rattle.fund_shelf.specs.Causes.{Rose, ShelfView, SinkView}
use Rattle.fund_base.specs.declared.memory.Memory.{Memory}
use Rattle.fund_outside.specs.Kept.{KeeperView}
use Rattle.command_end.specs.declared.status.Status.{Status}
use Rattle.command_end.specs.declared.status.Status.TheVariants as statuses
use Rattle.fund_top.specs.Asked.{AsksFor}
use Rattle.fund_top.specs.Outcome.{ComesTo, IsRefusal, IsTold, Outcome}
use Rattle.fund_top.specs.Outside.{Outside, outside}
use Rattle.fund_top.specs.Run.{EndsByStatus, LeavesOthers, ReadsInOrder, RefusesFirst, TellsDue, TellsFailures, TellsUsage}
use Rattle.fund_top.specs.Statuses.{Ends, EndsBroken, EndsDone, EndsInput, EndsLimited, EndsNotFunded, EndsNotKept, EndsUnfinished, EndsUnkept, EndsUnread, EndsUnsettled, EndsUnwritten, EndsWithoutMemory, KeepsOthers, NoneFailed, NoneUnkept, NoneUnread, status_of}
use Rattle.fund_top.specs.Words.{Command, Coins, Fund, Resume, Check, Work, Desk, Further, where_stands}
use Rattle.held_run.specs.Held.{IsBeside, IsOther, count_among, file_among, log_name, request_name}
use Rattle.held_run.specs.Run.{IsRunOf, WritesHeld, beside, empty_sink, no_jobs}
use Rattle.held_run.specs.declared.run.Run.{Run}

-- ---- what is held, and what isn't

apart : (x y : List ℕ) → x ≢ y → bytes_eq x y ≡ false
apart x y other = false_from_ne_true (bytes_eq x y) (λ e. other (equal_bytes x y e))

pub other_file : (files : List ℕ → List ℕ) (request log name : List ℕ) → IsOther name → file_among request log files name ≡ files name
other_file files request log name other = rw (apart name request_name other.0, apart name log_name other.1) refl

pub other_count : (counts : List ℕ → ℕ) (name : List ℕ) → IsOther name → count_among counts name ≡ counts name
other_count counts name other = rw (apart name request_name other.0, apart name log_name other.1) refl

-- ---- what `run` promises, by what its words are

pub record Promises (v : Outside) (o : Option Command) (result : Status) : Type 0 where
  pub usage : TellsUsage v o result
  pub ends : EndsByStatus v o result
  pub honest : TellsFailures v result
  pub stays : LeavesOthers v o result
  pub reads : ReadsInOrder v o
  pub refused : RefusesFirst v o result
  pub complete : TellsDue v o result

-- the promise of the command that the words are
held : (P : Command → Type 0) (o : Option Command) (c : Command) → o ≡ Some c → IfSome o P → P c
held P o c is h = subst (λ (x : Option Command). IfSome x P) is h

-- a command that is done, by what it is
done_by : (told : Type 0) (c : Command) (o : Option Command) (shelf shelf' : ShelfView) (sink sink' : SinkView) (keeper keeper' : KeeperView) → o ≡ Some c → EndsByStatus (outside told (Unit {0}) (Unit {0}) shelf shelf' sink sink' keeper keeper') o statuses.Done
    → EndsDone told (Unit {0}) (Unit {0}) c shelf shelf' sink sink' keeper
done_by told c o shelf shelf' sink sink' keeper keeper' is ends = by c (subst (λ (x : Option Command). EndsByStatus (outside told (Unit {0}) (Unit {0}) shelf shelf' sink sink' keeper keeper') x statuses.Done) is ends)
  where
    by : (d : Command) → EndsByStatus (outside told (Unit {0}) (Unit {0}) shelf shelf' sink sink' keeper keeper') (Some d) statuses.Done → EndsDone told (Unit {0}) (Unit {0}) d shelf shelf' sink sink' keeper
    by (Coins s) e = e.listed refl
    by (Fund s p job) e = e.done refl
    by (Resume s p job) e = e.resumed refl
    by (Check s p report) e = e.accepted refl
    by (Work number count) e = e.summed refl
    by (Desk s script) e = e.replied refl
    by (Further d) e = e.further refl

-- by the status
ends_by : (told : Type 0) (c : Command) (o : Option Command) (shelf shelf' : ShelfView) (sink sink' : SinkView) (keeper keeper' : KeeperView) (result : Status) → o ≡ Some c → Promises (outside told (Unit {0}) (Unit {0}) shelf shelf' sink sink' keeper keeper') o result
    → Ends told (Unit {0}) (Unit {0}) c shelf shelf' sink sink' keeper keeper' result
ends_by told c o shelf shelf' sink sink' keeper keeper' statuses.Usage is h = absurd (let is_none = h.usage.usage.0 refl in cc)
ends_by told c o shelf shelf' sink sink' keeper keeper' statuses.Done is h = done_by told c o shelf shelf' sink sink' keeper keeper' is h.ends
ends_by told c o shelf shelf' sink sink' keeper keeper' statuses.NoSelection is h = held (λ d. EndsNotFunded told (Unit {0}) (Unit {0}) d shelf shelf' sink sink' keeper) o c is (h.ends.none refl)
ends_by told c o shelf shelf' sink sink' keeper keeper' statuses.Unfinished is h = held (λ d. EndsUnfinished told (Unit {0}) (Unit {0}) d shelf shelf' sink sink' keeper keeper') o c is (h.ends.unfinished refl)
ends_by told c o shelf shelf' sink sink' keeper keeper' statuses.Input is h = held (λ d. EndsInput told (Unit {0}) d shelf sink sink') o c is (h.ends.input refl)
ends_by told c o shelf shelf' sink sink' keeper keeper' statuses.Limit is h = held (λ d. EndsLimited told (Unit {0}) (Unit {0}) d shelf shelf' sink sink' keeper) o c is (h.ends.limit refl)
ends_by told c o shelf shelf' sink sink' keeper keeper' statuses.Saved is h = held (λ d. EndsNotKept told (Unit {0}) (Unit {0}) d shelf sink sink' keeper) o c is (h.ends.saved refl)
ends_by told c o shelf shelf' sink sink' keeper keeper' statuses.CheckRefused is h = held (λ d. EndsBroken told (Unit {0}) d shelf sink sink') o c is (h.ends.check_refused refl)
ends_by told c o shelf shelf' sink sink' keeper keeper' statuses.Settle is h = held (λ d. EndsUnsettled told (Unit {0}) d shelf sink sink') o c is (h.ends.settle_refused refl)
ends_by told c o shelf shelf' sink sink' keeper keeper' statuses.ReadFault is h = held (λ d. EndsUnread told (Unit {0}) d shelf shelf' sink sink') o c is (h.ends.read_fault refl)
ends_by told c o shelf shelf' sink sink' keeper keeper' statuses.WriteFault is h = held (λ d. EndsUnwritten told (Unit {0}) (Unit {0}) d shelf shelf' sink sink' keeper keeper') o c is (h.ends.write_fault refl)
ends_by told c o shelf shelf' sink sink' keeper keeper' statuses.KeepFault is h = held (λ d. EndsUnkept told (Unit {0}) d shelf sink sink' keeper keeper') o c is (h.ends.keep_fault refl)
ends_by told c o shelf shelf' sink sink' keeper keeper' statuses.Memory is h = held (λ d. EndsWithoutMemory told (Unit {0}) (Unit {0}) d shelf shelf' sink sink' keeper keeper') o c is (h.ends.memory refl)

-- where the words aren't refused they are the command
is_command : (b : Bool) (c : Command) (o : Option Command) (result : Status) → o ≡ where_stands b c → (o ≡ None → result ≡ statuses.Usage) → result ≢ statuses.Usage → o ≡ Some c
is_command true c o result is none apart = is
is_command false c o result is none apart = absurd (apart (none is))

-- and they are refused exactly where its names don't stand
is_usage : (b : Bool) (c : Command) (o : Option Command) (result : Status) → o ≡ where_stands b c → (result ≡ statuses.Usage) ↔ (o ≡ None) → (result ≡ statuses.Usage) ↔ (b ≡ false)
is_usage true c o result is usage = ((λ e. absurd (let none = usage.0 e in cc)), λ e. absurd cc)
is_usage false c o result is usage = ((λ e. refl), λ e. usage.1 is)

-- no file but the log is changed, whether the words are refused or not
pub keeps_others : (told : Type 0) (b : Bool) (c : Command) (o : Option Command) (before now : List ℕ → List ℕ) → WritesHeld told c → o ≡ where_stands b c → (o ≡ None → now ≡ before) → (told → IfSome o (λ d. KeepsOthers d before now)) → told → (name : List ℕ) → name ≢ log_name → now name ≡ before name
keeps_others told true c o before now writes is none some t = writes.others before now (held (λ d. KeepsOthers d before now) o c is (some t))
keeps_others told false c o before now writes is none some t = λ name other. ap (λ (f : List ℕ → List ℕ). f name) (none is)

-- a count that is none didn't rise
pub none_rose : Rose 0 0 → ⊥
none_rose h = let no : 1 ≤ 0 = h in absurd (omega arith)

-- nor did one that is none before and after
still : (m n : ℕ) → m ≡ 0 → n ≡ 0 → Rose m n → ⊥
still m n old new h = none_rose (subst (λ (k : ℕ). Rose 0 k) new (subst (λ (k : ℕ). Rose k n) old h))

-- neither a log that is held nor what is printed in memory is unwritten
pub none_unwritten : (told : Type 0) (b : Bool) (c : Command) (o : Option Command) (shelf shelf' : ShelfView) (sink sink' : SinkView) (keeper keeper' : KeeperView) (result : Status) → WritesHeld told c → o ≡ where_stands b c → (o ≡ None → result ≡ statuses.Usage)
    → shelf.writes log_name ≡ 0 → shelf'.writes log_name ≡ 0 → sink.faults ≡ 0 → sink'.faults ≡ 0
    → (result ≡ statuses.WriteFault → IfSome o (λ d. EndsUnwritten told (Unit {0}) (Unit {0}) d shelf shelf' sink sink' keeper keeper')) → result ≢ statuses.WriteFault
none_unwritten told true c o shelf shelf' sink sink' keeper keeper' result writes is none old new before after lost =
    λ e. elim (writes.causes shelf shelf' sink sink' keeper keeper' (held (λ d. EndsUnwritten told (Unit {0}) (Unit {0}) d shelf shelf' sink sink' keeper keeper') o c is (lost e))) [
      | inl log ↦ still (shelf.writes log_name) (shelf'.writes log_name) old new log
      | inr put ↦ still sink.faults sink'.faults before after put
    ]
none_unwritten told false c o shelf shelf' sink sink' keeper keeper' result writes is none old new before after lost = λ e. absurd (let usage = none is in cc)

-- The whole.
pub is_run : (told : Type 0) (b : Bool) (c : Command) (files after : ShelfView) (request said log : List ℕ) (o : Option Command) (shelf shelf' : ShelfView) (sink sink' : SinkView) (keeper keeper' : KeeperView) (result : Status) → Promises (outside told (Unit {0}) (Unit {0}) shelf shelf' sink sink' keeper keeper') o result
    → o ≡ where_stands b c → shelf ≡ beside files request → sink ≡ empty_sink → keeper ≡ no_jobs → said ≡ sink'.written → log ≡ shelf'.files log_name → result ≢ statuses.WriteFault
    → sink'.faults ≡ 0 → keeper'.faults ≡ 0 → IsBeside after shelf' → IsRunOf told b c request files after result said log
is_run told b c files after request said log o shelf shelf' sink sink' keeper keeper' result promises words shelf_is sink_is keeper_is said_is log_is unlost sink_sound keeper_sound left =
    let by_shelf : Promises (outside told (Unit {0}) (Unit {0}) (beside files request) shelf' sink sink' keeper keeper') o result = subst (λ (x : ShelfView). Promises (outside told (Unit {0}) (Unit {0}) x shelf' sink sink' keeper keeper') o result) shelf_is promises in
    let by_sink : Promises (outside told (Unit {0}) (Unit {0}) (beside files request) shelf' empty_sink sink' keeper keeper') o result = subst (λ (x : SinkView). Promises (outside told (Unit {0}) (Unit {0}) (beside files request) shelf' x sink' keeper keeper') o result) sink_is by_shelf in
    let h : Promises (outside told (Unit {0}) (Unit {0}) (beside files request) shelf' empty_sink sink' no_jobs keeper') o result = subst (λ (x : KeeperView). Promises (outside told (Unit {0}) (Unit {0}) (beside files request) shelf' empty_sink sink' x keeper') o result) keeper_is by_sink in
    let found : result ≢ statuses.Usage → o ≡ Some c = is_command b c o result words h.usage.usage.1 in
    record {
      shelf = shelf';
      sink = sink';
      keeper = keeper';
      left = left;
      usage = is_usage b c o result words h.usage.usage;
      usage_line = h.usage.usage_line tt;
      ends = λ apart. ends_by told c o (beside files request) shelf' empty_sink sink' no_jobs keeper' result (found apart) h;
      asked = λ apart told. held (λ d. AsksFor d (beside files request) shelf') o c (found apart) (h.reads.asked told);
      refused = λ apart. held (λ d. told → NoneUnread d (beside files request) shelf' → (due : Outcome) → IsRefusal due → NoneUnkept (Unit {0}) due no_jobs keeper' → ComesTo (beside files request).files no_jobs.jobs d due → (result ≡ status_of due) ⊎ (result ≡ statuses.Memory)) o c (found apart) h.refused.refused;
      complete = λ apart. held (λ d. IsTold told (Unit {0}) d → NoneFailed d (beside files request) shelf' empty_sink sink' no_jobs keeper' → (due : Outcome) → ComesTo (beside files request).files no_jobs.jobs d due → (result ≡ status_of due) ⊎ (result ≡ statuses.Memory)) o c (found apart) h.complete.complete;
      untouched = h.usage.untouched;
      others = λ apart told. held (λ d. KeepsOthers d (beside files request).files shelf'.files) o c (found apart) (h.stays.others told);
      kept = h.stays.kept;
      all_read = h.honest.all_read;
      none_unwritten = unlost;
      all_written = h.honest.all_written unlost;
      all_put = h.honest.all_put;
      sink_sound = sink_sound;
      keeper_sound = keeper_sound;
      said_is = said_is;
      log_is = log_is;
    }

-- the same of a run as it is told, if there was enough memory to tell it
pub run_told : (told : Type 0) (b : Bool) (c : Command) (request : List ℕ) (files after : ShelfView) (status : Status) (said log : List ℕ) (it : Result Run Memory) → IfOk it (λ r. r.status ≡ status) → IfOk it (λ r. r.said.items ≡ said) → IfOk it (λ r. r.log.items ≡ log) → IsRunOf told b c request files after status said log → IfOk it (λ r. IsRunOf told b c request files after r.status r.said.items r.log.items)
run_told told b c request files after status said log (Ok r) status_is said_is log_is run =
    let by_log : IsRunOf told b c request files after status said r.log.items = subst (λ (t : List ℕ). IsRunOf told b c request files after status said t) (sym log_is) run in
    let by_said : IsRunOf told b c request files after status r.said.items r.log.items = subst (λ (t : List ℕ). IsRunOf told b c request files after status t r.log.items) (sym said_is) by_log in
    subst (λ (s : Status). IsRunOf told b c request files after s r.said.items r.log.items) (sym status_is) by_said
run_told told b c request files after status said log (Err e) status_is said_is log_is run = tt
