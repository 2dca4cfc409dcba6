-- A report that is checked twice, a transaction that is settled twice, and a workload that is made twice give the same.
use Rattle.std.proofs.Common.{◌≡◌, ◌∙◌, ℕ, Bool, true, false, List, [], ◌++◌, None, Some, inl, inr, refl, sym, ap}
use Rattle.std.specs.Prelude.{◌&&◌, codes, nat_le, nat_lt}
use Rattle.fund_shelf.specs.Causes.{ShelfView}
use Rattle.command_check.specs.Outcome as checks
use Rattle.command_check.specs.Statuses as check_ends
use Rattle.command_check.specs.Words.{check_fault_words, evidence_word}
use Rattle.command_end.specs.Lines.{fault_line}
use Rattle.command_end.specs.declared.status.Status.{Status}
use Rattle.command_end.specs.declared.status.Status.TheVariants as statuses
use Rattle.command_inputs.specs.Cause.{cause_of}
use Rattle.command_inputs.specs.Results as payments
use Rattle.command_inputs.specs.Words.{refusal_words}
use Rattle.command_settle.specs.Outcome as settles
use Rattle.command_settle.specs.Statuses as settle_ends
use Rattle.command_settle.specs.Stops as stops
use Rattle.command_settle.specs.Words as settle_texts
use Rattle.command_work.specs.Outcome as loads
use Rattle.further_commands.specs.Outcome as further
use Rattle.fund_top.specs.Outcome.{Accepted, Broken, Other, Refused, Summed, TooLong, load_outcome}
use Rattle.fund_top.specs.Words.{Work, where_stands}
use Rattle.fund_calls.proofs.CauseWords.{cause_words, refusal_told}
use Rattle.fund_calls.proofs.OnceLaws.{line_of}
use Rattle.fund_calls.proofs.SameLaws.{got, unlogged}
use Rattle.fund_calls.proofs.ToldLaws.{IsToldOf, alone_once, settle_told, settle_words}
use Rattle.fund_calls.specs.Call.{IsCall}
use Rattle.fund_calls.specs.Commands.{check_command, settle_command, work_command}
use Rattle.fund_calls.specs.Given.{PlainGiven, empty_sink, no_files, shelf_of}
use Rattle.fund_calls.specs.Names.{checked_payment, log_name, report_name, settle_names, sources}
use Rattle.fund_calls.specs.Once.{GivesTheSame}

-- ---- a report that is checked

check_refused : (status : Status) (g : PlainGiven) (printed log kept : List ℕ) (a : Status) (call : IsCall (Some check_command) g None a printed log kept) → payments.EndsRefused status (Unit {0}) (Unit {0}) sources checked_payment (shelf_of g) empty_sink call.sink → IsToldOf check_command g call.before.jobs printed log
check_refused status g printed log kept a call h = record {
  due = Refused (cause_of h.0);
  comes = (checks.Refused (cause_of h.0), h.2 tt, refl);
  print = line_of (refusal_words h.0) (cause_words (cause_of h.0)) printed call.sink (refusal_told h.0) call.unfailed call.whole call.printed_is (h.3 tt);
  logs = unlogged g log call.shelf.files (call.promises.stays.others tt) call.log_is;
}

check_limited : (g : PlainGiven) (printed log kept : List ℕ) (call : IsCall (Some check_command) g None statuses.Limit printed log kept) → check_ends.EndsLimited (Unit {0}) (Unit {0}) sources checked_payment report_name (shelf_of g) empty_sink call.sink → IsToldOf check_command g call.before.jobs printed log
check_limited g printed log kept call (inl h) = check_refused statuses.Limit g printed log kept statuses.Limit call h
check_limited g printed log kept call (inr h) = record {
  due = TooLong h.0;
  comes = (checks.TooLong h.0, h.1 tt, refl);
  print = line_of (codes "limit " ++ evidence_word h.0) (codes "limit " ++ evidence_word h.0) printed call.sink refl call.unfailed call.whole call.printed_is (h.2 tt);
  logs = unlogged g log call.shelf.files (call.promises.stays.others tt) call.log_is;
}

check_told : (g : PlainGiven) (a : Status) (printed log kept : List ℕ) (call : IsCall (Some check_command) g None a printed log kept) → IsToldOf check_command g call.before.jobs printed log
check_told g statuses.Done printed log kept call =
    let h = call.promises.memory.accepted refl in
    record {
      due = Accepted h.1.found;
      comes = (checks.Accepted h.1.found, h.1.comes_to tt, refl);
      print = call.printed_is ∙ h.2 ∙ h.1.prints;
      logs = unlogged g log call.shelf.files (call.promises.stays.others tt) call.log_is;
    }
check_told g statuses.CheckRefused printed log kept call =
    let h = call.promises.ends.check_refused refl in
    record {
      due = Broken h.0;
      comes = (checks.Broken h.0, h.2 tt, refl);
      print = line_of (codes "check " ++ check_fault_words h.0) (codes "check " ++ check_fault_words h.0) printed call.sink refl call.unfailed call.whole call.printed_is (h.3 tt);
      logs = unlogged g log call.shelf.files (call.promises.stays.others tt) call.log_is;
    }
check_told g statuses.Input printed log kept call = check_refused statuses.Input g printed log kept statuses.Input call (call.promises.ends.input refl)
check_told g statuses.Limit printed log kept call = check_limited g printed log kept call (call.promises.ends.limit refl)
check_told g statuses.NoSelection printed log kept call = absurd (call.promises.memory.none refl)
check_told g statuses.Unfinished printed log kept call = absurd (call.promises.memory.unfinished refl)
check_told g statuses.Usage printed log kept call = absurd (let none = call.promises.usage.usage.0 refl in cc)
check_told g statuses.ReadFault printed log kept call = absurd (call.promises.memory.read refl)
check_told g statuses.WriteFault printed log kept call = absurd (call.promises.memory.written refl)
check_told g statuses.KeepFault printed log kept call = absurd (call.promises.memory.kept refl)
check_told g statuses.Memory printed log kept call = absurd (call.remembered refl)
check_told g statuses.Saved printed log kept call = absurd (call.promises.ends.saved refl)
check_told g statuses.Settle printed log kept call = absurd (call.promises.ends.settle_refused refl)

pub checked_once : (g : PlainGiven) → GivesTheSame (Some check_command) g None
checked_once g = alone_once check_command g refl (check_told g)

-- ---- a transaction that is settled

settle_refused : (status : Status) (g : PlainGiven) (printed log kept : List ℕ) (a : Status) (call : IsCall (Some settle_command) g None a printed log kept) → settle_ends.EndsRefused status (Unit {0}) (Unit {0}) settle_names (shelf_of g) empty_sink call.sink → IsToldOf settle_command g call.before.jobs printed log
settle_refused status g printed log kept a call h = record {
  due = Other (further.OfSettle (settles.Refused (stops.cause_of h.0)));
  comes = (further.OfSettle (settles.Refused (stops.cause_of h.0)), (settles.Refused (stops.cause_of h.0), h.2 tt, refl), refl);
  print = line_of (settle_texts.refusal_words h.0) (settle_words (stops.cause_of h.0)) printed call.sink (settle_told h.0) call.unfailed call.whole call.printed_is (h.3 tt);
  logs = unlogged g log call.shelf.files (call.promises.stays.others tt) call.log_is;
}

settle_told_of : (g : PlainGiven) (a : Status) (printed log kept : List ℕ) (call : IsCall (Some settle_command) g None a printed log kept) → IsToldOf settle_command g call.before.jobs printed log
settle_told_of g statuses.Done printed log kept call =
    let h = call.promises.memory.further refl in
    record {
      due = Other (further.OfSettle (settles.Settled h.0));
      comes = (further.OfSettle (settles.Settled h.0), (settles.Settled h.0, h.1 tt, refl), refl);
      print = call.printed_is ∙ h.2 tt;
      logs = unlogged g log call.shelf.files (call.promises.stays.others tt) call.log_is;
    }
settle_told_of g statuses.Settle printed log kept call = settle_refused statuses.Settle g printed log kept statuses.Settle call (call.promises.ends.settle_refused refl)
settle_told_of g statuses.Input printed log kept call = settle_refused statuses.Input g printed log kept statuses.Input call (call.promises.ends.input refl)
settle_told_of g statuses.Limit printed log kept call = settle_refused statuses.Limit g printed log kept statuses.Limit call (call.promises.ends.limit refl)
settle_told_of g statuses.NoSelection printed log kept call = absurd (call.promises.memory.none refl)
settle_told_of g statuses.Unfinished printed log kept call = absurd (call.promises.memory.unfinished refl)
settle_told_of g statuses.Usage printed log kept call = absurd (let none = call.promises.usage.usage.0 refl in cc)
settle_told_of g statuses.ReadFault printed log kept call = absurd (call.promises.memory.read refl)
settle_told_of g statuses.WriteFault printed log kept call = absurd (call.promises.memory.written refl)
settle_told_of g statuses.KeepFault printed log kept call = absurd (call.promises.memory.kept refl)
settle_told_of g statuses.Memory printed log kept call = absurd (call.remembered refl)
settle_told_of g statuses.Saved printed log kept call = absurd (call.promises.ends.saved refl)
settle_told_of g statuses.CheckRefused printed log kept call = absurd (call.promises.ends.check_refused refl)

pub settled_once : (g : PlainGiven) → GivesTheSame (Some settle_command) g None
settled_once g = alone_once settle_command g refl (settle_told_of g)

-- ---- a workload

-- what a summary sums up is due
work_summed : (number count : ℕ) (a : Status) (printed log kept : List ℕ) (call : IsCall (Some (Work number count)) no_files None a printed log kept) (status : Status) (summary : List ℕ) → loads.outcome_of number count ≡ loads.Summed status summary → call.sink.written ≡ summary
    → IsToldOf (Work number count) no_files call.before.jobs printed log
work_summed number count a printed log kept call status summary due put = record {
  due = Summed status summary;
  comes = sym (ap (λ (o : loads.Outcome). load_outcome o) due);
  print = call.printed_is ∙ put;
  logs = unlogged no_files log call.shelf.files (call.promises.stays.others tt) call.log_is;
}

work_told : (number count : ℕ) (a : Status) (printed log kept : List ℕ) (call : IsCall (Some (Work number count)) no_files None a printed log kept) → IsToldOf (Work number count) no_files call.before.jobs printed log
work_told number count statuses.Done printed log kept call =
    let h = call.promises.memory.summed refl in
    work_summed number count statuses.Done printed log kept call statuses.Done h.0 h.1.comes_to h.2
work_told number count statuses.NoSelection printed log kept call =
    let h = call.promises.memory.none refl in
    work_summed number count statuses.NoSelection printed log kept call statuses.NoSelection h.0 h.1.comes_to h.2
work_told number count statuses.Unfinished printed log kept call =
    let h = call.promises.memory.unfinished refl in
    work_summed number count statuses.Unfinished printed log kept call statuses.Unfinished h.0 h.1.comes_to h.2
work_told number count statuses.Input printed log kept call =
    let h = call.promises.ends.input refl in
    record {
      due = Refused (cause_of h.0);
      comes = sym (ap (λ (o : loads.Outcome). load_outcome o) h.2);
      print = line_of (refusal_words h.0) (cause_words (cause_of h.0)) printed call.sink (refusal_told h.0) call.unfailed call.whole call.printed_is (h.3 tt);
      logs = unlogged no_files log call.shelf.files (call.promises.stays.others tt) call.log_is;
    }
work_told number count statuses.Limit printed log kept call = absurd (call.promises.ends.limit refl)
work_told number count statuses.Usage printed log kept call = absurd (let none = call.promises.usage.usage.0 refl in cc)
work_told number count statuses.ReadFault printed log kept call = absurd (call.promises.memory.read refl)
work_told number count statuses.WriteFault printed log kept call = absurd (call.promises.memory.written refl)
work_told number count statuses.KeepFault printed log kept call = absurd (call.promises.memory.kept refl)
work_told number count statuses.Memory printed log kept call = absurd (call.remembered refl)
work_told number count statuses.Saved printed log kept call = absurd (call.promises.ends.saved refl)
work_told number count statuses.CheckRefused printed log kept call = absurd (call.promises.ends.check_refused refl)
work_told number count statuses.Settle printed log kept call = absurd (call.promises.ends.settle_refused refl)

-- words that are no command end so
record IsUsage (a : Status) (printed log kept : List ℕ) : Type 0 where
  status_is : a ≡ statuses.Usage
  printed_is : printed ≡ fault_line (codes "usage")
  log_is : log ≡ []
  kept_is : kept ≡ []

usage_told : (a : Status) (printed log kept : List ℕ) → IsCall None no_files None a printed log kept → IsUsage a printed log kept
usage_told a printed log kept call =
    let is : a ≡ statuses.Usage = call.promises.usage.usage.1 refl in
    record {
      status_is = is;
      printed_is = call.printed_is ∙ got (fault_line (codes "usage")) call.sink call.unfailed call.whole (call.promises.usage.usage_line tt is);
      log_is = call.log_is ∙ ap (λ (v : ShelfView). v.files log_name) (call.promises.usage.untouched is);
      kept_is = call.none_kept (λ e. absurd (let both = sym is ∙ e in cc));
    }

usage_once : GivesTheSame None no_files None
usage_once a b printed log kept printed' log' kept' x y =
    let p = usage_told a printed log kept x in
    let q = usage_told b printed' log' kept' y in
    record { status = p.status_is ∙ sym q.status_is; print = p.printed_is ∙ sym q.printed_is; logs = p.log_is ∙ sym q.log_is; job = p.kept_is ∙ sym q.kept_is }

worked_by : (stands : Bool) (number count : ℕ) → GivesTheSame (where_stands stands (Work number count)) no_files None
worked_by true number count = alone_once (Work number count) no_files refl (work_told number count)
worked_by false number count = usage_once

pub worked_once : (number count : ℕ) → GivesTheSame (work_command number count) no_files None
worked_once number count = worked_by (nat_le number 9_223_372_036_854_775_807 && (nat_lt 0 count && nat_le count 10_000)) number count
