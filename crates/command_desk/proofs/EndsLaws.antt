-- How a desk ends whose lines were run, by how their run ends.
use Rattle.std.specs.Prelude.{ℕ, ◌≡◌, List, [], ◌∷◌, ◌++◌, codes, Result, Ok, Err}
use Rattle.std.proofs.Common.{subst, inl, inr, arith}
use Rattle.fund_shelf.specs.Causes.{Asks, OnlyReads, ShelfView, SinkView}
use Rattle.fund_shelf.proofs.Asking.{asks_first, asks_then}
use Rattle.fund_shelf.proofs.Outside.{rose_earlier}
use Rattle.fund_files.proofs.StopLaws.{not_refused}
use Rattle.command_end.specs.Names.{Sources}
use Rattle.command_end.specs.declared.status.Status.{Status}
use Rattle.command_end.specs.declared.status.Status.TheVariants as statuses
use Rattle.desk_machine.specs.State.{PlainDesk}
use Rattle.command_desk.specs.Line.{line_of}
use Rattle.command_desk.specs.Script.{lines_of}
use Rattle.command_desk.specs.Asked.{NoneBehind, files_in, first_names}
use Rattle.command_desk.specs.Course.{Answers, Course, IsLong, long_word}
use Rattle.command_desk.specs.Running.{RunsOn, StandsAt, StopsAt, StopsInside}
use Rattle.command_desk.specs.Starts.{StartsFrom}
use Rattle.command_desk.specs.Statuses.{Ends}

-- ---- a run of the lines, behind some files that were read

module _ (told_files told : Type 0) (names : List (List ℕ)) (text : List ℕ) (d : PlainDesk) (old mid new : ShelfView) (sink sink' : SinkView) (frame : OnlyReads told_files old mid) (asked : told_files → Asks names old.asked mid.asked) where
  stands_behind : (front : List (List ℕ)) (line printed : List ℕ) (e : PlainDesk) → StandsAt told_files [] text d mid new front line printed e → StandsAt told_files names text d old new front line printed e
  stands_behind front line printed e h = record {
    rest = h.rest;
    parts = h.parts;
    course = λ t. subst (λ (files : List ℕ → List ℕ). Course files front d printed e) (frame.same t) (h.course t);
    asked = λ t. asks_then names (files_in (front ++ line ∷ [])) old.asked mid.asked new.asked (asked t) (h.asked t);
  }

  stops_behind : (line words : List ℕ) → StopsAt told_files told [] text d mid new sink sink' line words → StopsAt told_files told names text d old new sink sink' line words
  stops_behind line words h = record { front = h.front; printed = h.printed; new = h.new; stands = stands_behind h.front line h.printed h.new h.stands; got = h.got }

  inside_behind : StopsInside told_files told [] text d mid new sink sink' → StopsInside told_files told names text d old new sink sink'
  inside_behind h = record {
    front = h.front;
    line = h.line;
    printed = h.printed;
    reply = h.reply;
    new = h.new;
    next = h.next;
    stands = stands_behind h.front h.line h.printed h.new h.stands;
    answers = λ t. subst (λ (files : List ℕ → List ℕ). Answers files (line_of h.line) h.new h.reply h.next) (frame.same t) (h.answers t);
    part = h.part;
  }

  runs_behind : (status : Status) → RunsOn told_files told [] text d mid new sink sink' status → RunsOn told_files told names text d old new sink sink' status
  runs_behind statuses.Done h = (h.0, h.1, (λ t. subst (λ (files : List ℕ → List ℕ). Course files (lines_of text) d h.0 h.1) (frame.same t) (h.2 t)), h.3)
  runs_behind statuses.ReadFault h = (h.0, h.1, h.2, rose_earlier (old.reads h.1.file) (mid.reads h.1.file) (new.reads h.1.file) (frame.reads h.1.file) h.3, stops_behind h.0 (codes "read " ++ h.1.file) h.4)
  runs_behind statuses.Limit h = (h.0, (λ t. subst (λ (files : List ℕ → List ℕ). IsLong files (line_of h.0)) (frame.same t) (h.1 t)), stops_behind h.0 (codes "limit " ++ long_word (line_of h.0)) h.2)
  runs_behind statuses.WriteFault h = (h.0, inside_behind h.1)
  runs_behind statuses.Memory (inl h) = inl (h.0, h.1, stops_behind h.0 (codes "memory") h.2)
  runs_behind statuses.Memory (inr h) = inr (h.0, inside_behind h.1)
  runs_behind statuses.NoSelection h = absurd h
  runs_behind statuses.Unfinished h = absurd h
  runs_behind statuses.Usage h = absurd h
  runs_behind statuses.Input h = absurd h
  runs_behind statuses.KeepFault h = absurd h
  runs_behind statuses.Saved h = absurd h
  runs_behind statuses.CheckRefused h = absurd h
  runs_behind statuses.Settle h = absurd h

-- ---- the command

module _ (told_files told : Type 0) (s : Sources) (script text : List ℕ) (d : PlainDesk) (old mid new : ShelfView) (sink sink' : SinkView) (starts : StartsFrom told_files old.files s script text d) (frame : OnlyReads told_files old mid) (asked : told_files → Asks (first_names s script) old.asked mid.asked) where
  pub run_ends : (result : Status) → RunsOn told_files told [] text d mid new sink sink' result → Ends told_files told s script old new sink sink' result
  run_ends result h = inr (record { text = text; desk = d; starts = starts; runs = runs_behind told_files told (first_names s script) text d old mid new sink sink' frame asked result h })

  pub run_asked : (told_files → Asks (files_in (lines_of text)) mid.asked new.asked) → told_files → Asks (first_names s script ++ files_in (lines_of (old.files script))) old.asked new.asked
  run_asked rest t =
      subst (λ (said : List ℕ). Asks (first_names s script ++ files_in (lines_of said)) old.asked new.asked) (starts.text_is t)
      (asks_then (first_names s script) (files_in (lines_of text)) old.asked mid.asked new.asked (asked t) (rest t))

  -- the files that are read before the first line are in order
  pub run_behind : told_files → NoneBehind s script old new
  run_behind t = record {
    wallet_alone = λ cause h. absurd (not_refused (old.files s.wallet) starts.wallet cause (starts.inputs t).chain.wallet h);
    chain_alone = λ none. absurd (none starts.wallet starts.blocks (starts.inputs t).chain);
    script_alone = λ long. absurd (omega (arith, (starts.inputs t).fits, long));
  }

-- what was read whole wasn't stopped at
pub read_alone : (A B : Type 0) (r : Result A B) (x : A) (stop : B) → r ≡ Ok x → r ≡ Err stop → ⊥
read_alone A B r x stop is other = cc (is, other)

-- where it stopped before
pub stop_asked : (s : Sources) (script : List ℕ) (old new : ShelfView) → Asks (first_names s script) old.asked new.asked → Asks (first_names s script ++ files_in (lines_of (old.files script))) old.asked new.asked
stop_asked s script old new asked = asks_first (first_names s script) (files_in (lines_of (old.files script))) old.asked new.asked asked
