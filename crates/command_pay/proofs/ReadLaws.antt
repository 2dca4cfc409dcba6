-- Failed reads of a run for what is asked are counted at the files themselves.
use Rattle.std.proofs.Common.{◌≡◌, ◌≤◌, ◌∙◌, ℕ, Bool, true, false, List, inl, inr, refl, sym, ap, subst, arith, bytes_eq, string_bytes}
use Rattle.std.specs.Prelude.{◌≢◌, ◌⊎◌, if◌then◌else◌}
use Rattle.fund_shelf.specs.Causes.{Rose, ShelfView, SinkView}
use Rattle.fund_files.specs.declared.refusal.File.{File}
use Rattle.fund_files.specs.declared.refusal.File.TheVariants.{Wallet, Blocks, Request}
use Rattle.command_end.specs.declared.status.Status.{Status}
use Rattle.command_end.specs.declared.status.Status.TheVariants as statuses
use Rattle.fund_top.specs.Statuses.{EndsUnread}
use Rattle.pay_words.specs.declared.asked.Asked.{Asked}
use Rattle.pay_words.specs.declared.way.Way.{Way}
use Rattle.pay_words.specs.declared.way.Way.TheVariants as ways
use Rattle.held_run.specs.Held.{IsOther, count_among, log_name, request_name}
use Rattle.held_run.specs.Run.{beside, empty_sink}
use Rattle.held_run.proofs.RunLaws.{none_rose, other_count}
use Rattle.command_inputs.specs.Inputs.{IsUnread}
use Rattle.command_pay.specs.Run.{IsRun, command_by, held_names, sources_of}

-- a count that rose beside two that never do rose by itself
rose_if : (held logged : Bool) (m n : ℕ) → Rose (if held then 0 else if logged then 0 else m) (if held then 0 else if logged then 0 else n) → Rose m n
rose_if true logged m n h = absurd (none_rose h)
rose_if false true m n h = absurd (none_rose h)
rose_if false false m n h = h

rose_among : (before after : List ℕ → ℕ) (name : List ℕ) → Rose (count_among before name) (count_among after name) → Rose (before name) (after name)
rose_among before after name h = rose_if (bytes_eq name request_name) (bytes_eq name log_name) (before name) (after name) h

-- by the file whose read failed: never the request, which is held in memory
one_of : (a : Asked) (files after : ShelfView) (request : List ℕ) (shelf : ShelfView) → shelf.reads ≡ count_among after.reads → (file : File) → IsUnread (sources_of a) held_names file (beside files request) shelf
    → Rose (files.reads (string_bytes a.names.wallet)) (after.reads (string_bytes a.names.wallet)) ⊎ Rose (files.reads (string_bytes a.names.blocks)) (after.reads (string_bytes a.names.blocks))
one_of a files after request shelf counts Wallet h =
    inl (rose_among files.reads after.reads (string_bytes a.names.wallet) (subst (λ (c : List ℕ → ℕ). Rose (count_among files.reads (string_bytes a.names.wallet)) (c (string_bytes a.names.wallet))) counts h))
one_of a files after request shelf counts Blocks h =
    inr (rose_among files.reads after.reads (string_bytes a.names.blocks) (subst (λ (c : List ℕ → ℕ). Rose (count_among files.reads (string_bytes a.names.blocks)) (c (string_bytes a.names.blocks))) counts h))
one_of a files after request shelf counts Request h =
    absurd (none_rose (subst (λ (c : List ℕ → ℕ). Rose 0 (c request_name)) counts h))

-- by the way: a read that failed is one of a file of the command
unread_by : (way : Way) (a : Asked) (request : List ℕ) (files shelf : ShelfView) (sink : SinkView) → EndsUnread (Unit {0}) (Unit {0}) (command_by way (sources_of a) held_names) (beside files request) shelf empty_sink sink
    → (file : File) × IsUnread (sources_of a) held_names file (beside files request) shelf
unread_by ways.Fund a request files shelf sink ends = (ends.0, ends.1)
unread_by ways.Wide a request files shelf sink ends = (ends.0, ends.1)
unread_by ways.Share a request files shelf sink ends = (ends.0, ends.1)

pub one_failed : (a : Asked) (files after : ShelfView) (said log : List ℕ) → IsRun (Unit {0}) a files after statuses.ReadFault said log
    → Rose (files.reads (string_bytes a.names.wallet)) (after.reads (string_bytes a.names.wallet)) ⊎ Rose (files.reads (string_bytes a.names.blocks)) (after.reads (string_bytes a.names.blocks))
one_failed a files after said log run =
    let ran = run.ran in
    let found = unread_by a.way a run.request files ran.shelf ran.sink (ran.ends (λ e. cc)) in
    one_of a files after run.request ran.shelf (ap (λ (v : ShelfView). v.reads) ran.left.is) found.0 found.1

pub none_failed : (a : Asked) (files after : ShelfView) (status : Status) (said log : List ℕ) → IsRun (Unit {0}) a files after status said log → status ≢ statuses.ReadFault → (name : List ℕ) → IsOther name → after.reads name ≡ files.reads name
none_failed a files after status said log run apart name other =
    sym (other_count after.reads name other)
    ∙ sym (ap (λ (v : ShelfView). v.reads name) run.ran.left.is)
    ∙ ap (λ (counts : List ℕ → ℕ). counts name) (run.ran.all_read apart)
    ∙ other_count files.reads name other
