-- Where no count is above nothing none rose, so no failure is told.
use Rattle.std.proofs.Common.{◌≡◌, ℕ, List, Some, None, inl, inr, arith}
use Rattle.fund_shelf.specs.Causes.{Rose, ShelfView, SinkView}
use Rattle.command_end.specs.declared.status.Status.TheVariants as statuses
use Rattle.command_inputs.specs.Inputs.{name_of}
use Rattle.command_settle.specs.Names as files
use Rattle.command_sweep.specs.Asked.{asked_by}
use Rattle.further_commands.specs.Command.{FurtherCommand, Wide, Settle, Share, Sweep}
use Rattle.further_commands.specs.Statuses.{Ends, IsLogUnwritten, NoneUnread}

-- a count never rose
abbrev AreNone : (List ℕ → ℕ) → Type 0
AreNone counts = (name : List ℕ) → counts name ≡ 0

flat : (m n : ℕ) → m ≡ 0 → n ≡ 0 → Rose m n → ⊥
flat m n a b h = omega arith

pub none_unread : (c : FurtherCommand) (shelf shelf' : ShelfView) → AreNone shelf.reads → AreNone shelf'.reads → NoneUnread c shelf shelf'
none_unread (Wide s p) shelf shelf' a b = λ file h. flat (shelf.reads (name_of s p file)) (shelf'.reads (name_of s p file)) (a (name_of s p file)) (b (name_of s p file)) h
none_unread (Settle n) shelf shelf' a b = λ file h. flat (shelf.reads (files.name_of n file)) (shelf'.reads (files.name_of n file)) (a (files.name_of n file)) (b (files.name_of n file)) h
none_unread (Share s p) shelf shelf' a b = λ file h. flat (shelf.reads (name_of s p file)) (shelf'.reads (name_of s p file)) (a (name_of s p file)) (b (name_of s p file)) h
none_unread (Sweep s request) shelf shelf' a b = λ file h. flat (shelf.reads (name_of s (asked_by request) file)) (shelf'.reads (name_of s (asked_by request) file)) (a (name_of s (asked_by request) file)) (b (name_of s (asked_by request) file)) h

pub none_unwritten : (c : FurtherCommand) (shelf shelf' : ShelfView) → AreNone shelf.writes → AreNone shelf'.writes → IsLogUnwritten c shelf shelf' → ⊥
none_unwritten (Wide s p) shelf shelf' a b h = flat (shelf.writes p.log) (shelf'.writes p.log) (a p.log) (b p.log) h
none_unwritten (Settle n) shelf shelf' a b h = h
none_unwritten (Share s p) shelf shelf' a b h = flat (shelf.writes p.log) (shelf'.writes p.log) (a p.log) (b p.log) h
none_unwritten (Sweep s request) shelf shelf' a b h = h

pub unread : (c : FurtherCommand) (shelf shelf' : ShelfView) (sink sink' : SinkView) → AreNone shelf.reads → AreNone shelf'.reads → Ends (Unit {0}) (Unit {0}) c shelf shelf' sink sink' statuses.ReadFault → ⊥
unread (Wide s p) shelf shelf' sink sink' a b h = flat (shelf.reads (name_of s p h.0)) (shelf'.reads (name_of s p h.0)) (a (name_of s p h.0)) (b (name_of s p h.0)) h.1
unread (Settle n) shelf shelf' sink sink' a b h = flat (shelf.reads (files.name_of n h.0)) (shelf'.reads (files.name_of n h.0)) (a (files.name_of n h.0)) (b (files.name_of n h.0)) h.1
unread (Share s p) shelf shelf' sink sink' a b h = flat (shelf.reads (name_of s p h.0)) (shelf'.reads (name_of s p h.0)) (a (name_of s p h.0)) (b (name_of s p h.0)) h.1
unread (Sweep s request) shelf shelf' sink sink' a b h = flat (shelf.reads (name_of s (asked_by request) h.0)) (shelf'.reads (name_of s (asked_by request) h.0)) (a (name_of s (asked_by request) h.0)) (b (name_of s (asked_by request) h.0)) h.1

pub unwritten : (c : FurtherCommand) (shelf shelf' : ShelfView) (sink sink' : SinkView) → AreNone shelf.writes → AreNone shelf'.writes → sink.faults ≡ 0 → sink'.faults ≡ 0 → Ends (Unit {0}) (Unit {0}) c shelf shelf' sink sink' statuses.WriteFault → ⊥
unwritten (Wide s p) shelf shelf' sink sink' a b d e (report, Some log, is, inl lost) = flat (shelf.writes p.log) (shelf'.writes p.log) (a p.log) (b p.log) lost.0
unwritten (Wide s p) shelf shelf' sink sink' a b d e (report, None, is, inl lost) = lost.0
unwritten (Wide s p) shelf shelf' sink sink' a b d e (report, log, is, inr lost) = flat sink.faults sink'.faults d e lost.0
unwritten (Settle n) shelf shelf' sink sink' a b d e (text, settled, rose, part) = flat sink.faults sink'.faults d e rose
unwritten (Share s p) shelf shelf' sink sink' a b d e (report, Some log, is, inl lost) = flat (shelf.writes p.log) (shelf'.writes p.log) (a p.log) (b p.log) lost.0
unwritten (Share s p) shelf shelf' sink sink' a b d e (report, None, is, inl lost) = lost.0
unwritten (Share s p) shelf shelf' sink sink' a b d e (report, log, is, inr lost) = flat sink.faults sink'.faults d e lost.0
unwritten (Sweep s request) shelf shelf' sink sink' a b d e (report, is, rose, part) = flat sink.faults sink'.faults d e rose
