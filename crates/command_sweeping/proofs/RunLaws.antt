-- The words for what is asked are the command, which writes no file.
use Rattle.std.proofs.Common.{◌≡◌, ◌∙◌, ℕ, List, [], ◌∷◌, Option, inr, refl, ap}
use Rattle.std.specs.Prelude.{◌⊎◌, ◌&&◌, nat_lt, length, codes, IfOk, Result, Ok, Err, String, Bool, string_bytes}
use Rattle.std.specs.declared.alloc.Global.{Global}
use Rattle.fund_base.specs.declared.memory.Memory.{Memory}
use Rattle.fund_shelf.specs.Causes.{Rose, ShelfView, SinkView}
use Rattle.fund_outside.specs.Kept.{KeeperView}
use Rattle.request_making.specs.Asked.{asked_of}
use Rattle.request_making.specs.Written.{request_bytes}
use Rattle.request_text.specs.RequestText.{request_of}
use Rattle.command_end.specs.Names.{Sources}
use Rattle.further_commands.specs.Command.{Sweep}
use Rattle.fund_top.specs.Statuses.{EndsUnwritten}
use Rattle.fund_top.specs.Words.{Command, Further, are_named, command_of, of_three_names, sweep_of, where_stands}
use Rattle.held_run.specs.Held.{log_name}
use Rattle.held_run.specs.Run.{IsRunOf, WritesHeld}
use Rattle.held_run.specs.declared.run.Run.{Run}
use Rattle.pay_words.specs.declared.asked.Asked.{Asked}
use Rattle.command_sweeping.specs.Run.{IsRun, command_for, stands_for}

-- the words are the command, where its names stand
pub words_are : (v w b r : String Global) (s : Sources) (request : List ℕ) → string_bytes v ≡ codes "sweep" → string_bytes w ≡ s.wallet → string_bytes b ≡ s.blocks → string_bytes r ≡ request
    → command_of (v ∷ w ∷ b ∷ r ∷ []) ≡ where_stands (are_named s && nat_lt 0 (length request)) (Further (Sweep s request))
words_are v w b r s request verb wallet blocks asked =
    ap (λ (x : List ℕ). of_three_names x (string_bytes w) (string_bytes b) (string_bytes r)) verb
    ∙ (ap (λ (x : List ℕ). sweep_of x (string_bytes b) (string_bytes r)) wallet
    ∙ (ap (λ (x : List ℕ). sweep_of s.wallet x (string_bytes r)) blocks ∙ ap (λ (x : List ℕ). sweep_of s.wallet s.blocks x) asked))

-- where a write failed, it was that of what is printed
lost : (told : Type 0) (s : Sources) (request : List ℕ) (shelf shelf' : ShelfView) (sink sink' : SinkView) (keeper keeper' : KeeperView) → EndsUnwritten told (Unit {0}) (Unit {0}) (Further (Sweep s request)) shelf shelf' sink sink' keeper keeper'
    → Rose (shelf.writes log_name) (shelf'.writes log_name) ⊎ Rose sink.faults sink'.faults
lost told s request shelf shelf' sink sink' keeper keeper' (report, is, rose, part) = inr rose

pub writes_none : (told : Type 0) (s : Sources) (request : List ℕ) → WritesHeld told (Further (Sweep s request))
writes_none told s request = record { others = λ before now keeps name other. ap (λ (f : List ℕ → List ℕ). f name) keeps; causes = lost told s request }

pub run_for : (told : Type 0) (a : Asked) (request : List ℕ) (files after : ShelfView) (it : Result Run Memory) → request_of request ≡ asked_of a.payments.items a.coins.items a.settings → request ≡ request_bytes a.payments.items a.coins.items a.settings
    → IfOk it (λ r. IsRunOf told (stands_for a) (command_for a) request files after r.status r.said.items r.log.items) → IfOk it (λ r. IsRun told a files after r.status r.said.items)
run_for told a request files after (Ok r) asks bytes ran = record { request = request; log = r.log.items; asks = asks; bytes = bytes; run = ran }
run_for told a request files after (Err e) asks bytes ran = tt
