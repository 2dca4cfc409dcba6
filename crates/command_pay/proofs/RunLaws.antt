-- The words for what is asked are its command, which writes nothing but the log that is held.
use Rattle.std.proofs.Common.{◌≡◌, ◌∙◌, ℕ, List, [], ◌∷◌, Option, Some, None, inl, inr, refl, ap}
use Rattle.std.specs.Prelude.{◌⊎◌, IfOk, Result, Ok, Err, String, Bool, string_bytes}
use Rattle.std.specs.declared.alloc.Global.{Global}
use Rattle.fund_shelf.specs.Causes.{Rose, ShelfView, SinkView}
use Rattle.fund_base.specs.declared.memory.Memory.{Memory}
use Rattle.fund_outside.specs.Kept.{KeeperView}
use Rattle.request_making.specs.Asked.{asked_of}
use Rattle.request_making.specs.Written.{request_bytes}
use Rattle.request_text.specs.RequestText.{request_of}
use Rattle.command_end.specs.Names.{Sources}
use Rattle.command_inputs.specs.Names.{Payment}
use Rattle.fund_top.specs.Statuses.{EndsUnwritten}
use Rattle.fund_top.specs.Words.{Command, command_of, names_stand, of_four_names, payment, sources, where_stands}
use Rattle.held_run.specs.Held.{log_name}
use Rattle.held_run.specs.Run.{IsRunOf, WritesHeld}
use Rattle.held_run.specs.declared.run.Run.{Run}
use Rattle.pay_words.specs.declared.asked.Asked.{Asked}
use Rattle.pay_words.specs.declared.way.Way.{Way}
use Rattle.pay_words.specs.declared.way.Way.TheVariants as ways
use Rattle.command_pay.specs.Run.{IsRun, command_by, command_for, held_names, sources_of, verb_of}

-- ---- the words

of_verb : (way : Way) (w b r l : String Global) → of_four_names (verb_of way) (string_bytes w) (string_bytes b) (string_bytes r) (string_bytes l) ≡ where_stands (names_stand (sources w b) (payment r l)) (command_by way (sources w b) (payment r l))
of_verb ways.Fund w b r l = refl
of_verb ways.Wide w b r l = refl
of_verb ways.Share w b r l = refl

-- the words are the command, where its names stand
pub words_are : (way : Way) (v w b r l : String Global) (s : Sources) (p : Payment) → string_bytes v ≡ verb_of way → string_bytes w ≡ s.wallet → string_bytes b ≡ s.blocks → string_bytes r ≡ p.request → string_bytes l ≡ p.log
    → command_of (v ∷ w ∷ b ∷ r ∷ l ∷ []) ≡ where_stands (names_stand s p) (command_by way s p)
words_are way v w b r l s p verb wallet blocks request log =
    let s_is : sources w b ≡ s = ap (λ (x : List ℕ). let it : Sources = record { wallet = x; blocks = string_bytes b } in it) wallet ∙ ap (λ (x : List ℕ). let it : Sources = record { wallet = s.wallet; blocks = x } in it) blocks in
    let p_is : payment r l ≡ p = ap (λ (x : List ℕ). let it : Payment = record { request = x; log = string_bytes l } in it) request ∙ ap (λ (x : List ℕ). let it : Payment = record { request = p.request; log = x } in it) log in
    let put : Sources → Payment → Option Command = λ s p. where_stands (names_stand s p) (command_by way s p) in
    ap (λ (x : List ℕ). of_four_names x (string_bytes w) (string_bytes b) (string_bytes r) (string_bytes l)) verb ∙ (of_verb way w b r l ∙ (ap (λ (x : Sources). put x (payment r l)) s_is ∙ ap (put s) p_is))

-- ---- what is written

-- where a write failed, it was that of the log or of what is printed
lost_by : (told : Type 0) (way : Way) (s : Sources) (shelf shelf' : ShelfView) (sink sink' : SinkView) (keeper keeper' : KeeperView) → EndsUnwritten told (Unit {0}) (Unit {0}) (command_by way s held_names) shelf shelf' sink sink' keeper keeper'
    → Rose (shelf.writes log_name) (shelf'.writes log_name) ⊎ Rose sink.faults sink'.faults
lost_by told ways.Fund s shelf shelf' sink sink' keeper keeper' (report, Some log, is, inl lost) = inl lost.0
lost_by told ways.Fund s shelf shelf' sink sink' keeper keeper' (report, None, is, inl lost) = absurd lost.0
lost_by told ways.Fund s shelf shelf' sink sink' keeper keeper' (report, log, is, inr lost) = inr lost.0
lost_by told ways.Wide s shelf shelf' sink sink' keeper keeper' (report, Some log, is, inl lost) = inl lost.0
lost_by told ways.Wide s shelf shelf' sink sink' keeper keeper' (report, None, is, inl lost) = absurd lost.0
lost_by told ways.Wide s shelf shelf' sink sink' keeper keeper' (report, log, is, inr lost) = inr lost.0
lost_by told ways.Share s shelf shelf' sink sink' keeper keeper' (report, Some log, is, inl lost) = inl lost.0
lost_by told ways.Share s shelf shelf' sink sink' keeper keeper' (report, None, is, inl lost) = absurd lost.0
lost_by told ways.Share s shelf shelf' sink sink' keeper keeper' (report, log, is, inr lost) = inr lost.0

pub writes_by : (told : Type 0) (way : Way) (s : Sources) → WritesHeld told (command_by way s held_names)
writes_by told ways.Fund s = record { others = λ before now keeps. keeps; causes = lost_by told ways.Fund s }
writes_by told ways.Wide s = record { others = λ before now keeps. keeps; causes = lost_by told ways.Wide s }
writes_by told ways.Share s = record { others = λ before now keeps. keeps; causes = lost_by told ways.Share s }

-- ---- the run

pub run_for : (told : Type 0) (a : Asked) (request : List ℕ) (files after : ShelfView) (it : Result Run Memory) → request_of request ≡ asked_of a.payments.items a.coins.items a.settings → request ≡ request_bytes a.payments.items a.coins.items a.settings
    → IfOk it (λ r. IsRunOf told (names_stand (sources_of a) held_names) (command_for a) request files after r.status r.said.items r.log.items) → IfOk it (λ r. IsRun told a files after r.status r.said.items r.log.items)
run_for told a request files after (Ok r) asks bytes ran = record { request = request; asks = asks; bytes = bytes; ran = ran }
run_for told a request files after (Err e) asks bytes ran = tt
