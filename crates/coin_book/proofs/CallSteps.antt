-- What a book comes to after a list of calls.
use Rattle.std.proofs.Common.{◌≡◌, ◌∙◌, List, [], ◌∷◌, ◌++◌, sym, append_assoc}
use Rattle.std.proofs.lemmas.List.{append-nil}
use Rattle.std.specs.List.{flat_map}
use Rattle.wallet_text.specs.PlainWallet.{PlainWallet}
use Rattle.coin_book.specs.Events.{ComesTo, Event, after, blocks_in, pending_in}
use Rattle.coin_book.specs.Events.Event.{adds_block, adds_pending}
use Rattle.coin_book.specs.History.{History, confirmed_in, start_of, with_block, with_pending}

-- after any history
behind : (h : History) (events : List Event) → after h events ≡ record {
  scripts = h.scripts;
  confirmed = h.confirmed ++ flat_map confirmed_in (blocks_in events);
  pending = h.pending ++ pending_in events;
}
unfolding after
behind h [] = λ k. record { scripts = h.scripts; confirmed = sym (append-nil h.confirmed) k; pending = sym (append-nil h.pending) k }
behind h (adds_block block ∷ events) =
    behind (with_block h block) events
    ∙ λ k. record { scripts = h.scripts; confirmed = append_assoc h.confirmed (confirmed_in block) (flat_map confirmed_in (blocks_in events)) k; pending = h.pending ++ pending_in events }
behind h (adds_pending t ∷ events) =
    behind (with_pending h t) events
    ∙ λ k. record { scripts = h.scripts; confirmed = h.confirmed ++ flat_map confirmed_in (blocks_in events); pending = append_assoc h.pending (t ∷ []) (pending_in events) k }

pub comes_to : (w : PlainWallet) (events : List Event) → ComesTo w events
comes_to w events = behind (start_of w) events
