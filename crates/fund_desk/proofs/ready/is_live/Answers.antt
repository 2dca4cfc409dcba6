use Rattle.std.proofs.Common.{◌≡◌, ◌∙◌, ◌||◌, Bool, false, ap}
use Rattle.std.specs.Prelude.{is_some}
use Rattle.std.specs.Option.{option_map_or}
use Rattle.payment_facts.proofs.AnySteps.{place_known}
use Rattle.payment_states.specs.ByPlace.{flag_at}
use Rattle.payment_states.specs.Candidates.{is_pending}
use Rattle.payment_states.specs.PendingView.{place_in, view_of}
use Rattle.fund_desk.proofs.ReadyLaws.{flag_there}
use Rattle.fund_desk.proofs.ready.is_live.Goals as goal

pub returns-else-is_some : goal.returns-else-is_some
returns-else-is_some c =
    let w = c.args.held.now.wallet in
    let h = c.args.held.now.book in
    let txid = c.args.coin.now.coin.txid in
    let none : false ≡ is_some c.args.coin.now.height = cc in
    let place = c.place.ensures ∙ place_known w h c.args.known.now.states txid c.requires.known.states in
    c.flag_at.ensures
    ∙ (λ j. flag_at (c.deref.ensures.value j) (place j))
    ∙ flag_there (view_of w h) c.args.known.now.pending.items txid c.requires.known.pending
    ∙ ap (λ (b : Bool). b || option_map_or (is_pending (view_of w h)) (place_in w.pending txid) false) none
