-- The first fault of a history, and more after it.
use Rattle.std.proofs.Common.{◌≡◌, ◌∙◌, ◌+◌, ◌≤◌, List, [], ◌∷◌, length, filter, Option, Some, None, refl, sym, ap, arith}
use Rattle.std.specs.List.{flat_map}
use Rattle.std.proofs.lemmas.Grind.{flat_map-append}
use Rattle.std.proofs.lemmas.List.{length-append, length-map}
use Rattle.std.proofs.lemmas.List.Elements.{filter-append}
use Rattle.tx_codec.specs.Transaction.{Transaction}
use Rattle.block_feed.specs.Block.{ChainBlock}
use Rattle.coin_book.specs.Coins.{Made, confirmed_made, is_open, made_in, pending_made, weight_for}
use Rattle.coin_book.specs.Faults.{fault_behind, fault_of, points}
use Rattle.coin_book.specs.History.{History, confirmed_in, with_block, with_pending}
use Rattle.coin_book.specs.Invariant.{points_in}
use Rattle.coin_book.specs.declared.fault.BookFault.{BookFault}
use Rattle.coin_book.proofs.ChainSteps.{points_push}
use Rattle.coin_book.proofs.FaultSteps.{fault_first, fault_rest, few, no_room_for, room_for}
use Rattle.coin_book.proofs.MapSteps.{fault_among}
use Rattle.coin_book.proofs.PendingSteps.{full_only}

still_first : (h : History) (b : ChainBlock) (e : BookFault) → fault_behind [] (points (confirmed_made h)) ≡ Some e → fault_of (with_block h b) ≡ Some e
still_first h b e is =
    fault_first (with_block h b) e
    (ap (fault_behind []) (points_push (weight_for h.scripts) h.confirmed (confirmed_in b)) ∙ fault_among [] (points (confirmed_made h)) (points_in (weight_for h.scripts) (confirmed_in b)) e is)

-- without waiting coins the fault is one of confirmed coins
own_first : (h : History) (e : BookFault) → h.pending ≡ [] → fault_of h ≡ Some e → fault_behind [] (points (confirmed_made h)) ≡ Some e
own_first h e none is = by (fault_behind [] (points (confirmed_made h))) refl
  where
    by : (o : Option BookFault) → fault_behind [] (points (confirmed_made h)) ≡ o → fault_behind [] (points (confirmed_made h)) ≡ Some e
    by (Some x) told = told ∙ sym (fault_first h x told) ∙ is
    by None told =
        let n = few (points (confirmed_made h)) told in
        let m = length-map (confirmed_made h) (λ (m : Made). m.coin.coin) in
        let p = ap (λ (ts : List Transaction). length (flat_map (made_in (weight_for h.scripts) None) (filter (is_open h.confirmed) ts))) none in
        absurd (none_some (sym (room_for (length (confirmed_made h) + length (pending_made h)) (omega arith)) ∙ sym (fault_rest h told) ∙ is))
      where
        none_some : None ≡ Some e → ⊥
        none_some h = cc

pub block_stays : (h : History) (b : ChainBlock) (e : BookFault) → h.pending ≡ [] → fault_of h ≡ Some e → fault_of (with_block h b) ≡ Some e
block_stays h b e none is = still_first h b e (own_first h e none is)

more_waiting : (h : History) (t : Transaction) → length (pending_made h) ≤ length (pending_made (with_pending h t))
more_waiting h t =
    let f = made_in (weight_for h.scripts) None in
    let live = is_open h.confirmed in
    let all = ap (λ (ts : List Transaction). length (flat_map f ts)) (filter-append live h.pending (t ∷ [])) in
    let parts = ap (λ (m : List Made). length m) (flat_map-append f (filter live h.pending) (filter live (t ∷ []))) in
    let sum = length-append (pending_made h) (flat_map f (filter live (t ∷ []))) in
    omega arith

pub pending_stays : (h : History) (t : Transaction) (e : BookFault) → fault_of h ≡ Some e → fault_of (with_pending h t) ≡ Some e
pending_stays h t e is = by (fault_behind [] (points (confirmed_made h))) refl
  where
    by : (o : Option BookFault) → fault_behind [] (points (confirmed_made h)) ≡ o → fault_of (with_pending h t) ≡ Some e
    by (Some x) told = fault_first (with_pending h t) x told ∙ sym (fault_first h x told) ∙ is
    by None told =
        let full = full_only (length (confirmed_made h) + length (pending_made h)) e (sym (fault_rest h told) ∙ is) in
        let lt = full.1 in
        let le = more_waiting h t in
        fault_rest (with_pending h t) told ∙ no_room_for (length (confirmed_made h) + length (pending_made (with_pending h t))) (omega arith) ∙ ap Some (sym full.0)
