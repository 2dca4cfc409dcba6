use Rattle.std.proofs.Common.{◌≡◌, ◌∙◌, ℕ, List, [], Option, Vec, Global, map, length, sym, ap, subst, All}
use Rattle.std.specs.Prelude.{is_some, option_and_then}
use Rattle.std.proofs.lemmas.List.{length-map}
use Rattle.std.proofs.lemmas.Result.{IfOk-weaker}
use Rattle.tx_codec.specs.Transaction.{Transaction}
use Rattle.tx_codec.specs.Txid.{txid_of}
use Rattle.coin_book.specs.Spends.{height_of}
use Rattle.payment_states.specs.Graph.{below, kin}
use Rattle.payment_states.specs.Least.{least_by, value_at}
use Rattle.payment_states.specs.Payments.{conflict, payments_in, txid_in}
use Rattle.payment_states.specs.ByPlace.{payment_by, place_if, view_by}
use Rattle.payment_states.specs.PendingView.{parents}
use Rattle.payment_states.specs.declared.state.Payment.{Payment}
use Rattle.payment_states.proofs.Below.{map_same}
use Rattle.payment_states.proofs.AbandonedSteps.{abandoned_is}
use Rattle.payment_states.proofs.StateSteps.{alive_are, conflict_free, payments_are, replacers_are}
use Rattle.coin_book.specs.Asked.{IsAskedTxid}
use Rattle.payment_states.proofs.AskedLaws.{asked_txids}
use Rattle.payment_states.proofs.states.payments_by.Goals as goal

-- there is a txid, and a list of parents, for each transaction
names_count : (txids : List (List ℕ)) (ts : List Transaction) → txids ≡ map txid_of ts → length txids ≡ length ts
names_count txids ts e = ap (λ (l : List (List ℕ)). length l) e ∙ length-map ts txid_of

graph_count : (g : List (List ℕ)) (ts : List Transaction) (f : Transaction → List ℕ) → g ≡ map f ts → length g ≡ length ts
graph_count g ts f e = ap (λ (l : List (List ℕ)). length l) e ∙ length-map ts f

pub abandoned_of-requires-clause-same : goal.abandoned_of-requires-clause-same
abandoned_of-requires-clause-same c =
    names_count c.args.txids.now c.args.pending.now c.requires.txids
    ∙ sym (graph_count c.args.parents.now c.args.pending.now (parents c.args.book.now.confirmed c.args.pending.now) c.requires.graph)

pub alive_of-requires-clause-conflicts : goal.alive_of-requires-clause-conflicts
alive_of-requires-clause-conflicts c =
    c.deref-2.ensures.len ∙ c.in_ok-conflicted.ensures.len
    ∙ sym (c.deref.ensures.len ∙ c.in_ok-heights.ensures.len ∙ names_count c.args.txids.now c.args.pending.now c.requires.txids)

pub alive_of-requires-clause-abandoned : goal.alive_of-requires-clause-abandoned
alive_of-requires-clause-abandoned c =
    c.deref-3.ensures.len ∙ c.in_ok-abandoned_at.ensures.len
    ∙ graph_count c.args.parents.now c.args.pending.now (parents c.args.book.now.confirmed c.args.pending.now) c.requires.graph
    ∙ sym (c.deref.ensures.len ∙ c.in_ok-heights.ensures.len ∙ names_count c.args.txids.now c.args.pending.now c.requires.txids)

pub replacers-requires : goal.replacers-requires
replacers-requires c =
    c.deref-4.ensures.len ∙ c.in_ok-alive.ensures.len ∙ c.deref.ensures.len ∙ c.in_ok-heights.ensures.len
    ∙ names_count c.args.txids.now c.args.pending.now c.requires.txids

pub least_of_kin-requires-clause-same : goal.least_of_kin-requires-clause-same
least_of_kin-requires-clause-same c =
    c.deref-6.ensures.len ∙ c.in_ok-own.ensures.len ∙ c.deref-5.ensures.len ∙ c.in_ok-found.ensures.len
    ∙ sym (graph_count c.args.parents.now c.args.pending.now (parents c.args.book.now.confirmed c.args.pending.now) c.requires.graph)

pub payments-requires-clause-heights : goal.payments-requires-clause-heights
payments-requires-clause-heights c = c.deref-7.ensures.len ∙ c.in_ok-heights.ensures.len

pub payments-requires-clause-conflicts : goal.payments-requires-clause-conflicts
payments-requires-clause-conflicts c =
    c.deref-8.ensures.len ∙ c.in_ok-conflicted.ensures.len ∙ sym (names_count c.args.txids.now c.args.pending.now c.requires.txids)

pub payments-requires-clause-abandoned : goal.payments-requires-clause-abandoned
payments-requires-clause-abandoned c =
    c.deref-9.ensures.len ∙ c.in_ok-abandoned_at.ensures.len
    ∙ graph_count c.args.parents.now c.args.pending.now (parents c.args.book.now.confirmed c.args.pending.now) c.requires.graph
    ∙ sym (names_count c.args.txids.now c.args.pending.now c.requires.txids)

pub payments-requires-clause-firsts : goal.payments-requires-clause-firsts
payments-requires-clause-firsts c =
    c.deref-11.ensures.len ∙ c.in_ok-firsts.ensures.len
    ∙ graph_count c.args.parents.now c.args.pending.now (parents c.args.book.now.confirmed c.args.pending.now) c.requires.graph
    ∙ sym (names_count c.args.txids.now c.args.pending.now c.requires.txids)

pub returns : goal.returns
returns c =
    let chain = c.args.book.now.confirmed in
    let pending = c.args.pending.now in
    let w = view_by chain pending c.args.abandoned.now in
    let graph = c.requires.graph in
    let txids = c.requires.txids in
    let heights : c.in_ok-heights.heights.items ≡ map (height_of chain) (map txid_of pending) = c.in_ok-heights.ensures.heights ∙ ap (map (height_of chain)) txids in
    let conflicts : c.in_ok-conflicted.conflicted.items ≡ map (λ i. option_and_then (txid_in chain) (conflict w i)) (below (length pending)) =
    c.in_ok-conflicted.ensures.conflicts
    ∙ map_same (λ i. option_and_then (txid_in chain) (conflict (view_by chain pending []) i)) (λ i. option_and_then (txid_in chain) (conflict w i)) (below (length pending)) (λ i. ap (option_and_then (txid_in chain)) (conflict_free chain pending c.args.abandoned.now i)) in
    let abandoned = c.in_ok-abandoned_at.ensures.abandoned ∙ abandoned_is w c.args.parents.now c.args.txids.now graph txids in
    let alive = alive_are w c.deref.result.now c.deref-2.result.now c.deref-3.result.now c.in_ok-alive.alive.items (c.deref.ensures.value ∙ heights) (c.deref-2.ensures.value ∙ conflicts) (c.deref-3.ensures.value ∙ abandoned) c.in_ok-alive.ensures.alive in
    let found = replacers_are w c.deref-4.result.now c.in_ok-found.found.items (c.deref-4.ensures.value ∙ alive) c.in_ok-found.ensures.replacers in
    let own : c.in_ok-own.own.items ≡ map (λ j. place_if (is_some (value_at c.in_ok-found.found.items j)) j) (below (length c.in_ok-found.found.items)) =
    c.in_ok-own.ensures.places ∙ ap (λ (l : List (Option ℕ)). map (λ j. place_if (is_some (value_at l j)) j) (below (length l))) c.deref-5.ensures.value in
    let firsts : c.in_ok-firsts.firsts.items ≡ map (λ i. least_by (value_at c.in_ok-own.own.items) (kin c.args.parents.now i)) (below (length c.args.parents.now)) =
    c.in_ok-firsts.ensures.least ∙ (λ k. map (λ i. least_by (value_at (c.deref-6.ensures.value k)) (kin c.args.parents.now i)) (below (length c.args.parents.now))) in
    let given : List Payment = map (payment_by c.args.txids.now c.deref-7.result.now c.deref-8.result.now c.deref-9.result.now c.deref-10.result.now c.deref-11.result.now) (below (length c.args.txids.now)) in
    let same : given ≡ payments_in w =
    (λ k. map (payment_by c.args.txids.now (c.deref-7.ensures.value k) (c.deref-8.ensures.value k) (c.deref-9.ensures.value k) (c.deref-10.ensures.value k) (c.deref-11.ensures.value k)) (below (length c.args.txids.now)))
    ∙ payments_are w c.args.parents.now c.args.txids.now c.in_ok-heights.heights.items c.in_ok-conflicted.conflicted.items c.in_ok-abandoned_at.abandoned_at.items c.in_ok-found.found.items c.in_ok-own.own.items c.in_ok-firsts.firsts.items
    graph txids c.in_ok-heights.ensures.heights conflicts abandoned found own firsts in
    IfOk-weaker c.payments.result (λ (v : Vec Payment Global). v.items ≡ given) (λ (v : Vec Payment Global). v.items ≡ payments_in w) (λ v is. is ∙ same) c.payments.ensures

pub heights_of-requires : goal.heights_of-requires
heights_of-requires c = subst (All (IsAskedTxid c.args.book.now)) (sym c.requires.txids) (asked_txids c.args.book.now c.args.pending.now c.requires.waiting)
