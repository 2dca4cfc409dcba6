use Rattle.std.proofs.Common.{◌≡◌, ◌∙◌, ℕ, suc, ◌-◌, ◌<◌, List, cond, Some, length, get_or, drop, sym, ap, subst, arith}
use Rattle.std.proofs.lemmas.List.{get_or-map}
use Rattle.json_fields.specs.Fields.{is_among}
use Rattle.tx_codec.specs.Txid.{txid_of}
use Rattle.wallet_text.specs.WalletText.{txids_of, spends_one_of, later_from}
use Rattle.wallet_text.proofs.Orders.{later_none, first_none, later_more, first_more}
use Rattle.wallet_text.proofs.lists.first_later.Goals as goal

pub loop-index-init : goal.loop-index-init
loop-index-init c = record {
  within = omega arith;
  later = later_none c.args.pending.now c.args.later.now.keys c.requires.empty;
  first = first_none c.args.pending.now;
  room = c.requires.room;
}

pub loop-index-preserved : goal.loop-index-preserved
loop-index-preserved c =
    let here : c.loop-index.index - 1 < length c.args.pending.now = omega (arith, c.loop-index.invariant.within) in
    let next : suc (c.loop-index.index - 1) ≡ c.loop-index.index = omega arith in
    let is : c.index-txids-index.result ≡ txid_of (get_or c.args.pending.now (c.loop-index.index - 1) c.index-pending-index.result) =
    c.index-txids-index.is ∙ ap (λ (l : List (List ℕ)). get_or l (c.loop-index.index - 1) c.index-txids-index.result) c.requires.txids ∙ get_or-map txid_of c.args.pending.now (c.loop-index.index - 1) c.index-pending-index.result c.index-txids-index.result here in
    let behind = subst (λ n. (q : List ℕ) → is_among c.loop-index.later.keys q ≡ is_among (txids_of (drop n c.args.pending.now)) q) (sym next) c.loop-index.invariant.later in
    let found = subst (λ n. c.loop-index.first ≡ later_from n (drop n c.args.pending.now)) (sym next) c.loop-index.invariant.first in
    let later = later_more c.args.pending.now (c.loop-index.index - 1) c.index-pending-index.result c.loop-index.later.keys c.insert.new.self.keys c.index-txids-index.result here is behind c.in_ok-insert.ensures.keys in
    record {
      within = omega (arith, c.loop-index.invariant.within);
      later = later;
      first = first_more c.args.pending.now (c.loop-index.index - 1) c.index-pending-index.result c.insert.new.self.keys c.loop-index.first _ here later found
          (c.first_place-first.ensures ∙ ap (λ t. cond (spends_one_of c.insert.new.self.keys t) (Some (c.loop-index.index - 1)) c.loop-index.first) c.index-pending-index.is);
      room = omega (arith, c.loop-index.invariant.room, c.insert.ensures.spare);
    }
