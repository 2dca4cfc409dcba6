-- What the transactions that go with a payment spend, one after the other.
use Rattle.std.proofs.Common.{◌≡◌, ◌∙◌, ℕ, ◌+◌, ◌<◌, List, [], ◌∷◌, ◌++◌, length, map, take, drop, get_or, Some, None, sym, ap}
use Rattle.std.proofs.lemmas.Grind.{flat_map-append}
use Rattle.std.proofs.lemmas.List.{append-nil, take_more}
use Rattle.fund_base.specs.declared.outpoint.OutPoint.{OutPoint}
use Rattle.tx_codec.specs.Transaction.{Transaction}
use Rattle.tx_codec.specs.declared.tx.TxIn.{TxIn}
use Rattle.coin_book.specs.History.{History}
use Rattle.known_fees.specs.Worth.{first_foreign}
use Rattle.known_fees.proofs.WorthSteps.{about_place, foreign_behind, foreign_found, points_at}
use Rattle.fee_bump.specs.Faults.{points_of}

-- the outpoints of the transactions before one, of its own, and of those behind it
pub points_parts : (ts : List Transaction) (i : ℕ) (t : Transaction) → i < length ts → t ≡ get_or ts i t → points_of (take (i + 1) ts) ≡ points_of (take i ts) ++ map (λ (x : TxIn). x.prev) t.inputs
points_parts ts i t lt is =
    ap points_of (take_more ts i t lt)
    ∙ flat_map-append (λ (t : Transaction). map (λ (x : TxIn). x.prev) t.inputs) (take i ts) (get_or ts i t ∷ [])
    ∙ ap (λ (l : List OutPoint). points_of (take i ts) ++ l) (append-nil (map (λ (x : TxIn). x.prev) (get_or ts i t).inputs) ∙ ap (λ (t : Transaction). map (λ (x : TxIn). x.prev) t.inputs) (sym is))

-- the first of these transactions
pub foreign_in_one : (h : History) (ts us : List Transaction) (i : ℕ) (t : Transaction) (o : OutPoint) → i < length us → t ≡ get_or us i t
    → first_foreign h ts (points_of (take i us)) ≡ None → first_foreign h ts (points_at t.inputs) ≡ Some o → first_foreign h ts (points_of us) ≡ Some o
foreign_in_one h ts us i t o lt is before here =
    ap (λ (l : List Transaction). first_foreign h ts (points_of l)) (about_place us i t lt is)
    ∙ ap (first_foreign h ts) (flat_map-append (λ (t : Transaction). map (λ (x : TxIn). x.prev) t.inputs) (take i us) (t ∷ drop (i + 1) us))
    ∙ foreign_behind h ts (points_of (take i us)) (points_of (t ∷ drop (i + 1) us)) before
    ∙ foreign_found h ts (points_at t.inputs) (points_of (drop (i + 1) us)) o here

pub foreign_in_none : (h : History) (ts us : List Transaction) (i : ℕ) (t : Transaction) → i < length us → t ≡ get_or us i t
    → first_foreign h ts (points_of (take i us)) ≡ None → first_foreign h ts (points_at t.inputs) ≡ None → first_foreign h ts (points_of (take (i + 1) us)) ≡ None
foreign_in_none h ts us i t lt is before here =
    ap (first_foreign h ts) (points_parts us i t lt is) ∙ foreign_behind h ts (points_of (take i us)) (points_at t.inputs) before ∙ here
