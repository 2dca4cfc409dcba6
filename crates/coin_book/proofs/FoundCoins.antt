-- Which coin a book finds at an outpoint.
use Rattle.std.proofs.Common.{◌≡◌, ◌∙◌, Bool, true, false, cond, List, [], ◌∷◌, map, Option, Some, None, refl, sym, ap}
use Rattle.std.specs.Prelude.{find, option_map}
use Rattle.std.specs.Option.{option_or}
use Rattle.std.specs.Map.{keys_of, lookup}
use Rattle.std.proofs.lemmas.List.Folds.{find-append}
use Rattle.coin_book.proofs.StaySteps.{same_head}
use Rattle.fund_base.specs.Outpoints.{same_outpoint}
use Rattle.fund_base.specs.declared.outpoint.OutPoint.{OutPoint}
use Rattle.coin_book.specs.AtOutpoint.{coin_under}
use Rattle.coin_book.specs.Coins.{Made, confirmed_made, made_of, pending_made}
use Rattle.coin_book.specs.Faults.{points}
use Rattle.coin_book.specs.History.{History}
use Rattle.coin_book.specs.Invariant.{HoldsCoins, made_at}
use Rattle.coin_book.specs.declared.coin.Coin.{Coin}
use Rattle.coin_book.specs.declared.held.Held.{Held}

abbrev pub held_in : OutPoint → List (OutPoint × Held) → Option Coin
held_in o es = option_map (λ (h : Held). h.coin) (lookup (same_outpoint o) es)

abbrev pub coin_among : OutPoint → List Made → Option Coin
coin_among o made = option_map (λ (m : Made). m.coin) (find (λ (m : Made). same_outpoint o m.coin.coin) made)

held_by : (b : Bool) (x : Held) (m : Made) (r : Option Held) (s : Option Made) → x.coin ≡ m.coin → option_map (λ (h : Held). h.coin) r ≡ option_map (λ (m : Made). m.coin) s
    → option_map (λ (h : Held). h.coin) (cond b (Some x) r) ≡ option_map (λ (m : Made). m.coin) (cond b (Some m) s)
held_by true x m r s e rest = ap Some e
held_by false x m r s e rest = rest

own_coin : (o : OutPoint) (es : List (OutPoint × Held)) → keys_of es ≡ points (map made_at es) → held_in o es ≡ coin_among o (map made_at es)
own_coin o [] keys = refl
own_coin o (e ∷ es) keys =
    let k = same_head e.0 e.1.coin.coin (keys_of es) (points (map made_at es)) keys in
    ap (λ (p : OutPoint). option_map (λ (h : Held). h.coin) (cond (same_outpoint o p) (Some e.1) (lookup (same_outpoint o) es))) k.0
    ∙ held_by (same_outpoint o e.1.coin.coin) e.1 (made_at e) (lookup (same_outpoint o) es) (find (λ (m : Made). same_outpoint o m.coin.coin) (map made_at es)) refl (own_coin o es k.1)

coin_is : (o : OutPoint) (made : List Made) (es : List (OutPoint × Held)) → HoldsCoins made es → held_in o es ≡ coin_among o made
coin_is o made es h = own_coin o es (h.keys_are ∙ ap points (sym h.made_is)) ∙ ap (coin_among o) h.made_is

coin_or : (a b : Option Made) → option_map (λ (m : Made). m.coin) (option_or a b) ≡ option_or (option_map (λ (m : Made). m.coin) a) (option_map (λ (m : Made). m.coin) b)
coin_or None b = refl
coin_or (Some m) b = refl

pub coin_shown : (h : History) (es ps : List (OutPoint × Held)) (o : OutPoint) → HoldsCoins (confirmed_made h) es → HoldsCoins (pending_made h) ps → option_or (held_in o es) (held_in o ps) ≡ coin_under h o
unfolding made_of
coin_shown h es ps o c w =
    (λ k. option_or (coin_is o (confirmed_made h) es c k) (coin_is o (pending_made h) ps w k))
    ∙ sym (coin_or (find (λ (m : Made). same_outpoint o m.coin.coin) (confirmed_made h)) (find (λ (m : Made). same_outpoint o m.coin.coin) (pending_made h)))
    ∙ sym (ap (λ (f : Option Made). option_map (λ (m : Made). m.coin) f) (find-append (λ (m : Made). same_outpoint o m.coin.coin) (confirmed_made h) (pending_made h)))
