-- A coin has a height exactly where its txid has.
use Rattle.std.proofs.Common.{◌≡◌, ◌∙◌, ℕ, Bool, true, false, List, filter, Option, Some, None, All, Contains, refl, sym, ap}
use Rattle.std.specs.Prelude.{bytes_eq, find, is_none, is_some, option_map}
use Rattle.std.proofs.lemmas.List.Elements.{All-append, All-contains, All-contains_itself, All-map, All-weaker, filter_passes}
use Rattle.std.proofs.lemmas.Slice.Eq.{bytes_eq-Decides}
use Rattle.tx_codec.specs.Transaction.{Transaction}
use Rattle.tx_codec.specs.Txid.{txid_of}
use Rattle.coin_book.proofs.OutputSteps.{coins_are}
use Rattle.coin_book.specs.Coins.{Made, coins_of, confirmed_made, is_open, made_by, made_in, made_of, pending_made, weight_for}
use Rattle.coin_book.specs.History.{Confirmed, History}
use Rattle.coin_book.specs.Spends.{height_of}
use Rattle.coin_book.specs.declared.coin.Coin.{Coin}
use Rattle.payment_states.proofs.FitSteps.{all_flat, some_find}
use Rattle.payment_states.proofs.Mine.{map_some}
use Rattle.payment_states.proofs.Paths.{any_has}

abbrev pub TellsHeight : History → Made → Type 0
TellsHeight h m = is_none (height_of h.confirmed m.coin.coin.txid) ≡ is_none m.coin.height

each : (h : History) (weigh : List ℕ → Option ℕ) (height : Option ℕ) (t : Transaction) → is_none (height_of h.confirmed (txid_of t)) ≡ is_none height → All (TellsHeight h) (made_in weigh height t)
each h weigh height t same =
    All-weaker (Contains (made_in weigh height t)) (TellsHeight h)
    (λ m there. let f = (coins_are weigh height t m).0 there in
    ap (λ (txid : List ℕ). is_none (height_of h.confirmed txid)) (sym f.txid) ∙ same ∙ ap (λ (o : Option ℕ). is_none o) f.height_is)
    (made_in weigh height t) (All-contains_itself (made_in weigh height t))

some_not_none : {X : Type 0} (r : Option X) → is_some r ≡ true → is_none r ≡ false
some_not_none None e = sym e
some_not_none (Some x) e = refl

confirmed_has : (chain : List Confirmed) (c : Confirmed) → Contains chain c → is_none (height_of chain (txid_of c.tx)) ≡ false
unfolding height_of
confirmed_has chain c there =
    let same : Confirmed → Bool = λ d. bytes_eq (txid_of d.tx) (txid_of c.tx) in
    some_not_none (option_map (λ (d : Confirmed). d.height) (find same chain))
    (map_some (λ (d : Confirmed). d.height) (find same chain) ∙ some_find same chain ∙ any_has same chain c there ((bytes_eq-Decides (txid_of c.tx) (txid_of c.tx)).1 refl))

pub all_tell : (h : History) → All (TellsHeight h) (made_of h)
unfolding made_of
all_tell h =
    let weigh = weight_for h.scripts in
    let open_ones = filter (is_open h.confirmed) h.pending in
    All-append (TellsHeight h) (confirmed_made h) (pending_made h)
    (all_flat (TellsHeight h) (made_by weigh) h.confirmed (λ c there. each h weigh (Some c.height) c.tx (confirmed_has h.confirmed c there)))
    (all_flat (TellsHeight h) (made_in weigh None) open_ones
    (λ t there. each h weigh None t (All-contains (λ (t : Transaction). is_open h.confirmed t ≡ true) open_ones t (filter_passes (is_open h.confirmed) h.pending) there)))

-- the same of the coins
abbrev pub TellsTxid : History → Coin → Type 0
TellsTxid h c = is_none (height_of h.confirmed c.coin.txid) ≡ is_none c.height

pub coins_tell : (h : History) → All (TellsTxid h) (coins_of h)
coins_tell h = All-map (TellsTxid h) (λ (m : Made). m.coin) (made_of h) (all_tell h)
