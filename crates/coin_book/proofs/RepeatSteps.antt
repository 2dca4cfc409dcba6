-- A history has no fault exactly where no outpoint is a confirmed coin twice and the coins are within the most.
use Rattle.std.proofs.Common.{◌≡◌, ◌≢◌, ◌∙◌, ℕ, ◌+◌, ◌<◌, ◌≤◌, Bool, true, false, cond, List, [], ◌∷◌, ◌++◌, length, get_or, Some, None, refl, sym, ap, subst, append_assoc, arith, true≢false}
use Rattle.std.specs.Prelude.{nat_lt, ◌↔◌}
use Rattle.std.specs.List.{AllPairs, Any, list_any}
use Rattle.std.proofs.Math.ListN.{get_or-append}
use Rattle.std.proofs.Math.Seq.{get_or-append_seam}
use Rattle.std.proofs.lemmas.Bool.{lt-ltb}
use Rattle.std.proofs.lemmas.List.{append-nil, get_or_default, length-append, length-map}
use Rattle.std.proofs.lemmas.List.Folds.{Any-from_list_any, list_any_at}
use Rattle.std.proofs.lemmas.List.Quantifiers.{all_pairs_push}
use Rattle.fund_base.specs.Outpoints.{same_outpoint}
use Rattle.fund_base.specs.declared.outpoint.OutPoint.{OutPoint}
use Rattle.fund_base.proofs.OutpointLaws.{same_outpoint-Decides}
use Rattle.coin_book.specs.Coins.{Made, coins_of, confirmed_made, made_of, pending_made}
use Rattle.coin_book.specs.Faults.{fault_behind, fault_of, points}
use Rattle.coin_book.specs.History.{History}
use Rattle.coin_book.specs.Repeats.{AreApart}
use Rattle.coin_book.specs.declared.fault.BookFault.TheVariants.{Full, RepeatCoin}
use Rattle.coin_book.proofs.FaultSteps.{fault_rest, room_for, sound_confirmed, sound_count}

-- an outpoint that isn't found among others is none of them
pub other : (before : List OutPoint) (o : OutPoint) → list_any (same_outpoint o) before ≡ false → (k : ℕ) (d : OutPoint) → k < length before → get_or before k d ≢ o
other before o none k d lt same =
    true≢false (sym (list_any_at (same_outpoint o) before k d lt ((same_outpoint-Decides o (get_or before k d)).1 (sym same))) ∙ none)

pub apart_behind : (before os : List OutPoint) → AreApart before → fault_behind before os ≡ None → AreApart (before ++ os)
unfolding fault_behind
apart_behind before [] apart is = subst AreApart (sym (append-nil before)) apart
apart_behind before (o ∷ os) apart is =
    by (list_any (same_outpoint o) before) (nat_lt (length before) 100_000) refl is
    (λ e rest. apart_behind (before ++ o ∷ []) os (all_pairs_push (λ (a b : OutPoint). a ≢ b) before o apart (other before o e)) rest)
  where
    by : (b room : Bool) → list_any (same_outpoint o) before ≡ b → cond b (Some (RepeatCoin o)) (cond room (fault_behind (before ++ o ∷ []) os) (Some Full)) ≡ None
        → (list_any (same_outpoint o) before ≡ false → fault_behind (before ++ o ∷ []) os ≡ None → AreApart ((before ++ o ∷ []) ++ os)) → AreApart (before ++ o ∷ os)
    by true room e is next = absurd cc
    by false false e is next = absurd cc
    by false true e is next = subst AreApart (append_assoc before (o ∷ []) os) (next e is)

-- an outpoint apart from those before it isn't found among them
not_found : (before os : List OutPoint) (o : OutPoint) → AreApart (before ++ o ∷ os) → list_any (same_outpoint o) before ≡ false
not_found before os o apart = by (list_any (same_outpoint o) before) refl
  where
    at : Any (λ (p : OutPoint). same_outpoint o p ≡ true) before → ⊥
    at any =
        let lt = any.2 in
        let m = length-append before (o ∷ os) in
        apart any.0 (length before) o lt (omega arith)
        (get_or-append before (o ∷ os) o any.0 lt ∙ get_or_default before any.0 o any.1 lt ∙ any.3 ∙ sym ((same_outpoint-Decides o any.1).0 any.4) ∙ sym (get_or-append_seam before o os o))

    by : (b : Bool) → list_any (same_outpoint o) before ≡ b → list_any (same_outpoint o) before ≡ false
    by false e = e
    by true e = absurd (at (Any-from_list_any (same_outpoint o) before e))

none_behind : (before os : List OutPoint) → AreApart (before ++ os) → length before + length os ≤ 100_000 → fault_behind before os ≡ None
unfolding fault_behind
none_behind before [] apart le = refl
none_behind before (o ∷ os) apart le =
    let n = length-append before (o ∷ []) in
    ap (λ (b : Bool). cond b (Some (RepeatCoin o)) (cond (nat_lt (length before) 100_000) (fault_behind (before ++ o ∷ []) os) (Some Full))) (not_found before os o apart)
    ∙ ap (λ (b : Bool). cond b (fault_behind (before ++ o ∷ []) os) (Some Full)) (lt-ltb (length before) 100_000 (omega arith))
    ∙ none_behind (before ++ o ∷ []) os (subst AreApart (sym (append_assoc before (o ∷ []) os)) apart) (omega arith)

-- the coins are the confirmed ones and those that wait
pub coin_count : (h : History) → length (coins_of h) ≡ length (confirmed_made h) + length (pending_made h)
unfolding made_of
coin_count h = length-map (made_of h) (λ (m : Made). m.coin) ∙ length-append (confirmed_made h) (pending_made h)

pub no_fault : (h : History) → (fault_of h ≡ None) ↔ (AllPairs (λ (a b : OutPoint). a ≢ b) (points (confirmed_made h)) × (length (coins_of h) ≤ 100_000))
no_fault h = (there, back)
  where
    there : fault_of h ≡ None → AllPairs (λ (a b : OutPoint). a ≢ b) (points (confirmed_made h)) × (length (coins_of h) ≤ 100_000)
    there is =
        let n = coin_count h in
        let m = sound_count h is in
        (apart_behind [] (points (confirmed_made h)) (λ i j d lt below. absurd (omega arith)) (sound_confirmed h is), omega arith)

    back : AllPairs (λ (a b : OutPoint). a ≢ b) (points (confirmed_made h)) × (length (coins_of h) ≤ 100_000) → fault_of h ≡ None
    back h2 =
        let n = coin_count h in
        let le = h2.1 in
        let m = length-map (confirmed_made h) (λ (m : Made). m.coin.coin) in
        fault_rest h (none_behind [] (points (confirmed_made h)) h2.0 (omega arith)) ∙ room_for (length (confirmed_made h) + length (pending_made h)) (omega arith)
