-- Coins are looked up one after another.
use Rattle.std.specs.Prelude.{ℕ, ◌≡◌, ◌≢◌, ◌⊎◌, ◌<◌, ◌≤◌, ◌+◌, cond, Bool, true, false, List, [], ◌∷◌, ◌++◌, length, take, All, AllPairs, Contains, Option, Some, None, option_copied}
use Rattle.std.specs.List.{AllZip}
use Rattle.std.specs.Map.{lookup}
use Rattle.std.specs.Borrow.{Bor}
use Rattle.std.specs.Slice.{IsItemAt}
use Rattle.std.proofs.Common.{refl, sym, ap, subst, inl, inr, ◌∙◌, arith, drop, get_or}
use Rattle.std.proofs.lemmas.Bool.{both_ways}
use Rattle.std.proofs.lemmas.List.{drop_all, take-append-drop, take_all, take_more}
use Rattle.std.proofs.lemmas.List.Elements.{All-cons, All-nil}
use Rattle.std.proofs.lemmas.Option.{get_or_from_slice_get, slice_get_read, slice_get_within}
use Rattle.fund_base.proofs.Lists.{cons_cases}
use Rattle.fund_base.proofs.OutpointLaws.{same_outpoint-Decides}
use Rattle.fund_base.specs.Outpoints.{same_outpoint}
use Rattle.coin_candidates.specs.declared.candidate.Candidate.{Candidate}
use Rattle.fund_base.specs.declared.outpoint.OutPoint.{OutPoint}
use Rattle.output_groups.proofs.Members.{none_in}
use Rattle.output_groups.proofs.PlaceLaws.{one_coin}
use Rattle.output_groups.specs.Ladder.{Meets}
use Rattle.output_groups.specs.declared.rows.Row.{Row}
use Rattle.tx_codec.specs.declared.tx.TxIn.{TxIn}
use Rattle.report_check.specs.Finding.{CanTake, IsCoinAt, IsFirstUntaken, IsPlaceAt, IsTakenAt, NoneAt, Takes}
use Rattle.report_check.proofs.SliceLaws.{drop_step}

-- ---- one coin

find_next : (coins : List Candidate) (point : OutPoint) (i : ℕ) (c : Candidate) → i < length coins → c ≡ get_or coins i c → (NoneAt (drop i coins) point → NoneAt coins point) → c.coin ≢ point → NoneAt (drop (i + 1) coins) point → NoneAt coins point
find_next coins point i c below is h apart none =
    h (subst (λ (cs : List Candidate). NoneAt cs point) (sym (drop_step coins i c below is)) (λ d there. others d (cons_cases c (drop (i + 1) coins) d there)))
  where
    others : (d : Candidate) → (c ≡ d) ⊎ Contains (drop (i + 1) coins) d → d.coin ≢ point
    others d (inl e) = subst (λ (x : Candidate). x.coin ≢ point) e apart
    others d (inr later) = none d later

find_over : (coins : List Candidate) (point : OutPoint) (i : ℕ) → length coins ≤ i → (NoneAt (drop i coins) point → NoneAt coins point) → NoneAt coins point
find_over coins point i end h = h (subst (λ (cs : List Candidate). NoneAt cs point) (sym (drop_all i coins end)) (λ c there. absurd (none_in c there)))

-- what an outpoint is found by, once the coins before an index are put: a coin's place, or that none of those is at it
abbrev pub IsPlaceSoFar : List Candidate → ℕ → OutPoint → Option ℕ → Type 0
IsPlaceSoFar coins i point (Some k) = IsPlaceAt coins point (Some k)
IsPlaceSoFar coins i point None = NoneAt (drop i coins) point → NoneAt coins point

pub place_first : (coins : List Candidate) (point : OutPoint) (entries : List (OutPoint × ℕ)) → entries ≡ [] → IsPlaceSoFar coins 0 point (lookup (same_outpoint point) entries)
place_first coins point entries e = subst (λ (es : List (OutPoint × ℕ)). IsPlaceSoFar coins 0 point (lookup (same_outpoint point) es)) (sym e) (λ none. none)

pub place_next : (coins : List Candidate) (point : OutPoint) (i : ℕ) (c : Candidate) (old new : Option ℕ) → i < length coins → c ≡ get_or coins i c → new ≡ cond (same_outpoint (get_or coins i c).coin point) (Some i) old → IsPlaceSoFar coins i point old → IsPlaceSoFar coins (i + 1) point new
place_next coins point i c old new below is put h =
    let put_is : new ≡ cond (same_outpoint c.coin point) (Some i) old = put ∙ ap (λ (d : Candidate). cond (same_outpoint d.coin point) (Some i) old) (sym is) in
    subst (IsPlaceSoFar coins (i + 1) point) (sym put_is) (by (same_outpoint c.coin point) refl old h)
  where
    by : (b : Bool) → same_outpoint c.coin point ≡ b → (o : Option ℕ) → IsPlaceSoFar coins i point o → IsPlaceSoFar coins (i + 1) point (cond b (Some i) o)
    by true same o k = (c, slice_get_read coins (length coins) i c refl below is, (same_outpoint-Decides c.coin point).0 same)
    by false other (Some j) k = k
    by false other None k = find_next coins point i c below is k (λ e. both_ways (same_outpoint c.coin point) other ((same_outpoint-Decides c.coin point).1 e))

pub place_over : (coins : List Candidate) (point : OutPoint) (i : ℕ) (o : Option ℕ) → length coins ≤ i → IsPlaceSoFar coins i point o → IsPlaceAt coins point o
place_over coins point i (Some k) end h = h
place_over coins point i None end h = find_over coins point i end h

-- the coin at the place that was found
pub found_at : (coins : List Candidate) (point : OutPoint) (k : ℕ) (coin : Option (Bor Candidate)) → IsItemAt coins k coin → IsPlaceAt coins point (Some k) → IsCoinAt coins point (option_copied coin)
found_at coins point k None h (c, is, at) = absurd (omega (arith, h.3, slice_get_within coins k c is))
found_at coins point k (Some x) h (c, is, at) =
    let same : x.now ≡ c = h.1 ∙ get_or_from_slice_get coins k c x.now is in
    ((k, h.3.0, sym h.1), ap (λ (d : Candidate). d.coin) same ∙ at)

-- ---- one that may be spent

pub taken_preset : (presets rest : List Candidate) (row : Option Row) (point : OutPoint) (c : Candidate) → IsCoinAt presets point (Some c) → IsTakenAt presets rest row point (Some c)
taken_preset presets rest row point c h = (inl h.0, h.1)

pub taken_other : (presets rest : List Candidate) (row : Row) (point : OutPoint) (c : Candidate) → IsCoinAt rest point (Some c) → Meets row c → IsTakenAt presets rest (Some row) point (Some c)
taken_other presets rest row point c h meets = (inr (h.0, (row, refl, meets)), h.1)

pub no_row : (presets rest : List Candidate) (point : OutPoint) → NoneAt presets point → IsTakenAt presets rest None point None
no_row presets rest point none c (inl preset) = none c preset
no_row presets rest point none c (inr (there, (r, is, meets))) = absurd (cc)

pub no_coin : (presets rest : List Candidate) (row : Option Row) (point : OutPoint) → NoneAt presets point → NoneAt rest point → IsTakenAt presets rest row point None
no_coin presets rest row point none neither c (inl preset) = none c preset
no_coin presets rest row point none neither c (inr (there, meets)) = neither c there

pub not_met : (presets rest : List Candidate) (row : Row) (point : OutPoint) (c : Candidate) → AllPairs (λ (a b : Candidate). a.coin ≢ b.coin) rest → NoneAt presets point → IsCoinAt rest point (Some c) → (Meets row c → ⊥) → IsTakenAt presets rest (Some row) point None
not_met presets rest row point c apart none at fails d (inl preset) same = none d preset same
not_met presets rest row point c apart none at fails d (inr (there, (r, is, meets))) same =
    let one : d ≡ c = one_coin rest d c apart there at.0 (same ∙ sym at.1) in
    let row_is : r ≡ row = cc in
    fails (subst (Meets row) one (subst (λ (x : Row). Meets x d) row_is meets))

-- ---- coin by coin

pub take_next : (presets rest : List Candidate) (row : Option Row) (inputs : List TxIn) (i : ℕ) (x : TxIn) (old new : List Candidate) (c : Candidate) → i < length inputs → x ≡ get_or inputs i x → AllZip (Takes presets rest row) (take i inputs) old → Takes presets rest row x c → new ≡ old ++ c ∷ [] → AllZip (Takes presets rest row) (take (i + 1) inputs) new
take_next presets rest row inputs i x old new c below is h k e =
    let front : take (i + 1) inputs ≡ take i inputs ++ x ∷ [] = take_more inputs i x below ∙ ap (λ (y : TxIn). take i inputs ++ y ∷ []) (sym is) in
    subst (λ (xs : List TxIn). AllZip (Takes presets rest row) xs new) (sym front) (subst (AllZip (Takes presets rest row) (take i inputs ++ x ∷ [])) (sym e) (pushed (take i inputs) old h))
  where
    pushed : (xs : List TxIn) (cs : List Candidate) → AllZip (Takes presets rest row) xs cs → AllZip (Takes presets rest row) (xs ++ x ∷ []) (cs ++ c ∷ [])
    pushed [] [] h = (k, tt)
    pushed [] (d ∷ cs) h = absurd h
    pushed (y ∷ xs) [] h = absurd h
    pushed (y ∷ xs) (d ∷ cs) h = (h.0, pushed xs cs h.1)

pub take_over : (presets rest : List Candidate) (row : Option Row) (inputs : List TxIn) (i : ℕ) (coins : List Candidate) → length inputs ≤ i → AllZip (Takes presets rest row) (take i inputs) coins → AllZip (Takes presets rest row) inputs coins
take_over presets rest row inputs i coins end h = subst (λ (xs : List TxIn). AllZip (Takes presets rest row) xs coins) (take_all i inputs end) h

all_can : (presets rest : List Candidate) (row : Option Row) (xs : List TxIn) (cs : List Candidate) → AllZip (Takes presets rest row) xs cs → All (CanTake presets rest row) xs
all_can presets rest row [] [] h = All-nil (CanTake presets rest row)
all_can presets rest row [] (c ∷ cs) h = absurd h
all_can presets rest row (x ∷ xs) [] h = absurd h
all_can presets rest row (x ∷ xs) (c ∷ cs) h = All-cons (CanTake presets rest row) x xs (c, h.0) (all_can presets rest row xs cs h.1)

pub take_halt : (presets rest : List Candidate) (row : Option Row) (inputs : List TxIn) (i : ℕ) (x : TxIn) (coins : List Candidate) → i < length inputs → x ≡ get_or inputs i x → AllZip (Takes presets rest row) (take i inputs) coins → IsTakenAt presets rest row x.prev None → IsFirstUntaken presets rest row inputs x.prev
take_halt presets rest row inputs i x coins below is h none = record {
  front = take i inputs;
  input = x;
  back = drop (i + 1) inputs;
  parts = sym (take-append-drop i inputs) ∙ ap (λ (xs : List TxIn). take i inputs ++ xs) (drop_step inputs i x below is);
  before = all_can presets rest row (take i inputs) coins h;
  point_is = refl;
  none = none;
}
