-- Inputs show their coins, one after another.
use Rattle.std.specs.Prelude.{ℕ, ◌≡◌, ◌<◌, ◌≤◌, ◌+◌, ◌↔◌, List, [], ◌∷◌, length}
use Rattle.std.specs.List.{AllZip}
use Rattle.std.proofs.Common.{refl, sym, ap, subst, ◌∙◌, arith, drop, get_or}
use Rattle.std.proofs.lemmas.List.{drop_all}
use Rattle.coin_candidates.specs.declared.candidate.Candidate.{Candidate}
use Rattle.psbt_codec.specs.declared.psbt.Spent.{Spent}
use Rattle.tx_codec.specs.declared.tx.TxOut.{TxOut}
use Rattle.report_check.specs.Payment.{Shows, output_of}
use Rattle.report_check.proofs.SliceLaws.{drop_step}

abbrev pub AreShown : List Candidate → List Spent → Type 0
AreShown coins spent = AllZip Shows coins spent

-- an output is told by its value and its script
pub same_output : (c : Candidate) (o : TxOut) → o.value ≡ c.value → o.script ≡ c.script → o ≡ output_of c
same_output c o v s =
    let by_value : ℕ → TxOut = λ n. record { value = n; script = o.script } in
    let by_script : List ℕ → TxOut = λ b. record { value = c.value; script = b } in
    ap by_value v ∙ ap by_script s

pub both_longer : (coins : List Candidate) (spent : List Spent) → AreShown coins spent → length coins ≡ length spent
both_longer [] [] h = refl
both_longer [] (s ∷ ss) h = absurd h
both_longer (c ∷ cs) [] h = absurd h
both_longer (c ∷ cs) (s ∷ ss) h = let more = both_longer cs ss h.1 in omega (arith, more)

pub shown_next : (coins : List Candidate) (spent : List Spent) (i : ℕ) (c : Candidate) (s : Spent) → i < length coins → c ≡ get_or coins i c → i < length spent → s ≡ get_or spent i s → (AreShown (drop i coins) (drop i spent) ↔ AreShown coins spent) → Shows c s → (AreShown (drop (i + 1) coins) (drop (i + 1) spent) ↔ AreShown coins spent)
shown_next coins spent i c s below is beneath too h shows =
    let first = drop_step coins i c below is in
    let second = drop_step spent i s beneath too in (
      λ k. h.0 (subst (λ (cs : List Candidate). AreShown cs (drop i spent)) (sym first) (subst (AreShown (c ∷ drop (i + 1) coins)) (sym second) (shows, k))),
      λ k. (subst (AreShown (c ∷ drop (i + 1) coins)) second (subst (λ (cs : List Candidate). AreShown cs (drop i spent)) first (h.1 k))).1,
    )

pub shown_halt : (coins : List Candidate) (spent : List Spent) (i : ℕ) (c : Candidate) (s : Spent) → i < length coins → c ≡ get_or coins i c → i < length spent → s ≡ get_or spent i s → (AreShown (drop i coins) (drop i spent) ↔ AreShown coins spent) → (Shows c s → ⊥) → AreShown coins spent → ⊥
shown_halt coins spent i c s below is beneath too h apart k =
    apart (subst (AreShown (c ∷ drop (i + 1) coins)) (drop_step spent i s beneath too) (subst (λ (cs : List Candidate). AreShown cs (drop i spent)) (drop_step coins i c below is) (h.1 k))).0

pub shown_over : (coins : List Candidate) (spent : List Spent) (i : ℕ) → length coins ≤ i → length coins ≡ length spent → (AreShown (drop i coins) (drop i spent) ↔ AreShown coins spent) → AreShown coins spent
shown_over coins spent i end same h =
    h.0 (subst (λ (cs : List Candidate). AreShown cs (drop i spent)) (sym (drop_all i coins end)) (subst (AreShown []) (sym (drop_all i spent (omega (arith, end, same)))) tt))
