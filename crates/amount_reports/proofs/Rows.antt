-- Lines that begin with the same byte: the steps of the loop that reads them, and that they are read exactly.
use Rattle.std.proofs.Common.{◌≡◌, ℕ, zero, suc, ◌+◌, ◌-◌, ◌<◌, ◌≤◌, Bool, true, false, cond, List, [], ◌∷◌, ◌++◌, length, Result, Ok, Err, refl, sym, ap, subst, ◌∙◌, append_assoc, arith}
use Rattle.std.proofs.lemmas.List.{append-nil, length-append}
use Rattle.fund_base.specs.Parsing.{◌>>=◌}
use Rattle.fund_base.proofs.Laws.{bind_ok}
use Rattle.closing_log.specs.LogText.{AreJoined}
use Rattle.closing_log.proofs.Exactness.{Held}
use Rattle.fund_report.specs.declared.report.InLine.{InLine}
use Rattle.amount_reports.specs.Reading.{begins, in_at, pay_at, rows_from}

-- ---- the steps of the loops

step_down : (count i : ℕ) → i < count → count - i ≡ suc (count - (i + 1))
step_down count i lt = omega arith

rows_more : {X : Type 0} (lead : ℕ) (row : ℕ → List ℕ → Result (X × List ℕ) (List ℕ)) (count i : ℕ) (done : List X) (rest : List ℕ) (x : X) (after : List ℕ) → i < count → begins lead rest ≡ true → row (length done) rest ≡ Ok (x, after)
    → rows_from lead row (count - (i + 1)) (done ++ x ∷ []) after ≡ rows_from lead row (count - i) done rest
unfolding rows_from
rows_more lead row count i done rest x after lt here read = rw (step_down count i lt, here, read) refl

rows_fail : {X : Type 0} (lead : ℕ) (row : ℕ → List ℕ → Result (X × List ℕ) (List ℕ)) (count i : ℕ) (done : List X) (rest stop : List ℕ) → i < count → begins lead rest ≡ true → row (length done) rest ≡ Err stop → rows_from lead row (count - i) done rest ≡ Err stop
unfolding rows_from
rows_fail lead row count i done rest stop lt here read = rw (step_down count i lt, here, read) refl

rows_other : {X : Type 0} (lead : ℕ) (row : ℕ → List ℕ → Result (X × List ℕ) (List ℕ)) (turns : ℕ) (done : List X) (rest : List ℕ) → begins lead rest ≡ false → rows_from lead row turns done rest ≡ Ok (done, rest)
unfolding rows_from
rows_other lead row zero done rest other = refl
rows_other lead row (suc turns) done rest other = rw other refl

rows_out : {X : Type 0} (lead : ℕ) (row : ℕ → List ℕ → Result (X × List ℕ) (List ℕ)) (count i : ℕ) (done : List X) (rest : List ℕ) → count ≤ i → rows_from lead row (count - i) done rest ≡ Ok (done, rest)
unfolding rows_from
rows_out lead row count i done rest le = let k : count - i ≡ 0 = omega arith in rw k refl

-- those over coins
pub ins_more : (count i : ℕ) (done : List InLine) (rest : List ℕ) (l : InLine) (after : List ℕ) → i < count → begins 105 rest ≡ true → in_at rest ≡ Ok (l, after)
    → rows_from 105 (λ place. in_at) (count - (i + 1)) (done ++ l ∷ []) after ≡ rows_from 105 (λ place. in_at) (count - i) done rest
ins_more count i done rest l after lt here read = rows_more 105 (λ place. in_at) count i done rest l after lt here read

pub ins_fail : (count i : ℕ) (done : List InLine) (rest stop : List ℕ) → i < count → begins 105 rest ≡ true → in_at rest ≡ Err stop → rows_from 105 (λ place. in_at) (count - i) done rest ≡ Err stop
ins_fail count i done rest stop lt here read = rows_fail 105 (λ place. in_at) count i done rest stop lt here read

pub ins_other : (turns : ℕ) (done : List InLine) (rest : List ℕ) → begins 105 rest ≡ false → rows_from 105 (λ place. in_at) turns done rest ≡ Ok (done, rest)
ins_other turns done rest other = rows_other 105 (λ place. in_at) turns done rest other

pub ins_out : (count i : ℕ) (done : List InLine) (rest : List ℕ) → count ≤ i → rows_from 105 (λ place. in_at) (count - i) done rest ≡ Ok (done, rest)
ins_out count i done rest le = rows_out 105 (λ place. in_at) count i done rest le

-- and over recipients
pub pays_more : (count i : ℕ) (done : List ℕ) (rest : List ℕ) (amount : ℕ) (after : List ℕ) → i < count → begins 112 rest ≡ true → pay_at (length done) rest ≡ Ok (amount, after)
    → rows_from 112 pay_at (count - (i + 1)) (done ++ amount ∷ []) after ≡ rows_from 112 pay_at (count - i) done rest
pays_more count i done rest amount after lt here read = rows_more 112 pay_at count i done rest amount after lt here read

pub pays_fail : (count i : ℕ) (done : List ℕ) (rest stop : List ℕ) → i < count → begins 112 rest ≡ true → pay_at (length done) rest ≡ Err stop → rows_from 112 pay_at (count - i) done rest ≡ Err stop
pays_fail count i done rest stop lt here read = rows_fail 112 pay_at count i done rest stop lt here read

pub pays_other : (turns : ℕ) (done : List ℕ) (rest : List ℕ) → begins 112 rest ≡ false → rows_from 112 pay_at turns done rest ≡ Ok (done, rest)
pays_other turns done rest other = rows_other 112 pay_at turns done rest other

pub pays_out : (count i : ℕ) (done : List ℕ) (rest : List ℕ) → count ≤ i → rows_from 112 pay_at (count - i) done rest ≡ Ok (done, rest)
pays_out count i done rest le = rows_out 112 pay_at count i done rest le

-- ---- read exactly

-- lines of these values, one after the other, the first at this place
abbrev pub AreRows : {X : Type 0} → (ℕ → List ℕ → X → Type 0) → ℕ → List X → List ℕ → Type 0
AreRows Row place [] text = text ≡ []
AreRows Row place (x ∷ xs) text = AreJoined (λ front. Row place front x) (AreRows Row (suc place) xs) text

-- What a line is read by is exact, and each line begins with the byte.
pub record IsRow {X : Type 0} (lead : ℕ) (row : ℕ → List ℕ → Result (X × List ℕ) (List ℕ)) (Row : ℕ → List ℕ → X → Type 0) : Type 0 where
  pub takes : (place : ℕ) (bytes : List ℕ) (x : X × List ℕ) → row place bytes ≡ Ok x → Held (Row place) bytes x
  pub again : (place : ℕ) (text rest : List ℕ) (x : X) → Row place text x → row place (text ++ rest) ≡ Ok (x, rest)
  pub led : (place : ℕ) (text : List ℕ) (x : X) → Row place text x → (more : List ℕ) → begins lead (text ++ more) ≡ true

-- what reading lines gives: so many more, and their text
pub record AreMore {X : Type 0} (Row : ℕ → List ℕ → X → Type 0) (done : List X) (bytes : List ℕ) (x : List X × List ℕ) : Type 0 where
  pub news : List X
  pub text : List ℕ
  pub whole : x.0 ≡ done ++ news
  pub parts : bytes ≡ text ++ x.1
  pub rows : AreRows Row (length done) news text

one_longer : {X : Type 0} (done : List X) (x : X) → length (done ++ x ∷ []) ≡ suc (length done)
one_longer done x = omega (arith, length-append done (x ∷ []))

nothing_more : {X : Type 0} (Row : ℕ → List ℕ → X → Type 0) (done : List X) (bytes : List ℕ) (x : List X × List ℕ) → (done, bytes) ≡ x → AreMore Row done bytes x
nothing_more {X = X} Row done bytes x same =
    subst (λ (z : List X × List ℕ). AreMore Row done bytes z) same (record { news = []; text = []; whole = sym (append-nil done); parts = refl; rows = refl })

pub rows_take : {X : Type 0} (lead : ℕ) (row : ℕ → List ℕ → Result (X × List ℕ) (List ℕ)) (Row : ℕ → List ℕ → X → Type 0) → IsRow lead row Row → (turns : ℕ) (done : List X) (bytes : List ℕ) (x : List X × List ℕ) → rows_from lead row turns done bytes ≡ Ok x → AreMore Row done bytes x
unfolding rows_from
rows_take lead row Row law zero done bytes x e = nothing_more Row done bytes x (let same : (done, bytes) ≡ x = cc in same)
rows_take {X = X} lead row Row law (suc turns) done bytes x e = by (λ y is. rows_take lead row Row law turns (done ++ y.0 ∷ []) y.1 x is) (begins lead bytes) e
  where
    by : ((y : X × List ℕ) → rows_from lead row turns (done ++ y.0 ∷ []) y.1 ≡ Ok x → AreMore Row (done ++ y.0 ∷ []) y.1 x) → (b : Bool)
        → cond {A = Result (List X × List ℕ) (List ℕ)} b (row (length done) bytes >>= λ y. rows_from lead row turns (done ++ y.0 ∷ []) y.1) (Ok (done, bytes)) ≡ Ok x → AreMore Row done bytes x
    by others false same = nothing_more Row done bytes x (let it : (done, bytes) ≡ x = cc in it)
    by others true same =
        let found = bind_ok (row (length done) bytes) (λ y. rows_from lead row turns (done ++ y.0 ∷ []) y.1) x same in
        let y = found.0 in
        let h = law.takes (length done) bytes y found.1 in
        let more = others y found.2 in
        record {
          news = y.0 ∷ more.news;
          text = h.text ++ more.text;
          whole = more.whole ∙ append_assoc done (y.0 ∷ []) more.news;
          parts = h.parts ∙ ap (λ t. h.text ++ t) more.parts ∙ sym (append_assoc h.text more.text x.1);
          rows = record { front = h.text; back = more.text; parts = refl; first = h.means; others = subst (λ (n : ℕ). AreRows Row n more.news more.text) (one_longer done y.0) more.rows };
        }

some_of : (lead : ℕ) (text : List ℕ) → begins lead (text ++ []) ≡ true → 1 ≤ length text
some_of lead [] is = absurd cc
some_of lead (b ∷ text) is = omega arith

pub rows_again : {X : Type 0} (lead : ℕ) (row : ℕ → List ℕ → Result (X × List ℕ) (List ℕ)) (Row : ℕ → List ℕ → X → Type 0) → IsRow lead row Row → (turns : ℕ) (done news : List X) (text rest : List ℕ) → AreRows Row (length done) news text → begins lead rest ≡ false → length text ≤ turns → rows_from lead row turns done (text ++ rest) ≡ Ok (done ++ news, rest)
unfolding rows_from
rows_again {X = X} lead row Row law zero done [] text rest rows other le = ap (λ (t : List ℕ). Ok (done, t ++ rest)) rows ∙ ap (λ (d : List X). Ok (d, rest)) (sym (append-nil done))
rows_again {X = X} lead row Row law (suc turns) done [] text rest rows other le =
    let here : begins lead (text ++ rest) ≡ false = ap (λ t. begins lead (t ++ rest)) rows ∙ other in
    rw here (ap (λ (t : List ℕ). Ok (done, t ++ rest)) rows ∙ ap (λ (d : List X). Ok (d, rest)) (sym (append-nil done)))
rows_again lead row Row law zero done (x ∷ news) text rest rows other le =
    absurd (omega (arith, le, some_of lead rows.front (law.led (length done) rows.front x rows.first []), ap length rows.parts, length-append rows.front rows.back))
rows_again {X = X} lead row Row law (suc turns) done (x ∷ news) text rest rows other le =
    let whole : text ++ rest ≡ rows.front ++ (rows.back ++ rest) = ap (λ t. t ++ rest) rows.parts ∙ append_assoc rows.front rows.back rest in
    let here : begins lead (text ++ rest) ≡ true = ap (begins lead) whole ∙ law.led (length done) rows.front x rows.first (rows.back ++ rest) in
    let read : row (length done) (text ++ rest) ≡ Ok (x, rows.back ++ rest) = ap (row (length done)) whole ∙ law.again (length done) rows.front (rows.back ++ rest) x rows.first in
    let less : length rows.back ≤ turns = omega (arith, le, some_of lead rows.front (law.led (length done) rows.front x rows.first []), ap length rows.parts, length-append rows.front rows.back) in
    let others : AreRows Row (length (done ++ x ∷ [])) news rows.back = subst (λ (n : ℕ). AreRows Row n news rows.back) (sym (one_longer done x)) rows.others in
    rw (here, read) (rows_again lead row Row law turns (done ++ x ∷ []) news rows.back rest others other less ∙ ap (λ (d : List X). Ok (d, rest)) (append_assoc done (x ∷ []) news))
