-- The search of rows, one row after another.
use Rattle.std.specs.Prelude.{ℕ, ◌≡◌, ◌≤◌, ◌<◌, ◌+◌, ◌-◌, Bool, true, false, List, [], ◌∷◌, ◌++◌, drop, length, Option, Some, None, cond}
use Rattle.std.proofs.Common.{refl, sym, ap, ◌∙◌, arith, get_or, suc, add-one, drop-cons}
use Rattle.std.proofs.Math.ListN.{drop_of_length-le}
use Rattle.std.proofs.lemmas.List.{append-nil, append_assoc}
use Rattle.search_run.specs.Step.{PlainStep}
use Rattle.wide_search.specs.WideWalk.{Walk, walk}
use Rattle.wide_plan.specs.Rows.{PlainRows, PlainWideSection, behind, done_at, rows_after, section_at}
use Rattle.wide_plan.specs.Turns.{IsTurn, closed_by, end_of}
use Rattle.wide_plan.specs.declared.rows.RowsEnd.{RowsEnd}
use Rattle.wide_plan.specs.declared.rows.RowsEnd.TheVariants.{Found, Nothing, Open}

rows_are : (c d : List PlainWideSection) (e f : RowsEnd) (t u : ℕ) → c ≡ d → e ≡ f → t ≡ u → ◌≡◌ {A = PlainRows} (record { closed = c; end = e; tries = t }) (record { closed = d; end = f; tries = u })
rows_are c d e f t u cd ef tu =
    ap (λ (x : List PlainWideSection). record { closed = x; end = e; tries = t }) cd
    ∙ ap (λ (x : RowsEnd). record { closed = d; end = x; tries = t }) ef
    ∙ ap (λ (x : ℕ). record { closed = d; end = f; tries = x }) tu

-- behind nothing
pub behind_none : (r : PlainRows) → behind [] 0 r ≡ r
behind_none r = rows_are r.closed r.closed r.end r.end (0 + r.tries) r.tries refl refl (omega arith)

-- finished rows behind finished ones
behind_more : (closed more : List PlainWideSection) (n m : ℕ) (r : PlainRows) → behind (closed ++ more) (n + m) r ≡ behind closed n (behind more m r)
behind_more closed more n m r = rows_are ((closed ++ more) ++ r.closed) (closed ++ (more ++ r.closed)) r.end r.end ((n + m) + r.tries) (n + (m + r.tries)) (append_assoc closed more r.closed) refl (omega arith)

same_some : {X : Type 0} (x y : X) → ◌≡◌ {A = Option X} (Some x) (Some y) → x ≡ y
same_some x y e = cc

-- ---- a row that ends the search

ended_by : (x : PlainStep) (w : Walk) (rest : PlainRows) (closed closed' : List PlainWideSection) (before made : ℕ) (end : RowsEnd) (done : Bool) (best : Option (List ℕ)) → made ≡ w.tries → Some end ≡ end_of x.row done best → closed' ≡ closed_by x w done closed
    → ◌≡◌ {A = PlainRows} (record { closed = closed'; end = end; tries = before + made }) (behind closed before (cond done (done_at x w rest best) (record { closed = []; end = Open x.row best; tries = w.tries })))
ended_by x w rest closed closed' before made end false best m e c =
    rows_are closed' (closed ++ []) end (Open x.row best) (before + made) (before + w.tries) (c ∙ sym (append-nil closed)) (same_some end (Open x.row best) e) (ap (λ (n : ℕ). before + n) m)
ended_by x w rest closed closed' before made end true None m e c = absurd (let z = e in cc)
ended_by x w rest closed closed' before made end true (Some q) m e c =
    rows_are closed' (closed ++ section_at x w ∷ []) end (Found x.row q) (before + made) (before + w.tries) c (same_some end (Found x.row q) e) (ap (λ (n : ℕ). before + n) m)

pub row_ends : (x : PlainStep) (rest : List PlainStep) (n before made : ℕ) (closed closed' : List PlainWideSection) (end : RowsEnd) → IsTurn x n closed made (Some end) closed'
    → ◌≡◌ {A = PlainRows} (record { closed = closed'; end = end; tries = before + made }) (behind closed before (rows_after (x ∷ rest) n))
row_ends x rest n before made closed closed' end t =
    let w = walk x.problem n in
    ended_by x w (rows_after rest (n - w.tries)) closed closed' before made end w.done w.best t.made_is t.end_is t.closed_is

-- ---- a row after which it goes on

gone_by : (x : PlainStep) (w : Walk) (rest : PlainRows) (closed closed' : List PlainWideSection) (before : ℕ) (done : Bool) (best : Option (List ℕ)) → None ≡ end_of x.row done best → closed' ≡ closed_by x w done closed
    → behind closed' (before + w.tries) rest ≡ behind closed before (cond done (done_at x w rest best) (record { closed = []; end = Open x.row best; tries = w.tries }))
gone_by x w rest closed closed' before false best e c = absurd (let z = e in cc)
gone_by x w rest closed closed' before true None e c =
    ap (λ (l : List PlainWideSection). behind l (before + w.tries) rest) c ∙ behind_more closed (section_at x w ∷ []) before w.tries rest
gone_by x w rest closed closed' before true (Some q) e c = absurd (let z = e in cc)

pub row_goes : (x : PlainStep) (rest : List PlainStep) (n before made : ℕ) (closed closed' : List PlainWideSection) → IsTurn x n closed made None closed'
    → behind closed' (before + made) (rows_after rest (n - made)) ≡ behind closed before (rows_after (x ∷ rest) n)
row_goes x rest n before made closed closed' t =
    let w = walk x.problem n in
    ap (λ (m : ℕ). behind closed' (before + m) (rows_after rest (n - m))) t.made_is
    ∙ gone_by x w (rows_after rest (n - w.tries)) closed closed' before w.done w.best t.end_is t.closed_is

-- ---- the loop

-- what the first rows leave, and what the others come to behind that
pub record IsOn (old : List PlainWideSection) (steps : List PlainStep) (n : ℕ) (i : ℕ) (closed : List PlainWideSection) (made : ℕ) : Type 0 where
  pub most : made ≤ n
  pub goes : behind closed made (rows_after (drop i steps) (n - made)) ≡ behind old 0 (rows_after steps n)

pub begins : (old : List PlainWideSection) (steps : List PlainStep) (n : ℕ) → IsOn old steps n 0 old 0
begins old steps n = let e : n - 0 ≡ n = omega arith in record { most = omega arith; goes = ap (λ (m : ℕ). behind old 0 (rows_after steps m)) e }

next_of : (steps : List PlainStep) (i : ℕ) (x : PlainStep) → i < length steps → x ≡ get_or steps i x → drop i steps ≡ x ∷ drop (i + 1) steps
next_of steps i x lt is = rw add-one (drop-cons steps i x lt ∙ ap (λ (y : PlainStep). y ∷ drop (suc i) steps) (sym is))

less : (n a b : ℕ) → (n - a) - b ≡ n - (a + b)
less n a b = omega arith

pub goes_on : (old : List PlainWideSection) (steps : List PlainStep) (n i : ℕ) (x : PlainStep) (closed closed' : List PlainWideSection) (before made : ℕ) → IsOn old steps n i closed before → i < length steps → x ≡ get_or steps i x → made ≤ n - before → IsTurn x (n - before) closed made None closed'
    → IsOn old steps n (i + 1) closed' (before + made)
goes_on old steps n i x closed closed' before made h lt is few t = record {
  most = omega (arith, h.most, few);
  goes =
      ap (λ (m : ℕ). behind closed' (before + made) (rows_after (drop (i + 1) steps) m)) (sym (less n before made))
      ∙ row_goes x (drop (i + 1) steps) (n - before) before made closed closed' t
      ∙ ap (λ (xs : List PlainStep). behind closed before (rows_after xs (n - before))) (sym (next_of steps i x lt is))
      ∙ h.goes;
}

pub ends_here : (old : List PlainWideSection) (steps : List PlainStep) (n i : ℕ) (x : PlainStep) (closed closed' : List PlainWideSection) (before made : ℕ) (end : RowsEnd) → IsOn old steps n i closed before → i < length steps → x ≡ get_or steps i x → IsTurn x (n - before) closed made (Some end) closed'
    → ◌≡◌ {A = PlainRows} (record { closed = closed'; end = end; tries = before + made }) (behind old 0 (rows_after steps n))
ends_here old steps n i x closed closed' before made end h lt is t =
    row_ends x (drop (i + 1) steps) (n - before) before made closed closed' end t
    ∙ ap (λ (xs : List PlainStep). behind closed before (rows_after xs (n - before))) (sym (next_of steps i x lt is))
    ∙ h.goes

pub ends_behind : (old : List PlainWideSection) (steps : List PlainStep) (n i : ℕ) (closed : List PlainWideSection) (made : ℕ) → IsOn old steps n i closed made → length steps ≤ i
    → ◌≡◌ {A = PlainRows} (record { closed = closed; end = Nothing; tries = made }) (behind old 0 (rows_after steps n))
ends_behind old steps n i closed made h le =
    rows_are closed (closed ++ []) Nothing Nothing made (made + 0) (sym (append-nil closed)) refl (omega arith)
    ∙ ap (λ (xs : List PlainStep). behind closed made (rows_after xs (n - made))) (sym (drop_of_length-le steps le))
    ∙ h.goes
