-- Letters in pieces.
use Rattle.std.specs.Prelude.{◌≡◌, ℕ, suc, ◌+◌, ◌<◌, ◌≤◌, ◌++◌, List, [], ◌∷◌, length, take, drop, get_or}
use Rattle.std.proofs.Common.{arith, sym, ap, subst, ◌∙◌, length-append}
use Rattle.std.proofs.lemmas.List.{take_all, take_more}
use Rattle.std.proofs.Math.Seq.{split_at}
use Rattle.wide_check.specs.declared.fault.WideFault.{WideFault}
use Rattle.wide_check.specs.Feeding.{PlainWideChecker, IsFirstFault, IsRefused, Takes, counted, faulted, fed, stopped}
use Rattle.wide_check.specs.WideSteps.{WideState}
use Rattle.wide_check.specs.WideLetters.{IsTaken, led}
use Rattle.wide_check.proofs.WideStepLaws.{led-append, taken-append}

checker_at : PlainWideChecker → WideState → ℕ → PlainWideChecker
checker_at c s n = record { problem = c.problem; answer = c.answer; state = s; fed = n; fault = c.fault }

pub fed_none : (c : PlainWideChecker) → c.fed ≤ 18_446_744_073_709_551_615 → c ≡ fed c []
unfolding checker_at
fed_none c fits = let count : c.fed ≡ counted c.fed 0 = omega arith in ap (λ (n : ℕ). checker_at c c.state n) count

pub counted_more : (n : ℕ) (xs ys : List ℕ) →
    counted (counted n (length xs)) (length ys) ≡ counted n (length (xs ++ ys))
counted_more n xs ys = omega (arith, length-append xs ys)

pub fed-append : (c : PlainWideChecker) (xs ys : List ℕ) → fed (fed c xs) ys ≡ fed c (xs ++ ys)
unfolding checker_at
fed-append c xs ys =
    ap (λ (s : WideState). checker_at c s (counted (counted c.fed (length xs)) (length ys))) (sym (led-append c.problem c.answer c.state xs ys))
    ∙ ap (λ (n : ℕ). checker_at c (led c.problem c.answer c.state (xs ++ ys)) n) (counted_more c.fed xs ys)

-- ---- one letter more

pub fed_more : (c d e : PlainWideChecker) (xs : List ℕ) (i x : ℕ) → i < length xs → x ≡ get_or xs i 0 →
    d ≡ fed c (take i xs) → e ≡ fed d (x ∷ []) → e ≡ fed c (take (i + 1) xs)
fed_more c d e xs i x below at old new =
    new ∙ (ap (λ (m : PlainWideChecker). fed m (x ∷ [])) old ∙ (fed-append c (take i xs) (x ∷ [])
    ∙ ap (fed c) (ap (λ (b : ℕ). take i xs ++ b ∷ []) at ∙ sym (take_more xs i 0 below))))

pub takes_more : (c d : PlainWideChecker) (xs : List ℕ) (i x : ℕ) → i < length xs → x ≡ get_or xs i 0 →
    d ≡ fed c (take i xs) → Takes c (take i xs) → IsTaken d.problem d.answer d.state x → Takes c (take (i + 1) xs)
takes_more c d xs i x below at old taken here =
    let one : IsTaken c.problem c.answer (led c.problem c.answer c.state (take i xs)) x = subst (λ (m : PlainWideChecker). IsTaken m.problem m.answer m.state x) old here in
    let both : Takes c (take i xs ++ x ∷ []) = taken-append c.problem c.answer c.state (take i xs) (x ∷ []) taken (one, tt) in
    subst (λ (q : List ℕ). Takes c q) (ap (λ (b : ℕ). take i xs ++ b ∷ []) at ∙ sym (take_more xs i 0 below)) both

-- the letter at a place is refused
pub stops_here : (c d e : PlainWideChecker) (xs : List ℕ) (i x : ℕ) (f : WideFault) → i < length xs → x ≡ get_or xs i 0 →
    d ≡ fed c (take i xs) → Takes c (take i xs) → IsRefused d.problem d.answer d.state d.fed x f → e ≡ faulted d f →
    (y : IsFirstFault c xs f) × (e ≡ stopped c y.front f)
stops_here c d e xs i x f below at old taken refused new = (
  record {
    front = take i xs;
    letter = x;
    rest = drop (suc i) xs;
    split = split_at xs i 0 below ∙ ap (λ (b : ℕ). take i xs ++ b ∷ drop (suc i) xs) (sym at);
    taken = taken;
    refused = subst (λ (m : PlainWideChecker). IsRefused m.problem m.answer m.state m.fed x f) old refused;
  },
  new ∙ ap (λ (m : PlainWideChecker). faulted m f) old,
)

-- all letters are read
pub takes_all : (c : PlainWideChecker) (xs : List ℕ) (i : ℕ) → length xs ≤ i → Takes c (take i xs) → Takes c xs
takes_all c xs i l h = subst (λ (q : List ℕ). Takes c q) (take_all i xs l) h
