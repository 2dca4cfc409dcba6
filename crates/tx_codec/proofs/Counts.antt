-- Where inputs were read, or one of them, the first one stands whole after a number that isn't 0.
use Rattle.std.proofs.Common.{◌≡◌, ◌≢◌, ℕ, zero, suc, ◌+◌, ◌<◌, ◌==◌, List, [], Result, Ok, Err, refl, sym, subst, arith}
use Rattle.std.specs.Prelude.{IsOk, IsOkAnd, if◌then◌else◌}
use Rattle.fund_base.specs.Cursor.{At, compact_at}
use Rattle.fund_base.specs.declared.cursor.CutFault.{CutFault}
use Rattle.fund_base.specs.Parsing.{◌>>=◌, many_from}
use Rattle.fund_base.proofs.Laws.{bind_ok, guard_ok}
use Rattle.tx_codec.specs.declared.fault.TxFault.{TxFault}
use Rattle.tx_codec.specs.declared.fault.TxFault.TheVariants.{NoInputs}
use Rattle.tx_codec.specs.declared.tx.TxIn.{TxIn}
use Rattle.tx_codec.specs.Reading.{HasInput, cut, input_at, inputs_at, some_at}

was_read : (read : Result (TxIn × At) TxFault) (x : TxIn × At) → read ≡ Ok x → IsOk read
was_read read x is = subst (λ (r : Result (TxIn × At) TxFault). IsOk r) (sym is) refl

first_of : (n : ℕ) (at : At) (x : List TxIn × At) → many_from (λ _. input_at) (suc n) [] at ≡ Ok x → IsOk (input_at at)
unfolding many_from
first_of n at x is =
    let first = bind_ok (input_at at) _ x is in
    was_read (input_at at) first.0 first.1

input_of : (read : Result (ℕ × At) CutFault) (x : List TxIn × At)
    → (cut read >>= λ n. if n.0 == 0 then Err NoInputs else many_from (λ _. input_at) n.0 [] n.1) ≡ Ok x → IsOkAnd read (λ n. (n.0 ≢ 0) × IsOk (input_at n.1))
input_of (Ok (zero, at)) x is = absurd cc
input_of (Ok (suc n, at)) x is = (λ e. absurd cc, first_of n at x (guard_ok _ _ _ _ is).1)
input_of (Err fault) x is = absurd cc

pub input_of_some : (at : At) (x : List TxIn × At) → inputs_at at ≡ Ok x → HasInput at
unfolding some_at
input_of_some at x is = input_of (compact_at at) x is

-- ---- a loop over inputs

-- The first input stands whole, or it is the next one.
pub record FirstInput (from : At) (i : ℕ) (now : At) : Type 0 where
  pub next : i ≡ 0 → now ≡ from
  pub stands : 0 < i → IsOk (input_at from)

pub first_none : (from : At) → FirstInput from 0 from
first_none from = record { next = λ _. refl; stands = λ some. absurd (omega arith) }

-- where one of them was read, the first one was
pub first_read : (from now : At) (i : ℕ) → FirstInput from i now → IsOk (input_at now) → IsOk (input_at from)
first_read from now zero f read = subst (λ (at : At). IsOk (input_at at)) (f.next refl) read
first_read from now (suc i) f read = f.stands (omega arith)

pub first_given : (from now next : At) (i : ℕ) (x : TxIn) → FirstInput from i now → input_at now ≡ Ok (x, next) → IsOk (input_at from)
first_given from now next i x f read = first_read from now i f (was_read (input_at now) (x, next) read)

pub first_more : (from now next : At) (i : ℕ) (x : TxIn) → FirstInput from i now → input_at now ≡ Ok (x, next) → FirstInput from (i + 1) next
first_more from now next i x f read = record { next = λ e. absurd (omega (arith, e)); stands = λ _. first_given from now next i x f read }
