-- The pending transactions in the book, one by one.
use Rattle.std.proofs.Common.{◌≡◌, ◌∙◌, ℕ, Option, None, Result, Ok, Err, suc, zero, ◌+◌, ◌<◌, List, [], ◌∷◌, ◌++◌, length, take, get_or, Some, sym, ap, subst, arith}
use Rattle.std.specs.Prelude.{◌≢◌, All, IfOk}
use Rattle.fund_base.specs.declared.memory.Memory.{Memory}
use Rattle.std.proofs.lemmas.List.{take_more}
use Rattle.std.proofs.lemmas.List.Elements.{All-nil, All-cons, All-get_or}
use Rattle.tx_codec.specs.Transaction.{Transaction}
use Rattle.tx_codec.specs.Txid.{txid_of}
use Rattle.coin_book.specs.Faults.{fault_of}
use Rattle.coin_book.specs.declared.fault.BookFault.{BookFault}
use Rattle.coin_book.specs.declared.fault.BookFault.TheVariants.{Memory as NoMemory}
use Rattle.coin_book.specs.History.{History, with_pending}
use Rattle.wallet_text.specs.WalletRules.{AreDistinct}
use Rattle.coin_book.specs.Watched.{IsWatched, PlainWatched}
use Rattle.fund_files.specs.Booked.{CanWait, IfKept, IsBooked, Keeps, MayWait}
use Rattle.fund_files.specs.declared.booking.Booked.{Booked}
use Rattle.fund_files.specs.declared.booking.Booked.TheVariants.{Whole, Part, Broken}

before : {X : Type 0} (P : X → Type 0) (xs : List X) (i : ℕ) (d : X) → ((k : ℕ) → k < i → k < length xs → P (get_or xs k d)) → All P (take i xs)
before P xs zero d h = All-nil P
before P [] (suc i) d h = All-nil P
before P (x ∷ xs) (suc i) d h = All-cons P x (take i xs) (h 0 (omega arith) (omega arith)) (before P xs i d (λ k lt len. h (suc k) (omega (arith, lt)) (omega (arith, len))))

-- the history with these pending transactions
abbrev pub waiting : History → List Transaction → History
waiting h ts = record { scripts = h.scripts; confirmed = h.confirmed; pending = ts }

apart_from : (ts : List Transaction) (i : ℕ) (t : Transaction) → i < length ts → t ≡ get_or ts i t → AreDistinct ts → All (λ (u : Transaction). txid_of u ≢ txid_of t) (take i ts)
apart_from ts i t lt at distinct = before (λ (u : Transaction). txid_of u ≢ txid_of t) ts i t (λ k less len. subst (λ (x : Transaction). txid_of (get_or ts k t) ≢ txid_of x) (sym at) (distinct k i t less lt))

pub fresh_in : (booked : Booked) (h : History) (ts : List Transaction) (i : ℕ) (t : Transaction) → IsBooked booked (waiting h (take i ts)) → i < length ts → t ≡ get_or ts i t → AreDistinct ts → IfKept booked (λ book. All (λ (u : Transaction). txid_of u ≢ txid_of t) book.pending)
fresh_in (Broken fault) h ts i t is lt at distinct = tt
fresh_in (Whole book) h ts i t is lt at distinct = subst (λ (b : History). All (λ (u : Transaction). txid_of u ≢ txid_of t) b.pending) (sym is.0) (apart_from ts i t lt at distinct)
fresh_in (Part book) h ts i t is lt at distinct = subst (λ (b : History). All (λ (u : Transaction). txid_of u ≢ txid_of t) b.pending) (sym is.0) (apart_from ts i t lt at distinct)

pub waiting_none : (booked : Booked) (h : History) → h.pending ≡ [] → IsBooked booked h → IsBooked booked (waiting h [])
waiting_none booked h none is = subst (λ (ts : List Transaction). IsBooked booked (waiting h ts)) none is

pub waiting_more : (old new : Booked) (h : History) (ts : List Transaction) (i : ℕ) (t : Transaction) → i < length ts → t ≡ get_or ts i t → ((k : History) → IsBooked old k → IsBooked new (with_pending k t)) → IsBooked old (waiting h (take i ts)) → IsBooked new (waiting h (take (i + 1) ts))
waiting_more old new h ts i t lt at more is =
    subst (λ (us : List Transaction). IsBooked new (waiting h us)) (ap (λ (x : Transaction). take i ts ++ x ∷ []) at ∙ sym (take_more ts i t lt)) (more (waiting h (take i ts)) is)

-- what a refusal makes
pub broken_is : (r : Result Booked Memory) (fault : BookFault) (h : History) → IfOk r (λ b. (fault ≢ NoMemory) × (b ≡ Broken fault)) → (fault ≢ NoMemory → fault_of h ≡ Some fault) → IfOk r (λ b. IsBooked b h)
broken_is (Ok b) fault h is exact = subst (λ (x : Booked). IsBooked x h) (sym is.1) (exact is.0)
broken_is (Err e) fault h is exact = tt

-- ---- what is watched for those that wait

one_waits : (kept : Option PlainWatched) (ts : List Transaction) (i : ℕ) (t : Transaction) → i < length ts → t ≡ get_or ts i t → MayWait kept ts → MayWait kept (t ∷ [])
one_waits None ts i t lt at each = tt
one_waits (Some w) ts i t lt at each = All-cons (IsWatched w) t [] (subst (IsWatched w) (sym at) (All-get_or (IsWatched w) ts i t lt each)) (All-nil (IsWatched w))

-- each of those that can be given to a book can be given to one that keeps as much
pub one_can_wait : (begun booked : Booked) (ts : List Transaction) (i : ℕ) (t : Transaction) → ((kept : Option PlainWatched) → Keeps kept begun → Keeps kept booked) → i < length ts → t ≡ get_or ts i t → CanWait begun ts → CanWait booked (t ∷ [])
one_can_wait begun booked ts i t same lt at can = record {
  kept = can.kept;
  keeps = same can.kept can.keeps;
  each = one_waits can.kept ts i t lt at can.each;
}
