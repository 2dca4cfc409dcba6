-- The files of a PSBT come to one outcome at most.
use Rattle.std.proofs.Common.{◌≡◌, ◌∙◌, ℕ, List, Result, Ok, Err, refl, sym, ap, subst, arith}
use Rattle.coin_book.specs.History.{History}
use Rattle.fund_files.proofs.ChainLaws.{chain_held, wallet_refused}
use Rattle.fund_files.specs.Cause.{FileCause}
use Rattle.fund_files.specs.Chain.{chain_from}
use Rattle.fund_files.specs.FileStops.{IsWalletCause}
use Rattle.fund_files.specs.Outcome.{chain_of}
use Rattle.fund_files.specs.declared.chain.Chain.{Chain}
use Rattle.psbt_codec.specs.PartialTransaction.{PartialTransaction}
use Rattle.psbt_codec.specs.Text.{psbt_text}
use Rattle.psbt_codec.specs.declared.fault.PsbtFault.{PsbtFault}
use Rattle.command_complete.proofs.CompletedLaws.{no_fault, one_completed, one_first}
use Rattle.command_complete.specs.Completed.{IsCompleted, known_of}
use Rattle.command_complete.specs.Faults.{IsFirstFault}
use Rattle.command_complete.specs.declared.fault.CompleteFault.{CompleteFault}
use Rattle.report_check.proofs.SpendLaws.{one_psbt, one_psbt_fault, one_psbt_in, psbt_apart}
use Rattle.command_end.specs.Names.{Sources}
use Rattle.command_complete.specs.Outcome.{BadPsbt, ComesTo, Completed, HasBook, IsMadeWhole, IsTooLong, IsWithin, Outcome, Refused, TooLong}
use Rattle.command_complete.specs.Made.{IsRefused, IsSpelled, IsSpelledOtherwise, text_of}
use Rattle.command_complete.specs.declared.stop.Refusal.{Refusal}
use Rattle.command_complete.specs.declared.stop.Refusal.TheVariants.{Psbt, OtherPairs, Input}

-- ---- the book

same_chain : (a b : Chain) (r : Result Chain FileCause) → r ≡ Ok a → r ≡ Ok b → a ≡ b
same_chain a b r x y = let e : Ok a ≡ Ok b = sym x ∙ y in cc

same_cause : (a b : FileCause) (r : Result Chain FileCause) → r ≡ Err a → r ≡ Err b → a ≡ b
same_cause a b r x y = let e : ◌≡◌ {A = Result Chain FileCause} (Err a) (Err b) = sym x ∙ y in cc

not_both : (a : Chain) (b : FileCause) (r : Result Chain FileCause) → r ≡ Ok a → r ≡ Err b → ⊥
not_both a b r x y = let e : ◌≡◌ {A = Result Chain FileCause} (Ok a) (Err b) = sym x ∙ y in cc

pub one_book : (files : List ℕ → List ℕ) (s : Sources) (g h : History) → HasBook files s g → HasBook files s h → g ≡ h
one_book files s g h a b =
    let held : chain_from a.wallet a.blocks ≡ chain_from b.wallet b.blocks = same_chain (chain_from a.wallet a.blocks) (chain_from b.wallet b.blocks) (chain_of (files s.wallet) (files s.blocks)) (chain_held (files s.wallet) (files s.blocks) a.wallet a.blocks a.chain)
    (chain_held (files s.wallet) (files s.blocks) b.wallet b.blocks b.chain) in
    a.is ∙ ap (λ (k : Chain). k.book) held ∙ sym b.is

pub book_apart : (files : List ℕ → List ℕ) (s : Sources) (h : History) (cause : FileCause) → HasBook files s h → chain_of (files s.wallet) (files s.blocks) ≡ Err cause → ⊥
book_apart files s h cause a due = not_both (chain_from a.wallet a.blocks) cause (chain_of (files s.wallet) (files s.blocks)) (chain_held (files s.wallet) (files s.blocks) a.wallet a.blocks a.chain) due

pub book_not_refused : (files : List ℕ → List ℕ) (s : Sources) (h : History) (cause : FileCause) → HasBook files s h → IsWalletCause (files s.wallet) cause → ⊥
book_not_refused files s h cause a is = book_apart files s h cause a (wallet_refused (files s.wallet) (files s.blocks) cause is)

long_apart : (file : List ℕ) → IsWithin file → IsTooLong file → ⊥
long_apart file a b = omega (arith, a, b)

-- ---- the PSBT

otherwise_apart : (text : List ℕ) (version : ℕ) (p : PartialTransaction) → IsSpelled text version p → IsSpelledOtherwise text → ⊥
otherwise_apart text version p a b =
    let same = one_psbt_in text version b.version p b.is a.psbt b.psbt in
    b.other (a.spelling ∙ ap (λ (v : ℕ). psbt_text v p) same.0 ∙ ap (λ (q : PartialTransaction). psbt_text b.version q) same.1)

input_same : (h : History) (text : List ℕ) (v w : ℕ) (p q : PartialTransaction) (e f : CompleteFault) → IsSpelled text v p → IsSpelled text w q → IsFirstFault h (known_of p) e → IsFirstFault h (known_of q) f → e ≡ f
input_same h text v w p q e f a b x y =
    let same : q ≡ p = one_psbt text q p b.psbt.0 a.psbt.0 in
    one_first h (known_of p) e f x (subst (λ (t : PartialTransaction). IsFirstFault h (known_of t) f) same y)

one_refusal : (h : History) (file : List ℕ) (a b : Refusal) → IsRefused h file a → IsRefused h file b → a ≡ b
one_refusal h file (Psbt d) (Psbt e) x y = ap (λ (f : PsbtFault). Psbt f) (one_psbt_fault (text_of file) d e x y)
one_refusal h file (Psbt d) OtherPairs x y = absurd (psbt_apart (text_of file) y.is d y.psbt.0 x)
one_refusal h file (Psbt d) (Input e) x y = absurd (psbt_apart (text_of file) y.1 d y.2.psbt.0 x)
one_refusal h file OtherPairs (Psbt e) x y = absurd (psbt_apart (text_of file) x.is e x.psbt.0 y)
one_refusal h file OtherPairs OtherPairs x y = refl
one_refusal h file OtherPairs (Input e) x y = absurd (otherwise_apart (text_of file) y.0 y.1 y.2 x)
one_refusal h file (Input d) (Psbt e) x y = absurd (psbt_apart (text_of file) x.1 e x.2.psbt.0 y)
one_refusal h file (Input d) OtherPairs x y = absurd (otherwise_apart (text_of file) x.0 x.1 x.2 y)
one_refusal h file (Input d) (Input e) x y = ap (λ (f : CompleteFault). Input f) (input_same h (text_of file) x.0 y.0 x.1 y.1 d e x.2 y.2 x.3 y.3)

refusal_apart : (h : History) (file : List ℕ) (a : Refusal) (version : ℕ) (p q : PartialTransaction) → IsRefused h file a → IsSpelled (text_of file) version p → IsCompleted h p q → ⊥
refusal_apart h file (Psbt e) version p q x spelled made = psbt_apart (text_of file) p e spelled.psbt.0 x
refusal_apart h file OtherPairs version p q x spelled made = otherwise_apart (text_of file) version p spelled x
refusal_apart h file (Input e) version p q x spelled made =
    let same : x.1 ≡ p = one_psbt (text_of file) x.1 p x.2.psbt.0 spelled.psbt.0 in
    no_fault h p q e made (subst (λ (t : PartialTransaction). IsFirstFault h (known_of t) e) same x.3)

-- ---- the files

module _ (files : List ℕ → List ℕ) (s : Sources) (name : List ℕ) where
  bad_same : (a b : Refusal) → ComesTo files s name (BadPsbt a) → ComesTo files s name (BadPsbt b) → a ≡ b
  bad_same a b x y =
      let book : y.0 ≡ x.0 = one_book files s y.0 x.0 y.1 x.1 in
      one_refusal x.0 (files name) a b x.3 (subst (λ (h : History). IsRefused h (files name) b) book y.3)

  bad_apart : (a : Refusal) (q : PartialTransaction) → ComesTo files s name (BadPsbt a) → IsMadeWhole files s name q → ⊥
  bad_apart a q x y =
      let book : y.book ≡ x.0 = one_book files s y.book x.0 y.holds x.1 in
      refusal_apart x.0 (files name) a y.version y.before q x.3 y.spelled (subst (λ (h : History). IsCompleted h y.before q) book y.completed)

  whole_same : (p q : PartialTransaction) → IsMadeWhole files s name p → IsMadeWhole files s name q → p ≡ q
  whole_same p q x y =
      let book : y.book ≡ x.book = one_book files s y.book x.book y.holds x.holds in
      let before : y.before ≡ x.before = one_psbt (text_of (files name)) y.before x.before y.spelled.psbt.0 x.spelled.psbt.0 in
      let moved : IsCompleted x.book x.before q = subst (λ (t : PartialTransaction). IsCompleted x.book t q) before (subst (λ (h : History). IsCompleted h y.before q) book y.completed) in
      one_completed x.book x.before p q x.completed moved

  pub one_outcome : (a b : Outcome) → ComesTo files s name a → ComesTo files s name b → a ≡ b
  one_outcome (Refused c) (Refused d) x y = ap (λ (e : FileCause). Refused e) (same_cause c d (chain_of (files s.wallet) (files s.blocks)) x.due y.due)
  one_outcome (Refused c) TooLong x y = absurd (book_apart files s y.0.0 c y.0.1 x.due)
  one_outcome (Refused c) (BadPsbt r) x y = absurd (book_apart files s y.0 c y.1 x.due)
  one_outcome (Refused c) (Completed q) x y = absurd (book_apart files s y.book c y.holds x.due)
  one_outcome TooLong (Refused d) x y = absurd (book_apart files s x.0.0 d x.0.1 y.due)
  one_outcome TooLong TooLong x y = refl
  one_outcome TooLong (BadPsbt r) x y = absurd (long_apart (files name) y.2 x.1)
  one_outcome TooLong (Completed q) x y = absurd (long_apart (files name) y.fits x.1)
  one_outcome (BadPsbt r) (Refused d) x y = absurd (book_apart files s x.0 d x.1 y.due)
  one_outcome (BadPsbt r) TooLong x y = absurd (long_apart (files name) x.2 y.1)
  one_outcome (BadPsbt r) (BadPsbt t) x y = ap (λ (e : Refusal). BadPsbt e) (bad_same r t x y)
  one_outcome (BadPsbt r) (Completed q) x y = absurd (bad_apart r q x y)
  one_outcome (Completed p) (Refused d) x y = absurd (book_apart files s x.book d x.holds y.due)
  one_outcome (Completed p) TooLong x y = absurd (long_apart (files name) x.fits y.1)
  one_outcome (Completed p) (BadPsbt r) x y = absurd (bad_apart r p y x)
  one_outcome (Completed p) (Completed q) x y = ap (λ (t : PartialTransaction). Completed t) (whole_same p q x y)
