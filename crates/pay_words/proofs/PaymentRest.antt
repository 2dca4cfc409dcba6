-- The payments of what is left of a list of flags.
use Rattle.std.proofs.Common.{◌≡◌, ℕ, ◌+◌, ◌<◌, ◌≤◌, List, length, get_or, drop, Result, Ok, Err, String, ap, sym, ◌∙◌}
use Rattle.std.proofs.lemmas.List.{at_drop_all}
use Rattle.std.specs.declared.alloc.Global.{Global}
use Rattle.fund_base.specs.Parsing.{◌>>=◌}
use Rattle.pay_words.specs.Payments.{PlainPayment, payments_after, payments_from}
use Rattle.pay_words.specs.declared.fault.WordFault.{WordFault}
use Rattle.pay_words.specs.declared.given.Given.{Given}
use Rattle.pay_words.proofs.Rest.{stands}

pub payment_here : (words : List (String Global)) (before : List PlainPayment) (given : List Given) (i : ℕ) (one : Given) → i < length given → one ≡ get_or given i one → payments_from words before (drop i given) ≡ (payments_after words before one >>= λ ps. payments_from words ps (drop (i + 1) given))
unfolding payments_from
payment_here words before given i one lt is = stands (payments_from words before) given i one lt is

pub payments_ended : (words : List (String Global)) (before : List PlainPayment) (given : List Given) (i : ℕ) → length given ≤ i → payments_from words before (drop i given) ≡ Ok before
unfolding payments_from
payments_ended words before given i le = at_drop_all (payments_from words before) given i le

-- the flag at a place is taken
pub payment_taken : (words : List (String Global)) (before after : List PlainPayment) (given : List Given) (i : ℕ) (one : Given) (total : Result (List PlainPayment) WordFault) → i < length given → one ≡ get_or given i one → payments_after words before one ≡ Ok after → payments_from words before (drop i given) ≡ total → payments_from words after (drop (i + 1) given) ≡ total
payment_taken words before after given i one total lt is taken so_far =
    let here = payment_here words before given i one lt is in
    let step = ap (λ (r : Result (List PlainPayment) WordFault). r >>= λ ps. payments_from words ps (drop (i + 1) given)) taken in
    sym (here ∙ step) ∙ so_far

-- the flag at a place is refused
pub payment_refused : (words : List (String Global)) (before : List PlainPayment) (given : List Given) (i : ℕ) (one : Given) (fault : WordFault) (total : Result (List PlainPayment) WordFault) → i < length given → one ≡ get_or given i one → payments_after words before one ≡ Err fault → payments_from words before (drop i given) ≡ total → total ≡ Err fault
payment_refused words before given i one fault total lt is refused so_far =
    let here = payment_here words before given i one lt is in
    let step = ap (λ (r : Result (List PlainPayment) WordFault). r >>= λ ps. payments_from words ps (drop (i + 1) given)) refused in
    sym so_far ∙ (here ∙ step)
