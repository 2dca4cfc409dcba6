-- Words behind others, and the payments of the lines of a file behind those of the words.
use Rattle.std.proofs.Common.{◌≡◌, ℕ, zero, suc, ◌+◌, ◌<◌, ◌≤◌, Bool, true, false, List, [], ◌∷◌, ◌++◌, length, length-append, append_assoc, append-nil, map, Option, Some, None, Result, Ok, Err, String, string_bytes, if◌then◌else◌, refl, ap, subst, sym, ◌∙◌, arith}
use Rattle.std.specs.Prelude.{not, ◌&&◌, is_some, nat_lt, ◌==◌, slice_get}
use Rattle.std.specs.Option.{option_map_or}
use Rattle.std.specs.Str.{is_utf8}
use Rattle.std.specs.Str.Lines.{lines}
use Rattle.std.specs.declared.alloc.Global.{Global}
use Rattle.fund_base.specs.Parsing.{◌>>=◌}
use Rattle.fund_base.proofs.Laws.{bind_ok, guard_ok}
use Rattle.pay_words.specs.Asked.{PlainAsked, asked_by, asked_in, names_in, some_paid}
use Rattle.pay_words.specs.Flags.{flag_of, flag_word, may_repeat, takes_value}
use Rattle.pay_words.specs.Given.{begun, ended_by, flags_from, flags_in, named, next_of, place_of, with_one}
use Rattle.pay_words.specs.Lines.{ArePaidBehind, ArePaidBy, comma_cut, line_words, payment_word, some_words, text_words, with_line, with_parts, words_by, words_for, words_from}
use Rattle.pay_words.specs.Payments.{PlainPayment, one_more, paid_to, paid_to_script, payments_after, payments_by, payments_from}
use Rattle.pay_words.specs.Settings.{max_fee, settings_given}
use Rattle.pay_words.specs.Values.{word_at}
use Rattle.pay_words.specs.Ways.{way_of}
use Rattle.pay_words.specs.declared.fault.WordFault.{WordFault}
use Rattle.pay_words.specs.declared.fault.WordFault.TheVariants as faults
use Rattle.pay_words.specs.declared.flag.Flag.{Flag}
use Rattle.pay_words.specs.declared.flag.Flag.TheVariants as flags
use Rattle.pay_words.specs.declared.given.Given.{Given}
use Rattle.pay_words.specs.declared.line_fault.LineFault.{LineFault}
use Rattle.pay_words.specs.declared.line_fault.LineFault.TheVariants as lists
use Rattle.pay_words.specs.declared.lines.TheConstants.{PAY_FILE_LIMIT}
use Rattle.pay_words.proofs.FlagLaws.{word_known}

-- ---- the words of lines

-- these words are those of these lines
abbrev AreWordsOf : List (List ℕ) → List (List ℕ) → Type 0
AreWordsOf [] ws = ws ≡ []
AreWordsOf (l ∷ ls) ws = (address amount : List ℕ) × (rest : List (List ℕ)) × (comma_cut l ≡ Some (address, amount)) × (ws ≡ flag_word flags.To ∷ payment_word address amount ∷ rest) × AreWordsOf ls rest

one_line : (before : List (List ℕ)) (o : Option (List ℕ × List ℕ)) (ws : List (List ℕ)) → with_parts before o ≡ Ok ws → (parts : List ℕ × List ℕ) × (o ≡ Some parts) × (ws ≡ before ++ words_for parts)
one_line before None ws e = absurd cc
one_line before (Some parts) ws e = (parts, refl, sym (let is : before ++ words_for parts ≡ ws = cc in is))

words_split : (before ls ws : List (List ℕ)) → words_from before ls ≡ Ok ws → (tail : List (List ℕ)) × (ws ≡ before ++ tail) × AreWordsOf ls tail
unfolding words_from
words_split before [] ws e = ([], sym (let same : before ≡ ws = cc in same) ∙ sym (append-nil before), refl)
words_split before (l ∷ ls) ws e =
    let step = bind_ok (with_line before l) _ ws e in
    let one = one_line before (comma_cut l) step.0 step.1 in
    let more = words_split step.0 ls ws step.2 in
    (words_for one.0 ++ more.0, more.1 ∙ ap (λ (xs : List (List ℕ)). xs ++ more.0) one.2 ∙ append_assoc before (words_for one.0) more.0, (one.0.0, one.0.1, more.0, one.1, refl, more.2))

-- the words of a file are those of its lines
file_split : (file : List ℕ) (ws : List (List ℕ)) → line_words file ≡ Ok ws → AreWordsOf (lines file) ws
unfolding line_words
file_split file ws e =
    let short = guard_ok (nat_lt PAY_FILE_LIMIT (length file)) lists.TooLong _ ws e in
    let words = bind_ok (text_words file) some_words ws (text_is (is_utf8 file) short.1) in
    let some = guard_ok (length words.0 == 0) lists.NoLine (Ok words.0) ws words.2 in
    let same : words.0 ≡ ws = let ok = some.1 in cc in
    let split = words_split [] (lines file) words.0 words.1 in
    subst (λ (xs : List (List ℕ)). AreWordsOf (lines file) xs) (sym split.1 ∙ same) split.2
  where
    text_is : (b : Bool) → words_by (if b then Some file else None) ≡ Ok ws → (text_words file >>= some_words) ≡ Ok ws
    text_is true e = e
    text_is false e = absurd cc

-- ---- words behind others

ended_is : (given made : List Given) (wanted : Option Flag) → ended_by given wanted ≡ Ok made → (given ≡ made) × (wanted ≡ None)
ended_is given made None e = (let same : given ≡ made = cc in same, refl)
ended_is given made (Some flag) e = absurd cc

flags_behind : (given made : List Given) (wanted : Option Flag) (place : ℕ) (words more : List (String Global)) → flags_from (given, wanted) place words ≡ Ok made → flags_from (given, wanted) place (words ++ more) ≡ flags_from (made, None) (place + length words) more
unfolding flags_from
flags_behind given made wanted place [] more e =
    let end = ended_is given made wanted e in
    let count : place ≡ place + length {A = String Global} [] = omega arith in
    ap (λ (gs : List Given). flags_from (gs, wanted) place more) end.0 ∙ ap (λ (o : Option Flag). flags_from (made, o) place more) end.1 ∙ ap (λ (n : ℕ). flags_from (made, None) n more) count
flags_behind given made wanted place (word ∷ words) more e =
    let step = bind_ok (next_of given wanted place (string_bytes word)) _ made e in
    let here = ap (λ (r : Result (List Given × Option Flag) WordFault). r >>= λ s. flags_from s (place + 1) (words ++ more)) step.1 in
    let rest = flags_behind step.0.0 made step.0.1 (place + 1) words more step.2 in
    let count : place + 1 + length words ≡ place + length (word ∷ words) = omega arith in
    here ∙ rest ∙ ap (λ (n : ℕ). flags_from (made, None) n more) count

-- ---- places of flags

abbrev AreBelow : ℕ → List Given → Type 0
AreBelow n [] = Unit {0}
AreBelow n (g ∷ gs) = (g.place < n) × AreBelow n gs

below_one : (n : ℕ) (given : List Given) (flag : Flag) → AreBelow n given → AreBelow (n + 1) (with_one given flag n)
below_one n [] flag below = (omega arith, tt)
below_one n (g ∷ gs) flag below = (omega (arith, below.0), below_one n gs flag below.1)

below_more : (n : ℕ) (given : List Given) → AreBelow n given → AreBelow (n + 1) given
below_more n [] below = tt
below_more n (g ∷ gs) below = (omega (arith, below.0), below_more n gs below.1)

begun_by : (n : ℕ) (given : List Given) (flag : Flag) (s : List Given × Option Flag) (b : Bool)
    → (let waits : Result (List Given × Option Flag) WordFault = Ok (given, Some flag) in let alone : Result (List Given × Option Flag) WordFault = Ok (with_one given flag n, None) in (if b then waits else alone) ≡ Ok s)
    → AreBelow n given → AreBelow (n + 1) s.0
begun_by n given flag s true e below = subst (λ (x : List Given × Option Flag). AreBelow (n + 1) x.0) (let same : (given, Some flag) ≡ s = cc in same) (below_more n given below)
begun_by n given flag s false e below = subst (λ (x : List Given × Option Flag). AreBelow (n + 1) x.0) (let same : (with_one given flag n, None) ≡ s = cc in same) (below_one n given flag below)

begun_below : (n : ℕ) (given : List Given) (flag : Flag) (s : List Given × Option Flag) → begun given n flag ≡ Ok s → AreBelow n given → AreBelow (n + 1) s.0
begun_below n given flag s e below =
    let once = guard_ok (not (may_repeat flag) && is_some (place_of given flag)) (faults.Twice n) _ s e in
    begun_by n given flag s (takes_value flag) once.1 below

named_below : (n : ℕ) (given : List Given) (o : Option Flag) (s : List Given × Option Flag) → named given n o ≡ Ok s → AreBelow n given → AreBelow (n + 1) s.0
named_below n given None s e below = absurd cc
named_below n given (Some flag) s e below = begun_below n given flag s e below

next_below : (n : ℕ) (given : List Given) (wanted : Option Flag) (word : List ℕ) (s : List Given × Option Flag) → next_of given wanted n word ≡ Ok s → AreBelow n given → AreBelow (n + 1) s.0
next_below n given None word s e below = named_below n given (flag_of word) s e below
next_below n given (Some flag) word s e below =
    let taken = guard_ok (is_some (flag_of word)) (faults.NoValue flag) (Ok (with_one given flag n, None)) s e in
    subst (λ (x : List Given × Option Flag). AreBelow (n + 1) x.0) (let ok = taken.1 in let same : (with_one given flag n, None) ≡ s = cc in same) (below_one n given flag below)

flags_below : (given made : List Given) (wanted : Option Flag) (place : ℕ) (words : List (String Global)) → flags_from (given, wanted) place words ≡ Ok made → AreBelow place given → AreBelow (place + length words) made
unfolding flags_from
flags_below given made wanted place [] e below =
    let count : place ≡ place + length {A = String Global} [] = omega arith in
    subst (λ (n : ℕ). AreBelow n made) count (subst (AreBelow place) (ended_is given made wanted e).0 below)
flags_below given made wanted place (word ∷ words) e below =
    let step = bind_ok (next_of given wanted place (string_bytes word)) _ made e in
    let rest = flags_below step.0.0 made step.0.1 (place + 1) words step.2 (next_below place given wanted (string_bytes word) step.0 step.1 below) in
    let count : place + 1 + length words ≡ place + length (word ∷ words) = omega arith in
    subst (λ (n : ℕ). AreBelow n made) count rest

-- ---- words at places

got_front : (front more : List (String Global)) (k : ℕ) → k < length front → slice_get (front ++ more) k ≡ slice_get front k
got_front [] more k lt = absurd (omega (arith, lt))
got_front (w ∷ front) more zero lt = refl
got_front (w ∷ front) more (suc k) lt = got_front front more k (omega (arith, lt))

got_behind : (front : List (String Global)) (w : String Global) (rest : List (String Global)) (k : ℕ) → k ≡ length front → slice_get (front ++ w ∷ rest) k ≡ Some w
got_behind [] w rest zero e = refl
got_behind [] w rest (suc k) e = absurd (omega (arith, e))
got_behind (f ∷ front) w rest zero e = absurd (omega (arith, e))
got_behind (f ∷ front) w rest (suc k) e = got_behind front w rest k (omega (arith, e))

got_second : (all front more : List (String Global)) (t w : String Global) → all ≡ front ++ t ∷ w ∷ more → slice_get all (length front + 1) ≡ Some w
got_second all front more t w is =
    let spot : length front + 1 ≡ length (front ++ t ∷ []) = omega (arith, length-append front (t ∷ [])) in
    let apart : all ≡ (front ++ t ∷ []) ++ w ∷ more = is ∙ sym (append_assoc front (t ∷ []) (w ∷ more)) in
    ap (λ (ws : List (String Global)). slice_get ws (length front + 1)) apart ∙ got_behind (front ++ t ∷ []) w more (length front + 1) spot

word_of : (o o' : Option (String Global)) → o ≡ o' → option_map_or string_bytes o [] ≡ option_map_or string_bytes o' []
word_of o o' e = ap (λ (x : Option (String Global)). option_map_or string_bytes x []) e

-- ---- payments

-- what a flag pays depends on the word at its place alone
by_alike : (all words : List (String Global)) (before : List PlainPayment) (flag : Flag) (place : ℕ) → word_at all place ≡ word_at words place → payments_by all before flag place ≡ payments_by words before flag place
by_alike all words before flags.Wallet place e = refl
by_alike all words before flags.Blocks place e = refl
by_alike all words before flags.To place e = ap (λ (w : List ℕ). one_more before (paid_to place w)) e
by_alike all words before flags.ToScript place e = ap (λ (w : List ℕ). one_more before (paid_to_script place w)) e
by_alike all words before flags.PayFile place e = refl
by_alike all words before flags.Keys place e = refl
by_alike all words before flags.FeeRate place e = refl
by_alike all words before flags.LongTerm place e = refl
by_alike all words before flags.Discard place e = refl
by_alike all words before flags.ChangeTarget place e = refl
by_alike all words before flags.Method place e = refl
by_alike all words before flags.Coin place e = refl
by_alike all words before flags.Tries place e = refl
by_alike all words before flags.Seed place e = refl
by_alike all words before flags.Bump place e = refl
by_alike all words before flags.LockTime place e = refl
by_alike all words before flags.MaxFee place e = refl
by_alike all words before flags.Psbt place e = refl
by_alike all words before flags.Log place e = refl
by_alike all words before flags.Report place e = refl
by_alike all words before flags.Request place e = refl
by_alike all words before flags.Group place e = refl
by_alike all words before flags.Consolidate place e = refl
by_alike all words before flags.FeeFromAmount place e = refl
by_alike all words before flags.Stop place e = refl
by_alike all words before flags.NoReplace place e = refl
by_alike all words before flags.ZeroConf place e = refl
by_alike all words before flags.Unsafe place e = refl
by_alike all words before flags.AllowLowRate place e = refl
by_alike all words before flags.ShowRequest place e = refl
by_alike all words before flags.Json place e = refl
by_alike all words before flags.Progress place e = refl

payments_alike : (words more : List (String Global)) (before : List PlainPayment) (given : List Given) → AreBelow (length words) given → payments_from (words ++ more) before given ≡ payments_from words before given
unfolding payments_from
payments_alike words more before [] below = refl
payments_alike words more before (g ∷ gs) below =
    let here = by_alike (words ++ more) words before g.flag g.place (word_of _ _ (got_front words more g.place below.0)) in
    ap (λ (r : Result (List PlainPayment) WordFault). r >>= λ ps. payments_from (words ++ more) ps gs) here ∙ rest (payments_after words before g) (λ ps. payments_alike words more ps gs below.1)
  where
    rest : (r : Result (List PlainPayment) WordFault) → ((ps : List PlainPayment) → payments_from (words ++ more) ps gs ≡ payments_from words ps gs) → (r >>= λ ps. payments_from (words ++ more) ps gs) ≡ (r >>= λ ps. payments_from words ps gs)
    rest (Ok ps) alike = alike ps
    rest (Err e) alike = refl

payments_split : (words : List (String Global)) (before : List PlainPayment) (gs hs : List Given) (ps : List PlainPayment) → payments_from words before (gs ++ hs) ≡ Ok ps → (mid : List PlainPayment) × (payments_from words before gs ≡ Ok mid) × (payments_from words mid hs ≡ Ok ps)
unfolding payments_from
payments_split words before [] hs ps e = (before, refl, e)
payments_split words before (g ∷ gs) hs ps e =
    let step = bind_ok (payments_after words before g) _ ps e in
    let more = payments_split words step.0 gs hs ps step.2 in
    (more.0, ap (λ (r : Result (List PlainPayment) WordFault). r >>= λ x. payments_from words x gs) step.1 ∙ more.1, more.2)

-- ---- the payments of lines

to_begun : (given : List Given) (place : ℕ) (word : List ℕ) → word ≡ flag_word flags.To → next_of given None place word ≡ Ok (given, Some flags.To)
to_begun given place word is = ap (λ (w : List ℕ). next_of given None place w) is ∙ ap (λ (o : Option Flag). named given place o) (word_known flags.To)

value_given : (given : List Given) (place : ℕ) (word : List ℕ) (s : List Given × Option Flag) → next_of given (Some flags.To) place word ≡ Ok s → (with_one given flags.To place, None) ≡ s
value_given given place word s e =
    let taken = guard_ok (is_some (flag_of word)) (faults.NoValue flags.To) (Ok (with_one given flags.To place, None)) s e in
    let ok = taken.1 in
    let same : (with_one given flags.To place, None) ≡ s = cc in same

same_ok : {A E : Type 0} (r : Result A E) (x y : A) → r ≡ Ok x → r ≡ Ok y → x ≡ y
same_ok r x y a b = cc

-- the flags of lines behind others, and what they pay
record AreListed (all : List (String Global)) (ls : List (List ℕ)) (given made : List Given) : Type 0 where
  tail : List Given
  behind : made ≡ given ++ tail
  paid : (mid ps : List PlainPayment) → payments_from all mid tail ≡ Ok ps → (listed : List PlainPayment) × (ps ≡ mid ++ listed) × ArePaidBy ls listed

nothing_listed : (all : List (String Global)) (given made : List Given) (place : ℕ) → flags_from (given, None) place [] ≡ Ok made → AreListed all [] given made
unfolding flags_from payments_from
nothing_listed all given made place e = record {
  tail = [];
  behind = sym (let same : given ≡ made = cc in same) ∙ sym (append-nil given);
  paid = λ mid ps e. ([], sym (let same : mid ≡ ps = cc in same) ∙ sym (append-nil mid), tt);
}

one_paid : (all : List (String Global)) (l address amount : List ℕ) (ls : List (List ℕ)) (place : ℕ) (tail : List Given) (mid ps : List PlainPayment)
    → comma_cut l ≡ Some (address, amount) → word_at all place ≡ payment_word address amount
    → ((mid ps : List PlainPayment) → payments_from all mid tail ≡ Ok ps → (listed : List PlainPayment) × (ps ≡ mid ++ listed) × ArePaidBy ls listed)
    → payments_from all mid (record { flag = flags.To; place = place } ∷ tail) ≡ Ok ps
    → (listed : List PlainPayment) × (ps ≡ mid ++ listed) × ArePaidBy (l ∷ ls) listed
unfolding payments_from
one_paid all l address amount ls place tail mid ps cut is rest e =
    let step = bind_ok (one_more mid (paid_to place (word_at all place))) _ ps e in
    let pays = bind_ok (paid_to place (word_at all place)) (λ (p : PlainPayment). Ok (mid ++ p ∷ [])) step.0 step.1 in
    let more = rest step.0 ps step.2 in
    let one : mid ++ pays.0 ∷ [] ≡ step.0 = let ok = pays.2 in cc in (
      pays.0 ∷ more.0,
      more.1 ∙ ap (λ (xs : List PlainPayment). xs ++ more.0) (sym one) ∙ append_assoc mid (pays.0 ∷ []) more.0,
      (record { address = address; amount = amount; parts = cut; place = place; paid = ap (paid_to place) (sym is) ∙ pays.1 }, more.2),
    )

listed : (ls : List (List ℕ)) (all front more : List (String Global)) (given made : List Given) → all ≡ front ++ more → AreWordsOf ls (map string_bytes more) → flags_from (given, None) (length front) more ≡ Ok made → AreListed all ls given made
unfolding flags_from
listed [] all front [] given made is words e = nothing_listed all given made (length front) e
listed [] all front (t ∷ more) given made is words e = absurd cc
listed (l ∷ ls) all front [] given made is (address, amount, rest, cut, ws, others) e = absurd cc
listed (l ∷ ls) all front (t ∷ []) given made is (address, amount, rest, cut, ws, others) e = absurd cc
listed (l ∷ ls) all front (t ∷ w ∷ more) given made is (address, amount, rest, cut, ws, others) e =
    let t_is : string_bytes t ≡ flag_word flags.To = cc in
    let w_is : string_bytes w ≡ payment_word address amount = cc in
    let more_is : map string_bytes more ≡ rest = cc in
    let place : ℕ = length front + 1 in
    let first = bind_ok (next_of given None (length front) (string_bytes t)) _ made e in
    let begun_is = same_ok _ first.0 (given, Some flags.To) first.1 (to_begun given (length front) (string_bytes t) t_is) in
    let behind_t : flags_from (given, Some flags.To) place (w ∷ more) ≡ Ok made = subst (λ (s : List Given × Option Flag). flags_from s place (w ∷ more) ≡ Ok made) begun_is first.2 in
    let second = bind_ok (next_of given (Some flags.To) place (string_bytes w)) _ made behind_t in
    let given_is = value_given given place (string_bytes w) second.0 second.1 in
    let behind_w : flags_from (with_one given flags.To place, None) (place + 1) more ≡ Ok made = subst (λ (s : List Given × Option Flag). flags_from s (place + 1) more ≡ Ok made) (sym given_is) second.2 in
    let count : place + 1 ≡ length (front ++ t ∷ w ∷ []) = omega (arith, length-append front (t ∷ w ∷ [])) in
    let next = listed ls all (front ++ t ∷ w ∷ []) more (with_one given flags.To place) made (is ∙ sym (append_assoc front (t ∷ w ∷ []) more)) (subst (λ (xs : List (List ℕ)). AreWordsOf ls xs) (sym more_is) others)
    (subst (λ (n : ℕ). flags_from (with_one given flags.To place, None) n more ≡ Ok made) count behind_w) in
    let there : slice_get all place ≡ Some w = got_second all front more t w is in
    let word_is : word_at all place ≡ payment_word address amount = word_of _ _ there ∙ w_is in
    record {
      tail = record { flag = flags.To; place = place } ∷ next.tail;
      behind = next.behind ∙ append_assoc given (record { flag = flags.To; place = place } ∷ []) next.tail;
      paid = λ mid ps paid. one_paid all l address amount ls place next.tail mid ps cut word_is next.paid paid;
    }

-- ---- the whole

-- the payments of what is asked for, by its flags
record HasPaid (drawn : List ℕ) (words : List (String Global)) (asked : PlainAsked) : Type 0 where
  given : List Given
  flags_are : flags_in words ≡ Ok given
  paid : payments_from words [] given ≡ Ok asked.payments

has_paid : (drawn : List ℕ) (words : List (String Global)) (asked : PlainAsked) → asked_in drawn words ≡ Ok asked → HasPaid drawn words asked
unfolding asked_in asked_by
has_paid drawn words asked is =
    let given = bind_ok (flags_in words) (asked_by drawn words) asked is in
    let names = bind_ok (names_in words given.0) _ asked given.2 in
    let paid = bind_ok (some_paid words given.0) _ asked names.2 in
    let settings = bind_ok (settings_given drawn words given.0) _ asked paid.2 in
    let fee = bind_ok (max_fee words given.0) _ asked settings.2 in
    let way = bind_ok (way_of given.0 settings.0.method) _ asked fee.2 in
    let paid_is : paid.0 ≡ asked.payments = ap (λ (r : Result PlainAsked WordFault). payments_of paid.0 r) way.2 in
    let all = bind_ok (payments_from words [] given.0) _ paid.0 paid.1 in
    let some = guard_ok (length all.0 == 0) (faults.Missing flags.To) (Ok all.0) paid.0 all.2 in
    let all_is : all.0 ≡ paid.0 = let ok = some.1 in cc in
    record { given = given.0; flags_are = given.1; paid = all.1 ∙ ap (λ (ps : List PlainPayment). let made : Result (List PlainPayment) WordFault = Ok ps in made) (all_is ∙ paid_is) }
  where
    payments_of : List PlainPayment → Result PlainAsked WordFault → List PlainPayment
    payments_of default (Ok a) = a.payments
    payments_of default (Err e) = default

pub paid_behind : (drawn : List ℕ) (words more : List (String Global)) (file : List ℕ) (given : List Given) (asked : PlainAsked) → flags_in words ≡ Ok given → line_words file ≡ Ok (map string_bytes more) → asked_in drawn (words ++ more) ≡ Ok asked → ArePaidBehind words given (lines file) asked.payments
unfolding flags_in
paid_behind drawn words more file given asked flags_are lines_are is =
    let a = has_paid drawn (words ++ more) asked is in
    let behind = flags_behind [] given None 0 words more flags_are in
    let below : AreBelow (0 + length words) given = flags_below [] given None 0 words flags_are tt in
    let count : 0 + length words ≡ length words = omega arith in
    let all : flags_from (given, None) (length words) more ≡ Ok a.given = ap (λ (n : ℕ). flags_from (given, None) n more) (sym count) ∙ sym behind ∙ a.flags_are in
    let of_lines = listed (lines file) (words ++ more) words more given a.given refl (file_split file (map string_bytes more) lines_are) all in
    let split = payments_split (words ++ more) [] given of_lines.tail asked.payments (ap (payments_from (words ++ more) []) (sym of_lines.behind) ∙ a.paid) in
    let found = of_lines.paid split.0 asked.payments split.2 in
    let same = payments_alike words more [] given (subst (λ (n : ℕ). AreBelow n given) count below) in
    record { before = split.0; listed = found.0; by_words = sym same ∙ split.1; by_lines = found.2; all = found.1 }
