-- What is left of a list, one step on and at its end.
use Rattle.std.proofs.Common.{◌≡◌, ℕ, ◌+◌, ◌<◌, ◌≤◌, List, ◌∷◌, length, get_or, drop, Result, Ok, Err, String, string_bytes, Option, Some, None, Vec, ap, subst, sym, ◌∙◌}
use Rattle.std.proofs.lemmas.List.{at_drop_more, at_drop_all}
use Rattle.std.specs.declared.alloc.Global.{Global}
use Rattle.fund_base.specs.Parsing.{◌>>=◌, YieldsAll}
use Rattle.pay_words.specs.Given.{ended, ended_by, flags_from, next_of, place_of}
use Rattle.pay_words.specs.Flags.{is_same}
use Rattle.pay_words.specs.declared.fault.WordFault.{WordFault}
use Rattle.pay_words.specs.declared.fault.WordFault.TheVariants.{Memory}
use Rattle.pay_words.specs.declared.flag.Flag.{Flag}
use Rattle.pay_words.specs.declared.given.Given.{Given}
use Rattle.std.specs.Prelude.{if◌then◌else◌}

-- a function of what is left, where an element stands there
pub stands : {X Y : Type 0} (F : List X → Y) (xs : List X) (i : ℕ) (x : X) → i < length xs → x ≡ get_or xs i x → F (drop i xs) ≡ F (x ∷ drop (i + 1) xs)
stands F xs i x lt is = at_drop_more F xs i x lt ∙ ap (λ y. F (y ∷ drop (i + 1) xs)) (sym is)

pub place_here : (given : List Given) (flag : Flag) (i : ℕ) (one : Given) → i < length given → one ≡ get_or given i one → place_of (drop i given) flag ≡ (if is_same one.flag flag then Some one.place else place_of (drop (i + 1) given) flag)
unfolding place_of
place_here given flag i one lt is = stands (λ gs. place_of gs flag) given i one lt is

pub place_nowhere : (given : List Given) (flag : Flag) (i : ℕ) → length given ≤ i → place_of (drop i given) flag ≡ None
unfolding place_of
place_nowhere given flag i le = at_drop_all (λ gs. place_of gs flag) given i le

pub word_here : (s : List Given × Option Flag) (words : List (String Global)) (i : ℕ) (word : String Global) → i < length words → word ≡ get_or words i word → flags_from s i (drop i words) ≡ (next_of s.0 s.1 i (string_bytes word) >>= λ s'. flags_from s' (i + 1) (drop (i + 1) words))
unfolding flags_from
word_here s words i word lt is = stands (flags_from s i) words i word lt is

-- the word at a place is taken
pub word_taken : (given : List Given) (wanted : Option Flag) (words : List (String Global)) (i : ℕ) (word : String Global) (given' : List Given) (wanted' : Option Flag) (total : Result (List Given) WordFault) → i < length words → word ≡ get_or words i word → next_of given wanted i (string_bytes word) ≡ Ok (given', wanted') → flags_from (given, wanted) i (drop i words) ≡ total → flags_from (given', wanted') (i + 1) (drop (i + 1) words) ≡ total
word_taken given wanted words i word given' wanted' total lt is taken so_far =
    let here = word_here (given, wanted) words i word lt is in
    let one = ap (λ (r : Result (List Given × Option Flag) WordFault). r >>= λ s'. flags_from s' (i + 1) (drop (i + 1) words)) taken in
    sym (here ∙ one) ∙ so_far

-- the word at a place is refused
pub word_refused : (given : List Given) (wanted : Option Flag) (words : List (String Global)) (i : ℕ) (word : String Global) (fault : WordFault) (total : Result (List Given) WordFault) → i < length words → word ≡ get_or words i word → next_of given wanted i (string_bytes word) ≡ Err fault → flags_from (given, wanted) i (drop i words) ≡ total → total ≡ Err fault
word_refused given wanted words i word fault total lt is refused so_far =
    let here = word_here (given, wanted) words i word lt is in
    let one = ap (λ (r : Result (List Given × Option Flag) WordFault). r >>= λ s'. flags_from s' (i + 1) (drop (i + 1) words)) refused in
    sym so_far ∙ (here ∙ one)

pub words_ended : (s : List Given × Option Flag) (words : List (String Global)) (i : ℕ) → length words ≤ i → flags_from s i (drop i words) ≡ ended s
unfolding flags_from
words_ended s words i le = at_drop_all (flags_from s i) words i le

-- the flags at the end of the words, as they are returned
pub ended_told : (given : Vec Given Global) (wanted : Option Flag) (r : Result (Vec Given Global) WordFault) (total : Result (List Given) WordFault) → r ≡ ended_by given wanted → total ≡ ended_by given.items wanted → YieldsAll Memory (λ (v : Vec Given Global). v.items) r total
ended_told given None r total is all = subst (λ (x : Result (Vec Given Global) WordFault). YieldsAll Memory (λ (v : Vec Given Global). v.items) x total) (sym is) all
ended_told given (Some flag) r total is all = subst (λ (x : Result (Vec Given Global) WordFault). YieldsAll Memory (λ (v : Vec Given Global). v.items) x total) (sym is) (λ _. all)
