-- Coins that stand sorted by script, cut into runs of one script.
use Rattle.std.specs.Prelude.{◌≡◌, ℕ, ◌+◌, ◌-◌, ◌<◌, ◌≤◌, Bool, true, false, List, [], ◌++◌, filter, All, take, drop, length, get_or, bytes_eq, IsSortedBy}
use Rattle.std.proofs.Common.{refl, sym, subst, ap, ◌∙◌, arith, append-nil}
use Rattle.std.proofs.Math.Seq.{take-add}
use Rattle.std.specs.Cmp.Lexicographic.{slice_cmp}
use Rattle.std.specs.Ordering.{is_lt, nat_cmp}
use Rattle.std.proofs.lemmas.Grind.{common_steps}
use Rattle.std.proofs.lemmas.List.{length-take, length-drop, take_all}
use Rattle.std.proofs.lemmas.List.Elements.{All-append, All-nil, All-weaker, filter-append}
use Rattle.std.proofs.lemmas.List.Sorted.{sorted_far}
use Rattle.std.proofs.lemmas.Slice.Eq.{bytes_eq-Decides}
use Rattle.std.proofs.lemmas.Bool.{false_from_ne_true}
use Rattle.coin_candidates.specs.declared.candidate.Candidate.{Candidate}
use Rattle.output_groups.specs.Forming.{IsGrouping, of_script, parts_of, pays_to, starts_with}
use Rattle.output_groups.specs.Runs.{IsRun, run_of, script_of}
use Rattle.output_groups.specs.Part.{Part}
use Rattle.output_groups.proofs.PartLaws.{IsFull, filter_all, filter_none, parts_full, parts_of_none, starts_full}
use Rattle.output_groups.proofs.ScriptLaws.{script_lt, script_order, ties_script, with_script}

-- the coins before start are grouped, and none of them pays to the script of the coin there
pub record IsCut (cs : List Candidate) (start : ℕ) (parts : List Part) : Type 0 where
  pub within : start ≤ length cs
  pub grouping : IsGrouping (take start cs) parts
  pub fresh : (d : Candidate) → start < length cs → of_script (script_of (get_or cs start d)) (take start cs) ≡ []

taken : (cs : List Candidate) (start end : ℕ) → start ≤ end → take end cs ≡ take start cs ++ run_of cs start end
taken cs start end up =
    let whole : start + (end - start) ≡ end = omega arith in
    ap (λ n. take n cs) (sym whole) ∙ take-add start (end - start) cs

-- what holds of the coins at each place from start up to end holds of the run
run_all : (P : Candidate → Type 0) (cs : List Candidate) (start end : ℕ) → end ≤ length cs → ((k : ℕ) (d : Candidate) → start ≤ k → k < end → P (get_or cs k d)) → All P (run_of cs start end)
run_all P cs start end within at k d below =
    let short : start + k < end = omega (arith, below, length-take (end - start) (drop start cs), length-drop start cs) in
    let here : get_or (run_of cs start end) k d ≡ get_or cs (start + k) d = grind (arith, common_steps) in
    subst P (sym here) (at (start + k) d (omega arith) short)

-- a coin that follows coins of another script in order pays to a new script
fresh_at : (cs : List Candidate) (start end : ℕ) → IsSortedBy script_lt cs → IsRun cs start end → (d : Candidate) → end < length cs → of_script (script_of (get_or cs end d)) (take end cs) ≡ []
fresh_at cs start end up run d within =
    let new = script_of (get_or cs end d) in
    let before = script_of (get_or cs (end - 1) d) in
    filter_none (pays_to new) (take end cs) (λ k e below.
    let early : k < end = omega (arith, below, length-take end cs) in
    let here : get_or (take end cs) k e ≡ get_or cs k d = grind (arith, common_steps, run.within) in
    false_from_ne_true (pays_to new (get_or (take end cs) k e)) (λ paid.
    let same : script_of (get_or cs k d) ≡ new = sym ((bytes_eq-Decides new (script_of (get_or (take end cs) k e))).0 paid ∙ ap script_of here) in
    let far : script_lt (get_or cs (end - 1) d) (get_or cs k d) ≡ false = sorted_far script_lt script_order cs up k (end - 1) d (omega arith) (omega (arith, run.within)) in
    let far_new : is_lt (slice_cmp nat_cmp before new) ≡ false = rw same at far in
    let next : script_lt (get_or cs end d) (get_or cs (end - 1) d) ≡ false = sorted_far script_lt script_order cs up (end - 1) end d (omega arith) within in
    let tied : bytes_eq before new ≡ true = rw (far_new, next) at (sym (ties_script before new)) in
    let one : new ≡ before = sym ((bytes_eq-Decides before new).0 tied) in
    absurd (run.last d within (one ∙ run.same (end - 1) d (omega (arith, run.some)) (omega (arith, run.some))))))

pub cut_none : (cs : List Candidate) → IsCut cs 0 []
cut_none cs = record {
  within = omega arith;
  grouping = record { filled = All-nil _; each = λ script. sym parts_of_none };
  fresh = λ d h. refl;
}

-- the coins of a run pay to its first one's script
run_one : (cs : List Candidate) (start end : ℕ) (d : Candidate) → IsRun cs start end → All (λ (c : Candidate). script_of c ≡ script_of (get_or cs start d)) (run_of cs start end)
run_one cs start end d run =
    run_all (λ (c : Candidate). script_of c ≡ script_of (get_or cs start d)) cs start end run.within (λ k e from upto.
    let there : get_or cs start e ≡ get_or cs start d = grind (arith, common_steps, run.some, run.within) in
    run.same k e from upto ∙ ap script_of there)

pays_one : (script s : List ℕ) (cs : List Candidate) → All (λ (c : Candidate). script_of c ≡ s) cs → All (λ c. pays_to script c ≡ bytes_eq script s) cs
pays_one script s cs all k d below = ap (bytes_eq script) (all k d below)

pub parts_filled : (cs : List Candidate) → All (λ (p : Part). 0 < length p.coins) (parts_of cs)
parts_filled cs =
    let Any_coin : Candidate → Type 0 = λ _. Unit {0} in
    All-weaker (λ (p : Part). IsFull Any_coin p.coins) (λ (p : Part). 0 < length p.coins) (λ p full. full.some) (parts_of cs) (parts_full Any_coin cs (λ k d h. tt))

each_case : (b : Bool) (script : List ℕ) (before next : List Candidate) → All (λ c. pays_to script c ≡ b) next → All (λ (p : Part). starts_with script p.coins ≡ b) (parts_of next) → (b ≡ true → of_script script before ≡ [])
    → parts_of (of_script script before) ++ filter (λ (p : Part). starts_with script p.coins) (parts_of next) ≡ parts_of (of_script script before ++ of_script script next)
each_case true script before next all started fresh =
    rw (fresh refl, filter_all (pays_to script) next all, filter_all (λ (p : Part). starts_with script p.coins) (parts_of next) started, parts_of_none) refl
each_case false script before next all started fresh =
    rw (filter_none (pays_to script) next all, filter_none (λ (p : Part). starts_with script p.coins) (parts_of next) started, append-nil, append-nil) refl

-- the groups of one script, with those of a run that pays to it, the first to do so, or doesn't
each_more : (b : Bool) (script : List ℕ) (before next : List Candidate) (parts : List Part) → All (λ c. pays_to script c ≡ b) next → (b ≡ true → of_script script before ≡ []) → filter (λ (p : Part). starts_with script p.coins) parts ≡ parts_of (of_script script before)
    → filter (λ (p : Part). starts_with script p.coins) (parts ++ parts_of next) ≡ parts_of (of_script script (before ++ next))
each_more b script before next parts all fresh each =
    let starts : Part → Bool = λ p. starts_with script p.coins in
    let started : All (λ p. starts p ≡ b) (parts_of next) =
    All-weaker (λ (p : Part). IsFull (λ c. pays_to script c ≡ b) p.coins) (λ p. starts p ≡ b) (λ p full. starts_full script b p.coins full) (parts_of next) (parts_full (λ c. pays_to script c ≡ b) next all) in
    rw (filter-append starts parts (parts_of next), filter-append (pays_to script) before next, each) (each_case b script before next all started fresh)

pub cut_more : (cs : List Candidate) (start end : ℕ) (parts : List Part) → IsSortedBy script_lt cs → IsRun cs start end → IsCut cs start parts → IsCut cs end (parts ++ parts_of (run_of cs start end))
cut_more cs start end parts up run cut =
    let next = run_of cs start end in
    let d = with_script [] in
    let whole : take end cs ≡ take start cs ++ next = taken cs start end (omega (arith, run.some)) in
    let one : All (λ (c : Candidate). script_of c ≡ script_of (get_or cs start d)) next = run_one cs start end d run in
    let each : (script : List ℕ) → filter (λ (p : Part). starts_with script p.coins) (parts ++ parts_of next) ≡ parts_of (of_script script (take start cs ++ next)) =
    λ script.
    let s = script_of (get_or cs start d) in
    each_more (bytes_eq script s) script (take start cs) next parts (pays_one script s next one)
    (λ same. rw ((bytes_eq-Decides script s).0 same) (cut.fresh d (omega (arith, run.some, run.within)))) (cut.grouping.each script) in
    record {
      within = run.within;
      grouping = record {
        filled = All-append (λ (p : Part). 0 < length p.coins) parts (parts_of next) cut.grouping.filled (parts_filled next);
        each = λ script. rw whole (each script);
      };
      fresh = λ e h. fresh_at cs start end up run e h;
    }

pub cut_whole : (cs : List Candidate) (start : ℕ) (parts : List Part) → length cs ≤ start → IsCut cs start parts → IsGrouping cs parts
cut_whole cs start parts all cut =
    let P : List Candidate → Type 0 = λ xs. IsGrouping xs parts in
    subst P (take_all start cs all) cut.grouping
