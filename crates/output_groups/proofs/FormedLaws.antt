-- The groups of coins taken script by script are the groups that coins form.
use Rattle.std.specs.Prelude.{◌≡◌, ℕ, ◌<◌, ◌⊎◌, Bool, true, false, not, List, [], ◌∷◌, ◌++◌, map, filter, All, bytes_eq, length}
use Rattle.std.specs.List.{flat_map}
use Rattle.std.proofs.Common.{refl, sym, subst, ap, ◌∙◌, inl, inr}
use Rattle.std.proofs.lemmas.List.{append-nil, length-map}
use Rattle.std.proofs.lemmas.List.Elements.{filter-append}
use Rattle.std.proofs.lemmas.List.Elements.{All-append, All-nil, All-weaker, filter_passes}
use Rattle.std.proofs.lemmas.Slice.Eq.{bytes_eq-Decides}
use Rattle.std.proofs.lemmas.Bool.{cases_Bool}
use Rattle.coin_candidates.specs.declared.candidate.Candidate.{Candidate}
use Rattle.output_groups.specs.Counting.{kept_count, parts_in, scripts_of}
use Rattle.output_groups.specs.Forming.{AreParts, of_script, parts_of, pays_to, starts_with}
use Rattle.output_groups.specs.Measures.{is_useful}
use Rattle.output_groups.specs.Pool.{CountsKept, keeps}
use Rattle.output_groups.specs.Part.{Part}
use Rattle.output_groups.specs.declared.rows.Row.{Row}
use Rattle.output_groups.proofs.CutLaws.{parts_filled}
use Rattle.output_groups.proofs.PartLaws.{IsFull, filter_all, filter_none, parts_full, parts_of_none, starts_full}

-- a test that passes only what another passes may leave that one out
filter_within : {X : Type 0} (p q : X → Bool) (xs : List X) → ((x : X) → p x ≡ true → q x ≡ true) → filter p (filter q xs) ≡ filter p xs
filter_within p q [] within = refl
filter_within {X} p q (x ∷ xs) within =
    let rest = filter_within p q xs within in
    elim (cases_Bool (p x)) [
      | inl holds ↦ simp (holds, within x holds) (ap (λ (ys : List X). x ∷ ys) rest)
      | inr fails ↦ elim (cases_Bool (q x)) [ inl also ↦ simp (fails, also) rest | inr lacks ↦ simp (fails, lacks) rest ]
    ]

-- what one test passes and another fails, both pass nowhere
filter_apart : {X : Type 0} (p q : X → Bool) (xs : List X) → ((x : X) → p x ≡ true → q x ≡ false) → filter p (filter q xs) ≡ []
filter_apart p q [] apart = refl
filter_apart {X} p q (x ∷ xs) apart =
    let rest = filter_apart p q xs apart in
    elim (cases_Bool (q x)) [
      | inl holds ↦ elim (cases_Bool (p x)) [ inl also ↦ (let bad : true ≡ false = sym holds ∙ apart x also in absurd cc) | inr lacks ↦ simp (holds, lacks) rest ]
      | inr fails ↦ simp (fails) rest
    ]

-- the coins of one script all pay to it
pay_to : (script s : List ℕ) (cs : List Candidate) → All (λ c. pays_to script c ≡ bytes_eq script s) (of_script s cs)
pay_to script s cs =
    All-weaker (λ (c : Candidate). pays_to s c ≡ true) (λ (c : Candidate). pays_to script c ≡ bytes_eq script s)
    (λ c pays. ap (bytes_eq script) (sym ((bytes_eq-Decides s c.script).0 pays))) (of_script s cs) (filter_passes (pays_to s) cs)

-- the groups of one script start with another exactly where it is that one
one_starts : (script s : List ℕ) (cs : List Candidate) → All (λ (p : Part). starts_with script p.coins ≡ bytes_eq script s) (parts_of (of_script s cs))
one_starts script s cs =
    let P : Candidate → Type 0 = λ c. pays_to script c ≡ bytes_eq script s in
    All-weaker (λ (p : Part). IsFull P p.coins) (λ (p : Part). starts_with script p.coins ≡ bytes_eq script s) (λ p full. starts_full script (bytes_eq script s) p.coins full) (parts_of (of_script s cs)) (parts_full P (of_script s cs) (pay_to script s cs))

-- the groups that start with a script are those of that script
of_one : (script : List ℕ) (cs : List Candidate) (ss : List (List ℕ)) → filter (λ (p : Part). starts_with script p.coins) (flat_map (λ s. parts_of (of_script s cs)) ss) ≡ flat_map (λ s. parts_of (of_script s cs)) (filter (bytes_eq script) ss)
of_one script cs [] = refl
of_one script cs (s ∷ ss) =
    let starts : Part → Bool = λ p. starts_with script p.coins in
    let formed : List ℕ → List Part = λ t. parts_of (of_script t cs) in
    let rest : filter starts (flat_map formed ss) ≡ flat_map formed (filter (bytes_eq script) ss) = of_one script cs ss in
    let apart : filter starts (flat_map formed (s ∷ ss)) ≡ filter starts (formed s) ++ filter starts (flat_map formed ss) = filter-append starts (formed s) (flat_map formed ss) in
    let started : All (λ (p : Part). starts p ≡ bytes_eq script s) (formed s) = one_starts script s cs in
    elim (cases_Bool (bytes_eq script s)) [
      | inl same ↦
          let all : filter starts (formed s) ≡ formed s = filter_all starts (formed s) (subst (λ (b : Bool). All (λ (p : Part). starts p ≡ b) (formed s)) same started) in
          rw same (apart ∙ ap (λ (ps : List Part). ps ++ filter starts (flat_map formed ss)) all ∙ ap (λ (ps : List Part). formed s ++ ps) rest)
      | inr other ↦
          let none : filter starts (formed s) ≡ [] = filter_none starts (formed s) (subst (λ (b : Bool). All (λ (p : Part). starts p ≡ b) (formed s)) other started) in
          rw other (apart ∙ ap (λ (ps : List Part). ps ++ filter starts (flat_map formed ss)) none ∙ rest)
    ]

-- a script stands once among the scripts of coins, or no coin pays to it
script_once : (script : List ℕ) (cs : List Candidate) → (filter (bytes_eq script) (scripts_of cs) ≡ script ∷ []) ⊎ ((filter (bytes_eq script) (scripts_of cs) ≡ []) × (of_script script cs ≡ []))
script_once script [] = inr (refl, refl)
script_once script (c ∷ cs) =
    let others : List ℕ → Bool = λ t. not (bytes_eq t c.script) in
    let is : (t : List ℕ) → bytes_eq script t ≡ true → script ≡ t = λ t. (bytes_eq-Decides script t).0 in
    elim (cases_Bool (bytes_eq script c.script)) [
      | inl same ↦
          let none : filter (bytes_eq script) (filter others (scripts_of cs)) ≡ [] =
          filter_apart (bytes_eq script) others (scripts_of cs) (λ t one. ap not (subst (λ (x : List ℕ). bytes_eq x c.script ≡ true) (is t one) same)) in
          inl (rw (same, none) (ap (λ (t : List ℕ). t ∷ []) (sym (is c.script same))))
      | inr other ↦
          let kept : filter (bytes_eq script) (filter others (scripts_of cs)) ≡ filter (bytes_eq script) (scripts_of cs) =
          filter_within (bytes_eq script) others (scripts_of cs) (λ t one. ap not (subst (λ (x : List ℕ). bytes_eq x c.script ≡ false) (is t one) other)) in
          rw (other, kept) (script_once script cs)
    ]

filled : (cs : List Candidate) (ss : List (List ℕ)) → All (λ (p : Part). 0 < length p.coins) (flat_map (λ s. parts_of (of_script s cs)) ss)
filled cs [] = All-nil _
filled cs (s ∷ ss) = All-append (λ (p : Part). 0 < length p.coins) (parts_of (of_script s cs)) (flat_map (λ t. parts_of (of_script t cs)) ss) (parts_filled (of_script s cs)) (filled cs ss)

each_once : (script : List ℕ) (cs : List Candidate) → filter (λ (p : Part). starts_with script p.coins) (parts_in true cs) ≡ parts_of (of_script script cs)
each_once script cs =
    let formed : List ℕ → List Part = λ s. parts_of (of_script s cs) in
    let found : filter (λ (p : Part). starts_with script p.coins) (parts_in true cs) ≡ flat_map formed (filter (bytes_eq script) (scripts_of cs)) = of_one script cs (scripts_of cs) in
    elim (script_once script cs) [
      | inl once ↦ found ∙ ap (flat_map formed) once ∙ append-nil (formed script)
      | inr none ↦ found ∙ ap (flat_map formed) none.0 ∙ sym (ap parts_of none.1 ∙ parts_of_none)
    ]

pub are_parts : (group : Bool) (cs : List Candidate) → AreParts group cs (parts_in group cs)
are_parts true cs = record { filled = filled cs (scripts_of cs); each = λ script. each_once script cs }
are_parts false cs = refl

pub counts : (group : Bool) (row : Row) (rate : ℕ) (cs : List Candidate) → CountsKept group row rate cs (kept_count group row rate cs)
unfolding kept_count
counts group row rate cs =
    let coins = filter (is_useful rate) cs in
    let kept = filter (keeps row) (parts_in group coins) in
    record {
      kept = map (λ (p : Part). p.coins) kept;
      are_kept = record { parts = parts_in group coins; formed = are_parts group coins; kept_are = refl };
      count = length-map kept (λ (p : Part). p.coins);
    }
