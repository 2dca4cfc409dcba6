-- The groups that useful coins form have 1 to 100 of them.
use Rattle.std.specs.Prelude.{◌≡◌, ℕ, ◌<◌, Bool, true, false, List, [], ◌∷◌, filter, All, Contains, length}
use Rattle.std.proofs.Common.{refl, sym, subst, arith}
use Rattle.std.proofs.lemmas.List.Elements.{All-contains, All-filter, All-map, All-cons, All-nil, All-weaker, filter_passes}
use Rattle.std.proofs.lemmas.Slice.Eq.{bytes_eq-Decides}
use Rattle.coin_candidates.specs.Candidates.{IsCandidate}
use Rattle.coin_candidates.specs.declared.candidate.Candidate.{Candidate}
use Rattle.output_groups.specs.Forming.{AreParts, IsGrouping, alone, of_script, parts_of, pays_to, starts_with}
use Rattle.output_groups.specs.Measures.{IsGroup, is_useful}
use Rattle.output_groups.specs.Part.{Part}
use Rattle.output_groups.proofs.Members.{all_from, in_filter}
use Rattle.output_groups.proofs.PartLaws.{IsFull, parts_full}

-- the script of the first coin
abbrev pub first_script : List Candidate → List ℕ
first_script [] = []
first_script (c ∷ cs) = c.script

pub starts_first : (g : List Candidate) → 0 < length g → starts_with (first_script g) g ≡ true
starts_first [] some = absurd (omega arith)
starts_first (c ∷ cs) some = (bytes_eq-Decides c.script c.script).1 refl

-- a group is among the hundreds of its first coin's script
pub part_placed : (cs : List Candidate) (parts : List Part) (p : Part) → IsGrouping cs parts → Contains parts p → Contains (parts_of (of_script (first_script p.coins) cs)) p
part_placed cs parts p grouping held =
    let filled : 0 < length p.coins = All-contains (λ (q : Part). 0 < length q.coins) parts p grouping.filled held in
    let script = first_script p.coins in
    let mine : Contains (filter (λ (q : Part). starts_with script q.coins) parts) p = in_filter (λ (q : Part). starts_with script q.coins) parts p held (starts_first p.coins filled) in
    subst (λ (ps : List Part). Contains ps p) (grouping.each script) mine

part_full : (P : Candidate → Type 0) (cs : List Candidate) (parts : List Part) (p : Part) → All P cs → IsGrouping cs parts → Contains parts p → IsFull P p.coins
part_full P cs parts p all grouping held =
    let script = first_script p.coins in
    All-contains (λ (q : Part). IsFull P q.coins) (parts_of (of_script script cs)) p (parts_full P (of_script script cs) (All-filter (pays_to script) P cs all)) (part_placed cs parts p grouping held)

abbrev Fine : ℕ → Candidate → Type 0
Fine rate c = IsCandidate c × (is_useful rate c ≡ true)

full_group : (rate : ℕ) (g : List Candidate) → IsFull (Fine rate) g → IsGroup rate g
full_group rate g full = record {
  some = full.some;
  few = full.few;
  each = All-weaker (Fine rate) IsCandidate (λ c h. h.0) g full.each;
  useful = All-weaker (Fine rate) (λ c. is_useful rate c ≡ true) (λ c h. h.1) g full.each;
}

single_full : (P : Candidate → Type 0) (c : Candidate) → P c → IsFull P (c ∷ [])
single_full P c h = record { some = omega arith; few = omega arith; each = All-cons P c [] h (All-nil P) }

-- what holds of the coins holds of each group's
pub formed_full : (P : Candidate → Type 0) (group : Bool) (cs : List Candidate) (parts : List Part) → All P cs → AreParts group cs parts → All (λ (p : Part). IsFull P p.coins) parts
formed_full P true cs parts all formed = all_from (λ (p : Part). IsFull P p.coins) parts (λ p held. part_full P cs parts p all formed held)
formed_full P false cs parts all formed =
    subst (λ (ps : List Part). All (λ (p : Part). IsFull P p.coins) ps) (sym formed)
    (All-map (λ (p : Part). IsFull P p.coins) alone cs (All-weaker P (λ c. IsFull P (c ∷ [])) (λ c h. single_full P c h) cs all))

pub parts_fine : (rate : ℕ) (group : Bool) (cs : List Candidate) (parts : List Part) → All IsCandidate cs → AreParts group (filter (is_useful rate) cs) parts → All (λ (p : Part). IsGroup rate p.coins) parts
parts_fine rate group cs parts all formed =
    let useful = filter (is_useful rate) cs in
    let fine : All (Fine rate) useful = λ k d below. (All-filter (is_useful rate) IsCandidate cs all k d below, filter_passes (is_useful rate) cs k d below) in
    All-weaker (λ (p : Part). IsFull (Fine rate) p.coins) (λ (p : Part). IsGroup rate p.coins) (λ p full. full_group rate p.coins full) parts (formed_full (Fine rate) group useful parts fine formed)
