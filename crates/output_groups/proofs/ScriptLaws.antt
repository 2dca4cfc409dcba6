-- The order of coins by script, and the coins of one script.
use Rattle.std.specs.Prelude.{◌≡◌, ℕ, Bool, false, not, ◌&&◌, List, [], bytes_eq}
use Rattle.std.specs.Cmp.{IsStrictWeakOrder}
use Rattle.std.specs.Cmp.Lexicographic.{slice_cmp}
use Rattle.std.specs.List.Sorted.{ties, IsStableBy}
use Rattle.std.specs.Ordering.{is_eq, is_lt, nat_cmp, ordering_reverse}
use Rattle.std.specs.declared.cmp.Ordering.{Ordering}
use Rattle.std.specs.declared.cmp.Ordering.TheVariants.{Less, Equal, Greater}
use Rattle.std.proofs.Common.{refl, sym, ◌∙◌}
use Rattle.std.proofs.lemmas.Cmp.{nat_list_cmp_total}
use Rattle.std.proofs.lemmas.List.Elements.{filter_agree}
use Rattle.std.proofs.lemmas.List.Sorted.{ranks_by}
use Rattle.std.proofs.lemmas.Map.Text.{is_eq-slice_cmp}
use Rattle.coin_candidates.specs.declared.candidate.Candidate.{Candidate}
use Rattle.output_groups.specs.Forming.{of_script, pays_to}
use Rattle.output_groups.specs.Runs.{script_of}

abbrev pub script_lt : Candidate → Candidate → Bool
script_lt x y = is_lt (slice_cmp nat_cmp (script_of x) (script_of y))

pub script_order : IsStrictWeakOrder script_lt
script_order = ranks_by nat_list_cmp_total script_of

neither : (r s : Ordering) → r ≡ ordering_reverse s → (not (is_lt r) && not (is_lt s)) ≡ is_eq r
neither Less s e = refl
neither Equal Less e = absurd cc
neither Equal Equal e = refl
neither Equal Greater e = absurd cc
neither Greater Less e = refl
neither Greater Equal e = absurd cc
neither Greater Greater e = absurd cc

-- scripts that the order doesn't tell apart are equal
pub ties_script : (a b : List ℕ) → (not (is_lt (slice_cmp nat_cmp a b)) && not (is_lt (slice_cmp nat_cmp b a))) ≡ bytes_eq a b
ties_script a b = neither (slice_cmp nat_cmp a b) (slice_cmp nat_cmp b a) (nat_list_cmp_total.antisymm a b) ∙ is_eq-slice_cmp a b

-- some coin that pays to the script
pub with_script : List ℕ → Candidate
with_script script = record {
  coin = record { txid = []; index = 0 };
  value = 0;
  weight = 0;
  script = script;
  depth = 0;
  mine = false;
  safe = false;
  ancestors = 0;
  descendants = 0;
  price = 0;
}

pays_as_ties : (script : List ℕ) (c : Candidate) → pays_to script c ≡ ties script_lt (with_script script) c
unfolding with_script
pays_as_ties script c = sym (ties_script script c.script)

-- a stable sort by script keeps the coins of each script in their order
pub same_by_ties : (xs ys : List Candidate) → IsStableBy script_lt xs ys → (script : List ℕ) → of_script script ys ≡ of_script script xs
same_by_ties xs ys stable script =
    filter_agree (pays_to script) (ties script_lt (with_script script)) (pays_as_ties script) ys
    ∙ stable (with_script script)
    ∙ sym (filter_agree (pays_to script) (ties script_lt (with_script script)) (pays_as_ties script) xs)
