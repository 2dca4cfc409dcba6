-- Outpoints that compare as equal are the same, and their order is a total one.
use Rattle.std.specs.Prelude.{ℕ, ◌≡◌, ◌==◌, List, bytes_eq}
use Rattle.std.specs.Bool.{Decides}
use Rattle.std.specs.Cmp.{IsTotalOrder}
use Rattle.std.specs.Ordering.{ordering_then}
use Rattle.std.specs.declared.cmp.Ordering.{Ordering}
use Rattle.std.specs.declared.cmp.Ordering.TheVariants.{Less, Equal, Greater}
use Rattle.std.proofs.Common.{refl, ap, ◌∙◌}
use Rattle.std.proofs.lemmas.Bool.Decides.{Decides-and, Decides-eqb, Decides-like}
use Rattle.std.proofs.lemmas.Cmp.{nat_cmp_total, nat_list_cmp_total, on_total, then_total}
use Rattle.std.proofs.lemmas.Map.Lookups.{exact_bytes, exact_unsigned}
use Rattle.std.proofs.lemmas.Slice.Eq.{bytes_eq-Decides}
use Rattle.fund_base.specs.Outpoints.{outpoint_cmp, same_outpoint}
use Rattle.fund_base.specs.declared.outpoint.OutPoint.{OutPoint}

abbrev point : List ℕ → ℕ → OutPoint
point t i = record { txid = t; index = i }

same_parts : (t u : List ℕ) (i j : ℕ) → t ≡ u → i ≡ j → point t i ≡ point u j
same_parts t u i j p q = ap (λ (x : List ℕ). point x i) p ∙ ap (λ (n : ℕ). point u n) q

pub same_outpoint-Decides : (a b : OutPoint) → Decides (same_outpoint a b) (a ≡ b)
same_outpoint-Decides a b =
    Decides-like (same_outpoint a b) (λ h. same_parts a.txid b.txid a.index b.index h.0 h.1) (λ e. (ap (λ (p : OutPoint). p.txid) e, ap (λ (p : OutPoint). p.index) e))
    (Decides-and (bytes_eq a.txid b.txid) (a.index == b.index) (bytes_eq-Decides a.txid b.txid) (Decides-eqb a.index b.index))

pub outpoint_total : IsTotalOrder outpoint_cmp
outpoint_total = then_total (on_total (λ (p : OutPoint). p.txid) nat_list_cmp_total) (on_total (λ (p : OutPoint). p.index) nat_cmp_total)

-- two steps of a comparison that find nothing different
pub then_equal : (r s : Ordering) → ordering_then r s ≡ Equal → (r ≡ Equal) × (s ≡ Equal)
then_equal Less s h = absurd cc
then_equal Equal s h = (refl, h)
then_equal Greater s h = absurd cc

pub outpoint_equal : (a b : OutPoint) → outpoint_cmp a b ≡ Equal → a ≡ b
outpoint_equal a b e =
    let p = then_equal _ _ e in
    same_parts a.txid b.txid a.index b.index (exact_bytes a.txid b.txid p.0) (exact_unsigned a.index b.index p.1)
