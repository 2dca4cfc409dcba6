-- The fault of a list, from what is wrong with it.
use Rattle.std.proofs.Common.{◌≡◌, ℕ, List, [], ◌∷◌, Result, Err, refl, sym, ap, ◌∙◌, inl, inr}
use Rattle.std.specs.Prelude.{◌↔◌}
use Rattle.fund_base.specs.Parsing.{◌>>=◌, fault_as}
use Rattle.json_fields.proofs.ListLaws as lists
use Rattle.json_fields.specs.Fields.{each_from, entries_at}
use Rattle.json_fields.specs.declared.fault.FieldFault.{FieldFault}
use Rattle.json_fields.specs.declared.fault.FieldFault.TheVariants.{Kind}
use Rattle.serde_json.specs.Data.{Data, null, boolean, number, string, array, object, Items, no_items, item}
use Rattle.serde_json.specs.View.{items_of}
use Rattle.entry_laws.specs.Forms.{IsListFault, IsNoList}

-- entries are those of a list
pub listed : (items : Items) → (ds : List Data) × (items ≡ items_of ds)
listed no_items = ([], refl)
listed (item d items) = let rest = listed items in (d ∷ rest.0, ap (λ i. item d i) rest.1)

-- a value is a list or none
pub data IsListed (d : Data) : Type 0 where
  list : (ds : List Data) → d ≡ array (items_of ds) → IsListed d
  none : IsNoList d → ((name : List ℕ) → entries_at name d ≡ Err (Kind name)) → IsListed d

pub what_is : (d : Data) → IsListed d
what_is (array items) = let l = listed items in list l.0 (ap (λ i. array i) l.1)
what_is null = none (λ ds e. absurd (cc e)) (λ name. refl)
what_is (boolean b) = none (λ ds e. absurd (cc e)) (λ name. refl)
what_is (number n) = none (λ ds e. absurd (cc e)) (λ name. refl)
what_is (string s) = none (λ ds e. absurd (cc e)) (λ name. refl)
what_is (object ms) = none (λ ds e. absurd (cc e)) (λ name. refl)

-- the fault of a list that is read entry by entry, as it is told
pub law : {A E : Type 0} (tell : FieldFault → E) (name : List ℕ) (reading : List A → Data → Result A E) (d : Data) (fault : E)
    → ((fault_as tell (entries_at name d) >>= λ items. each_from reading [] items) ≡ Err fault) ↔ IsListFault tell name reading d fault
law {A} {E} tell name reading d fault = (λ e. found (what_is d) e, only)
  where
    whole : Data → Result (List A) E
    whole x = fault_as tell (entries_at name x) >>= λ items. each_from reading [] items

    found : IsListed d → whole d ≡ Err fault → IsListFault tell name reading d fault
    found (list ds is) e = inr (ds, is, lists.first reading ds fault (sym (ap whole is) ∙ e))
    found (none is reads) e =
        let told : whole d ≡ Err (tell (Kind name)) = ap (λ r. fault_as tell r >>= λ items. each_from reading [] items) (reads name) in
        inl (cc (told, e), is)

    only : IsListFault tell name reading d fault → whole d ≡ Err fault
    only (inl is) = by (what_is d)
      where
        by : IsListed d → whole d ≡ Err fault
        by (list ds at) = absurd (is.1 ds at)
        by (none never reads) = ap (λ r. fault_as tell r >>= λ items. each_from reading [] items) (reads name) ∙ ap (λ f. Err f) (sym is.0)
    only (inr is) = ap whole is.1 ∙ lists.refused reading is.0 fault is.2
