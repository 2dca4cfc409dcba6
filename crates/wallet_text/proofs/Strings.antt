-- Byte strings that are seen as lists.
use Rattle.std.proofs.Common.{◌≡◌, ℕ, Bool, true, false, cond, not, List, [], ◌∷◌, ◌++◌, ◌||◌, Vec, Global, bytes_eq, refl, sym, ap, ◌∙◌}
use Rattle.std.proofs.lemmas.List.{map-append}
use Rattle.std.specs.List.{list_any}
use Rattle.tx_codec.specs.Stack.{lists}
use Rattle.json_fields.specs.Fields.{is_among}

-- a string is among those that are held
pub is_among_lists : (held : List (Vec ℕ Global)) (string : List ℕ) → is_among (lists held) string ≡ list_any (λ (v : Vec ℕ Global). bytes_eq string v.items) held
is_among_lists [] string = refl
is_among_lists (v ∷ held) string = ap (λ b. bytes_eq string v.items || b) (is_among_lists held string)

-- what an insertion leaves
pub lists_inserted : (held new : List (Vec ℕ Global)) (copy : Vec ℕ Global) (string : List ℕ) → copy.items ≡ string
    → new ≡ cond (list_any (λ (v : Vec ℕ Global). bytes_eq copy.items v.items) held) held (held ++ copy ∷ []) → lists new ≡ cond (is_among (lists held) string) (lists held) (lists held ++ string ∷ [])
lists_inserted held new copy string same e =
    let test : list_any (λ (v : Vec ℕ Global). bytes_eq copy.items v.items) held ≡ is_among (lists held) string = sym (is_among_lists held copy.items) ∙ ap (is_among (lists held)) same in
    ap lists (e ∙ ap (λ b. cond b held (held ++ copy ∷ [])) test) ∙ by (is_among (lists held) string)
  where
    by : (b : Bool) → lists (cond b held (held ++ copy ∷ [])) ≡ cond b (lists held) (lists held ++ string ∷ [])
    by true = refl
    by false = map-append (λ (v : Vec ℕ Global). v.items) held (copy ∷ []) ∙ ap (λ s. lists held ++ s ∷ []) same

-- and whether it was new
pub fresh_string : (held : List (Vec ℕ Global)) (copy : Vec ℕ Global) (string : List ℕ) → copy.items ≡ string → not (list_any (λ (v : Vec ℕ Global). bytes_eq copy.items v.items) held) ≡ not (is_among (lists held) string)
fresh_string held copy string same = ap not (sym (is_among_lists held copy.items) ∙ ap (is_among (lists held)) same)
