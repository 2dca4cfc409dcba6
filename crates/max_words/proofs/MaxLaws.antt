-- The first recipient that gets all, word by word.
use Rattle.std.proofs.Common.{◌≡◌, ◌∙◌, ◌+◌, ◌<◌, ◌≤◌, ℕ, Bool, true, false, List, [], ◌∷◌, ◌++◌, length, get_or, drop, Option, Some, None, String, string_bytes, ap, sym, append_assoc, if◌then◌else◌}
use Rattle.std.specs.Prelude.{◌&&◌}
use Rattle.std.specs.declared.alloc.Global.{Global}
use Rattle.std.proofs.lemmas.List.{at_drop_all}
use Rattle.pay_words.proofs.Rest.{stands}
use Rattle.max_words.specs.Words.{is_max, is_payee, max_from}

pub max_here : (payee : Bool) (words : List (String Global)) (i : ℕ) (word : String Global) → i < length words → word ≡ get_or words i word
    → max_from payee i (drop i words) ≡ (if payee && is_max (string_bytes word) then Some i else max_from (is_payee (string_bytes word)) (i + 1) (drop (i + 1) words))
unfolding max_from
max_here payee words i word lt is = stands (max_from payee i) words i word lt is

pub max_nowhere : (payee : Bool) (words : List (String Global)) (i : ℕ) → length words ≤ i → max_from payee i (drop i words) ≡ None
unfolding max_from
max_nowhere payee words i le = at_drop_all (max_from payee i) words i le

-- words that are added one after the other to none
pub three_parts : (none a b whole front rest : List (List ℕ)) (word : List ℕ) → none ≡ [] → a ≡ none ++ front → b ≡ a ++ word ∷ [] → whole ≡ b ++ rest → whole ≡ front ++ (word ∷ rest)
three_parts none a b whole front rest word start one two three =
    three ∙ ap (λ (t : List (List ℕ)). t ++ rest) (two ∙ ap (λ (t : List (List ℕ)). t ++ word ∷ []) (one ∙ ap (λ (t : List (List ℕ)). t ++ front) start)) ∙ append_assoc front (word ∷ []) rest
