-- What reading JSON gives.
use Rattle.std.proofs.Common.{◌≡◌, ℕ, Bool, true, false, cond, List, [], ◌∷◌, Option, Some, None, Ok, Err, Global, is_some, option_and_then, refl, ap, subst, ◌∙◌}
use Rattle.std.specs.Option.{ok_or}
use Rattle.std.specs.Str.{IsUtf8, is_utf8}
use Rattle.std.proofs.lemmas.Str.{is_utf8-from_IsUtf8, IsUtf8-from_is_utf8}
use Rattle.serde_json.specs.Data.{Data}
use Rattle.json.specs.Json as json
use Rattle.json.specs.Json.{if_last, value}
use Rattle.json.specs.Lex.{tokens}
use Rattle.json.specs.Reads.{Yields, token_of}
use Rattle.json.specs.Token.{Token}
use Rattle.json.specs.Value.{value_view}
use Rattle.json.specs.declared.token.Token as next
use Rattle.json.specs.declared.value.Value.{Value}
use Rattle.serde_json.specs.Read.{max_depth, of_json, read}
use Rattle.json_fields.specs.declared.fault.FieldFault.TheVariants.{NotJson}
use Rattle.json_fields.specs.Fields.{parsed, value_of}
use Rattle.json_fields.specs.Tree.{is_in_range, view}
use Rattle.json_fields.proofs.Trees.{taken, refused}

-- a text is what it is read as
pub value_of_text : (bytes : List ℕ) (d : Data) → IsUtf8 bytes → read bytes ≡ Some d → value_of bytes ≡ Ok d
unfolding value_of parsed
value_of_text bytes d utf8 e = rw (is_utf8-from_IsUtf8 bytes utf8, e) refl

pub no_value_of : (bytes : List ℕ) → (IsUtf8 bytes → read bytes ≡ None) → value_of bytes ≡ Err NotJson
unfolding value_of parsed
no_value_of bytes h = by_test (is_utf8 bytes) refl
  where
    by_test : (b : Bool) → is_utf8 bytes ≡ b → ok_or (cond (is_utf8 bytes) (read bytes) None) NotJson ≡ Err NotJson
    by_test true e = rw (e, h (IsUtf8-from_is_utf8 bytes e)) refl
    by_test false e = rw e refl

-- ---- the value of a tree

-- the value that the tokens are, where none is left
abbrev whole : Option (json.Json × List Token) → Option json.Json
whole o = option_and_then (λ p. if_last p.0 p.1) o

-- no token is left, and no number is too large
pub read_of : (bytes text : List ℕ) (v : Value Global) → IsUtf8 bytes → text ≡ bytes → value max_depth (tokens text) ≡ Some (value_view v, []) → is_in_range (value_view v) ≡ true → value_of bytes ≡ Ok (view v)
read_of bytes text v utf8 same e fits = value_of_text bytes (view v) utf8 (subst (λ s. read s ≡ Some (view v)) same (ap (λ o. option_and_then of_json (whole o)) e ∙ taken (value_view v) fits))

-- a number is too large
pub too_large : (bytes text : List ℕ) (v : Value Global) → text ≡ bytes → value max_depth (tokens text) ≡ Some (value_view v, []) → is_in_range (value_view v) ≡ false → value_of bytes ≡ Err NotJson
too_large bytes text v same e fits = no_value_of bytes (λ utf8. subst (λ s. read s ≡ None) same (ap (λ o. option_and_then of_json (whole o)) e ∙ refused (value_view v) fits))

-- a token is left
pub some_left : (bytes text : List ℕ) (v : Value Global) (t : Token) (ts : List Token) → text ≡ bytes → value max_depth (tokens text) ≡ Some (value_view v, t ∷ ts) → value_of bytes ≡ Err NotJson
some_left bytes text v t ts same e = no_value_of bytes (λ utf8. subst (λ s. read s ≡ None) same (ap (λ o. option_and_then of_json (whole o)) e))

-- there is no value
pub none_left : (bytes text : List ℕ) → text ≡ bytes → value max_depth (tokens text) ≡ None → value_of bytes ≡ Err NotJson
none_left bytes text same e = no_value_of bytes (λ utf8. subst (λ s. read s ≡ None) same (ap (λ o. option_and_then of_json (whole o)) e))

-- what the next token says of those that are left
pub next_some : (old new : List Token) (o : Option next.Token) → is_some o ≡ true → Yields old o new → (t : Token) × (ts : List Token) × (old ≡ t ∷ ts)
next_some old new None e h = absurd (cc e)
next_some old new (Some t) e h = (token_of t, new, h)

pub next_none : (old new : List Token) (o : Option next.Token) → is_some o ≡ false → Yields old o new → old ≡ []
next_none old new None e h = h.0
next_none old new (Some t) e h = absurd (cc e)
