-- A name that stands twice has its last value.
use Rattle.std.proofs.Common.{◌≡◌, ℕ, Bool, true, false, cond, List, Option, Some, None, option_map, option_and_then, bytes_eq, refl, sym, ap, subst, ◌∙◌, true≢false}
use Rattle.std.proofs.lemmas.Slice.Eq.{bytes_eq-Decides}
use Rattle.std.specs.Option.{option_or}
use Rattle.std.specs.Str.{is_utf8}
use Rattle.json.specs.Json as json
use Rattle.serde_json.proofs.Views.{get_member-put, get_member-put_other}
use Rattle.serde_json.specs.Data.{Data, object, Members, no_members, put}
use Rattle.serde_json.specs.Find.{get, get_member}
use Rattle.serde_json.specs.Read.{of_json, of_members, read}
use Rattle.json_fields.specs.Fields.{parsed}
use Rattle.json_fields.specs.Rules.{text_of, last_value}

-- a value of the text, and else what was found before
abbrev or_before : Option json.Json → Option Data → Option Data
or_before None before = before
or_before (Some j) before = of_json j

one_more : (name k : List ℕ) (j : json.Json) (d : Data) (later : Option json.Json) (found : Members) → of_json j ≡ Some d
    → or_before later (get_member name (put k d found)) ≡ or_before (option_or later (cond (bytes_eq name k) (Some j) None)) (get_member name found)
one_more name k j d (Some l) found e = refl
one_more name k j d None found e = by (bytes_eq name k) refl
  where
    by : (b : Bool) → bytes_eq name k ≡ b → get_member name (put k d found) ≡ or_before (cond b (Some j) None) (get_member name found)
    by true same = subst (λ q. get_member q (put k d found) ≡ of_json j) (sym ((bytes_eq-Decides name k).0 same)) (get_member-put k d found ∙ sym e)
    by false other = get_member-put_other name k d found (λ is. true≢false (sym ((bytes_eq-Decides name k).1 is) ∙ other))

members_last : (name : List ℕ) (ms : json.Members) (found out : Members) → of_members ms found ≡ Some out → get_member name out ≡ or_before (last_value name ms) (get_member name found)
members_last name json.no_members found out e = ap (get_member name) (sym (cc e))
members_last name (json.member k j ms) found out e = by (of_json j) refl e (λ d. members_last name ms (put k d found) out)
  where
    by : (o : Option Data) → of_json j ≡ o → option_and_then (λ d. of_members ms (put k d found)) o ≡ Some out → ((d : Data) → of_members ms (put k d found) ≡ Some out → get_member name out ≡ or_before (last_value name ms) (get_member name (put k d found)))
        → get_member name out ≡ or_before (option_or (last_value name ms) (cond (bytes_eq name k) (Some j) None)) (get_member name found)
    by None is reads rest = absurd (cc reads)
    by (Some d) is reads rest = rest d reads ∙ one_more name k j d (last_value name ms) found is

or_none : (o : Option json.Json) → or_before o None ≡ option_and_then of_json o
or_none None = refl
or_none (Some j) = refl

pub last : (ms : json.Members) (d : Data) (name : List ℕ) → of_json (json.object ms) ≡ Some d → get name d ≡ option_and_then of_json (last_value name ms)
last ms d name e = by (of_members ms no_members) refl e
  where
    by : (o : Option Members) → of_members ms no_members ≡ o → option_map object o ≡ Some d → get name d ≡ option_and_then of_json (last_value name ms)
    by None is reads = absurd (cc reads)
    by (Some out) is reads = let e : object out ≡ d = cc reads in subst (λ v. get name v ≡ option_and_then of_json (last_value name ms)) e (members_last name ms no_members out is ∙ or_none (last_value name ms))

-- a value is read from the text that the bytes are
pub text : (bytes : List ℕ) (d : Data) → parsed bytes ≡ Some d → (j : json.Json) × (text_of bytes ≡ Some j) × (of_json j ≡ Some d)
unfolding parsed
text bytes d e = by (is_utf8 bytes) e
  where
    from : (o : Option json.Json) → text_of bytes ≡ o → option_and_then of_json o ≡ Some d → (j : json.Json) × (text_of bytes ≡ Some j) × (of_json j ≡ Some d)
    from None is reads = absurd (cc reads)
    from (Some j) is reads = (j, is, reads)

    by : (b : Bool) → cond b (read bytes) None ≡ Some d → (j : json.Json) × (text_of bytes ≡ Some j) × (of_json j ≡ Some d)
    by true reads = from (text_of bytes) refl reads
    by false reads = absurd (cc reads)
