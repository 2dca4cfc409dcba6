-- Names of members: which is the least, wherever they stand.
use Rattle.std.proofs.Common.{◌≡◌, ◌≢◌, ℕ, Bool, true, false, cond, List, [], ◌∷◌, ◌||◌, filter, find, fold, bytes_eq, is_some, Option, Some, None, option_map, Bor, Global, Contains, nat_cmp, is_none, is_eq, Ordering, Less, Equal, Greater, refl, sym, ap, ◌∙◌, true≢false}
use Rattle.std.proofs.lemmas.Cmp.{nat_list_cmp_total}
use Rattle.std.proofs.lemmas.Map.Text.{is_eq-slice_cmp}
use Rattle.std.proofs.lemmas.Slice.Eq.{bytes_eq-Decides}
use Rattle.std.specs.Cmp.Lexicographic.{slice_cmp}
use Rattle.std.specs.List.{list_any}
use Rattle.std.specs.Ordering.{ordering_reverse}
use Rattle.json.specs.Find as finds
use Rattle.json.specs.Json as json
use Rattle.json.specs.Strict.{keys}
use Rattle.json.specs.Value.{members_view}
use Rattle.json.specs.declared.value.Value.{Value}
use Rattle.serde_json.specs.Data.{Data, no_members}
use Rattle.serde_json.specs.Find.{get}
use Rattle.json_fields.specs.Fields.{texts, names_of, is_among, lesser, least, first_missing}
use Rattle.json_fields.specs.Tree.{data_of, lesser_than, members_data}
use Rattle.json_fields.proofs.Members.{is_among-Contains, Contains-is_among, is_some-get_member, Contains-filter, from_filter, least-Contains, least_below, least_none}
use Rattle.json_fields.proofs.Trees.{last_member}

-- a name is among those that are referred to
pub is_among_texts : (names : List (Bor (List ℕ))) (name : List ℕ) → is_among (texts names) name ≡ list_any (λ (n : Bor (List ℕ)). bytes_eq name n.now) names
is_among_texts [] name = refl
is_among_texts (n ∷ ns) name = ap (λ b. bytes_eq name n.now || b) (is_among_texts ns name)

-- the first missing name, among those that are referred to
pub first_missing_texts : (names : List (Bor (List ℕ))) (d : Data) → option_map (λ (n : Bor (List ℕ)). n.now) (find (λ (n : Bor (List ℕ)). is_none (get n.now d)) names) ≡ first_missing (texts names) d
first_missing_texts [] d = refl
first_missing_texts (n ∷ ns) d = by (is_none (get n.now d)) (first_missing_texts ns d)
  where
    by : (b : Bool) → option_map (λ (m : Bor (List ℕ)). m.now) (find (λ (m : Bor (List ℕ)). is_none (get m.now d)) ns) ≡ first_missing (texts ns) d
        → option_map (λ (m : Bor (List ℕ)). m.now) (cond b (Some n) (find (λ (m : Bor (List ℕ)). is_none (get m.now d)) ns)) ≡ cond b (Some n.now) (first_missing (texts ns) d)
    by true rest = refl
    by false rest = rest

-- the same of what was found
pub found_missing : (names : List (Bor (List ℕ))) (d : Data) (found : Option (Bor (List ℕ))) → found ≡ find (λ (n : Bor (List ℕ)). is_none (get n.now d)) names → option_map (λ (n : Bor (List ℕ)). n.now) found ≡ first_missing (texts names) d
found_missing names d found e = ap (option_map (λ (n : Bor (List ℕ)). n.now)) e ∙ first_missing_texts names d

-- ---- the least name, which doesn't depend on where the names stand

apart_none : (a b : List ℕ) → slice_cmp nat_cmp a b ≢ Less → slice_cmp nat_cmp b a ≢ Less → a ≡ b
apart_none a b above below = by (slice_cmp nat_cmp a b) refl
  where
    by : (o : Ordering) → slice_cmp nat_cmp a b ≡ o → a ≡ b
    by Less e = absurd (above e)
    by Equal e = (bytes_eq-Decides a b).0 (sym (is_eq-slice_cmp a b) ∙ ap is_eq e)
    by Greater e = absurd (below (nat_list_cmp_total.antisymm b a ∙ ap ordering_reverse e))

-- names that stand in each other's list have one least
same_least : (xs ys : List (List ℕ)) → ((name : List ℕ) → Contains xs name → Contains ys name) → ((name : List ℕ) → Contains ys name → Contains xs name) → least xs ≡ least ys
same_least xs ys there back = by (least xs) refl (least ys) refl
  where
    by : (a : Option (List ℕ)) → least xs ≡ a → (b : Option (List ℕ)) → least ys ≡ b → a ≡ b
    by None first None second = refl
    by None first (Some b) second = absurd (least_none xs b first (back b (least-Contains ys b second)))
    by (Some a) first None second = absurd (least_none ys a second (there a (least-Contains xs a first)))
    by (Some a) first (Some b) second = ap Some (apart_none a b (least_below ys b a second (there a (least-Contains xs a first))) (least_below xs a b first (back b (least-Contains ys b second))))

some_data : (o : Option json.Json) → is_some (option_map data_of o) ≡ is_some o
some_data None = refl
some_data (Some j) = refl

in_turn : (name k : List ℕ) → bytes_eq k name ≡ bytes_eq name k
in_turn name k = by (bytes_eq k name) refl (bytes_eq name k) refl
  where
    by : (a : Bool) → bytes_eq k name ≡ a → (b : Bool) → bytes_eq name k ≡ b → a ≡ b
    by true first true second = refl
    by true first false second = absurd (true≢false (sym ((bytes_eq-Decides name k).1 (sym ((bytes_eq-Decides k name).0 first))) ∙ second))
    by false first true second = absurd (true≢false (sym ((bytes_eq-Decides k name).1 (sym ((bytes_eq-Decides name k).0 second))) ∙ first))
    by false first false second = refl

-- a member of the text is found exactly where its name stands there
some_later : (o : Option json.Json) (b : Bool) (j : json.Json) → is_some (finds.later_or o (cond b (Some j) None)) ≡ (b || is_some o)
some_later None true j = refl
some_later None false j = refl
some_later (Some l) true j = refl
some_later (Some l) false j = refl

is_some_key : (name : List ℕ) (ms : json.Members) → is_some (finds.get_member name ms) ≡ is_among (keys ms) name
is_some_key name json.no_members = refl
is_some_key name (json.member k j ms) = some_later (finds.get_member name ms) (bytes_eq k name) j ∙ ap (λ b. b || is_some (finds.get_member name ms)) (in_turn name k) ∙ ap (λ b. bytes_eq name k || b) (is_some_key name ms)

-- the names of the object are those of the text
same_names : (name : List ℕ) (ms : json.Members) → is_among (names_of (members_data ms no_members)) name ≡ is_among (keys ms) name
same_names name ms = sym (is_some-get_member name (members_data ms no_members)) ∙ ap is_some (last_member name ms) ∙ some_data (finds.get_member name ms) ∙ is_some_key name ms

module _ (p : List ℕ → Bool) (ms : json.Members) where
  abbrev text_names : List (List ℕ)
  text_names = keys ms

  abbrev own_names : List (List ℕ)
  own_names = names_of (members_data ms no_members)

  pub least_of_text : least (filter p text_names) ≡ least (filter p own_names)
  least_of_text = same_least (filter p text_names) (filter p own_names)
      (λ name h. let is = from_filter p text_names name h in Contains-filter p own_names name (Contains-is_among own_names name (same_names name ms ∙ is_among-Contains text_names name is.0)) is.1)
      (λ name h. let is = from_filter p own_names name h in Contains-filter p text_names name (Contains-is_among text_names name (sym (same_names name ms) ∙ is_among-Contains own_names name is.0)) is.1)

-- the least of a name and those after it
abbrev pub least_with : Option (List ℕ) → List (List ℕ) → Option (List ℕ)
least_with None names = least names
least_with (Some name) names = Some (fold lesser name names)

pub one_with : (found : Option (List ℕ)) (name : List ℕ) (names : List (List ℕ)) → least_with found (name ∷ names) ≡ least_with (Some (lesser_than found name)) names
one_with None name names = refl
one_with (Some other) name names = refl

pub none_with : (found : Option (List ℕ)) → least_with found [] ≡ found
none_with None = refl
none_with (Some name) = refl

-- ---- a member more

module _ (p : List ℕ → Bool) (found : Option (List ℕ)) (m : Bor (List ℕ) × Value Global) (ms : List (Bor (List ℕ) × Value Global)) where
  pub kept : p m.0.now ≡ true → least_with found (filter p (keys (members_view (m ∷ ms)))) ≡ least_with (Some (lesser_than found m.0.now)) (filter p (keys (members_view ms)))
  kept passes = rw passes (one_with found m.0.now (filter p (keys (members_view ms))))

  pub dropped : p m.0.now ≡ false → least_with found (filter p (keys (members_view (m ∷ ms)))) ≡ least_with found (filter p (keys (members_view ms)))
  dropped fails = rw fails refl
