use Rattle.std.proofs.Common.{◌+◌, ◌≤◌, ◌∙◌, ap, subst, sym}
use Rattle.std.specs.Prelude.{ℕ, List, All, filter, length, map}
use Rattle.std.proofs.lemmas.List.Elements.{All-filter, All-weaker}
use Rattle.coin_candidates.specs.declared.candidate.Candidate.{Candidate}
use Rattle.pick_problem.specs.Problem.{Rising}
use Rattle.output_groups.specs.Formed.{IsFormed, coins_at, keeps_formed}
use Rattle.output_groups.specs.Places.{members}
use Rattle.output_groups.specs.PlainGroups.{PlainGroups, pool_in}
use Rattle.output_groups.specs.declared.formed.Formed.{Formed}
use Rattle.output_groups.proofs.PlacedLaws.{count_seen, groups_seen}
use Rattle.output_groups.proofs.groups.Groups.members.Goals as goal

abbrev stands_in : List Candidate → Formed → Type 0
stands_in cs f = f.start + f.size ≤ length cs

pub members-requires-clause-within : goal.members-requires-clause-within
members-requires-clause-within c =
    let row = c.args.row.now in
    let in_it = c.self.inside in
    let coins = in_it.coins.items in
    let kept_is = c.deref-3.ensures.value ∙ c.in_ok-kept.ensures ∙ ap (filter (keeps_formed row)) c.deref.ensures.value in
    let each : All (stands_in coins) (filter (keeps_formed row) in_it.formed.items) =
    All-weaker (IsFormed in_it.rate in_it.long_term coins) (stands_in coins) (λ f is. is.within) (filter (keeps_formed row) in_it.formed.items)
    (All-filter (keeps_formed row) (IsFormed in_it.rate in_it.long_term coins) in_it.formed.items c.self.invariant.each) in
    subst (λ (cs : List Candidate). All (stands_in cs) c.deref-3.result.now) (sym c.deref-2.ensures.value) (subst (All (stands_in coins)) (sym kept_is) each)

pub members-requires-clause-places : goal.members-requires-clause-places
members-requires-clause-places c =
    let row = c.args.row.now in
    let in_it = c.self.inside in
    let kept_is = c.deref-3.ensures.value ∙ c.in_ok-kept.ensures ∙ ap (filter (keeps_formed row)) c.deref.ensures.value in
    let same =
    ap (λ (fs : List Formed). length fs) kept_is
    ∙ count_seen in_it.group row in_it.rate in_it.long_term in_it.candidates.now in_it.coins.items in_it.formed.items c.self.invariant
    ∙ ap (λ (g : PlainGroups). length (pool_in g row).groups) c.self.view_is in
    subst (λ (n : ℕ). Rising n 0 c.args.places.now) (sym same) c.requires

pub returns : goal.returns
returns c =
    let row = c.args.row.now in
    let in_it = c.self.inside in
    let places = c.args.places.now in
    let kept_is = c.deref-3.ensures.value ∙ c.in_ok-kept.ensures ∙ ap (filter (keeps_formed row)) c.deref.ensures.value in
    c.in_ok-members.ensures
    ∙ ap (λ (cs : List Candidate). members (map (coins_at cs) c.deref-3.result.now) places) c.deref-2.ensures.value
    ∙ ap (λ (fs : List Formed). members (map (coins_at in_it.coins.items) fs) places) kept_is
    ∙ ap (λ (gs : List (List Candidate)). members gs places) (groups_seen in_it.group row in_it.rate in_it.long_term in_it.candidates.now in_it.coins.items in_it.formed.items c.self.invariant ∙ ap (λ (g : PlainGroups). (pool_in g row).groups) c.self.view_is)
