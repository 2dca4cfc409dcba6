-- A map that gets one due pair after another.
use Rattle.std.proofs.Common.{◌≡◌, ◌∙◌, ◌+◌, ◌<◌, ℕ, List, [], ◌∷◌, ◌++◌, length, drop, take, get_or, refl, sym, ap, subst, inl, inr, arith, length-append}
use Rattle.std.specs.Prelude.{All, AllPairs, Contains}
use Rattle.std.specs.Cmp.Lexicographic.{slice_cmp}
use Rattle.std.specs.List.{insert}
use Rattle.std.specs.Ordering.{nat_cmp}
use Rattle.std.specs.declared.cmp.Ordering.TheVariants.{Less}
use Rattle.std.proofs.Math.Seq.{get_or-append_seam}
use Rattle.std.proofs.lemmas.Bool.{cases_order}
use Rattle.std.proofs.lemmas.Cmp.{nat_list_cmp_total}
use Rattle.std.proofs.lemmas.List.{drop_more, get_or_append_left, get_or_default, length-take-le, take-append-drop, take_more}
use Rattle.std.proofs.lemmas.List.Elements.{Contains-append_left, Contains-get_or, Contains-push, Contains-push_cases}
use Rattle.psbt_codec.specs.Psbt.{HaveOtherKeys, Pair}
use Rattle.psbt_keys.specs.Extended.{Agrees, AreRising, HasOtherValue, IsConflict, IsExtended}
use Rattle.psbt_keys.specs.Pairs.{type_of}
use Rattle.psbt_keys.specs.Placing.{IsPlaced, IsPut}
use Rattle.psbt_keys.proofs.PlaceLaws.{all_pairs_insert, before_is, behind_is, has_none, in_insert, insert_has, insert_keeps, part_of_insert, part_of_itself}

-- ---- one more pair

pub extended_none : (old : List Pair) → AllPairs HaveOtherKeys old → IsExtended [] old old
extended_none old alone = record {
  kept = part_of_itself old;
  each = λ q. (λ h. inl h, λ h. elim h [ inl a ↦ a | inr none ↦ absurd (has_none q none) ]);
  alone = alone;
  rising = λ h. h;
}

-- a pair that stands already
stood : (taken old now : List Pair) (q : Pair) → IsExtended taken old now → Contains now q → IsExtended (taken ++ q ∷ []) old now
stood taken old now q g there = record {
  kept = g.kept;
  each = λ x. (
    λ h. elim ((g.each x).0 h) [ inl a ↦ inl a | inr b ↦ inr (Contains-append_left taken (q ∷ []) x b) ],
    λ h. elim h [
      | inl a ↦ (g.each x).1 (inl a)
      | inr b ↦ elim (Contains-push_cases taken q x b) [ inl c ↦ (g.each x).1 (inr c) | inr same ↦ subst (λ (y : Pair). Contains now y) same there ]
    ],
  );
  alone = g.alone;
  rising = g.rising;
}

-- the keys rise behind the insertion too
rises : (now : List Pair) (q : Pair) (new : List Pair) → (p : IsPut q now new) → AreRising now → AreRising (insert now p.place q)
rises now q new p rising =
    let place = p.place_is in
    let within = place.within in
    all_pairs_insert (λ (x y : Pair). slice_cmp nat_cmp x.key y.key ≡ Less) now p.place q within rising
    (λ k d lt. behind_is q.key (get_or now k d).key (place.before k d lt) (p.absent k d (omega (arith, lt, within))))
    (λ k d le lt.
    let here : p.place < length now = omega (arith, le, lt) in
    let first : slice_cmp nat_cmp q.key (get_or now p.place d).key ≡ Less = before_is q.key (get_or now p.place d).key (place.behind d here) in
    elim (cases_order p.place k) [
      | inl same ↦ subst (λ (n : ℕ). slice_cmp nat_cmp q.key (get_or now n d).key ≡ Less) same first
      | inr other ↦ elim other [
        | inl below ↦ nat_list_cmp_total.trans q.key (get_or now p.place d).key (get_or now k d).key first (rising p.place k d below lt)
        | inr above ↦ absurd (omega (arith, le, above))
      ]
    ])

-- a pair that was put
was_put : (taken old now : List Pair) (q : Pair) (new : List Pair) → IsExtended taken old now → (p : IsPut q now new) → IsExtended (taken ++ q ∷ []) old (insert now p.place q)
was_put taken old now q new g p =
    let within = p.place_is.within in
    record {
      kept = part_of_insert old now p.place q g.kept;
      each = λ x. (
        λ h. elim (in_insert now p.place q x h) [
          | inl a ↦ elim ((g.each x).0 a) [ inl b ↦ inl b | inr c ↦ inr (Contains-append_left taken (q ∷ []) x c) ]
          | inr same ↦ inr (subst (λ (y : Pair). Contains (taken ++ q ∷ []) y) same (Contains-push taken q))
        ],
        λ h. elim h [
          | inl a ↦ insert_keeps now p.place q x ((g.each x).1 (inl a))
          | inr b ↦ elim (Contains-push_cases taken q x b) [
            | inl c ↦ insert_keeps now p.place q x ((g.each x).1 (inr c))
            | inr same ↦ subst (λ (y : Pair). Contains (insert now p.place q) y) same (insert_has now p.place q)
          ]
        ],
      );
      alone = all_pairs_insert HaveOtherKeys now p.place q within g.alone
          (λ k d lt. p.absent k d (omega (arith, lt, within)))
          (λ k d le lt same. p.absent k d lt (sym same));
      rising = λ h. rises now q new p (g.rising h);
    }

pub extended_more : (taken old now new : List Pair) (q : Pair) → IsExtended taken old now → IsPlaced q now new → IsExtended (taken ++ q ∷ []) old new
extended_more taken old now new q g (inl h) = subst (λ (l : List Pair). IsExtended (taken ++ q ∷ []) old l) (sym h.1) (stood taken old now q g h.0)
extended_more taken old now new q g (inr p) = subst (λ (l : List Pair). IsExtended (taken ++ q ∷ []) old l) (sym p.new_is) (was_put taken old now q new g p)

-- ---- pairs in the way

-- in a list without two of one key, pairs of one key are the same
one_key : (pairs : List Pair) (p q : Pair) → AllPairs HaveOtherKeys pairs → Contains pairs p → Contains pairs q → p.key ≡ q.key → p ≡ q
one_key pairs p q alone a b same =
    let at_q : get_or pairs b.0 p ≡ q = get_or_default pairs b.0 p q b.1 ∙ b.2 in
    elim (cases_order a.0 b.0) [
      | inl here ↦ sym a.2 ∙ ap (λ (i : ℕ). get_or pairs i p) here ∙ at_q
      | inr other ↦ elim other [
        | inl lt ↦ absurd (alone a.0 b.0 p lt b.1 (ap (λ (x : Pair). x.key) a.2 ∙ same ∙ ap (λ (x : Pair). x.key) (sym at_q)))
        | inr gt ↦ absurd (alone b.0 a.0 p gt a.1 (ap (λ (x : Pair). x.key) at_q ∙ sym same ∙ ap (λ (x : Pair). x.key) (sym a.2)))
      ]
    ]

-- no pair of a map that was extended stands in the way
pub agreed : (due old new : List Pair) → IsExtended due old new → Agrees due old
agreed due old new g = λ k d lt w.
    let q = get_or due k d in
    let in_old = (g.each w.0).1 (inl w.1) in
    let in_due = (g.each q).1 (inr (Contains-get_or due k d lt)) in
    w.3 (ap (λ (x : Pair). x.value) (one_key new w.0 q g.alone in_old in_due w.2))

-- an element that stands before another one is to it as each is to a later one
apart : (R : Pair → Pair → Type 0) (xs : List Pair) (y : Pair) (zs : List Pair) (x : Pair) → AllPairs R (xs ++ y ∷ zs) → Contains xs x → R x y
apart R xs y zs x all h =
    let left : get_or (xs ++ y ∷ zs) h.0 x ≡ x = get_or_append_left xs (y ∷ zs) x h.0 h.1 ∙ h.2 in
    let right : get_or (xs ++ y ∷ zs) (length xs) x ≡ y = get_or-append_seam xs y zs x in
    let both = all h.0 (length xs) x h.1 (omega (arith, length-append xs (y ∷ zs))) in
    subst (λ (u : Pair). R u y) left (subst (λ (v : Pair). R (get_or (xs ++ y ∷ zs) h.0 x) v) right both)

-- what stands in the way of a due pair stood there at first
pub in_the_way : (taken old now left : List Pair) (q : Pair) → AllPairs HaveOtherKeys (taken ++ q ∷ left) → IsExtended taken old now → HasOtherValue now q → HasOtherValue old q
in_the_way taken old now left q distinct g w =
    elim ((g.each w.0).0 w.1) [
      | inl a ↦ (w.0, a, w.2, w.3)
      | inr b ↦ absurd (apart HaveOtherKeys taken q left w.0 distinct b w.2)
    ]

pub conflict : (due taken old now left : List Pair) (q : Pair) → due ≡ taken ++ q ∷ left → AllPairs HaveOtherKeys due → IsExtended taken old now → HasOtherValue now q → IsConflict due old (length taken) (type_of q)
conflict due taken old now left q parts distinct g w = record {
  before = taken;
  pair = q;
  behind = left;
  parts = parts;
  place_is = refl;
  kind_is = refl;
  agree = agreed taken old now g;
  differs = in_the_way taken old now left q (subst (λ (l : List Pair). AllPairs HaveOtherKeys l) parts distinct) g w;
}

-- the same of the due pair at a place
pub conflict_at : (due old now : List Pair) (q : Pair) (i : ℕ) → i < length due → q ≡ get_or due i q → AllPairs HaveOtherKeys due → IsExtended (take i due) old now → HasOtherValue now q → IsConflict due old i (type_of q)
conflict_at due old now q i lt is distinct g w =
    let behind : drop i due ≡ q ∷ drop (i + 1) due = drop_more due i q lt ∙ ap (λ (y : Pair). y ∷ drop (i + 1) due) (sym is) in
    let parts : due ≡ take i due ++ q ∷ drop (i + 1) due = sym (take-append-drop i due) ∙ ap (λ (l : List Pair). take i due ++ l) behind in
    subst (λ (n : ℕ). IsConflict due old n (type_of q)) (length-take-le i due (omega (arith, lt))) (conflict due (take i due) old now (drop (i + 1) due) q parts distinct g w)

-- so many due pairs and one more
pub extended_next : (due old now new : List Pair) (q : Pair) (i : ℕ) → i < length due → q ≡ get_or due i q → IsExtended (take i due) old now → IsPlaced q now new → IsExtended (take (i + 1) due) old new
extended_next due old now new q i lt is g placed =
    let more : take (i + 1) due ≡ take i due ++ q ∷ [] = take_more due i q lt ∙ ap (λ (y : Pair). take i due ++ y ∷ []) (sym is) in
    subst (λ (l : List Pair). IsExtended l old new) (sym more) (extended_more (take i due) old now new q g placed)

-- ---- the law of adding twice

pub all_stand : (due old new : List Pair) → IsExtended due old new → All (Contains new) due
all_stand due old new g = λ k d lt. (g.each (get_or due k d)).1 (inr (Contains-get_or due k d lt))
