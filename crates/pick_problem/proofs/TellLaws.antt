-- The bytes that a problem's digest takes tell the problem.
use Rattle.std.specs.Prelude.{◌≡◌, ℕ, ℤ, pos, negsuc, neg_ℤ, ◌+◌, ◌*◌, ◌^◌, ◌<◌, ◌≤ℤ◌, List, [], ◌∷◌, ◌++◌, take, length, All, FitsSigned}
use Rattle.std.specs.Int.{w32, w64, to_le_bytes, from_le_bytes, cast_unsigned, cast_signed}
use Rattle.std.specs.List.{flat_map}
use Rattle.std.proofs.Common.{refl, sym, ap, ◌∙◌, arith, length-append}
use Rattle.std.proofs.Math.Seq.{take-append_seam}
use Rattle.std.proofs.lemmas.Int.{ints, to_z-of_z}
use Rattle.std.proofs.lemmas.List.{append_cancel_left}
use Rattle.std.proofs.lemmas.List.Elements.{All-head, All-tail}
use Rattle.std.proofs.lemmas.Nat.{from_le_bytes-to_le_bytes_4, from_le_bytes-to_le_bytes_8}
use Rattle.pick_problem.specs.declared.item.Item.{Item}
use Rattle.pick_problem.specs.declared.item.Kind.{Kind}
use Rattle.pick_problem.specs.declared.item.Kind.TheVariants.{Changeless, Lean}
use Rattle.pick_problem.specs.Digest.{head_bytes, item_bytes, kind_byte, problem_bytes}
use Rattle.pick_problem.specs.Pool.{IsItem}
use Rattle.pick_problem.specs.Problem.{IsProblem, PlainProblem}

-- two texts with fronts of one length are the same part by part
abbrev Alike : List ℕ → List ℕ → List ℕ → List ℕ → Type 0
Alike a b x y = (a ≡ b) × (x ≡ y)

parted : (a b x y : List ℕ) → length a ≡ length b → a ++ x ≡ b ++ y → Alike a b x y
parted a b x y same e =
    let front : a ≡ b = sym (take-append_seam a x) ∙ ap (λ (n : ℕ). take n (a ++ x)) same ∙ ap (take (length b)) e ∙ take-append_seam b y in
    (front, append_cancel_left b x y (ap (λ (r : List ℕ). r ++ x) (sym front) ∙ e))

same64 : (m n : ℕ) → m < 2 ^ 64 → n < 2 ^ 64 → to_le_bytes w64 m ≡ to_le_bytes w64 n → m ≡ n
same64 m n fits fits_too e = sym (from_le_bytes-to_le_bytes_8 m fits) ∙ ap (from_le_bytes w64) e ∙ from_le_bytes-to_le_bytes_8 n fits_too

same32 : (m n : ℕ) → m < 2 ^ 32 → n < 2 ^ 32 → to_le_bytes w32 m ≡ to_le_bytes w32 n → m ≡ n
same32 m n fits fits_too e = sym (from_le_bytes-to_le_bytes_4 m fits) ∙ ap (from_le_bytes w32) e ∙ from_le_bytes-to_le_bytes_4 n fits_too

-- ---- costs

abbrev IsCost : ℤ → Type 0
IsCost z = (neg_ℤ (pos 10_000_000_000_000) ≤ℤ z) × (z ≤ℤ pos 1_000_000_000_000_000_000)

cost_fits : (z : ℤ) → IsCost z → FitsSigned w64 z
cost_fits (pos n) h = record { sfits = omega (arith, ints, h.1) }
cost_fits (negsuc n) h = record { sfits = omega (arith, ints, h.0) }

bits_fit : (z : ℤ) → IsCost z → cast_unsigned w64 z < 2 ^ 64
bits_fit (pos n) h = omega (arith, ints, h.1)
bits_fit (negsuc n) h = omega arith

same_cost : (y z : ℤ) → IsCost y → IsCost z → to_le_bytes w64 (cast_unsigned w64 y) ≡ to_le_bytes w64 (cast_unsigned w64 z) → y ≡ z
same_cost y z fits fits_too e =
    let same : cast_unsigned w64 y ≡ cast_unsigned w64 z = same64 (cast_unsigned w64 y) (cast_unsigned w64 z) (bits_fit y fits) (bits_fit z fits_too) e in
    sym (to_z-of_z w64 y (cost_fits y fits)) ∙ ap (cast_signed w64) same ∙ to_z-of_z w64 z (cost_fits z fits_too)

-- ---- items

item_is : (x y : Item) → x.value ≡ y.value → x.weight ≡ y.weight → x.cost ≡ y.cost → x ≡ y
item_is x y value weight cost =
    let made : ℕ → ℕ → ℤ → Item = λ v w c. record { value = v; weight = w; cost = c } in
    ap (λ (v : ℕ). made v x.weight x.cost) value ∙ ap (λ (w : ℕ). made y.value w x.cost) weight ∙ ap (λ (c : ℤ). made y.value y.weight c) cost

item_len : (x : Item) → length (item_bytes x) ≡ 24
unfolding item_bytes
item_len x = refl

same_item : (x y : Item) → IsItem x → IsItem y → item_bytes x ≡ item_bytes y → x ≡ y
unfolding item_bytes
same_item x y fits fits_too e =
    let weights = parted (to_le_bytes w64 x.value) (to_le_bytes w64 y.value) (to_le_bytes w64 x.weight ++ to_le_bytes w64 (cast_unsigned w64 x.cost)) (to_le_bytes w64 y.weight ++ to_le_bytes w64 (cast_unsigned w64 y.cost)) refl e in
    let costs = parted (to_le_bytes w64 x.weight) (to_le_bytes w64 y.weight) (to_le_bytes w64 (cast_unsigned w64 x.cost)) (to_le_bytes w64 (cast_unsigned w64 y.cost)) refl weights.1 in
    item_is x y
    (same64 x.value y.value (omega (arith, fits.value.1)) (omega (arith, fits_too.value.1)) weights.0)
    (same64 x.weight y.weight (omega (arith, fits.weight.1)) (omega (arith, fits_too.weight.1)) costs.0)
    (same_cost x.cost y.cost fits.cost fits_too.cost costs.1)

same_items : (xs ys : List Item) → All IsItem xs → All IsItem ys → flat_map item_bytes xs ≡ flat_map item_bytes ys → length xs ≡ length ys → xs ≡ ys
same_items [] [] fit fit_too e same = refl
same_items [] (y ∷ ys) fit fit_too e same = absurd (omega (arith, same))
same_items (x ∷ xs) [] fit fit_too e same = absurd (omega (arith, same))
same_items (x ∷ xs) (y ∷ ys) fit fit_too e same =
    let parts = parted (item_bytes x) (item_bytes y) (flat_map item_bytes xs) (flat_map item_bytes ys) (item_len x ∙ sym (item_len y)) e in
    let head : x ≡ y = same_item x y (All-head IsItem x xs fit) (All-head IsItem y ys fit_too) parts.0 in
    let tail : xs ≡ ys = same_items xs ys (All-tail IsItem x xs fit) (All-tail IsItem y ys fit_too) parts.1 (omega (arith, same)) in
    ap (λ (z : Item). z ∷ xs) head ∙ ap (λ (zs : List Item). y ∷ zs) tail

-- ---- problems

same_kind : (a b : Kind) → kind_byte a ≡ kind_byte b → a ≡ b
same_kind Changeless Changeless e = refl
same_kind Changeless Lean e = absurd (omega (arith, e))
same_kind Lean Changeless e = absurd (omega (arith, e))
same_kind Lean Lean e = refl

problem_is : (p q : PlainProblem) → p.items ≡ q.items → p.lo ≡ q.lo → p.hi ≡ q.hi → p.most_weight ≡ q.most_weight → p.kind ≡ q.kind → p ≡ q
problem_is p q items lo hi most kind =
    let made : List Item → ℕ → ℕ → ℕ → Kind → PlainProblem = λ i l h m k. record { items = i; lo = l; hi = h; most_weight = m; kind = k } in
    ap (λ (i : List Item). made i p.lo p.hi p.most_weight p.kind) items
    ∙ ap (λ (l : ℕ). made q.items l p.hi p.most_weight p.kind) lo
    ∙ ap (λ (h : ℕ). made q.items q.lo h p.most_weight p.kind) hi
    ∙ ap (λ (m : ℕ). made q.items q.lo q.hi m p.kind) most
    ∙ ap (λ (k : Kind). made q.items q.lo q.hi q.most_weight k) kind

head_len : (p : PlainProblem) → length (head_bytes p) ≡ 29
unfolding head_bytes
head_len p = refl

same_first : (m n : ℕ) (a b : List ℕ) → m ∷ a ≡ n ∷ b → (m ≡ n) × (a ≡ b)
same_first m n a b e = (cc, cc)

-- what stands before the items
pub record SameHead (p q : PlainProblem) : Type 0 where
  pub kind : p.kind ≡ q.kind
  pub lo : p.lo ≡ q.lo
  pub hi : p.hi ≡ q.hi
  pub most : p.most_weight ≡ q.most_weight
  pub count : length p.items ≡ length q.items

same_head : (p q : PlainProblem) → IsProblem p → IsProblem q → head_bytes p ≡ head_bytes q → SameHead p q
unfolding head_bytes
same_head p q is is_too e =
    let le : ℕ → List ℕ = to_le_bytes w64 in
    let count : PlainProblem → List ℕ = λ r. to_le_bytes w32 (length r.items) in
    let first = same_first (kind_byte p.kind) (kind_byte q.kind) (le p.lo ++ le p.hi ++ le p.most_weight ++ count p) (le q.lo ++ le q.hi ++ le q.most_weight ++ count q) e in
    let second = parted (le p.lo) (le q.lo) (le p.hi ++ le p.most_weight ++ count p) (le q.hi ++ le q.most_weight ++ count q) refl first.1 in
    let third = parted (le p.hi) (le q.hi) (le p.most_weight ++ count p) (le q.most_weight ++ count q) refl second.1 in
    let fourth = parted (le p.most_weight) (le q.most_weight) (count p) (count q) refl third.1 in
    record {
      kind = same_kind p.kind q.kind first.0;
      lo = same64 p.lo q.lo is.lo_fits is_too.lo_fits second.0;
      hi = same64 p.hi q.hi is.hi_fits is_too.hi_fits third.0;
      most = same64 p.most_weight q.most_weight is.weight_fits is_too.weight_fits fourth.0;
      count = same32 (length p.items) (length q.items) (omega (arith, is.items.few)) (omega (arith, is_too.items.few)) fourth.1;
    }

pub bytes_tell : (p q : PlainProblem) → IsProblem p → IsProblem q → problem_bytes p ≡ problem_bytes q → p ≡ q
bytes_tell p q is is_too e =
    let parts = parted (head_bytes p) (head_bytes q) (flat_map item_bytes p.items) (flat_map item_bytes q.items) (head_len p ∙ sym (head_len q)) e in
    let head = same_head p q is is_too parts.0 in
    problem_is p q (same_items p.items q.items is.items.each is_too.items.each parts.1 head.count) head.lo head.hi head.most head.kind

items_len : (xs : List Item) → length (flat_map item_bytes xs) ≡ 24 * length xs
items_len [] = refl
items_len (x ∷ xs) = omega (arith, items_len xs, length-append (item_bytes x) (flat_map item_bytes xs), item_len x)

pub bytes_len : (p : PlainProblem) → length (problem_bytes p) ≡ 29 + 24 * length p.items
bytes_len p = omega (arith, length-append (head_bytes p) (flat_map item_bytes p.items), head_len p, items_len p.items)
