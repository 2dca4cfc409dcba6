-- Lists that are gone through from the front until something is found.
use Rattle.std.proofs.Common.{◌≡◌, ◌≢◌, ◌∙◌, ◌<◌, ◌≤◌, ℕ, zero, suc, List, [], ◌∷◌, length, get_or, map, Option, Some, refl, sym, ap, subst, arith}
use Rattle.std.specs.Prelude.{All, option_map, slice_get}
use Rattle.std.proofs.lemmas.List.Elements.{All-from_get_or, All-get_or, All-nil}
use Rattle.std.proofs.lemmas.Option.{get_or_from_slice_get, same_Some, slice_get-get_or, slice_get-map, slice_get_read, slice_get_within}
use Rattle.fund_base.specs.Least.{IsLeast}
use Rattle.psbt_codec.specs.Fault.{shown}
use Rattle.tx_codec.specs.declared.tx.TxIn.{TxIn}
use Rattle.tx_codec.specs.Transaction.{Transaction}
use Rattle.settle_check.specs.Broken.{IsFirstHeavier, IsFirstOther, IsFirstUnsigned, IsHeavierAt, IsHeavierBy, IsUnsignedAt}
use Rattle.settle_check.specs.Settled.{AreWithin, IsUnsigned, true_weight_of}

-- what is so at a place, and at none before it, is so there first
pub least_at : (P : ℕ → Type 0) (i : ℕ) → P i → ((k : ℕ) → k < i → P k → ⊥) → IsLeast P i
least_at P i here before = record {
  holds = here;
  least = λ m there. let never : m < i → ⊥ = λ lt. before m lt there in omega (arith, never);
}

-- it is so first at one place
pub one_least : (P : ℕ → Type 0) (m n : ℕ) → IsLeast P m → IsLeast P n → m ≡ n
one_least P m n a b = let below = a.least n b.holds in let above = b.least m a.holds in omega arith

-- what a loop reads at an index stands there
pub stands : {X : Type 0} (xs : List X) (i : ℕ) (x : X) → i < length xs → x ≡ get_or xs i x → slice_get xs i ≡ Some x
stands xs i x lt e = slice_get_read xs (length xs) i x refl lt e

pub mapped : {X Y : Type 0} (f : X → Y) (xs : List X) (i : ℕ) (x : X) → slice_get xs i ≡ Some x → slice_get (map f xs) i ≡ Some (f x)
mapped {X = X} f xs i x e = slice_get-map f xs i ∙ ap (λ (o : Option X). option_map f o) e

pub same_entry : {X : Type 0} (o p : Option X) (x y : X) → o ≡ Some x → p ≡ Some y → x ≡ y → o ≡ p
same_entry {X = X} o p x y a b e = a ∙ ap (λ (z : X). Some z) e ∙ sym b

-- lists with the same entries are the same
pub same_lists : {X : Type 0} (xs ys : List X) → length xs ≡ length ys → ((k : ℕ) → k < length xs → slice_get xs k ≡ slice_get ys k) → xs ≡ ys
same_lists [] [] long each = refl
same_lists [] (y ∷ ys) long each = absurd (omega (arith, long))
same_lists (x ∷ xs) [] long each = absurd (omega (arith, long))
same_lists {X = X} (x ∷ xs) (y ∷ ys) long each =
    let head : x ≡ y = same_Some x y (each zero (omega arith)) in
    let tail : xs ≡ ys = same_lists xs ys (omega (arith, long)) (λ k lt. each (suc k) (omega (arith, lt))) in
    ap (λ (z : X). z ∷ xs) head ∙ ap (λ (l : List X). y ∷ l) tail

-- the first other entry
pub first_other : {X : Type 0} (xs ys : List X) (i index : ℕ) (x y : X) → slice_get xs i ≡ Some x → slice_get ys i ≡ Some y → (x ≡ y → ⊥)
    → ((k : ℕ) → k < i → slice_get xs k ≡ slice_get ys k) → index ≡ shown i → IsFirstOther xs ys index
first_other xs ys i index x y a b other before is = record {
  place = i;
  first = least_at (λ k. slice_get xs k ≢ slice_get ys k) i (λ e. other (same_Some x y (sym a ∙ e ∙ b))) (λ k lt ne. ne (before k lt));
  index_is = is;
}

-- what is so of the entry at each index is so of all
pub all_read : {X : Type 0} (P : X → Type 0) (xs : List X) → ((k : ℕ) → k < length xs → (x : X) → slice_get xs k ≡ Some x → P x) → All P xs
all_read P [] each = All-nil P
all_read P (y ∷ ys) each = All-from_get_or P (y ∷ ys) y (λ i lt. each i lt (get_or (y ∷ ys) i y) (slice_get-get_or (y ∷ ys) i y lt))

pub read_all : {X : Type 0} (P : X → Type 0) (xs : List X) (k : ℕ) (x : X) → All P xs → slice_get xs k ≡ Some x → P x
read_all P xs k x all e = subst P (get_or_from_slice_get xs k x x e) (All-get_or P xs k x (slice_get_within xs k x e) all)

-- ---- inputs that aren't signed

pub first_unsigned : (inputs : List TxIn) (i index : ℕ) (x : TxIn) → slice_get inputs i ≡ Some x → IsUnsigned x → ((k : ℕ) → k < i → IsUnsignedAt inputs k → ⊥) → index ≡ shown i → IsFirstUnsigned inputs index
first_unsigned inputs i index x e unsigned before is = record { place = i; first = least_at (IsUnsignedAt inputs) i (x, e, unsigned) before; index_is = is }

pub signed_there : (inputs : List TxIn) (i : ℕ) (x : TxIn) → slice_get inputs i ≡ Some x → (IsUnsigned x → ⊥) → IsUnsignedAt inputs i → ⊥
signed_there inputs i x e signed (y, e', unsigned) = signed (subst IsUnsigned (same_Some y x (sym e' ∙ e)) unsigned)

-- ---- inputs that are too heavy

pub first_heavier : (declared : List ℕ) (signed : Transaction) (i index most weight : ℕ) (x : TxIn) → slice_get declared i ≡ Some most → slice_get signed.inputs i ≡ Some x → weight ≡ true_weight_of signed.segwit x → most < weight
    → ((k : ℕ) → k < i → IsHeavierAt declared signed k → ⊥) → index ≡ shown i → IsFirstHeavier declared signed index most weight
first_heavier declared signed i index most weight x told there weighs more before is =
    let much : IsHeavierBy declared signed i most weight = record { input = x; told = told; stands = there; weighs = weighs; more = more } in
    record { place = i; first = least_at (IsHeavierAt declared signed) i (most, weight, much) before; index_is = is; by_so_much = much }

pub within_there : (declared : List ℕ) (signed : Transaction) (i most weight : ℕ) (x : TxIn) → slice_get declared i ≡ Some most → slice_get signed.inputs i ≡ Some x → weight ≡ true_weight_of signed.segwit x → weight ≤ most
    → IsHeavierAt declared signed i → ⊥
within_there declared signed i most weight x told there weighs le (m, w, much) =
    let one : m ≡ most = same_Some m most (sym much.told ∙ told) in
    let input : much.input ≡ x = same_Some much.input x (sym much.stands ∙ there) in
    let other : w ≡ weight = much.weighs ∙ ap (λ (y : TxIn). true_weight_of signed.segwit y) input ∙ sym weighs in
    let more = much.more in
    omega (arith, one, other, more, le)

pub all_within : (declared : List ℕ) (signed : Transaction) (i : ℕ) → length declared ≤ i → ((k : ℕ) → k < i → IsHeavierAt declared signed k → ⊥) → AreWithin declared signed
all_within declared signed i le before k most x told there =
    let lt : k < length declared = slice_get_within declared k most told in
    let never : most < true_weight_of signed.segwit x → ⊥ = λ more. before k (omega (arith, lt, le)) (most, true_weight_of signed.segwit x, record { input = x; told = told; stands = there; weighs = refl; more = more }) in
    omega (arith, never)
