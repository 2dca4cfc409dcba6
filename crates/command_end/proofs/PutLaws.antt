-- What is put in pieces, one behind the other.
use Rattle.std.proofs.Common.{◌≡◌, ◌∙◌, ◌≤◌, ◌<◌, ◌+◌, ◌++◌, ℕ, List, [], ◌∷◌, Result, Ok, Err, length, get_or, take, drop, inl, inr, refl, sym, ap, subst, arith, append_assoc}
use Rattle.std.specs.Prelude.{IsErrOf, OnErr, OnOk, ◌⊎◌}
use Rattle.std.specs.Fmt.{decimal}
use Rattle.std.specs.List.{flat_map}
use Rattle.std.proofs.lemmas.List.{append-nil, drop_more, flat_map_more, take_more, take-append-drop}
use Rattle.std.proofs.lemmas.Grind.{flat_map-append}
use Rattle.fund_shelf.proofs.Outside.{part_first, part_second, rose_earlier}
use Rattle.fund_shelf.specs.Causes.{CountsNeverFall, HasPart, Rose, SinkView}
use Rattle.fund_base.specs.declared.outpoint.OutPoint.{OutPoint}
use Rattle.fund_shelf.specs.declared.shelf.Fault.{Fault}
use Rattle.fund_shelf.specs.declared.shelf.Fault.TheVariants as kinds
use Rattle.command_end.specs.Coin.{coin_text, shown_hash}
use Rattle.command_end.specs.Lines.{GotLine}
use Rattle.command_end.specs.Puts.{IsCut, IsGathered, IsWhole}

-- ---- bytes that are put at once

pub bytes_whole : (told : Type 0) (bytes : List ℕ) (old new : SinkView) (r : Result Unit Fault) → (told → OnOk r (new.written ≡ old.written ++ bytes)) → OnOk r (new.faults ≡ old.faults) → OnOk r (new.refusals ≡ old.refusals)
    → OnOk r (IsWhole told bytes old new)
bytes_whole told bytes old new (Ok x) written faults refusals = record { written = written; faults = faults; refusals = refusals }
bytes_whole told bytes old new (Err e) written faults refusals = tt

pub bytes_cut : (told : Type 0) (bytes : List ℕ) (old new : SinkView) (r : Result Unit Fault) → (told → HasPart old.written bytes new.written) → old.faults ≤ new.faults → old.refusals ≤ new.refusals
    → (IsErrOf r kinds.Failed → Rose old.faults new.faults) → (IsErrOf r kinds.Memory → Rose old.refusals new.refusals) → OnErr r (IsCut told bytes old new)
bytes_cut told bytes old new (Ok x) part faults refusals failed short = tt
bytes_cut told bytes old new (Err kinds.Failed) part faults refusals failed short = record { part = part; rose = inl (failed refl); faults = faults; refusals = refusals }
bytes_cut told bytes old new (Err kinds.Memory) part faults refusals failed short = record { part = part; rose = inr (short refl); faults = faults; refusals = refusals }

-- ---- pieces, one behind the other

whole_on : (told : Type 0) (first rest : List ℕ) (old middle new : SinkView) → IsWhole told first old middle → IsWhole told rest middle new → IsWhole told (first ++ rest) old new
whole_on told first rest old middle new f h = record {
  written = λ t. h.written t ∙ ap (λ (l : List ℕ). l ++ rest) (f.written t) ∙ append_assoc old.written first rest;
  faults = h.faults ∙ f.faults;
  refusals = h.refusals ∙ f.refusals;
}

-- a first piece that wasn't put whole, which the rest is behind
pub cut_first : (told : Type 0) (first rest : List ℕ) (old new : SinkView) → IsCut told first old new → IsCut told (first ++ rest) old new
cut_first told first rest old new h = record {
  part = λ t. part_first old.written first rest new.written (h.part t);
  rose = h.rose;
  faults = h.faults;
  refusals = h.refusals;
}

rose_on : (old middle new : SinkView) → middle.faults ≡ old.faults → middle.refusals ≡ old.refusals → Rose middle.faults new.faults ⊎ Rose middle.refusals new.refusals → Rose old.faults new.faults ⊎ Rose old.refusals new.refusals
rose_on old middle new faults refusals (inl h) = inl (rose_earlier _ _ _ (omega (arith, faults)) h)
rose_on old middle new faults refusals (inr h) = inr (rose_earlier _ _ _ (omega (arith, refusals)) h)

-- a later piece that wasn't put whole
cut_later : (told : Type 0) (first rest : List ℕ) (old middle new : SinkView) → IsWhole told first old middle → IsCut told rest middle new → IsCut told (first ++ rest) old new
cut_later told first rest old middle new f h = record {
  part = λ t. part_second old.written first rest middle.written new.written (f.written t) (h.part t);
  rose = rose_on old middle new f.faults f.refusals h.rose;
  faults = omega (arith, f.faults, h.faults);
  refusals = omega (arith, f.refusals, h.refusals);
}

-- an error, whichever it is
pub on_err : (r : Result Unit Fault) (P : Type 0) → P → OnErr r P
on_err (Ok x) P h = tt
on_err (Err e) P h = h

-- ---- bytes that are gathered

-- held behind what was held
pub gathered_held : (told : Type 0) (bytes held held' : List ℕ) (v : SinkView) → held' ≡ held ++ bytes → IsGathered told bytes held held' v v
gathered_held told bytes held held' v is = record { sent = []; order = sym is; written = λ t. sym (append-nil v.written); faults = refl; refusals = refl }

-- nothing is gathered by doing nothing
pub gathered_none : (told : Type 0) (held : List ℕ) (v : SinkView) → IsGathered told [] held held v v
gathered_none told held v = gathered_held told [] held held v (sym (append-nil held))

-- held alone, behind a put of what was held
pub gathered_put : (told : Type 0) (bytes held held' : List ℕ) (old new : SinkView) → held' ≡ bytes → IsWhole told held old new → IsGathered told bytes held held' old new
gathered_put told bytes held held' old new is h = record { sent = held; order = ap (λ (l : List ℕ). held ++ l) (sym is); written = h.written; faults = h.faults; refusals = h.refusals }

pub gathered_on : (told : Type 0) (first rest a b c : List ℕ) (old middle new : SinkView) → IsGathered told first a b old middle → IsGathered told rest b c middle new → IsGathered told (first ++ rest) a c old new
gathered_on told first rest a b c old middle new f h = record {
  sent = f.sent ++ h.sent;
  order = sym (append_assoc a first rest)
      ∙ ap (λ (l : List ℕ). l ++ rest) f.order
      ∙ append_assoc f.sent b rest
      ∙ ap (λ (l : List ℕ). f.sent ++ l) h.order
      ∙ sym (append_assoc f.sent h.sent c);
  written = λ t. h.written t ∙ ap (λ (l : List ℕ). l ++ h.sent) (f.written t) ∙ append_assoc old.written f.sent h.sent;
  faults = h.faults ∙ f.faults;
  refusals = h.refusals ∙ f.refusals;
}

-- what went to the sink
sent_whole : (told : Type 0) (bytes a b : List ℕ) (old new : SinkView) (f : IsGathered told bytes a b old new) → IsWhole told f.sent old new
sent_whole told bytes a b old new f = record { written = f.written; faults = f.faults; refusals = f.refusals }

-- a first piece that wasn't gathered whole, which the rest is behind
pub lost_first : (told : Type 0) (first rest a : List ℕ) (old new : SinkView) → IsCut told (a ++ first) old new → IsCut told (a ++ (first ++ rest)) old new
lost_first told first rest a old new h = subst (λ (bytes : List ℕ). IsCut told bytes old new) (append_assoc a first rest) (cut_first told (a ++ first) rest old new h)

-- a later piece that wasn't gathered whole
pub lost_later : (told : Type 0) (first rest a b : List ℕ) (old middle new : SinkView) → IsGathered told first a b old middle → IsCut told (b ++ rest) middle new → IsCut told (a ++ (first ++ rest)) old new
lost_later told first rest a b old middle new f h =
    let all : f.sent ++ (b ++ rest) ≡ a ++ (first ++ rest) = sym (append_assoc f.sent b rest) ∙ ap (λ (l : List ℕ). l ++ rest) (sym f.order) ∙ append_assoc a first rest in
    subst (λ (bytes : List ℕ). IsCut told bytes old new) all (cut_later told f.sent (b ++ rest) old middle new (sent_whole told first a b old middle f) h)

-- what is held is put at the end
pub whole_end : (told : Type 0) (bytes held : List ℕ) (old middle new : SinkView) → IsGathered told bytes [] held old middle → IsWhole told held middle new → IsWhole told bytes old new
whole_end told bytes held old middle new f h =
    subst (λ (all : List ℕ). IsWhole told all old new) (sym f.order) (whole_on told f.sent held old middle new (sent_whole told bytes [] held old middle f) h)

pub cut_end : (told : Type 0) (bytes held : List ℕ) (old middle new : SinkView) → IsGathered told bytes [] held old middle → IsCut told held middle new → IsCut told bytes old new
cut_end told bytes held old middle new f h =
    subst (λ (all : List ℕ). IsCut told all old new) (sym f.order) (cut_later told f.sent held old middle new (sent_whole told bytes [] held old middle f) h)

-- ---- lists

-- one byte more
pub byte_next : (told : Type 0) (xs : List ℕ) (i d : ℕ) (a b c : List ℕ) (old middle new : SinkView) → i < length xs → IsGathered told (take i xs) a b old middle → IsGathered told (get_or xs i d ∷ []) b c middle new
    → IsGathered told (take (i + 1) xs) a c old new
byte_next told xs i d a b c old middle new lt before h =
    subst (λ (bytes : List ℕ). IsGathered told bytes a c old new) (sym (take_more xs i d lt)) (gathered_on told (take i xs) (get_or xs i d ∷ []) a b c old middle new before h)

-- a byte that wasn't gathered
pub byte_lost : (told : Type 0) (xs : List ℕ) (i d : ℕ) (a b : List ℕ) (old middle new : SinkView) → i < length xs → IsGathered told (take i xs) a b old middle → IsCut told (b ++ (get_or xs i d ∷ [])) middle new
    → IsCut told (a ++ xs) old new
byte_lost told xs i d a b old middle new lt before h =
    let x : ℕ = get_or xs i d in
    let parts : xs ≡ take i xs ++ (x ∷ drop (i + 1) xs) = sym (take-append-drop i xs) ∙ ap (λ l. take i xs ++ l) (drop_more xs i d lt) in
    subst (λ (bytes : List ℕ). IsCut told (a ++ bytes) old new) (sym parts)
    (lost_later told (take i xs) (x ∷ drop (i + 1) xs) a b old middle new before (lost_first told (x ∷ []) (drop (i + 1) xs) b middle new h))

-- one piece more of a list
pub gathered_next : {X : Type 0} (told : Type 0) (f : X → List ℕ) (xs : List X) (i : ℕ) (x : X) (a b c : List ℕ) (old middle new : SinkView) → i < length xs → x ≡ get_or xs i x → IsGathered told (flat_map f (take i xs)) a b old middle → IsGathered told (f x) b c middle new
    → IsGathered told (flat_map f (take (i + 1) xs)) a c old new
gathered_next told f xs i x a b c old middle new lt is before h =
    let one : take (i + 1) xs ≡ take i xs ++ (x ∷ []) = take_more xs i x lt ∙ ap (λ v. take i xs ++ v ∷ []) (sym is) in
    let all : flat_map f (take (i + 1) xs) ≡ flat_map f (take i xs) ++ f x = ap (λ l. flat_map f l) one ∙ sym (flat_map_more f [] (take i xs) x) in
    subst (λ (bytes : List ℕ). IsGathered told bytes a c old new) (sym all) (gathered_on told (flat_map f (take i xs)) (f x) a b c old middle new before h)

-- a piece of a list that wasn't gathered whole
pub lost_next : {X : Type 0} (told : Type 0) (f : X → List ℕ) (xs : List X) (i : ℕ) (x : X) (a b : List ℕ) (old middle new : SinkView) → i < length xs → x ≡ get_or xs i x → IsGathered told (flat_map f (take i xs)) a b old middle → IsCut told (b ++ f x) middle new
    → IsCut told (a ++ flat_map f xs) old new
lost_next told f xs i x a b old middle new lt is before h =
    let behind : drop i xs ≡ x ∷ drop (i + 1) xs = drop_more xs i x lt ∙ ap (λ v. v ∷ drop (i + 1) xs) (sym is) in
    let parts : xs ≡ take i xs ++ (x ∷ drop (i + 1) xs) = sym (take-append-drop i xs) ∙ ap (λ l. take i xs ++ l) behind in
    let rest : List ℕ = flat_map f (drop (i + 1) xs) in
    let all : flat_map f xs ≡ flat_map f (take i xs) ++ (f x ++ rest) = ap (λ l. flat_map f l) parts ∙ flat_map-append f (take i xs) (x ∷ drop (i + 1) xs) in
    subst (λ (bytes : List ℕ). IsCut told (a ++ bytes) old new) (sym all)
    (lost_later told (flat_map f (take i xs)) (f x ++ rest) a b old middle new before (lost_first told (f x) rest b middle new h))

-- ---- a coin

pub coin_parts : (word : List ℕ) (coin : OutPoint) → (word ++ shown_hash coin.txid) ++ (58 ∷ decimal coin.index) ≡ word ++ coin_text coin
unfolding coin_text
coin_parts word coin = append_assoc word (shown_hash coin.txid) (58 ∷ decimal coin.index)

-- ---- a line

pub got_line : (told : Type 0) (line : List ℕ) (old new : SinkView) (r : Result Unit Fault) → OnOk r (IsWhole told line old new) → OnErr r (IsCut told line old new) → told → GotLine line old new
got_line told line old new (Ok x) whole cut t = inl (whole.written t)
got_line told line old new (Err e) whole cut t = inr (cut.rose, cut.part t)

pub line_counts : (told : Type 0) (line : List ℕ) (old new : SinkView) (r : Result Unit Fault) → OnOk r (IsWhole told line old new) → OnErr r (IsCut told line old new) → CountsNeverFall old new
line_counts told line old new (Ok x) whole cut = record { faults = omega (arith, whole.faults); refusals = omega (arith, whole.refusals) }
line_counts told line old new (Err e) whole cut = record { faults = cut.faults; refusals = cut.refusals }
