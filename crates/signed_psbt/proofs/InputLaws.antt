-- Inputs made final, one after another.
use Rattle.std.proofs.Common.{◌≡◌, ◌∙◌, ◌+◌, ◌<◌, ◌≤◌, ℕ, List, [], ◌∷◌, ◌++◌, length, take, get_or, All, refl, sym, ap, subst, append_assoc, arith}
use Rattle.std.specs.List.{flat_map}
use Rattle.std.proofs.lemmas.List.{append-nil, length-append, take_all, take_more}
use Rattle.std.proofs.lemmas.List.Concat.{flat_map-cons}
use Rattle.std.proofs.lemmas.List.Elements.{All-head, All-nil, All-tail, All-push}
use Rattle.psbt_codec.specs.Psbt.{Pair, map_text}
use Rattle.tx_codec.specs.declared.tx.TxIn.{TxIn}
use Rattle.signed_psbt.specs.Maps.{ArePairs}
use Rattle.signed_psbt.specs.Signed.{AreFinal, CanBeFinal, IsFinal, IsFirstFault, IsInputFault}
use Rattle.signed_psbt.specs.declared.fault.SignedFault.{SignedFault}

-- the first inputs by the first maps, and the bytes of the other maps
pub record MadeSoFar (inputs : List TxIn) (maps : List (List Pair)) (behind : List ℕ) (i : ℕ) (made : List TxIn) (rest : List ℕ) : Type 0 where
  pub done : List (List Pair)
  pub left : List (List Pair)
  pub parts : maps ≡ done ++ left
  pub number : length done ≡ i
  pub are : All ArePairs left
  pub rest_is : rest ≡ flat_map map_text left ++ behind
  pub final : AreFinal (take i inputs) done made
  pub whole : All CanBeFinal done

pub made_none : (inputs : List TxIn) (maps : List (List Pair)) (behind rest : List ℕ) → All ArePairs maps → rest ≡ flat_map map_text maps ++ behind → MadeSoFar inputs maps behind 0 [] rest
made_none inputs maps behind rest are e = record { done = []; left = maps; parts = refl; number = refl; are = are; rest_is = e; final = tt; whole = All-nil CanBeFinal }

final_push : (is : List TxIn) (ms : List (List Pair)) (js : List TxIn) (i : TxIn) (m : List Pair) (j : TxIn) → AreFinal is ms js → IsFinal i m j → AreFinal (is ++ i ∷ []) (ms ++ m ∷ []) (js ++ j ∷ [])
final_push [] [] [] i m j h here = (here, tt)
final_push [] [] (x ∷ js) i m j h here = absurd h
final_push [] (y ∷ ms) js i m j h here = absurd h
final_push (x ∷ is) [] js i m j h here = absurd h
final_push (x ∷ is) (y ∷ ms) [] i m j h here = absurd h
final_push (x ∷ is) (y ∷ ms) (z ∷ js) i m j h here = (h.0, final_push is ms js i m j h.1 here)

-- the map that is due next
pub record NextMap (maps : List (List Pair)) (behind : List ℕ) (i : ℕ) (rest : List ℕ) : Type 0 where
  pub done : List (List Pair)
  pub pairs : List Pair
  pub left : List (List Pair)
  pub parts : maps ≡ done ++ pairs ∷ left
  pub number : length done ≡ i
  pub are : ArePairs pairs
  pub others : All ArePairs left
  pub rest_is : rest ≡ map_text pairs ++ (flat_map map_text left ++ behind)
  pub whole : All CanBeFinal done

next_by : (inputs : List TxIn) (maps : List (List Pair)) (behind : List ℕ) (i : ℕ) (made : List TxIn) (rest : List ℕ) → i < length inputs → length maps ≡ length inputs
    → (s : MadeSoFar inputs maps behind i made rest) → (left : List (List Pair)) → s.left ≡ left → (n : NextMap maps behind i rest) × (n.done ≡ s.done)
next_by inputs maps behind i made rest lt many s [] e =
    let all = ap (λ (l : List (List Pair)). length l) (s.parts ∙ ap (λ (l : List (List Pair)). s.done ++ l) e ∙ append-nil s.done) in
    let number = s.number in
    absurd (omega (arith, all, number, lt, many))
next_by inputs maps behind i made rest lt many s (pairs ∷ left) e =
    let are : All ArePairs (pairs ∷ left) = subst (λ (l : List (List Pair)). All ArePairs l) e s.are in
    let whole : rest ≡ flat_map map_text (pairs ∷ left) ++ behind = s.rest_is ∙ ap (λ (l : List (List Pair)). flat_map map_text l ++ behind) e in
    let split : rest ≡ map_text pairs ++ (flat_map map_text left ++ behind) = whole ∙ ap (λ (l : List ℕ). l ++ behind) (flat_map-cons map_text pairs left) ∙ append_assoc (map_text pairs) (flat_map map_text left) behind in (
      record {
        done = s.done;
        pairs = pairs;
        left = left;
        parts = s.parts ∙ ap (λ (l : List (List Pair)). s.done ++ l) e;
        number = s.number;
        are = All-head ArePairs pairs left are;
        others = All-tail ArePairs pairs left are;
        rest_is = split;
        whole = s.whole;
      },
      refl,
    )

pub next_map : (inputs : List TxIn) (maps : List (List Pair)) (behind : List ℕ) (i : ℕ) (made : List TxIn) (rest : List ℕ) → i < length inputs → length maps ≡ length inputs
    → (s : MadeSoFar inputs maps behind i made rest) → (n : NextMap maps behind i rest) × (n.done ≡ s.done)
next_map inputs maps behind i made rest lt many s = next_by inputs maps behind i made rest lt many s s.left refl

can_be : (i : TxIn) (m : List Pair) (j : TxIn) → IsFinal i m j → CanBeFinal m
can_be i m j h = (h.final, (j.witness, h.witness))

pub made_next : (inputs : List TxIn) (maps : List (List Pair)) (behind : List ℕ) (i : ℕ) (made : List TxIn) (rest new : List ℕ) (x j : TxIn) → i < length inputs → x ≡ get_or inputs i x
    → (s : MadeSoFar inputs maps behind i made rest) → (n : NextMap maps behind i rest) → n.done ≡ s.done → IsFinal x n.pairs j → new ≡ flat_map map_text n.left ++ behind → MadeSoFar inputs maps behind (i + 1) (made ++ j ∷ []) new
made_next inputs maps behind i made rest new x j lt is s n same here left =
    let longer : take (i + 1) inputs ≡ take i inputs ++ x ∷ [] = take_more inputs i x lt ∙ ap (λ (y : TxIn). take i inputs ++ y ∷ []) (sym is) in
    let before : AreFinal (take i inputs) n.done made = subst (λ (l : List (List Pair)). AreFinal (take i inputs) l made) (sym same) s.final in
    let pushed = final_push (take i inputs) n.done made x n.pairs j before here in
    let number = n.number in
    record {
      done = n.done ++ n.pairs ∷ [];
      left = n.left;
      parts = n.parts ∙ sym (append_assoc n.done (n.pairs ∷ []) n.left);
      number = omega (arith, number, length-append n.done (n.pairs ∷ []));
      are = n.others;
      rest_is = left;
      final = subst (λ (l : List TxIn). AreFinal l (n.done ++ n.pairs ∷ []) (made ++ j ∷ [])) (sym longer) pushed;
      whole = All-push CanBeFinal n.done n.pairs n.whole (can_be x n.pairs j here);
    }

pub made_all : (inputs : List TxIn) (maps : List (List Pair)) (behind : List ℕ) (i : ℕ) (made : List TxIn) (rest : List ℕ) → length inputs ≤ i → length maps ≡ length inputs → MadeSoFar inputs maps behind i made rest → AreFinal inputs maps made
made_all inputs maps behind i made rest le many s = by s.left refl
  where
    by : (left : List (List Pair)) → s.left ≡ left → AreFinal inputs maps made
    by [] e =
        let whole : maps ≡ s.done = s.parts ∙ ap (λ (l : List (List Pair)). s.done ++ l) e ∙ append-nil s.done in
        subst (λ (l : List TxIn). AreFinal l maps made) (take_all i inputs le) (subst (λ (l : List (List Pair)). AreFinal (take i inputs) l made) (sym whole) s.final)
    by (m ∷ ms) e =
        let all = ap (λ (l : List (List Pair)). length l) (s.parts ∙ ap (λ (l : List (List Pair)). s.done ++ l) e) in
        let number = s.number in
        absurd (omega (arith, all, number, le, many, length-append s.done (m ∷ ms)))

pub first_fault : (maps : List (List Pair)) (behind : List ℕ) (i : ℕ) (rest : List ℕ) (e : SignedFault) → (n : NextMap maps behind i rest) → IsInputFault i n.pairs e → IsFirstFault maps e
first_fault maps behind i rest e n wrong = record {
  before = n.done;
  pairs = n.pairs;
  behind = n.left;
  parts = n.parts;
  whole = n.whole;
  wrong = subst (λ (k : ℕ). IsInputFault k n.pairs e) (sym n.number) wrong;
}
