use Rattle.wide_check.proofs.WideStepLaws.{led-append, taken-append, taken_behind, taken_front, taken_is}
use Rattle.wide_check.proofs.trees.wide_letters_in_pieces.Goals as goal

pub returns : goal.returns
returns c = record {
  taken = λ p a s xs ys. (λ h. (taken_front p a s xs ys h, taken_behind p a s xs ys h), λ h. taken-append p a s xs ys h.0 h.1);
  leads = led-append;
  tokens = taken_is;
}
