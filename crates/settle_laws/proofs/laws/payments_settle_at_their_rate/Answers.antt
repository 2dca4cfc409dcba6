use Rattle.settle_laws.proofs.SettledLaws.{never_below, never_heavy, settles_by}
use Rattle.settle_laws.proofs.laws.payments_settle_at_their_rate.Goals as goal

pub returns : goal.returns
returns c = record {
  settles = λ p f spent declared signed a of is. (λ s. (s.same, s.all_signed, s.within), λ h. settles_by p f spent declared signed a of is h.0 h.1 h.2);
  light = never_heavy;
  rate = never_below;
}
