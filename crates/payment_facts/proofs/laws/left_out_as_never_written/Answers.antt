use Rattle.payment_facts.proofs.LeftSteps.{book_left, left_exact, sound_left, wallet_left}
use Rattle.payment_facts.proofs.laws.left_out_as_never_written.Goals as goal

pub returns-clause-wallet : goal.returns-clause-wallet
returns-clause-wallet c = λ w gone rules. wallet_left gone w rules

pub returns-clause-book : goal.returns-clause-book
returns-clause-book c = λ w h gone book. book_left gone w h book

pub returns-clause-sound : goal.returns-clause-sound
returns-clause-sound c = λ h gone sound. sound_left gone h sound

pub returns-clause-exact : goal.returns-clause-exact
returns-clause-exact c = left_exact
