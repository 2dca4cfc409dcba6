use Rattle.keyed_pay.proofs.paying.apart.Goals as goal
